-- Each law is a lemma.
use Rattle.tile_cache.proofs.CopyLemmas.{downgrade_shows, drop_shows, empty_shows, front_shows, touch_hides, write_shows}
use Rattle.tile_cache.proofs.laws.changes_show.Goals as goal

pub returns-clause-empty : goal.returns-clause-empty
returns-clause-empty c = empty_shows

pub returns-clause-front : goal.returns-clause-front
returns-clause-front c = front_shows

pub returns-clause-dropped : goal.returns-clause-dropped
returns-clause-dropped c = drop_shows

pub returns-clause-touched : goal.returns-clause-touched
returns-clause-touched c = touch_hides

pub returns-clause-written : goal.returns-clause-written
returns-clause-written c = write_shows

pub returns-clause-downgraded : goal.returns-clause-downgraded
returns-clause-downgraded c = downgrade_shows
