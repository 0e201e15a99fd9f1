-- Each law is a lemma.
use Rattle.tile_cache.proofs.CopyLemmas.{absent_shows, held_shows}
use Rattle.tile_cache.proofs.laws.answers_tell.Goals as goal

pub returns-clause-held : goal.returns-clause-held
returns-clause-held c = held_shows

pub returns-clause-not_held : goal.returns-clause-not_held
returns-clause-not_held c = absent_shows
