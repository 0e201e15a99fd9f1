-- Each law is a lemma.
use Rattle.tile_cache.proofs.ChangeLemmas.{empty_has_size, empty_is_cache, changes_keep_size, changes_keep_cache}
use Rattle.tile_cache.proofs.laws.changes_keep.Goals as goal

pub returns-clause-empty_size : goal.returns-clause-empty_size
returns-clause-empty_size c = empty_has_size

pub returns-clause-empty_cache : goal.returns-clause-empty_cache
returns-clause-empty_cache c = empty_is_cache

pub returns-clause-size : goal.returns-clause-size
returns-clause-size c = changes_keep_size

pub returns-clause-cache : goal.returns-clause-cache
returns-clause-cache c = changes_keep_cache
