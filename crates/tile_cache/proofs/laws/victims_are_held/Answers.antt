-- Each law is a lemma.
use Rattle.tile_cache.proofs.CopyLemmas.{victim_is_another, victim_is_held}
use Rattle.tile_cache.proofs.laws.victims_are_held.Goals as goal

pub returns-clause-another : goal.returns-clause-another
returns-clause-another c = victim_is_another

pub returns-clause-held : goal.returns-clause-held
returns-clause-held c = victim_is_held
