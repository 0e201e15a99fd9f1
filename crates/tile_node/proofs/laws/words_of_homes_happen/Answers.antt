-- Each law is a lemma.
use Rattle.tile_node.proofs.OneLineWords.{downs_happen, others_leave}
use Rattle.tile_node.proofs.laws.words_of_homes_happen.Goals as goal

pub returns-clause-here : goal.returns-clause-here
returns-clause-here c = downs_happen

pub returns-clause-elsewhere : goal.returns-clause-elsewhere
returns-clause-elsewhere c = others_leave
