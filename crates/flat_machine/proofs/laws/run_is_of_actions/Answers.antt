use Rattle.flat_machine.proofs.ActsLemmas.{run_is_of_actions}
use Rattle.flat_machine.proofs.laws.run_is_of_actions.Goals as goal

pub returns : goal.returns
returns c = run_is_of_actions
