use Rattle.event_journal.proofs.laws.states_join.Goals as goal
use Rattle.event_journal.proofs.Runs as runs

pub returns : goal.returns
returns g c = runs.after-append
