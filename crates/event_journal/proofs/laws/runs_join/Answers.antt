use Rattle.event_journal.proofs.laws.runs_join.Goals as goal
use Rattle.event_journal.proofs.Runs as runs

pub returns : goal.returns
returns g c = runs.run-append
