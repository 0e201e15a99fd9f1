use Rattle.event_journal.proofs.laws.runs_split.Goals as goal
use Rattle.event_journal.proofs.Runs as runs

pub returns : goal.returns
returns g c = runs.run-split
