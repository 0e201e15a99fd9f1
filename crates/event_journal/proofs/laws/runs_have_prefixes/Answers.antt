use Rattle.event_journal.proofs.laws.runs_have_prefixes.Goals as goal
use Rattle.event_journal.proofs.Runs as runs

pub returns : goal.returns
returns g c = runs.run-take
