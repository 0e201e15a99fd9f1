use Rattle.event_journal.proofs.laws.runs_stay_within.Goals as goal
use Rattle.event_journal.proofs.Runs as runs

pub returns : goal.returns
returns g c = runs.stays_within
