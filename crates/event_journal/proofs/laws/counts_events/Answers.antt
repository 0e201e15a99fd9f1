use Rattle.event_journal.proofs.laws.counts_events.Goals as goal
use Rattle.event_journal.proofs.Runs as runs

pub returns : goal.returns
returns g c = runs.counts
