use Rattle.journal_file.proofs.laws.read_is_written.Goals as goal
use Rattle.journal_file.proofs.Readings as readings

pub returns : goal.returns
returns c = readings.read_is_written
