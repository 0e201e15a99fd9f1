use Rattle.journal_file.proofs.laws.written_is_read.Goals as goal
use Rattle.journal_file.proofs.Readings as readings

pub returns : goal.returns
returns c = readings.written_is_read
