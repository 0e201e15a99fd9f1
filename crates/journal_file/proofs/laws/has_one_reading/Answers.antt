use Rattle.journal_file.proofs.laws.has_one_reading.Goals as goal
use Rattle.journal_file.proofs.Readings as readings

pub returns : goal.returns
returns c = readings.has_one_reading
