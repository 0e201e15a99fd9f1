use Rattle.dir_slice.proofs.Lines.{one_line_changes}
use Rattle.dir_slice.proofs.laws.one_line_changes.Goals as goal

pub returns : goal.returns
returns c = one_line_changes
