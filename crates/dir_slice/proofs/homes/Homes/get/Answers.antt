-- The map has what the tree has.
use Rattle.std.proofs.Common.{sym, ◌∙◌}
use Rattle.dir_slice.proofs.Maps.{get-tree}
use Rattle.dir_slice.proofs.homes.Homes.get.Goals as goal

pub returns : goal.returns
returns c = rw (← c.self.view_is) (c.get.ensures.value ∙ sym (get-tree c.self.inside.known c.args.line))
