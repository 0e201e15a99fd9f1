-- The tree changed at the line.
use Rattle.dir_slice.proofs.Maps.{insert-tree}
use Rattle.dir_slice.proofs.homes.Homes.put.Goals as goal

pub returns-clause-ok : goal.returns-clause-ok
returns-clause-ok c = rw (← c.self.view_is) (insert-tree c.self.inside.known c.insert.new.self c.args.line c.args.home c.in_ok-insert.ensures.updates)
