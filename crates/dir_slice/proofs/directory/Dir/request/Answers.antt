-- The request is made with what it is for.
use Rattle.std.proofs.Common.{◌∙◌}
use Rattle.dir_slice.specs.Directory.{Slice}
use Rattle.dir_slice.proofs.Slices.{requested_so}
use Rattle.dir_slice.proofs.directory.Dir.request.Goals as goal

pub returns : goal.returns
returns c =
    let between : Slice = record { tile = c.self.inside.tile; tiles = c.self.inside.tiles; homes = c.self.inside.homes; spent = c.self.inside.spent } in
    let begun = c.in_ok-begin.ensures.ok in
    requested_so c.args.config.now c.args.self.now between c.request.new.self c.args.line c.args.from c.want_of-want.result _ c.args.out.now.items c.request.new.out.items begun.0
    (c.self.view_is ∙ begun.1) c.want_of-want.ensures c.in_ok-request.ensures.made
