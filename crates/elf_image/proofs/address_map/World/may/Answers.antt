use Rattle.std.proofs.Common.{sym}
use Rattle.elf_image.proofs.Stacks.{granted_all, fewer_free}
use Rattle.elf_image.proofs.address_map.World.may.Goals as goal

pub returns-then-size-free_from : goal.returns-then-size-free_from
returns-then-size-free_from c =
    sym (granted_all c.args.self.now c.args.right c.args.addr c.args.size
    (fewer_free c.args.self.now c.args.addr c.args.size c.free_from.result c.if-size-free_from.true c.free_from.ensures))
