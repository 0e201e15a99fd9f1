use Rattle.std.proofs.Common.{◌+◌, ◌^◌, ◌≤◌, ◌<◌, ◌∙◌, sym, arith}
use Rattle.elf_image.proofs.Grants.{range_granted}
use Rattle.elf_image.proofs.Ranges.{passes_none}
use Rattle.elf_image.proofs.address_map.World.may_in_segments.Goals as goal

pub returns-in_default : goal.returns-in_default
returns-in_default c =
    let inside : c.args.addr < 2 ^ 64 = omega arith in
    let passes : 2 ^ 64 ≤ c.args.addr + c.args.size = omega arith in
    sym (rw (← c.self.view_is) (passes_none _ _ c.args.right c.args.addr c.args.size c.self.invariant.laid_out inside passes))

pub returns-then-grants_range : goal.returns-then-grants_range
returns-then-grants_range c =
    sym (rw (← c.self.view_is) (range_granted (record { image = c.self.inside.image; config = c.self.inside.config }) c.args.right c.args.addr c.args.size
    (sym c.grants_range.ensures ∙ c.if-grants_range.true)))
