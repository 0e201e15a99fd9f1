use Rattle.std.proofs.Common.{◌%◌, ◌≡◌, ◌∙◌, arith}
use Rattle.elf_image.proofs.Lookup.{program_found}
use Rattle.elf_image.proofs.program.Image.listed.Goals as goal

pub returns : goal.returns
returns c =
    let aligned : c.args.pc % 4 ≡ 0 = omega arith in
    record { value = c.first_found.ensures ∙ rw (← c.self.view_is, c.as_slice.ensures.value) (program_found _ _ c.args.pc c.self.invariant aligned) }
