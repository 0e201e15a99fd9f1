use Rattle.std.proofs.Common.{◌∙◌}
use Rattle.elf_image.proofs.Lookup.{instruction_is, instruction_row}
use Rattle.elf_image.proofs.ValidRows.{lent_valid}
use Rattle.elf_image.proofs.address_map.World.listed.Goals as goal

pub returns : goal.returns
returns c =
    let value = c.listed.ensures.value ∙ rw (← c.self.view_is) (instruction_is _ c.args.pc c.self.invariant.laid_out.program) in
    record { value = value; valid = lent_valid c.listed.result _ (value ∙ instruction_row c.args.self.now c.args.pc) }
