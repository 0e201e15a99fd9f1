use Rattle.elf_image.proofs.Programs.{no_fault, some_fault}
use Rattle.elf_image.proofs.faults.program_fault.Goals as goal

pub returns : goal.returns
returns c = record {
  value = c.first_program_fault.ensures;
  program = no_fault _ c.first_program_fault.result c.first_program_fault.ensures;
  fault = some_fault _ c.first_program_fault.result c.first_program_fault.ensures;
}
