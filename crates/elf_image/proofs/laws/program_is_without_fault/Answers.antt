use Rattle.elf_image.proofs.LawLemmas.{program_without_fault}
use Rattle.elf_image.proofs.laws.program_is_without_fault.Goals as goal

pub returns : goal.returns
returns c = program_without_fault
