use Rattle.elf_image.proofs.LawLemmas.{overlap_is_common}
use Rattle.elf_image.proofs.laws.overlap_is_common_address.Goals as goal

pub returns : goal.returns
returns c = overlap_is_common
