use Rattle.elf_image.proofs.LawLemmas.{heap_past_segments}
use Rattle.elf_image.proofs.laws.heap_starts_past_segments.Goals as goal

pub returns : goal.returns
returns c = heap_past_segments
