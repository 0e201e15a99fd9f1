-- The memory has at an address what its first region with that address has.
use Rattle.flat_machine.proofs.MemoryLemmas.{get-memory_of}
use Rattle.flat_machine.proofs.regions.Memory.byte.Goals as goal

pub returns : goal.returns
returns c = rw (← c.self.view_is, get-memory_of, ← c.as_slice.ensures.value) c.byte_in.ensures
