use Rattle.std.proofs.Common.{refl}
use Rattle.elf_image.proofs.address_map.World.start_byte.Goals as goal

pub returns-in-Some : goal.returns-in-Some
returns-in-Some c = rw (← c.self.view_is, ← c.in-Some.ensures.value) c.start_byte.ensures

pub returns-in-None : goal.returns-in-None
returns-in-None c = rw (← c.self.view_is, ← c.in-None.ensures.value) refl
