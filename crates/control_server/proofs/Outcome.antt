-- What holds if a call had the memory that it took.
use Rattle.std.proofs.Common.{Result, Ok, Err, IfOk, OnOk}
use Rattle.sim_base.specs.declared.memory.NoMemory.{NoMemory}
use Rattle.elf_image.specs.Layout.{Setup}

pub if_ok : (r : Result (Unit {0}) NoMemory) (P Q : Type 0) → OnOk r P → (P → Q) → IfOk r (λ done. Q)
if_ok (Ok done) P Q h f = f h
if_ok (Err e) P Q h f = tt

pub if_done : (r : Result (Unit {0}) NoMemory) (P Q : Type 0) → IfOk r (λ done. P) → (P → Q) → IfOk r (λ done. Q)
if_done (Ok done) P Q h f = f h
if_done (Err e) P Q h f = tt

-- in a world
pub at_world : (w : Setup) (P : Setup → Type 0) (r : Result (Unit {0}) NoMemory) → IfOk r (λ done. (v : Setup) → P v) → IfOk r (λ done. P w)
at_world w P (Ok done) h = h w
at_world w P (Err e) h = tt
