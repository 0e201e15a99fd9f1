-- What a reading and a writing of a whole file answer, this simulator's own.
use Rattle.std.specs.Prelude.{◌≡◌, ◌≤◌, ◌<◌, ℕ, List, [], Result, Ok, Err, length}
use Rattle.sim_outside.specs.declared.reading.FileAnswer.{FileAnswer}
use Rattle.sim_outside.specs.declared.reading.FileAnswer.TheVariants.{Failed, TooLong, NoMemory}
use Rattle.sim_outside.specs.declared.writing.WriteAnswer.{WriteAnswer}
use Rattle.sim_outside.specs.declared.writing.WriteAnswer.TheVariants.{Failed as WriteFailed, NoMemory as NoWriteMemory}
use Rattle.sim_outside.specs.Fault.{Rose, RisesOnce}
use Rattle.sim_outside.specs.Told.{Contents, Holds, HoldsFront, Wrote, HoldsAllBut}

-- an answer of a reading, with what is told of the contents, the name, the limit, the bytes read, and each name's
-- count of faults of reading before and now. Only a failure is counted, and it is counted once
abbrev pub ReadAll : Result (Unit {0}) FileAnswer → Contents → List ℕ → ℕ → List ℕ → (List ℕ → ℕ) → (List ℕ → ℕ) → Type 0
ReadAll (Ok _) contents name limit bytes before now = (length bytes ≤ limit) × Holds contents name bytes × (now ≡ before)
ReadAll (Err TooLong) contents name limit bytes before now = (limit < length bytes) × HoldsFront contents name bytes × (now ≡ before)
ReadAll (Err Failed) contents name limit bytes before now = RisesOnce before now name
ReadAll (Err NoMemory) contents name limit bytes before now = (bytes ≡ []) × (now ≡ before)

-- an answer of a writing, with what is told of the contents before and after, the name, the bytes, and each name's
-- count of faults of writing before and now. Only a failure is counted, and then that name holds unknown bytes
abbrev pub WriteAll : Result (Unit {0}) WriteAnswer → Contents → Contents → List ℕ → List ℕ → (List ℕ → ℕ) → (List ℕ → ℕ) → Type 0
WriteAll (Ok _) contents after name bytes before now = Wrote contents after name bytes × (now ≡ before)
WriteAll (Err WriteFailed) contents after name bytes before now = HoldsAllBut contents after name × Rose (before name) (now name)
WriteAll (Err NoWriteMemory) contents after name bytes before now = (after ≡ contents) × (now ≡ before)
