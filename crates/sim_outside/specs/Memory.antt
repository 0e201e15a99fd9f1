-- Files and a stream that lie in memory, this simulator's own.
use Rattle.std.specs.Prelude.{◌≡◌, ◌+◌, ◌==◌, ℕ, Bool, true, false, if◌then◌else◌, List, [], Option, Some, None, Result, Ok, Err, String, Vec, string_bytes, bytes_eq, option_map, unwrap_or, take, length, find, min, nat_le}
use Rattle.std.specs.List.{list_any}
use Rattle.std.specs.declared.alloc.Global.{Global}
use Rattle.sim_outside.specs.declared.reading.FileAnswer.{FileAnswer}
use Rattle.sim_outside.specs.declared.reading.FileAnswer.TheVariants.{Failed, TooLong, NoMemory}
use Rattle.sim_outside.specs.declared.writing.WriteAnswer.{WriteAnswer}
use Rattle.sim_outside.specs.declared.writing.WriteAnswer.TheVariants.{Failed as WriteFailed, NoMemory as NoWriteMemory}
use Rattle.sim_outside.specs.declared.printing.Failed.{Failed as StreamFailed}
use Rattle.sim_outside.specs.Fault.{raised}
use Rattle.sim_outside.specs.Sink.{is_fault}
use Rattle.sim_outside.specs.Told.{with_file}

-- what a name holds: the first pair of that name counts
abbrev pub held : List (String Global × Vec ℕ Global) → List ℕ → Option (List ℕ)
held files name = option_map (λ file. file.1.items) (find (λ file. bytes_eq (string_bytes file.0) name) files)

-- a count of faults that is the same for every name
abbrev pub of_every_name : ℕ → List ℕ → ℕ
of_every_name count name = count

-- whether the call of this number is to fail
abbrev pub is_to_fail : List ℕ → ℕ → Bool
is_to_fail fail call = list_any (λ k. k == call) fail

-- what a reading answers where memory is left: whether it is to fail, what the name holds, and the limit
abbrev pub reading_of : Bool → Option (List ℕ) → ℕ → Result (Unit {0}) FileAnswer
reading_of true contents limit = Err Failed
reading_of false None limit = Err Failed
reading_of false (Some contents) limit = if nat_le (length contents) limit then Ok tt else Err TooLong

-- an answer is the one that is wanted, or memory ran out
abbrev pub IsReading : Result (Unit {0}) FileAnswer → Result (Unit {0}) FileAnswer → Type 0
IsReading (Err NoMemory) wanted = Unit {0}
IsReading answer wanted = answer ≡ wanted

-- the bytes that a reading leaves: those of the file, and of a file that is too long one more than the limit
abbrev pub bytes_read : Result (Unit {0}) FileAnswer → Option (List ℕ) → ℕ → List ℕ
bytes_read (Ok _) contents limit = unwrap_or contents []
bytes_read (Err TooLong) contents limit = take (limit + 1) (unwrap_or contents [])
bytes_read (Err _) contents limit = []

-- how many calls were made after a reading: one without memory isn't counted
abbrev pub calls_after_read : Result (Unit {0}) FileAnswer → ℕ → ℕ
calls_after_read (Err NoMemory) calls = calls
calls_after_read answer calls = raised calls

-- how many faults of reading there were
abbrev pub read_faults_after : Result (Unit {0}) FileAnswer → ℕ → ℕ
read_faults_after (Err Failed) faults = raised faults
read_faults_after answer faults = faults

-- a writing fails exactly where it is to fail, unless memory ran out
abbrev pub IsWriting : Result (Unit {0}) WriteAnswer → Bool → Type 0
IsWriting (Ok _) fails = fails ≡ false
IsWriting (Err WriteFailed) fails = fails ≡ true
IsWriting (Err NoWriteMemory) fails = Unit {0}

-- what the names hold after a writing: only one that went well changes that
abbrev pub held_after : Result (Unit {0}) WriteAnswer → (List ℕ → Option (List ℕ)) → List ℕ → List ℕ → List ℕ → Option (List ℕ)
held_after (Ok _) held name bytes = with_file held name bytes
held_after (Err _) held name bytes = held

-- how many calls were made after a writing: one without memory isn't counted
abbrev pub calls_after_write : Result (Unit {0}) WriteAnswer → ℕ → ℕ
calls_after_write (Err NoWriteMemory) calls = calls
calls_after_write answer calls = raised calls

-- how many faults of writing there were
abbrev pub write_faults_after : Result (Unit {0}) WriteAnswer → ℕ → ℕ
write_faults_after (Err WriteFailed) faults = raised faults
write_faults_after answer faults = faults

-- how many bytes of a piece a call takes: as many as the most of a call and the room that is left allow
abbrev pub portion : List ℕ → ℕ → ℕ → ℕ
portion piece most left = min (length piece) (min most left)

-- how many faults there were
abbrev pub faults_after : Result ℕ StreamFailed → List ℕ → ℕ → ℕ
faults_after answer piece faults = if is_fault answer piece then raised faults else faults
