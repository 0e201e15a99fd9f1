-- The stages of a call: what is read, in order, and what ends the call. A stage gives something, or ends the call by an
-- outcome. This simulator's own.
use Rattle.std.specs.Prelude.{◌≡◌, ◌⊎◌, ℕ, List, Option, Some, None, Result, Ok, Err}
use Rattle.sim_outside.specs.Fault.{RisesOnce}
use Rattle.sim_outside.specs.Told.{Contents, Holds}
use Rattle.sim_top.specs.declared.outcomes.Outcome.{Outcome}
use Rattle.sim_top.specs.declared.outcomes.Outcome.TheVariants.{ReadFault}

-- what is read: what the names hold where this is told, and each name's count of faults of reading before and after
pub record Reads : Type 0 where
  pub holds : Contents
  pub before : List ℕ → ℕ
  pub after : List ℕ → ℕ

abbrev pub reads : Contents → (List ℕ → ℕ) → (List ℕ → ℕ) → Reads
reads holds before after = record { holds = holds; before = before; after = after }

-- no reading failed
abbrev pub ReadsWell : Reads → Type 0
ReadsWell r = r.after ≡ r.before

-- what a stage answers of what is read: what it gives, or the outcome that ends the call
abbrev pub Stage : Type 0 → Type 1
Stage A = Reads → Result A Outcome → Type 0

-- nothing is read; what is given has this property, or the outcome has that one
abbrev pub made : {A : Type 0} → (A → Type 0) → (Outcome → Type 0) → Stage A
made Gives Ends r (Ok a) = ReadsWell r × Gives a
made Gives Ends r (Err outcome) = ReadsWell r × Ends outcome

-- nothing is read, and this is the answer: it is given, or what was in hand is taken or refused
abbrev pub answered : {A : Type 0} → Result A Outcome → Stage A
answered answer r answer' = ReadsWell r × (answer' ≡ answer)

abbrev pub given : {A : Type 0} → A → Stage A
given a = answered (Ok a)

-- where it is told what files hold, the file of this name is there, and its bytes say this
abbrev pub FileSays : {A : Type 0} → Contents → List ℕ → (List ℕ → A) → A → Type 0
FileSays holds name says said = (file : List ℕ) × Holds holds name file × (says file ≡ said)

-- the file of this name is read, and taken or refused by what its bytes say; or reading it failed, which was counted once
abbrev pub in_file : {A : Type 0} → List ℕ → (List ℕ → Result A Outcome) → Stage A
in_file name says r answer =
    (RisesOnce r.before r.after name × (answer ≡ Err ReadFault)) ⊎ (ReadsWell r × FileSays r.holds name says answer)

-- the file of this name, where one is named; else the other stage
abbrev pub in_file_or : {A : Type 0} → Option (List ℕ) → (List ℕ → Result A Outcome) → Stage A → Stage A
in_file_or None says other = other
in_file_or (Some name) says other = in_file name says

-- one stage, and then the next, which has what the first gave. Where the first ends the call, nothing after it is read
abbrev pub and_then : {A B : Type 0} → Stage A → (A → Stage B) → Stage B
and_then {A} first next r answer =
    ((outcome : Outcome) × first r (Err outcome) × (answer ≡ Err outcome))
    ⊎ ((a : A) × (between : List ℕ → ℕ) × first (record r { after = between }) (Ok a) × next a (record r { before = between }) answer)

-- what is refused ends the call by an outcome that says why
abbrev pub refused : {A E : Type 0} → (E → Outcome) → Result A E → Result A Outcome
refused why (Ok a) = Ok a
refused why (Err e) = Err (why e)
