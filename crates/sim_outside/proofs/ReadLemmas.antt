-- What a reading in memory answers, in the words of all files.
use Rattle.std.proofs.Common.{◌≡◌, ℕ, ◌+◌, ◌<◌, ◌≤◌, Bool, true, false, leb, List, ◌++◌, length, drop, refl, sym, ap, ◌∙◌, inl, inr, arith}
use Rattle.std.specs.Prelude.{Option, Some, None, Result, Ok, Err, if◌then◌else◌}
use Rattle.std.proofs.lemmas.List.{take-append-drop, length-take-le}
use Rattle.std.proofs.lemmas.Bool.Decides.{leb_tells}
use Rattle.sim_outside.specs.declared.reading.FileAnswer.{FileAnswer}
use Rattle.sim_outside.specs.declared.reading.FileAnswer.TheVariants.{Failed, TooLong, NoMemory}
use Rattle.sim_outside.specs.Files.{ReadAll}
use Rattle.sim_outside.specs.Memory.{reading_of, IsReading, bytes_read, read_faults_after}

-- whether a file is within the limit says which answer it is
within : (answer : Result (Unit {0}) FileAnswer) (size limit : ℕ) (u : Unit {0}) → answer ≡ Ok u
    → answer ≡ (if leb size limit then Ok tt else Err TooLong) → size ≤ limit
within answer size limit u e h = elim (leb_tells size limit) [
  | inl t ↦ t.1
  | inr t ↦ let wrong : Ok u ≡ Err TooLong = sym e ∙ h ∙ ap (λ b. if b then Ok tt else Err TooLong) t.0 in cc
]

over : (answer : Result (Unit {0}) FileAnswer) (size limit : ℕ) → answer ≡ Err TooLong
    → answer ≡ (if leb size limit then Ok tt else Err TooLong) → limit < size
over answer size limit e h = elim (leb_tells size limit) [
  | inl t ↦ let wrong : Err TooLong ≡ Ok tt = sym e ∙ h ∙ ap (λ b. if b then Ok tt else Err TooLong) t.0 in cc
  | inr t ↦ t.1
]

module _ (held : List ℕ → Option (List ℕ)) (name : List ℕ) (limit before now : ℕ) where
  by_file : (file : Option (List ℕ)) (fails : Bool) (answer : Result (Unit {0}) FileAnswer) (bytes : List ℕ) → held name ≡ file
      → IsReading answer (reading_of fails file limit) → bytes ≡ bytes_read answer file limit → now ≡ read_faults_after answer before
      → ReadAll answer (Some held) name limit bytes (λ _. before) (λ _. now)
  by_file file fails (Err NoMemory) bytes is exact read counted = (read, ap (λ n. λ (_ : List ℕ). n) counted)
  by_file file fails (Err Failed) bytes is exact read counted = omega arith
  by_file file true (Ok u) bytes is exact read counted = cc
  by_file file true (Err TooLong) bytes is exact read counted = cc
  by_file None false (Ok u) bytes is exact read counted = cc
  by_file None false (Err TooLong) bytes is exact read counted = cc
  by_file (Some contents) false (Ok u) bytes is exact read counted =
      (rw read (within (Ok u) (length contents) limit u refl exact), is ∙ ap Some (sym read), ap (λ n. λ (_ : List ℕ). n) counted)
  by_file (Some contents) false (Err TooLong) bytes is exact read counted =
      let long : limit < length contents = over (Err TooLong) (length contents) limit refl exact in
      let all : length bytes ≡ limit + 1 = ap length read ∙ length-take-le (limit + 1) contents (omega arith) in (
        omega arith,
        (drop (limit + 1) contents, is ∙ ap Some (sym (ap (λ front. front ++ drop (limit + 1) contents) read ∙ take-append-drop (limit + 1) contents))),
        ap (λ n. λ (_ : List ℕ). n) counted,
      )

  pub reads_in_memory : (fails : Bool) (answer : Result (Unit {0}) FileAnswer) (bytes : List ℕ)
      → IsReading answer (reading_of fails (held name) limit) → bytes ≡ bytes_read answer (held name) limit → now ≡ read_faults_after answer before
      → ReadAll answer (Some held) name limit bytes (λ _. before) (λ _. now)
  reads_in_memory fails answer bytes exact read counted = by_file (held name) fails answer bytes refl exact read counted
