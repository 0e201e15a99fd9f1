-- The rows of a decoded segment are those of the words that can be fetched.
use Rattle.std.proofs.Common.{◌≡◌, ◌+◌, ◌-◌, ◌*◌, ◌/◌, ◌%◌, ◌<◌, ◌≤◌, ◌&&◌, ◌==◌, ℕ, Bool, true, false, List, [], ◌∷◌, cond, refl, sym, ap, ◌∙◌, arith, map, filter, find, length, get_or, nat_le, nat_lt, Option, Some, None, option_and_then, if◌then◌else◌, inl, inr}
use Rattle.std.specs.List.{list_any, list_all, range_with_len, slice_get}
use Rattle.std.specs.Option.{option_or}
use Rattle.std.proofs.lemmas.Bool.{cases_Bool, and_parts, or_parts, ltb-true, ltb-false}
use Rattle.std.proofs.lemmas.Bool.Decides.{nat_tests}
use Rattle.std.proofs.lemmas.Option.{slice_get-get_or, slice_get_past}
use Rattle.std.proofs.lemmas.List.{get_or_past}
use Rattle.std.proofs.lemmas.List.FromFn.{length-map-range_with_len, get_or-map-range_with_len}
use Rattle.rv_decode.specs.declared.instr.Instr.{Instr}
use Rattle.rv_decode.specs.Table.{row}
use Rattle.elf_image.specs.declared.program.Segment.{Segment}
use Rattle.elf_image.specs.Image.{Program, IsProgram, holds, share_byte, overlaps, grants_execute}
use Rattle.elf_image.specs.Layout.{Setup, byte_of, holds_word, fetch, instruction}
use Rattle.elf_image.specs.Decoded.{Rows, word_of, row_at, first_word, word_count, decoded_of, found_in, first_found, program_row, IsDecoded}
use Rattle.elf_image.proofs.Apart.{fetched, not_fetched}

zero_word : row 0 ≡ None
unfolding row
zero_word = refl

-- past its bytes a segment's are 0
zero_byte : (s : Segment) (a : ℕ) → s.vaddr + length s.bytes ≤ a → byte_of s a ≡ 0
zero_byte s a h = get_or_past s.bytes (a - s.vaddr) 0 (omega arith)

-- past its bytes a segment has no instruction
past_bytes : (s : Segment) (a : ℕ) → s.vaddr + length s.bytes ≤ a → row_at s a ≡ None
unfolding row_at
past_bytes s a h =
    rw (zero_byte s a h, zero_byte s (a + 1) (omega arith), zero_byte s (a + 1 + 1) (omega arith), zero_byte s (a + 1 + 1 + 1) (omega arith)) (
    elim (holds_word s a) as (λ b. (if b then row 0 else None) ≡ None) [ true ↦ zero_word | false ↦ refl ])

-- an address that a segment doesn't have has no word of it
not_word : (s : Segment) (a : ℕ) → holds s a ≡ false → holds_word s a ≡ false
not_word s a h = rw h refl

no_row : (s : Segment) (a : ℕ) → holds_word s a ≡ false → row_at s a ≡ None
unfolding row_at
no_row s a h = rw h refl

held_row : (s : Segment) (a : ℕ) → holds_word s a ≡ true → row_at s a ≡ row (word_of s a)
unfolding row_at
held_row s a h = rw h refl

before_first : (s : Segment) (a : ℕ) → a % 4 ≡ 0 → a < first_word s → holds s a ≡ false
before_first s a aligned below = let low : a < s.vaddr = omega arith in grind (arith, nat_tests)

-- the row that stands for a multiple of 4 from the first word on
listed_row : (s : Segment) (pc : ℕ) → pc % 4 ≡ 0 → first_word s ≤ pc →
    option_and_then (λ found. found) (slice_get (map (λ k. row_at s (first_word s + 4 * k)) (range_with_len 0 (word_count s))) ((pc - first_word s) / 4)) ≡ row_at s pc
listed_row s pc aligned at = elim (cases_Bool (nat_lt k (word_count s))) [
  | inl within ↦
      let below : k < word_count s = ltb-true k (word_count s) within in
      let entry : get_or rows k None ≡ row_at s (first_word s + 4 * k) = get_or-map-range_with_len (λ j. row_at s (first_word s + 4 * j)) 0 (word_count s) k k None below (omega arith) in
      let place : first_word s + 4 * k ≡ pc = omega arith in
      rw (slice_get-get_or rows k None (rw length-map-range_with_len below), entry, place) refl
  | inr past ↦
      let above : word_count s ≤ k = ltb-false k (word_count s) past in
      rw (slice_get_past rows k (rw length-map-range_with_len above), past_bytes s pc (omega arith)) refl
]
  where
    k : ℕ
    k = (pc - first_word s) / 4

    rows : List (Option Instr)
    rows = map (λ j. row_at s (first_word s + 4 * j)) (range_with_len 0 (word_count s))

-- at multiples of 4 a decoded segment has the segment's instructions
found_row : (s : Segment) (pc : ℕ) → pc % 4 ≡ 0 → found_in (decoded_of s) pc ≡ row_at s pc
unfolding found_in decoded_of
found_row s pc aligned = elim (cases_Bool (nat_le (first_word s) pc)) [
  | inl at ↦ let from : first_word s ≤ pc = grind (arith, nat_tests) in rw at (listed_row s pc aligned from)
  | inr before ↦ let below : pc < first_word s = grind (arith, nat_tests) in rw before (sym (no_row s pc (not_word s pc (before_first s pc aligned below))))
]

-- where a segment has an address, one that shares no byte with it doesn't
elsewhere : (t s : Segment) (a : ℕ) → share_byte t s ≡ false → holds t a ≡ true → holds s a ≡ false
elsewhere t s a apart h = grind (arith, nat_tests)

-- segments without the address have no row there
none_later : (t : Segment) (rest : List Segment) (pc : ℕ) → pc % 4 ≡ 0 → list_any (share_byte t) rest ≡ false → holds t pc ≡ true → first_found (map decoded_of (filter grants_execute rest)) pc ≡ None
none_later t [] pc aligned apart h = refl
none_later t (s ∷ rest) pc aligned apart h =
    let parts = or_parts (share_byte t s) (list_any (share_byte t) rest) apart in
    let none : found_in (decoded_of s) pc ≡ None = found_row s pc aligned ∙ no_row s pc (not_word s pc (elsewhere t s pc parts.0 h)) in
    by_test (grants_execute s) none (none_later t rest pc aligned parts.1 h)
  where
    by_test : (b : Bool) → found_in (decoded_of s) pc ≡ None → first_found (map decoded_of (filter grants_execute rest)) pc ≡ None
        → first_found (map decoded_of (cond b (s ∷ filter grants_execute rest) (filter grants_execute rest))) pc ≡ None
    by_test true none later = rw (none, later) refl
    by_test false none later = later

or_none : (o : Option Instr) → option_or o None ≡ o
or_none None = refl
or_none (Some i) = refl

-- the first row of the decoded segments is that of the executable segment that has the word
rows_found : (segments : List Segment) (pc : ℕ) → pc % 4 ≡ 0 → overlaps segments ≡ false →
    first_found (map decoded_of (filter grants_execute segments)) pc ≡ option_and_then (λ s. row (word_of s pc)) (find (λ s. grants_execute s && holds_word s pc) segments)
rows_found [] pc aligned apart = refl
rows_found (t ∷ rest) pc aligned apart =
    let parts = or_parts (list_any (share_byte t) rest) (overlaps rest) apart in
    by_test (grants_execute t) (holds_word t pc) refl (rows_found rest pc aligned parts.1) (none_later t rest pc aligned parts.0)
  where
    later : Option Instr
    later = option_and_then (λ s. row (word_of s pc)) (find (λ s. grants_execute s && holds_word s pc) rest)

    by_test : (b c : Bool) → holds_word t pc ≡ c → first_found (map decoded_of (filter grants_execute rest)) pc ≡ option_and_then (λ s. row (word_of s pc)) (find (λ s. grants_execute s && holds_word s pc) rest)
        → (holds t pc ≡ true → first_found (map decoded_of (filter grants_execute rest)) pc ≡ None)
        → first_found (map decoded_of (cond b (t ∷ filter grants_execute rest) (filter grants_execute rest))) pc
        ≡ option_and_then (λ s. row (word_of s pc)) (cond (b && c) (Some t) (find (λ s. grants_execute s && holds_word s pc) rest))
    by_test false c is same none = same
    by_test true false is same none = rw (found_row t pc aligned, no_row t pc is) same
    by_test true true is same none =
        let at : holds t pc ≡ true = (and_parts (holds t pc) (list_all (holds t) (range_with_len (pc + 1) 3)) is).0 in
        rw (found_row t pc aligned, held_row t pc is, none at) (or_none (row (word_of t pc)))

-- what the decoded segments of a program lend is the program's instruction
pub program_found : (p : Program) (tables : List Rows) (pc : ℕ) → IsDecoded p tables → pc % 4 ≡ 0 → first_found tables pc ≡ program_row p pc
unfolding program_row
program_found p tables pc is aligned = rw (is.decoded, aligned) (rows_found p.segments pc aligned is.program.apart)

-- what is found passes its test
found_passes : (p : Segment → Bool) (segments : List Segment) (s : Segment) → find p segments ≡ Some s → p s ≡ true
found_passes p [] s e = cc
found_passes p (t ∷ rest) s e = by_test (found_passes p rest s) (p t) refl e where
  by_test : (find p rest ≡ Some s → p s ≡ true) → (b : Bool) → p t ≡ b → cond b (Some t) (find p rest) ≡ Some s → p s ≡ true
  by_test later true is e = let same : t ≡ s = cc in ap p (sym same) ∙ is
  by_test later false is e = later e

-- it is the row of the word that is fetched
found_fetched : (w : Setup) (pc : ℕ) (o : Option Segment) → IsProgram w.image → find (λ s. grants_execute s && holds_word s pc) w.image.segments ≡ o
    → option_and_then (λ s. row (word_of s pc)) o ≡ option_and_then row (fetch w pc)
found_fetched w pc None is e = ap (option_and_then row) (not_fetched w pc e)
found_fetched w pc (Some s) is e =
    let parts = and_parts (grants_execute s) (holds_word s pc) (found_passes (λ t. grants_execute t && holds_word t pc) w.image.segments s e) in
    ap (option_and_then row) (fetched w pc s is e parts.1)

pub instruction_is : (w : Setup) (pc : ℕ) → IsProgram w.image → program_row w.image pc ≡ instruction w pc
unfolding program_row instruction
instruction_is w pc is = ap (λ o. if pc % 4 == 0 then o else None) (found_fetched w pc _ is refl)

-- and so it has the row of some word, or none
pub instruction_row : (w : Setup) (pc : ℕ) → instruction w pc ≡ option_and_then row (if pc % 4 == 0 then fetch w pc else None)
unfolding instruction
instruction_row w pc = elim (pc % 4 == 0) as (λ b. (if b then option_and_then row (fetch w pc) else None) ≡ option_and_then row (if b then fetch w pc else None)) [
  | true ↦ refl
  | false ↦ refl
]
