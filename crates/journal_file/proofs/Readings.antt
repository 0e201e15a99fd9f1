-- What files read as: a journal's file as that journal, and nothing else.
use Rattle.std.proofs.Common.{◌≡◌, ℕ, ◌+◌, ◌*◌, ◌<◌, ◌≤◌, ◌^◌, Option, List, [], ◌∷◌, ◌++◌, length, take, drop, nat_eq, refl, sym, ap, ◌∙◌, subst, arith, cond, inl, inr, Some, None, Ok, Err, lit≤}
use Rattle.std.specs.Prelude.{◌||◌, nat_lt, All}
use Rattle.std.specs.List.{flat_map, common_prefix_len}
use Rattle.std.specs.Int.{w64, to_le_bytes, from_le_bytes}
use Rattle.std.proofs.lemmas.Bool.{cases_Bool, cases_lt, eqb-true, ltb-false, le-ltb}
use Rattle.std.proofs.lemmas.Bool.Decides.{nat_tests}
use Rattle.std.proofs.lemmas.List.{take-append-drop, length-drop, length-take, drop-drop, get_or_past}
use Rattle.std.proofs.lemmas.List.Elements.{All-take, All-drop}
use Rattle.std.proofs.lemmas.Nat.{le_bytes_8, from_le_bytes-to_le_bytes_8}
use Rattle.event_journal.specs.declared.events.Event.{Event}
use Rattle.journal_file.specs.File.{magic, event_bytes, journal_bytes, HasSenderBelow255, IsFileOf}
use Rattle.journal_file.specs.Reading.{front_fault, told_count, told_size, fault_place, events_in, told, reading}
use Rattle.journal_file.specs.declared.refusal.JournalRefusal.TheVariants.{TooLong}
use Rattle.journal_file.proofs.Events.{length-events, events_in-bytes, events-of_bytes, events-below}

-- Which files are taken

-- what it is that a file is taken
record IsTaken (file : List ℕ) : Type 0 where
  pub not_long : length file ≤ 300000000
  pub front : 8 ≤ front_fault file
  pub headed : 16 ≤ length file
  pub size : told_size file ≡ length file

-- the place of numbers: where the front differs, the length, and the size that is told
abbrev place : ℕ → ℕ → ℕ → Option ℕ
place front len size =
    cond (nat_lt front 8) (Some front) (cond (nat_lt len 16 || nat_lt len size) (Some len) (cond (nat_lt size len) (Some size) None))

place-none : (front len size : ℕ) → 8 ≤ front → 16 ≤ len → size ≡ len → place front len size ≡ None
place-none front len size a b e = grind (arith, nat_tests)

none-place : (front len size : ℕ) → place front len size ≡ None → (8 ≤ front) × ((16 ≤ len) × (size ≡ len))
none-place front len size e = grind (arith, nat_tests)

reads_taken : (file : List ℕ) → IsTaken file → reading file ≡ Ok (events_in (drop 16 file))
reads_taken file taken =
    ap (λ is_long. cond is_long (Err TooLong) (told file (fault_place file))) (le-ltb 300000000 (length file) taken.not_long)
    ∙ ap (told file) (place-none (front_fault file) (length file) (told_size file) taken.front taken.headed taken.size)

-- where a file tells events, it has no fault
told-ok : (file : List ℕ) (at : Option ℕ) (events : List Event) → told file at ≡ Ok events → (at ≡ None) × (events ≡ events_in (drop 16 file))
told-ok file None events tells = (refl, cc)
told-ok file (Some at) events tells = cc

taken_read : (file : List ℕ) (events : List Event) → reading file ≡ Ok events → IsTaken file × (events ≡ events_in (drop 16 file))
taken_read file events reads = elim (cases_Bool (nat_lt 300000000 (length file))) [
  | inl long ↦ (let is_long = ap (λ b. cond b (Err TooLong) (told file (fault_place file))) long in cc)
  | inr short ↦ (
      let tells = sym (ap (λ b. cond b (Err TooLong) (told file (fault_place file))) short) ∙ reads in
      let ok = told-ok file (fault_place file) events tells in
      let right = none-place (front_fault file) (length file) (told_size file) ok.0 in
      (record { not_long = ltb-false 300000000 (length file) short; front = right.0; headed = right.1.0; size = right.1.1 }, ok.1))
]

-- Files that are written

-- a written file begins with the eight bytes, and tells its number of events
written-taken : (events : List Event) → length (journal_bytes events) ≤ 300000000 → IsTaken (journal_bytes events)
written-taken events short =
    let body = length-events events in
    let few : length events < 2 ^ 64 = omega (arith, body) in
    let count = from_le_bytes-to_le_bytes_8 (length events) few in
    record { not_long = short; front = lit≤ tt; headed = omega arith; size = omega (arith, count, body) }

pub written_is_read : (events : List Event) (file : List ℕ) → IsFileOf events file → reading file ≡ Ok events
written_is_read events file it =
    let reads = reads_taken (journal_bytes events) (written-taken events (subst (λ f. length f ≤ 300000000) it.bytes it.not_long)) in
    ap reading it.bytes ∙ (reads ∙ ap Ok (events_in-bytes events it.senders))

-- Files that are read

-- what begins with a whole list is that list and the rest
prefix-whole : (xs ys : List ℕ) → length xs ≤ common_prefix_len nat_eq xs ys → ys ≡ xs ++ drop (length xs) ys
prefix-whole [] ys whole = refl
prefix-whole (x ∷ xs) [] whole = absurd (omega arith)
prefix-whole (x ∷ xs) (y ∷ ys) whole = elim (cases_Bool (nat_eq x y)) [
  | inl same ↦ (
      let on = ap (λ b. cond b (1 + common_prefix_len nat_eq xs ys) 0) same in
      let rest = prefix-whole xs ys (omega (arith, on)) in
      ap (λ z. z ∷ ys) (sym (eqb-true x y same)) ∙ ap (λ zs. x ∷ zs) rest)
  | inr other ↦ (let none = ap (λ b. cond b (1 + common_prefix_len nat_eq xs ys) 0) other in absurd (omega (arith, none)))
]

-- the eight bytes of a number are that number's
number-bytes : (bytes : List ℕ) → length bytes ≡ 8 → All (λ byte. byte < 256) bytes → to_le_bytes w64 (from_le_bytes w64 bytes) ≡ bytes
number-bytes bytes eight small = le_bytes_8 bytes (from_le_bytes w64 bytes) eight (λ i. elim (cases_lt i (length bytes)) [
  | inl within ↦ small i 0 within
  | inr beyond ↦ omega (arith, get_or_past bytes i 0 beyond)
]) refl

-- a file from its parts
joined : (file rest number body told events : List ℕ) → file ≡ magic ++ rest → rest ≡ number ++ body → told ≡ number → events ≡ body → file ≡ magic ++ (told ++ events)
joined file rest number body told events a b c d = cc

-- a file that is taken is written from the events that it reads as
taken-written : (file : List ℕ) → IsTaken file → All (λ byte. byte < 256) file → IsFileOf (events_in (drop 16 file)) file
taken-written file taken small =
    let rest = drop 8 file in
    let body = drop 16 file in
    let even : length body ≡ 2 * told_count file = omega (arith, length-drop 16 file, taken.size, taken.headed) in
    let events = events-of_bytes (told_count file) body even in
    let eight : length (take 8 rest) ≡ 8 = omega (arith, length-take 8 rest, length-drop 8 file, taken.headed) in
    let number = number-bytes (take 8 rest) eight (All-take (λ byte. byte < 256) 8 rest (All-drop (λ byte. byte < 256) 8 file small)) in
    let whole = prefix-whole magic file taken.front in
    let split = take-append-drop 8 rest in
    let after = drop-drop 8 8 file in
    let told = ap (to_le_bytes w64) events.1 ∙ number in
    record {
      not_long = taken.not_long;
      bytes = joined file rest (take 8 rest) body (to_le_bytes w64 (length (events_in body))) (flat_map event_bytes (events_in body)) whole (sym split ∙ ap (λ end. take 8 rest ++ end) after) told events.0;
      senders = events-below body (All-drop (λ byte. byte < 256) 16 file small);
    }

pub read_is_written : (events : List Event) (file : List ℕ) → All (λ byte. byte < 256) file → reading file ≡ Ok events → IsFileOf events file
read_is_written events file small reads =
    let it = taken_read file events reads in
    subst (λ e. IsFileOf e file) (sym it.1) (taken-written file it.0 small)

pub has_one_reading : (a b : List Event) → All HasSenderBelow255 a → All HasSenderBelow255 b → journal_bytes a ≡ journal_bytes b → a ≡ b
has_one_reading a b small_a small_b same =
    sym (events_in-bytes a small_a) ∙ (ap (λ file. events_in (drop 16 file)) same ∙ events_in-bytes b small_b)
