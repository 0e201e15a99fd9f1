-- What the memory that regions make has after a byte was written.
use Rattle.std.proofs.Common.{◌≡◌, ℕ, ◌+◌, ◌-◌, ◌<◌, ◌≤◌, Bool, true, false, cond, zero, suc, List, [], ◌∷◌, ◌++◌, length, take, drop, get_or, set, refl, sym, ap, ◌∙◌, inl, inr, arith, append_assoc, add-one, length-set, drop-cons, get_or-set_same, get_or-set_other}
use Rattle.std.specs.Prelude.{Option, Some, None, is_some, nat_eq, ◌&&◌, ◌≢◌, slice_index, slice_set}
use Rattle.std.specs.FinMap.{get, insert, get-insert, same_map, nat_cmp-IsAntisymmetric}
use Rattle.std.specs.Cmp.{nat_cmp_total}
use Rattle.std.proofs.Math.Seq.{take-suc}
use Rattle.std.proofs.Math.ListN.{drop_of_length-le}
use Rattle.std.proofs.lemmas.List.{append-nil, take_all, set-get_or}
use Rattle.std.proofs.lemmas.Bool.Decides.{nat_tests}
use Rattle.flat_machine.specs.declared.regions.Region.{Region}
use Rattle.flat_machine.specs.Memory.{with_byte}
use Rattle.flat_machine.specs.Inner.{has_address, memory_of, found, with_byte_in}
use Rattle.flat_machine.proofs.MemoryLemmas.{same_test, get-memory_of, tied, untied}

-- which case an option was chosen by
place_chosen : (t : Bool) (n place : ℕ) → Some place ≡ cond t (Some n) None → (t ≡ true) × (place ≡ n)
place_chosen true n place e = (refl, cc)
place_chosen false n place e = cc

none_chosen : (t : Bool) (n : ℕ) → None ≡ cond t (Some n) None → t ≡ false
none_chosen true n e = cc
none_chosen false n e = refl

-- a write to a list, by its front and its back
set-split : (xs : List Region) (i : ℕ) (x : Region) → i < length xs → set xs i x ≡ take i xs ++ x ∷ drop (suc i) xs
set-split [] i x h = absurd (omega arith)
set-split (y ∷ ys) zero x h = refl
set-split (y ∷ ys) (suc i) x h = ap (λ zs. y ∷ zs) (set-split ys i x (omega arith))

-- the region at a place, and those after it
at_place : (items : List Region) (i : ℕ) (r : Region) → i < length items → r ≡ get_or items i r → drop i items ≡ r ∷ drop (suc i) items
at_place items i r h e = drop-cons items i r h ∙ ap (λ x. x ∷ drop (suc i) items) (sym e)

-- the first region with the address is written
pub hit : (items : List Region) (i : ℕ) (r : Region) (address byte place : ℕ) → i < length items → r ≡ get_or items i r
    → Some place ≡ cond (has_address r.start (length r.bytes) address) (Some (address - r.start)) None
    → set items i (record r { bytes = slice_set r.bytes place byte }) ≡ take i items ++ with_byte_in (drop i items) address byte
hit items i r address byte place h e p =
    let rest : drop i items ≡ r ∷ drop (suc i) items = at_place items i r h e in
    let chosen = place_chosen (has_address r.start (length r.bytes) address) (address - r.start) place p in
    rw (rest, chosen.0, chosen.1) (set-split items i _ h)

-- a region without it is passed
pub miss : (items : List Region) (i : ℕ) (r : Region) (address byte : ℕ) → i < length items → r ≡ get_or items i r
    → None ≡ cond (has_address r.start (length r.bytes) address) (Some (address - r.start)) None
    → take (i + 1) items ++ with_byte_in (drop (i + 1) items) address byte ≡ take i items ++ with_byte_in (drop i items) address byte
miss items i r address byte h e p =
    let rest : drop i items ≡ r ∷ drop (suc i) items = at_place items i r h e in
    let front : take (suc i) items ≡ take i items ++ (r ∷ []) = take-suc items i r h ∙ ap (λ x. take i items ++ (x ∷ [])) (sym e) in
    let away : has_address r.start (length r.bytes) address ≡ false = none_chosen _ (address - r.start) p in
    rw (add-one, rest, away, front) (append_assoc (take i items) (r ∷ []) (with_byte_in (drop (suc i) items) address byte))

-- a list that was written in place, as a Vec has it afterwards
pub refilled : (n : ℕ) (xs ys : List Region) → length xs ≡ n → length ys ≡ n → take n (xs ++ drop (length xs) ys) ≡ xs
refilled n xs ys e f =
    let none : drop (length xs) ys ≡ [] = drop_of_length-le ys (omega arith) in
    rw (none, append-nil xs) (take_all n xs (omega arith))

-- the regions behind a Vec after one was written in place
pub written_back : (len : ℕ) (old items : List Region) (i : ℕ) (r : Region) (address byte place : ℕ) (bytes : List ℕ)
    → len ≡ length old → items ≡ old → i < length items → r ≡ get_or items i r
    → Some place ≡ cond (has_address (get_or items i r).start (length (get_or items i r).bytes) address) (Some (address - (get_or items i r).start)) None
    → bytes ≡ slice_set (get_or items i r).bytes place byte
    → take i items ++ with_byte_in (drop i items) address byte ≡ with_byte_in old address byte
    → let new = set items i (record { start = (get_or items i r).start; bytes = bytes }) in take len (new ++ drop (length new) old) ≡ with_byte_in old address byte
written_back len old items i r address byte place bytes size same h e p is passed =
    let here = get_or items i r in
    let new = set items i (record { start = here.start; bytes = bytes }) in
    let long : length new ≡ length items = length-set items i (record { start = here.start; bytes = bytes }) in
    let sizes : length items ≡ length old = ap length same in
    refilled len new old (omega arith) (omega arith)
    ∙ ap (λ (bs : List ℕ). set items i (record { start = here.start; bytes = bs })) is
    ∙ hit items i here address byte place h (ap (get_or items i) e) p
    ∙ passed

-- a region that is passed stays, and the next is looked at
pub passed_more : (old items : List Region) (i : ℕ) (r : Region) (address byte : ℕ) → i < length items → r ≡ get_or items i r
    → None ≡ cond (has_address (get_or items i r).start (length (get_or items i r).bytes) address) (Some (address - (get_or items i r).start)) None
    → take i items ++ with_byte_in (drop i items) address byte ≡ with_byte_in old address byte
    → let new = set items i (get_or items i r) in take (i + 1) new ++ with_byte_in (drop (i + 1) new) address byte ≡ with_byte_in old address byte
passed_more old items i r address byte h e p passed =
    rw (set-get_or items i r) (miss items i (get_or items i r) address byte h (ap (get_or items i) e) p ∙ passed)

-- the regions behind a Vec in which none was written
pub passed_back : (len : ℕ) (old items : List Region) (i address byte : ℕ) → len ≡ length old → items ≡ old → length items ≤ i
    → take i items ++ with_byte_in (drop i items) address byte ≡ with_byte_in old address byte
    → take len (items ++ drop (length items) old) ≡ with_byte_in old address byte
passed_back len old items i address byte size same h passed =
    let sizes : length items ≡ length old = ap length same in
    let none : drop i items ≡ [] = drop_of_length-le items h in
    let all : take i items ≡ items = take_all i items h in
    let left : items ++ [] ≡ with_byte_in old address byte = rw (none, all) at passed in
    refilled len items old (omega arith) (omega arith) ∙ sym (append-nil items) ∙ left

same_length : (items : List Region) (address byte : ℕ) → length (with_byte_in items address byte) ≡ length items
same_length [] address byte = refl
same_length (r ∷ rs) address byte =
    elim (has_address r.start (length r.bytes) address) as (λ t. length (cond t (record r { bytes = slice_set r.bytes (address - r.start) byte } ∷ rs) (r ∷ with_byte_in rs address byte)) ≡ suc (length rs)) [
      | true ↦ refl
      | false ↦ ap suc (same_length rs address byte)
    ]

-- the written region's byte at an address that it has
byte-written : (bytes : List ℕ) (start a q byte : ℕ) → has_address start (length bytes) a ≡ true → has_address start (length bytes) q ≡ true
    → slice_index (slice_set bytes (a - start) byte) (q - start) ≡ cond (nat_eq q a) byte (slice_index bytes (q - start))
byte-written bytes start a q byte ha hq =
    elim (same_test q a) [
      | inl e ↦ let t : nat_eq q a ≡ true = grind (arith, nat_tests) in let room : a - start < length bytes = grind (arith, nat_tests) in
          rw (t, e) (get_or-set_same bytes (a - start) byte 0 room)
      | inr e ↦ let t : nat_eq q a ≡ false = grind (arith, nat_tests) in let low : start ≤ a = grind (arith, nat_tests) in let low' : start ≤ q = grind (arith, nat_tests) in let apart : q - start ≢ a - start = (λ h. e (omega arith)) in
          rw t (get_or-set_other bytes (a - start) (q - start) byte 0 apart)
    ]

and_false : (t : Bool) (byte : ℕ) (other : Option ℕ) → other ≡ cond (t && false) (Some byte) other
and_false true byte other = refl
and_false false byte other = refl

some_of_choice : (t : Bool) (x y : ℕ) → Some (cond t x y) ≡ cond (t && true) (Some x) (Some y)
some_of_choice true x y = refl
some_of_choice false x y = refl

-- addresses of which a region has only one are apart
told_apart : (start len a q : ℕ) (ta tq : Bool) → has_address start len a ≡ ta → has_address start len q ≡ tq → ta ≢ tq → nat_eq q a ≡ false
told_apart start len a q ta tq ha hq differ = elim (same_test q a) [
  | inl e ↦ absurd (differ (sym ha ∙ ap (has_address start len) (sym e) ∙ hq))
  | inr e ↦ grind (arith, nat_tests)
]

-- what the written memory has at an address
get-with_byte : (rs : List Region) (a byte q : ℕ) → get (with_byte (memory_of rs) a byte) q ≡ cond (nat_eq q a && is_some (found rs a)) (Some byte) (found rs q)
get-with_byte rs a byte q =
    rw (get-memory_of rs a)
    (elim (is_some (found rs a)) as (λ t. get (cond t (insert (memory_of rs) a byte) (memory_of rs)) q ≡ cond (nat_eq q a && t) (Some byte) (found rs q)) [
      | true ↦ get-insert nat_cmp_total (memory_of rs) a byte q ∙ elim (same_test q a) [
        | inl e ↦ let t : nat_eq q a ≡ true = grind (arith, nat_tests) in rw (tied q a e, t) refl
        | inr e ↦ let t : nat_eq q a ≡ false = grind (arith, nat_tests) in rw (untied q a e, t) (get-memory_of rs q)
      ]
      | false ↦ get-memory_of rs q ∙ and_false (nat_eq q a) byte (found rs q)
    ])

-- the same for one region before others
found-cons : (r : Region) (rs : List Region) (a byte q : ℕ) (ta tq : Bool) → has_address r.start (length r.bytes) a ≡ ta → has_address r.start (length r.bytes) q ≡ tq
    → found (with_byte_in rs a byte) q ≡ cond (nat_eq q a && is_some (found rs a)) (Some byte) (found rs q)
    → found (with_byte_in (r ∷ rs) a byte) q ≡ cond (nat_eq q a && is_some (found (r ∷ rs) a)) (Some byte) (found (r ∷ rs) q)
found-cons r rs a byte q true true ha hq rest =
    rw (ha, length-set r.bytes (a - r.start) byte, hq, byte-written r.bytes r.start a q byte ha hq) (some_of_choice (nat_eq q a) byte (slice_index r.bytes (q - r.start)))
found-cons r rs a byte q true false ha hq rest =
    let apart : nat_eq q a ≡ false = told_apart r.start (length r.bytes) a q true false ha hq (λ e. cc) in
    rw (ha, length-set r.bytes (a - r.start) byte, hq, apart) refl
found-cons r rs a byte q false true ha hq rest =
    let apart : nat_eq q a ≡ false = told_apart r.start (length r.bytes) a q false true ha hq (λ e. cc) in
    rw (ha, hq, apart) refl
found-cons r rs a byte q false false ha hq rest = rw (ha, hq) rest

-- what the written regions have at an address
found-written : (rs : List Region) (a byte q : ℕ) → found (with_byte_in rs a byte) q ≡ cond (nat_eq q a && is_some (found rs a)) (Some byte) (found rs q)
found-written [] a byte q = and_false (nat_eq q a) byte None
found-written (r ∷ rs) a byte q =
    found-cons r rs a byte q (has_address r.start (length r.bytes) a) (has_address r.start (length r.bytes) q) refl refl (found-written rs a byte q)

pub written-memory : (rs : List Region) (a byte : ℕ) → memory_of (with_byte_in rs a byte) ≡ with_byte (memory_of rs) a byte
written-memory rs a byte = same_map nat_cmp_total nat_cmp-IsAntisymmetric _ _ (λ q. get-memory_of (with_byte_in rs a byte) q ∙ found-written rs a byte q ∙ sym (get-with_byte rs a byte q))
