-- Bytes that a right is granted to are mapped; and the memory at the start has the bytes that the lines have then.
use Rattle.std.proofs.Common.{◌≡◌, ◌≢◌, ℕ, zero, suc, ◌+◌, ◌*◌, ◌<◌, Bool, true, false, ◌&&◌, List, [], ◌∷◌, refl, sym, ap, ◌∙◌, arith, inl, inr}
use Rattle.std.proofs.lemmas.Bool.Decides.{nat_tests}
use Rattle.std.proofs.lemmas.Bool.{cases_Bool}
use Rattle.std.specs.Prelude.{◌/◌, ◌%◌, ◌||◌, nat_lt, nat_le, nat_eq, map, slice_index, is_some, unwrap_or}
use Rattle.std.specs.List.{list_any, list_all, range_with_len}
use Rattle.std.specs.FinMap.{contains_key}
use Rattle.rv_exec.specs.Access.{Asked}
use Rattle.elf_image.specs.declared.address_map.Right.{Right}
use Rattle.elf_image.specs.declared.address_map.Right.TheVariants.{Read, Write, ReadWrite}
use Rattle.elf_image.specs.declared.program.Segment.{Segment}
use Rattle.elf_image.specs.Image.{holds, some_reads, some_writes, grants_read, grants_write}
use Rattle.elf_image.specs.Layout.{Setup, mapped, start_byte, initial_bytes, initial_line, heap_start, stack_start, is_heap, is_on_stack, is_stack, is_free, has_right}
use Rattle.rv_hart.specs.Step.{is_granted, right_of}
use Rattle.flat_machine.specs.Inner.{has_address}
use Rattle.flat_machine.specs.Memory.{start_memory, byte_at}
use Rattle.flat_machine.proofs.StartLemmas.{mapped_where, get-mapped, no_byte}
use Rattle.agreement_laws.specs.Agreement.{byte_in}
use Rattle.agreement_laws.specs.Whole.{AgreesOn}

-- A RIGHT
some_holds : (b d r r' : Bool) → (r ≡ true → r' ≡ true) → ((b && d) || r) ≡ true → (d || r') ≡ true
some_holds b true r r' f e = refl
some_holds true false r r' f e = f e
some_holds false false r r' f e = f e

granting_holds : (p : Segment → Bool) (a : ℕ) (segments : List Segment) → list_any (λ s. p s && holds s a) segments ≡ true → list_any (λ s. holds s a) segments ≡ true
granting_holds p a [] e = e
granting_holds p a (s ∷ segments) e = some_holds (p s) (holds s a) _ _ (granting_holds p a segments) e

same_range : (start len a : ℕ) → (nat_le start a && nat_lt a (start + len)) ≡ has_address start len a
same_range start len a = grind (arith, nat_tests)

any_same : (p q : ℕ → Bool) (xs : List ℕ) → ((x : ℕ) → p x ≡ q x) → list_any p xs ≡ list_any q xs
any_same p q [] same = refl
any_same p q (x ∷ xs) same = let a = same x in let b = any_same p q xs same in cc

one_of : (heap stack right segment heap' stack' : Bool) → heap ≡ heap' → stack ≡ stack' → (right ≡ true → segment ≡ true) → ((heap || stack) || right) ≡ true → ((segment || heap') || stack') ≡ true
one_of heap stack right true heap' stack' a b f e = refl
one_of true stack right false heap' stack' a b f e = let t : heap' ≡ true = sym a in rw t refl
one_of false true right false heap' stack' a b f e = let t : stack' ≡ true = sym b in or_last heap' stack' t where
  or_last : (x y : Bool) → y ≡ true → (x || y) ≡ true
  or_last true y t = refl
  or_last false y t = t
one_of false false right false heap' stack' a b f e = let t = f e in cc

free_mapped : (w : Setup) (a : ℕ) (right : Bool) → (right ≡ true → list_any (λ s. holds s a) w.image.segments ≡ true) → (is_free w a || right) ≡ true → list_any (nat_eq a) (mapped w) ≡ true
free_mapped w a right f e =
    mapped_where w a ∙ one_of (is_heap w a) (is_stack w a) right (list_any (λ s. holds s a) w.image.segments) _ _ (same_range (heap_start w) w.config.heap_bytes a)
    (any_same (is_on_stack w a) (λ tile. has_address (stack_start w tile) w.config.stack_bytes a) (range_with_len 0 w.config.tiles) (λ tile. same_range (stack_start w tile) w.config.stack_bytes a)) f e

both : (x y : Bool) → (x && y) ≡ true → (x ≡ true) × (y ≡ true)
both true y e = (refl, e)
both false y e = cc

right_mapped : (w : Setup) (right : Right) (a : ℕ) → has_right w right a ≡ true → list_any (nat_eq a) (mapped w) ≡ true
right_mapped w Read a e = free_mapped w a (some_reads w.image a) (granting_holds grants_read a w.image.segments) e
right_mapped w Write a e = free_mapped w a (some_writes w.image a) (granting_holds grants_write a w.image.segments) e
right_mapped w ReadWrite a e = free_mapped w a (some_reads w.image a) (granting_holds grants_read a w.image.segments) (both (has_right w Read a) (has_right w Write a) e).0

each_of : (p : ℕ → Bool) (a n i : ℕ) → list_all p (range_with_len a n) ≡ true → i < n → p (a + i) ≡ true
each_of p a zero i e low = let none : i ≢ i = omega (arith, low) in absurd (none refl)
each_of p a (suc n) zero e low = let same : a + 0 ≡ a = omega arith in ap p same ∙ (both (p a) _ e).0
each_of p a (suc n) (suc i) e low =
    let same : a + suc i ≡ (a + 1) + i = omega arith in
    ap p same ∙ each_of p (a + 1) n i (both (p a) _ e).1 (omega (arith, low))

pub granted_mapped : (w : Setup) (access : Asked) (i : ℕ) → is_granted w access ≡ true → i < access.size → contains_key (start_memory w) (access.addr + i) ≡ true
granted_mapped w access i granted low =
    let there = right_mapped w (right_of access.op) (access.addr + i) (each_of (has_right w (right_of access.op)) access.addr access.size i granted low) in
    ap is_some (get-mapped w (access.addr + i)) ∙ rw there refl

-- THE START
place_is : (f : ℕ → ℕ) (a n p : ℕ) → p < n → slice_index (map f (range_with_len a n)) p ≡ f (a + p)
place_is f a zero p low = let none : p ≢ p = omega (arith, low) in absurd (none refl)
place_is f a (suc n) zero low = let same : a ≡ a + 0 = omega arith in ap f same
place_is f a (suc n) (suc p) low =
    let same : (a + 1) + p ≡ a + suc p = omega arith in
    place_is f (a + 1) n p (omega (arith, low)) ∙ ap f same

unmapped_zero : (w : Setup) (a : ℕ) → list_any (nat_eq a) (mapped w) ≡ false → start_byte w a ≡ 0
unmapped_zero w a none = no_byte w.image.segments a (first_false (list_any (λ s. holds s a) w.image.segments) _ _ (sym (mapped_where w a) ∙ none)) where
  first_false : (x y z : Bool) → ((x || y) || z) ≡ false → x ≡ false
  first_false true y z e = e
  first_false false y z e = refl

start_at : (w : Setup) (a : ℕ) → byte_at (start_memory w) a ≡ start_byte w a
start_at w a = elim (cases_Bool (list_any (nat_eq a) (mapped w))) [
  | inl t ↦ ap (λ o. unwrap_or o 0) (get-mapped w a) ∙ rw t refl
  | inr t ↦ ap (λ o. unwrap_or o 0) (get-mapped w a) ∙ rw t (sym (unmapped_zero w a t))
]

line_start : (w : Setup) (a : ℕ) → byte_in (initial_line w) a ≡ start_byte w a
unfolding initial_bytes
line_start w a =
    let at : a / 64 * 64 + (0 + a % 64) ≡ a = omega arith in
    place_is (λ place. start_byte w (a / 64 * 64 + place)) 0 64 (a % 64) (omega arith) ∙ ap (start_byte w) at

pub start_agrees : (w : Setup) → AgreesOn (start_memory w) (initial_line w)
start_agrees w a = start_at w a ∙ sym (line_start w a)
