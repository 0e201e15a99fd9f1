-- On which stack an address lies: the stacks are as far apart as the quotient says.
use Rattle.std.proofs.Common.{◌≡◌, ◌+◌, ◌-◌, ◌*◌, ◌/◌, ◌%◌, ◌<◌, ◌≤◌, ◌&&◌, ◌||◌, ◌^◌, ℕ, zero, suc, Bool, true, false, zero-add, arith, refl, sym, ap, subst, ◌∙◌, nat_eq, nat_lt, nat_le}
use Rattle.std.specs.List.{list_any, range_with_len}
use Rattle.std.proofs.Math.Nat.{mul-le-mul_right, mod-lt}
use Rattle.std.proofs.lemmas.Nat.{div-add-mod'}
use Rattle.std.proofs.lemmas.Bool.Decides.{nat_tests}
use Rattle.elf_image.specs.declared.address_map.Layout.{Layout}
use Rattle.elf_image.specs.Layout.{Setup, IsLaidOut, AreFree, is_heap, is_stack, is_on_stack, is_free, stack_base, heap_start, heap_end, layout_of, has_right, may}
use Rattle.elf_image.proofs.Grants.{each_granted}
use Rattle.elf_image.specs.declared.address_map.Right.{Right}
use Rattle.elf_image.specs.declared.address_map.Right.TheVariants.{Read, Write, ReadWrite}
use Rattle.std.proofs.lemmas.List.Folds.{list_any_at}
use Rattle.std.proofs.lemmas.List.FromFn.{length-range_with_len, get_or-range_with_len}

-- whether an address is one of the size addresses from a place past the base on
abbrev is_from : ℕ → ℕ → ℕ → ℕ → Bool
is_from base size x a = nat_le (base + x) a && nat_lt a (base + x + size)

at_place : (base size y r a : ℕ) → base ≤ a → y + r ≡ a - base → is_from base size y a ≡ nat_lt r size
at_place base size y r a low e = grind (arith, nat_tests)

before_place : (base size stride x y r a : ℕ) → base ≤ a → y + r ≡ a - base → r < stride → y + stride ≤ x → is_from base size x a ≡ false
before_place base size stride x y r a low e small far = grind (arith, nat_tests)

past_place : (base size stride x y r a : ℕ) → base ≤ a → y + r ≡ a - base → size ≤ stride → x + stride ≤ y → is_from base size x a ≡ false
past_place base size stride x y r a low e fits far = grind (arith, nat_tests)

-- a multiple is at least one step past each smaller one
next_multiple : (q t stride : ℕ) → q < t → q * stride + stride ≤ t * stride
next_multiple q t stride h =
    let more : suc q * stride ≤ t * stride = mul-le-mul_right stride (omega arith) in
    omega arith

-- an address lies on the stack of this tile
on_one : (base size stride a t : ℕ) → base ≤ a → size ≤ stride → 0 < stride
    → is_from base size (t * stride) a ≡ (nat_eq ((a - base) / stride) t && nat_lt ((a - base) % stride) size)
on_one base size stride a t low fits some =
    let q : ℕ = (a - base) / stride in
    let r : ℕ = (a - base) % stride in
    let parts : q * stride + r ≡ a - base = div-add-mod' (a - base) stride in
    let small : r < stride = mod-lt (a - base) some in
    elim (nat_lt q t) as (λ b. nat_lt q t ≡ b → is_from base size (t * stride) a ≡ (nat_eq q t && nat_lt r size)) [
      | true ↦ λ e. let below : q < t = grind (arith, nat_tests) in
          let other : nat_eq q t ≡ false = grind (arith, nat_tests) in
          rw other (before_place base size stride (t * stride) (q * stride) r a low parts small (next_multiple q t stride below))
      | false ↦ λ e. elim (nat_eq q t) as (λ b. nat_eq q t ≡ b → is_from base size (t * stride) a ≡ (b && nat_lt r size)) [
        | true ↦ λ f. let same : t ≡ q = grind (arith, nat_tests) in rw same (at_place base size (q * stride) r a low parts)
        | false ↦ λ f. let above : t < q = grind (arith, nat_tests) in
            past_place base size stride (t * stride) (q * stride) r a low parts fits (next_multiple t q stride above)
      ] refl
    ] refl

-- the tests of a range of tiles, each for one quotient
one_of : (q from n : ℕ) (fits : Bool) → list_any (λ t. nat_eq q t && fits) (range_with_len from n) ≡ ((nat_le from q && nat_lt q (from + n)) && fits)
one_of q from zero fits = grind (arith, nat_tests)
one_of q from (suc n) fits = rw (one_of q (from + 1) n fits) (joined fits) where
  joined : (fits : Bool) → ((nat_eq q from && fits) || (nat_le (from + 1) q && nat_lt q (from + 1 + n) && fits)) ≡ (nat_le from q && nat_lt q (from + suc n) && fits)
  joined true = grind (arith, nat_tests)
  joined false = grind (arith, nat_tests)

first_one : (q n : ℕ) (fits : Bool) → list_any (λ t. nat_eq q t && fits) (range_with_len 0 n) ≡ (nat_lt q n && fits)
first_one q n fits = one_of q 0 n fits ∙ ap (λ b. b && fits) (low q n) where
  low : (q n : ℕ) → (nat_le 0 q && nat_lt q (0 + n)) ≡ nat_lt q n
  low q n = grind (arith, nat_tests)

any_same : (f g : ℕ → Bool) → ((t : ℕ) → f t ≡ g t) → (from n : ℕ) → list_any f (range_with_len from n) ≡ list_any g (range_with_len from n)
any_same f g same from zero = refl
any_same f g same from (suc n) = rw (same from, any_same f g same (from + 1) n) refl

any_stack : (base size tiles a : ℕ) → base ≤ a → list_any (λ t. is_from base size (t * (size + 4096)) a) (range_with_len 0 tiles)
    ≡ (nat_lt ((a - base) / (size + 4096)) tiles && nat_lt ((a - base) % (size + 4096)) size)
any_stack base size tiles a low =
    let stride : ℕ = size + 4096 in
    let fits : Bool = nat_lt ((a - base) % stride) size in
    let steps : list_any (λ t. is_from base size (t * stride) a) (range_with_len 0 tiles) ≡ list_any (λ t. nat_eq ((a - base) / stride) t && fits) (range_with_len 0 tiles) =
    any_same _ _ (λ t. on_one base size stride a t low (omega arith) (omega arith)) 0 tiles in
    let one : list_any (λ t. nat_eq ((a - base) / stride) t && fits) (range_with_len 0 tiles) ≡ (nat_lt ((a - base) / stride) tiles && fits) =
    first_one ((a - base) / stride) tiles fits in
    steps ∙ one

-- the base of a layout is that of its program and settings
base_is : (w : Setup) (l : Layout) → IsLaidOut w l → stack_base w ≡ l.stack_base
base_is w l laid = sym (ap (λ (m : Layout). m.stack_base) laid.laid)

-- an address at or past the base lies on a stack by its quotient and its remainder
pub on_stack : (w : Setup) (l : Layout) (a : ℕ) → IsLaidOut w l → l.stack_base ≤ a
    → (nat_lt ((a - l.stack_base) / (w.config.stack_bytes + 4096)) w.config.tiles && nat_lt ((a - l.stack_base) % (w.config.stack_bytes + 4096)) w.config.stack_bytes) ≡ is_stack w a
on_stack w l a laid low =
    sym (subst (λ b. b ≤ a → list_any (λ t. is_from b w.config.stack_bytes (t * (w.config.stack_bytes + 4096)) a) (range_with_len 0 w.config.tiles) ≡ (nat_lt ((a - l.stack_base) / (w.config.stack_bytes + 4096)) w.config.tiles && nat_lt ((a - l.stack_base) % (w.config.stack_bytes + 4096)) w.config.stack_bytes))
    (sym (base_is w l laid)) (any_stack l.stack_base w.config.stack_bytes w.config.tiles a) (rw (base_is w l laid) low))

-- none below the base does
none_below : (base size stride a from n : ℕ) → a < base → list_any (λ t. is_from base size (t * stride) a) (range_with_len from n) ≡ false
none_below base size stride a from zero h = refl
none_below base size stride a from (suc n) h =
    let here : is_from base size (from * stride) a ≡ false = grind (arith, nat_tests) in
    rw (here, none_below base size stride a (from + 1) n h) refl

pub below_stacks : (w : Setup) (l : Layout) (a : ℕ) → IsLaidOut w l → a < l.stack_base → false ≡ is_stack w a
below_stacks w l a laid h = sym (none_below (stack_base w) w.config.stack_bytes (w.config.stack_bytes + 4096) a 0 w.config.tiles (rw (base_is w l laid) h))

-- nor past all of them
none_above : (base size stride a from n : ℕ) → size ≤ stride → base + (from + n) * stride ≤ a → list_any (λ t. is_from base size (t * stride) a) (range_with_len from n) ≡ false
none_above base size stride a from zero fits h = refl
none_above base size stride a from (suc n) fits h =
    let next : from * stride + stride ≤ (from + suc n) * stride = next_multiple from (from + suc n) stride (omega arith) in
    let last : (from + 1 + n) * stride ≡ (from + suc n) * stride = ap (λ k. k * stride) (omega arith) in
    let here : is_from base size (from * stride) a ≡ false = grind (arith, nat_tests) in
    rw (here, none_above base size stride a (from + 1) n fits (omega arith)) refl

pub above_stacks : (w : Setup) (l : Layout) (a : ℕ) → IsLaidOut w l → 2 ^ 33 ≤ a → is_stack w a ≡ false
above_stacks w l a laid h =
    let stride : ℕ = w.config.stack_bytes + 4096 in
    let same : l.heap_start ≡ (layout_of w).heap_start = ap (λ (m : Layout). m.heap_start) laid.laid in
    let low : l.heap_start ≤ 2 ^ 32 = laid.low in
    let heap : w.config.heap_bytes ≤ 2 ^ 26 = laid.heap in
    let stack : w.config.stack_bytes ≤ 2 ^ 20 = laid.stack in
    let all : w.config.tiles * stride ≤ 64 * stride = mul-le-mul_right stride laid.tiles in
    none_above (stack_base w) w.config.stack_bytes stride a 0 w.config.tiles (omega arith) (omega arith)

-- a tile's stack begins so many steps past the base, and there are at most 64
pub stack_steps : (tile tiles stride : ℕ) → tile < tiles → tiles ≤ 64 → tile * stride ≤ 64 * stride
stack_steps tile tiles stride h most = mul-le-mul_right stride (omega arith)

-- the bytes that are left on a stack from an address on
pub free_stack : (w : Setup) (l : Layout) (a : ℕ) → IsLaidOut w l → l.stack_base ≤ a → (a - l.stack_base) / (w.config.stack_bytes + 4096) < w.config.tiles
    → (a - l.stack_base) % (w.config.stack_bytes + 4096) < w.config.stack_bytes → AreFree w a (w.config.stack_bytes - (a - l.stack_base) % (w.config.stack_bytes + 4096))
free_stack w l a laid low tile place k from below =
    let size : ℕ = w.config.stack_bytes in
    let stride : ℕ = size + 4096 in
    let q : ℕ = (a - l.stack_base) / stride in
    let r : ℕ = (a - l.stack_base) % stride in
    let parts : q * stride + r ≡ a - l.stack_base = div-add-mod' (a - l.stack_base) stride in
    let base : stack_base w ≡ l.stack_base = base_is w l laid in
    let on : is_on_stack w k q ≡ true = within (stack_base w) (q * stride) size k (omega arith) (omega arith) in
    let some : is_stack w k ≡ true = list_any_at (is_on_stack w k) (range_with_len 0 w.config.tiles) q 0
    (rw length-range_with_len tile) (rw (get_or-range_with_len 0 w.config.tiles q 0 tile, zero-add q) on) in
    rw some (or_true (is_heap w k))
  where
    within : (base x size k : ℕ) → base + x ≤ k → k < base + x + size → is_from base size x k ≡ true
    within base x size k h g = grind (arith, nat_tests)

    or_true : (b : Bool) → (b || true) ≡ true
    or_true true = refl
    or_true false = refl

-- the bytes that are left of the heap window from an address on
pub free_heap : (w : Setup) (l : Layout) (a : ℕ) → IsLaidOut w l → l.heap_start ≤ a → AreFree w a (l.heap_end - a)
free_heap w l a laid low k from below =
    let start : l.heap_start ≡ heap_start w = ap (λ (m : Layout). m.heap_start) laid.laid in
    let end : l.heap_end ≡ heap_end w = ap (λ (m : Layout). m.heap_end) laid.laid in
    let inside : is_heap w k ≡ true = within (heap_start w) (heap_end w) k (omega arith) (omega arith) in
    rw inside refl
  where
    within : (start end k : ℕ) → start ≤ k → k < end → (nat_le start k && nat_lt k end) ≡ true
    within start end k h g = grind (arith, nat_tests)

-- each of them may be read and written
right_there : (w : Setup) (right : Right) (k : ℕ) → is_free w k ≡ true → has_right w right k ≡ true
right_there w Read k free = rw free refl
right_there w Write k free = rw free refl
right_there w ReadWrite k free = rw free refl

pub granted_all : (w : Setup) (right : Right) (a size : ℕ) → AreFree w a size → may w a size right ≡ true
granted_all w right a size free = each_granted w right a size (λ k from below. right_there w right k (free k from below))

-- a front of bytes that are free is free
pub fewer_free : (w : Setup) (a size most : ℕ) → size ≤ most → AreFree w a most → AreFree w a size
fewer_free w a size most h free k from below = free k from (omega arith)
