-- What the memory that regions make has at an address.
use Rattle.std.proofs.Common.{◌≡◌, ℕ, ◌+◌, ◌-◌, ◌≤◌, Bool, true, false, cond, List, [], ◌∷◌, ◌++◌, length, refl, suc, sym, ap, ◌∙◌, ◌⊎◌, inl, inr, arith}
use Rattle.std.specs.Prelude.{nat_eq, slice_index, Option, Some}
use Rattle.std.specs.List.{flat_map}
use Rattle.std.specs.Ordering.{nat_cmp, eq_by_cmp}
use Rattle.std.specs.FinMap.{get, find, get-from_entries}
use Rattle.std.specs.Cmp.{nat_cmp_total}
use Rattle.std.proofs.lemmas.Bool.Decides.{nat_tests}
use Rattle.flat_machine.specs.declared.regions.Region.{Region}
use Rattle.flat_machine.specs.Inner.{has_address, cells, memory_of, found}

-- an address is that of the first cell, or one of those after it, or none of them
pub tied : (q s : ℕ) → q ≡ s → eq_by_cmp nat_cmp q s ≡ true
tied q s e = grind (arith, nat_tests)

pub untied : (q s : ℕ) → (q ≡ s → ⊥) → eq_by_cmp nat_cmp q s ≡ false
untied q s e = grind (arith, nat_tests)

pub here : (q start n : ℕ) → q ≡ start → has_address start (suc n) q ≡ true
here q start n e = grind (arith, nat_tests)

pub beyond : (q start n : ℕ) → (q ≡ start → ⊥) → has_address (start + 1) n q ≡ has_address start (suc n) q
beyond q start n e = grind (arith, nat_tests)

above : (q start n : ℕ) → has_address start n q ≡ true → start ≤ q
above q start n h = grind (arith, nat_tests)

-- the byte of the first cell, and of those after it
first_byte : (b : ℕ) (bs : List ℕ) (i : ℕ) → i ≡ 0 → slice_index (b ∷ bs) i ≡ b
first_byte b bs i e = rw e refl

later_byte : (b : ℕ) (bs : List ℕ) (i j : ℕ) → i ≡ suc j → slice_index (b ∷ bs) i ≡ slice_index bs j
later_byte b bs i j e = rw e refl

pub same_test : (q start : ℕ) → (q ≡ start) ⊎ (q ≡ start → ⊥)
same_test q start = elim (nat_eq q start) as (λ t. nat_eq q start ≡ t → (q ≡ start) ⊎ (q ≡ start → ⊥)) [ true ↦ λ e. inl (grind (arith, nat_tests)) | false ↦ λ e. inr (λ h. grind (arith, nat_tests)) ] refl

chosen_same : (t : Bool) (x y : ℕ) (other : Option ℕ) → (t ≡ true → x ≡ y) → cond t (Some x) other ≡ cond t (Some y) other
chosen_same true x y other e = ap Some (e refl)
chosen_same false x y other e = refl

pub find-cells : (q start : ℕ) (bytes : List ℕ) (es : List (ℕ × ℕ))
    → find nat_cmp q (cells start bytes ++ es) ≡ cond (has_address start (length bytes) q) (Some (slice_index bytes (q - start))) (find nat_cmp q es)
find-cells q start [] es = let none : has_address start 0 q ≡ false = grind (arith, nat_tests) in rw none refl
find-cells q start (b ∷ bs) es =
    elim (same_test q start) [
      | inl e ↦ rw (tied q start e, here q start (length bs) e, first_byte b bs (q - start) (omega arith)) refl
      | inr e ↦ rw (untied q start e, find-cells q (start + 1) bs es, ← beyond q start (length bs) e)
          (chosen_same _ _ _ _ (λ (t : has_address (start + 1) (length bs) q ≡ true). let low : start + 1 ≤ q = above q (start + 1) (length bs) t in sym (later_byte b bs (q - start) (q - (start + 1)) (omega arith))))
    ]

-- the memory that regions make has at an address what the first region with it has
pub find-regions : (q : ℕ) (rs : List Region) → find nat_cmp q (flat_map (λ r. cells r.start r.bytes) rs) ≡ found rs q
find-regions q [] = refl
find-regions q (r ∷ rs) = find-cells q r.start r.bytes _ ∙ ap (cond (has_address r.start (length r.bytes) q) (Some (slice_index r.bytes (q - r.start)))) (find-regions q rs)

pub get-memory_of : (rs : List Region) (q : ℕ) → get (memory_of rs) q ≡ found rs q
unfolding memory_of
get-memory_of rs q = get-from_entries nat_cmp_total _ q ∙ find-regions q rs
