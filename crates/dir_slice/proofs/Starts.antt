-- The lines that are put before the program runs are those of the start.
use Rattle.std.proofs.Common.{◌≡◌, ℕ, ◌+◌, ◌-◌, ◌/◌, ◌==◌, ◌≤◌, ◌&&◌, Bool, true, false, cond, List, [], ◌∷◌, length, map, take, subst, zero, suc, refl, sym, ap, ◌∙◌, inl, inr, arith, eq-eqb}
use Rattle.std.specs.Prelude.{◌⊎◌, nat_eq, nat_le, nat_lt, Option, Some, None}
use Rattle.std.specs.List.{range_with_len, flat_map}
use Rattle.std.specs.FinMap.{FinMap, get, insert, empty, find, get-empty, get-insert, get-from_entries, same_map, nat_cmp-IsAntisymmetric}
use Rattle.std.specs.Ordering.{nat_cmp, eq_by_cmp}
use Rattle.std.specs.Cmp.{nat_cmp_total}
use Rattle.std.proofs.lemmas.Bool.Decides.{nat_tests}
use Rattle.std.proofs.lemmas.List.{take_all}
use Rattle.std.proofs.lemmas.Map.Views.{any-filter_same, exact_unsigned_eq}
use Rattle.sim_base.specs.Numbering.{home_of}
use Rattle.elf_image.specs.declared.program.Segment.{Segment}
use Rattle.elf_image.specs.Layout.{Setup, initial_line}
use Rattle.dir_slice.specs.Line.{Home, fresh}
use Rattle.dir_slice.specs.Inner.{has, PutsLines, AreWithin}
use Rattle.dir_slice.specs.Directory.{file_lines, homed_lines, start_homes}
use Rattle.dir_slice.proofs.Slices.{fresh_within, chosen_within}

same_test : (q line : ℕ) → (q ≡ line) ⊎ (q ≡ line → ⊥)
same_test q line = elim (nat_eq q line) as (λ t. nat_eq q line ≡ t → (q ≡ line) ⊎ (q ≡ line → ⊥)) [ true ↦ λ e. inl (grind (arith, nat_tests)) | false ↦ λ e. inr (λ h. grind (arith, nat_tests)) ] refl

tied : (q line : ℕ) → q ≡ line → eq_by_cmp nat_cmp q line ≡ true
tied q line e = grind (arith, nat_tests)

untied : (q line : ℕ) → (q ≡ line → ⊥) → eq_by_cmp nat_cmp q line ≡ false
untied q line e = grind (arith, nat_tests)

neither : (b : Bool) (x y : Option Home) → cond (b && false) x y ≡ y
neither true x y = refl
neither false x y = refl

-- a line was put at its home
pub line_put : (w : Setup) (tile line : ℕ) (old new : FinMap nat_cmp Home) (h : Home) → home_of w.config line ≡ tile → h ≡ fresh (initial_line w line) → new ≡ insert old line h
    → PutsLines w tile (λ q. q == line) old new
line_put w tile line old new h homed is put q =
    elim (same_test q line) [
      | inl e ↦ let t : nat_eq q line ≡ true = eq-eqb q line e in
          let at_home : nat_eq (home_of w.config q) tile ≡ true = eq-eqb _ _ (ap (home_of w.config) e ∙ homed) in
          let here : get new q ≡ Some h = rw (put, get-insert nat_cmp_total old line h q, tied q line e) refl in
          here ∙ rw (at_home, t) (ap Some (is ∙ ap (λ l. fresh (initial_line w l)) (sym e)))
      | inr e ↦ let t : nat_eq q line ≡ false = grind (arith, nat_tests) in
          let there : get new q ≡ get old q = rw (put, get-insert nat_cmp_total old line h q, untied q line e) refl in
          there ∙ rw t (sym (neither (nat_eq (home_of w.config q) tile) (Some (fresh (initial_line w q))) (get old q)))
    ]

-- a range has the lines from its start on
pub any-range : (q n start : ℕ) → has (range_with_len start n) q ≡ (nat_le start q && nat_lt q (start + n))
any-range q zero start = sym (let e : (nat_le start q && nat_lt q (start + 0)) ≡ false = grind (arith, nat_tests) in e)
any-range q (suc n) start =
    elim (same_test q start) [
      | inl e ↦ let t : nat_eq q start ≡ true = eq-eqb q start e in let u : (nat_le start q && nat_lt q (start + suc n)) ≡ true = grind (arith, nat_tests) in rw (t, u) refl
      | inr e ↦ let t : nat_eq q start ≡ false = grind (arith, nat_tests) in
          let u : (nat_le (start + 1) q && nat_lt q (start + 1 + n)) ≡ (nat_le start q && nat_lt q (start + suc n)) = grind (arith, nat_tests) in
          rw (t, any-range q n (start + 1)) u
    ]

find-mapped : (f : ℕ → Home) (q : ℕ) (lines : List ℕ) → find nat_cmp q (map (λ line. (line, f line)) lines) ≡ cond (has lines q) (Some (f q)) None
find-mapped f q [] = refl
find-mapped f q (line ∷ lines) =
    elim (same_test q line) [
      | inl e ↦ let t : nat_eq q line ≡ true = eq-eqb q line e in rw (tied q line e, t) (ap (λ a. Some (f a)) (sym e))
      | inr e ↦ let t : nat_eq q line ≡ false = grind (arith, nat_tests) in rw (untied q line e, t) (find-mapped f q lines)
    ]

-- the lines of a segment's file, and those of a tile's start
pub segment_put : (w : Setup) (tile : ℕ) (s : Segment) (old new : FinMap nat_cmp Home) (len end : ℕ) → len ≡ length s.bytes → (len ≡ 0 → ⊥) → (s.vaddr + len - 1) / 64 + 1 ≤ end
    → (s.vaddr / 64 ≤ (s.vaddr + len - 1) / 64 + 1 → end ≤ (s.vaddr + len - 1) / 64 + 1) → PutsLines w tile (λ q. nat_le (s.vaddr / 64) q && nat_lt q end) old new
    → PutsLines w tile (has (file_lines s)) old new
segment_put w tile s old new len end len_is some low high puts q =
    let t : nat_eq (length s.bytes) 0 ≡ false = grind (arith, nat_tests) in
    let first : ℕ = s.vaddr / 64 in
    let last : ℕ = (s.vaddr + len - 1) / 64 in
    let rises : first ≤ last = omega arith in
    let end_is : end ≡ last + 1 = omega (arith, high (omega arith)) in
    let file : has (file_lines s) q ≡ has (range_with_len first (last - first + 1)) q = rw (t, len_is) refl in
    let size : first + (last - first + 1) ≡ end = omega arith in
    let e : (nat_le first q && nat_lt q end) ≡ has (file_lines s) q
    = sym (file ∙ any-range q (last - first + 1) first ∙ ap (λ end. nat_le first q && nat_lt q end) size) in
    puts q ∙ ap (λ b. cond (nat_eq (home_of w.config q) tile && b) (Some (fresh (initial_line w q))) (get old q)) e

-- what the slice of the start has of a line
pub get-start : (w : Setup) (tile q : ℕ) → get (start_homes w tile) q
    ≡ cond (nat_eq (home_of w.config q) tile && has (flat_map file_lines w.image.segments) q) (Some (fresh (initial_line w q))) None
unfolding start_homes
get-start w tile q =
    let kept : has (homed_lines w tile) q ≡ (nat_eq (home_of w.config q) tile && has (flat_map file_lines w.image.segments) q)
    = any-filter_same (nat_eq q) (λ line. home_of w.config line == tile) (nat_eq (home_of w.config q) tile) (λ k t. ap (λ l. nat_eq (home_of w.config l) tile) (sym (exact_unsigned_eq q k t)))
    (flat_map file_lines w.image.segments) in
    get-from_entries nat_cmp_total _ q ∙ find-mapped (λ line. fresh (initial_line w line)) q (homed_lines w tile) ∙ ap (λ b. cond b (Some (fresh (initial_line w q))) None) kept

start_put : (w : Setup) (tile : ℕ) (homes : FinMap nat_cmp Home) → PutsLines w tile (has (flat_map file_lines w.image.segments)) empty homes → homes ≡ start_homes w tile
start_put w tile homes puts =
    same_map nat_cmp_total nat_cmp-IsAntisymmetric _ _ (λ q. puts q
    ∙ ap (cond (nat_eq (home_of w.config q) tile && has (flat_map file_lines w.image.segments) q) (Some (fresh (initial_line w q)))) (get-empty nat_cmp q) ∙ sym (get-start w tile q))

pub lines_put : (w : Setup) (tile : ℕ) (homes : FinMap nat_cmp Home) (segments : List Segment) (n : ℕ) → segments ≡ w.image.segments → length segments ≤ n
    → PutsLines w tile (has (flat_map file_lines (take n w.image.segments))) empty homes → homes ≡ start_homes w tile
lines_put w tile homes segments n is all puts =
    let size : length w.image.segments ≤ n = subst (λ ss. length ss ≤ n) is all in
    let whole : take n w.image.segments ≡ w.image.segments = take_all n w.image.segments size in
    start_put w tile homes (subst (λ ss. PutsLines w tile (has (flat_map file_lines ss)) empty homes) whole puts)

-- nobody is known at the start
pub start_within : (w : Setup) (tile tiles : ℕ) (homes : FinMap nat_cmp Home) → homes ≡ start_homes w tile → AreWithin tiles homes
start_within w tile tiles homes is =
    λ q. let there : get homes q ≡ cond (nat_eq (home_of w.config q) tile && has (flat_map file_lines w.image.segments) q) (Some (fresh (initial_line w q))) None
    = ap (λ m. get m q) is ∙ get-start w tile q in
    rw there (chosen_within tiles (nat_eq (home_of w.config q) tile && has (flat_map file_lines w.image.segments) q) (fresh (initial_line w q)) None (fresh_within tiles (initial_line w q)) tt)
