-- A step of one line is seen at that line alone.
use Rattle.std.proofs.Common.{◌≡◌, ℕ, cond, Bool, true, false, refl, ap, ◌∙◌, inl, inr, arith}
use Rattle.std.specs.Prelude.{nat_eq, Option, Some, None, unwrap_or}
use Rattle.std.specs.FinMap.{FinMap, get, insert, get-insert}
use Rattle.std.specs.Ordering.{nat_cmp, eq_by_cmp}
use Rattle.std.specs.Cmp.{nat_cmp_total}
use Rattle.std.proofs.lemmas.Bool.Decides.{nat_tests}
use Rattle.dir_slice.specs.Line.{Home, fresh}
use Rattle.dir_slice.specs.Directory.{zero_line, home_at}
use Rattle.dir_slice.specs.Laws.{OneLineChanges}
use Rattle.std.proofs.lemmas.Bool.{cases_Bool}

unwrap-same : (b : Bool) (h : Home) (other : Option Home) (d : Home) → unwrap_or (cond b (Some h) other) d ≡ cond b h (unwrap_or other d)
unwrap-same true h other d = refl
unwrap-same false h other d = refl

same_test : (k line : ℕ) → eq_by_cmp nat_cmp k line ≡ nat_eq k line
same_test k line = grind (arith, nat_tests)

pub home_at-insert : (homes : FinMap nat_cmp Home) (line k : ℕ) (h : Home) → home_at (insert homes line h) k ≡ cond (nat_eq k line) h (home_at homes k)
home_at-insert homes line k h =
    ap (λ found. unwrap_or found (fresh zero_line)) (get-insert nat_cmp_total homes line h k) ∙ unwrap-same (eq_by_cmp nat_cmp k line) h (get homes k) (fresh zero_line)
    ∙ ap (λ b. cond b h (home_at homes k)) (same_test k line)

unchanged : (homes : FinMap nat_cmp Home) (line k : ℕ) → home_at homes k ≡ cond (nat_eq k line) (home_at homes line) (home_at homes k)
unchanged homes line k =
    elim (cases_Bool (nat_eq k line)) [
      | inl t ↦ let e : k ≡ line = grind (arith, nat_tests) in rw t (ap (home_at homes) e)
      | inr t ↦ rw t refl
    ]

pub one_line_changes : OneLineChanges
one_line_changes homes line k None = unchanged homes line k
one_line_changes homes line k (Some step) = home_at-insert homes line k step.home
