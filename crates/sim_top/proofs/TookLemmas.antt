-- What a stream takes, piece after piece.
use Rattle.std.proofs.Common.{◌≡◌, ℕ, List, ◌++◌, ◌&&◌, false, ap, subst, ◌∙◌, arith, append_assoc}
use Rattle.std.specs.Prelude.{◌==◌, nat_lt, Option, Some, None}
use Rattle.std.proofs.lemmas.Bool.Decides.{nat_tests}
use Rattle.sim_outside.specs.Fault.{Counts}
use Rattle.sim_outside.specs.Told.{Took}

-- one piece, and then another
pub Took-append : (before mid now : Option (List ℕ)) (xs ys : List ℕ) → Took before mid xs → Took mid now ys → Took before now (xs ++ ys)
Took-append None mid now xs ys first second = tt
Took-append (Some taken) mid now xs ys first second =
    let second' : Took (Some (taken ++ xs)) now ys = subst (λ m. Took m now ys) first second in
    second' ∙ ap Some (append_assoc taken xs ys)

-- where some bytes were taken there was no fault
pub some_is_no_fault : (k size before now : ℕ) → (k ≡ 0 → ⊥) → Counts ((k == 0) && nat_lt 0 size) before now → now ≡ before
some_is_no_fault k size before now some counts =
    let not_none : (k == 0) ≡ false = grind (arith, nat_tests) in
    rw not_none at counts
