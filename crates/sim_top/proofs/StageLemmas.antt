-- How stages go one after the other, in the code's answers.
use Rattle.std.proofs.Common.{◌≡◌, ℕ, List, refl, subst, inl, inr}
use Rattle.std.specs.Prelude.{Result, Ok, Err}
use Rattle.sim_outside.specs.Told.{Contents}
use Rattle.sim_top.specs.declared.outcomes.Halt.{Halt}
use Rattle.sim_top.specs.declared.outcomes.Halt.TheVariants.{Refused, NoMemory}
use Rattle.sim_top.specs.Stage.{Reads, Stage, reads, and_then}
use Rattle.sim_top.specs.Inner.{Tells}

-- where the first ends the call, both do
pub told_halt : {A B : Type 0} (first : Stage A) (next : A → Stage B) (r : Reads) (halt : Halt) → Tells first r (Err halt)
    → Tells (and_then first next) r (Err halt)
told_halt first next r (Refused outcome) is = inl (outcome, is, refl)
told_halt first next r NoMemory is = tt

-- where the first gives something, the answer is that of the next
pub told_then : {A B : Type 0} (first : Stage A) (next : A → Stage B) (holds kept : Contents) (before between after : List ℕ → ℕ) (a : A) (answer : Result B Halt)
    → kept ≡ holds → first (reads holds before between) (Ok a) → Tells (next a) (reads kept between after) answer
    → Tells (and_then first next) (reads holds before after) answer
told_then first next holds kept before between after a (Ok b) same is told =
    inr (a, between, is, subst (λ h. next a (reads h between after) (Ok b)) same told)
told_then first next holds kept before between after a (Err (Refused outcome)) same is told =
    inr (a, between, is, subst (λ h. next a (reads h between after) (Err outcome)) same told)
told_then first next holds kept before between after a (Err NoMemory) same is told = tt
