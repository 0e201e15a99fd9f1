-- Uses that are there, and forms that clap takes.
use Rattle.std.proofs.Common.{◌≡◌, true, Option, Some, None, refl, sym, subst, is_some}
use Rattle.sim_config.specs.Words.{CommandForm, Uses}
use Rattle.sim_config.specs.Inner.{IsTakenByClap}

-- uses that are there
pub some_uses : (o : Option Uses) → is_some o ≡ true → (uses : Uses) × (o ≡ Some uses)
some_uses None e = cc
some_uses (Some uses) e = (uses, refl)

-- a form that is another's is taken where that one is
pub taken_form : (lent form : CommandForm) → lent ≡ form → IsTakenByClap form → IsTakenByClap lent
taken_form lent form is taken = subst IsTakenByClap (sym is) taken
