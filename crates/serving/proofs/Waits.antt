-- For whom a parked thread waits.
use Rattle.std.proofs.Common.{◌≡◌, ℕ, ◌+◌, ◌<◌, ◌==◌, Bool, true, false, cond, zero, suc, List, [], ◌∷◌, slice_get, refl, ◌∙◌, arith}
use Rattle.std.specs.Prelude.{◌||◌}
use Rattle.std.specs.List.{list_any}
use Rattle.std.specs.Option.{option_map_or}
use Rattle.std.proofs.lemmas.Bool.{eq-eqb, ne_eqb}
use Rattle.serving.specs.declared.control_data.Fate.{Fate}
use Rattle.serving.specs.ControlData.{is_joiner, joined_from}
use Rattle.serving.specs.Laws.{WaitsForWhomItJoins}

-- whether a list has a number
abbrev has : ℕ → List ℕ → Bool
has target numbers = list_any (λ number. number == target) numbers

has-cond : (b : Bool) (target number : ℕ) (rest : List ℕ) → has target (cond b (number ∷ rest) rest) ≡ cond b ((number == target) || has target rest) (has target rest)
has-cond true target number rest = refl
has-cond false target number rest = refl

-- the numbers are none below the first
none_below : (thread number target : ℕ) (fates : List Fate) → target < number → has target (joined_from thread number fates) ≡ false
none_below thread number target [] less = refl
none_below thread number target (fate ∷ fates) less =
    let apart : (number == target) ≡ false = ne_eqb number target (λ e. omega (arith, e, less)) in
    let rest : has target (joined_from thread (number + 1) fates) ≡ false = none_below thread (number + 1) target fates (omega (arith, less)) in
    has-cond (is_joiner thread fate) target number (joined_from thread (number + 1) fates) ∙ rw (apart, rest) (same (is_joiner thread fate)) where
      same : (b : Bool) → cond b false false ≡ false
      same true = refl
      same false = refl

joined_at : (thread number k target : ℕ) (fates : List Fate) → number + k ≡ target → has target (joined_from thread number fates) ≡ option_map_or (is_joiner thread) (slice_get fates k) false
joined_at thread number k target [] e = refl
joined_at thread number zero target (fate ∷ fates) e =
    let here : (number == target) ≡ true = eq-eqb number target (omega (arith, e)) in
    let rest : has target (joined_from thread (number + 1) fates) ≡ false = none_below thread (number + 1) target fates (omega (arith, e)) in
    has-cond (is_joiner thread fate) target number (joined_from thread (number + 1) fates) ∙ rw (here, rest) (itself (is_joiner thread fate)) where
      itself : (b : Bool) → cond b true false ≡ b
      itself true = refl
      itself false = refl
joined_at thread number (suc k) target (fate ∷ fates) e =
    let apart : (number == target) ≡ false = ne_eqb number target (λ same. omega (arith, e, same)) in
    has-cond (is_joiner thread fate) target number (joined_from thread (number + 1) fates) ∙ rw apart (either (is_joiner thread fate) (has target (joined_from thread (number + 1) fates)))
    ∙ joined_at thread (number + 1) k target fates (omega (arith, e)) where
      either : (b rest : Bool) → cond b rest rest ≡ rest
      either true rest = refl
      either false rest = refl

pub waits_for_whom_it_joins : WaitsForWhomItJoins
waits_for_whom_it_joins c thread target = joined_at thread 0 target target c.fates (omega arith)
