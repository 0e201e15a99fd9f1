-- What a verdict's outcome can be, and what is answered of it.
use Rattle.std.proofs.Common.{◌≡◌, ℕ, List, refl, sym, ap, subst, ◌∙◌, inl, inr}
use Rattle.std.specs.Prelude.{Option, Some, None, Ok, Err}
use Rattle.sim_base.specs.declared.ends.End.{End}
use Rattle.sim_base.specs.declared.ends.End.TheVariants.{Exit, Trap, Deadlock, Budget}
use Rattle.event_journal.specs.declared.events.Event.{Event}
use Rattle.sim_config.specs.declared.request.Request.{Request}
use Rattle.sim_config.specs.Request.{meaning}
use Rattle.sim_top.specs.declared.outcomes.Outcome.{Outcome}
use Rattle.sim_top.specs.declared.outcomes.Outcome.TheVariants.{Usage, WriteFault, NoMemory}
use Rattle.sim_top.specs.Stage.{Reads}
use Rattle.sim_top.specs.Verdict.{Verdict, without_run, ComesTo}
use Rattle.sim_top.specs.Runs.{outcome_of}
use Rattle.sim_top.specs.Commands.{stages, Decides}
use Rattle.sim_top.specs.Answer.{Stream, Writes, IsPut, HasWritten, Answers}
use Rattle.sim_top.specs.declared.outcomes.Decision.{Decision}
use Rattle.sim_top.specs.Inner.{decided, Stores}
use Rattle.sim_top.proofs.CauseLemmas.{Cause, request_ok, request_err}

-- no verdict is a fault of writing or want of memory

abbrev CanBeDecided : Outcome → Type 0
CanBeDecided WriteFault = ⊥
CanBeDecided NoMemory = ⊥
CanBeDecided _ = Unit {0}

end_can : (end : End) → CanBeDecided (outcome_of end)
end_can (Exit code) = tt
end_can (Trap thread cause pc) = tt
end_can Deadlock = tt
end_can Budget = tt

cause_can : (request : Request) (r : Reads) (o : Outcome) → Cause request r o → CanBeDecided o
cause_can request r WriteFault never = never
cause_can request r NoMemory never = never
cause_can request r _ is = tt

can_by : (meant : Option Request) (r : Reads) (v : Verdict) → ComesTo (stages meant) r v → CanBeDecided v.outcome
can_by None r v (inl (well, never)) = absurd (cc (never))
can_by None r v (inr (o, (well, is), same)) = let usage : v.outcome ≡ Usage = ap (λ u. u.outcome) same ∙ cc in subst CanBeDecided (sym usage) tt
can_by (Some request) r v (inr (o, ends, same)) =
    subst CanBeDecided (sym (ap (λ u. u.outcome) same)) (cause_can request r o (request_err request r o ends))
can_by (Some request) r v (inl is) = elim (request_ok request r v is) [
  | inl (w, has, asked, run, files) ↦ subst CanBeDecided (sym run.outcome_is) (end_can run.end)
  | inr written ↦ subst CanBeDecided (sym written.0) tt
]

can_be_decided : (words : List (List ℕ)) (r : Reads) (v : Verdict) → Decides words r v → CanBeDecided v.outcome
can_be_decided words r v decides = can_by (meaning words) r v decides

-- the outcome and the journal of a verdict that was put and written

answered_by : (words : List (List ℕ)) (r : Reads) (s : Stream) (w : Writes) (v : Verdict) (outcome : Outcome) → v.outcome ≡ outcome → CanBeDecided outcome
    → Decides words r v → IsPut s v.text → HasWritten w v.files → Answers words r s w outcome v.journal
answered_by words r s w v WriteFault is never decides put written = absurd never
answered_by words r s w v NoMemory is never decides put written = absurd never
answered_by words r s w v _ is can decides put written = (v, decides, is, refl, put, written)

module _ (words : List (List ℕ)) (r : Reads) (s : Stream) (w : Writes) (d : Decision) (outcome : Outcome) (journal : List Event)
    (decides : Decides words r (decided d)) (put : IsPut s d.text) where
  pub stored : Stores d outcome journal w → Answers words r s w outcome journal
  stored (inl (is, same, written)) =
      rw (is, same) (answered_by words r s w (decided d) d.outcome refl (can_be_decided words r (decided d) decides) decides put written)
  stored (inr (inl (is, same, failed))) = rw (is, same) (decided d, decides, refl, inr (put, failed))
  stored (inr (inr (is, none, count, fewer, written))) =
      rw (is, none) (refl, inr (decided d, decides, record { text = put; count = count; fewer = fewer; files = written }))
