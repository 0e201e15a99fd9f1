-- Where a run that is asked for has an end, that is the outcome.
use Rattle.std.proofs.Common.{◌≡◌, ℕ, List, refl, sym, ap, subst, ◌∙◌, inl, inr}
use Rattle.std.specs.Prelude.{◌⊎◌, ◌↔◌, Option, Some, None, Result, Ok, Err}
use Rattle.std.proofs.lemmas.Option.{same_Some, none-some}
use Rattle.sim_base.specs.declared.ends.End.{End}
use Rattle.sim_base.specs.declared.ends.End.TheVariants.{Exit, Trap as TrapEnd, Deadlock as DeadlockEnd, Budget as BudgetEnd}
use Rattle.elf_image.specs.Layout.{Setup}
use Rattle.event_journal.specs.declared.events.Event.{Event}
use Rattle.node_machine.specs.End.{end_of}
use Rattle.seq_driver.specs.Driven.{state_after, IsJournal, IsDrawn, IsStuck}
use Rattle.sim_config.specs.declared.request.Request.{Request}
use Rattle.sim_config.specs.Request.{replayed_name, workload_name}
use Rattle.sim_config.specs.Request.{meaning}
use Rattle.sim_top.specs.declared.outcomes.JournalFault.{JournalFault}
use Rattle.sim_top.specs.declared.outcomes.Outcome.{Outcome}
use Rattle.sim_top.specs.declared.outcomes.Outcome.TheVariants.{Usage, Stuck, BadConfig, BadImage, BadJournal, ReadFault}
use Rattle.sim_top.specs.Stage.{Reads, reads}
use Rattle.sim_top.specs.Verdict.{Verdict, without_run, ComesTo}
use Rattle.sim_top.specs.Asked.{machine, replayed}
use Rattle.sim_top.specs.Runs.{outcome_of, HasRun, IsNoRun}
use Rattle.sim_top.specs.Commands.{command_of, stages, Decides}
use Rattle.sim_top.specs.Causes.{faultless, IsToldWell, Means, DrawsRun, IsAsked, RefusesJournal, StopsStuck, EndsSo, EndIsExact}
use Rattle.sim_top.proofs.AlgebraLemmas.{AreOne}
use Rattle.sim_top.proofs.DrawnLemmas.{stuck_has_no_end, not_no_run}
use Rattle.sim_top.proofs.CauseLemmas.{Cause, IsRun, IsWritten, request_ok, request_err}
use Rattle.sim_top.proofs.OneLemmas.{one_machine, one_replayed}
use Rattle.sim_top.proofs.WhyLemmas.{why_end, no_replay, nothing_replayed, settings_ends}
use Rattle.sim_top.proofs.LawLemmas.{not_risen, told_why}

not_usage : (end : End) → Usage ≡ outcome_of end → ⊥
not_usage (Exit code) e = cc (e)
not_usage (TrapEnd thread cause pc) e = cc (e)
not_usage DeadlockEnd e = cc (e)
not_usage BudgetEnd e = cc (e)

oks : {A : Type 0} (a b : A) → AreOne (Ok a) (Ok b) → a ≡ b
oks a b (inl e) = absurd (cc (e))
oks a b (inr (inl e)) = absurd (cc (e))
oks a b (inr (inr e)) = cc (e)

not_both : {A : Type 0} (a : A) (o : Outcome) → (o ≡ ReadFault → ⊥) → AreOne (Ok a) (Err o) → ⊥
not_both a o not (inl e) = cc (e)
not_both a o not (inr (inl e)) = not (cc (e))
not_both a o not (inr (inr e)) = cc (e)

module _ (request : Request) (r : Reads) (well : IsToldWell r) where
  machine_is : (x : Result Setup Outcome) → machine request (faultless r) x → machine request (reads (Some well.held) r.before r.before) x
  machine_is x is = subst (λ h. machine request (reads h r.before r.before) x) well.told is

  replayed_is : (x : Result (List Event) Outcome) → replayed request (faultless r) x → replayed request (reads (Some well.held) r.before r.before) x
  replayed_is x is = subst (λ h. replayed request (reads h r.before r.before) x) well.told is

  same_machine : (w u : Setup) → machine request (faultless r) (Ok w) → machine request (faultless r) (Ok u) → w ≡ u
  same_machine w u has has' = oks w u (one_machine well.held request r.before r.before r.before r.before (Ok w) (Ok u) (machine_is (Ok w) has) (machine_is (Ok u) has'))

  pub accepted_once : (w : Setup) (o : Outcome) → (o ≡ ReadFault → ⊥) → machine request (faultless r) (Ok w) → machine request (faultless r) (Err o) → ⊥
  accepted_once w o not has refused =
      not_both w o not (one_machine well.held request r.before r.before r.before r.before (Ok w) (Err o) (machine_is (Ok w) has) (machine_is (Err o) refused))

  same_journal : (a b : List Event) → replayed request (faultless r) (Ok a) → replayed request (faultless r) (Ok b) → a ≡ b
  same_journal a b is is' = oks a b (one_replayed well.held request r.before r.before r.before r.before (Ok a) (Ok b) (replayed_is (Ok a) is) (replayed_is (Ok b) is'))

  module _ (journal : List Event) (end : End) (ends : EndsSo r request journal end) where
    not_replayed : (x : Result (List Event) Outcome) → DrawsRun request → replayed request (faultless r) x → ⊥
    not_replayed x draws is = nothing_replayed request (faultless r) x draws.1 is

    journal_refused : (fault : JournalFault) → IsAsked r request ends.w journal → RefusesJournal r request fault → ⊥
    journal_refused fault (inl (draws, drawn)) (w, has, inl is) = not_replayed (Err (BadJournal fault)) draws is
    journal_refused fault (inl (draws, drawn)) (w, has, inr (events, is, refuses)) = not_replayed (Ok events) draws is
    journal_refused fault (inr told) (w, has, inl is) =
        not_both journal (BadJournal fault) (λ e. cc (e))
        (one_replayed well.held request r.before r.before r.before r.before (Ok journal) (Err (BadJournal fault)) (replayed_is (Ok journal) told) (replayed_is (Err (BadJournal fault)) is))
    journal_refused fault (inr told) (w, has, inr (events, is, refuses)) =
        let same : ends.w ≡ w = same_machine ends.w w ends.accepted has in
        let one : journal ≡ events = same_journal journal events told is in
        not_no_run ends.w journal end fault ends.run ends.ended
        (subst (λ es. IsNoRun ends.w es fault) (sym one) (subst (λ u. IsNoRun u events fault) (sym same) refuses))

    not_stuck : IsAsked r request ends.w journal → StopsStuck r request → ⊥
    not_stuck (inl (draws, drawn)) (w, has, draws', events, is) =
        stuck_has_no_end ends.w journal events end drawn ends.ended (subst (λ u. IsStuck u events) (sym (same_machine ends.w w ends.accepted has)) is)
    not_stuck (inr told) (w, has, draws, events, is) = not_replayed (Ok journal) draws told

    pub no_cause : (o : Outcome) → Cause request r o → ⊥
    no_cause ReadFault (name, read, rises) = not_risen r name well rises
    no_cause (BadConfig field) is = accepted_once ends.w (BadConfig field) (λ e. cc (e)) ends.accepted (settings_ends request (faultless r) (BadConfig field) is)
    no_cause (BadImage fault) is = accepted_once ends.w (BadImage fault) (λ e. cc (e)) ends.accepted is
    no_cause (BadJournal fault) is = journal_refused fault ends.asked is
    no_cause Stuck is = not_stuck ends.asked is
    no_cause _ never = never

    not_written : (name : List ℕ) → workload_name request ≡ Some name → IsAsked r request ends.w journal → ⊥
    not_written name named (inl (draws, drawn)) = none-some name (sym draws.0 ∙ named)
    not_written name named (inr told) = nothing_replayed request (faultless r) (Ok journal) (no_replay request name named) told

  module _ (v : Verdict) (end : End) (ends : EndsSo r request v.journal end) where
    end_by : IsRun r request v ⊎ IsWritten request v → v.outcome ≡ outcome_of end
    end_by (inl (w, has, asked, ran, files)) =
        let same : ends.w ≡ w = same_machine ends.w w ends.accepted has in
        let ended : end_of w (state_after w v.journal) ≡ Some end = subst (λ u. end_of u (state_after u v.journal) ≡ Some end) same ends.ended in
        ran.outcome_is ∙ ap outcome_of (same_Some ran.end end (sym ran.ended ∙ ended))
    end_by (inr (is, empty, silent, name, named, bytes, files)) = absurd (not_written v.journal end ends name named ends.asked)

    pub end_due : ComesTo (stages (Some request)) r v → v.outcome ≡ outcome_of end
    end_due (inl is) = end_by (request_ok request r v is)
    end_due (inr (o, is, same)) = absurd (no_cause v.journal end ends o (request_err request r o is))

pub end_is_exact : EndIsExact
end_is_exact words r v end well decides = (
  λ is. let why = told_why words r v (outcome_of end) (not_usage end) decides is in (why.0, why.1, why_end why.0 r v end why.2),
  λ (request, meant, ends). end_due request r well v end ends (subst (λ m. ComesTo (stages m) r v) meant decides),
)
