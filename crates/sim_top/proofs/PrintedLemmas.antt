-- What was printed of an answer, and what failed.
use Rattle.std.proofs.Common.{◌≡◌, ℕ, List, [], refl, sym, ap, subst, ◌∙◌, inl, inr, append-nil}
use Rattle.std.specs.Prelude.{◌⊎◌, ◌++◌, Option, Some, None, Result, Ok, Err}
use Rattle.std.specs.Option.{option_to_list}
use Rattle.sim_base.specs.declared.ends.End.{End}
use Rattle.sim_base.specs.declared.ends.End.TheVariants.{Exit, Trap as TrapEnd, Deadlock as DeadlockEnd, Budget as BudgetEnd}
use Rattle.elf_image.specs.Layout.{Setup}
use Rattle.event_journal.specs.declared.events.Event.{Event}
use Rattle.seq_driver.specs.Driven.{state_after}
use Rattle.sim_config.specs.declared.request.Request.{Request}
use Rattle.sim_config.specs.declared.request.Request.TheVariants as asked
use Rattle.sim_config.specs.Request.{meaning}
use Rattle.stats_report.specs.Report.{state_text}
use Rattle.sim_top.specs.declared.outcomes.Outcome.{Outcome}
use Rattle.sim_top.specs.declared.outcomes.Outcome.TheVariants.{Done, Written, Trap, Deadlock, Budget, Stuck, Usage, BadConfig, BadImage, BadJournal, ReadFault, WriteFault, NoMemory}
use Rattle.sim_top.specs.Stage.{Reads, ReadsWell}
use Rattle.sim_top.specs.Verdict.{Verdict, without_run, ComesTo}
use Rattle.sim_top.specs.Asked.{machine}
use Rattle.sim_top.specs.Runs.{outcome_of}
use Rattle.sim_top.specs.Commands.{stages, Decides}
use Rattle.sim_top.specs.Answer.{Stream, Writes, IsPut, Answers}
use Rattle.sim_top.specs.Causes.{faultless, Means}
use Rattle.sim_top.specs.Clauses.{IsTextOfRun, IsTextOf, IsPrinted}
use Rattle.sim_top.specs.Text.{fault_text}
use Rattle.sim_top.proofs.CauseLemmas.{Cause, IsRun, IsWritten, request_ok, request_err}

run_text : (words : List (List ℕ)) (r : Reads) (v : Verdict) (end : End) → IsTextOfRun words r v.journal end v.text → IsTextOf words r (outcome_of end) v.journal v.text
run_text words r v (Exit code) is = is
run_text words r v (TrapEnd thread cause pc) is = is
run_text words r v DeadlockEnd is = is
run_text words r v BudgetEnd is = is

refused_text : (words : List (List ℕ)) (request : Request) (r : Reads) (o : Outcome) → Cause request r o → IsTextOf words r o [] (fault_text o)
refused_text words request r (Done code) never = absurd never
refused_text words request r (Trap thread cause pc) never = absurd never
refused_text words request r Deadlock never = absurd never
refused_text words request r Budget never = absurd never
refused_text words request r _ is = refl

text_by : (words : List (List ℕ)) (meant : Option Request) (r : Reads) (v : Verdict) → meaning words ≡ meant → ComesTo (stages meant) r v
    → IsTextOf words r v.outcome v.journal v.text
text_by words None r v e (inl (well, never)) = absurd (cc (never))
text_by words None r v e (inr (o, (well, is), same)) =
    let usage : o ≡ Usage = cc (is) in
    let same' : v ≡ without_run Usage = same ∙ ap without_run usage in
    subst (λ u. IsTextOf words r u.outcome u.journal u.text) (sym same') refl
text_by words (Some request) r v e (inr (o, ends, same)) =
    subst (λ u. IsTextOf words r u.outcome u.journal u.text) (sym same) (refused_text words request r o (request_err request r o ends))
text_by words (Some request) r v e (inl is) = elim (request_ok request r v is) [
  | inl (w, has, is_asked, ran, files) ↦ subst (λ o. IsTextOf words r o v.journal v.text) (sym ran.outcome_is)
      (run_text words r v ran.end (request, e, (w, has, ran.text_is ∙ append-nil _)))
  | inr made ↦ subst (λ o. IsTextOf words r o v.journal v.text) (sym made.0) made.2
]

verdict_text : (words : List (List ℕ)) (r : Reads) (v : Verdict) → Decides words r v → IsTextOf words r v.outcome v.journal v.text
verdict_text words r v decides = text_by words (meaning words) r v refl decides

put_text : (words : List (List ℕ)) (r : Reads) (s : Stream) (v : Verdict) (o : Outcome) (journal : List Event) → Decides words r v → v.outcome ≡ o → v.journal ≡ journal → IsPut s v.text
    → (text : List ℕ) × IsTextOf words r o journal text × IsPut s text
put_text words r s v o journal decides is same put =
    (v.text, subst (λ j. IsTextOf words r o j v.text) same (subst (λ x. IsTextOf words r x v.journal v.text) is (verdict_text words r v decides)), put)

pub is_printed : (words : List (List ℕ)) (r : Reads) (s : Stream) (w : Writes) (outcome : Outcome) (journal : List Event) → Answers words r s w outcome journal
    → IsPrinted words r s outcome journal
is_printed words r s w WriteFault journal answers = tt
is_printed words r s w NoMemory journal answers = tt
is_printed words r s w _ journal answers = put_text words r s answers.0 _ journal answers.1 answers.2 answers.3 answers.4
