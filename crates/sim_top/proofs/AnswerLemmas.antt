-- What is answered tells why; and what is accepted is completed.
use Rattle.std.proofs.Common.{◌≡◌, ℕ, ◌<◌, List, [], refl, sym, ap, subst, ◌∙◌, inl, inr, arith}
use Rattle.std.specs.Prelude.{◌⊎◌, ◌↔◌, Option, Some, None, Result, Ok, Err}
use Rattle.std.proofs.lemmas.Option.{same_Some, none-some}
use Rattle.sim_base.specs.declared.ends.End.{End}
use Rattle.sim_base.specs.declared.ends.End.TheVariants.{Exit, Trap as TrapEnd, Deadlock as DeadlockEnd, Budget as BudgetEnd}
use Rattle.sim_outside.specs.Fault.{Rose, raised}
use Rattle.event_journal.specs.declared.events.Event.{Event}
use Rattle.sim_config.specs.declared.request.Request.{Request}
use Rattle.sim_config.specs.Request.{meaning}
use Rattle.sim_top.specs.declared.outcomes.Outcome.{Outcome}
use Rattle.sim_top.specs.declared.outcomes.Outcome.TheVariants.{Done, Written, Trap, Deadlock, Budget, Stuck, Usage, BadConfig, BadImage, BadJournal, ReadFault, WriteFault, NoMemory}
use Rattle.sim_top.specs.Stage.{Reads}
use Rattle.sim_top.specs.Verdict.{Verdict, ComesTo}
use Rattle.sim_top.specs.Commands.{stages, Decides}
use Rattle.sim_top.specs.Answer.{Stream, Writes, Answers}
use Rattle.sim_top.specs.Causes.{Means, Because, HasCause, IsCoherentRun}
use Rattle.sim_top.proofs.CauseLemmas.{IsRun, IsWritten, request_ok}
use Rattle.sim_top.proofs.LawLemmas.{told_why, usage_is_exact, write_fault_has_cause}

-- why

because : (words : List (List ℕ)) (r : Reads) (v : Verdict) (o : Outcome) (journal : List Event) → (Usage ≡ o → ⊥) → Decides words r v → v.outcome ≡ o → v.journal ≡ journal
    → Means words (λ request. Because r request journal o)
because words r v o journal not decides is same =
    let why = told_why words r v o not decides is in
    (why.0, why.1, subst (λ j. Because r why.0 j o) same why.2)

pub has_cause : (words : List (List ℕ)) (r : Reads) (s : Stream) (w : Writes) (outcome : Outcome) (journal : List Event) → Answers words r s w outcome journal
    → HasCause words r s w outcome journal
has_cause words r s w NoMemory journal answers = tt
has_cause words r s w WriteFault journal answers = write_fault_has_cause words r s w journal answers
has_cause words r s w Usage journal (v, decides, is, same, put, written) = (usage_is_exact words r v decides).0 is
has_cause words r s w (Done code) journal (v, decides, is, same, put, written) = because words r v (Done code) journal (λ e. cc (e)) decides is same
has_cause words r s w (Trap t c p) journal (v, decides, is, same, put, written) = because words r v (Trap t c p) journal (λ e. cc (e)) decides is same
has_cause words r s w Deadlock journal (v, decides, is, same, put, written) = because words r v Deadlock journal (λ e. cc (e)) decides is same
has_cause words r s w Budget journal (v, decides, is, same, put, written) = because words r v Budget journal (λ e. cc (e)) decides is same
has_cause words r s w Written journal (v, decides, is, same, put, written) = because words r v Written journal (λ e. cc (e)) decides is same
has_cause words r s w Stuck journal (v, decides, is, same, put, written) = because words r v Stuck journal (λ e. cc (e)) decides is same
has_cause words r s w (BadConfig f) journal (v, decides, is, same, put, written) = because words r v (BadConfig f) journal (λ e. cc (e)) decides is same
has_cause words r s w (BadImage f) journal (v, decides, is, same, put, written) = because words r v (BadImage f) journal (λ e. cc (e)) decides is same
has_cause words r s w (BadJournal f) journal (v, decides, is, same, put, written) = because words r v (BadJournal f) journal (λ e. cc (e)) decides is same
has_cause words r s w ReadFault journal (v, decides, is, same, put, written) = because words r v ReadFault journal (λ e. cc (e)) decides is same

-- the run

-- (the file of a workload goes with an empty journal)

coherent_by : (words : List (List ℕ)) (meant : Option Request) (r : Reads) (v : Verdict) → meaning words ≡ meant → ComesTo (stages meant) r v → IsCoherentRun words r v.journal
coherent_by words None r v e (inl (well, never)) = absurd (cc (never))
coherent_by words None r v e (inr (o, ends, same)) = inl (ap (λ u. u.journal) same)
coherent_by words (Some request) r v e (inr (o, ends, same)) = inl (ap (λ u. u.journal) same)
coherent_by words (Some request) r v e (inl is) = elim (request_ok request r v is) [
  | inl (w, has, asked, ran, files) ↦ inr (request, e, (w, has, ran.run, ran.coherent))
  | inr made ↦ inl made.1
]

coherent_verdict : (words : List (List ℕ)) (r : Reads) (v : Verdict) (journal : List Event) → Decides words r v → v.journal ≡ journal → IsCoherentRun words r journal
coherent_verdict words r v journal decides same = subst (IsCoherentRun words r) same (coherent_by words (meaning words) r v refl decides)

pub coherent_run : (words : List (List ℕ)) (r : Reads) (s : Stream) (w : Writes) (outcome : Outcome) (journal : List Event) → Answers words r s w outcome journal
    → IsCoherentRun words r journal
coherent_run words r s w NoMemory journal answers = inl answers.0
coherent_run words r s w WriteFault journal answers = coherent_verdict words r answers.0 journal answers.1 answers.2
coherent_run words r s w _ journal answers = coherent_verdict words r answers.0 journal answers.1 answers.3
