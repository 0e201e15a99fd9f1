-- What is accepted is completed.
use Rattle.std.proofs.Common.{◌≡◌, ℕ, ◌<◌, List, refl, sym, ap, subst, ◌∙◌, inl, inr, arith}
use Rattle.std.specs.Prelude.{◌⊎◌, [], Option, Some, None, Ok, Err}
use Rattle.std.proofs.lemmas.Option.{same_Some, none-some}
use Rattle.sim_base.specs.declared.ends.End.{End}
use Rattle.sim_base.specs.declared.ends.End.TheVariants.{Exit, Trap as TrapEnd, Deadlock as DeadlockEnd, Budget as BudgetEnd}
use Rattle.sim_outside.specs.Fault.{Rose, raised}
use Rattle.sim_base.specs.declared.settings.Field.{Field}
use Rattle.elf_image.specs.declared.refusal.ImageFault.{ImageFault}
use Rattle.elf_image.specs.Layout.{Setup}
use Rattle.sim_top.specs.declared.outcomes.JournalFault.{JournalFault}
use Rattle.event_journal.specs.declared.events.Event.{Event}
use Rattle.sim_config.specs.declared.request.Request.{Request}
use Rattle.sim_config.specs.Request.{workload_name}
use Rattle.sim_config.specs.Request.{meaning}
use Rattle.sim_top.specs.declared.outcomes.Outcome.{Outcome}
use Rattle.sim_top.specs.declared.outcomes.Outcome.TheVariants.{Done, Written, Trap, Deadlock, Budget, Stuck, Usage, BadConfig, BadImage, BadJournal, ReadFault, WriteFault, NoMemory}
use Rattle.sim_top.specs.Stage.{Reads}
use Rattle.sim_top.specs.Asked.{machine}
use Rattle.sim_top.specs.Answer.{Stream, Writes, Answers}
use Rattle.sim_top.specs.Causes.{faultless, IsToldWell, Means, DrawsRun, RefusesJournal, EndsSo, Because, HasCause, IsAccepted, IsCompleted, Complete}
use Rattle.sim_top.proofs.WhyLemmas.{never_refused, nothing_replayed, settings_ends, machine_ends, journal_ends}
use Rattle.sim_top.proofs.LawLemmas.{not_risen}
use Rattle.sim_top.proofs.EndLemmas.{accepted_once, no_cause}
use Rattle.sim_top.proofs.AnswerLemmas.{has_cause}

module _ (request : Request) (r : Reads) (well : IsToldWell r) where
  journal_accepted : (w : Setup) → DrawsRun request → (fault : JournalFault) → RefusesJournal r request fault → ⊥
  journal_accepted w draws fault (u, has, inl is) = nothing_replayed request (faultless r) (Err (BadJournal fault)) draws.1 is
  journal_accepted w draws fault (u, has, inr (events, is, refuses)) = nothing_replayed request (faultless r) (Ok events) draws.1 is

  not_config : IsAccepted r request → (field : Field) → Because r request [] (BadConfig field) → ⊥
  not_config (inl (name, named)) field is =
      never_refused request name (faultless r) (BadConfig field) named (machine_ends request (faultless r) (BadConfig field) (settings_ends request (faultless r) (BadConfig field) is))
  not_config (inr (inl (w, has, draws))) field is = accepted_once request r well w (BadConfig field) (λ e. cc (e)) has (settings_ends request (faultless r) (BadConfig field) is)
  not_config (inr (inr (journal, end, ends))) field is = no_cause request r well journal end ends (BadConfig field) is

  not_image : IsAccepted r request → (fault : ImageFault) → Because r request [] (BadImage fault) → ⊥
  not_image (inl (name, named)) fault is = never_refused request name (faultless r) (BadImage fault) named (machine_ends request (faultless r) (BadImage fault) is)
  not_image (inr (inl (w, has, draws))) fault is = accepted_once request r well w (BadImage fault) (λ e. cc (e)) has is
  not_image (inr (inr (journal, end, ends))) fault is = no_cause request r well journal end ends (BadImage fault) is

  not_journal : IsAccepted r request → (fault : JournalFault) → RefusesJournal r request fault → ⊥
  not_journal (inl (name, named)) fault is = never_refused request name (faultless r) (BadJournal fault) named (journal_ends request r fault is)
  not_journal (inr (inl (w, has, draws))) fault is = journal_accepted w draws fault is
  not_journal (inr (inr (journal, end, ends))) fault is = no_cause request r well journal end ends (BadJournal fault) is

  completed : (outcome : Outcome) (journal : List Event) → IsAccepted r request → Because r request journal outcome → IsCompleted r request outcome journal
  completed (Done code) journal accepted is = (Exit code, refl, is)
  completed (Trap t c p) journal accepted is = (TrapEnd t c p, refl, is)
  completed Deadlock journal accepted is = (DeadlockEnd, refl, is)
  completed Budget journal accepted is = (BudgetEnd, refl, is)
  completed Written journal accepted is = is
  completed Stuck journal accepted is = is
  completed ReadFault journal accepted (name, read, rises) = absurd (not_risen r name well rises)
  completed (BadConfig field) journal accepted is = absurd (not_config accepted field is)
  completed (BadImage fault) journal accepted is = absurd (not_image accepted fault is)
  completed (BadJournal fault) journal accepted is = absurd (not_journal accepted fault is)
  completed Usage journal accepted never = absurd never
  completed WriteFault journal accepted never = absurd never
  completed NoMemory journal accepted never = absurd never

-- the request is the one that the words mean
for_request : (words : List (List ℕ)) (request : Request) (r : Reads) (outcome : Outcome) (journal : List Event) → meaning words ≡ Some request
    → Means words (λ asked. Because r asked journal outcome) → Because r request journal outcome
for_request words request r outcome journal meant (other, means, is) =
    subst (λ q. Because r q journal outcome) (same_Some other request (sym means ∙ meant)) is

pub complete : Complete
complete words r s w NoMemory journal request well calm kept meant accepted answers = tt
complete words r s w Usage journal request well calm kept meant accepted answers = absurd (none-some request (sym (has_cause words r s w Usage journal answers) ∙ meant))
complete words r s w WriteFault journal request well calm kept meant accepted answers = elim (has_cause words r s w WriteFault journal answers) [
  | inl rose ↦ absurd (omega arith)
  | inr means ↦ let fewer = kept means.2.0 in let rose : Rose (w.before means.2.0) (w.now means.2.0) = means.2.2 in absurd (omega arith)
]
complete words r s w (Done code) journal request well calm kept meant accepted answers =
    completed request r well (Done code) journal accepted (for_request words request r (Done code) journal meant (has_cause words r s w (Done code) journal answers))
complete words r s w (Trap t c p) journal request well calm kept meant accepted answers =
    completed request r well (Trap t c p) journal accepted (for_request words request r (Trap t c p) journal meant (has_cause words r s w (Trap t c p) journal answers))
complete words r s w Deadlock journal request well calm kept meant accepted answers =
    completed request r well Deadlock journal accepted (for_request words request r Deadlock journal meant (has_cause words r s w Deadlock journal answers))
complete words r s w Budget journal request well calm kept meant accepted answers =
    completed request r well Budget journal accepted (for_request words request r Budget journal meant (has_cause words r s w Budget journal answers))
complete words r s w Written journal request well calm kept meant accepted answers =
    completed request r well Written journal accepted (for_request words request r Written journal meant (has_cause words r s w Written journal answers))
complete words r s w Stuck journal request well calm kept meant accepted answers =
    completed request r well Stuck journal accepted (for_request words request r Stuck journal meant (has_cause words r s w Stuck journal answers))
complete words r s w ReadFault journal request well calm kept meant accepted answers =
    completed request r well ReadFault journal accepted (for_request words request r ReadFault journal meant (has_cause words r s w ReadFault journal answers))
complete words r s w (BadConfig f) journal request well calm kept meant accepted answers =
    completed request r well (BadConfig f) journal accepted (for_request words request r (BadConfig f) journal meant (has_cause words r s w (BadConfig f) journal answers))
complete words r s w (BadImage f) journal request well calm kept meant accepted answers =
    completed request r well (BadImage f) journal accepted (for_request words request r (BadImage f) journal meant (has_cause words r s w (BadImage f) journal answers))
complete words r s w (BadJournal f) journal request well calm kept meant accepted answers =
    completed request r well (BadJournal f) journal accepted (for_request words request r (BadJournal f) journal meant (has_cause words r s w (BadJournal f) journal answers))
