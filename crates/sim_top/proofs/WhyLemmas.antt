-- What the outcome of a verdict tells of the request and the files, and the other way round.
use Rattle.std.proofs.Common.{◌≡◌, ℕ, zero, suc, List, refl, sym, ap, subst, ◌∙◌, inl, inr, arith}
use Rattle.std.specs.Prelude.{◌⊎◌, [], ◌∷◌, Option, Some, None, Result, Ok, Err, slice_get}
use Rattle.std.specs.List.{Contains}
use Rattle.std.specs.Option.{option_to_list}
use Rattle.std.proofs.lemmas.Option.{same_Some, none-some}
use Rattle.sim_base.specs.declared.ends.End.{End}
use Rattle.sim_base.specs.declared.ends.End.TheVariants.{Exit, Trap as TrapEnd, Deadlock as DeadlockEnd, Budget as BudgetEnd}
use Rattle.elf_image.specs.Layout.{Setup}
use Rattle.event_journal.specs.declared.events.Event.{Event}
use Rattle.node_machine.specs.End.{end_of}
use Rattle.seq_driver.specs.Driven.{state_after, IsJournal, IsDrawn, IsStuck}
use Rattle.sim_config.specs.declared.request.Request.{Request}
use Rattle.sim_config.specs.declared.request.Request.TheVariants as asked
use Rattle.sim_config.specs.Request.{config_name, image_name, replayed_name, journal_name, workload_of, workload_name, written_names}
use Rattle.sim_config.specs.Request.{meaning}
use Rattle.sim_top.specs.declared.outcomes.FileToWrite.{FileToWrite}
use Rattle.sim_top.specs.declared.outcomes.JournalFault.{JournalFault}
use Rattle.sim_top.specs.declared.outcomes.Outcome.{Outcome}
use Rattle.sim_top.specs.declared.outcomes.Outcome.TheVariants.{Done, Written, Trap, Deadlock, Budget, Stuck, Usage, BadConfig, BadImage, BadJournal, ReadFault, WriteFault, NoMemory}
use Rattle.sim_top.specs.Stage.{Reads, reads, made, in_file_or}
use Rattle.sim_top.specs.Verdict.{Verdict, without_run, files_of, ComesTo}
use Rattle.sim_base.specs.declared.kinds.Kind.{Kind}
use Rattle.sim_top.specs.Asked.{journal_said, settings, image, machine, replayed}
use Rattle.sim_top.specs.Runs.{outcome_of, HasRun, IsNoRun}
use Rattle.sim_top.specs.Commands.{command_of, stages, Decides}
use Rattle.sim_top.specs.Commands.Run.{run}
use Rattle.sim_top.specs.Commands.Replay.{replay}
use Rattle.sim_top.specs.Commands.Bench.{bench}
use Rattle.sim_top.specs.Causes.{faultless, Means, DrawsRun, IsAsked, RefusesJournal, StopsStuck, EndsSo, Because}
use Rattle.sim_top.proofs.CauseLemmas.{Cause, IsRun, IsWritten, request_ok, request_err, gen_err, no_workload_ends}

-- what an outcome tells

abbrev pub Why : Request → Reads → Verdict → Outcome → Type 0
Why request r v outcome = Because r request v.journal outcome

end_why : (request : Request) (r : Reads) (v : Verdict) (end : End) → EndsSo r request v.journal end → Why request r v (outcome_of end)
end_why request r v (Exit code) is = is
end_why request r v (TrapEnd thread cause pc) is = is
end_why request r v DeadlockEnd is = is
end_why request r v BudgetEnd is = is

pub why_end : (request : Request) (r : Reads) (v : Verdict) (end : End) → Why request r v (outcome_of end) → EndsSo r request v.journal end
why_end request r v (Exit code) is = is
why_end request r v (TrapEnd thread cause pc) is = is
why_end request r v DeadlockEnd is = is
why_end request r v BudgetEnd is = is

cause_why : (request : Request) (r : Reads) (v : Verdict) (o : Outcome) → Cause request r o → Why request r v o
cause_why request r v (Done code) never = absurd never
cause_why request r v (Trap thread cause pc) never = absurd never
cause_why request r v Deadlock never = absurd never
cause_why request r v Budget never = absurd never
cause_why request r v Written never = absurd never
cause_why request r v _ is = is

ok_why : (request : Request) (r : Reads) (v : Verdict) → IsRun r request v ⊎ IsWritten request v → Why request r v v.outcome
ok_why request r v (inl (w, has, is_asked, ran, files)) =
    subst (Why request r v) (sym ran.outcome_is) (end_why request r v ran.end (record { w = w; accepted = has; asked = is_asked; run = ran.run; ended = ran.ended }))
ok_why request r v (inr (is, empty, silent, name, named, bytes, files)) = subst (Why request r v) (sym is) (name, named)

comes_why : (request : Request) (r : Reads) (v : Verdict) → ComesTo (stages (Some request)) r v → Why request r v v.outcome
comes_why request r v (inl is) = ok_why request r v (request_ok request r v is)
comes_why request r v (inr (o, ends, same)) =
    subst (Why request r v) (sym (ap (λ u. u.outcome) same)) (cause_why request r v o (request_err request r o ends))

usage_by : (r : Reads) (v : Verdict) → ComesTo (stages None) r v → v.outcome ≡ Usage
usage_by r v (inl (well, never)) = absurd (cc (never))
usage_by r v (inr (o, (well, is), same)) = let usage : o ≡ Usage = cc (is) in ap (λ u. u.outcome) same ∙ usage

words_by : (words : List (List ℕ)) (meant : Option Request) (r : Reads) (v : Verdict) → meaning words ≡ meant → ComesTo (stages meant) r v
    → ((meaning words ≡ None) × (v.outcome ≡ Usage)) ⊎ Means words (λ request. Why request r v v.outcome)
words_by words None r v e comes = inl (e, usage_by r v comes)
words_by words (Some request) r v e comes = inr (request, e, comes_why request r v comes)

pub words_why : (words : List (List ℕ)) (r : Reads) (v : Verdict) → Decides words r v
    → ((meaning words ≡ None) × (v.outcome ≡ Usage)) ⊎ Means words (λ request. Why request r v v.outcome)
words_why words r v decides = words_by words (meaning words) r v refl decides

-- requests of a workload's file

pub no_replay : (request : Request) (name : List ℕ) → workload_name request ≡ Some name → replayed_name request ≡ None
no_replay (asked.Run image config seed journal) name is = refl
no_replay (asked.Replay image journal config seed) name is = absurd (none-some name is)
no_replay (asked.Gen kind seed out) name is = refl
no_replay (asked.Bench seed) name is = refl

pub nothing_replayed : (request : Request) (r : Reads) (x : Result (List Event) Outcome) → replayed_name request ≡ None → replayed request r x → ⊥
unfolding replayed
nothing_replayed request r (Ok events) none is = (subst (λ n. in_file_or n journal_said (made (λ events. ⊥) (λ outcome. ⊥)) r (Ok events)) none is).1
nothing_replayed request r (Err o) none is = (subst (λ n. in_file_or n journal_said (made {A = List Event} (λ events. ⊥) (λ outcome. ⊥)) r (Err o)) none is).1

pub never_refused : (request : Request) (name : List ℕ) (r : Reads) (o : Outcome) → workload_name request ≡ Some name → command_of request request r (Err o) → ⊥
never_refused (asked.Run image config seed journal) name r o is ends = none-some name is
never_refused (asked.Replay image journal config seed) name r o is ends = none-some name is
never_refused (asked.Gen kind seed out) name r o is ends = gen_err (asked.Gen kind seed out) r refl o ends
never_refused (asked.Bench seed) name r o is ends = none-some name is

-- refusals, as the commands make them

pub settings_ends : (request : Request) (r : Reads) (o : Outcome) → settings request r (Err o) → machine request r (Err o)
unfolding machine
settings_ends request r o is = inl (o, is, refl)

gen_machine : (kind : Kind) (seed : ℕ) (out : List ℕ) (r : Reads) (o : Outcome) → machine (asked.Gen kind seed out) r (Err o) → ⊥
unfolding machine settings image
gen_machine kind seed out r o (inl (p, inl (q, never, e), e')) = cc (never.1)
gen_machine kind seed out r o (inl (p, inr (config, between, given, never), e')) = cc (never.1)
gen_machine kind seed out r o (inr (config, between, set, inl (p, never, e))) = no_workload_ends (Some (kind, seed)) (reads r.holds between r.after) p never
gen_machine kind seed out r o (inr (config, between, set, inr (program, between', has, never))) = cc (never.1)

pub machine_ends : (request : Request) (r : Reads) (o : Outcome) → machine request r (Err o) → command_of request request r (Err o)
unfolding run replay bench
machine_ends (asked.Run image config seed journal) r o is = inl (o, is, refl)
machine_ends (asked.Replay image journal config seed) r o is = inl (o, is, refl)
machine_ends (asked.Gen kind seed out) r o is = absurd (gen_machine kind seed out r o is)
machine_ends (asked.Bench seed) r o is = inl (o, is, refl)

pub journal_ends : (request : Request) (r : Reads) (fault : JournalFault) → RefusesJournal r request fault → command_of request request (faultless r) (Err (BadJournal fault))
unfolding replay
journal_ends (asked.Run image config seed journal) r fault (w, has, inl is) = absurd (nothing_replayed (asked.Run image config seed journal) (faultless r) _ refl is)
journal_ends (asked.Run image config seed journal) r fault (w, has, inr (events, is, refuses)) = absurd (nothing_replayed (asked.Run image config seed journal) (faultless r) _ refl is)
journal_ends (asked.Gen kind seed out) r fault (w, has, inl is) = absurd (nothing_replayed (asked.Gen kind seed out) (faultless r) _ refl is)
journal_ends (asked.Gen kind seed out) r fault (w, has, inr (events, is, refuses)) = absurd (nothing_replayed (asked.Gen kind seed out) (faultless r) _ refl is)
journal_ends (asked.Bench seed) r fault (w, has, inl is) = absurd (nothing_replayed (asked.Bench seed) (faultless r) _ refl is)
journal_ends (asked.Bench seed) r fault (w, has, inr (events, is, refuses)) = absurd (nothing_replayed (asked.Bench seed) (faultless r) _ refl is)
journal_ends (asked.Replay image journal config seed) r fault (w, has, inl is) = inr (w, r.before, has, inl (BadJournal fault, is, refl))
journal_ends (asked.Replay image journal config seed) r fault (w, has, inr (events, is, refuses)) = inr (w, r.before, has, inr (events, r.before, is, (refl, (fault, refl, refuses))))

pub stuck_ends : (request : Request) (r : Reads) → StopsStuck r request → command_of request request (faultless r) (Err Stuck)
unfolding run bench
stuck_ends (asked.Run image config seed journal) r (w, has, draws, events, is) = inr (w, r.before, has, (refl, (refl, events, is)))
stuck_ends (asked.Bench seed) r (w, has, draws, events, is) = inr (w, r.before, has, (refl, (refl, events, is)))
stuck_ends (asked.Replay image journal config seed) r (w, has, draws, events, is) = absurd (none-some journal (sym draws.1))
stuck_ends (asked.Gen kind seed out) r (w, has, draws, events, is) = absurd (none-some out (sym draws.0))

-- the names that are written to

one_name : (named : Option (List ℕ)) (bytes : List ℕ) (count : ℕ) (file : FileToWrite) → slice_get (files_of (option_to_list named) bytes) count ≡ Some file → named ≡ Some file.name
one_name None bytes count file is = absurd (none-some file is)
one_name (Some name) bytes zero file is = ap (λ (f : FileToWrite). Some f.name) (same_Some _ file is)
one_name (Some name) bytes (suc count) file is = absurd (none-some file is)

first_of : (name : List ℕ) → Contains (name ∷ []) name
first_of name = (0, omega arith, refl)

journal_is_written : (request : Request) (name : List ℕ) → journal_name request ≡ Some name → Contains (written_names request) name
journal_is_written (asked.Run image config seed journal) name is = subst (λ n. Contains (option_to_list n) name) (sym is) (first_of name)
journal_is_written (asked.Replay image journal config seed) name is = absurd (none-some name is)
journal_is_written (asked.Gen kind seed out) name is = absurd (none-some name is)
journal_is_written (asked.Bench seed) name is = absurd (none-some name is)

workload_is_written : (request : Request) (name : List ℕ) → workload_name request ≡ Some name → Contains (written_names request) name
workload_is_written (asked.Run image config seed journal) name is = absurd (none-some name is)
workload_is_written (asked.Replay image journal config seed) name is = absurd (none-some name is)
workload_is_written (asked.Gen kind seed out) name is = subst (λ n. Contains (n ∷ []) name) (sym (same_Some out name is)) (first_of name)
workload_is_written (asked.Bench seed) name is = absurd (none-some name is)

ok_writes : (request : Request) (r : Reads) (v : Verdict) (count : ℕ) (file : FileToWrite) → slice_get v.files count ≡ Some file → IsRun r request v ⊎ IsWritten request v
    → Contains (written_names request) file.name
ok_writes request r v count file here (inl (w, has, is_asked, ran, files)) =
    journal_is_written request file.name (one_name (journal_name request) _ count file (subst (λ fs. slice_get fs count ≡ Some file) files here))
ok_writes request r v count file here (inr (is, empty, silent, name, named, bytes, files)) =
    workload_is_written request file.name (named ∙ one_name (Some name) bytes count file (subst (λ fs. slice_get fs count ≡ Some file) files here))

writes_by : (words : List (List ℕ)) (meant : Option Request) (r : Reads) (v : Verdict) (count : ℕ) (file : FileToWrite) → slice_get v.files count ≡ Some file → meaning words ≡ meant
    → ComesTo (stages meant) r v → Means words (λ request. Contains (written_names request) file.name)
writes_by words None r v count file here e (inl (well, never)) = absurd (cc (never))
writes_by words None r v count file here e (inr (o, ends, same)) = absurd (none-some file (ap (λ u. slice_get u.files count) (sym same) ∙ here))
writes_by words (Some request) r v count file here e (inl is) = (request, e, ok_writes request r v count file here (request_ok request r v is))
writes_by words (Some request) r v count file here e (inr (o, ends, same)) = absurd (none-some file (ap (λ u. slice_get u.files count) (sym same) ∙ here))

pub words_write : (words : List (List ℕ)) (r : Reads) (v : Verdict) (count : ℕ) (file : FileToWrite) → slice_get v.files count ≡ Some file → Decides words r v
    → Means words (λ request. Contains (written_names request) file.name)
words_write words r v count file here decides = writes_by words (meaning words) r v count file here refl decides
