-- Why a verdict has its outcome.
use Rattle.std.proofs.Common.{◌≡◌, ℕ, List, [], ◌∷◌, refl, sym, ap, subst, ◌∙◌, inl, inr}
use Rattle.std.specs.Prelude.{◌⊎◌, Option, Some, None, Result, Ok, Err}
use Rattle.std.specs.Option.{option_to_list}
use Rattle.std.proofs.lemmas.Option.{same_Some, none-some}
use Rattle.sim_base.specs.declared.kinds.Kind.{Kind}
use Rattle.sim_base.specs.declared.settings.Config.{Config}
use Rattle.sim_outside.specs.Fault.{RisesOnce}
use Rattle.elf_image.specs.Image.{Program, image_of}
use Rattle.elf_image.specs.File.{file_of}
use Rattle.elf_image.specs.Layout.{Setup}
use Rattle.event_journal.specs.declared.events.Event.{Event}
use Rattle.journal_file.specs.declared.refusal.JournalRefusal.{JournalRefusal}
use Rattle.journal_file.specs.declared.refusal.JournalRefusal.TheVariants.{TooLong as FileTooLong, Byte as FileByte, NoMemory as FileNoMemory}
use Rattle.journal_file.specs.Reading.{reading}
use Rattle.sim_config.specs.declared.request.Request.{Request}
use Rattle.sim_config.specs.declared.request.Request.TheVariants as asked
use Rattle.sim_config.specs.Request.{config_name, image_name, settings_unnamed, seed_of, replayed_name, journal_name, workload_of, workload_name}
use Rattle.sim_config.specs.SettingsFile.{settings as settings_in}
use Rattle.sim_config.specs.Request.{meaning}
use Rattle.seq_driver.specs.Driven.{IsDrawn, IsStuck}
use Rattle.sim_top.specs.declared.outcomes.JournalFault.{JournalFault}
use Rattle.sim_top.specs.declared.outcomes.Outcome.{Outcome}
use Rattle.sim_top.specs.declared.outcomes.Outcome.TheVariants.{Written, Stuck, Usage, BadConfig, BadImage, BadJournal, ReadFault, WriteFault, NoMemory}
use Rattle.sim_top.specs.Stage.{Reads, reads, ReadsWell, Stage, made, answered, given, FileSays, in_file, in_file_or, and_then, refused}
use Rattle.sim_top.specs.Verdict.{Verdict, without_run, files_of}
use Rattle.sim_top.specs.Asked.{settings_said, image_said, journal_said, journal_refusal, with_seed, settings, workload, image, machine, replayed}
use Rattle.sim_top.specs.Runs.{HasRun, WritesJournal, GetsStuck, RefusesEvents, drawn, followed}
use Rattle.sim_top.specs.Commands.{command_of, stages, Decides}
use Rattle.sim_top.specs.Commands.Run.{run}
use Rattle.sim_top.specs.Commands.Replay.{replay}
use Rattle.sim_top.specs.Commands.Gen.{gen}
use Rattle.sim_top.specs.Commands.Bench.{bench}
use Rattle.sim_top.specs.Causes.{faultless, IsRead, DrawsRun, IsAsked, RefusesJournal, StopsStuck}
use Rattle.sim_top.proofs.AlgebraLemmas.{IsCalm, calm_made, calm_answered, calm_file, calm_file_or, calm_then, refused_for}
use Rattle.sim_top.proofs.FileLemmas.{always_read}

-- stages are calm

calm_workload : (which : Option (Kind × ℕ)) → IsCalm (workload which)
calm_workload None r p is = is.0
calm_workload (Some (kind, seed)) r p is = is.0

pub calm_settings : (request : Request) → IsCalm (settings request)
unfolding settings
calm_settings request =
    calm_then (in_file_or (config_name request) settings_said (given (settings_unnamed request))) (λ config. given (with_seed (seed_of request) config))
    (calm_file_or (config_name request) settings_said (given (settings_unnamed request)) (calm_answered (Ok (settings_unnamed request))))
    (λ config. calm_answered (Ok (with_seed (seed_of request) config)))

pub calm_image : (request : Request) → IsCalm (image request)
unfolding image
calm_image request = calm_file_or (image_name request) image_said (workload (workload_of request)) (calm_workload (workload_of request))

pub calm_machine : (request : Request) → IsCalm (machine request)
unfolding machine
calm_machine request =
    calm_then (settings request) (λ config. and_then (image request) (λ program. given (record { config = config; image = program }))) (calm_settings request)
    (λ config. calm_then (image request) (λ program. given (record { config = config; image = program })) (calm_image request)
    (λ program. calm_answered (Ok (record { config = config; image = program }))))

pub calm_replayed : (request : Request) → IsCalm (replayed request)
unfolding replayed
calm_replayed request = calm_file_or (replayed_name request) journal_said (made (λ events. ⊥) (λ outcome. ⊥)) (calm_made (λ events. ⊥) (λ outcome. ⊥))

-- the same up to a fault
pub to_faultless : {A : Type 0} (stage : Stage A) (r : Reads) (x : Result A Outcome) → ReadsWell r → stage r x → stage (faultless r) x
to_faultless stage r x well is = subst (λ after. stage (reads r.holds r.before after) x) well is

-- why a request has no run

abbrev pub Cause : Request → Reads → Outcome → Type 0
Cause request r ReadFault = (name : List ℕ) × IsRead r request name × RisesOnce r.before r.after name
Cause request r (BadConfig field) = settings request (faultless r) (Err (BadConfig field))
Cause request r (BadImage fault) = machine request (faultless r) (Err (BadImage fault))
Cause request r (BadJournal fault) = RefusesJournal r request fault
Cause request r Stuck = StopsStuck r request
Cause request r _ = ⊥

-- a file that ends the call: it had a fault, or it is refused for a reason
abbrev FileEnds : {A E : Type 0} → Option (List ℕ) → (List ℕ → Result A E) → (E → Outcome) → Reads → Outcome → Type 0 → Type 0
FileEnds {A} {E} named says why r o Other =
    ((name : List ℕ) × (named ≡ Some name) × RisesOnce r.before r.after name × (o ≡ ReadFault))
    ⊎ (ReadsWell r × (e : E) × (o ≡ why e) × (file : List ℕ) × (says file ≡ Err e)) ⊎ Other

file_ends : {A E : Type 0} (named : Option (List ℕ)) (says : List ℕ → Result A E) (why : E → Outcome) (other : Stage A) (r : Reads) (o : Outcome)
    → in_file_or named (λ file. refused why (says file)) other r (Err o) → FileEnds named says why r o (other r (Err o))
file_ends None says why other r o is = inr (inr is)
file_ends (Some name) says why other r o (inl failed) = inl (name, refl, failed.0, cc (failed.1))
file_ends (Some name) says why other r o (inr (well, (file, told, says_so))) = let f = refused_for why (says file) o says_so in inr (inl (well, f.0, f.1, file, f.2))

settings_by : (request : Request) (r : Reads) (o : Outcome) → settings request r (Err o) → FileEnds (config_name request) settings_in (λ field. BadConfig field) r o (given (settings_unnamed request) r (Err o)) → Cause request r o
settings_by request r o is (inl (name, named, rises, e)) = subst (Cause request r) (sym e) (name, inl named, rises)
settings_by request r o is (inr (inl (well, field, e, file, said))) =
    subst (Cause request r) (sym e) (to_faultless (settings request) r (Err (BadConfig field)) well (subst (λ x. settings request r (Err x)) e is))
settings_by request r o is (inr (inr never)) = absurd (cc (never.1))

pub settings_cause : (request : Request) (r : Reads) (o : Outcome) → settings request r (Err o) → Cause request r o
unfolding settings
settings_cause request r o (inl (p, ends, e)) =
    let same : p ≡ o = cc in
    let ends' = subst (λ x. in_file_or (config_name request) settings_said (given (settings_unnamed request)) r (Err x)) same ends in
    settings_by request r o (inl (o, ends', refl)) (file_ends (config_name request) settings_in (λ field. BadConfig field) (given (settings_unnamed request)) r o ends')
settings_cause request r o (inr (config, between, gives, never)) = absurd (cc (never.1))

pub no_workload_ends : (which : Option (Kind × ℕ)) (r : Reads) (o : Outcome) → workload which r (Err o) → ⊥
no_workload_ends None r o is = is.1
no_workload_ends (Some (kind, seed)) r o is = is.1

image_by : (request : Request) (r : Reads) (o : Outcome) (config : Config) → settings request (faultless r) (Ok config) → machine request r (Err o)
    → FileEnds (image_name request) image_of (λ fault. BadImage fault) r o (workload (workload_of request) r (Err o)) → Cause request r o
image_by request r o config set is (inl (name, named, rises, e)) = subst (Cause request r) (sym e) (name, inr (inl ((config, set), named)), rises)
image_by request r o config set is (inr (inl (well, fault, e, file, said))) =
    subst (Cause request r) (sym e) (to_faultless (machine request) r (Err (BadImage fault)) well (subst (λ x. machine request r (Err x)) e is))
image_by request r o config set is (inr (inr never)) = absurd (no_workload_ends (workload_of request) r o never)

pub image_cause : (request : Request) (r : Reads) (o : Outcome) (config : Config) → settings request (faultless r) (Ok config) → machine request r (Err o) → image request r (Err o) → Cause request r o
unfolding image
image_cause request r o config set is ends =
    image_by request r o config set is (file_ends (image_name request) image_of (λ fault. BadImage fault) (workload (workload_of request)) r o ends)

machine_by : (request : Request) (r : Reads) (o : Outcome) (config : Config) (between : List ℕ → ℕ) → between ≡ r.before → machine request r (Err o)
    → settings request (reads r.holds r.before between) (Ok config) → image request (reads r.holds between r.after) (Err o) → Cause request r o
machine_by request r o config between same is set ends =
    image_cause request r o config (subst (λ b. settings request (reads r.holds r.before b) (Ok config)) same set) is
    (subst (λ b. image request (reads r.holds b r.after) (Err o)) same ends)

pub machine_cause : (request : Request) (r : Reads) (o : Outcome) → machine request r (Err o) → Cause request r o
unfolding machine
machine_cause request r o (inl (p, ends, e)) = settings_cause request r o (subst (λ x. settings request r (Err x)) (cc) ends)
machine_cause request r o (inr (config, between, set, inl (p, ends, e))) =
    let ends' : image request (reads r.holds between r.after) (Err o) = subst (λ x. image request (reads r.holds between r.after) (Err x)) (cc) ends in
    machine_by request r o config between (calm_settings request (reads r.holds r.before between) config set) (inr (config, between, set, inl (o, ends', refl))) set ends'
machine_cause request r o (inr (config, between, set, inr (program, between', has, never))) = absurd (cc (never.1))

-- the journal

journal_by : (request : Request) (r : Reads) (o : Outcome) (w : Setup) → machine request (faultless r) (Ok w) → replayed request r (Err o)
    → FileEnds (replayed_name request) reading journal_refusal r o (made {A = List Event} (λ events. ⊥) (λ outcome. ⊥) r (Err o)) → Cause request r o
journal_by request r o w has is (inl (name, named, rises, e)) = subst (Cause request r) (sym e) (name, inr (inr ((w, has), named)), rises)
journal_by request r o w has is (inr (inl (well, FileTooLong, e, file, said))) =
    subst (Cause request r) (sym e) (w, has, inl (to_faultless (replayed request) r _ well (subst (λ x. replayed request r (Err x)) e is)))
journal_by request r o w has is (inr (inl (well, FileByte at, e, file, said))) =
    subst (Cause request r) (sym e) (w, has, inl (to_faultless (replayed request) r _ well (subst (λ x. replayed request r (Err x)) e is)))
journal_by request r o w has is (inr (inl (well, FileNoMemory, e, file, said))) = absurd (always_read file said)
journal_by request r o w has is (inr (inr never)) = absurd never.1

pub journal_cause : (request : Request) (r : Reads) (o : Outcome) (w : Setup) → machine request (faultless r) (Ok w) → replayed request r (Err o) → Cause request r o
unfolding replayed
journal_cause request r o w has is =
    journal_by request r o w has is (file_ends (replayed_name request) reading journal_refusal (made (λ events. ⊥) (λ outcome. ⊥)) r o is)

-- what a request comes to

-- a run, with what is told of it
abbrev pub IsRun : Reads → Request → Verdict → Type 0
IsRun r request v =
    (w : Setup) × machine request (faultless r) (Ok w) × IsAsked r request w v.journal
    × HasRun w (λ journal. journal ≡ v.journal) [] v × WritesJournal (option_to_list (journal_name request)) v

-- the file of a workload
abbrev pub IsWritten : Request → Verdict → Type 0
IsWritten request v =
    (v.outcome ≡ Written) × (v.journal ≡ []) × (v.text ≡ []) × (name : List ℕ) × (workload_name request ≡ Some name) × (bytes : List ℕ) × (v.files ≡ files_of (name ∷ []) bytes)

same_run : (w : Setup) (IsAsked : List Event → Type 0) (v : Verdict) → HasRun w IsAsked [] v → HasRun w (λ journal. journal ≡ v.journal) [] v
same_run w IsAsked v has = record {
  asked = refl;
  run = has.run;
  end = has.end;
  ended = has.ended;
  outcome_is = has.outcome_is;
  cause = has.cause;
  text_is = has.text_is;
  coherent = has.coherent;
}

module _ (request : Request) (r : Reads) where
  drawn_ok : (names : List (List ℕ)) → names ≡ option_to_list (journal_name request) → DrawsRun request → (v : Verdict) → and_then (machine request) (drawn names) r (Ok v) → IsRun r request v
  drawn_ok names same draws v (inl (o, ends, never)) = absurd (cc (never))
  drawn_ok names same draws v (inr (w, between, has, (well, (run, files)))) =
      let calm : between ≡ r.before = calm_machine request (reads r.holds r.before between) w has in
      (w, subst (λ b. machine request (reads r.holds r.before b) (Ok w)) calm has, inl (draws, run.asked), same_run w (IsDrawn w) v run, subst (λ ns. WritesJournal ns v) same files)

  drawn_err : (names : List (List ℕ)) → DrawsRun request → (o : Outcome) → and_then (machine request) (drawn names) r (Err o) → Cause request r o
  drawn_err names draws o (inl (p, ends, e)) = machine_cause request r o (subst (λ x. machine request r (Err x)) (cc) ends)
  drawn_err names draws o (inr (w, between, has, (well, (stuck, events, is)))) =
      let calm : between ≡ r.before = calm_machine request (reads r.holds r.before between) w has in
      subst (Cause request r) (sym stuck) (w, subst (λ b. machine request (reads r.holds r.before b) (Ok w)) calm has, draws, events, is)

  replay_ok : journal_name request ≡ None → (v : Verdict) → replay request r (Ok v) → IsRun r request v
  unfolding replay
  replay_ok none v (inl (o, ends, never)) = absurd (cc (never))
  replay_ok none v (inr (w, between, has, inl (o, ends, never))) = absurd (cc (never))
  replay_ok none v (inr (w, between, has, inr (events, between', told, (well, (run, files))))) =
      let calm : between ≡ r.before = calm_machine request (reads r.holds r.before between) w has in
      let calm' : between' ≡ r.before = calm_replayed request (reads r.holds between between') events told ∙ calm in
      let here : replayed request (faultless r) (Ok events) =
      subst (λ b. replayed request (reads r.holds r.before b) (Ok events)) calm' (subst (λ b. replayed request (reads r.holds b between') (Ok events)) calm told) in (
        w,
        subst (λ b. machine request (reads r.holds r.before b) (Ok w)) calm has,
        inr (subst (λ es. replayed request (faultless r) (Ok es)) (sym run.asked) here),
        same_run w (λ journal. journal ≡ events) v run,
        subst (λ name. WritesJournal (option_to_list name) v) (sym none) files,
      )

  replay_err : (o : Outcome) → replay request r (Err o) → Cause request r o
  unfolding replay
  replay_err o (inl (p, ends, e)) = machine_cause request r o (subst (λ x. machine request r (Err x)) (cc) ends)
  replay_err o (inr (w, between, has, inl (p, ends, e))) =
      let calm : between ≡ r.before = calm_machine request (reads r.holds r.before between) w has in
      journal_cause request r o w (subst (λ b. machine request (reads r.holds r.before b) (Ok w)) calm has)
      (subst (λ b. replayed request (reads r.holds b r.after) (Err o)) calm (subst (λ x. replayed request (reads r.holds between r.after) (Err x)) (cc) ends))
  replay_err o (inr (w, between, has, inr (events, between', told, (well, (fault, e, no_run))))) =
      let calm : between ≡ r.before = calm_machine request (reads r.holds r.before between) w has in
      let calm' : between' ≡ r.before = calm_replayed request (reads r.holds between between') events told ∙ calm in
      let here : replayed request (faultless r) (Ok events) =
      subst (λ b. replayed request (reads r.holds r.before b) (Ok events)) calm' (subst (λ b. replayed request (reads r.holds b between') (Ok events)) calm told) in
      subst (Cause request r) (sym e) (w, subst (λ b. machine request (reads r.holds r.before b) (Ok w)) calm has, inr (events, here, no_run))

  -- the image of a workload is made
  made_err : (o : Outcome) → image_name request ≡ None → image request r (Err o) → ⊥
  unfolding image
  made_err o none is =
      no_workload_ends (workload_of request) r o (subst (λ name. in_file_or name image_said (workload (workload_of request)) r (Err o)) none is)

  gen_ok : (out : List ℕ) → workload_name request ≡ Some out → (v : Verdict) → gen request r (Ok v) → IsWritten request v
  unfolding gen
  gen_ok out named v (inl (o, ends, never)) = absurd (cc (never))
  gen_ok out named v (inr (program, between, has, (well, is))) =
      let same : v ≡ record (without_run Written) { files = files_of (option_to_list (workload_name request)) (file_of program) } = cc in
      (ap (λ u. u.outcome) same, ap (λ u. u.journal) same, ap (λ u. u.text) same, out, named, file_of program, ap (λ u. u.files) same ∙ ap (λ name. files_of (option_to_list name) (file_of program)) named)

  pub gen_err : image_name request ≡ None → (o : Outcome) → gen request r (Err o) → ⊥
  unfolding gen
  gen_err none o (inl (p, ends, e)) = made_err p none ends
  gen_err none o (inr (program, between, has, (well, never))) = absurd (cc (never))

-- a request comes to a run, or to the file of a workload
pub request_ok : (request : Request) (r : Reads) (v : Verdict) → command_of request request r (Ok v) → IsRun r request v ⊎ IsWritten request v
unfolding run bench
request_ok (asked.Run image config seed journal) r v is = inl (drawn_ok (asked.Run image config seed journal) r (option_to_list journal) refl (refl, refl) v is)
request_ok (asked.Replay image journal config seed) r v is = inl (replay_ok (asked.Replay image journal config seed) r refl v is)
request_ok (asked.Gen kind seed out) r v is = inr (gen_ok (asked.Gen kind seed out) r out refl v is)
request_ok (asked.Bench seed) r v is = inl (drawn_ok (asked.Bench seed) r [] refl (refl, refl) v is)

-- or there is a cause
pub request_err : (request : Request) (r : Reads) (o : Outcome) → command_of request request r (Err o) → Cause request r o
unfolding run bench
request_err (asked.Run image config seed journal) r o is = drawn_err (asked.Run image config seed journal) r (option_to_list journal) (refl, refl) o is
request_err (asked.Replay image journal config seed) r o is = replay_err (asked.Replay image journal config seed) r o is
request_err (asked.Gen kind seed out) r o is = absurd (gen_err (asked.Gen kind seed out) r refl o is)
request_err (asked.Bench seed) r o is = drawn_err (asked.Bench seed) r [] (refl, refl) o is
