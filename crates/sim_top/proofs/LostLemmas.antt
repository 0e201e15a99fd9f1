-- Where it is told that a file that is read isn't there, nothing but a fault of reading is answered.
use Rattle.std.proofs.Common.{◌≡◌, ℕ, List, refl, sym, ap, subst, ◌∙◌, inl, inr}
use Rattle.std.specs.Prelude.{Option, Some, None, Result, Ok, Err}
use Rattle.std.proofs.lemmas.Option.{none-some}
use Rattle.sim_base.specs.declared.settings.Config.{Config}
use Rattle.elf_image.specs.Layout.{Setup}
use Rattle.sim_config.specs.declared.request.Request.{Request}
use Rattle.sim_config.specs.declared.request.Request.TheVariants as asked
use Rattle.sim_config.specs.Request.{config_name, image_name, settings_unnamed, seed_of, replayed_name, journal_name, workload_of}
use Rattle.std.specs.Option.{option_to_list}
use Rattle.event_journal.specs.declared.events.Event.{Event}
use Rattle.sim_top.specs.declared.outcomes.Outcome.{Outcome}
use Rattle.sim_top.specs.declared.outcomes.Outcome.TheVariants.{ReadFault}
use Rattle.sim_top.specs.Stage.{Reads, reads, Stage, made, given, in_file, in_file_or, and_then}
use Rattle.sim_top.specs.Verdict.{Verdict}
use Rattle.sim_top.specs.Asked.{settings_said, image_said, journal_said, with_seed, settings, workload, image, machine, replayed}
use Rattle.sim_top.specs.Runs.{drawn, followed}
use Rattle.sim_top.specs.Commands.{command_of}
use Rattle.sim_top.specs.Commands.Run.{run}
use Rattle.sim_top.specs.Commands.Replay.{replay}
use Rattle.sim_top.specs.Commands.Bench.{bench}
use Rattle.sim_top.specs.Causes.{faultless, IsRead}
use Rattle.sim_top.proofs.AlgebraLemmas.{AreOne, IsOne}
use Rattle.sim_top.proofs.OneLemmas.{one_settings, one_machine}

module _ (held : List ℕ → Option (List ℕ)) where
  abbrev IsLost : {A : Type 0} → Stage A → Type 0
  IsLost {A} stage = (before after : List ℕ → ℕ) (x : Result A Outcome) → stage (reads (Some held) before after) x → x ≡ Err ReadFault

  lost_file : {A : Type 0} (named : Option (List ℕ)) (says : List ℕ → Result A Outcome) (other : Stage A) (absent : List ℕ) → named ≡ Some absent → held absent ≡ None
      → IsLost (in_file_or named says other)
  lost_file None says other absent named gone before after x is = absurd (none-some absent named)
  lost_file (Some name) says other absent named gone before after x (inl failed) = failed.1
  lost_file (Some name) says other absent named gone before after x (inr (well, (file, told, said))) =
      let same : name ≡ absent = cc in
      absurd (none-some file (sym gone ∙ ap held (sym same) ∙ told))

  lost_first : {A B : Type 0} (first : Stage A) (next : A → Stage B) → IsLost first → IsLost (and_then first next)
  lost_first first next lost before after x (inl (o, ends, is)) = let e = lost before after (Err o) ends in cc
  lost_first first next lost before after x (inr (a, between, gives, is)) = absurd (let e = lost before between (Ok a) gives in cc (e))

  lost_by : {A B : Type 0} (next : A → Stage B) (a b : A) → IsLost (next a) → AreOne (Ok a) (Ok b) → (before after : List ℕ → ℕ) (x : Result B Outcome)
      → next b (reads (Some held) before after) x → x ≡ Err ReadFault
  lost_by next a b lost (inl e) before after x is = absurd (cc (e))
  lost_by next a b lost (inr (inl e)) before after x is = absurd (cc (e))
  lost_by next a b lost (inr (inr e)) before after x is = let same : b ≡ a = cc in lost before after x (subst (λ c. next c (reads (Some held) before after) x) same is)

  ends_by : {A B : Type 0} (a : A) (o : Outcome) (x : Result B Outcome) → AreOne (Ok a) (Err o) → x ≡ Err o → x ≡ Err ReadFault
  ends_by a o x (inl e) is = absurd (cc (e))
  ends_by a o x (inr (inl e)) is = cc
  ends_by a o x (inr (inr e)) is = absurd (cc (e))

  lost_next : {A B : Type 0} (first : Stage A) (next : A → Stage B) (a : A) (start end : List ℕ → ℕ) → first (reads (Some held) start end) (Ok a) → IsOne held first
      → IsLost (next a) → IsLost (and_then first next)
  lost_next first next a start end has one lost before after x (inl (o, ends, is)) = ends_by a o x (one start end before after (Ok a) (Err o) has ends) is
  lost_next first next a start end has one lost before after x (inr (b, between, gives, is)) =
      lost_by next a b lost (one start end before between (Ok a) (Ok b) has gives) between after x is

  module _ (absent : List ℕ) (gone : held absent ≡ None) (request : Request) where
    lost_settings : config_name request ≡ Some absent → IsLost (settings request)
    unfolding settings
    lost_settings named =
        lost_first (in_file_or (config_name request) settings_said (given (settings_unnamed request))) (λ config. given (with_seed (seed_of request) config))
        (lost_file (config_name request) settings_said (given (settings_unnamed request)) absent named gone)

    lost_image : image_name request ≡ Some absent → IsLost (image request)
    unfolding image
    lost_image named = lost_file (image_name request) image_said (workload (workload_of request)) absent named gone

    lost_replayed : replayed_name request ≡ Some absent → IsLost (replayed request)
    unfolding replayed
    lost_replayed named = lost_file (replayed_name request) journal_said (made {A = List Event} (λ events. ⊥) (λ outcome. ⊥)) absent named gone

    no_settings : config_name request ≡ Some absent → IsLost (machine request)
    unfolding machine
    no_settings named = lost_first (settings request) (λ config. and_then (image request) (λ program. given (record { config = config; image = program }))) (lost_settings named)

    no_image : (config : Config) (start end : List ℕ → ℕ) → settings request (reads (Some held) start end) (Ok config) → image_name request ≡ Some absent → IsLost (machine request)
    unfolding machine
    no_image config start end set named =
        lost_next (settings request) (λ config. and_then (image request) (λ program. given (record { config = config; image = program }))) config start end set (one_settings held request)
        (lost_first (image request) (λ program. given (record { config = config; image = program })) (lost_image named))

  lost_command : (request : Request) → ((config_name request ≡ None) → (image_name request ≡ None) → ⊥) → IsLost (machine request) → IsLost (command_of request request)
  unfolding run replay bench
  lost_command (asked.Run image config seed journal) some lost = lost_first (machine (asked.Run image config seed journal)) (drawn (option_to_list journal)) lost
  lost_command (asked.Bench seed) some lost = absurd (some refl refl)
  lost_command (asked.Gen kind seed out) some lost = absurd (some refl refl)
  lost_command (asked.Replay image journal config seed) some lost =
      let request = asked.Replay image journal config seed in
      lost_first (machine request) (λ w. and_then (replayed request) (followed w)) lost

  lost_journal : (request : Request) (absent : List ℕ) → held absent ≡ None → (w : Setup) (start end : List ℕ → ℕ) → machine request (reads (Some held) start end) (Ok w)
      → replayed_name request ≡ Some absent → IsLost (command_of request request)
  unfolding replay
  lost_journal (asked.Run image config seed journal) absent gone w start end has named = absurd (none-some absent named)
  lost_journal (asked.Bench seed) absent gone w start end has named = absurd (none-some absent named)
  lost_journal (asked.Gen kind seed out) absent gone w start end has named = absurd (none-some absent named)
  lost_journal (asked.Replay image journal config seed) absent gone w start end has named =
      let request = asked.Replay image journal config seed in
      lost_next (machine request) (λ w. and_then (replayed request) (followed w)) w start end has (one_machine held request)
      (lost_first (replayed request) (followed w) (lost_replayed absent gone request named))

  pub lost_request : (request : Request) (absent : List ℕ) (r : Reads) → r.holds ≡ Some held → held absent ≡ None → IsRead r request absent
      → (x : Result Verdict Outcome) → command_of request request r x → x ≡ Err ReadFault
  lost_request request absent r told gone (inl named) x is =
      lost_command request (λ none _. none-some absent (sym none ∙ named)) (no_settings absent gone request named) r.before r.after x (subst (λ h. command_of request request (reads h r.before r.after) x) told is)
  lost_request request absent r told gone (inr (inl ((config, set), named))) x is =
      let set' : settings request (reads (Some held) r.before r.before) (Ok config) = subst (λ h. settings request (reads h r.before r.before) (Ok config)) told set in
      lost_command request (λ _ none. none-some absent (sym none ∙ named)) (no_image absent gone request config r.before r.before set' named) r.before r.after x
      (subst (λ h. command_of request request (reads h r.before r.after) x) told is)
  lost_request request absent r told gone (inr (inr ((w, has), named))) x is =
      let has' : machine request (reads (Some held) r.before r.before) (Ok w) = subst (λ h. machine request (reads h r.before r.before) (Ok w)) told has in
      lost_journal request absent gone w r.before r.before has' named r.before r.after x (subst (λ h. command_of request request (reads h r.before r.after) x) told is)
