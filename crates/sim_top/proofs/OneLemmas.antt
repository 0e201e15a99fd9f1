-- Of told files words come to one verdict, but for a fault of reading.
use Rattle.std.proofs.Common.{◌≡◌, ℕ, ◌<◌, List, refl, sym, ap, subst, ◌∙◌, inl, inr, arith}
use Rattle.std.specs.Prelude.{[], ◌∷◌, ◌++◌, Option, Some, None, Ok, Err}
use Rattle.std.proofs.lemmas.Option.{same_Some, none-some}
use Rattle.sim_base.specs.declared.ends.End.{End}
use Rattle.sim_base.specs.declared.kinds.Kind.{Kind}
use Rattle.elf_image.specs.File.{file_of}
use Rattle.elf_image.specs.Image.{Program}
use Rattle.elf_image.specs.Layout.{Setup}
use Rattle.event_journal.specs.declared.events.Event.{Event}
use Rattle.journal_file.specs.File.{journal_bytes}
use Rattle.node_machine.specs.End.{end_of}
use Rattle.seq_driver.specs.Driven.{state_after, IsJournal, IsDrawn}
use Rattle.seq_driver.proofs.DrawLemmas.{one_is_drawn}
use Rattle.sim_config.specs.declared.request.Request.{Request}
use Rattle.sim_config.specs.declared.request.Request.TheVariants as asked
use Rattle.sim_config.specs.Request.{config_name, image_name, settings_unnamed, seed_of, replayed_name, journal_name, workload_of, workload_name}
use Rattle.sim_config.specs.Request.{meaning}
use Rattle.stats_report.specs.Report.{state_text}
use Rattle.workload_gen.specs.Workload.{IsWorkload}
use Rattle.workload_gen.proofs.Coded.{one_workload as workload_is_one}
use Rattle.sim_top.specs.declared.outcomes.Outcome.{Outcome}
use Rattle.sim_top.specs.declared.outcomes.Outcome.TheVariants.{Written, Usage, BadJournal}
use Rattle.sim_top.specs.Stage.{Reads, reads, Stage, made, answered, given, in_file_or, and_then}
use Rattle.sim_top.specs.Verdict.{Verdict, without_run, files_of}
use Rattle.sim_top.specs.Asked.{settings_said, image_said, journal_said, with_seed, settings, workload, image, machine, replayed}
use Rattle.sim_top.specs.Runs.{outcome_of, HasRun, WritesJournal, GetsStuck, RefusesEvents, drawn, followed}
use Rattle.sim_top.specs.Commands.{command_of, stages}
use Rattle.sim_top.specs.Commands.Run.{run}
use Rattle.sim_top.specs.Commands.Replay.{replay}
use Rattle.sim_top.specs.Commands.Gen.{gen}
use Rattle.sim_top.specs.Commands.Bench.{bench}
use Rattle.sim_top.proofs.AlgebraLemmas.{AreOne, IsOne, one_answered, one_file_or, one_made, one_then}
use Rattle.sim_top.proofs.DrawnLemmas.{stuck_has_no_end, not_no_run, one_no_run}

same_verdict : (v u : Verdict) → v.outcome ≡ u.outcome → v.journal ≡ u.journal → v.text ≡ u.text → v.files ≡ u.files → v ≡ u
same_verdict v u o j t f =
    ap (λ x. record { outcome = x; journal = v.journal; text = v.text; files = v.files }) o ∙ ap (λ x. record { outcome = u.outcome; journal = x; text = v.text; files = v.files }) j
    ∙ ap (λ x. record { outcome = u.outcome; journal = u.journal; text = x; files = v.files }) t ∙ ap (λ x. record { outcome = u.outcome; journal = u.journal; text = u.text; files = x }) f

-- two verdicts of one journal of a machine are one
one_run : (w : Setup) (IsAsked IsAsked' : List Event → Type 0) (names : List (List ℕ)) (v u : Verdict) → v.journal ≡ u.journal
    → HasRun w IsAsked [] v × WritesJournal names v → HasRun w IsAsked' [] u × WritesJournal names u → v ≡ u
one_run w IsAsked IsAsked' names v u same (a, files_a) (b, files_b) =
    let end : a.end ≡ b.end = same_Some a.end b.end (sym a.ended ∙ ap (λ j. end_of w (state_after w j)) same ∙ b.ended) in
    same_verdict v u (a.outcome_is ∙ ap outcome_of end ∙ sym b.outcome_is) same
    (a.text_is ∙ ap (λ j. state_text w (state_after w j) a.end ++ []) same ∙ ap (λ e. state_text w (state_after w u.journal) e ++ []) end ∙ sym b.text_is)
    (files_a ∙ ap (λ j. files_of names (journal_bytes j)) same ∙ sym files_b)

-- the verdict of a workload's file
file_verdict : List ℕ → Program → Verdict
file_verdict out program = record (without_run Written) { files = files_of (out ∷ []) (file_of program) }

module _ (held : List ℕ → Option (List ℕ)) where
  one_workload : (which : Option (Kind × ℕ)) → IsOne held (workload which)
  one_workload None = one_made held {A = Program} (λ program. ⊥) (λ outcome. ⊥) (λ a b never. absurd never) (λ o p never. absurd never) (λ a o never. absurd never)
  one_workload (Some (kind, seed)) =
      one_made held (IsWorkload kind seed) (λ outcome. ⊥) (λ a b is is'. workload_is_one kind seed a b is is') (λ o p never. absurd never) (λ a o is never. never)

  pub one_settings : (request : Request) → IsOne held (settings request)
  unfolding settings
  one_settings request =
      one_then held (in_file_or (config_name request) settings_said (given (settings_unnamed request))) (λ config. given (with_seed (seed_of request) config))
      (one_file_or held (config_name request) settings_said (given (settings_unnamed request)) (one_answered held (Ok (settings_unnamed request))))
      (λ config. one_answered held (Ok (with_seed (seed_of request) config)))

  one_image : (request : Request) → IsOne held (image request)
  unfolding image
  one_image request = one_file_or held (image_name request) image_said (workload (workload_of request)) (one_workload (workload_of request))

  pub one_machine : (request : Request) → IsOne held (machine request)
  unfolding machine
  one_machine request =
      one_then held (settings request) (λ config. and_then (image request) (λ program. given (record { config = config; image = program }))) (one_settings request)
      (λ config. one_then held (image request) (λ program. given (record { config = config; image = program })) (one_image request)
      (λ program. one_answered held (Ok (record { config = config; image = program }))))

  pub one_replayed : (request : Request) → IsOne held (replayed request)
  unfolding replayed
  one_replayed request =
      one_file_or held (replayed_name request) journal_said (made (λ events. ⊥) (λ outcome. ⊥))
      (one_made held {A = List Event} (λ events. ⊥) (λ outcome. ⊥) (λ a b never. absurd never) (λ o p never. absurd never) (λ a o never. absurd never))

  one_drawn : (names : List (List ℕ)) (w : Setup) → IsOne held (drawn names w)
  one_drawn names w =
      one_made held (λ v. HasRun w (IsDrawn w) [] v × WritesJournal names v) (GetsStuck w)
      (λ v u is is'. one_run w (IsDrawn w) (IsDrawn w) names v u (one_is_drawn w v.journal u.journal is.0.end is'.0.end is.0.asked is.0.ended is'.0.asked is'.0.ended) is is')
      (λ o p is is'. is.0 ∙ sym is'.0)
      (λ v o is stuck. stuck_has_no_end w v.journal stuck.1 is.0.end is.0.asked is.0.ended stuck.2)

  one_followed : (w : Setup) (events : List Event) → IsOne held (followed w events)
  one_followed w events =
      one_made held (λ v. HasRun w (λ journal. journal ≡ events) [] v × WritesJournal [] v) (RefusesEvents w events)
      (λ v u is is'. one_run w (λ journal. journal ≡ events) (λ journal. journal ≡ events) [] v u (is.0.asked ∙ sym is'.0.asked) is is')
      (λ o p is is'. is.1 ∙ ap (λ f. BadJournal f) (one_no_run w events is.0 is'.0 is.2 is'.2) ∙ sym is'.1)
      (λ v o is no. not_no_run w events is.0.end no.0 (subst (λ j. IsJournal w j) is.0.asked is.0.run)
      (subst (λ j. end_of w (state_after w j) ≡ Some is.0.end) is.0.asked is.0.ended) no.2)

  one_command : (request : Request) → IsOne held (command_of request request)
  unfolding run replay gen bench file_verdict
  one_command (asked.Run image config seed journal) =
      one_then held (machine (asked.Run image config seed journal)) (drawn _) (one_machine (asked.Run image config seed journal)) (one_drawn _)
  one_command (asked.Bench seed) = one_then held (machine (asked.Bench seed)) (drawn []) (one_machine (asked.Bench seed)) (one_drawn [])
  one_command (asked.Replay image journal config seed) =
      let request = asked.Replay image journal config seed in
      one_then held (machine request) (λ w. and_then (replayed request) (followed w)) (one_machine request)
      (λ w. one_then held (replayed request) (followed w) (one_replayed request) (one_followed w))
  one_command (asked.Gen kind seed out) =
      one_then held (image (asked.Gen kind seed out)) (λ program. given (file_verdict out program)) (one_image (asked.Gen kind seed out)) (λ program. one_answered held (Ok (file_verdict out program)))

  pub one_stages : (meant : Option Request) → IsOne held (stages meant)
  one_stages None = one_answered held (Err Usage)
  one_stages (Some request) = one_command request
