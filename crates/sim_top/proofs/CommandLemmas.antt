-- What the commands come to.
use Rattle.std.proofs.Common.{◌≡◌, ℕ, List, refl, sym, ap, subst, ◌∙◌, inl, inr, append-nil}
use Rattle.std.specs.Prelude.{[], Option, Some, None, Result, Ok, Err, take}
use Rattle.std.specs.Option.{option_to_list}
use Rattle.sim_base.specs.declared.ends.End.{End}
use Rattle.sim_base.specs.declared.ends.End.TheVariants.{Exit, Trap, Deadlock, Budget}
use Rattle.sim_base.specs.Numbering.{node_count}
use Rattle.sim_base.specs.Settings.{IsChecked}
use Rattle.elf_image.specs.Layout.{Setup}
use Rattle.event_journal.specs.declared.events.Event.{Event}
use Rattle.event_journal.proofs.Runs.{run-take}
use Rattle.node_machine.specs.Machine.{rules, start_state}
use Rattle.coherence_laws.proofs.Events.{always_coherent}
use Rattle.node_machine.specs.declared.cores.Ran.{Ran}
use Rattle.node_machine.proofs.ShownLemmas.{shown_is_read}
use Rattle.node_machine.proofs.TrappingRuns.{trap_has_cause}
use Rattle.seq_driver.specs.Driven.{state_after, IsRan, IsDrawn}
use Rattle.stats_report.proofs.ShownText.{text-of_state}
use Rattle.elf_image.specs.File.{file_of}
use Rattle.sim_base.specs.declared.kinds.Kind.{Kind}
use Rattle.sim_outside.specs.Told.{Contents}
use Rattle.sim_config.specs.declared.request.Request.{Request}
use Rattle.sim_config.specs.declared.request.Request.TheVariants as asked
use Rattle.sim_config.specs.Request.{image_name, journal_name, workload_of, workload_name}
use Rattle.sim_top.specs.declared.outcomes.Decision.{Decision}
use Rattle.sim_top.specs.declared.outcomes.Halt.{Halt}
use Rattle.sim_top.specs.declared.outcomes.Halt.TheVariants.{Refused, NoMemory}
use Rattle.sim_top.specs.declared.outcomes.Outcome.TheVariants.{Written}
use Rattle.sim_top.specs.Stage.{Reads, reads, ReadsWell, Stage, and_then}
use Rattle.sim_top.specs.Verdict.{Verdict, without_run, files_of}
use Rattle.sim_top.specs.Asked.{image, machine, replayed}
use Rattle.sim_top.specs.Commands.{command_of}
use Rattle.sim_top.specs.Commands.Run.{run}
use Rattle.sim_top.specs.Commands.Replay.{replay}
use Rattle.sim_top.specs.Commands.Gen.{gen}
use Rattle.sim_top.specs.Commands.Bench.{bench}
use Rattle.sim_top.specs.Runs.{HasCause, HasRun, WritesJournal, drawn, followed}
use Rattle.sim_top.specs.Inner.{Tells, TellsVerdict, Draws, Follows, IsOfRun, IsOfWorkload, decided}
use Rattle.sim_top.proofs.StageLemmas.{told_halt, told_then}
use Rattle.sim_top.proofs.AskedLemmas.{image_made}

module _ (w : Setup) (ran : Ran) (is : IsRan w ran) where
  cause_of : (end : End) → ran.end ≡ end → HasCause w ran.journal end
  cause_of (Trap thread cause pc) e = trap_has_cause w ran.journal thread cause pc is.run (is.end ∙ ap Some e)
  cause_of (Exit code) e = tt
  cause_of Deadlock e = tt
  cause_of Budget e = tt

  -- a run that was made is told as one
  pub has_run : (IsAsked : List Event → Type 0) → IsAsked ran.journal → IsChecked w.config → (names : List (List ℕ)) (d : Decision) → IsOfRun names ran d
      → HasRun w IsAsked [] (decided d) × WritesJournal names (decided d)
  has_run IsAsked asked checked names d of = (
    record {
      asked = subst IsAsked (sym of.journal) asked;
      run = rw of.journal is.run;
      end = ran.end;
      ended = rw of.journal is.end;
      outcome_is = of.outcome;
      cause = rw of.journal (cause_of ran.end refl);
      text_is = rw of.journal (of.text ∙ text-of_state shown_is_read w ran.core (state_after w ran.journal) ran.end is.fits is.shows ∙ sym (append-nil _));
      coherent = rw of.journal (λ events line. always_coherent w (take events ran.journal) line checked
          (run-take (rules w) (node_count w.config) (start_state w) ran.journal events is.run));
    },
    of.files,
  )

-- a run that is drawn

pub drawn_halt : (names : List (List ℕ)) (w : Setup) (r : Reads) (halt : Halt) → ReadsWell r → Draws w (Err halt) → Tells (drawn names w) r (Err halt)
drawn_halt names w r (Refused outcome) well stuck = (well, stuck)
drawn_halt names w r NoMemory well nothing = tt

module _ (request : Request) (names : List (List ℕ)) (holds : Contents) (before after : List ℕ → ℕ) (w : Setup)
    (has : machine request (reads holds before after) (Ok w)) where
  pub run_halt : (halt : Halt) → Draws w (Err halt) → Tells (and_then (machine request) (drawn names)) (reads holds before after) (Err halt)
  run_halt halt draws =
      told_then (machine request) (drawn names) holds holds before after after w (Err halt) refl has (drawn_halt names w (reads holds after after) halt refl draws)

  pub run_ran : (ran : Ran) (d : Decision) → IsChecked w.config → Draws w (Ok ran) → IsOfRun names ran d
      → Tells (and_then (machine request) (drawn names)) (reads holds before after) (Ok (decided d))
  run_ran ran d checked draws of =
      told_then (machine request) (drawn names) holds holds before after after w (Ok (decided d)) refl has
      (refl, has_run w ran draws.0 (IsDrawn w) draws.1 checked names d of)

-- a run that is followed

next : Request → Setup → Stage Verdict
next request w = and_then (replayed request) (followed w)

pub replay_machine : (request : Request) (r : Reads) (halt : Halt) → Tells (machine request) r (Err halt) → Tells (replay request) r (Err halt)
unfolding replay next
replay_machine request r halt is = told_halt (machine request) (next request) r halt is

followed_halt : (w : Setup) (events : List Event) (r : Reads) (halt : Halt) → ReadsWell r → Follows w events (Err halt) → Tells (followed w events) r (Err halt)
followed_halt w events r (Refused outcome) well refuses = (well, refuses)
followed_halt w events r NoMemory well nothing = tt

module _ (request : Request) (holds kept : Contents) (before between after : List ℕ → ℕ) (w : Setup) (same : kept ≡ holds)
    (has : machine request (reads holds before between) (Ok w)) where
  pub replay_journal : (halt : Halt) → Tells (replayed request) (reads kept between after) (Err halt) → Tells (replay request) (reads holds before after) (Err halt)
  unfolding replay next
  replay_journal halt is =
      told_then (machine request) (next request) holds kept before between after w (Err halt) same has
      (told_halt (replayed request) (followed w) (reads kept between after) halt is)

  module _ (events : List Event) (told : replayed request (reads kept between after) (Ok events)) where
    replay_then : (answer : Result Verdict Halt) → Tells (followed w events) (reads kept after after) answer → Tells (replay request) (reads holds before after) answer
    unfolding replay next
    replay_then answer is =
        told_then (machine request) (next request) holds kept before between after w answer same has
        (told_then (replayed request) (followed w) kept kept between after after events answer refl told is)

    pub replay_halt : (halt : Halt) → Follows w events (Err halt) → Tells (replay request) (reads holds before after) (Err halt)
    replay_halt halt follows = replay_then (Err halt) (followed_halt w events (reads kept after after) halt refl follows)

    pub replay_ran : (ran : Ran) (d : Decision) → IsChecked w.config → Follows w events (Ok ran) → IsOfRun [] ran d
        → replay request (reads holds before after) (Ok (decided d))
    replay_ran ran d checked follows of =
        replay_then (Ok (decided d)) (refl, has_run w ran follows.0 (λ journal. journal ≡ events) follows.1 checked [] d of)

-- the commands

module _ (request : Request) (r : Reads) where
  pub is_run : (image : List ℕ) (config : Option (List ℕ)) (seed : Option ℕ) (journal : Option (List ℕ)) (answer : Result Decision Halt)
      → request ≡ asked.Run image config seed journal
      → TellsVerdict (and_then (machine request) (drawn (option_to_list journal))) r answer → TellsVerdict (command_of request request) r answer
  unfolding run
  is_run image config seed journal answer is told =
      subst (λ q. TellsVerdict (command_of q request) r answer) (sym is)
      (subst (λ j. TellsVerdict (and_then (machine request) (drawn (option_to_list j))) r answer) (sym (ap journal_name is)) told)

  pub is_bench : (seed : ℕ) (answer : Result Decision Halt) → request ≡ asked.Bench seed
      → TellsVerdict (and_then (machine request) (drawn [])) r answer → TellsVerdict (command_of request request) r answer
  unfolding bench
  is_bench seed answer is told = subst (λ q. TellsVerdict (command_of q request) r answer) (sym is) told

  pub is_gen : (kind : Kind) (seed : ℕ) (out : List ℕ) (d : Decision) → request ≡ asked.Gen kind seed out → ReadsWell r → IsOfWorkload kind seed out d
      → command_of request request r (Ok (decided d))
  unfolding gen
  is_gen kind seed out d is well made =
      let has : image request r (Ok made.program) = image_made request kind seed r made.program (ap image_name is) (ap workload_of is) well made.workload in
      let files = λ (name : Option (List ℕ)). files_of (option_to_list name) (file_of made.program) in
      let same : decided d ≡ record (without_run Written) { files = files (workload_name request) } =
      made.is ∙ ap (λ name. record (without_run Written) { files = files name }) (sym (ap workload_name is)) in
      subst (λ q. command_of q request r (Ok (decided d))) (sym is) (inr (made.program, r.after, has, (refl, ap (λ v. Ok v) same)))
