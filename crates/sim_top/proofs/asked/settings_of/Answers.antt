-- The settings are read, or they are those that stand for a file, with the request's seed.
use Rattle.std.proofs.Common.{◌≡◌, Some, None, Err, Ok, ap, ◌∙◌, rules}
use Rattle.sim_config.specs.Request.{config_name, settings_unnamed}
use Rattle.sim_top.specs.Stage.{Reads, reads, given, in_file_or}
use Rattle.sim_top.specs.Asked.{settings_said}
use Rattle.sim_top.proofs.AskedLemmas.{settings_halt, settings_given, accepted_read, accepted_unnamed}
use Rattle.sim_top.proofs.asked.settings_of.Goals.{in-Some+in_ok-accepted-in-Some, in-None}
use Rattle.sim_top.proofs.asked.settings_of.Goals as goal

pub returns-in_err-accepted-in-Some-clause-stage : goal.returns-in_err-accepted-in-Some-clause-stage
returns-in_err-accepted-in-Some-clause-stage g c =
    let r : Reads = reads (g.F.Files.holds c.args.files.now) (g.F.Files.read_faults c.args.files.now) (g.F.Files.read_faults c.settings_in.new.files) in
    let is : c.from_residual.result ≡ Err c.in_err-accepted-in-Some.field-0.0 = search rules in
    let named : config_name c.args.request.now ≡ Some c.as_str.result.now = search rules in
    rw is (settings_halt c.args.request.now c.as_str.result.now r c.in_err-accepted-in-Some.field-0.0 named c.in_err-accepted-in-Some.ensures.stage)

pub returns-clause-stage : goal.returns-clause-stage
returns-clause-stage g c =
    let r : Reads = reads (g.F.Files.holds c.args.files.now) (g.F.Files.read_faults c.args.files.now) (g.F.Files.read_faults c.match-config_name.files) in
    let is : in_file_or (config_name c.args.request.now) settings_said (given (settings_unnamed c.args.request.now)) r (Ok c.match-config_name.accepted) = elim c.match-config_name.branch [
      | in-Some+in_ok-accepted-in-Some w ↦
          let named : config_name c.args.request.now ≡ Some w.as_str.result.now = search rules in
          rw (w.files-is, w.accepted-is) (accepted_read c.args.request.now w.as_str.result.now
          (reads (g.F.Files.holds c.args.files.now) (g.F.Files.read_faults c.args.files.now) (g.F.Files.read_faults w.settings_in.new.files))
          w.in_ok-accepted-in-Some.accepted named w.in_ok-accepted-in-Some.ensures.stage)
      | in-None w ↦
          let none : config_name c.args.request.now ≡ None = search rules in
          accepted_unnamed c.args.request.now r c.match-config_name.accepted none (ap g.F.Files.read_faults w.files-is) (w.accepted-is ∙ w.settings_unnamed-accepted.ensures.settings)
    ] in
    rw (c.with_seed.ensures.config, c.seed_of.ensures) (settings_given c.args.request.now r c.match-config_name.accepted is)
