-- The run that the journal tells.
use Rattle.std.proofs.Common.{◌≡◌, Err, subst, rules}
use Rattle.sim_base.specs.Settings.{IsChecked}
use Rattle.sim_top.specs.Stage.{reads}
use Rattle.sim_top.proofs.CommandLemmas.{replay_machine, replay_journal, replay_halt, replay_ran}
use Rattle.sim_top.proofs.commands.replay.Goals as goal

pub returns-in_err-world-clause-stage : goal.returns-in_err-world-clause-stage
returns-in_err-world-clause-stage g c =
    let is : c.from_residual.result ≡ Err c.in_err-world.field-0.0 = search rules in
    rw is (replay_machine c.args.request.now (reads (g.F.Files.holds c.args.files.now) (g.F.Files.read_faults c.args.files.now) (g.F.Files.read_faults c.machine_of.new.files)) c.in_err-world.field-0.0 c.in_err-world.ensures.stage)

pub returns-in_err-events-clause-stage : goal.returns-in_err-events-clause-stage
returns-in_err-events-clause-stage g c =
    let is : c.from_residual-in_err-events.result ≡ Err c.in_err-events.field-0.0 = search rules in
    rw is (replay_journal c.args.request.now (g.F.Files.holds c.args.files.now) (g.F.Files.holds c.machine_of.new.files) (g.F.Files.read_faults c.args.files.now) (g.F.Files.read_faults c.machine_of.new.files) (g.F.Files.read_faults c.replayed_in.new.files)
    c.in_ok-world.world c.in_ok-world.ensures.kept c.in_ok-world.ensures.stage
    c.in_err-events.field-0.0 c.in_err-events.ensures.stage)

pub returns-in_err-ran-clause-stage : goal.returns-in_err-ran-clause-stage
returns-in_err-ran-clause-stage g c =
    let is : c.from_residual-in_err-ran.result ≡ Err c.in_err-ran.field-0.0 = search rules in
    rw is (replay_halt c.args.request.now (g.F.Files.holds c.args.files.now) (g.F.Files.holds c.machine_of.new.files) (g.F.Files.read_faults c.args.files.now) (g.F.Files.read_faults c.machine_of.new.files) (g.F.Files.read_faults c.replayed_in.new.files)
    c.in_ok-world.world c.in_ok-world.ensures.kept c.in_ok-world.ensures.stage
    c.in_ok-events.events c.in_ok-events.ensures.stage c.in_err-ran.field-0.0 c.in_err-ran.ensures)

pub returns-clause-stage : goal.returns-clause-stage
returns-clause-stage g c =
    let checked : IsChecked c.in_ok-world.world.config = subst (λ w. IsChecked w.config) c.world.view_is c.world.invariant.laid_out.checked in
    replay_ran c.args.request.now (g.F.Files.holds c.args.files.now) (g.F.Files.holds c.machine_of.new.files) (g.F.Files.read_faults c.args.files.now) (g.F.Files.read_faults c.machine_of.new.files) (g.F.Files.read_faults c.replayed_in.new.files)
    c.in_ok-world.world c.in_ok-world.ensures.kept c.in_ok-world.ensures.stage
    c.in_ok-events.events c.in_ok-events.ensures.stage c.in_ok-ran.ran c.in_ok-decide_run.field-0 checked c.in_ok-ran.ensures c.in_ok-decide_run.ensures
