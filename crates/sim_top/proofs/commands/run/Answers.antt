-- The run that the seed draws.
use Rattle.std.proofs.Common.{◌≡◌, Err, subst, rules}
use Rattle.std.specs.Option.{option_to_list, option_copied}
use Rattle.sim_base.specs.Settings.{IsChecked}
use Rattle.sim_top.specs.Asked.{machine}
use Rattle.sim_top.specs.Runs.{drawn}
use Rattle.sim_top.specs.Stage.{reads}
use Rattle.sim_top.proofs.StageLemmas.{told_halt}
use Rattle.sim_top.proofs.CommandLemmas.{run_halt, run_ran}
use Rattle.sim_top.proofs.commands.run.Goals as goal

pub returns-in_err-world-clause-stage : goal.returns-in_err-world-clause-stage
returns-in_err-world-clause-stage g c =
    let is : c.from_residual.result ≡ Err c.in_err-world.field-0.0 = search rules in
    rw is (told_halt (machine c.args.request.now) (drawn (option_to_list (option_copied c.args.journal))) (reads (g.F.Files.holds c.args.files.now) (g.F.Files.read_faults c.args.files.now) (g.F.Files.read_faults c.machine_of.new.files))
    c.in_err-world.field-0.0 c.in_err-world.ensures.stage)

pub returns-in_err-ran-clause-stage : goal.returns-in_err-ran-clause-stage
returns-in_err-ran-clause-stage g c =
    let is : c.from_residual-in_err-ran.result ≡ Err c.in_err-ran.field-0.0 = search rules in
    rw is (run_halt c.args.request.now (option_to_list (option_copied c.args.journal)) (g.F.Files.holds c.args.files.now) (g.F.Files.read_faults c.args.files.now) (g.F.Files.read_faults c.machine_of.new.files) c.in_ok-world.world
    c.in_ok-world.ensures.stage c.in_err-ran.field-0.0 c.in_err-ran.ensures)

pub returns-clause-stage : goal.returns-clause-stage
returns-clause-stage g c =
    let checked : IsChecked c.in_ok-world.world.config = subst (λ w. IsChecked w.config) c.world.view_is c.world.invariant.laid_out.checked in
    run_ran c.args.request.now (option_to_list (option_copied c.args.journal)) (g.F.Files.holds c.args.files.now) (g.F.Files.read_faults c.args.files.now) (g.F.Files.read_faults c.machine_of.new.files) c.in_ok-world.world
    c.in_ok-world.ensures.stage c.in_ok-ran.ran c.in_ok-decide_run.field-0 checked c.in_ok-ran.ensures c.in_ok-decide_run.ensures
