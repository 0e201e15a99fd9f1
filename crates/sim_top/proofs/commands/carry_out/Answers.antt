-- Each command does what is asked.
use Rattle.std.proofs.Common.{◌≡◌, refl, ap, subst, rules}
use Rattle.std.specs.Option.{option_to_list}
use Rattle.sim_top.specs.Asked.{machine}
use Rattle.sim_top.specs.Runs.{drawn}
use Rattle.sim_top.specs.Stage.{reads, Reads, and_then}
use Rattle.sim_top.specs.Inner.{TellsVerdict}
use Rattle.sim_top.proofs.CommandLemmas.{is_run, is_bench, is_gen}
use Rattle.sim_top.proofs.commands.carry_out.Goals as goal

pub returns-in-Run-clause-stage : goal.returns-in-Run-clause-stage
returns-in-Run-clause-stage g c =
    let r : Reads = reads (g.F.Files.holds c.args.files.now) (g.F.Files.read_faults c.args.files.now) (g.F.Files.read_faults c.run.new.files) in
    let told : TellsVerdict (and_then (machine c.args.request.now) (drawn (option_to_list c.in-Run.journal))) r c.run.result =
    subst (λ j. TellsVerdict (and_then (machine c.args.request.now) (drawn (option_to_list j))) r c.run.result) c.as_ref.ensures.value c.run.ensures.stage in
    is_run c.args.request.now r c.in-Run.image c.in-Run.config c.in-Run.seed c.in-Run.journal c.run.result c.in-Run.is told

pub returns-in-Bench-clause-stage : goal.returns-in-Bench-clause-stage
returns-in-Bench-clause-stage g c =
    is_bench c.args.request.now (reads (g.F.Files.holds c.args.files.now) (g.F.Files.read_faults c.args.files.now) (g.F.Files.read_faults c.run-in-Bench.new.files)) c.in-Bench.seed c.run-in-Bench.result c.in-Bench.is c.run-in-Bench.ensures.stage

pub returns-in_ok-write_workload-in-Gen-clause-stage : goal.returns-in_ok-write_workload-in-Gen-clause-stage
returns-in_ok-write_workload-in-Gen-clause-stage g c =
    is_gen c.args.request.now (reads (g.F.Files.holds c.args.files.now) (g.F.Files.read_faults c.args.files.now) (g.F.Files.read_faults c.args.files.now)) c.in-Gen.kind c.in-Gen.seed c.in-Gen.out c.in_ok-write_workload-in-Gen.field-0 c.in-Gen.is refl
    c.in_ok-write_workload-in-Gen.ensures
