-- `bench`: the workload `reduce` is run, as its seed draws it.
use Rattle.std.specs.Prelude.{[]}
use Rattle.sim_config.specs.declared.request.Request.{Request}
use Rattle.sim_top.specs.Stage.{Stage, and_then}
use Rattle.sim_top.specs.Verdict.{Verdict}
use Rattle.sim_top.specs.Asked.{machine}
use Rattle.sim_top.specs.Runs.{drawn}

unfoldable pub bench : Request → Stage Verdict
bench request = and_then (machine request) (drawn [])
