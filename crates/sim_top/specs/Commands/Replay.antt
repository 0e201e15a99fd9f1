-- `replay`: the run that a journal's file tells is made again, of the image under the settings.
use Rattle.sim_config.specs.declared.request.Request.{Request}
use Rattle.sim_top.specs.Stage.{Stage, and_then}
use Rattle.sim_top.specs.Verdict.{Verdict}
use Rattle.sim_top.specs.Asked.{machine, replayed}
use Rattle.sim_top.specs.Runs.{followed}

unfoldable pub replay : Request → Stage Verdict
replay request = and_then (machine request) (λ w. and_then (replayed request) (followed w))
