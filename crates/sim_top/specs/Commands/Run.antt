-- `run`: the image is run under the settings, as their seed draws it, and its journal goes to the file that is named for it.
use Rattle.std.specs.Option.{option_to_list}
use Rattle.sim_config.specs.declared.request.Request.{Request}
use Rattle.sim_config.specs.Request.{journal_name}
use Rattle.sim_top.specs.Stage.{Stage, and_then}
use Rattle.sim_top.specs.Verdict.{Verdict}
use Rattle.sim_top.specs.Asked.{machine}
use Rattle.sim_top.specs.Runs.{drawn}

unfoldable pub run : Request → Stage Verdict
run request = and_then (machine request) (drawn (option_to_list (journal_name request)))
