-- `gen`: the image of a workload is written to the file that is named, and nothing is run.
use Rattle.std.specs.Option.{option_to_list}
use Rattle.elf_image.specs.File.{file_of}
use Rattle.sim_config.specs.declared.request.Request.{Request}
use Rattle.sim_config.specs.Request.{workload_name}
use Rattle.sim_top.specs.declared.outcomes.Outcome.TheVariants.{Written}
use Rattle.sim_top.specs.Stage.{Stage, and_then, given}
use Rattle.sim_top.specs.Verdict.{Verdict, without_run, files_of}
use Rattle.sim_top.specs.Asked.{image}

unfoldable pub gen : Request → Stage Verdict
gen request = and_then (image request) (λ program. given (record (without_run Written) { files = files_of (option_to_list (workload_name request)) (file_of program) }))
