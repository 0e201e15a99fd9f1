-- The commands, a line each: which verdict the words of a call and the files that they name come to.
use Rattle.std.specs.Prelude.{ℕ, List, Option, Some, None, Err}
use Rattle.sim_config.specs.declared.request.Request.{Request}
use Rattle.sim_config.specs.declared.request.Request.TheVariants as asked
use Rattle.sim_config.specs.Request.{meaning}
use Rattle.sim_top.specs.declared.outcomes.Outcome.TheVariants.{Usage}
use Rattle.sim_top.specs.Stage.{Reads, Stage, answered}
use Rattle.sim_top.specs.Verdict.{Verdict, ComesTo}
use Rattle.sim_top.specs.Commands.Run.{run}
use Rattle.sim_top.specs.Commands.Replay.{replay}
use Rattle.sim_top.specs.Commands.Gen.{gen}
use Rattle.sim_top.specs.Commands.Bench.{bench}
pub mod Run
pub mod Replay
pub mod Gen
pub mod Bench

abbrev pub command_of : Request → Request → Stage Verdict
command_of (asked.Run image config seed journal) = run
command_of (asked.Replay image journal config seed) = replay
command_of (asked.Gen kind seed out) = gen
command_of (asked.Bench seed) = bench

-- words without a meaning are refused
abbrev pub stages : Option Request → Stage Verdict
stages None = answered (Err Usage)
stages (Some request) = command_of request request

-- the verdict of words, by what is read
abbrev pub Decides : List (List ℕ) → Reads → Verdict → Type 0
Decides words r v = ComesTo (stages (meaning words)) r v
