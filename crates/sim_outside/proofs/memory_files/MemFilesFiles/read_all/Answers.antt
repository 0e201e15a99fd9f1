-- What was answered, read and counted is what all files promise.
use Rattle.std.proofs.Common.{rules}
use Rattle.sim_outside.specs.Memory.{held, is_to_fail}
use Rattle.sim_outside.proofs.ReadLemmas.{reads_in_memory}
use Rattle.sim_outside.proofs.memory_files.MemFilesFiles.read_all.Goals as goal

pub returns-else-eq-clause-answer : goal.returns-else-eq-clause-answer
returns-else-eq-clause-answer c = reads_in_memory (held c.args.self.now.files.items) c.args.name.now c.args.limit c.args.self.now.read_faults _
    (is_to_fail c.args.self.now.fail.items c.args.self.now.calls) _ _ c.answer-answer.ensures.exact c.answer-answer.ensures.bytes (search rules)
