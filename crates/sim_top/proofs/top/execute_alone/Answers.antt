-- The answer has its cause, and its journal is a coherent run.
use Rattle.sim_top.specs.Answer.{stream, writes}
use Rattle.sim_top.specs.Stage.{reads}
use Rattle.sim_top.proofs.AnswerLemmas.{has_cause, coherent_run}
use Rattle.sim_top.proofs.PrintedLemmas.{is_printed}
use Rattle.sim_top.proofs.top.execute_alone.Goals as goal

pub returns-clause-cause : goal.returns-clause-cause
returns-clause-cause g c =
    has_cause c.args.words.now
    (reads (g.F.Files.holds c.args.files.now) (g.F.Files.read_faults c.args.files.now) (g.F.Files.read_faults c.answer.new.files))
    (stream (g.S.Sink.faults c.args.out.now) (g.S.Sink.faults c.answer.new.out) (g.S.Sink.taken c.args.out.now) (g.S.Sink.taken c.answer.new.out))
    (writes (g.F.Files.holds c.args.files.now) (g.F.Files.holds c.answer.new.files) (g.F.Files.write_faults c.args.files.now) (g.F.Files.write_faults c.answer.new.files))
    c.answer.result.outcome c.answer.result.journal c.answer.ensures.answer

pub returns-clause-coherent : goal.returns-clause-coherent
returns-clause-coherent g c =
    coherent_run c.args.words.now
    (reads (g.F.Files.holds c.args.files.now) (g.F.Files.read_faults c.args.files.now) (g.F.Files.read_faults c.answer.new.files))
    (stream (g.S.Sink.faults c.args.out.now) (g.S.Sink.faults c.answer.new.out) (g.S.Sink.taken c.args.out.now) (g.S.Sink.taken c.answer.new.out))
    (writes (g.F.Files.holds c.args.files.now) (g.F.Files.holds c.answer.new.files) (g.F.Files.write_faults c.args.files.now) (g.F.Files.write_faults c.answer.new.files))
    c.answer.result.outcome c.answer.result.journal c.answer.ensures.answer

pub returns-clause-printed : goal.returns-clause-printed
returns-clause-printed g c =
    is_printed c.args.words.now
    (reads (g.F.Files.holds c.args.files.now) (g.F.Files.read_faults c.args.files.now) (g.F.Files.read_faults c.answer.new.files))
    (stream (g.S.Sink.faults c.args.out.now) (g.S.Sink.faults c.answer.new.out) (g.S.Sink.taken c.args.out.now) (g.S.Sink.taken c.answer.new.out))
    (writes (g.F.Files.holds c.args.files.now) (g.F.Files.holds c.answer.new.files) (g.F.Files.write_faults c.args.files.now) (g.F.Files.write_faults c.answer.new.files))
    c.answer.result.outcome c.answer.result.journal c.answer.ensures.answer
