-- The journal is that of the file that is named.
use Rattle.std.proofs.Common.{rules}
use Rattle.sim_top.specs.Stage.{reads}
use Rattle.sim_top.proofs.AskedLemmas.{journal_read}
use Rattle.sim_top.proofs.asked.replayed_in.Goals as goal

pub returns-clause-stage : goal.returns-clause-stage
returns-clause-stage g c =
    journal_read c.args.request.now c.args.name.now (reads (g.F.Files.holds c.args.files.now) (g.F.Files.read_faults c.args.files.now) (g.F.Files.read_faults c.journal_in.new.files))
    c.journal_in.result c.requires (search rules)
