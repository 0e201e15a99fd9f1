-- A file that is too long is refused.
use Rattle.std.proofs.Common.{◌≡◌, Err, rules}
use Rattle.sim_top.specs.declared.outcomes.JournalFault.TheVariants.{TooLong}
use Rattle.sim_top.specs.declared.outcomes.Outcome.TheVariants.{BadJournal}
use Rattle.sim_top.specs.Asked.{journal_said}
use Rattle.sim_top.specs.Stage.{Reads, reads}
use Rattle.sim_top.specs.Inner.{ReadsFile}
use Rattle.sim_top.proofs.FileLemmas.{read_halt, long_journal}
use Rattle.sim_top.proofs.files.journal_in.Goals as goal

pub returns-in_err-bytes-clause-stage : goal.returns-in_err-bytes-clause-stage
returns-in_err-bytes-clause-stage g c =
    let r : Reads = reads (g.F.Files.holds c.args.files.now) (g.F.Files.read_faults c.args.files.now) (g.F.Files.read_faults c.read_file.new.files) in
    let is : c.from_residual.result ≡ Err c.in_err-bytes.field-0.0 = search rules in
    let read : ReadsFile r c.args.name.now 300000000 (BadJournal TooLong) (Err c.in_err-bytes.field-0.0) = c.in_err-bytes.ensures.reads in
    rw is (read_halt r c.args.name.now journal_said 300000000 (BadJournal TooLong) long_journal c.in_err-bytes.field-0.0 read)
