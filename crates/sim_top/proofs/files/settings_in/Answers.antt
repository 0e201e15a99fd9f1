-- A file that is too long is refused.
use Rattle.std.proofs.Common.{◌≡◌, Err, rules}
use Rattle.sim_base.specs.declared.settings.Field.TheVariants.{Length}
use Rattle.sim_top.specs.declared.outcomes.Outcome.TheVariants.{BadConfig}
use Rattle.sim_top.specs.Asked.{settings_said}
use Rattle.sim_top.specs.Stage.{Reads, reads}
use Rattle.sim_top.specs.Inner.{ReadsFile}
use Rattle.sim_top.proofs.FileLemmas.{read_halt, long_settings}
use Rattle.sim_top.proofs.files.settings_in.Goals as goal

pub returns-in_err-bytes-clause-stage : goal.returns-in_err-bytes-clause-stage
returns-in_err-bytes-clause-stage g c =
    let r : Reads = reads (g.F.Files.holds c.args.files.now) (g.F.Files.read_faults c.args.files.now) (g.F.Files.read_faults c.read_file.new.files) in
    let is : c.from_residual.result ≡ Err c.in_err-bytes.field-0.0 = search rules in
    let read : ReadsFile r c.args.name.now 65536 (BadConfig Length) (Err c.in_err-bytes.field-0.0) = c.in_err-bytes.ensures.reads in
    rw is (read_halt r c.args.name.now settings_said 65536 (BadConfig Length) long_settings c.in_err-bytes.field-0.0 read)
