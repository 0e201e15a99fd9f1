-- A file that is too long is refused.
use Rattle.std.proofs.Common.{◌≡◌, Err, rules}
use Rattle.elf_image.specs.declared.refusal.ImageFault.TheVariants.{TooLong}
use Rattle.sim_top.specs.declared.outcomes.Outcome.TheVariants.{BadImage}
use Rattle.sim_top.specs.Asked.{image_said}
use Rattle.sim_top.specs.Stage.{Reads, reads}
use Rattle.sim_top.specs.Inner.{ReadsFile}
use Rattle.sim_top.proofs.FileLemmas.{read_halt, long_image}
use Rattle.sim_top.proofs.files.image_in.Goals as goal

pub returns-in_err-bytes-clause-stage : goal.returns-in_err-bytes-clause-stage
returns-in_err-bytes-clause-stage g c =
    let r : Reads = reads (g.F.Files.holds c.args.files.now) (g.F.Files.read_faults c.args.files.now) (g.F.Files.read_faults c.read_file.new.files) in
    let is : c.from_residual.result ≡ Err c.in_err-bytes.field-0.0 = search rules in
    let read : ReadsFile r c.args.name.now 16777216 (BadImage TooLong) (Err c.in_err-bytes.field-0.0) = c.in_err-bytes.ensures.reads in
    rw is (read_halt r c.args.name.now image_said 16777216 (BadImage TooLong) long_image c.in_err-bytes.field-0.0 read)
