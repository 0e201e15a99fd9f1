-- The machine has the image under the settings.
use Rattle.std.proofs.Common.{◌≡◌, Err, rules}
use Rattle.sim_top.specs.Stage.{Reads, reads}
use Rattle.sim_top.proofs.AskedLemmas.{no_settings, no_image, machine_given}
use Rattle.sim_top.proofs.asked.machine_of.Goals as goal

pub returns-in_err-config-clause-stage : goal.returns-in_err-config-clause-stage
returns-in_err-config-clause-stage g c =
    let r : Reads = reads (g.F.Files.holds c.args.files.now) (g.F.Files.read_faults c.args.files.now) (g.F.Files.read_faults c.settings_of.new.files) in
    let is : c.from_residual.result ≡ Err c.in_err-config.field-0.0 = search rules in
    rw is (no_settings c.args.request.now r c.in_err-config.field-0.0 c.in_err-config.ensures.stage)

pub returns-in_err-image-clause-stage : goal.returns-in_err-image-clause-stage
returns-in_err-image-clause-stage g c =
    let is : c.from_residual-in_err-image.result ≡ Err c.in_err-image.field-0.0 = search rules in
    rw is (no_image c.args.request.now (g.F.Files.holds c.args.files.now) (g.F.Files.holds c.settings_of.new.files) (g.F.Files.read_faults c.args.files.now)
    (g.F.Files.read_faults c.settings_of.new.files) (g.F.Files.read_faults c.image_of.new.files) c.in_ok-config.config c.in_ok-config.ensures.kept c.in_ok-config.ensures.stage
    c.in_err-image.field-0.0 c.in_err-image.ensures.stage)

pub returns-clause-stage : goal.returns-clause-stage
returns-clause-stage g c =
    rw c.new.ensures (machine_given c.args.request.now (g.F.Files.holds c.args.files.now) (g.F.Files.holds c.settings_of.new.files) (g.F.Files.read_faults c.args.files.now)
    (g.F.Files.read_faults c.settings_of.new.files) (g.F.Files.read_faults c.image_of.new.files) c.in_ok-config.config c.in_ok-config.ensures.kept c.in_ok-config.ensures.stage
    c.in_ok-image.image c.in_ok-image.ensures.stage)
