-- The image is read, or it is a workload.
use Rattle.std.proofs.Common.{◌≡◌, Some, None, refl, rules}
use Rattle.sim_config.specs.Request.{image_name, workload_of}
use Rattle.sim_top.specs.Asked.{image_said}
use Rattle.sim_top.specs.Stage.{Reads, reads, in_file}
use Rattle.sim_top.specs.Inner.{Tells}
use Rattle.sim_top.proofs.AskedLemmas.{image_read, image_made}
use Rattle.sim_top.proofs.asked.image_of.Goals as goal

pub returns-in-Some-clause-stage : goal.returns-in-Some-clause-stage
returns-in-Some-clause-stage g c =
    let r : Reads = reads (g.F.Files.holds c.args.files.now) (g.F.Files.read_faults c.args.files.now) (g.F.Files.read_faults c.image_in.new.files) in
    let named : image_name c.args.request.now ≡ Some c.as_str.result.now = search rules in
    image_read c.args.request.now c.as_str.result.now r c.image_in.result named c.image_in.ensures.stage

pub returns-clause-stage : goal.returns-clause-stage
returns-clause-stage g c =
    let r : Reads = reads (g.F.Files.holds c.args.files.now) (g.F.Files.read_faults c.args.files.now) (g.F.Files.read_faults c.args.files.now) in
    let none : image_name c.args.request.now ≡ None = search rules in
    let some : workload_of c.args.request.now ≡ Some (c.in-Some-workload_of.kind, c.in-Some-workload_of.seed) = search rules in
    image_made c.args.request.now c.in-Some-workload_of.kind c.in-Some-workload_of.seed r c.in_ok-generate-in-Some-workload_of.field-0 none some refl c.in_ok-generate-in-Some-workload_of.ensures.workload
