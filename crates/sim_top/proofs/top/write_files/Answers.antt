-- One more file was written, or the next one wasn't.
use Rattle.std.proofs.Common.{◌≡◌, Some, Err, refl, sym, subst, length, take, ◌≤◌, ◌∙◌, arith, rules}
use Rattle.std.specs.Prelude.{slice_get}
use Rattle.std.proofs.lemmas.List.{take_all}
use Rattle.std.proofs.lemmas.Option.{slice_get_read}
use Rattle.sim_top.specs.Answer.{HasWritten, writes}
use Rattle.sim_top.proofs.WriteLemmas.{none_written, one_more, not_one_more}
use Rattle.sim_top.proofs.top.write_files.Goals as goal

pub loop-file-init : goal.loop-file-init
loop-file-init g c = record { within = omega arith; wrote = record { wrote = sym (none_written (g.F.Files.holds c.args.files.now)); no_fault = refl }; reads = refl }

pub loop-file-preserved : goal.loop-file-preserved
loop-file-preserved g c = record {
  within = omega arith;
  wrote = let here : slice_get c.args.list.now c.loop-file.file-index ≡ Some c.file-item.result = slice_get_read c.args.list.now _ c.loop-file.file-index _ refl (omega arith) c.file-item.is in
      one_more (g.F.Files.holds c.args.files.now) (g.F.Files.holds c.loop-file.files) (g.F.Files.holds c.write_all.new.self) (g.F.Files.write_faults c.args.files.now)
      (g.F.Files.write_faults c.loop-file.files) (g.F.Files.write_faults c.write_all.new.self) c.args.list.now c.loop-file.file-index c.file-item.result here c.loop-file.invariant.wrote (search rules) (search rules);
  reads = c.in_ok-write_all.ensures.reads ∙ c.loop-file.invariant.reads;
}

pub returns-in_err-write_all-clause-writes : goal.returns-in_err-write_all-clause-writes
returns-in_err-write_all-clause-writes g c =
    let is : c.from_residual.result ≡ Err c.in_err-write_all.field-0.0 = search rules in
    let here : slice_get c.args.list.now c.loop-file.file-index ≡ Some c.file-item.result = slice_get_read c.args.list.now _ c.loop-file.file-index _ refl (omega arith) c.file-item.is in
    rw is (not_one_more (g.F.Files.holds c.args.files.now) (g.F.Files.holds c.loop-file.files) (g.F.Files.holds c.write_all.new.self) (g.F.Files.write_faults c.args.files.now)
    (g.F.Files.write_faults c.loop-file.files) (g.F.Files.write_faults c.write_all.new.self) c.args.list.now c.loop-file.file-index c.file-item.result here c.loop-file.invariant.wrote
    c.in_err-write_all.field-0.0 (search rules))

pub returns-clause-writes : goal.returns-clause-writes
returns-clause-writes g c =
    let all : take c.loop-file.file-index c.args.list.now ≡ c.args.list.now = take_all c.loop-file.file-index c.args.list.now (omega arith) in
    subst (HasWritten (writes (g.F.Files.holds c.args.files.now) (g.F.Files.holds c.loop-file.files) (g.F.Files.write_faults c.args.files.now) (g.F.Files.write_faults c.loop-file.files)))
    all c.loop-file.invariant.wrote
