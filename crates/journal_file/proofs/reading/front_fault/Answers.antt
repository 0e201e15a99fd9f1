use Rattle.std.proofs.Common.{nat_eq, arith, sym}
use Rattle.std.proofs.lemmas.Bool.{eq-eqb}
use Rattle.std.proofs.lemmas.List.Sums.{common_prefix_len-drop_yes}
use Rattle.journal_file.specs.File.{magic}
use Rattle.journal_file.proofs.reading.front_fault.Goals as goal

pub loop-at-preserved : goal.loop-at-preserved
loop-at-preserved c =
    let more = common_prefix_len-drop_yes nat_eq magic c.args.bytes.now c.loop-at.at 0 0 c.loop-at-test.true (omega arith) (eq-eqb _ _ (sym c.if-bytes-at-2.false)) in
    omega (arith, more)
