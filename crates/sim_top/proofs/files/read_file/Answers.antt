-- A file of which more than the limit was read is longer than the limit.
use Rattle.std.proofs.Common.{refl, inr}
use Rattle.sim_top.proofs.FileLemmas.{read_too_long, long_file}
use Rattle.sim_top.proofs.files.read_file.Goals as goal

pub returns-in-Err-TooLong-clause-reads : goal.returns-in-Err-TooLong-clause-reads
returns-in-Err-TooLong-clause-reads g c =
    let read = read_too_long c.read_all.result (g.F.Files.holds c.args.files.now) c.args.name.now c.args.limit c.read_all.new.into.items _ _ c.in-Err-TooLong.field-0 c.in-Err-TooLong.is c.in-Err-TooLong.field-0-is c.read_all.ensures.answer in
    let file = long_file (g.F.Files.holds c.args.files.now) c.args.name.now c.read_all.new.into.items c.args.limit read.0 read.1 in
    inr (refl, read.2, file.0, file.1, file.2)
