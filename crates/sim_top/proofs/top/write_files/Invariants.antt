-- The first files were written.
use Rattle.std.proofs.Common.{◌≡◌, ◌≤◌, length, take}
use Rattle.sim_top.specs.Answer.{HasWritten, writes}
use Rattle.sim_top.proofs.top.write_files.Given as goal

abbrev pub invariant-loop-file : goal.invariant-loop-file
invariant-loop-file g l = record {
  within : l.file-index ≤ length l.list;
  wrote : HasWritten (writes (g.F.Files.holds l.fn.files) (g.F.Files.holds l.files) (g.F.Files.write_faults l.fn.files) (g.F.Files.write_faults l.files)) (take l.file-index l.list);
  reads : g.F.Files.read_faults l.files ≡ g.F.Files.read_faults l.fn.files;
}
