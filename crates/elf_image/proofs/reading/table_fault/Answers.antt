use Rattle.std.proofs.Common.{sym}
use Rattle.elf_image.proofs.Refusals.{right_table}
use Rattle.elf_image.proofs.reading.table_fault.Goals as goal

pub returns-then-has_wrong_load : goal.returns-then-has_wrong_load
returns-then-has_wrong_load c =
    rw (right_table c.args.bytes.now c.args.loaded.now c.requires.right c.requires.loaded, ← c.has_wrong_load.ensures, c.if-has_wrong_load.true)

pub returns : goal.returns
returns c =
    rw (right_table c.args.bytes.now c.args.loaded.now c.requires.right c.requires.loaded, ← c.has_wrong_load.ensures, c.if-has_wrong_load.false)
    (c.kind_fault.ensures c.args.bytes.now (sym c.requires.table))
