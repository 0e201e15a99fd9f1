use Rattle.std.proofs.Common.{◌≡◌, drop}
use Rattle.elf_image.specs.Decoded.{first_found}
use Rattle.elf_image.proofs.decoded.found_later.Given as goal

-- none so far has a row there
abbrev pub invariant-loop-table : goal.invariant-loop-table
invariant-loop-table l = first_found l.tables l.pc ≡ first_found (drop l.table-index l.tables) l.pc
