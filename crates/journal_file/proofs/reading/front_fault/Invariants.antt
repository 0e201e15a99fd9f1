use Rattle.std.proofs.Common.{◌≡◌, ◌+◌, drop, nat_eq}
use Rattle.std.specs.List.{common_prefix_len}
use Rattle.journal_file.specs.File.{magic}
use Rattle.journal_file.specs.Reading.{front_fault}
use Rattle.journal_file.proofs.reading.front_fault.Given as goal

abbrev pub invariant-loop-at : goal.invariant-loop-at
invariant-loop-at l = front_fault l.bytes ≡ l.at + common_prefix_len nat_eq (drop l.at magic) (drop l.at l.bytes)
