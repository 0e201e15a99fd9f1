-- For the contracts of private functions alone: no clause of a public function needs this.
use Rattle.std.specs.Prelude.{ℕ, ◌≡◌, ◌+◌, ◌&&◌, Bool, List, nat_le}
use Rattle.elf_image.specs.declared.address_map.Right.{Right}
use Rattle.elf_image.specs.declared.address_map.Right.TheVariants.{Read, Write, ReadWrite}
use Rattle.elf_image.specs.declared.program.Segment.{Segment}
use Rattle.elf_image.specs.declared.address_map.Layout.{Layout}
use Rattle.elf_image.specs.Layout.{Setup, IsLaidOut}
use Rattle.elf_image.specs.Costs.{costs_of}
use Rattle.elf_image.specs.Image.{grants_read, grants_write, segment_end}

-- what a world keeps beside its image and its settings: the layout of its memory, how far apart the stacks begin, and the
-- table of costs
pub record IsWorld (w : Setup) (layout : Layout) (stride : ℕ) (costs : List ℕ) : Type 0 where
  pub laid_out : IsLaidOut w layout
  pub apart : stride ≡ w.config.stack_bytes + 4096
  pub table : costs ≡ costs_of w.config

-- whether a segment grants a right
abbrev pub grants : Right → Segment → Bool
grants Read s = grants_read s
grants Write s = grants_write s
grants ReadWrite s = grants_read s && grants_write s

-- whether a segment has all of a range
abbrev pub holds_range : ℕ → ℕ → Segment → Bool
holds_range address size s = nat_le s.vaddr address && nat_le (address + size) (segment_end s)

-- whether a segment grants a right to all of a range
abbrev pub grants_range : Right → ℕ → ℕ → Segment → Bool
grants_range right address size s = grants right s && holds_range address size s
