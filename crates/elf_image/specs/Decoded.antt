-- The instructions of an executable segment, decoded once: one row for each multiple of 4 from the segment's
-- start to the end of its bytes. The words past those are 0, which is no instruction. This simulator's own.
use Rattle.std.specs.Prelude.{ℕ, ◌+◌, ◌-◌, ◌*◌, ◌/◌, ◌%◌, ◌≡◌, ◌==◌, ◌&&◌, List, [], ◌∷◌, map, filter, find, length, nat_le, if◌then◌else◌, Option, None, option_and_then, slice_get}
use Rattle.std.specs.List.{range_with_len}
use Rattle.std.specs.Option.{option_or}
use Rattle.byteorder.specs.Endian.{little_number}
use Rattle.rv_decode.specs.declared.instr.Instr.{Instr}
use Rattle.rv_decode.specs.Table.{row}
use Rattle.elf_image.specs.declared.program.Segment.{Segment}
use Rattle.elf_image.specs.Image.{Program, IsProgram, grants_execute}
use Rattle.elf_image.specs.Layout.{byte_of, holds_word}

-- rows of instructions, for the multiples of 4 from the first address on
pub record Rows : Type 0 where
  pub first : ℕ
  pub rows : List (Option Instr)

-- the word that a segment has at an address
abbrev pub word_of : Segment → ℕ → ℕ
word_of s address = little_number 4 (map (byte_of s) (range_with_len address 4))

-- the instruction that a segment has at an address, if the word's four bytes lie in it
unfoldable pub row_at : Segment → ℕ → Option Instr
row_at s address = if holds_word s address then row (word_of s address) else None

-- the first multiple of 4 that isn't below a segment's start
abbrev pub first_word : Segment → ℕ
first_word s = (s.vaddr + 3) / 4 * 4

-- how many multiples of 4 lie from there to the end of a segment's bytes
abbrev pub word_count : Segment → ℕ
word_count s = (s.vaddr + length s.bytes - first_word s + 3) / 4

-- a segment, decoded
unfoldable pub decoded_of : Segment → Rows
decoded_of s = record {
  first = first_word s;
  rows = map (λ k. row_at s (first_word s + 4 * k)) (range_with_len 0 (word_count s));
}

-- the row that a decoded segment has at a multiple of 4
unfoldable pub found_in : Rows → ℕ → Option Instr
found_in t pc = if nat_le t.first pc then option_and_then (λ found. found) (slice_get t.rows ((pc - t.first) / 4)) else None

-- the first row at a multiple of 4
abbrev pub first_found : List Rows → ℕ → Option Instr
first_found [] pc = None
first_found (t ∷ rest) pc = option_or (found_in t pc) (first_found rest pc)

-- the instruction that a program has at an address
unfoldable pub program_row : Program → ℕ → Option Instr
program_row p pc =
    if pc % 4 == 0
    then option_and_then (λ s. row (word_of s pc)) (find (λ s. grants_execute s && holds_word s pc) p.segments)
    else None

-- a program with its executable segments decoded
pub record IsDecoded (p : Program) (tables : List Rows) : Type 0 where
  pub program : IsProgram p
  pub decoded : tables ≡ map decoded_of (filter grants_execute p.segments)
