-- The file that a program is written to, by the System V ABI, "ELF header" and "Program header": the file
-- header, a program header for each segment, and the segments' bytes one after the other.
use Rattle.std.specs.Prelude.{ℕ, ◌+◌, ◌*◌, List, [], ◌∷◌, ◌++◌, length, replicate, sum_by}
use Rattle.std.specs.List.{flat_map}
use Rattle.byteorder.specs.Endian.{little_bytes}
use Rattle.elf_image.specs.declared.program.Segment.{Segment}
use Rattle.elf_image.specs.Header.{file_header_size, program_header_size}
use Rattle.elf_image.specs.Image.{Program}

-- 7F, `ELF`, 64 bits, little-endian, version 1, and zeros
unfoldable pub ident_bytes : List ℕ
ident_bytes = 0x7F ∷ 0x45 ∷ 0x4C ∷ 0x46 ∷ 2 ∷ 1 ∷ 1 ∷ replicate 9 0

-- the file header of an entry and a number of segments. In the file's order: e_ident, e_type executable,
-- e_machine RISC-V, e_version, e_entry, e_phoff, e_shoff, e_flags, e_ehsize, e_phentsize, e_phnum, and three
-- fields on sections
unfoldable pub header_bytes : ℕ → ℕ → List ℕ
header_bytes entry count =
    ident_bytes ++ little_bytes 2 2 ++ little_bytes 2 243 ++ little_bytes 4 1 ++ little_bytes 8 entry
    ++ little_bytes 8 file_header_size ++ replicate 8 0 ++ replicate 4 0 ++ little_bytes 2 file_header_size ++ little_bytes 2 program_header_size ++ little_bytes 2 count ++ replicate 6 0

-- the program header of a segment whose bytes stand at a place of the file: p_type, p_flags, p_offset,
-- p_vaddr, p_paddr, p_filesz, p_memsz, p_align
unfoldable pub segment_header : ℕ → Segment → List ℕ
segment_header at s =
    little_bytes 4 1 ++ little_bytes 4 s.flags ++ little_bytes 8 at ++ little_bytes 8 s.vaddr ++ little_bytes 8 s.vaddr
    ++ little_bytes 8 (length s.bytes) ++ little_bytes 8 s.memsz ++ little_bytes 8 1

-- the program headers of segments whose bytes stand one after the other from a place of the file on
abbrev pub table_bytes : ℕ → List Segment → List ℕ
table_bytes at [] = []
table_bytes at (s ∷ rest) = segment_header at s ++ table_bytes (at + length s.bytes) rest

-- how many bytes the file of some segments has
abbrev pub file_size : List Segment → ℕ
file_size segments = file_header_size + program_header_size * length segments + sum_by (λ s. length s.bytes) segments

-- the file of a program
unfoldable pub file_of : Program → List ℕ
file_of p =
    header_bytes p.entry (length p.segments)
    ++ (table_bytes (file_header_size + program_header_size * length p.segments) p.segments ++ flat_map (λ s. s.bytes) p.segments)
