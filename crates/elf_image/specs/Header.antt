-- The headers of an ELF64 file with little-endian numbers, from the System V ABI, "ELF header" and
-- "Program header". Fields that this simulator doesn't read have no name here.
use Rattle.std.specs.Prelude.{ℕ, ◌+◌, ◌*◌, ◌==◌, List, map, filter, drop, slice_index}
use Rattle.std.specs.List.{range_with_len}
use Rattle.byteorder.specs.Endian.{little_number}
use Rattle.elf_image.specs.declared.headers.ProgramHeader.{ProgramHeader}

-- how many bytes the file header has, and each program header
abbrev pub file_header_size : ℕ
file_header_size = 64

abbrev pub program_header_size : ℕ
program_header_size = 56

-- the number in the n bytes from a place on
abbrev pub number_at : ℕ → ℕ → List ℕ → ℕ
number_at n at bytes = little_number n (drop at bytes)

-- the fields of the file header, in the file's order; class, data and version are bytes of e_ident
unfoldable pub class : List ℕ → ℕ
class bytes = slice_index bytes 4

unfoldable pub data_encoding : List ℕ → ℕ
data_encoding bytes = slice_index bytes 5

unfoldable pub ident_version : List ℕ → ℕ
ident_version bytes = slice_index bytes 6

unfoldable pub e_type : List ℕ → ℕ
e_type bytes = number_at 2 16 bytes

unfoldable pub e_machine : List ℕ → ℕ
e_machine bytes = number_at 2 18 bytes

unfoldable pub e_entry : List ℕ → ℕ
e_entry bytes = number_at 8 24 bytes

unfoldable pub e_phoff : List ℕ → ℕ
e_phoff bytes = number_at 8 32 bytes

unfoldable pub e_phentsize : List ℕ → ℕ
e_phentsize bytes = number_at 2 54 bytes

unfoldable pub e_phnum : List ℕ → ℕ
e_phnum bytes = number_at 2 56 bytes

-- the program header that stands at a place of the file
unfoldable pub header_from : List ℕ → ℕ → ProgramHeader
header_from bytes at = record {
  kind = number_at 4 at bytes;
  flags = number_at 4 (at + 4) bytes;
  offset = number_at 8 (at + 8) bytes;
  vaddr = number_at 8 (at + 16) bytes;
  filesz = number_at 8 (at + 32) bytes;
  memsz = number_at 8 (at + 40) bytes;
}

-- program header number k
abbrev pub header_at : List ℕ → ℕ → ProgramHeader
header_at bytes k = header_from bytes (e_phoff bytes + program_header_size * k)

-- all program headers, in the file's order
abbrev pub headers : List ℕ → List ProgramHeader
headers bytes = map (header_at bytes) (range_with_len 0 (e_phnum bytes))

-- the headers of what is loaded into memory, whose type is PT_LOAD
abbrev pub loads : List ℕ → List ProgramHeader
loads bytes = filter (λ h. h.kind == 1) (headers bytes)
