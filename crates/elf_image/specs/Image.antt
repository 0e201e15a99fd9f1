-- Which ELF64 files this simulator takes, and the program that such a file holds. The fields are those
-- of the System V ABI, the machine that of the RISC-V ELF psABI; which files are refused, and the
-- limits, are this simulator's own.
use Rattle.std.specs.Prelude.{ℕ, ◌+◌, ◌*◌, ◌/◌, ◌%◌, ◌^◌, ◌==◌, ◌≤◌, ◌<◌, ◌≡◌, ◌&&◌, ◌||◌, Bool, true, false, not, List, [], ◌∷◌, length, map, take, drop, min, max, nat_lt, nat_le, nat_eq, if◌then◌else◌, Option, Some, None, Result, Ok, Err, All, sum_by, IsTrue, IsSomeAnd, ◌↔◌, slice_get}
use Rattle.std.specs.List.{list_any, starts_with}
use Rattle.std.specs.Option.{option_or}
use Rattle.elf_image.specs.declared.headers.ProgramHeader.{ProgramHeader}
use Rattle.elf_image.specs.Header.{file_header_size, program_header_size, headers, loads, class, data_encoding, ident_version, e_type, e_machine, e_entry, e_phoff, e_phentsize, e_phnum}
use Rattle.elf_image.specs.declared.program.Segment.{Segment}
use Rattle.elf_image.specs.declared.refusal.ImageFault.{ImageFault}
use Rattle.elf_image.specs.declared.refusal.ImageFault.TheVariants.{TooLong, Short, Magic, Class, Kind, Machine, Headers, Dynamic, Interp, Tls, Reach, Overlap, WriteExec, Entry}
use Rattle.elf_image.specs.declared.refusal.ImageRefusal.{ImageRefusal}
use Rattle.elf_image.specs.declared.refusal.ImageRefusal.TheVariants.{Bad, NoMemory}

-- what an image holds: where the program starts, and its segments in the file's order
pub record Program : Type 0 where
  pub entry : ℕ
  pub segments : List Segment

-- what a segment's flags grant: 1 is execute, 2 is write, 4 is read
abbrev pub grants_execute : Segment → Bool
grants_execute s = s.flags % 2 == 1

abbrev pub grants_write : Segment → Bool
grants_write s = s.flags / 2 % 2 == 1

abbrev pub grants_read : Segment → Bool
grants_read s = s.flags / 4 % 2 == 1

-- the first address past a segment. An empty segment has one too, though no address lies in it
abbrev pub segment_end : Segment → ℕ
segment_end s = s.vaddr + s.memsz

-- whether an address lies in a segment
abbrev pub holds : Segment → ℕ → Bool
holds s address = nat_le s.vaddr address && nat_lt address (segment_end s)

-- whether some segment that grants a right has an address
abbrev pub some_reads : Program → ℕ → Bool
some_reads p address = list_any (λ s. grants_read s && holds s address) p.segments

abbrev pub some_writes : Program → ℕ → Bool
some_writes p address = list_any (λ s. grants_write s && holds s address) p.segments

abbrev pub some_executes : Program → ℕ → Bool
some_executes p address = list_any (λ s. grants_execute s && holds s address) p.segments

-- whether some address lies in both segments: the later of the starts is before the earlier of the ends
abbrev pub share_byte : Segment → Segment → Bool
share_byte s t = nat_lt (max s.vaddr t.vaddr) (min (segment_end s) (segment_end t))

-- the segment of a header: the bytes that the file has for it, and the low three bits of the flags
abbrev pub segment_of : List ℕ → ProgramHeader → Segment
segment_of bytes h = record {
  vaddr = h.vaddr;
  memsz = h.memsz;
  flags = h.flags % 8;
  bytes = take h.filesz (drop h.offset bytes);
}

-- the segment of a header without its bytes, which no test of the memory asks for
abbrev pub frame : ProgramHeader → Segment
frame h = record {
  vaddr = h.vaddr;
  memsz = h.memsz;
  flags = h.flags % 8;
  bytes = [];
}

-- the program of a file
abbrev pub program : List ℕ → Program
program bytes = record { entry = e_entry bytes; segments = map (segment_of bytes) (loads bytes) }

-- the refusals, in order

-- more than 16,777,216 bytes
abbrev pub is_too_long : List ℕ → Bool
is_too_long bytes = nat_lt 16777216 (length bytes)

-- fewer bytes than the file header has
abbrev pub is_short : List ℕ → Bool
is_short bytes = nat_lt (length bytes) file_header_size

-- the first four bytes aren't 7F and `ELF`
unfoldable pub has_wrong_magic : List ℕ → Bool
has_wrong_magic bytes = not (starts_with nat_eq bytes (0x7F ∷ 0x45 ∷ 0x4C ∷ 0x46 ∷ []))

-- not of 64 bits, not little-endian, or not of version 1
unfoldable pub has_wrong_class : List ℕ → Bool
has_wrong_class bytes = not (class bytes == 2 && data_encoding bytes == 1 && ident_version bytes == 1)

-- not an executable file
unfoldable pub has_wrong_kind : List ℕ → Bool
has_wrong_kind bytes = not (e_type bytes == 2)

-- not for RISC-V
unfoldable pub has_wrong_machine : List ℕ → Bool
has_wrong_machine bytes = not (e_machine bytes == 243)

-- a loaded header whose bytes in the file are more than those in memory, or pass the file's end
abbrev pub has_wrong_size : List ℕ → ProgramHeader → Bool
has_wrong_size bytes h = nat_lt h.memsz h.filesz || nat_lt (length bytes) (h.offset + h.filesz)

-- program headers of another size, none or more than 64 of them, or a table of them that passes
-- the file's end
abbrev pub has_wrong_table : List ℕ → Bool
has_wrong_table bytes =
    not (e_phentsize bytes == program_header_size) || e_phnum bytes == 0 || nat_lt 64 (e_phnum bytes)
    || nat_lt (length bytes) (e_phoff bytes + program_header_size * e_phnum bytes)

-- a wrong table, or a loaded header with wrong sizes
unfoldable pub has_wrong_headers : List ℕ → Bool
has_wrong_headers bytes = has_wrong_table bytes || list_any (has_wrong_size bytes) (loads bytes)

-- some header is of a type: 2 is dynamic linking, 3 an interpreter, 7 thread-local storage
unfoldable pub has_kind : ℕ → List ℕ → Bool
has_kind kind bytes = list_any (λ h. h.kind == kind) (headers bytes)

-- a segment ends above 2^32, or the segments have more than 268,435,456 bytes in all
unfoldable pub reaches_too_far : List Segment → Bool
reaches_too_far segments =
    list_any (λ s. nat_lt (2 ^ 32) (segment_end s)) segments || nat_lt 268435456 (sum_by (λ s. s.memsz) segments)

-- two segments share a byte: the first with a later one, or two of the rest
abbrev pub overlaps : List Segment → Bool
overlaps [] = false
overlaps (s ∷ rest) = list_any (share_byte s) rest || overlaps rest

-- two different segments have an address in common, which is what it means to overlap
abbrev pub HaveCommonAddress : List Segment → Type 0
HaveCommonAddress segments =
    (i : ℕ) × (j : ℕ) × (address : ℕ) × (i < j) × IsSomeAnd (slice_get segments i) (λ s. IsTrue (holds s address))
    × IsSomeAnd (slice_get segments j) (λ t. IsTrue (holds t address))

abbrev pub OverlapIsCommonAddress : Type 0
OverlapIsCommonAddress = (segments : List Segment) → IsTrue (overlaps segments) ↔ HaveCommonAddress segments

-- a segment can be both written and executed
unfoldable pub has_write_exec : List Segment → Bool
has_write_exec segments = list_any (λ s. grants_write s && grants_execute s) segments

-- the entry isn't a multiple of 4, or lies in no executable segment
unfoldable pub has_wrong_entry : Program → Bool
has_wrong_entry p = not (p.entry % 4 == 0 && some_executes p p.entry)

-- a fault, and the test of what has it, which is a file or a program
abbrev pub Refusal : Type 0 → Type 0
Refusal A = ImageFault × (A → Bool)

-- the refusals that the file header decides
unfoldable pub header_refusals : List (Refusal (List ℕ))
header_refusals =
    (TooLong, is_too_long) ∷ (Short, is_short) ∷ (Magic, has_wrong_magic) ∷ (Class, has_wrong_class)
    ∷ (Kind, has_wrong_kind) ∷ (Machine, has_wrong_machine) ∷ []

-- those that the program headers decide
unfoldable pub table_refusals : List (Refusal (List ℕ))
table_refusals =
    (Headers, has_wrong_headers) ∷ (Dynamic, has_kind 2) ∷ (Interp, has_kind 3) ∷ (Tls, has_kind 7) ∷ []

-- those that the program decides, once it is taken from the file
unfoldable pub program_refusals : List (Refusal Program)
program_refusals =
    (Reach, (λ p. reaches_too_far p.segments)) ∷ (Overlap, (λ p. overlaps p.segments))
    ∷ (WriteExec, (λ p. has_write_exec p.segments)) ∷ (Entry, has_wrong_entry) ∷ []

-- the first fault of a list that a file or a program has
unfoldable pub first_of : {A : Type 0} → List (Refusal A) → A → Option ImageFault
first_of [] held = None
first_of (row ∷ rows) held = if row.1 held then Some row.0 else first_of rows held

-- the first fault of a file, if it has one: of the file header, then of the program headers, then of the program
abbrev pub first_fault : List ℕ → Option ImageFault
first_fault bytes =
    option_or (first_of header_refusals bytes) (option_or (first_of table_refusals bytes) (first_of program_refusals (program bytes)))

-- a fault, or where there is none the program
abbrev pub refused_or : Option ImageFault → Program → Result Program ImageFault
refused_or (Some fault) p = Err fault
refused_or None p = Ok p

-- the program of a file, or why it is refused
abbrev pub image_of : List ℕ → Result Program ImageFault
image_of bytes = refused_or (first_fault bytes) (program bytes)

-- what reading a file answers: what the file holds, or that memory ran out
abbrev pub Reads : Result Program ImageRefusal → Result Program ImageFault → Type 0
Reads (Ok image) held = held ≡ Ok image
Reads (Err (Bad fault)) held = held ≡ Err fault
Reads (Err NoMemory) held = Unit {0}

-- what is known of each segment of an image
pub record IsSegment (s : Segment) : Type 0 where
  pub bytes_fit : length s.bytes ≤ s.memsz
  pub three_flags : s.flags < 8
  pub low_end : segment_end s ≤ 2 ^ 32
  pub not_both : (grants_write s && grants_execute s) ≡ false

-- what is known of every image
pub record IsProgram (p : Program) : Type 0 where
  pub few : length p.segments ≤ 64
  pub each : All IsSegment p.segments
  pub size : sum_by (λ s. s.memsz) p.segments ≤ 268435456
  pub apart : overlaps p.segments ≡ false
  pub aligned : p.entry % 4 ≡ 0
  pub entered : some_executes p p.entry ≡ true

-- what a caller sees of segments by themselves: there are few, each has low flags, and no more bytes than memory
pub record AreSmall (segments : List Segment) : Type 0 where
  pub few : length segments ≤ 64
  pub bytes_fit : All (λ s. length s.bytes ≤ s.memsz) segments
  pub three_flags : All (λ s. s.flags < 8) segments

-- a program is few small segments and an entry that have none of a program's faults
abbrev pub ProgramIsWithoutFault : Type 0
ProgramIsWithoutFault = (p : Program) → IsProgram p ↔ (AreSmall p.segments × (first_of program_refusals p ≡ None))
