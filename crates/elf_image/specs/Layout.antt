-- Where a program's segments, its heap and its stack lie in memory, and who may read, write and execute
-- what. This simulator's own; a word is four bytes in little-endian order, as the RISC-V ISA manual has it.
use Rattle.std.specs.Prelude.{ℕ, ◌+◌, ◌-◌, ◌*◌, ◌/◌, ◌%◌, ◌==◌, ◌&&◌, ◌||◌, ◌≡◌, ◌<◌, ◌≤◌, ◌^◌, true, Bool, List, ◌++◌, All, map, nat_lt, nat_le, max, fold, find, if◌then◌else◌, Option, Some, None, slice_index, option_and_then}
use Rattle.std.specs.List.{list_any, list_all, flat_map, range_with_len}
use Rattle.std.specs.Option.{option_map_or}
use Rattle.byteorder.specs.Endian.{little_number}
use Rattle.rv_decode.specs.declared.instr.Instr.{Instr}
use Rattle.rv_decode.specs.Table.{row}
use Rattle.sim_base.specs.declared.lines.LineData.{LineData}
use Rattle.sim_base.specs.declared.settings.Config.{Config}
use Rattle.sim_base.specs.Settings.{IsChecked}
use Rattle.elf_image.specs.declared.program.Segment.{Segment}
use Rattle.elf_image.specs.declared.address_map.Layout.{Layout}
use Rattle.elf_image.specs.declared.address_map.Right.{Right}
use Rattle.elf_image.specs.declared.address_map.Right.TheVariants.{Read, Write, ReadWrite}
use Rattle.elf_image.specs.Image.{Program, IsProgram, grants_execute, some_reads, some_writes, segment_end, holds}

-- a program with the settings of the machine that runs it
pub record Setup : Type 0 where
  pub image : Program
  pub config : Config

-- the greatest of the segments' ends, or 0 where there are none. The end of an empty segment counts
abbrev pub last_end : List Segment → ℕ
last_end segments = fold (λ last s. max last (segment_end s)) 0 segments

-- the least multiple of 4096 that isn't below a number
abbrev pub round_up : ℕ → ℕ
round_up n = (n + 4095) / 4096 * 4096

-- the heap window starts at the first page past every segment, and the stacks 4096 bytes after the window
abbrev pub heap_start : Setup → ℕ
heap_start w = round_up (last_end w.image.segments)

-- a number is the least multiple of 4096 that isn't below any segment's end
pub record IsPagePast (segments : List Segment) (n : ℕ) : Type 0 where
  pub paged : n % 4096 ≡ 0
  pub above : All (λ s. segment_end s ≤ n) segments
  pub least : (m : ℕ) → m % 4096 ≡ 0 → All (λ s. segment_end s ≤ m) segments → n ≤ m

-- the heap window's start is that number
abbrev pub HeapStartsPastSegments : Type 0
HeapStartsPastSegments = (w : Setup) → IsPagePast w.image.segments (heap_start w)

abbrev pub heap_end : Setup → ℕ
heap_end w = heap_start w + w.config.heap_bytes

abbrev pub stack_base : Setup → ℕ
stack_base w = heap_end w + 4096

abbrev pub layout_of : Setup → Layout
layout_of w = record { heap_start = heap_start w; heap_end = heap_end w; stack_base = stack_base w }

-- the stacks lie one after the other by tiles, with 4096 bytes between them
abbrev pub stack_start : Setup → ℕ → ℕ
stack_start w tile = stack_base w + tile * (w.config.stack_bytes + 4096)

abbrev pub stack_end : Setup → ℕ → ℕ
stack_end w tile = stack_start w tile + w.config.stack_bytes

-- what is known of a program with its settings and layout: the settings are checked, and small enough for sums
-- on addresses, as the heap's start is
pub record IsLaidOut (w : Setup) (l : Layout) : Type 0 where
  pub program : IsProgram w.image
  pub checked : IsChecked w.config
  pub laid : l ≡ layout_of w
  pub low : l.heap_start ≤ 2 ^ 32
  pub some_tile : 1 ≤ w.config.tiles
  pub tiles : w.config.tiles ≤ 64
  pub heap : w.config.heap_bytes ≤ 2 ^ 26
  pub some_stack : 4096 ≤ w.config.stack_bytes
  pub stack : w.config.stack_bytes ≤ 2 ^ 20

-- whether an address lies in the heap window; on the stack of a tile; in one of the two
abbrev pub is_heap : Setup → ℕ → Bool
is_heap w address = nat_le (heap_start w) address && nat_lt address (heap_end w)

abbrev pub is_on_stack : Setup → ℕ → ℕ → Bool
is_on_stack w address tile = nat_le (stack_start w tile) address && nat_lt address (stack_end w tile)

abbrev pub is_stack : Setup → ℕ → Bool
is_stack w address = list_any (is_on_stack w address) (range_with_len 0 w.config.tiles)

abbrev pub is_free : Setup → ℕ → Bool
is_free w address = is_heap w address || is_stack w address

-- each of so many bytes from an address on lies in the heap window or on a stack
abbrev pub AreFree : Setup → ℕ → ℕ → Type 0
AreFree w address size = (k : ℕ) → address ≤ k → k < address + size → is_free w k ≡ true

-- whether the byte at an address may be read: the heap window, a stack or a readable segment has it
abbrev pub is_readable : Setup → ℕ → Bool
is_readable w address = is_free w address || some_reads w.image address

-- whether the byte at an address may be written: the heap window, a stack or a writable segment has it
abbrev pub is_writable : Setup → ℕ → Bool
is_writable w address = is_free w address || some_writes w.image address

-- whether the byte at an address has a right
abbrev pub has_right : Setup → Right → ℕ → Bool
has_right w Read address = is_readable w address
has_right w Write address = is_writable w address
has_right w ReadWrite address = is_readable w address && is_writable w address

-- whether each byte of a range has a right
abbrev pub may : Setup → ℕ → ℕ → Right → Bool
may w address size right = list_all (has_right w right) (range_with_len address size)

-- a segment's byte at an address that it has: the file's, and 0 past those
abbrev pub byte_of : Segment → ℕ → ℕ
byte_of s address = slice_index s.bytes (address - s.vaddr)

-- the byte at an address before the program runs, which is 0 where no segment is
abbrev pub start_byte : Setup → ℕ → ℕ
start_byte w address = option_map_or (λ s. byte_of s address) (find (λ s. holds s address) w.image.segments) 0

-- what a line holds before the program runs: line number n has the 64 addresses from 64 * n on
unfoldable pub initial_bytes : Setup → ℕ → List ℕ
initial_bytes w line = map (λ place. start_byte w (line * 64 + place)) (range_with_len 0 64)

abbrev pub initial_line : Setup → ℕ → LineData
initial_line w line = record { bytes = initial_bytes w line }

-- whether a segment has the four bytes at an address
abbrev pub holds_word : Segment → ℕ → Bool
holds_word s address = list_all (holds s) (range_with_len address 4)

-- whether one executable segment has the four bytes at an address
abbrev pub is_executable : Program → ℕ → Bool
is_executable p address = list_any (λ s. grants_execute s && holds_word s address) p.segments

-- the instruction word at an address, where it may be executed. No executable segment is ever written, so
-- it is the word of the start.
abbrev pub fetch : Setup → ℕ → Option ℕ
fetch w pc = if is_executable w.image pc then Some (little_number 4 (map (start_byte w) (range_with_len pc 4))) else None

-- the instruction at an address: the row of the word that is fetched there. Every pc of a run is a multiple of
-- 4, and other addresses have none
unfoldable pub instruction : Setup → ℕ → Option Instr
instruction w pc = if pc % 4 == 0 then option_and_then row (fetch w pc) else None

-- the addresses of a segment and of a tile's stack, and all that are mapped
abbrev pub addresses : Segment → List ℕ
addresses s = range_with_len s.vaddr s.memsz

abbrev pub stack_addresses : Setup → ℕ → List ℕ
stack_addresses w tile = range_with_len (stack_start w tile) w.config.stack_bytes

unfoldable pub mapped : Setup → List ℕ
mapped w =
    flat_map addresses w.image.segments ++ range_with_len (heap_start w) w.config.heap_bytes
    ++ flat_map (stack_addresses w) (range_with_len 0 w.config.tiles)
