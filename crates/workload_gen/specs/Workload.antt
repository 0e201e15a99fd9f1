-- The workload of a seed: a program of a listing, with a page of zeros as its data. This simulator's own.
use Rattle.std.specs.Prelude.{◌≡◌, ℕ, ◌+◌, ◌*◌, ◌%◌, ◌<◌, ◌^◌, List, [], ◌∷◌, length, map, All, Some}
use Rattle.std.specs.List.{flat_map}
use Rattle.std.specs.Int.{w32, to_le_bytes}
use Rattle.rv_decode.specs.declared.instr.Instr.{Instr}
use Rattle.rv_decode.specs.Table.{row}
use Rattle.sim_base.specs.declared.kinds.Kind.{Kind}
use Rattle.elf_image.specs.declared.program.Segment.{Segment}
use Rattle.elf_image.specs.Image.{Program}
use Rattle.workload_gen.specs.Assembly.{instructions}
use Rattle.workload_gen.specs.Listing.{listing}

-- how many workers and rounds a seed gives
abbrev pub workers : ℕ → ℕ
workers seed = 3 + 4 * (seed % 4)

abbrev pub rounds : ℕ → ℕ
rounds seed = 100 + seed % 100

-- the code of instructions: little-endian words that decode to them, one after the other
pub record IsCodeOf (list : List Instr) (code : List ℕ) : Type 0 where
  pub words : List ℕ
  pub low : All (λ word. word < 2 ^ 32) words
  pub decoded : map row words ≡ map Some list
  pub bytes : code ≡ flat_map (to_le_bytes w32) words

-- code from 0x10000 on, which can be read and executed, and where the program starts
abbrev pub text_segment : List ℕ → Segment
text_segment code = record { vaddr = 0x10000; memsz = length code; flags = 5; bytes = code }

-- 4096 zeros from 0x20000 on, which can be read and written
abbrev pub data_segment : Segment
data_segment = record { vaddr = 0x20000; memsz = 4096; flags = 6; bytes = [] }

abbrev pub program_of : List ℕ → Program
program_of code = record { entry = 0x10000; segments = text_segment code ∷ data_segment ∷ [] }

-- a program is the workload of a kind and a seed
pub record IsWorkload (kind : Kind) (seed : ℕ) (program : Program) : Type 0 where
  pub code : List ℕ
  pub listed : IsCodeOf (instructions (listing kind (workers seed) (rounds seed))) code
  pub laid_out : program ≡ program_of code

-- two programs that are the workload of one kind and one seed are the same
abbrev pub WorkloadIsOne : Type 0
WorkloadIsOne = (kind : Kind) (seed : ℕ) (p q : Program) → IsWorkload kind seed p → IsWorkload kind seed q → p ≡ q
