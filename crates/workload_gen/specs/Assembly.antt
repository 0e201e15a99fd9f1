-- Listings of an assembler, and the instructions that they stand for. Branches and jumps are counted from their own place, as
-- in the RISC-V ISA manual.
use Rattle.std.specs.Prelude.{ℕ, ◌+◌, ◌-◌, ◌^◌, Bool, nat_le, if◌then◌else◌, List, [], ◌∷◌, ◌++◌}
use denote.Enum.Bare.{sameb}
use Rattle.rv_decode.specs.declared.instr.Instr.{Instr}
use Rattle.rv_decode.specs.declared.instr.Instr.TheVariants.{Jal, Branch, Imm}
use Rattle.rv_decode.specs.declared.instr.Op.TheVariants.{Addi}
use Rattle.workload_gen.specs.contracts.assembly.Label.{the_type}
use Rattle.workload_gen.specs.declared.assembly.Label.{Label}
use Rattle.workload_gen.specs.declared.assembly.Statement.{Statement}
use Rattle.workload_gen.specs.declared.assembly.Statement.TheVariants.{At, Plain, AddPlace, BranchTo, JumpTo}

-- how many bytes of code a statement is
abbrev pub size_of : Statement → ℕ
size_of (At label) = 0
size_of _ = 4

-- whether two labels are one, as `==` says it
abbrev pub is_same : Label → Label → Bool
is_same = sameb the_type

-- how many bytes of code stand before a label
abbrev pub place_of : Label → List Statement → ℕ
place_of label [] = 0
place_of label (At other ∷ rest) = if is_same label other then 0 else place_of label rest
place_of label (statement ∷ rest) = 4 + place_of label rest

-- how far one place is from another, as a signed number modulo 2 ^ 64
abbrev pub distance : ℕ → ℕ → ℕ
distance here there = if nat_le here there then there - here else 2 ^ 64 - (here - there)

-- the instruction of a statement that stands at a place of a listing; a label is none
abbrev pub instruction_at : List Statement → ℕ → Statement → List Instr
instruction_at listing here (At label) = []
instruction_at listing here (Plain instr) = instr ∷ []
instruction_at listing here (AddPlace rd label) = Imm Addi rd rd (place_of label listing) ∷ []
instruction_at listing here (BranchTo op rs1 rs2 label) = Branch op rs1 rs2 (distance here (place_of label listing)) ∷ []
instruction_at listing here (JumpTo label) = Jal 0 (distance here (place_of label listing)) ∷ []

-- the instructions of statements that stand from a place of a listing on
abbrev pub instructions_from : List Statement → ℕ → List Statement → List Instr
instructions_from listing here [] = []
instructions_from listing here (statement ∷ rest) =
    instruction_at listing here statement ++ instructions_from listing (here + size_of statement) rest

-- the instructions of a listing
abbrev pub instructions : List Statement → List Instr
instructions listing = instructions_from listing 0 listing
