-- For the private functions alone: the clauses of `generate` and `workload_is_one` cite nothing of this file.
use Rattle.std.specs.Prelude.{◌<◌, IsTrue}
use Rattle.rv_decode.specs.Valid.{IsValid, is_branch}
use Rattle.workload_gen.specs.declared.assembly.Statement.{Statement}
use Rattle.workload_gen.specs.declared.assembly.Statement.TheVariants.{At, Plain, AddPlace, BranchTo, JumpTo}

-- a statement that has an instruction in every short listing, if it isn't a label: its name belongs to its form, and its
-- registers are below 32
abbrev pub IsSound : Statement → Type 0
IsSound (At label) = Unit {0}
IsSound (Plain instr) = IsValid instr
IsSound (AddPlace rd label) = rd < 32
IsSound (BranchTo op rs1 rs2 label) = IsTrue (is_branch op) × (rs1 < 32) × (rs2 < 32)
IsSound (JumpTo label) = Unit {0}
