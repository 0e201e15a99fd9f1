-- The 32 integer registers, as the list of what they hold. From the RISC-V ISA manual, RV32I, "Programmers'
-- Model for Base Integer ISA": x0 is always zero.
use Rattle.std.specs.Prelude.{ℕ, ◌^◌, ◌<◌, ◌≡◌, List, ◌==◌, if◌then◌else◌, length, slice_index, set, replicate}

-- what register i holds: x0 reads zero, whatever the list
abbrev pub register : List ℕ → ℕ → ℕ
register regs i = if i == 0 then 0 else slice_index regs i

-- the registers after a value is written to register i: x0 ignores writes
abbrev pub with_register : List ℕ → ℕ → ℕ → List ℕ
with_register regs i value = if i == 0 then regs else set regs i value

-- every register holds zero
unfoldable pub zeros : List ℕ
zeros = replicate 32 0

-- what the registers can be: 32 numbers of 64 bits, with zero in x0
pub record AreRegisters (regs : List ℕ) : Type 0 where
  pub count : length regs ≡ 32
  pub zero : slice_index regs 0 ≡ 0
  pub fit : (i : ℕ) → slice_index regs i < 2 ^ 64
