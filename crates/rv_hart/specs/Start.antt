-- What a thread begins with, and how a hart goes on. Registers and pc are those of the RISC-V ISA manual; what a
-- register holds at the start is as its calling convention names them, and where the stack lies this simulator's own.
use Rattle.std.specs.Prelude.{ℕ, ◌+◌, ◌-◌, ◌%◌, ◌^◌, List}
use Rattle.rv_exec.specs.Registers.{zeros, with_register}
use Rattle.elf_image.specs.Layout.{Setup, stack_end}

-- the registers of a thread that begins on a tile: sp (x2) is 64 bytes below the end of the tile's stack, a0
-- (x10) has the argument, and every other register is zero
abbrev pub start_registers : Setup → ℕ → ℕ → List ℕ
start_registers w tile arg = with_register (with_register zeros 2 (stack_end w tile - 64)) 10 arg

-- the address of the instruction that follows
abbrev pub next_pc : ℕ → ℕ
next_pc pc = (pc + 4) % 2 ^ 64

-- the registers of a thread whose call is answered: a0 (x10) has the answer
abbrev pub with_answer : List ℕ → ℕ → List ℕ
with_answer regs value = with_register regs 10 value
