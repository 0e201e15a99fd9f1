-- What ECALL asks for. The numbers and the register convention (a7 the number, a0 to a3 the arguments, a0 the answer)
-- are Linux's for RISC-V, where Linux has the call; spawn and join have numbers of this simulator's own, and so are
-- the meanings.
use Rattle.std.specs.Prelude.{ℕ, ◌-◌, ◌*◌, ◌/◌, ◌%◌, ◌^◌, ◌==◌, ◌||◌, ◌&&◌, List, not, min, if◌then◌else◌}
use Rattle.rv_exec.specs.Registers.{register}
use Rattle.elf_image.specs.Layout.{Setup, may}
use Rattle.elf_image.specs.declared.address_map.Right.TheVariants.{Read}
use Rattle.wire_msg.specs.ErrorNumber.{minus}
use Rattle.wire_msg.specs.declared.calls.Call.TheVariants.{Spawn, Join, FutexWait, FutexWake, Brk, ExitGroup}
use Rattle.rv_hart.specs.declared.steps.Step.{Step}
use Rattle.rv_hart.specs.declared.steps.Step.TheVariants.{Answer, Ask, Write, Exit}

-- the registers that calls name
abbrev pub a0 : List ℕ → ℕ
a0 regs = register regs 10

abbrev pub a1 : List ℕ → ℕ
a1 regs = register regs 11

abbrev pub a2 : List ℕ → ℕ
a2 regs = register regs 12

abbrev pub a3 : List ℕ → ℕ
a3 regs = register regs 13

abbrev pub a7 : List ℕ → ℕ
a7 regs = register regs 17

-- a write moves at most 4096 bytes
abbrev pub write_length : List ℕ → ℕ
write_length regs = min (a2 regs) 4096

-- write: descriptors 1 and 2 are the one output; no bytes are written at once; every byte has to be readable
abbrev pub write_call : Setup → List ℕ → Step
write_call w regs =
    if not (a0 regs == 1 || a0 regs == 2) then Answer (minus 9)
    else (if a2 regs == 0 then Answer 0
    else (if not (may w (a1 regs) (write_length regs) Read) then Answer (minus 14)
    else Write (a1 regs) (write_length regs)))

-- a number of which bit 7 is cleared
abbrev pub without_bit_7 : ℕ → ℕ
without_bit_7 n = n - n / 2 ^ 7 % 2 * 2 ^ 7

-- what a futex call does: 0 waits, 1 wakes. Bit 7 marks futexes of one process, which all of them are here
abbrev pub futex_op : List ℕ → ℕ
futex_op regs = without_bit_7 (a1 regs)

-- futex: the operations 0 and 1 alone; a wait has no time-out; the word's address is a multiple of 4; its four bytes
-- have to be readable. The value that is waited for, and how many are woken, are the low words of a2
abbrev pub futex_call : Setup → List ℕ → Step
futex_call w regs =
    if not (futex_op regs == 0 || futex_op regs == 1) then Answer (minus 38)
    else (if futex_op regs == 0 && not (a3 regs == 0) then Answer (minus 38)
    else (if not (a0 regs % 4 == 0) then Answer (minus 22)
    else (if not (may w (a0 regs) 4 Read) then Answer (minus 14)
    else (if futex_op regs == 0 then Ask (FutexWait (a0 regs) (a2 regs % 2 ^ 32))
    else Ask (FutexWake (a0 regs) (a2 regs % 2 ^ 32))))))

-- what the call with this number asks for, by the thread with that number
abbrev pub call_by_number : Setup → List ℕ → ℕ → ℕ → Step
call_by_number w regs thread number =
    if number == 64 then write_call w regs
    else (if number == 93 then Exit (a0 regs % 256)
    else (if number == 94 then Ask (ExitGroup (a0 regs % 256))
    else (if number == 98 then futex_call w regs
    else (if number == 124 then Answer 0
    else (if number == 178 then Answer thread
    else (if number == 214 then Ask (Brk (a0 regs))
    else (if number == 2048 then Ask (Spawn (a0 regs) (a1 regs))
    else (if number == 2049 then Ask (Join (a0 regs))
    else Answer (minus 38)))))))))

-- what the call that a7 names asks for
abbrev pub call_step : Setup → List ℕ → ℕ → Step
call_step w regs thread = call_by_number w regs thread (a7 regs)
