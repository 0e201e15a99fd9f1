-- The listings of the workloads. Thread 0 spawns the workers, joins them, and writes what they left at the data's start, in 16
-- hexadecimal digits. This simulator's own.
use Rattle.std.specs.Prelude.{ℕ, ◌-◌, List, [], ◌∷◌, ◌++◌}
use Rattle.sim_base.specs.declared.kinds.Kind.{Kind}
use Rattle.sim_base.specs.declared.kinds.Kind.TheVariants.{Lock, Barrier, Pipeline, Reduce}
use Rattle.workload_gen.specs.declared.assembly.Label.TheVariants.{Spawn, Join, Hex, Put, Fail, End, Worker, Round, Got, Wait, Last, Take, AddOne, Have, Full, Give, Sum, Next}
use Rattle.workload_gen.specs.declared.assembly.Statement.{Statement}
use Rattle.workload_gen.specs.declared.assembly.Statement.TheVariants.{At, AddPlace, JumpTo}
use Rattle.workload_gen.specs.Instructions.{x0, t0, t1, t2, t3, t4, s0, s1, s2, s3, s4, s5, s6, a0, a1, a2, a3, a7, minus, addi, li, mv, andi, slti, slli, lui, add, srl, lw, ld, sb, sw, sd, amoadd_w, amoadd_d, amoswap_w, amoswap_d, ecall, beq, bne, blt, bge}

-- The calls' numbers that have 12 bits: sched_yield 124, futex 98, write 64, exit 93, exit_group 94. Spawn is 2048 and join
-- 2049, which `li` can't load

-- thread 0 spawns this many workers, with the numbers from 1 on as their arguments; where one is refused it exits with 1
abbrev pub spawning : ℕ → List Statement
spawning workers =
    li s0 0 ∷ li s1 workers ∷ lui s2 0x20
    ∷ At Spawn ∷ li a7 1 ∷ slli a7 a7 11 ∷ lui a0 0x10 ∷ AddPlace a0 Worker ∷ addi a1 s0 1 ∷ ecall ∷ blt a0 x0 Fail
    ∷ addi s0 s0 1 ∷ blt s0 s1 Spawn ∷ li s0 1 ∷ []

-- it joins the threads 1 to the last worker's
abbrev pub joining : List Statement
joining = At Join ∷ li a7 1 ∷ slli a7 a7 11 ∷ addi a7 a7 1 ∷ mv a0 s0 ∷ ecall ∷ addi s0 s0 1 ∷ bge s1 s0 Join ∷ []

-- it writes the number's digits and a newline to memory
abbrev pub digits : List Statement
digits =
    ld s3 0 s2 ∷ addi s4 s2 1536 ∷ li s5 60
    ∷ At Hex ∷ srl t0 s3 s5 ∷ andi t0 t0 15 ∷ addi t1 t0 48 ∷ slti t2 t0 10 ∷ bne t2 x0 Put ∷ addi t1 t0 87
    ∷ At Put ∷ sb t1 0 s4 ∷ addi s4 s4 1 ∷ addi s5 s5 (minus 4) ∷ bge s5 x0 Hex ∷ li t1 10 ∷ sb t1 0 s4 ∷ []

-- it writes them out and exits
abbrev pub writing : List Statement
writing =
    li a0 1 ∷ addi a1 s2 1536 ∷ li a2 17 ∷ li a7 64 ∷ ecall ∷ li a0 0 ∷ JumpTo End
    ∷ At Fail ∷ li a0 1
    ∷ At End ∷ li a7 94 ∷ ecall ∷ []

-- what thread 0 runs
abbrev pub main : ℕ → List Statement
main workers = spawning workers ++ (joining ++ (digits ++ writing))

-- a worker begins with its number as argument
abbrev pub beginning : ℕ → List Statement
beginning rounds = At Worker ∷ mv s1 a0 ∷ lui s2 0x20 ∷ li s0 rounds ∷ []

-- in each round each worker adds its number to the sum, which is one atomic access
abbrev pub reduce : List Statement
reduce = At Round ∷ amoadd_d x0 s1 s2 ∷ []

-- in each round each worker takes a lock, on which it waits by futex, and adds its number to the sum
abbrev pub lock : List Statement
lock =
    addi s3 s2 64
    ∷ At Round ∷ li t0 1 ∷ amoswap_w t1 t0 s3 ∷ beq t1 x0 Got
    ∷ mv a0 s3 ∷ li a1 0 ∷ li a2 1 ∷ li a3 0 ∷ li a7 98 ∷ ecall ∷ JumpTo Round
    ∷ At Got ∷ ld t1 0 s2 ∷ add t1 t1 s1 ∷ sd t1 0 s2 ∷ amoswap_w x0 x0 s3
    ∷ mv a0 s3 ∷ li a1 1 ∷ li a2 1 ∷ li a3 0 ∷ li a7 98 ∷ ecall ∷ []

-- in each round each worker adds its number to the sum and waits until all have
abbrev pub barrier : ℕ → List Statement
barrier workers =
    addi s4 s2 128 ∷ addi s6 s2 192
    ∷ At Round ∷ lw t3 0 s6 ∷ amoadd_d x0 s1 s2 ∷ li t0 1 ∷ amoadd_w t1 t0 s4 ∷ li t2 (workers - 1) ∷ beq t1 t2 Last
    ∷ At Wait ∷ lw t4 0 s6 ∷ bne t4 t3 Next ∷ mv a0 s6 ∷ li a1 0 ∷ mv a2 t3 ∷ li a3 0 ∷ li a7 98 ∷ ecall ∷ JumpTo Wait
    ∷ At Last ∷ amoswap_w x0 x0 s4 ∷ addi t3 t3 1 ∷ sw t3 0 s6
    ∷ mv a0 s6 ∷ li a1 1 ∷ li a2 workers ∷ li a3 0 ∷ li a7 98 ∷ ecall ∷ []

-- in each round each worker takes a number from the one before it, adds 1, and gives it to the next; the first makes a 1 and
-- the last adds what it gets to the sum
abbrev pub pipeline : ℕ → List Statement
pipeline workers =
    slli s5 s1 6 ∷ add s5 s5 s2 ∷ addi s5 s5 192 ∷ addi s6 s5 64
    ∷ At Round ∷ li t0 1 ∷ li t1 1 ∷ beq s1 t1 Have
    ∷ At Take ∷ amoswap_d t0 x0 s5 ∷ bne t0 x0 AddOne ∷ li a7 124 ∷ ecall ∷ JumpTo Take
    ∷ At AddOne ∷ addi t0 t0 1
    ∷ At Have ∷ li t1 workers ∷ beq s1 t1 Sum
    ∷ At Full ∷ ld t1 0 s6 ∷ beq t1 x0 Give ∷ li a7 124 ∷ ecall ∷ JumpTo Full
    ∷ At Give ∷ sd t0 0 s6 ∷ JumpTo Next
    ∷ At Sum ∷ amoadd_d x0 t0 s2 ∷ []

-- a worker's rounds
abbrev pub round : Kind → ℕ → List Statement
round Lock workers = lock
round Barrier workers = barrier workers
round Pipeline workers = pipeline workers
round Reduce workers = reduce

-- a worker counts its rounds down and exits
abbrev pub ending : List Statement
ending = At Next ∷ addi s0 s0 (minus 1) ∷ bne s0 x0 Round ∷ li a0 0 ∷ li a7 93 ∷ ecall ∷ []

-- the listing of a workload with so many workers and rounds
abbrev pub listing : Kind → ℕ → ℕ → List Statement
listing kind workers rounds = main workers ++ (beginning rounds ++ (round kind workers ++ ending))
