-- The accesses to memory that loads, stores and atomics ask for, and what they give. From the RISC-V ISA
-- manual, "Load and Store Instructions" of RV32I and RV64I, and the extension A.
use Rattle.std.specs.Prelude.{ℕ, ◌+◌, min, max, int_lt, bit_and, bit_or, bit_xor, ◌*◌, ◌%◌, ◌^◌, ◌<◌, ◌≤◌, ◌≡◌, ◌==◌, ◌||◌, Bool, true, false, IsTrue, if◌then◌else◌, Some, None}
use Rattle.rv_decode.specs.declared.instr.Op.{Op}
use Rattle.rv_decode.specs.declared.instr.Op.TheVariants.{Lb, Lh, Lw, Ld, Lbu, Lhu, Lwu, Sb, Sh, Sw, Sd, AmoAdd, AmoSwap, Lr as LrOp, Sc as ScOp, AmoXor, AmoOr, AmoAnd, AmoMin, AmoMax, AmoMinu, AmoMaxu}
use Rattle.rv_decode.specs.Field.{extended}
use Rattle.rv_exec.specs.declared.access.AccessOp.{AccessOp}
use Rattle.rv_exec.specs.declared.access.AccessOp.TheVariants.{Load, Store, Lr, Sc, Amo}
use Rattle.rv_exec.specs.declared.access.AmoOp.{AmoOp}
use Rattle.rv_exec.specs.declared.access.AmoOp.TheVariants.{Add, Swap, Xor, Or, And, Min, Max, Minu, Maxu}
use mir.Val.{bits}
use Rattle.std.specs.Int.{Width, w32, w64, cast_signed}
use Rattle.rv_exec.specs.declared.access.Done.{Done}

-- one access: what it does, the register that it writes, the address of its first byte, how many bytes it has,
-- whether what it reads has a sign, and what it stores
pub record Asked : Type 0 where
  pub op : AccessOp
  pub rd : ℕ
  pub addr : ℕ
  pub size : ℕ
  pub signed : Bool
  pub value : ℕ

-- how many bytes a load or a store moves. The last row is for names of other forms
abbrev pub size_of : Op → ℕ
size_of Lb = 1
size_of Lh = 2
size_of Lw = 4
size_of Ld = 8
size_of Lbu = 1
size_of Lhu = 2
size_of Lwu = 4
size_of Sb = 1
size_of Sh = 2
size_of Sw = 4
size_of Sd = 8
size_of _ = 0

-- whether a load reads a signed number. The last row is for names of other forms
abbrev pub is_signed : Op → Bool
is_signed Lb = true
is_signed Lh = true
is_signed Lw = true
is_signed Ld = true
is_signed Lbu = false
is_signed Lhu = false
is_signed Lwu = false
is_signed _ = false

-- what a load to rd asks for
abbrev pub load_of : Op → ℕ → ℕ → Asked
load_of op rd addr = record { op = Load; rd = rd; addr = addr; size = size_of op; signed = is_signed op; value = 0 }

-- what a store of a value asks for: it writes no register
abbrev pub store_of : Op → ℕ → ℕ → Asked
store_of op addr value = record { op = Store; rd = 0; addr = addr; size = size_of op; signed = false; value = value }

-- what an atomic does. The last row is for names of other forms
abbrev pub atomic_op : Op → AccessOp
atomic_op LrOp = Lr
atomic_op ScOp = Sc
atomic_op AmoAdd = Amo Add
atomic_op AmoSwap = Amo Swap
atomic_op AmoXor = Amo Xor
atomic_op AmoOr = Amo Or
atomic_op AmoAnd = Amo And
atomic_op AmoMin = Amo Min
atomic_op AmoMax = Amo Max
atomic_op AmoMinu = Amo Minu
atomic_op AmoMaxu = Amo Maxu
atomic_op _ = Load

-- what an atomic asks for: 8 bytes or 4, whose old number is read with its sign, and the number of rs2
abbrev pub atomic_of : Op → Bool → ℕ → ℕ → ℕ → Asked
atomic_of op wide rd addr value = record { op = atomic_op op; rd = rd; addr = addr; size = if wide then 8 else 4; signed = true; value = value }

-- the sizes that an access may have
abbrev pub is_size : ℕ → Bool
is_size size = size == 1 || size == 2 || size == 4 || size == 8

-- the sizes that an atomic may have
abbrev pub is_atomic_size : ℕ → Bool
is_atomic_size size = size == 4 || size == 8

-- the least size of an access of this kind: an atomic has 4 bytes or 8
abbrev pub least_size : AccessOp → ℕ
least_size Load = 1
least_size Store = 1
least_size _ = 4

-- what is known of every access: its register's number, its size, that it isn't below its kind's least, that its
-- address is a multiple of it, and that address and value have 64 bits
pub record IsAccess (access : Asked) : Type 0 where
  pub register : access.rd < 32
  pub sized : IsTrue (is_size access.size)
  pub least : least_size access.op ≤ access.size
  pub aligned : access.addr % access.size ≡ 0
  pub low_addr : access.addr < 2 ^ 64
  pub low_value : access.value < 2 ^ 64

-- the number that so many low bytes of a number make
abbrev pub low_bytes : ℕ → ℕ → ℕ
low_bytes size n = n % 2 ^ (8 * size)

-- what an atomic memory operation writes over an old number, with a number of the same width
abbrev pub amo_value : Width → AmoOp → ℕ → ℕ → ℕ
amo_value w Add old b = (old + b) % 2 ^ bits w
amo_value w Swap old b = b
amo_value w Xor old b = bit_xor old b
amo_value w Or old b = bit_or old b
amo_value w And old b = bit_and old b
amo_value w Min old b = if int_lt (cast_signed w old) (cast_signed w b) then old else b
amo_value w Max old b = if int_lt (cast_signed w old) (cast_signed w b) then b else old
amo_value w Minu old b = min old b
amo_value w Maxu old b = max old b

-- the width of an atomic's size
abbrev pub width_of : ℕ → Width
width_of size = if size == 4 then w32 else w64

-- the old number of an access, with its sign where it has one
abbrev pub as_read : Asked → ℕ → ℕ
as_read access old = if access.signed then extended (8 * access.size) old else old

-- what an access of this kind gives where its bytes held the number `old`. A load and a load-reserved give it and
-- write nothing. A store gives nothing to a register and writes the low bytes of its value; so does a
-- store-conditional that succeeds, which gives 0. An atomic memory operation gives the old number and writes
-- the new one.
abbrev pub finish_by : AccessOp → Asked → ℕ → Done
finish_by Load access old = record { value = as_read access old; write = None }
finish_by Store access old = record { value = 0; write = Some (low_bytes access.size access.value) }
finish_by Lr access old = record { value = as_read access old; write = None }
finish_by Sc access old = record { value = 0; write = Some (low_bytes access.size access.value) }
finish_by (Amo op) access old = record {
  value = as_read access old;
  write = Some (amo_value (width_of access.size) op old (low_bytes access.size access.value));
}

-- what an access gives where its bytes held the number `old`
abbrev pub finish_of : Asked → ℕ → Done
finish_of access old = finish_by access.op access old
