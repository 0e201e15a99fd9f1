-- Arithmetic on registers of 64 bits, which hold numbers modulo 2 ^ 64, and on their low words of 32 bits.
-- From the RISC-V ISA manual, "Integer Computational Instructions" of RV32I and RV64I, and the extension M.
use Rattle.std.specs.Prelude.{ℕ, ℤ, pos, ◌+◌, ◌-◌, ◌*◌, ◌/◌, ◌%◌, ◌^◌, ◌==◌, ◌*ℤ◌, Bool, int_lt, int_div, int_rem, if◌then◌else◌}
use mir.Val.{bits}
use Rattle.std.specs.Int.{Width, w32, w64, w128, cast_signed, cast_unsigned, int_shr}
use Rattle.rv_decode.specs.Field.{extended}

-- the sum and the difference of two registers, modulo 2 ^ 64
abbrev pub wrapping_sum : ℕ → ℕ → ℕ
wrapping_sum a b = (a + b) % 2 ^ 64

abbrev pub wrapping_difference : ℕ → ℕ → ℕ
wrapping_difference a b = (a + (2 ^ 64 - b)) % 2 ^ 64

-- a is less than b, both read in two's complement
abbrev pub signed_lt : ℕ → ℕ → Bool
signed_lt a b = int_lt (cast_signed w64 a) (cast_signed w64 b)

-- a test as a number: 1 where it holds, else 0
abbrev pub truth : Bool → ℕ
truth b = if b then 1 else 0

-- an address with bit 0 cleared: the greatest even number that isn't above it
abbrev pub even_address : ℕ → ℕ
even_address n = n - n % 2

-- a shift to the left by k bits, modulo 2 ^ 64
abbrev pub left_shift : ℕ → ℕ → ℕ
left_shift a k = a * 2 ^ k % 2 ^ 64

-- a shift to the right that brings in zeros
abbrev pub logical_shift : ℕ → ℕ → ℕ
logical_shift a k = a / 2 ^ k

-- a shift to the right that brings in copies of the sign: the signed number over 2 ^ k, rounded down
abbrev pub arithmetic_shift : ℕ → ℕ → ℕ
arithmetic_shift a k = cast_unsigned w64 (int_shr (cast_signed w64 a) k)

-- the low word of a register
abbrev pub low_word : ℕ → ℕ
low_word n = n % 2 ^ 32

-- the W forms: the same on low words, modulo 2 ^ 32, and the resulting word sign-extended to 64 bits
abbrev pub word_sum : ℕ → ℕ → ℕ
word_sum a b = extended 32 ((low_word a + low_word b) % 2 ^ 32)

abbrev pub word_difference : ℕ → ℕ → ℕ
word_difference a b = extended 32 ((low_word a + (2 ^ 32 - low_word b)) % 2 ^ 32)

abbrev pub word_left_shift : ℕ → ℕ → ℕ
word_left_shift a k = extended 32 (low_word a * 2 ^ k % 2 ^ 32)

abbrev pub word_logical_shift : ℕ → ℕ → ℕ
word_logical_shift a k = extended 32 (low_word a / 2 ^ k)

abbrev pub word_arithmetic_shift : ℕ → ℕ → ℕ
word_arithmetic_shift a k = extended 32 (cast_unsigned w32 (int_shr (cast_signed w32 (low_word a)) k))

-- the extension M

-- the low 64 bits of a product, and those of two low words' product, sign-extended
abbrev pub wrapping_product : ℕ → ℕ → ℕ
wrapping_product a b = a * b % 2 ^ 64

abbrev pub word_product : ℕ → ℕ → ℕ
word_product a b = extended 32 (low_word a * low_word b % 2 ^ 32)

-- the high 64 bits of a product of 128 bits in two's complement
abbrev pub high_half : ℤ → ℕ
high_half product = cast_unsigned w128 product / 2 ^ 64

-- the high half of signed by signed, of signed by unsigned, and of unsigned by unsigned
abbrev pub signed_high_product : ℕ → ℕ → ℕ
signed_high_product a b = high_half (cast_signed w64 a *ℤ cast_signed w64 b)

abbrev pub mixed_high_product : ℕ → ℕ → ℕ
mixed_high_product a b = high_half (cast_signed w64 a *ℤ pos b)

abbrev pub unsigned_high_product : ℕ → ℕ → ℕ
unsigned_high_product a b = a * b / 2 ^ 64

-- division rounds toward zero and never traps: a divisor of zero gives a quotient of all ones, and the
-- dividend as the remainder. The least number by -1 gives 2 ^ 63 again, modulo 2 ^ 64, and no remainder.
-- Both for numbers of any width.
abbrev pub signed_quotient : Width → ℕ → ℕ → ℕ
signed_quotient w a b = if b == 0 then 2 ^ bits w - 1 else cast_unsigned w (int_div (cast_signed w a) (cast_signed w b))

abbrev pub unsigned_quotient : Width → ℕ → ℕ → ℕ
unsigned_quotient w a b = if b == 0 then 2 ^ bits w - 1 else a / b

abbrev pub signed_remainder : Width → ℕ → ℕ → ℕ
signed_remainder w a b = if b == 0 then a else cast_unsigned w (int_rem (cast_signed w a) (cast_signed w b))

abbrev pub unsigned_remainder : ℕ → ℕ → ℕ
unsigned_remainder a b = if b == 0 then a else a % b

-- an operation of the W forms: on low words, and the resulting word sign-extended
abbrev pub on_words : (ℕ → ℕ → ℕ) → ℕ → ℕ → ℕ
on_words f a b = extended 32 (f (low_word a) (low_word b))
