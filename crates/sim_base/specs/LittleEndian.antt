-- Numbers in memory, little-endian as the RISC-V ISA manual has them, over anything that holds bytes at
-- addresses: the flat machine's whole memory, or one line of it.
use Rattle.std.specs.Prelude.{ℕ, ◌+◌, List, [], ◌∷◌, map}
use Rattle.std.specs.List.{range_with_len}
use Rattle.byteorder.specs.Endian.{little_number, little_bytes}

-- the number in the size bytes from an address on, where `byte` tells each address's byte
abbrev pub loaded : (ℕ → ℕ) → ℕ → ℕ → ℕ
loaded byte address size = little_number size (map byte (range_with_len address size))

-- memory with these bytes from an address on, where `put` writes one
abbrev pub with_bytes : {M : Type 0} → (M → ℕ → ℕ → M) → M → ℕ → List ℕ → M
with_bytes put memory address [] = memory
with_bytes put memory address (byte ∷ bytes) = with_bytes put (put memory address byte) (address + 1) bytes

-- memory with a number's low size bytes from an address on
abbrev pub stored : {M : Type 0} → (M → ℕ → ℕ → M) → M → ℕ → ℕ → ℕ → M
stored put memory address size value = with_bytes put memory address (little_bytes size value)
