-- A write call whose bytes are gathered one by one. This simulator's own.
use Rattle.std.specs.Prelude.{ℕ, Bool, List, [], ◌∷◌, ◌++◌, length, nat_le}

-- the address of its first byte, how many bytes it has, and those that were read so far
pub record Gathering : Type 0 where
  pub addr : ℕ
  pub len : ℕ
  pub got : List ℕ

-- a write that begins; no write
abbrev pub write_of : ℕ → ℕ → Gathering
write_of addr len = record { addr = addr; len = len; got = [] }

abbrev pub no_write : Gathering
no_write = write_of 0 0

-- whether all its bytes were read
abbrev pub is_gathered : Gathering → Bool
is_gathered write = nat_le write.len (length write.got)

-- with one byte more
abbrev pub with_byte : Gathering → ℕ → Gathering
with_byte write byte = record write { got = write.got ++ byte ∷ [] }
