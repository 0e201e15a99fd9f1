-- The flat machine's memory: a finite map from the mapped addresses to bytes.
use Rattle.std.specs.Prelude.{ℕ, map, unwrap_or, if◌then◌else◌}
use Rattle.std.specs.Ordering.{nat_cmp}
use Rattle.std.specs.Coded.{Coded, coded_ℕ}
use Rattle.std.specs.FinMap.{FinMap, get, contains_key, insert, from_entries, code}
use Rattle.elf_image.specs.Layout.{Setup, mapped, start_byte}

-- the byte at an address, 0 where nothing is mapped
abbrev pub byte_at : FinMap nat_cmp ℕ → ℕ → ℕ
byte_at memory address = unwrap_or (get memory address) 0

-- the memory before the program runs: each mapped address has the byte that the image gives it, or 0
unfoldable pub start_memory : Setup → FinMap nat_cmp ℕ
start_memory w = from_entries (map (λ address. (address, start_byte w address)) (mapped w))

-- the memory with another byte at an address; where nothing is mapped, nothing is written
abbrev pub with_byte : FinMap nat_cmp ℕ → ℕ → ℕ → FinMap nat_cmp ℕ
with_byte memory address byte = if contains_key memory address then insert memory address byte else memory

-- a memory as data, by which contracts tell memories apart
abbrev pub memory_code : Coded (FinMap nat_cmp ℕ)
memory_code = code coded_ℕ coded_ℕ
