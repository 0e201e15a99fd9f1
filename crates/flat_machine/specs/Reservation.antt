-- What a write does to the reservations of other threads. From the RISC-V ISA manual, extension A,
-- "Load-Reserved/Store-Conditional Instructions"; that a reservation has the bytes of its load-reserved alone is this
-- simulator's own.
use Rattle.std.specs.Prelude.{ℕ, ◌+◌, Bool, List, map, max, min, nat_lt, slice_get, slice_set, if◌then◌else◌, Option, Some, None}
use Rattle.std.specs.Option.{option_map_or}
use Rattle.rv_hart.specs.declared.reservations.Span.{Span}
use Rattle.flat_machine.specs.declared.threads.Thread.{Thread}

-- whether two ranges share a byte: the later of the starts is before the earlier of the ends
abbrev pub share_byte : Span → Span → Bool
share_byte a b = nat_lt (max a.addr b.addr) (min (a.addr + a.size) (b.addr + b.size))

-- what is left of a reservation when bytes were written by another thread
abbrev pub unless_written : Span → Option Span → Option Span
unless_written written None = None
unless_written written (Some span) = if share_byte written span then None else Some span

abbrev pub without_reservation : Span → Thread → Thread
without_reservation written t = record t { reservation = unless_written written t.reservation }

-- the threads when the one with this number wrote these bytes, if any: each other one whose reservation has one
-- of them loses it
abbrev pub others_end : Option Span → List Thread → ℕ → List Thread
others_end None threads number = threads
others_end (Some written) threads number =
    option_map_or (λ own. slice_set (map (without_reservation written) threads) number own) (slice_get threads number) threads
