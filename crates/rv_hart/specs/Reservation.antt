-- Reservations of one hart. From the RISC-V ISA manual, extension A, "Load-Reserved/Store-Conditional Instructions";
-- that a reservation has the bytes of its load-reserved alone, and matches at the same address and size, is this
-- simulator's own.
use Rattle.std.specs.Prelude.{◌==◌, ◌&&◌, Bool, true, false, not, Option, Some, None}
use Rattle.rv_exec.specs.declared.access.AccessOp.{AccessOp}
use Rattle.rv_exec.specs.declared.access.AccessOp.TheVariants.{Lr, Sc}
use Rattle.rv_exec.specs.Access.{Asked}
use Rattle.rv_hart.specs.declared.reservations.Span.{Span}

-- the bytes of an access
abbrev pub span_of : Asked → Span
span_of access = record { addr = access.addr; size = access.size }

-- whether a reservation stands that has the address and the size of an access
abbrev pub matches : Option Span → Asked → Bool
matches None access = false
matches (Some span) access = span.addr == access.addr && span.size == access.size

-- a hart's reservation after an access of its own: a load-reserved makes one, a store-conditional ends it
abbrev pub reserved_by : AccessOp → Asked → Option Span → Option Span
reserved_by Lr access old = Some (span_of access)
reserved_by Sc access old = None
reserved_by _ access old = old

abbrev pub reserved : Asked → Option Span → Option Span
reserved access old = reserved_by access.op access old

-- whether an access is a store-conditional, which is done only on a reservation that matches it
abbrev pub is_conditional : AccessOp → Bool
is_conditional Sc = true
is_conditional _ = false

abbrev pub lacks_reservation : Option Span → Asked → Bool
lacks_reservation reservation access = is_conditional access.op && not (matches reservation access)
