-- The instruction that an image lends is the one that a hart fetches; and what it does by what it means.
use Rattle.std.proofs.Common.{◌≡◌, ℕ, ◌%◌, ◌==◌, Bool, true, false, List, if◌then◌else◌, ap, refl}
use Rattle.std.specs.Prelude.{Option, Some, None, option_and_then, not, ◌&&◌}
use Rattle.rv_decode.specs.declared.instr.Instr.{Instr}
use Rattle.rv_decode.specs.Table.{row}
use Rattle.elf_image.specs.Layout.{Setup, fetch, instruction}
use Rattle.rv_exec.specs.Access.{Asked}
use Rattle.rv_hart.specs.declared.reservations.Span.{Span}
use Rattle.rv_hart.specs.declared.steps.Step.TheVariants.{Access}
use Rattle.rv_hart.specs.Reservation.{lacks_reservation}
use Rattle.rv_hart.specs.Inner.{is_allowed}
use Rattle.rv_hart.specs.Step.{is_granted, access_step, next_step, word_step, row_step, instruction_step}

-- whichever way the look-up went
row_found : (w : Setup) (regs : List ℕ) (pc : ℕ) (r : Option Span) (thread : ℕ) (i : Instr) (b : Bool) (fetched : Option ℕ)
    → (if b then option_and_then row fetched else None) ≡ Some i
    → word_step w regs pc r thread fetched ≡ instruction_step w regs pc r thread i
row_found w regs pc r thread i true None e = cc
row_found w regs pc r thread i true (Some word) e = ap (row_step w regs pc r thread) e
row_found w regs pc r thread i false fetched e = cc

pub lent_step : (w : Setup) (regs : List ℕ) (pc : ℕ) (r : Option Span) (thread : ℕ) (i : Instr)
    → instruction w pc ≡ Some i → next_step w regs pc r thread ≡ instruction_step w regs pc r thread i
unfolding instruction
lent_step w regs pc r thread i e = row_found w regs pc r thread i (pc % 4 == 0) (fetch w pc) e

-- an access that is allowed is made as it is asked for
by_rights : (w : Setup) (r : Option Span) (access : Asked) (granted lacks : Bool) → is_granted w access ≡ granted → lacks_reservation r access ≡ lacks
    → (granted && not lacks) ≡ true → access_step w r access ≡ Access access
by_rights w r access true false g l h = rw (g, l) refl
by_rights w r access true true g l h = cc
by_rights w r access false lacks g l h = cc

pub allowed_step : (w : Setup) (r : Option Span) (access : Asked) → is_allowed w r access ≡ true → access_step w r access ≡ Access access
allowed_step w r access h = by_rights w r access (is_granted w access) (lacks_reservation r access) refl refl h
