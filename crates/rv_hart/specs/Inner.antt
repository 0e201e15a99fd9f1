-- For the contracts of the code alone: what is known of every step, and when an access is made as it is asked for.
use Rattle.std.specs.Prelude.{ℕ, ◌<◌, ◌≤◌, ◌≡◌, ◌&&◌, Bool, true, not, Option}
use Rattle.rv_exec.specs.Access.{Asked, IsAccess}
use Rattle.elf_image.specs.Layout.{Setup}
use Rattle.rv_hart.specs.declared.reservations.Span.{Span}
use Rattle.rv_hart.specs.declared.steps.Step.{Step}
use Rattle.rv_hart.specs.declared.steps.Step.TheVariants.{Next, Access, ScFails, Write}
use Rattle.rv_hart.specs.Reservation.{lacks_reservation}
use Rattle.rv_hart.specs.Step.{is_granted}

-- whether an access is made as it is asked for: its bytes have the right, and a store-conditional has its reservation
abbrev pub is_allowed : Setup → Option Span → Asked → Bool
is_allowed w reservation access = is_granted w access && not (lacks_reservation reservation access)

-- what is known of every step: registers have numbers below 32, an access is one of the manual's and its bytes have
-- the right, and a write moves 1 to 4096 bytes
abbrev pub IsStep : Setup → Step → Type 0
IsStep w (Next class rd value pc) = rd < 32
IsStep w (Access access) = IsAccess access × (is_granted w access ≡ true)
IsStep w (ScFails rd) = rd < 32
IsStep w (Write addr len) = (0 < len) × (len ≤ 4096)
IsStep w _ = Unit {0}
