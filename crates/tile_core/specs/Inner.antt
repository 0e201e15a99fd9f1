-- For the contracts of the code alone: what is known of every plan.
use Rattle.std.specs.Prelude.{◌<◌, ◌≤◌, ◌≡◌, true}
use Rattle.elf_image.specs.Layout.{Setup}
use Rattle.rv_exec.specs.Access.{IsAccess}
use Rattle.rv_hart.specs.Step.{is_granted}
use Rattle.tile_core.specs.declared.plans.Plan.{Plan}
use Rattle.tile_core.specs.declared.plans.Plan.TheVariants.{Local, Access, ScFails, Write}

-- what is known of every plan: registers have numbers below 32, an access is one of the manual's and its bytes have the
-- right, and a write moves 1 to 4096 bytes
abbrev pub IsPlan : Setup → Plan → Type 0
IsPlan w (Local rd value pc cost answered) = rd < 32
IsPlan w (Access access) = IsAccess access × (is_granted w access ≡ true)
IsPlan w (ScFails rd) = rd < 32
IsPlan w (Write addr len) = (0 < len) × (len ≤ 4096)
IsPlan w _ = Unit {0}
