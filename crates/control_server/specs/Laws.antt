-- Laws of the control server.
use Rattle.std.specs.Prelude.{ℕ, ◌≡◌, ◌==◌, false, true, length, find, is_some, Option, option_and_then}
use Rattle.std.specs.List.{filter_map}
use Rattle.std.specs.Option.{option_map}
use Rattle.elf_image.specs.Layout.{Setup}
use Rattle.wire_msg.specs.declared.messages.Msg.{Msg}
use Rattle.wire_msg.specs.declared.messages.Msg.TheVariants.{Limit}
use Rattle.clock_policy.specs.Members.{all_reached, standing}
use Rattle.clock_policy.specs.Epoch.{Epoch, limit_of, next_epoch, limits_sent}
use Rattle.control_server.specs.Control.{Control, active_threads, IsOrderly}
use Rattle.control_server.specs.Serve.{can_step}
use Rattle.control_server.specs.Deliver.{control_delivered}

-- the limit of the next epoch, to the tile from which a thread has reported, if it has
abbrev pub limit_for : Epoch → ℕ → Option (ℕ × Msg)
limit_for e thread =
    option_map (λ tile. (tile, Limit (limit_of (next_epoch e)))) (option_and_then (λ m. m.reached) (find (λ m. m.thread == thread) e.members))

-- the limits go out in the order of the active threads; where all of these have reached, there is one for each
pub record LimitsGoOut (c : Control) : Type 0 where
  pub order : limits_sent c.epochs ≡ filter_map (limit_for c.epochs) (active_threads c.control)
  pub each : standing c.epochs.members ≡ all_reached → length (limits_sent c.epochs) ≡ length (active_threads c.control)

abbrev pub LimitsGoOutInOrder : Type 0
LimitsGoOutInOrder = (w : Setup) (c : Control) → IsOrderly w c → LimitsGoOut c

-- once the program has ended the control server makes no step, and no message changes it: so its end stays
pub record StandsStill (w : Setup) (c : Control) : Type 0 where
  pub no_step : can_step c ≡ false
  pub no_change : (from : ℕ) (msg : Msg) → (control_delivered w c from msg).control ≡ c

abbrev pub EndStays : Type 0
EndStays = (w : Setup) (c : Control) → is_some c.control.ended ≡ true → StandsStill w c
