-- A law of control data.
use Rattle.std.specs.Prelude.{ℕ, ◌≡◌, ◌==◌, false, slice_get}
use Rattle.std.specs.List.{list_any}
use Rattle.std.specs.Option.{option_map_or}
use Rattle.serving.specs.ControlData.{ControlData, is_joiner, waits_for}

-- a thread waits for another exactly where it is the one that is parked joining it
abbrev pub WaitsForWhomItJoins : Type 0
WaitsForWhomItJoins = (c : ControlData) (thread target : ℕ)
    → list_any (λ number. number == target) (waits_for c thread) ≡ option_map_or (is_joiner thread) (slice_get c.fates target) false
