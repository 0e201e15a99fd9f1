-- Which threads of a program are live. This simulator's own; `serving` has the rest of the definitions.
use Rattle.std.specs.Prelude.{ℕ, Bool, false, List, slice_get, IsTrue}
use Rattle.std.specs.Option.{option_map_or}
use Rattle.serving.specs.declared.control_data.Fate.{Fate}
use Rattle.serving.specs.ControlData.{is_live}

-- whether the thread of a number began and its exit wasn't served yet
abbrev pub is_live_at : List Fate → ℕ → Bool
is_live_at fates thread = option_map_or is_live (slice_get fates thread) false

abbrev pub IsLive : List Fate → ℕ → Type 0
IsLive fates thread = IsTrue (is_live_at fates thread)
