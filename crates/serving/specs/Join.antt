-- What a join comes to. This simulator's own, after POSIX's pthread_join: a thread is joined once.
use Rattle.std.specs.Prelude.{ℕ, ◌==◌, true, false, List, slice_get, slice_set, if◌then◌else◌, Option, Some, None, is_some, option_and_then}
use Rattle.serving.specs.declared.control_data.Fate.{Fate}
use Rattle.serving.specs.declared.control_data.Fate.TheVariants.{Live, Exited}
use Rattle.serving.specs.declared.control_data.Join.{Join}
use Rattle.serving.specs.declared.control_data.Join.TheVariants.{Code, Parked, NoThread, Invalid}

-- what a join comes to, by the target's fate. No thread: the target never began or was joined already. Invalid: it is
-- the caller, or somebody is parked joining it. The code, where it exited. Else the caller is parked
abbrev pub join_by : ℕ → ℕ → Option Fate → Join
join_by caller target None = NoThread
join_by caller target (Some (Exited code true)) = NoThread
join_by caller target (Some (Exited code false)) = if target == caller then Invalid else Code code
join_by caller target (Some (Live (Some joiner))) = Invalid
join_by caller target (Some (Live None)) = if target == caller then Invalid else Parked

abbrev pub join_of : List Fate → ℕ → ℕ → Join
join_of fates caller target = join_by caller target (slice_get fates target)

-- the fates after a join: a target that exited counts as joined, and a live one has a joiner
abbrev pub fates_joined : List Fate → ℕ → ℕ → Join → List Fate
fates_joined fates caller target (Code code) = slice_set fates target (Exited code true)
fates_joined fates caller target Parked = slice_set fates target (Live (Some caller))
fates_joined fates caller target _ = fates

-- the thread that is parked joining a thread, if one is
abbrev pub joiner_by : Fate → Option ℕ
joiner_by (Live joiner) = joiner
joiner_by (Exited code joined) = None

abbrev pub joiner_of : List Fate → ℕ → Option ℕ
joiner_of fates thread = option_and_then joiner_by (slice_get fates thread)

-- the fates after a thread's exit with a code: it counts as joined where somebody was parked joining it
abbrev pub fates_exited : List Fate → ℕ → ℕ → List Fate
fates_exited fates thread code = slice_set fates thread (Exited code (is_some (joiner_of fates thread)))
