-- The control data of a program: what its threads' calls, exits and traps are served by. This simulator's own.
use Rattle.std.specs.Prelude.{ℕ, ◌+◌, ◌==◌, ◌||◌, Bool, true, false, List, [], ◌∷◌, length, count_by, if◌then◌else◌, Option, Some, None}
use Rattle.std.specs.List.{list_any}
use Rattle.sim_base.specs.declared.ends.End.{End}
use Rattle.serving.specs.declared.control_data.Fate.{Fate}
use Rattle.serving.specs.declared.control_data.Fate.TheVariants.{Live, Exited}
use Rattle.serving.specs.declared.control_data.Waiter.{Waiter}

-- each thread's fate, by its number: threads are numbered from 0 on, and no number is used again; who is parked at
-- which word, in order of parking; the end of the heap's used part; what was output; and the end, if there is one
pub record ControlData : Type 0 where
  pub fates : List Fate
  pub waiters : List Waiter
  pub heap_break : ℕ
  pub output : List ℕ
  pub ended : Option End

-- before the program runs thread 0 is live, and the break is the heap's start
abbrev pub start_data : ℕ → ControlData
start_data heap_start = record { fates = Live None ∷ []; waiters = []; heap_break = heap_start; output = []; ended = None }

-- the number that the next thread gets
abbrev pub next_number : List Fate → ℕ
next_number fates = length fates

-- a thread is live until its exit is served
abbrev pub is_live : Fate → Bool
is_live (Live joiner) = true
is_live (Exited code joined) = false

-- how many threads are live
abbrev pub live_count : List Fate → ℕ
live_count fates = count_by is_live fates

-- the numbers of the live threads among those from a number on
abbrev pub live_from : ℕ → List Fate → List ℕ
live_from number [] = []
live_from number (fate ∷ fates) = if is_live fate then number ∷ live_from (number + 1) fates else live_from (number + 1) fates

-- whether a thread is parked at a word
abbrev pub is_waiting : List Waiter → ℕ → Bool
is_waiting waiters thread = list_any (λ w. w.thread == thread) waiters

-- whether a thread is the one that is parked joining another; whether it is parked joining any
abbrev pub is_joiner : ℕ → Fate → Bool
is_joiner thread (Live (Some joiner)) = joiner == thread
is_joiner thread _ = false

abbrev pub is_joining : List Fate → ℕ → Bool
is_joining fates thread = list_any (is_joiner thread) fates

-- whether a thread is parked
abbrev pub is_parked : ControlData → ℕ → Bool
is_parked c thread = is_waiting c.waiters thread || is_joining c.fates thread

-- for which threads' exits a thread's parking waits, ascending: for those that it is parked joining. One that is parked at
-- a word waits for whoever wakes it, and so for no certain thread
abbrev pub joined_from : ℕ → ℕ → List Fate → List ℕ
joined_from thread number [] = []
joined_from thread number (fate ∷ fates) =
    if is_joiner thread fate then number ∷ joined_from thread (number + 1) fates else joined_from thread (number + 1) fates

abbrev pub waits_for : ControlData → ℕ → List ℕ
waits_for c thread = joined_from thread 0 c.fates
