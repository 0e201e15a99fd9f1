-- The active threads of an epoch, in ascending order, and which of them have reached its limit. After LaxBarrier of
-- Graphite (HPCA 2010).
use Rattle.std.specs.Prelude.{ℕ, ◌==◌, not, Bool, List, [], ◌∷◌, nat_lt, map, filter, if◌then◌else◌, Some, None, is_some}
use Rattle.std.specs.List.{list_all}
use Rattle.clock_policy.specs.declared.members.Member.{Member}

-- an active thread that hasn't reported in this epoch
abbrev pub unreached : ℕ → Member
unreached thread = record { thread = thread; reached = None }

-- a thread is active from now on; where it is already, nothing changes
abbrev pub with_member : ℕ → List Member → List Member
with_member thread [] = unreached thread ∷ []
with_member thread (m ∷ ms) =
    if thread == m.thread then m ∷ ms else (if nat_lt thread m.thread then unreached thread ∷ m ∷ ms else m ∷ with_member thread ms)

-- a thread isn't active any more
abbrev pub without_member : ℕ → List Member → List Member
without_member thread members = filter (λ m. not (m.thread == thread)) members

-- a thread reports from a tile that it has reached the limit; the last report counts
abbrev pub with_report : ℕ → ℕ → Member → Member
with_report thread tile m = if m.thread == thread then record m { reached = Some tile } else m

abbrev pub reported : ℕ → ℕ → List Member → List Member
reported thread tile members = map (with_report thread tile) members

-- nobody has reported
abbrev pub renewed : Member → Member
renewed m = unreached m.thread

-- who has reached the limit: nobody is active; somebody hasn't; all have
pub data Standing : Type 0 where
  nobody : Standing
  some_unreached : Standing
  all_reached : Standing

abbrev pub has_reached : Member → Bool
has_reached m = is_some m.reached

abbrev pub standing : List Member → Standing
standing [] = nobody
standing (m ∷ ms) = if list_all has_reached (m ∷ ms) then all_reached else some_unreached
