-- For the contracts of the code alone: no clause of a public function needs this. Where a thread stands among the active
-- ones.
use Rattle.std.specs.Prelude.{ℕ, ◌==◌, Bool, false, List, nat_le, Option}
use Rattle.std.specs.List.{position_or_len}
use Rattle.std.specs.Option.{option_map_or}
use Rattle.clock_policy.specs.declared.members.Member.{Member}

-- the place of the first that is no lower
abbrev pub member_place : ℕ → List Member → ℕ
member_place thread members = position_or_len (λ m. nat_le thread m.thread) members

-- whether a thread is the member at a place
abbrev pub is_at : ℕ → Option Member → Bool
is_at thread member = option_map_or (λ m. m.thread == thread) member false
