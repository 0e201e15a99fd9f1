-- Epochs: the limit of each, and when one follows another. All active threads meet at the limit of an epoch before any
-- goes on. After LaxBarrier of Graphite (HPCA 2010).
use Rattle.std.specs.Prelude.{ℕ, ◌≡◌, ◌+◌, ◌*◌, Bool, true, false, List, [], ◌∷◌, ◌++◌, map, Option}
use Rattle.std.specs.List.{filter_map}
use Rattle.std.specs.Option.{option_map}
use Rattle.sim_base.specs.Saturated.{saturated}
use Rattle.wire_msg.specs.declared.messages.Msg.{Msg}
use Rattle.wire_msg.specs.declared.messages.Msg.TheVariants.{Limit}
use Rattle.clock_policy.specs.declared.members.Member.{Member}
use Rattle.clock_policy.specs.Members.{Standing, nobody, some_unreached, all_reached, standing, unreached, renewed}

-- messages with their receivers, in the order of sending
abbrev pub Mail : Type 0
Mail = List (ℕ × Msg)

-- the cycles between two limits, the number of the epoch, and the active threads, ascending
pub record Epoch : Type 0 where
  pub quantum : ℕ
  pub number : ℕ
  pub members : List Member

-- before the program runs it is epoch 0, and thread 0 is active
abbrev pub start_epoch : ℕ → Epoch
start_epoch quantum = record { quantum = quantum; number = 0; members = unreached 0 ∷ [] }

-- the clock at which its threads stop, in cycles
abbrev pub limit_of : Epoch → ℕ
limit_of e = saturated ((e.number + 1) * e.quantum)

-- the epoch after it: the same threads are active, and none has reached its limit
abbrev pub next_epoch : Epoch → Epoch
next_epoch e = record e { number = saturated (e.number + 1); members = map renewed e.members }

-- the limit is told to the tile from which a thread reported
abbrev pub limit_sent : ℕ → Member → Option (ℕ × Msg)
limit_sent limit m = option_map (λ tile. (tile, Limit limit)) m.reached

-- the limit of the next epoch, to the tile of each active thread, ascending
abbrev pub limits_sent : Epoch → Mail
limits_sent e = filter_map (limit_sent (limit_of (next_epoch e))) e.members

-- the epoch is raised where somebody is active and all active threads have reached
abbrev pub is_raised : Standing → Bool
is_raised nobody = false
is_raised some_unreached = false
is_raised all_reached = true

abbrev pub advanced_by : Standing → Epoch → Epoch
advanced_by nobody e = e
advanced_by some_unreached e = e
advanced_by all_reached e = next_epoch e

abbrev pub announced_by : Standing → Epoch → Mail
announced_by nobody e = []
announced_by some_unreached e = []
announced_by all_reached e = limits_sent e

-- the same as a relation: whether the epoch was raised, what it is then, and what was sent before and after
abbrev pub AdvancesBy : Standing → Epoch → Bool → Epoch → Mail → Mail → Type 0
AdvancesBy nobody old raised new before after = (raised ≡ false) × (new ≡ old) × (after ≡ before)
AdvancesBy some_unreached old raised new before after = (raised ≡ false) × (new ≡ old) × (after ≡ before)
AdvancesBy all_reached old raised new before after = (raised ≡ true) × (new ≡ next_epoch old) × (after ≡ before ++ limits_sent old)

abbrev pub Advances : Epoch → Bool → Epoch → Mail → Mail → Type 0
Advances old raised new before after = AdvancesBy (standing old.members) old raised new before after
