-- Probes: whom a tile asks for its clock, and when it may go on. After LaxP2P of Graphite (HPCA 2010).
use Rattle.std.specs.Prelude.{ℕ, ◌≡◌, ◌+◌, ◌-◌, ◌%◌, ◌||◌, not, Bool, nat_lt, nat_le, if◌then◌else◌}
use Rattle.rand_pcg.specs.Lcg.{Lcg, started, increment_of}
use Rattle.rand_pcg.specs.Pcg.{pcg32, multiplier_64}
use Rattle.sim_base.specs.declared.settings.Config.{Config}

-- a tile may go on where the other one isn't running, where it is at most so far ahead of it, or at the eighth reply
abbrev pub may_go_on : ℕ → ℕ → Bool → ℕ → ℕ → Bool
may_go_on own partner running slack replies = not running || (nat_le own (partner + slack) || nat_le 8 replies)

-- of so many tiles, the one that a tile asks at a word of its stream: any but itself
abbrev pub other_tile : ℕ → ℕ → ℕ
other_tile tile k = if nat_lt k tile then k else k + 1

abbrev pub partner_at : ℕ → ℕ → ℕ → ℕ
partner_at tiles tile word = other_tile tile (word % (tiles - 1))

-- how many tiles there are, the one that asks, and the generator of its stream
pub record ProbeStream : Type 0 where
  pub tiles : ℕ
  pub tile : ℕ
  pub generator : Lcg

-- a stream is one of a tile of this machine
pub record IsStreamOf (c : Config) (asker : ℕ) (s : ProbeStream) : Type 0 where
  pub tiles : s.tiles ≡ c.tiles
  pub tile : s.tile ≡ asker

-- each tile has a stream of its own, from the seed of the settings
unfoldable pub start_generator : ℕ → ℕ → Lcg
start_generator seed tile = started 64 multiplier_64 seed (increment_of 64 (tile + 1))

abbrev pub start_stream : Config → ℕ → ProbeStream
start_stream c tile = record { tiles = c.tiles; tile = tile; generator = start_generator c.seed tile }

-- the next word, and the generator after it
unfoldable pub next_word : Lcg → ℕ
next_word g = (pcg32 g).0

unfoldable pub next_generator : Lcg → Lcg
next_generator g = (pcg32 g).1

-- whom the tile asks next, and the stream after that
abbrev pub partner_of : ProbeStream → ℕ
partner_of s = partner_at s.tiles s.tile (next_word s.generator)

abbrev pub after_draw : ProbeStream → ProbeStream
after_draw s = record s { generator = next_generator s.generator }
