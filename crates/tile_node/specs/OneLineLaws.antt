-- What a tile does is at each line what its view there says: how its steps and deliveries show, what may happen where, who is
-- told, and what its home's role leaves alone. Each is a law that is proved of the tile's definitions.
use Rattle.std.specs.Prelude.{ℕ, ◌<◌, ◌≡◌, ◌≢◌, ◌⊎◌, true, All, Option, Some, None}
use Rattle.sim_base.specs.declared.lines.LineData.{LineData}
use Rattle.sim_base.specs.Numbering.{home_of}
use Rattle.elf_image.specs.Layout.{Setup}
use Rattle.wire_msg.specs.declared.messages.Msg.{Msg}
use Rattle.wire_msg.specs.declared.lines.Want.{Want}
use Rattle.wire_msg.specs.declared.lines.Want.TheVariants.{Read, Write}
use Rattle.wire_msg.specs.declared.lines.Up.{Up}
use Rattle.wire_msg.specs.declared.lines.Up.TheVariants.{Asks, GivesUp, Acknowledges, HandsOver}
use Rattle.wire_msg.specs.Message.{Down, may_send, line_of, up_of, down_about, up_about, down_of}
use Rattle.tile_cache.specs.declared.ways.Hold.{Hold}
use Rattle.tile_cache.specs.declared.ways.Hold.TheVariants.{S, M}
use Rattle.tile_cache.specs.Cache.{IsCache}
use Rattle.tile_cache.specs.Copy.{Copy, absent, shared, modified, copy_of}
use Rattle.tile_node.specs.Tile.{Tile, Act, start_tile}
use Rattle.tile_node.specs.Step.{can_step, tile_step}
use Rattle.tile_node.specs.Deliver.{home_does, tile_delivered}
use Rattle.tile_node.specs.OneLine.{Happening, copy_after, told_about, told_after, wants, wants_after, step_at, delivered_at, heard, nothing, evicted, hit, asked, came}

-- an act shows so at a line
pub record Shows (t : Tile) (k : ℕ) (act : Act) (h : Happening) : Type 0 where
  pub copy : copy_of act.tile.cache k ≡ copy_after h (copy_of t.cache k)
  pub told : told_about k act.mail ≡ told_after h (copy_of t.cache k)
  pub wants : wants act.tile k ≡ wants_after h (wants t k)

-- so does a step of a tile that can step, and a delivery
abbrev pub StepShows : Type 0
StepShows = (w : Setup) (t : Tile) (k : ℕ) → can_step t ≡ true → IsCache t.cache → Shows t k (tile_step w t) (step_at w t k)

abbrev pub DeliverShows : Type 0
DeliverShows = (w : Setup) (t : Tile) (from : ℕ) (msg : Msg) (k : ℕ) → IsCache t.cache
    → Shows t k (tile_delivered w t from msg) (delivered_at w t from msg k)

-- a home's word about a line is at that line what the tile hears
abbrev pub DownsHappen : Type 0
DownsHappen = (w : Setup) (t : Tile) (from : ℕ) (msg : Msg) (k : ℕ) (says : Down) → may_send w.config from t.number msg ≡ true
    → down_about k msg ≡ Some says → delivered_at w t from msg k ≡ heard t.core.status (wants t k) says

-- every other message does nothing there, or the line is evicted
abbrev pub OthersLeave : Type 0
OthersLeave = (w : Setup) (t : Tile) (from : ℕ) (msg : Msg) (k : ℕ) → down_about k msg ≡ None
    → (delivered_at w t from msg k ≡ nothing) ⊎ (delivered_at w t from msg k ≡ evicted)

-- what may happen where: an access is done only on a copy that is there, and leaves the data of one to read; a line is
-- asked for only where no copy of it is enough, and nothing of it is waited for; a line comes only where it is waited
-- for, and to read only where it is waited for to read; only a line that is there, and isn't waited for, is evicted
abbrev pub MayChange : (LineData → LineData) → Copy → Type 0
MayChange change absent = ⊥
MayChange change (shared content) = change content ≡ content
MayChange change (modified content) = Unit {0}

abbrev pub MayAsk : Want → Copy → Type 0
MayAsk want absent = Unit {0}
MayAsk want (shared content) = want ≡ Write
MayAsk want (modified content) = ⊥

abbrev pub MayCome : Hold → Option Want → Type 0
MayCome S want = want ≡ Some Read
MayCome M want = want ≢ None

abbrev pub MayHappen : Happening → Copy → Option Want → Type 0
MayHappen (hit change) copy before = MayChange change copy × (before ≡ None)
MayHappen (asked want) copy before = MayAsk want copy × (before ≡ None)
MayHappen (came hold content) copy before = MayCome hold before
MayHappen evicted copy before = (copy ≢ absent) × (before ≡ None)
MayHappen _ copy before = Unit {0}

abbrev pub StepMayHappen : Type 0
StepMayHappen = (w : Setup) (t : Tile) (k : ℕ) → can_step t ≡ true → MayHappen (step_at w t k) (copy_of t.cache k) (wants t k)

abbrev pub DeliverMayHappen : Type 0
DeliverMayHappen = (w : Setup) (t : Tile) (from : ℕ) (msg : Msg) (k : ℕ) → IsCache t.cache
    → MayHappen (delivered_at w t from msg k) (copy_of t.cache k) (wants t k)

-- a tile waits for one line at most
abbrev pub WantsOne : Type 0
WantsOne = (t : Tile) (j k : ℕ) → wants t j ≢ None → wants t k ≢ None → j ≡ k

-- a tile stays one: its cache a cache, its number the same
pub record StaysTile (t : Tile) (act : Act) : Type 0 where
  pub cache : IsCache act.tile.cache
  pub number : act.tile.number ≡ t.number

abbrev pub StepStaysTile : Type 0
StepStaysTile = (w : Setup) (t : Tile) → IsCache t.cache → StaysTile t (tile_step w t)

abbrev pub DeliverStaysTile : Type 0
DeliverStaysTile = (w : Setup) (t : Tile) (from : ℕ) (msg : Msg) → IsCache t.cache → StaysTile t (tile_delivered w t from msg)

-- who is told: what is said to a line's home goes there; and what answers a home's word about a line goes to the node that
-- sent it
abbrev pub GoesHome : Setup → ℕ × Msg → Type 0
GoesHome w m = (line : ℕ) (says : Up) → up_about line m.1 ≡ Some says → m.0 ≡ home_of w.config line

abbrev pub ToldToHomes : Type 0
ToldToHomes = (w : Setup) (t : Tile) → All (GoesHome w) (tile_step w t).mail

abbrev pub IsToldTo : Setup → ℕ → Msg → ℕ → ℕ → Up → Type 0
IsToldTo w from msg to line (Asks want) = to ≡ home_of w.config line
IsToldTo w from msg to line (GivesUp content) = to ≡ home_of w.config line
IsToldTo w from msg to line Acknowledges = (to ≡ from) × (down_about line msg ≢ None)
IsToldTo w from msg to line (HandsOver content) = (to ≡ from) × (down_about line msg ≢ None)

abbrev pub GoesRightly : Setup → ℕ → Msg → ℕ × Msg → Type 0
GoesRightly w from msg m = (line : ℕ) (says : Up) → up_about line m.1 ≡ Some says → IsToldTo w from msg m.0 line says

abbrev pub ToldToReceivers : Type 0
ToldToReceivers = (w : Setup) (t : Tile) (from : ℕ) (msg : Msg) → All (GoesRightly w from msg) (tile_delivered w t from msg).mail

-- the home's role: what a node tells a home is the home's alone. All else leaves the tile's lines as a home alone, and
-- nothing that is sent says anything from a home
pub record LeavesHomes (t : Tile) (act : Act) : Type 0 where
  pub slice : act.tile.slice ≡ t.slice
  pub mail : All (λ m. down_of m.1 ≡ None) act.mail

abbrev pub StepLeavesHomes : Type 0
StepLeavesHomes = (w : Setup) (t : Tile) → LeavesHomes t (tile_step w t)

abbrev pub DeliverLeavesHomes : Type 0
DeliverLeavesHomes = (w : Setup) (t : Tile) (from : ℕ) (msg : Msg) → up_of msg ≡ None → LeavesHomes t (tile_delivered w t from msg)

abbrev pub HomesHear : Type 0
HomesHear = (w : Setup) (t : Tile) (from : ℕ) (msg : Msg) (line : ℕ) (says : Up) → may_send w.config from t.number msg ≡ true
    → line_of msg ≡ Some line → up_of msg ≡ Some says → tile_delivered w t from msg ≡ home_does w t from line says

-- what a home sends goes to nodes that have its line, and is about it
abbrev pub HomesSpeakOfLines : Type 0
HomesSpeakOfLines = (w : Setup) (t : Tile) (from line : ℕ) (says : Up) → All (λ m. (up_of m.1 ≡ None) × (line_of m.1 ≡ Some line)) (home_does w t from line says).mail

-- before the program runs there is a cache without copies, and no line is waited for
pub record StartsEmpty (t : Tile) : Type 0 where
  pub cache : IsCache t.cache
  pub copies : (k : ℕ) → copy_of t.cache k ≡ absent
  pub wants : (k : ℕ) → wants t k ≡ None

abbrev pub TilesStartEmpty : Type 0
TilesStartEmpty = (w : Setup) (tile : ℕ) → 0 < w.config.sets → 0 < w.config.ways → StartsEmpty (start_tile w tile)
