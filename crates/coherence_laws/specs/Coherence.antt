-- What a state has to be for its lines to be coherent: one writer or only readers, at most one carrier, one value.
use Rattle.std.specs.Prelude.{ℕ, ◌≡◌, ◌≢◌, ◌⊎◌, List, [], ◌∷◌, ◌++◌, Option, Some, None}
use Rattle.std.specs.List.{All, filter_map}
use Rattle.sim_base.specs.declared.lines.LineData.{LineData}
use Rattle.sim_base.specs.Numbering.{home_of}
use Rattle.elf_image.specs.Layout.{Setup}
use Rattle.wire_msg.specs.declared.messages.Msg.{Msg}
use Rattle.wire_msg.specs.declared.lines.Want.TheVariants.{Read, Write}
use Rattle.wire_msg.specs.declared.lines.Up.{Up}
use Rattle.wire_msg.specs.declared.lines.Up.TheVariants.{GivesUp, HandsOver}
use Rattle.wire_msg.specs.Message.{Down, gives, ups, downs}
use Rattle.tile_cache.specs.Copy.{Copy, absent, shared, modified}
use Rattle.event_journal.specs.State.{State}
use Rattle.node_machine.specs.declared.nodes.Node.{Node}
use Rattle.coherence_laws.specs.Part.{Part, copy_at, part_of, home_line}

-- a copy that may be written
abbrev pub IsWritable : Copy → Type 0
IsWritable absent = ⊥
IsWritable (shared content) = ⊥
IsWritable (modified content) = Unit {0}

-- one writer or only readers: where a node has a line to write, no other node has a copy of it
abbrev pub OneWriterOrReaders : State Node Msg → ℕ → Type 0
OneWriterOrReaders s k = (x y : ℕ) → IsWritable (copy_at (s.node x) k) → (x ≡ y) ⊎ (copy_at (s.node y) k ≡ absent)

-- the data of a line that only one place may have: a copy to write, the line on its way to a writer, and what its owner
-- gives up or hands over
abbrev pub in_copy : Copy → List LineData
in_copy (modified content) = content ∷ []
in_copy _ = []

abbrev pub in_up : Up → Option LineData
in_up (GivesUp content) = Some content
in_up (HandsOver content) = Some content
in_up _ = None

abbrev pub in_down : Down → Option LineData
in_down (gives Write content) = Some content
in_down _ = None

abbrev pub carried : Part → List LineData
carried p = in_copy p.copy ++ filter_map in_up p.up ++ filter_map in_down p.down

-- the value of a line stands in one place: one node's part carries it, and no other's carries anything; or none does, and
-- the home's memory has it
pub record IsCarriedBy (w : Setup) (s : State Node Msg) (k : ℕ) (v : LineData) (x : ℕ) : Type 0 where
  pub content : carried (part_of w s k x) ≡ v ∷ []
  pub alone : (y : ℕ) → y ≢ x → carried (part_of w s k y) ≡ []

pub record IsAtHome (w : Setup) (s : State Node Msg) (k : ℕ) (v : LineData) : Type 0 where
  pub nowhere : (x : ℕ) → carried (part_of w s k x) ≡ []
  pub memory : (home_line w s k).memory ≡ v

abbrev pub HasValue : Setup → State Node Msg → ℕ → LineData → Type 0
HasValue w s k v = ((x : ℕ) × IsCarriedBy w s k v x) ⊎ IsAtHome w s k v

-- a copy, if there is one, has this data
abbrev pub HasData : Copy → LineData → Type 0
HasData absent v = Unit {0}
HasData (shared content) v = content ≡ v
HasData (modified content) v = content ≡ v

-- what is said of a line to its home goes nowhere else, and what is said of it from its home comes from nowhere else
pub record OnlyByHome (w : Setup) (s : State Node Msg) (k : ℕ) : Type 0 where
  pub up : (from to : ℕ) → to ≢ home_of w.config k → ups k (s.queue from to) ≡ []
  pub down : (from to : ℕ) → from ≢ home_of w.config k → downs k (s.queue from to) ≡ []

-- the data of a line on its way to a reader
abbrev pub to_reader : Down → Option LineData
to_reader (gives Read content) = Some content
to_reader _ = None

-- a line is coherent with this value: one writer or only readers, one place that has the value, and every copy has it, and
-- what is on its way to readers
pub record IsCoherent (w : Setup) (s : State Node Msg) (k : ℕ) (v : LineData) : Type 0 where
  pub writer : OneWriterOrReaders s k
  pub value : HasValue w s k v
  pub copies : (x : ℕ) → HasData (copy_at (s.node x) k) v
  pub readers : (x : ℕ) → All (λ content. content ≡ v) (filter_map to_reader (part_of w s k x).down)
  pub messages : OnlyByHome w s k
