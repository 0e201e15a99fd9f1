-- What holds of one line in a state, and what an act keeps of it.
use Rattle.std.proofs.Common.{◌≡◌, ◌≢◌, ℕ, List, [], ◌∷◌, ◌++◌, Some, None, sym, ◌∙◌, subst}
use Rattle.std.specs.Prelude.{◌<◌, Option}
use Rattle.sim_base.specs.declared.ends.End.{End}
use Rattle.sim_base.specs.declared.lines.LineData.{LineData}
use Rattle.sim_base.specs.Numbering.{home_of, control_node}
use Rattle.elf_image.specs.Layout.{Setup}
use Rattle.wire_msg.specs.declared.messages.Msg.{Msg}
use Rattle.wire_msg.specs.Message.{up_about, down_about, ups, downs}
use Rattle.tile_cache.specs.Cache.{IsCache}
use Rattle.dir_slice.specs.Line.{Home}
use Rattle.dir_slice.specs.Inner.{IsWithin}
use Rattle.dir_slice.specs.Laws.{IsOrderly}
use Rattle.control_server.specs.Control.{Check}
use Rattle.event_journal.specs.Rules.{Change}
use Rattle.event_journal.specs.State.{State, messages_to, changed, with_queue}
use Rattle.node_machine.specs.declared.nodes.Node.{Node}
use Rattle.node_machine.specs.declared.nodes.Node.TheVariants.{Tile, Control, Local}
use Rattle.coherence_laws.specs.Part.{Part, copy_at, want_at, part_of, home_in, home_line}
use Rattle.coherence_laws.proofs.Moves.{part}
use Rattle.coherence_laws.proofs.Serve.{Kept}
use Rattle.coherence_laws.proofs.Take.{with_part, kept_at}
use Rattle.event_journal.proofs.Views.{taken_silent}
use Rattle.coherence_laws.proofs.View.{ups_stay, downs_stay, acts_alone, home_stays}

-- which node is what; a check goes on only while the program hasn't ended
abbrev pub IsUnended : Option Check → Option End → Type 0
IsUnended None ended = Unit {0}
IsUnended (Some check) ended = ended ≡ None

abbrev pub IsNodeOf : Setup → ℕ → Node → Type 0
IsNodeOf w y (Tile t) = (y < w.config.tiles) × (t.number ≡ y) × IsCache t.cache
IsNodeOf w y (Control c) = (y ≡ control_node w.config) × IsUnended c.checking c.control.ended
IsNodeOf w y (Local l) = control_node w.config < y

-- a line is known to nodes of the machine alone, waits only while a transaction is under way, and is said of only to and
-- from its home
pub record Placed (w : Setup) (s : State Node Msg) (k : ℕ) : Type 0 where
  pub within : IsWithin w.config.tiles (home_line w s k)
  pub orderly : IsOrderly (home_line w s k)
  pub up : (from to : ℕ) → to ≢ home_of w.config k → ups k (s.queue from to) ≡ []
  pub down : (from to : ℕ) → from ≢ home_of w.config k → downs k (s.queue from to) ≡ []

abbrev pub KeptIn : Home → LineData → (ℕ → Part) → Type 0
KeptIn h v n = Kept h.state h.memory h.waiting v n

pub record Holds (w : Setup) (s : State Node Msg) (k : ℕ) (v : LineData) : Type 0 where
  pub kept : KeptIn (home_line w s k) v (part_of w s k)
  pub placed : Placed w s k

pub taken_placed : (w : Setup) (s : State Node Msg) (k i j : ℕ) (msg : Msg) (rest : List Msg) → s.queue i j ≡ msg ∷ rest → Placed w s k → Placed w (with_queue s i j rest) k
taken_placed w s k i j msg rest e p = record {
  within = p.within;
  orderly = p.orderly;
  up = λ from to ne. taken_silent (up_about k) s i j msg rest from to e (p.up from to ne);
  down = λ from to ne. taken_silent (down_about k) s i j msg rest from to e (p.down from to ne);
}

-- a node acts, says nothing of the line from a home and nothing of it to any but its home, and leaves the line at its home
pub acts_hold : (w : Setup) (s : State Node Msg) (k : ℕ) (v : LineData) (x : ℕ) (change : Change Node Msg) → Placed w s k → home_in change.node k ≡ home_in (s.node x) k
    → ((y : ℕ) → downs k (messages_to y change.sent) ≡ []) → ((y : ℕ) → y ≢ home_of w.config k → ups k (messages_to y change.sent) ≡ [])
    → KeptIn (home_line w s k) v
    (with_part x
    (part (copy_at change.node k) (want_at change.node k) ((part_of w s k x).up ++ ups k (messages_to (home_of w.config k) change.sent)) (part_of w s k x).down)
    (part_of w s k))
    → Holds w (changed s x change) k v
acts_hold w s k v x change p home silent elsewhere kept =
    let same : home_line w (changed s x change) k ≡ home_line w s k = home_stays w s k x change home in
    record {
      kept = subst (λ h. KeptIn h v (part_of w (changed s x change) k)) (sym same) (kept_at (part_of w (changed s x change) k) kept (acts_alone w s k x change silent));
      placed = record {
        within = subst (IsWithin w.config.tiles) (sym same) p.within;
        orderly = subst IsOrderly (sym same) p.orderly;
        up = λ from to ne. ups_stay s x change k from to (λ _. elsewhere to ne) ∙ p.up from to ne;
        down = λ from to ne. downs_stay s x change k from to (λ _. silent to) ∙ p.down from to ne;
      };
    }
