-- What a machine has of one line of memory: each node's part of it, and the line at its home. The coherence of lines
-- speaks of nothing else. This simulator's own.
use Rattle.std.specs.Prelude.{ℕ, ◌==◌, List, if◌then◌else◌, Option, Some, None}
use Rattle.sim_base.specs.Numbering.{home_of}
use Rattle.elf_image.specs.Layout.{Setup}
use Rattle.wire_msg.specs.declared.messages.Msg.{Msg}
use Rattle.wire_msg.specs.declared.lines.Want.{Want}
use Rattle.wire_msg.specs.declared.lines.Want.TheVariants.{Read}
use Rattle.wire_msg.specs.declared.lines.Up.{Up}
use Rattle.wire_msg.specs.Message.{Down, ups, downs}
use Rattle.tile_cache.specs.Copy.{Copy, absent, copy_of}
use Rattle.dir_slice.specs.Line.{Home, fresh}
use Rattle.dir_slice.specs.Directory.{zero_line, home_at}
use Rattle.tile_node.specs.OneLine.{wants}
use Rattle.control_server.specs.Control.{Check}
use Rattle.control_server.specs.Serve.{line_at}
use Rattle.event_journal.specs.State.{State}
use Rattle.node_machine.specs.declared.nodes.Node.{Node}
use Rattle.node_machine.specs.declared.nodes.Node.TheVariants.{Tile, Control, Local}

-- a node's part of a line: its copy; what it wants the line for, where it waits for it; what is on its way from it to the line's home; and what is on its way to it from there
pub record Part : Type 0 where
  pub copy : Copy
  pub want : Option Want
  pub up : List Up
  pub down : List Down

-- only tiles keep copies
abbrev pub copy_at : Node → ℕ → Copy
copy_at (Tile t) k = copy_of t.cache k
copy_at _ k = absent

-- a tile waits for the line that it misses; the control server for the line of the word that it checks, to read it
abbrev pub check_wants : Option Check → ℕ → Option Want
check_wants None k = None
check_wants (Some check) k = if line_at check.addr == k then Some Read else None

abbrev pub want_at : Node → ℕ → Option Want
want_at (Tile t) k = wants t k
want_at (Control c) k = check_wants c.checking k
want_at (Local l) k = None

-- a node's part of a line in a state
abbrev pub part_of : Setup → State Node Msg → ℕ → ℕ → Part
part_of w s k node = record {
  copy = copy_at (s.node node) k;
  want = want_at (s.node node) k;
  up = ups k (s.queue node (home_of w.config k));
  down = downs k (s.queue (home_of w.config k) node);
}

-- the line at its home
abbrev pub home_in : Node → ℕ → Home
home_in (Tile t) k = home_at t.slice.homes k
home_in _ k = fresh zero_line

abbrev pub home_line : Setup → State Node Msg → ℕ → Home
home_line w s k = home_in (s.node (home_of w.config k)) k
