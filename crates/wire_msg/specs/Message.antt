-- What nodes send one another: which node may send what to which, by what they do in the machine, and what a message
-- says of a line of memory, without delays. This simulator's own, after Graphite (HPCA 2010).
use Rattle.std.specs.Prelude.{ℕ, ◌==◌, ◌&&◌, ◌||◌, Bool, false, nat_lt, List, Option, Some, None, if◌then◌else◌}
use Rattle.std.specs.List.{filter_map}
use Rattle.std.specs.Option.{option_map_or}
use Rattle.sim_base.specs.declared.lines.LineData.{LineData}
use Rattle.sim_base.specs.declared.settings.Config.{Config}
use Rattle.sim_base.specs.Numbering.{node_count, control_node, host_of, home_of}
use Rattle.wire_msg.specs.declared.lines.Want.{Want}
use Rattle.wire_msg.specs.declared.lines.Want.TheVariants.{Read, Write}
use Rattle.wire_msg.specs.declared.lines.Up.{Up}
use Rattle.wire_msg.specs.declared.lines.Up.TheVariants.{Asks, GivesUp, Acknowledges, HandsOver}
use Rattle.wire_msg.specs.declared.messages.Msg.{Msg}
use Rattle.wire_msg.specs.declared.messages.Msg.TheVariants.{GetS, GetM, PutM, InvAck, FetchAck, DataS, DataM, Inv, Fetch, FetchInv, Call, Return, Start, Exit, Trapped, Reached, Limit, Probe, ProbeReply}

-- who may send what. What a node receives from any other changes nothing

-- what a node does in the machine: it runs threads and is home to lines, it serves the whole program, or it serves
-- one host
pub data Role : Type 0 where
  tile : Role
  control : Role
  local : Role

-- whether a node has a role
abbrev pub has_role : Config → Role → ℕ → Bool
has_role c tile node = nat_lt node c.tiles
has_role c control node = node == control_node c
has_role c local node = nat_lt (control_node c) node && nat_lt node (node_count c)

-- whether a node may have lines to read: a tile, or the control server
abbrev pub is_reader : Config → ℕ → Bool
is_reader c node = has_role c tile node || has_role c control node

-- whether a message goes from a role to a role
abbrev pub goes : Config → Role → Role → ℕ → ℕ → Bool
goes c sender receiver from to = has_role c sender from && has_role c receiver to

-- the same between a tile and the local server of its host
abbrev pub goes_in_host : Config → Role → Role → ℕ → ℕ → Bool
goes_in_host c sender receiver from to = goes c sender receiver from to && host_of c from == host_of c to

-- whether a message about a line goes to its home, from a node that may have lines
abbrev pub goes_home : Config → ℕ → ℕ → ℕ → Bool
goes_home c line from to = is_reader c from && to == home_of c line

-- whether a message goes from a tile, which may be a line's home, to a node that may read lines
abbrev pub goes_to_reader : Config → ℕ → ℕ → Bool
goes_to_reader c from to = has_role c tile from && is_reader c to

-- whether a node may send a message to another
abbrev pub may_send : Config → ℕ → ℕ → Msg → Bool
may_send c from to (GetS line) = goes_home c line from to
may_send c from to (GetM line) = goes_home c line from to
may_send c from to (PutM line content) = goes_home c line from to
may_send c from to (InvAck line) = goes_home c line from to
may_send c from to (FetchAck line content) = goes_home c line from to
may_send c from to (DataS line content delay) = goes_to_reader c from to
may_send c from to (DataM line content delay) = goes c tile tile from to
may_send c from to (Inv line) = goes_to_reader c from to
may_send c from to (Fetch line) = goes c tile tile from to
may_send c from to (FetchInv line) = goes c tile tile from to
may_send c from to (Call thread time call) = goes c tile control from to
may_send c from to (Return value time limit) = goes c control tile from to
may_send c from to (Start thread entry arg time limit) = goes c control local from to || goes_in_host c local tile from to
may_send c from to (Exit thread code time) = goes_in_host c tile local from to || goes c local control from to
may_send c from to (Trapped thread cause pc) = goes c tile control from to
may_send c from to (Reached thread) = goes c tile control from to
may_send c from to (Limit limit) = goes c control tile from to
may_send c from to Probe = goes c tile tile from to
may_send c from to (ProbeReply running clock) = goes c tile tile from to

-- what messages say of a line: those to its home go up, those from its home go down

-- what a line's home tells a node: here is the line, to read or to write; drop the copy; hand the line over, for a reader
-- (and keep it to read) or for a writer
pub data Down : Type 0 where
  gives : Want → LineData → Down
  drops : Down
  fetches : Want → Down

-- the line that a message is about
abbrev pub line_of : Msg → Option ℕ
line_of (GetS line) = Some line
line_of (GetM line) = Some line
line_of (PutM line content) = Some line
line_of (InvAck line) = Some line
line_of (FetchAck line content) = Some line
line_of (DataS line content delay) = Some line
line_of (DataM line content delay) = Some line
line_of (Inv line) = Some line
line_of (Fetch line) = Some line
line_of (FetchInv line) = Some line
line_of _ = None

-- what it says to the line's home
abbrev pub up_of : Msg → Option Up
up_of (GetS line) = Some (Asks Read)
up_of (GetM line) = Some (Asks Write)
up_of (PutM line content) = Some (GivesUp content)
up_of (InvAck line) = Some Acknowledges
up_of (FetchAck line content) = Some (HandsOver content)
up_of _ = None

-- what it says from the line's home
abbrev pub down_of : Msg → Option Down
down_of (DataS line content delay) = Some (gives Read content)
down_of (DataM line content delay) = Some (gives Write content)
down_of (Inv line) = Some drops
down_of (Fetch line) = Some (fetches Read)
down_of (FetchInv line) = Some (fetches Write)
down_of _ = None

-- whether a message is about a line
abbrev pub is_about : ℕ → Msg → Bool
is_about line msg = option_map_or (λ n. n == line) (line_of msg) false

-- what a message says of one line to its home, and from it
abbrev pub up_about : ℕ → Msg → Option Up
up_about line msg = if is_about line msg then up_of msg else None

abbrev pub down_about : ℕ → Msg → Option Down
down_about line msg = if is_about line msg then down_of msg else None

-- the same of a list of messages, in its order
abbrev pub ups : ℕ → List Msg → List Up
ups line msgs = filter_map (up_about line) msgs

abbrev pub downs : ℕ → List Msg → List Down
downs line msgs = filter_map (down_about line) msgs
