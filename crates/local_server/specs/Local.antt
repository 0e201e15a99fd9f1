-- What the local server of a host makes of its messages. This simulator's own, after the servers of Graphite (HPCA
-- 2010).
use Rattle.std.specs.Prelude.{ℕ, ◌≡◌, ◌-◌, ◌==◌, Bool, true, false, List, [], ◌∷◌, ◌++◌, filter, if◌then◌else◌, Result, Ok, Err}
use Rattle.std.specs.BTreeSet.{insert_key}
use Rattle.std.specs.List.{range_with_len}
use Rattle.std.specs.Ordering.{nat_cmp}
use Rattle.sim_base.specs.declared.memory.NoMemory.{NoMemory}
use Rattle.sim_base.specs.declared.settings.Config.{Config}
use Rattle.sim_base.specs.Numbering.{control_node, local_node, host_of}
use Rattle.wire_msg.specs.declared.messages.Msg.{Msg}
use Rattle.wire_msg.specs.declared.messages.Msg.TheVariants.{Start, Exit}
use Rattle.wire_msg.specs.Message.{may_send}

-- messages with their receivers, in the order of sending
abbrev pub Mail : Type 0
Mail = List (ℕ × Msg)

-- a local server: its host, the host's idle tiles, ascending, and whether it is spent, as it is once memory ran out
-- in a call
pub record LocalServer : Type 0 where
  pub host : ℕ
  pub idle : List ℕ
  pub spent : Bool

-- before the program runs all tiles of the host are idle but tile 0, where the program's first thread is
unfoldable pub first_idle : Config → ℕ → List ℕ
first_idle c host = filter (λ tile. host_of c tile == host) (range_with_len 1 (c.tiles - 1))

abbrev pub start_local : Config → ℕ → LocalServer
start_local c host = record { host = host; idle = first_idle c host; spent = false }

-- a tile is idle from now on, at its place in the order
abbrev pub with_tile : ℕ → List ℕ → List ℕ
with_tile tile idle = insert_key nat_cmp idle tile

-- what the server makes of a message: the idle tiles, and what it sends
pub record Made : Type 0 where
  pub idle : List ℕ
  pub mail : Mail

abbrev pub unchanged : List ℕ → Made
unchanged idle = record { idle = idle; mail = [] }

-- a start goes on to the lowest idle tile, which is then busy. Where none is idle it is dropped
abbrev pub started : Msg → List ℕ → Made
started msg [] = unchanged []
started msg (tile ∷ tiles) = record { idle = tiles; mail = (tile, msg) ∷ [] }

-- an exit makes its tile idle, and goes on to the control server
abbrev pub exited : Config → ℕ → Msg → List ℕ → Made
exited c tile msg idle = record { idle = with_tile tile idle; mail = (control_node c, msg) ∷ [] }

-- each message
abbrev pub received : Config → ℕ → Msg → List ℕ → Made
received c from (Start thread entry arg time limit) idle = started (Start thread entry arg time limit) idle
received c from (Exit thread code time) idle = exited c from (Exit thread code time) idle
received c from _ idle = unchanged idle

-- a message from a node that may not send it changes nothing
abbrev pub delivered : Config → ℕ → List ℕ → ℕ → Msg → Made
delivered c host idle from msg = if may_send c from (local_node c host) msg then received c from msg idle else unchanged idle

-- what a delivery answers: Ok with that made and sent, where the server isn't spent; after want of memory it is spent,
-- and nothing is said of what was sent
abbrev pub Answers : Result (Unit {0}) NoMemory → LocalServer → LocalServer → Mail → Mail → Made → Type 0
Answers (Ok done) old new out_old out_new made =
    (old.spent ≡ false) × (new ≡ record old { idle = made.idle }) × (out_new ≡ out_old ++ made.mail)
Answers (Err e) old new out_old out_new made = (new.spent ≡ true) × (new.host ≡ old.host)
