-- One line at its home: an MSI directory protocol with busy states, after the full-map directories of Graphite
-- (HPCA 2010). Nodes are numbers; a set of nodes is the list of them, ascending. Delays stand beside the protocol:
-- a home keeps the one that was fixed when its last transaction began, and every line of data goes out with it.
use Rattle.std.specs.Prelude.{ℕ, ◌==◌, Bool, true, false, List, [], ◌∷◌, map, if◌then◌else◌, Option, Some, None}
use Rattle.sim_base.specs.declared.lines.LineData.{LineData}
use Rattle.wire_msg.specs.declared.lines.Want.{Want}
use Rattle.wire_msg.specs.declared.lines.Want.TheVariants.{Read, Write}
use Rattle.wire_msg.specs.declared.lines.Up.{Up}
use Rattle.wire_msg.specs.declared.lines.Up.TheVariants.{Asks, GivesUp, Acknowledges, HandsOver}
use Rattle.node_set.specs.NodeSet.{with_node, without}

-- a request for a line: the node that asks, and what it wants the line for
pub record Request : Type 0 where
  pub from : ℕ
  pub want : Want

-- who holds a line, and which transaction is under way: nobody; these nodes, to read; one node, to write; a writer
-- waits until the rest of these nodes have dropped their copies; a reader or a writer waits until the owner, named last,
-- has shared the line or given it up
pub data State : Type 0 where
  Uncached : State
  Shared : List ℕ → State
  Modified : ℕ → State
  BusyInv : ℕ → List ℕ → State
  BusyFetch : Want → ℕ → ℕ → State

-- what a home sends: to drop a copy; to give a line up, for a reader (it stays in S) or for a writer; the line, to
-- read or to write
pub data Sent : Type 0 where
  drop_copy : ℕ → Sent
  fetch : Want → ℕ → Sent
  give : Want → ℕ → Sent

-- what a row of the directory's table gives: the next state, and what is sent, in order
pub record Row : Type 0 where
  pub state : State
  pub sent : List Sent

-- nothing changes, and nothing is sent
abbrev pub same : State → Row
same state = record { state = state; sent = [] }

-- the line goes to a reader or to a writer
abbrev pub given : State → Want → ℕ → Row
given state want to = record { state = state; sent = give want to ∷ [] }

-- whether a transaction is under way
abbrev pub is_busy : State → Bool
is_busy (BusyInv requester left) = true
is_busy (BusyFetch want requester owner) = true
is_busy _ = false

-- the rows for requests, which are served only while no transaction is under way

-- a writer among sharers: the others drop their copies first
abbrev pub invalidate : ℕ → List ℕ → Row
invalidate r [] = given (Modified r) Write r
invalidate r (x ∷ xs) = record { state = BusyInv r (x ∷ xs); sent = map drop_copy (x ∷ xs) }

abbrev pub request_row : State → Want → ℕ → Row
request_row Uncached Read r = given (Shared (r ∷ [])) Read r
request_row Uncached Write r = given (Modified r) Write r
request_row (Shared sharers) Read r = given (Shared (with_node r sharers)) Read r
request_row (Shared sharers) Write r = invalidate r (without r sharers)
request_row (Modified owner) want r = record { state = BusyFetch want r owner; sent = fetch want owner ∷ [] }
request_row busy want r = same busy

-- the rows for answers; none where the table has no row

-- a copy was dropped; when the last one is, the writer gets the line
abbrev pub acked_by : ℕ → List ℕ → Row
acked_by r [] = given (Modified r) Write r
acked_by r (x ∷ xs) = same (BusyInv r (x ∷ xs))

abbrev pub ack_row : State → ℕ → Option Row
ack_row (BusyInv r left) s = Some (acked_by r (without s left))
ack_row _ s = None

-- the owner answers a fetch: a reader shares the line with it, a writer gets it alone
abbrev pub fetched_by : Want → ℕ → ℕ → Row
fetched_by Read r owner = given (Shared (with_node r (owner ∷ []))) Read r
fetched_by Write r owner = given (Modified r) Write r

abbrev pub fetch_row : State → ℕ → Option Row
fetch_row (BusyFetch want r owner) s = if s == owner then Some (fetched_by want r owner) else None
fetch_row _ s = None

-- the owner gives the line up by itself, perhaps while it is asked for it
abbrev pub put_by : Want → ℕ → Row
put_by Read r = given (Shared (r ∷ [])) Read r
put_by Write r = given (Modified r) Write r

abbrev pub put_row : State → ℕ → Option Row
put_row (Modified owner) s = if s == owner then Some (same Uncached) else None
put_row (BusyFetch want r owner) s = if s == owner then Some (put_by want r) else None
put_row _ s = None

-- the row for what a node tells the home, where that is an answer
abbrev pub answer_row : State → ℕ → Up → Option Row
answer_row state s Acknowledges = ack_row state s
answer_row state s (HandsOver content) = fetch_row state s
answer_row state s (GivesUp content) = put_row state s
answer_row state s (Asks want) = None

-- the home's memory then: the data that the answer brings, if it brings any
abbrev pub memory_after : Up → LineData → LineData
memory_after (HandsOver content) memory = content
memory_after (GivesUp content) memory = content
memory_after _ memory = memory

-- the nodes that the state waits for, which have to give up or share the line
abbrev pub awaited : State → List ℕ
awaited (BusyInv r left) = left
awaited (BusyFetch want r owner) = owner ∷ []
awaited _ = []

-- a line at its home: its state; the home's memory; the requests that wait, in order of arrival; and the delay
-- that was fixed when the last transaction began
pub record Home : Type 0 where
  pub state : State
  pub memory : LineData
  pub waiting : List Request
  pub delay : ℕ

-- a line of which nothing was ever heard
abbrev pub fresh : LineData → Home
fresh memory = record { state = Uncached; memory = memory; waiting = []; delay = 0 }
