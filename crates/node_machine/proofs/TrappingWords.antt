-- What is known of traps: of each one that a message tells of, a request asks to serve, or an end says.
use Rattle.std.proofs.Common.{ℕ, Bool, true, false, List, [], ◌∷◌, Some}
use Rattle.std.proofs.lemmas.List.Elements.{All-nil, All-cons, All-weaker}
use Rattle.std.specs.Prelude.{Option, All, slice_index_or, if◌then◌else◌}
use Rattle.sim_base.specs.declared.ends.Cause.{Cause}
use Rattle.sim_base.specs.declared.ends.End.{End}
use Rattle.sim_base.specs.declared.ends.End.TheVariants.{Trap as TrapEnd}
use Rattle.wire_msg.specs.declared.messages.Msg.{Msg}
use Rattle.wire_msg.specs.declared.messages.Msg.TheVariants.{Trapped}
use Rattle.serving.specs.declared.control_data.Request.{Request}
use Rattle.serving.specs.declared.control_data.Request.TheVariants.{Trap}
use Rattle.control_server.specs.Control.{Waiting, Control}

-- a fact about a trap, by its thread, its cause and its pc
abbrev pub TrapFact : Type 1
TrapFact = ℕ → Cause → ℕ → Type 0

-- of each trap the first implies the second
abbrev pub Implies : TrapFact → TrapFact → Type 0
Implies K L = (thread : ℕ) (cause : Cause) (pc : ℕ) → K thread cause pc → L thread cause pc

-- of a message, and of one with its receiver; of a request of a thread, and of one that waits; of an end
abbrev pub Tells : TrapFact → Msg → Type 0
Tells K (Trapped thread cause pc) = K thread cause pc
Tells K _ = Unit {0}

abbrev pub Mails : TrapFact → ℕ × Msg → Type 0
Mails K m = Tells K m.1

abbrev pub Asks : TrapFact → ℕ → Request → Type 0
Asks K thread (Trap cause pc) = K thread cause pc
Asks K thread _ = Unit {0}

abbrev pub Waits : TrapFact → Waiting → Type 0
Waits K q = Asks K q.thread q.request

abbrev pub Ends : TrapFact → Option End → Type 0
Ends K (Some (TrapEnd thread cause pc)) = K thread cause pc
Ends K _ = Unit {0}

-- of a control server: of the requests that wait, and of its end
pub record Keeps (K : TrapFact) (c : Control) : Type 0 where
  pub backlog : All (Waits K) c.backlog
  pub ended : Ends K c.control.ended

-- where one fact is known, each one that it implies is

pub tells_weaker : (K L : TrapFact) → Implies K L → (msg : Msg) → Tells K msg → Tells L msg
tells_weaker K L implied (Trapped thread cause pc) known = implied thread cause pc known
tells_weaker K L implied _ known = tt

asks_weaker : (K L : TrapFact) → Implies K L → (thread : ℕ) (request : Request) → Asks K thread request → Asks L thread request
asks_weaker K L implied thread (Trap cause pc) known = implied thread cause pc known
asks_weaker K L implied thread _ known = tt

ends_weaker : (K L : TrapFact) → Implies K L → (end : Option End) → Ends K end → Ends L end
ends_weaker K L implied (Some (TrapEnd thread cause pc)) known = implied thread cause pc known
ends_weaker K L implied _ known = tt

pub keeps_weaker : (K L : TrapFact) → Implies K L → (c : Control) → Keeps K c → Keeps L c
keeps_weaker K L implied c keeps = record {
  backlog = All-weaker (Waits K) (Waits L) (λ q known. asks_weaker K L implied q.thread q.request known) c.backlog keeps.backlog;
  ended = ends_weaker K L implied c.control.ended keeps.ended;
}

-- lists

-- what holds of everything
pub all_of : {X : Type 0} (P : X → Type 0) → ((x : X) → P x) → (xs : List X) → All P xs
all_of P each xs = λ k d below. each (slice_index_or xs k d)

pub all_if : {X : Type 0} (P : X → Type 0) (b : Bool) (xs ys : List X) → All P xs → All P ys → All P (if b then xs else ys)
all_if P true xs ys one other = one
all_if P false xs ys one other = other

pub no_mail : (K : TrapFact) → All (Mails K) []
no_mail K = All-nil (Mails K)

pub one_mail : (K : TrapFact) (node : ℕ) (msg : Msg) → Tells K msg → All (Mails K) ((node, msg) ∷ [])
one_mail K node msg known = All-cons (Mails K) (node, msg) [] known (All-nil (Mails K))
