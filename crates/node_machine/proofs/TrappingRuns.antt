-- Why a run ended by a trap: what is known of traps is known after each event, where it adds the traps that the event is.
use Rattle.std.proofs.Common.{◌≡◌, ℕ, Bool, true, false, List, [], ◌∷◌, ◌++◌, Some, None, refl, ap, ◌∙◌, subst, inl, inr}
use Rattle.std.proofs.lemmas.List.Elements.{All-nil, All-head, All-tail, All-append, All-filter, All-map, All-weaker}
use Rattle.std.specs.Prelude.{Option, All, ◌⊎◌, ◌==◌, nat_lt, filter, if◌then◌else◌}
use Rattle.sim_base.specs.declared.ends.Cause.{Cause}
use Rattle.sim_base.specs.declared.ends.End.{End}
use Rattle.sim_base.specs.declared.ends.End.TheVariants.{Trap as TrapEnd}
use Rattle.sim_base.specs.Numbering.{control_node}
use Rattle.elf_image.specs.Layout.{Setup}
use Rattle.wire_msg.specs.declared.messages.Msg.{Msg}
use Rattle.tile_node.specs.Tile.{Tile as TileData, Act as TileAct}
use Rattle.tile_node.specs.Step.{tile_step}
use Rattle.event_journal.specs.declared.events.Event.{Event}
use Rattle.event_journal.specs.declared.events.Event.TheVariants.{Step, Deliver}
use Rattle.event_journal.specs.State.{State, messages_to, changed, with_queue}
use Rattle.event_journal.specs.Run.{delivered, happens, after}
use Rattle.node_machine.specs.declared.nodes.Node.{Node}
use Rattle.node_machine.specs.declared.nodes.Node.TheVariants.{Tile, Control, Local}
use Rattle.node_machine.specs.Machine.{Act, node_step, node_delivered, change_of, rules, start_state}
use Rattle.node_machine.specs.Reading.{ended_of_node}
use Rattle.node_machine.specs.End.{end_of, end_by, budget_end, is_used_up}
use Rattle.node_machine.specs.Trapping.{IsTrappingStep, IsTrapping, HasTrapped, TrapHasCause}
use Rattle.node_machine.proofs.TrappingWords.{TrapFact, Implies, Tells, Mails, Ends, Keeps, tells_weaker, keeps_weaker, all_if, no_mail}
use Rattle.node_machine.proofs.TrappingTiles.{Traps, step_mails, delivered_silent}
use Rattle.node_machine.proofs.TrappingServers.{control_steps, control_takes, local_mail}

-- a state in which every trap that a message tells, a request of the control server asks to serve or its end says is known

abbrev pub NodeKeeps : TrapFact → Node → Type 0
NodeKeeps K (Control control) = Keeps K control
NodeKeeps K _ = Unit {0}

pub record Knows (K : TrapFact) (s : State Node Msg) : Type 0 where
  pub node : (k : ℕ) → NodeKeeps K (s.node k)
  pub queue : (from to : ℕ) → All (Tells K) (s.queue from to)

node_weaker : (K L : TrapFact) → Implies K L → (n : Node) → NodeKeeps K n → NodeKeeps L n
node_weaker K L implied (Control control) keeps = keeps_weaker K L implied control keeps
node_weaker K L implied _ keeps = tt

knows_weaker : (K L : TrapFact) → Implies K L → (s : State Node Msg) → Knows K s → Knows L s
knows_weaker K L implied s knows = record {
  node = λ k. node_weaker K L implied (s.node k) (knows.node k);
  queue = λ from to. All-weaker (Tells K) (Tells L) (tells_weaker K L implied) (s.queue from to) (knows.queue from to);
}

-- what an event changes

node_if : (K : TrapFact) (b : Bool) (x y : Node) → NodeKeeps K x → NodeKeeps K y → NodeKeeps K (if b then x else y)
node_if K true x y one other = one
node_if K false x y one other = other

messages_tell : (K : TrapFact) (node : ℕ) (sent : List (ℕ × Msg)) → All (Mails K) sent → All (Tells K) (messages_to node sent)
messages_tell K node sent all =
    All-map (Tells K) (λ (m : ℕ × Msg). m.1) (filter (λ m. m.0 == node) sent) (All-filter (λ (m : ℕ × Msg). m.0 == node) (Mails K) sent all)

-- an act that keeps and sends only what is known
record ActKnows (K : TrapFact) (act : Act) : Type 0 where
  node : NodeKeeps K act.node
  sent : All (Mails K) act.sent

changed_knows : (K : TrapFact) (s : State Node Msg) (k : ℕ) (act : Act) → Knows K s → ActKnows K act → Knows K (changed s k (change_of act))
changed_knows K s k act knows new = record {
  node = λ i. node_if K (i == k) act.node (s.node i) new.node (knows.node i);
  queue = λ from to.
      all_if (Tells K) (from == k) (s.queue from to ++ messages_to to act.sent) (s.queue from to)
      (All-append (Tells K) (s.queue from to) (messages_to to act.sent) (knows.queue from to) (messages_tell K to act.sent new.sent)) (knows.queue from to);
}

with_queue_knows : (K : TrapFact) (s : State Node Msg) (i k : ℕ) (messages : List Msg) → Knows K s → All (Tells K) messages → Knows K (with_queue s i k messages)
with_queue_knows K s i k messages knows all = record {
  node = knows.node;
  queue = λ from to.
      all_if (Tells K) (from == i) (if to == k then messages else s.queue from to) (s.queue from to)
      (all_if (Tells K) (to == k) messages (s.queue from to) all (knows.queue from to)) (knows.queue from to);
}

-- a delivery adds nothing

takes : (K : TrapFact) (w : Setup) (n : Node) (from : ℕ) (msg : Msg) → NodeKeeps K n → Tells K msg → ActKnows K (node_delivered w n from msg)
takes K w (Tile tile) from msg keeps told = record { node = tt; sent = delivered_silent K w tile from msg }
takes K w (Control control) from msg keeps told = let act = control_takes K w control from msg keeps told in record { node = act.control; sent = act.mail }
takes K w (Local local) from msg keeps told = record { node = tt; sent = local_mail K w.config local.host local.idle from msg }

delivered_knows : (K : TrapFact) (w : Setup) (s : State Node Msg) (from node : ℕ) (messages : List Msg) → Knows K s → All (Tells K) messages → Knows K (delivered (rules w) s from node messages)
delivered_knows K w s from node [] knows all = knows
delivered_knows K w s from node (msg ∷ messages) knows all =
    changed_knows K (with_queue s from node messages) node (node_delivered w (s.node node) from msg)
    (with_queue_knows K s from node messages knows (All-tail (Tells K) msg messages all))
    (takes K w (s.node node) from msg (knows.node node) (All-head (Tells K) msg messages all))

-- what is known after an event: what was, and the trap that the event is
abbrev Then : TrapFact → Setup → State Node Msg → Event → TrapFact
Then K w s event thread cause pc = K thread cause pc ⊎ IsTrapping w s event thread cause pc

-- a step of a tile adds the trap that it commits

trap_is_step : (w : Setup) (s : State Node Msg) (node : ℕ) (tile : TileData) → s.node node ≡ Tile tile → (thread : ℕ) (cause : Cause) (pc : ℕ) → Traps w tile (tile_step w tile).action thread cause pc → IsTrappingStep w s node thread cause pc
trap_is_step w s node tile here thread cause pc e = record {
  tile = tile;
  here = here;
  thread_runs = e.thread_runs;
  pc_is = e.pc_is;
  traps = e.traps;
  commits = ap (λ n. (node_step w n).action) here ∙ e.commits;
}

steps : (K : TrapFact) (w : Setup) (s : State Node Msg) (node : ℕ) (n : Node) → s.node node ≡ n → NodeKeeps (Then K w s (Step node)) n → ActKnows (Then K w s (Step node)) (node_step w n)
steps K w s node (Tile tile) here keeps =
    let L : TrapFact = Then K w s (Step node) in
    let act : TileAct = tile_step w tile in
    let T : TrapFact = Traps w tile act.action in
    record {
      node = tt;
      sent = (All-weaker (Mails T) (Mails L) (λ m told. tells_weaker T L (λ thread cause pc e. inr (trap_is_step w s node tile here thread cause pc e)) m.1 told) act.mail (step_mails w tile));
    }
steps K w s node (Control control) here keeps = let act = control_steps (Then K w s (Step node)) w control keeps in record { node = act.control; sent = act.mail }
steps K w s node (Local local) here keeps = record { node = tt; sent = no_mail (Then K w s (Step node)) }

event_knows : (K : TrapFact) (w : Setup) (s : State Node Msg) (event : Event) → Knows (Then K w s event) s → Knows (Then K w s event) (happens (rules w) s event)
event_knows K w s (Step node) knows = changed_knows (Then K w s (Step node)) s node (node_step w (s.node node)) knows (steps K w s node (s.node node) refl (knows.node node))
event_knows K w s (Deliver from node) knows = delivered_knows (Then K w s (Deliver from node)) w s from node (s.queue from node) knows (knows.queue from node)

happens_knows : (K : TrapFact) (w : Setup) (s : State Node Msg) (event : Event) → Knows K s → Knows (Then K w s event) (happens (rules w) s event)
happens_knows K w s event knows = event_knows K w s event (knows_weaker K (Then K w s event) (λ thread cause pc known. inl known) s knows)

-- the end, and the start

node_ends : (K : TrapFact) (n : Node) → NodeKeeps K n → Ends K (ended_of_node n)
node_ends K (Control control) keeps = keeps.ended
node_ends K _ keeps = tt

budget_ends : (K : TrapFact) (used_up : Bool) → Ends K (budget_end used_up)
budget_ends K true = tt
budget_ends K false = tt

state_ends : (K : TrapFact) (end : Option End) (used_up : Bool) → Ends K end → Ends K (end_by end used_up)
state_ends K (Some end) used_up known = known
state_ends K None used_up known = budget_ends K used_up

ends_known : (K : TrapFact) (w : Setup) (s : State Node Msg) (thread : ℕ) (cause : Cause) (pc : ℕ) → Knows K s → end_of w s ≡ Some (TrapEnd thread cause pc) → K thread cause pc
ends_known K w s thread cause pc knows ended =
    let n : Node = s.node (control_node w.config) in
    subst (Ends K) ended (state_ends K (ended_of_node n) (is_used_up w s) (node_ends K n (knows.node (control_node w.config))))

abbrev Nothing : TrapFact
Nothing thread cause pc = ⊥

starts : (w : Setup) → Knows Nothing (start_state w)
starts w = record {
  node = λ k.
      node_if Nothing (nat_lt k w.config.tiles) _ _ tt
      (node_if Nothing (k == control_node w.config) _ _ (record { backlog = All-nil _; ended = tt }) tt);
  queue = λ from to. All-nil (Tells Nothing);
}

-- the law

run_ends : (K : TrapFact) (w : Setup) (s : State Node Msg) (events : List Event) (thread : ℕ) (cause : Cause) (pc : ℕ) → Knows K s
    → end_of w (after (rules w) s events) ≡ Some (TrapEnd thread cause pc) → K thread cause pc ⊎ HasTrapped w s events thread cause pc
run_ends K w s [] thread cause pc knows ended = inl (ends_known K w s thread cause pc knows ended)
run_ends K w s (event ∷ events) thread cause pc knows ended =
    elim (run_ends (Then K w s event) w (happens (rules w) s event) events thread cause pc (happens_knows K w s event knows) ended) [
      | inl (inl known) ↦ inl known
      | inl (inr now) ↦ inr (inl now)
      | inr later ↦ inr (inr later)
    ]

pub trap_has_cause : TrapHasCause
trap_has_cause w events thread cause pc run ended = elim (run_ends Nothing w (start_state w) events thread cause pc (starts w) ended) [
  | inl nothing ↦ absurd nothing
  | inr trapped ↦ trapped
]
