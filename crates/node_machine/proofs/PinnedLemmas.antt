-- How many steps of a node are made one after the other: where one more could be made, they aren't all.
use Rattle.std.proofs.Common.{◌≡◌, ℕ, zero, suc, ◌+◌, ◌-◌, ◌<◌, true, refl, sym, ap, ◌∙◌, arith, eq-eqb, inl, inr}
use Rattle.std.specs.Prelude.{◌&&◌, nat_lt}
use Rattle.std.proofs.lemmas.Bool.{and_parts, ltb-true, cases_lt}
use Rattle.sim_base.specs.Numbering.{node_count}
use Rattle.elf_image.specs.Layout.{Setup}
use Rattle.wire_msg.specs.declared.messages.Msg.{Msg}
use Rattle.event_journal.specs.declared.events.Event.TheVariants.{Step}
use Rattle.event_journal.specs.State.{State, put}
use Rattle.event_journal.specs.Run.{IsRun, happens}
use Rattle.node_machine.specs.declared.nodes.Node.{Node}
use Rattle.node_machine.specs.Machine.{can_step, node_step, rules}
use Rattle.node_machine.specs.Core.{CoreData}
use Rattle.node_machine.specs.Alone.{stepped, steps_of, AreMade, StepsArePinned}
use Rattle.node_machine.proofs.AloneRuns.{own_node, stepped_first}

-- in a run of a node's steps, after so many of them the node can step, and has room for one more event
record CanGoOn (w : Setup) (node k : ℕ) (s : State Node Msg) : Type 0 where
  can : can_step (stepped w (s.node node) k) ≡ true
  room : s.made node + k < w.config.events

own_count : (f : ℕ → ℕ) (k x : ℕ) → put f k x k ≡ x
own_count f k x = rw (eq-eqb k k refl) refl

can_go_on : (w : Setup) (node k n : ℕ) (s : State Node Msg) → k < n → IsRun (rules w) (node_count w.config) s (steps_of node n) → CanGoOn w node k s
unfolding stepped steps_of
can_go_on w node k zero s less run = absurd (omega (arith, less))
can_go_on w node zero (suc n) s less run =
    let inner = (and_parts (nat_lt node (node_count w.config)) (nat_lt (s.made node) w.config.events && can_step (s.node node)) run.0).1 in
    let parts = and_parts (nat_lt (s.made node) w.config.events) (can_step (s.node node)) inner in
    record { can = parts.1; room = omega (arith, ltb-true (s.made node) w.config.events parts.0) }
can_go_on w node (suc k) (suc n) s less run =
    let next : State Node Msg = happens (rules w) s (Step node) in
    let rest : CanGoOn w node k next = can_go_on w node k n next (omega (arith, less)) run.1 in
    let there : next.node node ≡ (node_step w (s.node node)).node = own_node s.node node (node_step w (s.node node)).node in
    let count : next.made node ≡ s.made node + 1 = own_count s.made node (s.made node + 1) in
    record {
      can = ap can_step (stepped_first w (s.node node) k ∙ ap (λ x. stepped w x k) (sym there)) ∙ rest.can;
      room = omega (arith, count, rest.room);
    }

-- fewer steps than could be made aren't all
not_fewer : (w : Setup) (node n m : ℕ) (new other : CoreData) (s : State Node Msg) → AreMade w node n new s → AreMade w node m other s → n < m → ⊥
not_fewer w node n m new other s some all less =
    let on : CanGoOn w node n s = can_go_on w node n m s less all.run in
    let is_tile : node < w.config.tiles = all.tile (omega (arith, less, some.some)) in
    let full : s.made node + n ≡ w.config.events = some.all is_tile (all.quiet (n - 1) (omega (arith, less, some.some))) on.can in
    omega (arith, full, on.room)

pub steps_are_pinned : StepsArePinned
steps_are_pinned w node n m new other s some all = elim (cases_lt n m) [
  | inl less ↦ absurd (not_fewer w node n m new other s some all less)
  | inr rest ↦ elim (cases_lt m n) [
    | inl more ↦ absurd (not_fewer w node m n other new s all some more)
    | inr same ↦ omega (arith, rest, same)
  ]
]
