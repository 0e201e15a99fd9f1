-- A delivery to a tile of a message about no line follows the flat machine.
use Rattle.std.proofs.Common.{◌≡◌, ℕ, ◌<◌, ◌&&◌, Bool, true, false, refl, sym, ap, ◌∙◌, arith, subst}
use Rattle.std.proofs.lemmas.Bool.Decides.{nat_tests}
use Rattle.std.specs.Prelude.{nat_lt}
use Rattle.sim_base.specs.Numbering.{node_count, control_node}
use Rattle.wire_msg.specs.declared.messages.Msg.{Msg}
use Rattle.tile_node.specs.Tile.{Act}
use Rattle.tile_node.specs.Deliver.{tile_delivered}
use Rattle.event_journal.specs.declared.events.Event.TheVariants.{Deliver}
use Rattle.event_journal.specs.State.{State, changed, with_queue}
use Rattle.event_journal.specs.Run.{delivered, happens}
use Rattle.node_machine.specs.declared.nodes.Node.{Node}
use Rattle.node_machine.specs.declared.nodes.Node.TheVariants.{Tile}
use Rattle.node_machine.specs.Machine.{rules, start_state, node_delivered, change_of, of_tile}
use Rattle.node_machine.specs.Commits.{event_action, delivery_action}
use Rattle.coherence_laws.specs.Laws.{reached, line_value}
use Rattle.coherence_laws.proofs.Events.{values_after}
use Rattle.coherence_laws.proofs.Holds.{IsNodeOf}
use Rattle.agreement_laws.specs.Parts.{TileDeliveriesFollow}
use Rattle.agreement_laws.proofs.LocalStep.{above, node_other}
use Rattle.agreement_laws.proofs.Stand.{Made}
use Rattle.agreement_laws.proofs.Whole.{All}
use Rattle.agreement_laws.proofs.Delivered.{after_act, Heard, deliver_heard}
use Rattle.agreement_laws.proofs.Following.{last_happens, run_all, follows_so}

sender_below : (i count : ℕ) (b : Bool) → (nat_lt i count && b) ≡ true → i < count
sender_below i count b e = by_test (nat_lt i count) refl e where
  by_test : (d : Bool) → nat_lt i count ≡ d → (d && b) ≡ true → i < count
  by_test true is e = grind (arith, nat_tests)
  by_test false is e = cc

pub tile_deliveries_follow : TileDeliveriesFollow
tile_deliveries_follow w events i x t msg rest f checked run is waits none whole =
    let last = last_happens (rules w) (node_count w.config) (start_state w) events (Deliver i x) run in
    let s : State Node Msg = reached w events in
    let a : All w s (line_value w events) f = run_all w events f checked last.run whole in
    let node : IsNodeOf w x (Tile t) = subst (IsNodeOf w x) is (a.sound.nodes x) in
    let below : i < node_count w.config = sender_below i (node_count w.config) _ last.can in
    let act : Act = tile_delivered w t i msg in
    let s' : State Node Msg = after_act s i x rest act in
    let same : happens (rules w) s (Deliver i x) ≡ s' = ap (λ q. delivered (rules w) s i x q) waits ∙ ap (λ n. changed (with_queue s i x rest) x (change_of (node_delivered w n i msg))) is in
    let heard : Heard w s (line_value w events) f a i x rest act = deliver_heard a i x t msg rest node.0 is node.1 below waits none in
    let commits : event_action w s (Deliver i x) ≡ act.action = ap (λ q. delivery_action w (s.node x) i q) waits ∙ ap (λ n. (node_delivered w n i msg).action) is in
    follows_so w events (Deliver i x) f s' a.whole.server a same (node_other (with_queue s i x rest) x (change_of (of_tile act)) (control_node w.config) (above w.config.tiles x node.0) ∙ a.whole.is_server) a.whole.orderly heard.held
    (subst (λ o. Made w s' a.whole.server f (values_after w s (Deliver i x) (line_value w events)) o) (sym commits) heard.made)
