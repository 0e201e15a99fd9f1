-- What is made of a state by an event that was made of a core.
use Rattle.std.proofs.Common.{◌≡◌, ℕ, ◌+◌, ◌<◌, true, List, [], ◌∷◌, length, refl, sym, ap, subst, ◌∙◌, arith}
use Rattle.std.specs.Prelude.{Option, Some, not, nat_lt, slice_get, slice_index, slice_set}
use Rattle.std.proofs.lemmas.Bool.{and_parts}
use Rattle.std.proofs.lemmas.Bool.Decides.{nat_tests}
use Rattle.std.proofs.lemmas.Option.{same_Some, slice_get_within}
use Rattle.sim_base.specs.declared.actions.Action.{Action}
use Rattle.sim_base.specs.Numbering.{node_count}
use Rattle.elf_image.specs.Layout.{Setup}
use Rattle.wire_msg.specs.declared.messages.Msg.{Msg}
use Rattle.event_journal.specs.declared.events.Event.{Event}
use Rattle.event_journal.specs.declared.events.Event.TheVariants.{Step, Deliver}
use Rattle.event_journal.specs.Event.{acting_node}
use Rattle.event_journal.specs.State.{State, is_empty, with_queue}
use Rattle.event_journal.specs.Run.{can_happen, delivered}
use Rattle.node_machine.specs.declared.nodes.Node.{Node}
use Rattle.node_machine.specs.Pending.{PendingData, queue_in, with_messages, with_rest}
use Rattle.node_machine.specs.Machine.{node_step, node_delivered, rules}
use Rattle.node_machine.specs.Commits.{delivery_action}
use Rattle.node_machine.specs.Core.{CoreData, Shows, IsCore, IsMade, is_enabled_in}
use Rattle.node_machine.specs.Inner.{event_act, inboxes_left, IsDone}
use Rattle.node_machine.proofs.MailLemmas.{with_rest_is}
use Rattle.node_machine.proofs.MadeLemmas.{changed_shows, rest_shows}
use Rattle.node_machine.proofs.ShownLemmas.{reads}

module _ (w : Setup) (core new : CoreData) (s : State Node Msg) (action : Option Action) (before after : PendingData) (node : Node)
    (is : IsCore w core) (shows : Shows core s) (here : before.inboxes ≡ core.inboxes) (there : new.inboxes ≡ after.inboxes) where
  step_made : (k : ℕ) → slice_get core.nodes k ≡ Some node → is_enabled_in core (Step k) ≡ true
      → IsDone w (Step k) node action core.nodes new.nodes before after
      → new.made ≡ slice_set core.made k (slice_index core.made k + 1)
      → IsMade w (Step k) action core new s
  step_made k at enabled done made =
      let low : k < node_count w.config = subst (λ n. k < n) is.nodes (slice_get_within core.nodes k node at) in
      let is_node : node ≡ s.node k = same_Some node (s.node k) (sym at ∙ shows.node k (slice_get_within core.nodes k node at)) in
      record {
        enabled = sym ((reads w core s is shows).enabled (Step k)) ∙ enabled;
        shows = changed_shows (node_count w.config) core new s is.inboxes is.nodes is.made shows k (node_step w (s.node k)) low
            (done.nodes ∙ ap (λ n. slice_set core.nodes k (node_step w n).node) is_node)
            (there ∙ done.inboxes ∙ ap (λ boxes. with_messages k (node_step w node).sent boxes) here ∙ ap (λ n. with_messages k (node_step w n).sent core.inboxes) is_node)
            made;
        commits = done.commits ∙ ap (λ n. (node_step w n).action) is_node;
      }

  taken_made : (from k : ℕ) (queue : List Msg) → s.queue from k ≡ queue → slice_get core.nodes k ≡ Some node → from < node_count w.config
      → not (is_empty queue) ≡ true → can_happen (rules w) (node_count w.config) s (Deliver from k) ≡ true
      → IsDone w (Deliver from k) node action core.nodes new.nodes before after
      → new.made ≡ slice_set core.made k (slice_index core.made k + 1)
      → IsMade w (Deliver from k) action core new s
  taken_made from k [] waits at sender some enabled done made = cc (some)
  taken_made from k (msg ∷ rest) waits at sender some enabled done made =
      let within : k < length core.nodes = slice_get_within core.nodes k node at in
      let low : k < node_count w.config = subst (λ n. k < n) is.nodes within in
      let is_node : node ≡ s.node k = same_Some node (s.node k) (sym at ∙ shows.node k within) in
      let queue : queue_in before.inboxes from k ≡ msg ∷ rest =
      ap (λ boxes. queue_in boxes from k) here ∙ shows.queue from k (subst (λ n. from < n) (sym is.nodes) sender) within ∙ waits in
      let act : event_act w (Deliver from k) node before.inboxes ≡ node_delivered w (s.node k) from msg =
      rw (queue, is_node) refl in
      let left : inboxes_left (Deliver from k) before.inboxes ≡ with_rest from k rest core.inboxes =
      rw (queue, here) refl in
      let mid : CoreData = record core { inboxes = with_rest from k rest core.inboxes } in
      let mid_shows : Shows mid (with_queue s from k rest) =
      rest_shows (node_count w.config) core mid s is.inboxes is.nodes is.made shows from k rest refl in
      let made_of : Shows new (delivered (rules w) s from k (msg ∷ rest)) =
      changed_shows (node_count w.config) mid new (with_queue s from k rest) (with_rest_is (node_count w.config) core.inboxes from k rest is.inboxes) is.nodes is.made mid_shows
      k (node_delivered w (s.node k) from msg) low
      (done.nodes ∙ ap (λ a. slice_set core.nodes k a.node) act)
      (there ∙ done.inboxes ∙ ap (λ a. with_messages k a.sent (inboxes_left (Deliver from k) before.inboxes)) act
      ∙ ap (with_messages k (node_delivered w (s.node k) from msg).sent) left)
      made in
      record {
        enabled = enabled;
        shows = subst (λ q. Shows new (delivered (rules w) s from k q)) (sym waits) made_of;
        commits = done.commits ∙ ap (λ a. a.action) act ∙ ap (delivery_action w (s.node k) from) (sym waits);
      }

  delivery_made : (from k : ℕ) → slice_get core.nodes k ≡ Some node → is_enabled_in core (Deliver from k) ≡ true
      → IsDone w (Deliver from k) node action core.nodes new.nodes before after
      → new.made ≡ slice_set core.made k (slice_index core.made k + 1)
      → IsMade w (Deliver from k) action core new s
  delivery_made from k at enabled done made =
      let can : can_happen (rules w) (node_count w.config) s (Deliver from k) ≡ true = sym ((reads w core s is shows).enabled (Deliver from k)) ∙ enabled in
      let both = and_parts (nat_lt from (node_count w.config)) _ can in
      let sender : nat_lt from (node_count w.config) ≡ true = both.0 in
      let own = and_parts (nat_lt k (node_count w.config)) _ both.1 in
      let waits = and_parts (nat_lt (s.made k) (rules w).room) _ own.1 in
      taken_made from k (s.queue from k) refl at (grind (arith, nat_tests)) waits.1 can done made

  pub event_made : (event : Event) → slice_get core.nodes (acting_node event) ≡ Some node → is_enabled_in core event ≡ true
      → IsDone w event node action core.nodes new.nodes before after
      → new.made ≡ slice_set core.made (acting_node event) (slice_index core.made (acting_node event) + 1)
      → IsMade w event action core new s
  event_made (Step k) at enabled done made = step_made k at enabled done made
  event_made (Deliver from k) at enabled done made = delivery_made from k at enabled done made
