-- Every core shows a state, and the first one the first.
use Rattle.std.proofs.Common.{◌≡◌, ℕ, ◌<◌, false, [], length, refl, sym, ap, subst, ◌∙◌, arith}
use Rattle.std.specs.Prelude.{Some, slice_get, slice_index_or, replicate}
use Rattle.std.proofs.lemmas.List.{get_or-replicate, length-replicate}
use Rattle.std.proofs.lemmas.Option.{slice_get-get_or}
use Rattle.std.proofs.lemmas.List.FromFn.{get_or-map-range_with_len, length-map-range_with_len}
use Rattle.sim_base.specs.Numbering.{node_count}
use Rattle.elf_image.specs.Layout.{Setup}
use Rattle.wire_msg.specs.declared.messages.Msg.{Msg}
use Rattle.event_journal.specs.State.{State}
use Rattle.node_machine.specs.declared.nodes.Node.{Node}
use Rattle.node_machine.specs.declared.nodes.Node.TheVariants.{Local}
use Rattle.node_machine.specs.Pending.{queue_in}
use Rattle.node_machine.specs.Machine.{start_node}
use Rattle.node_machine.specs.Core.{CoreData, start_nodes, start_core}
use Rattle.node_machine.specs.Shown.{SomeIsShown, StartIsShown}

-- a node where there is none
abbrev nobody : Node
nobody = Local (record { host = 0; idle = []; spent = false })

abbrev state_of : CoreData → State Node Msg
state_of core = record {
  node = λ k. slice_index_or core.nodes k nobody;
  queue = λ from to. queue_in core.inboxes from to;
  made = λ k. slice_index_or core.made k 0;
}

pub some_is_shown : SomeIsShown
some_is_shown w core is = (
  state_of core,
  record {
    node = λ k low. slice_get-get_or core.nodes k nobody low;
    queue = λ from to _ _. refl;
    made = λ k low. slice_get-get_or core.made k 0 (subst (λ n. k < n) (is.nodes ∙ sym is.made) low);
  },
)

start_length : (w : Setup) → length (start_nodes w) ≡ node_count w.config
start_length w = length-map-range_with_len (start_node w) 0 (node_count w.config)

start_at : (w : Setup) (k : ℕ) → k < length (start_nodes w) → slice_get (start_nodes w) k ≡ Some (start_node w k)
start_at w k low =
    slice_get-get_or (start_nodes w) k (start_node w k) low
    ∙ ap Some (get_or-map-range_with_len (start_node w) 0 (node_count w.config) k k (start_node w k) (subst (λ n. k < n) (start_length w) low) (omega arith))

none_waits : (w : Setup) (from to : ℕ) → from < length (start_nodes w) → to < length (start_nodes w) → queue_in (start_core w).inboxes from to ≡ []
none_waits w from to sender low =
    ap (λ inbox. slice_index_or inbox from []) (get_or-replicate (length (start_nodes w)) to (replicate (length (start_nodes w)) []) [] low)
    ∙ get_or-replicate (length (start_nodes w)) from [] [] sender

none_made : (w : Setup) (k : ℕ) → k < length (start_nodes w) → slice_get (start_core w).made k ≡ Some 0
none_made w k low =
    let within : k < node_count w.config = subst (λ n. k < n) (start_length w) low in
    slice_get-get_or (replicate (node_count w.config) 0) k 0 (subst (λ n. k < n) (sym (length-replicate (node_count w.config) 0)) within)
    ∙ ap Some (get_or-replicate (node_count w.config) k 0 0 within)

pub start_is_shown : StartIsShown
start_is_shown w = record { node = start_at w; queue = none_waits w; made = none_made w }
