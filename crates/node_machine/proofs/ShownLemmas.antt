-- What is read of a core is read of the state that it shows.
use Rattle.std.proofs.Common.{◌≡◌, ℕ, ◌+◌, ◌<◌, ◌≤◌, Bool, true, false, [], length, map, refl, sym, ap, subst, ◌∙◌, arith, inl, inr}
use Rattle.std.specs.Prelude.{Some, None, ◌&&◌, ◌||◌, not, nat_lt, nat_le, filter, slice_get, slice_index_or}
use Rattle.std.specs.List.{range_with_len}
use Rattle.std.proofs.lemmas.Bool.Decides.{nat_tests}
use Rattle.std.proofs.lemmas.Option.{slice_get_past, get_or_from_slice_get}
use Rattle.std.proofs.lemmas.Bool.{cases_Bool}
use Rattle.std.proofs.lemmas.List.{get_or_past, get_or-map}
use Rattle.sim_base.specs.Numbering.{node_count, control_node}
use Rattle.elf_image.specs.Layout.{Setup}
use Rattle.wire_msg.specs.declared.messages.Msg.{Msg}
use Rattle.event_journal.specs.declared.events.Event.{Event}
use Rattle.event_journal.specs.declared.events.Event.TheVariants.{Step, Deliver}
use Rattle.event_journal.specs.State.{State, is_empty}
use Rattle.event_journal.specs.Run.{can_happen}
use Rattle.event_journal.specs.Choice.{senders_to, can_act, acting_nodes}
use Rattle.node_machine.specs.declared.nodes.Node.{Node}
use Rattle.node_machine.specs.Pending.{inbox_of, queue_from, queue_in, can_act_in}
use Rattle.node_machine.specs.Machine.{rules, can_step}
use Rattle.node_machine.specs.Reading.{ended_of_node}
use Rattle.node_machine.specs.End.{end_by, is_used_up}
use Rattle.node_machine.specs.Core.{CoreData, Shows, IsCore, has_room, is_enabled_in, acting_in, senders_in, ended_in, is_full, counts_at, output_at}
use Rattle.node_machine.specs.Shown.{ReadsAsShown, ShownIsRead}
use Rattle.node_set.proofs.Ranges.{filter_range}
use Rattle.node_machine.proofs.RangeLemmas.{listed, any_map}

and_false : (b : Bool) → (b && false) ≡ false
and_false true = refl
and_false false = refl

module _ (w : Setup) (core : CoreData) (s : State Node Msg) (is : IsCore w core) (shows : Shows core s) where
  within : (k : ℕ) → k < node_count w.config → k < length core.nodes
  within k low = subst (λ n. k < n) (sym is.nodes) low

  node_at : (k : ℕ) → k < node_count w.config → slice_get core.nodes k ≡ Some (s.node k)
  node_at k low = shows.node k (within k low)

  made_at : (k : ℕ) → k < node_count w.config → slice_get core.made k ≡ Some (s.made k)
  made_at k low = shows.made k (within k low)

  -- beyond the nodes no count stands
  none_made : (k : ℕ) → node_count w.config ≤ k → slice_get core.made k ≡ None
  none_made k high = slice_get_past core.made k (subst (λ n. n ≤ k) (sym is.made) high)

  none_waits : (from to : ℕ) → node_count w.config ≤ from → to < node_count w.config → queue_in core.inboxes from to ≡ []
  none_waits from to high low = get_or_past (inbox_of core.inboxes to) from [] (subst (λ n. n ≤ from) (sym (is.inboxes.each_sender to low)) high)

  enabled_step : (k : ℕ) → is_enabled_in core (Step k) ≡ can_happen (rules w) (node_count w.config) s (Step k)
  enabled_step k = elim (cases_Bool (nat_lt k (node_count w.config))) [
    | inl inside ↦
        let low : k < node_count w.config = grind (arith, nat_tests) in
        rw (made_at k low, node_at k low, inside, is.room) refl
    | inr outside ↦
        let high : node_count w.config ≤ k = grind (arith, nat_tests) in
        rw (none_made k high, outside) refl
  ]

  taken_from : (from k : ℕ) → from < node_count w.config → k < node_count w.config → queue_in core.inboxes from k ≡ s.queue from k
  taken_from from k sender low = shows.queue from k (within from sender) (within k low)

  enabled_within : (from k : ℕ) → k < node_count w.config → nat_lt k (node_count w.config) ≡ true
      → is_enabled_in core (Deliver from k) ≡ can_happen (rules w) (node_count w.config) s (Deliver from k)
  enabled_within from k low inside = elim (cases_Bool (nat_lt from (node_count w.config))) [
    | inl sender ↦
        let from_low : from < node_count w.config = grind (arith, nat_tests) in
        rw (made_at k low, taken_from from k from_low low, inside, sender, is.room) refl
    | inr stranger ↦
        let from_high : node_count w.config ≤ from = grind (arith, nat_tests) in
        rw (made_at k low, none_waits from k from_high low, stranger) (and_false (has_room core.room (Some (s.made k))))
  ]

  enabled_delivery : (from k : ℕ) → is_enabled_in core (Deliver from k) ≡ can_happen (rules w) (node_count w.config) s (Deliver from k)
  enabled_delivery from k = elim (cases_Bool (nat_lt k (node_count w.config))) [
    | inl inside ↦ enabled_within from k (grind (arith, nat_tests)) inside
    | inr outside ↦
        let high : node_count w.config ≤ k = grind (arith, nat_tests) in
        rw (none_made k high, outside) (sym (and_false (nat_lt from (node_count w.config))))
  ]

  enabled : (event : Event) → is_enabled_in core event ≡ can_happen (rules w) (node_count w.config) s event
  enabled (Step k) = enabled_step k
  enabled (Deliver from k) = enabled_delivery from k

  senders : (node : ℕ) → node < node_count w.config → senders_in core node ≡ senders_to (node_count w.config) s node
  senders node low =
      ap (λ n. filter (λ from. not (is_empty (queue_from (inbox_of core.inboxes node) from))) (range_with_len 0 n)) (is.inboxes.each_sender node low)
      ∙ filter_range (λ from. not (is_empty (queue_from (inbox_of core.inboxes node) from))) (λ from. not (is_empty (s.queue from node))) 0 (node_count w.config)
      (λ from _ high. ap (λ q. not (is_empty q)) (taken_from from node (omega (arith, high)) low))

  steps : (k : ℕ) → k < node_count w.config → slice_index_or (map can_step core.nodes) k false ≡ can_step (s.node k)
  steps k low = get_or-map can_step core.nodes k (s.node k) false (within k low) ∙ ap can_step (get_or_from_slice_get core.nodes k (s.node k) (s.node k) (node_at k low))

  acts : (k : ℕ) → 0 ≤ k → k < 0 + node_count w.config
      → can_act_in (record { inboxes = core.inboxes; steps = map can_step core.nodes }) k ≡ can_act (rules w) (node_count w.config) s k
  acts k _ high = let low : k < node_count w.config = omega (arith, high) in
      ap (λ b. b || not (is_empty (senders_in core k))) (steps k low)
      ∙ ap (λ xs. can_step (s.node k) || not (is_empty xs)) (senders k low)

  acting : acting_in core ≡ acting_nodes (rules w) (node_count w.config) s
  acting =
      ap (λ n. filter (can_act_in (record { inboxes = core.inboxes; steps = map can_step core.nodes })) (range_with_len 0 n)) is.inboxes.each_node
      ∙ filter_range (can_act_in (record { inboxes = core.inboxes; steps = map can_step core.nodes })) (can_act (rules w) (node_count w.config) s) 0 (node_count w.config) acts

  counted : core.made ≡ map s.made (range_with_len 0 (node_count w.config))
  counted =
      listed s.made 0 core.made (λ k low. made_at k (subst (λ n. k < n) is.made low) ∙ ap (λ n. Some (s.made n)) (omega arith))
      ∙ ap (λ n. map s.made (range_with_len 0 n)) is.made

  used_up : is_full core.room core.made ≡ is_used_up w s
  used_up =
      ap (λ room. is_full room core.made) is.room
      ∙ ap (λ made. is_full w.config.events made) counted
      ∙ any_map (λ n. nat_le w.config.events n) s.made (range_with_len 0 (node_count w.config))

  control_low : control_node w.config < node_count w.config
  control_low = omega arith

  control_at : slice_get core.nodes core.tiles ≡ Some (s.node (control_node w.config))
  control_at = ap (λ k. slice_get core.nodes k) is.tiles ∙ node_at (control_node w.config) control_low

  pub reads : ReadsAsShown w core s
  reads = record {
    enabled = enabled;
    acting = acting;
    senders = senders;
    end = ap (λ found. end_by (ended_in found) (is_full core.room core.made)) control_at ∙ ap (end_by (ended_of_node (s.node (control_node w.config)))) used_up;
    counts = λ tile low. ap counts_at (node_at tile low);
    output = ap output_at control_at;
    count = counted;
  }

pub shown_is_read : ShownIsRead
shown_is_read w core s is shows = reads w core s is shows
