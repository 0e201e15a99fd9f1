-- Steps of one node that were made of a core are a run of each state that the core showed.
use Rattle.std.proofs.Common.{◌≡◌, ℕ, zero, suc, ◌+◌, ◌-◌, ◌<◌, ◌≤◌, true, List, [], length, map, refl, sym, ap, subst, ◌∙◌, arith, inl, inr, eq-eqb}
use Rattle.std.specs.Prelude.{Some, ◌&&◌, nat_lt, slice_get, slice_index, slice_set}
use Rattle.std.proofs.lemmas.Bool.{and_from, true≢false}
use Rattle.std.proofs.lemmas.Bool.Decides.{eqb_tells, nat_tests}
use Rattle.std.proofs.lemmas.List.{length-set, get_or-set_same, map-set, set-set}
use Rattle.std.proofs.lemmas.Option.{same_Some, slice_get_within, get_or_from_slice_get}
use Rattle.sim_base.specs.Numbering.{node_count}
use Rattle.elf_image.specs.Layout.{Setup}
use Rattle.wire_msg.specs.declared.messages.Msg.{Msg}
use Rattle.event_journal.specs.declared.events.Event.TheVariants.{Step}
use Rattle.event_journal.specs.State.{State, put}
use Rattle.event_journal.specs.Run.{IsRun, after, happens, can_happen}
use Rattle.node_machine.specs.declared.nodes.Node.{Node}
use Rattle.node_machine.specs.Pending.{PendingData, with_messages, AreInboxes}
use Rattle.node_machine.specs.Machine.{can_step, node_step, rules}
use Rattle.node_machine.specs.Core.{CoreData, Shows, IsCore}
use Rattle.node_machine.specs.Alone.{stepped, steps_of, AreMade}
use Rattle.node_machine.specs.Inner.{AreSteps, NodeHasStepped, StepsAreDone, last_sent}
use Rattle.node_machine.proofs.AloneLemmas.{steps_fit, several_are_of_a_tile}
use Rattle.node_machine.proofs.MadeLemmas.{changed_shows}

-- the steps of a node among the machine's are made
pub steps_done : (w : Setup) (id most n : ℕ) (acting new_node : Node) (old new : List Node) (before after : PendingData) (mail : List (ℕ × Msg))
    → slice_get old id ≡ Some acting
    → new ≡ slice_set old id new_node
    → NodeHasStepped w most n acting new_node mail
    → before.steps ≡ map can_step old
    → after.inboxes ≡ with_messages id mail before.inboxes
    → after.steps ≡ slice_set before.steps id (can_step new_node)
    → (node : Node) → slice_get old id ≡ Some node → StepsAreDone w id most n node old new before after
steps_done w id most n acting new_node old new before after mail at set has steps inboxes noted node here =
    let same : acting ≡ node = same_Some acting node (sym at ∙ here) in
    subst (λ x. StepsAreDone w id most n x old new before after) same (record {
      few = has.few;
      are = has.are;
      stops = λ less none. ap can_step (sym has.node) ∙ has.stops less (has.sent ∙ none);
      nodes = set ∙ ap (slice_set old id) has.node;
      inboxes = inboxes ∙ ap (λ s. with_messages id s before.inboxes) has.sent;
      steps = noted ∙ ap (λ xs. slice_set xs id (can_step new_node)) steps
          ∙ sym (map-set can_step old id new_node) ∙ ap (map can_step) (sym set);
    })

-- the first step is made first
pub stepped_first : (w : Setup) (node : Node) (n : ℕ) → stepped w node (suc n) ≡ stepped w (node_step w node).node n
unfolding stepped
stepped_first w node n = refl

last_sent_later : (w : Setup) (node : Node) (n : ℕ) → last_sent w node (suc (suc n)) ≡ last_sent w (node_step w node).node (suc n)
last_sent_later w node n =
    let a : suc (suc n) - 1 ≡ suc n = omega arith in
    let b : suc n - 1 ≡ n = omega arith in
    ap (λ m. (node_step w (stepped w node m)).sent) a
    ∙ ap (λ x. (node_step w x).sent) (stepped_first w node n)
    ∙ ap (λ m. (node_step w (stepped w (node_step w node).node m)).sent) (sym b)

-- steps after the first one
later_steps : (w : Setup) (node : Node) (n : ℕ) → AreSteps w node (suc (suc n)) → AreSteps w (node_step w node).node (suc n)
unfolding stepped
later_steps w node n are = record {
  some = omega arith;
  can = λ k low. are.can (suc k) (omega (arith, low));
  quiet = λ k low. are.quiet (suc k) (omega (arith, low));
}

first_is_quiet : (w : Setup) (node : Node) (n : ℕ) → AreSteps w node (suc (suc n)) → (node_step w node).sent ≡ []
unfolding stepped
first_is_quiet w node n are = are.quiet 0 (omega arith)

first_can : (w : Setup) (node : Node) (n : ℕ) → AreSteps w node n → can_step node ≡ true
unfolding stepped
first_can w node n are = are.can 0 are.some

pub own_node : (f : ℕ → Node) (k : ℕ) (x : Node) → put f k x k ≡ x
own_node f k x = rw (eq-eqb k k refl) refl

module _ (w : Setup) (id : ℕ) (low : id < node_count w.config) where
  enabled : (core : CoreData) (s : State Node Msg) → length core.nodes ≡ node_count w.config → Shows core s
      → slice_index core.made id < w.config.events → can_step (s.node id) ≡ true → can_happen (rules w) (node_count w.config) s (Step id) ≡ true
  enabled core s nodes shows room can =
      let made : slice_index core.made id ≡ s.made id = get_or_from_slice_get core.made id (s.made id) 0 (shows.made id (subst (λ n. id < n) (sym nodes) low)) in
      let one : nat_lt id (node_count w.config) ≡ true = grind (arith, nat_tests) in
      let two : nat_lt (s.made id) w.config.events ≡ true = grind (arith, nat_tests) in
      and_from (nat_lt id (node_count w.config)) (nat_lt (s.made id) w.config.events && can_step (s.node id)) one (and_from (nat_lt (s.made id) w.config.events) (can_step (s.node id)) two can)

  -- what making them leaves
  pub record IsAfter (n : ℕ) (x : Node) (core new : CoreData) : Type 0 where
    pub nodes : new.nodes ≡ slice_set core.nodes id (stepped w x n)
    pub inboxes : new.inboxes ≡ with_messages id (last_sent w x n) core.inboxes
    pub made : new.made ≡ slice_set core.made id (slice_index core.made id + n)

  -- a run, and the state after it is shown
  pub record IsShownRun (n : ℕ) (new : CoreData) (s : State Node Msg) : Type 0 where
    pub run : IsRun (rules w) (node_count w.config) s (steps_of id n)
    pub shows : Shows new (after (rules w) s (steps_of id n))

  record IsSized (core : CoreData) : Type 0 where
    are : AreInboxes (node_count w.config) core.inboxes
    nodes : length core.nodes ≡ node_count w.config
    made : length core.made ≡ node_count w.config

  -- one step
  one_shows : (core new : CoreData) (s : State Node Msg) (x : Node) → IsSized core → Shows core s → s.node id ≡ x
      → new.nodes ≡ slice_set core.nodes id (node_step w x).node
      → new.inboxes ≡ with_messages id (node_step w x).sent core.inboxes
      → new.made ≡ slice_set core.made id (slice_index core.made id + 1)
      → Shows new (happens (rules w) s (Step id))
  one_shows core new s x sized shows here nodes inboxes made =
      changed_shows (node_count w.config) core new s sized.are sized.nodes sized.made shows id (node_step w (s.node id)) low
      (nodes ∙ ap (λ n. slice_set core.nodes id (node_step w n).node) (sym here))
      (inboxes ∙ ap (λ n. with_messages id (node_step w n).sent core.inboxes) (sym here))
      made

  steps_run : (n : ℕ) (core new : CoreData) (s : State Node Msg) (x : Node) → IsSized core → Shows core s → s.node id ≡ x
      → AreSteps w x n → slice_index core.made id + n ≤ w.config.events → IsAfter n x core new → IsShownRun n new s
  unfolding stepped steps_of
  steps_run zero core new s x sized shows here are room is = absurd (omega (arith, are.some))
  steps_run (suc zero) core new s x sized shows here are room is =
      let can : can_step (s.node id) ≡ true = ap can_step here ∙ first_can w x 1 are in
      record {
        run = (enabled core s sized.nodes shows (omega (arith, room)) can, tt);
        shows = one_shows core new s x sized shows here is.nodes is.inboxes is.made;
      }
  steps_run (suc (suc n)) core new s x sized shows here are room is =
      let can : can_step (s.node id) ≡ true = ap can_step here ∙ first_can w x (suc (suc n)) are in
      let inside : id < length core.made = omega (arith, low, sized.made) in
      let mid : CoreData = record core {
        nodes = slice_set core.nodes id (node_step w x).node;
        made = slice_set core.made id (slice_index core.made id + 1);
      } in
      let same : mid.inboxes ≡ with_messages id (node_step w x).sent core.inboxes =
      ap (λ mail. with_messages id mail core.inboxes) (sym (first_is_quiet w x n are)) in
      let read : slice_index mid.made id ≡ slice_index core.made id + 1 = get_or-set_same core.made id (slice_index core.made id + 1) 0 inside in
      let mid_sized : IsSized mid = record {
        are = sized.are;
        nodes = length-set core.nodes id (node_step w x).node ∙ sized.nodes;
        made = length-set core.made id (slice_index core.made id + 1) ∙ sized.made;
      } in
      let rest : IsShownRun (suc n) new (happens (rules w) s (Step id)) =
      steps_run (suc n) mid new (happens (rules w) s (Step id)) (node_step w x).node mid_sized
      (one_shows core mid s x sized shows here refl same refl)
      (own_node s.node id (node_step w (s.node id)).node ∙ ap (λ y. (node_step w y).node) here)
      (later_steps w x n are)
      (omega (arith, room, read))
      (record {
        nodes = is.nodes ∙ ap (slice_set core.nodes id) (stepped_first w x (suc n))
            ∙ sym (set-set core.nodes id (node_step w x).node (stepped w (node_step w x).node (suc n)));
        inboxes = is.inboxes ∙ ap (λ mail. with_messages id mail core.inboxes) (last_sent_later w x n);
        made = is.made ∙ ap (slice_set core.made id) (omega (arith, read)) ∙ sym (set-set core.made id (slice_index core.made id + 1) (slice_index mid.made id + suc n));
      }) in
      record {
        run = (enabled core s sized.nodes shows (omega (arith, room)) can, rest.run);
        shows = rest.shows;
      }

-- steps that send nothing, and after which the node can step, are as many as may be made
all_made : (w : Setup) (id most n : ℕ) (node : Node) (old new : List Node) (before after : PendingData)
    → StepsAreDone w id most n node old new before after → last_sent w node n ≡ [] → can_step (stepped w node n) ≡ true → n ≡ most
all_made w id most n node old new before after done none can = elim (eqb_tells n most) [
  | inl same ↦ same.1
  | inr other ↦ absurd (true≢false (sym can ∙ done.stops (omega (arith, done.few, other.1)) none))
]

-- the steps that were made of a core
pub steps_made : (w : Setup) (core new : CoreData) (s : State Node Msg) (before after : PendingData) (node : Node) (id most n : ℕ)
    → IsCore w core → Shows core s → before.inboxes ≡ core.inboxes → new.inboxes ≡ after.inboxes
    → slice_get core.nodes id ≡ Some node
    → StepsAreDone w id most n node core.nodes new.nodes before after
    → new.made ≡ slice_set core.made id (slice_index core.made id + n)
    → slice_index core.made id < core.room
    → (id < core.tiles → slice_index core.made id + most ≡ core.room)
    → (core.tiles ≤ id → most ≡ 1)
    → AreMade w id n new s
steps_made w core new s before after node id most n is shows here there at done made room tile other =
    let within : id < length core.nodes = slice_get_within core.nodes id node at in
    let low : id < node_count w.config = subst (λ n. id < n) is.nodes within in
    let count : slice_index core.made id ≡ s.made id = get_or_from_slice_get core.made id (s.made id) 0 (shows.made id within) in
    let is_node : s.node id ≡ node = same_Some (s.node id) node (sym (shows.node id within) ∙ at) in
    let run = steps_run w id low n core new s node (record { are = is.inboxes; nodes = is.nodes; made = is.made }) shows is_node done.are
    (omega (arith, steps_fit id core.tiles (slice_index core.made id) most core.room room tile other, done.few, is.room))
    (record { nodes = done.nodes; inboxes = there ∙ done.inboxes ∙ ap (with_messages id (last_sent w node n)) here; made = made }) in
    record {
      some = done.are.some;
      tile = λ many. subst (λ t. id < t) is.tiles (several_are_of_a_tile id core.tiles n most many done.few other);
      run = run.run;
      quiet = λ k less. ap (λ x. (node_step w (stepped w x k)).sent) is_node ∙ done.are.quiet k less;
      all = λ own none can.
          let whole : n ≡ most = all_made w id most n node core.nodes new.nodes before after done
          (ap (λ x. (node_step w (stepped w x (n - 1))).sent) (sym is_node) ∙ none)
          (ap (λ x. can_step (stepped w x n)) (sym is_node) ∙ can) in
          omega (arith, own, whole, tile, count, is.tiles, is.room);
      shows = run.shows;
    }
