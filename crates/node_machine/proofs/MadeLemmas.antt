-- What a core shows after an event, where it showed a state before it.
use Rattle.std.proofs.Common.{◌≡◌, ℕ, ◌+◌, ◌<◌, List, ◌++◌, length, sym, ap, subst, ◌∙◌, inl, inr}
use Rattle.std.specs.Prelude.{Some, cond, ◌==◌, slice_get, slice_index, slice_set}
use Rattle.std.proofs.lemmas.Bool.Decides.{eqb_tells}
use Rattle.std.proofs.lemmas.List.{length-set, get_or-set_same, get_or-set_other}
use Rattle.std.proofs.Math.ListN.{get_or}
use Rattle.std.proofs.lemmas.Option.{slice_get-get_or, get_or_from_slice_get}
use Rattle.wire_msg.specs.declared.messages.Msg.{Msg}
use Rattle.event_journal.specs.State.{State, changed, with_queue, messages_to}
use Rattle.node_machine.specs.declared.nodes.Node.{Node}
use Rattle.node_machine.specs.Pending.{queue_in, with_messages, with_rest, AreInboxes}
use Rattle.node_machine.specs.Machine.{Act, change_of}
use Rattle.node_machine.specs.Core.{CoreData, Shows}
use Rattle.node_machine.proofs.MailLemmas.{own_queues, other_queues, with_rest_at}

-- a list whose places hold a function's values, after one place was set
set_at : {A : Type 0} (xs : List A) (f : ℕ → A) (k : ℕ) (x : A) (n i : ℕ) → length xs ≡ n → k < n → i < n → slice_get xs i ≡ Some (f i)
    → slice_get (slice_set xs k x) i ≡ Some (cond (i == k) x (f i))
set_at xs f k x n i is inside low here =
    let within : i < length (slice_set xs k x) = subst (λ m. i < m) (sym (length-set xs k x ∙ is)) low in
    let found : slice_get (slice_set xs k x) i ≡ Some (get_or (slice_set xs k x) i x) = slice_get-get_or (slice_set xs k x) i x within in
    elim (eqb_tells i k) [
      | inl same ↦ rw (same.0) (found ∙ ap Some (ap (λ m. get_or (slice_set xs k x) m x) same.1 ∙ get_or-set_same xs k x x (subst (λ m. k < m) (sym is) inside)))
      | inr other ↦ rw (other.0) (found ∙ ap Some (get_or-set_other xs k i x x other.1 ∙ get_or_from_slice_get xs i (f i) x here))
    ]

module _ (count : ℕ) (core new : CoreData) (s : State Node Msg) (are : AreInboxes count core.inboxes) (nodes : length core.nodes ≡ count)
    (made : length core.made ≡ count) (shows : Shows core s) where
  -- a node made an act: it is new, what it sends joins the lists, and it has made one more event
  pub changed_shows : (k : ℕ) (act : Act) → k < count
      → new.nodes ≡ slice_set core.nodes k act.node
      → new.inboxes ≡ with_messages k act.sent core.inboxes
      → new.made ≡ slice_set core.made k (slice_index core.made k + 1)
      → Shows new (changed s k (change_of act))
  changed_shows k act low new_nodes new_inboxes new_made =
      let within : (i : ℕ) → i < length new.nodes → i < count =
      λ i h. subst (λ n. i < n) (ap length new_nodes ∙ length-set core.nodes k act.node ∙ nodes) h in
      let old : (i : ℕ) → i < count → i < length core.nodes = λ i h. subst (λ n. i < n) (sym nodes) h in
      record {
        node = λ i h. ap (λ xs. slice_get xs i) new_nodes
            ∙ set_at core.nodes s.node k act.node count i nodes low (within i h) (shows.node i (old i (within i h)));
        queue = λ i j hi hj. ap (λ xs. queue_in xs i j) new_inboxes ∙ elim (eqb_tells i k) [
          | inl same ↦
              rw (same.0) (ap (λ n. queue_in (with_messages k act.sent core.inboxes) n j) same.1
              ∙ own_queues count k act.sent core.inboxes j are low (within j hj)
              ∙ ap (λ n. queue_in core.inboxes n j ++ messages_to j act.sent) (sym same.1)
              ∙ ap (λ q. q ++ messages_to j act.sent) (shows.queue i j (old i (within i hi)) (old j (within j hj))))
          | inr other ↦
              rw (other.0) (other_queues count k act.sent core.inboxes i j are other.0 (within i hi) (within j hj)
              ∙ shows.queue i j (old i (within i hi)) (old j (within j hj)))
        ];
        made = λ i h. ap (λ xs. slice_get xs i) new_made
            ∙ ap (λ n. slice_get (slice_set core.made k (n + 1)) i) (get_or_from_slice_get core.made k (s.made k) 0 (shows.made k (old k low)))
            ∙ set_at core.made s.made k (s.made k + 1) count i made low (within i h) (shows.made i (old i (within i h)));
      }

  -- a node took the first message from another
  pub rest_shows : (from k : ℕ) (rest : List Msg) → new ≡ record core { inboxes = with_rest from k rest core.inboxes }
      → Shows new (with_queue s from k rest)
  rest_shows from k rest is = subst (λ c. Shows c (with_queue s from k rest)) (sym is) (record {
    node = λ i h. shows.node i h;
    queue = λ i j hi hj.
        with_rest_at count core.inboxes from k rest i j are (subst (λ n. i < n) nodes hi) (subst (λ n. j < n) nodes hj)
        ∙ ap (λ q. cond (i == from) (cond (j == k) rest q) q) (shows.queue i j hi hj);
    made = λ i h. shows.made i h;
  })
