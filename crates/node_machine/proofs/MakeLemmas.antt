-- What making an event leaves of the nodes and of what is pending.
use Rattle.std.proofs.Common.{◌≡◌, ◌≢◌, ℕ, zero, suc, ◌<◌, ◌≤◌, Bool, true, false, List, [], ◌∷◌, ◌++◌, length, map, refl, sym, ap, subst, ◌∙◌, arith, inl, inr}
use Rattle.std.specs.Prelude.{Option, Some, None, All, replicate, ◌&&◌, ◌||◌, nat_lt, nat_le, slice_get, slice_set, slice_index}
use Rattle.std.proofs.lemmas.Bool.{and_parts}
use Rattle.std.proofs.lemmas.Bool.Decides.{eqb_tells, nat_tests}
use Rattle.std.proofs.lemmas.List.{length-set, get_or-set_same, map-set}
use Rattle.std.proofs.lemmas.List.Elements.{All-nil, All-cons}
use Rattle.std.proofs.lemmas.Option.{same_Some, slice_get-get_or, slice_get_within, slice_get_cases, get_or_from_slice_get}
use Rattle.sim_base.specs.declared.actions.Action.{Action}
use Rattle.elf_image.specs.Layout.{Setup}
use Rattle.wire_msg.specs.declared.messages.Msg.{Msg}
use Rattle.event_journal.specs.declared.events.Event.{Event}
use Rattle.event_journal.specs.Event.{acting_node}
use Rattle.node_machine.specs.declared.nodes.Node.{Node}
use Rattle.node_machine.specs.Pending.{PendingData, with_messages}
use Rattle.node_machine.specs.Machine.{IsNode, can_step}
use Rattle.node_machine.specs.Core.{CoreData, IsCore, has_room, can_make_in, is_enabled_in, is_full}
use Rattle.node_machine.specs.Inner.{AreNodes, event_act, inboxes_left, IsDone}

-- a list read where one place was set

pub get_set_same : {A : Type 0} (xs : List A) (i : ℕ) (a : A) → i < length xs → slice_get (slice_set xs i a) i ≡ Some a
get_set_same xs i a inside =
    slice_get-get_or (slice_set xs i a) i a (subst (λ n. i < n) (sym (length-set xs i a)) inside) ∙ ap Some (get_or-set_same xs i a a inside)

pub get_set_other : {A : Type 0} (xs : List A) (i j : ℕ) (a : A) → j ≢ i → slice_get (slice_set xs i a) j ≡ slice_get xs j
get_set_other [] i j a other = refl
get_set_other (x ∷ xs) zero zero a other = absurd (other refl)
get_set_other (x ∷ xs) zero (suc j) a other = refl
get_set_other (x ∷ xs) (suc i) zero a other = refl
get_set_other (x ∷ xs) (suc i) (suc j) a other = get_set_other xs i j a (λ e. other (ap suc e))

-- nodes stay a machine's where one of them is another of its number
pub nodes_set : (w : Setup) (nodes : List Node) (id : ℕ) (new : Node) → id < length nodes → AreNodes w nodes → IsNode w id new → AreNodes w (slice_set nodes id new)
nodes_set w nodes id new inside are fits k node at = elim (eqb_tells k id) [
  | inl same ↦
      let is : new ≡ node = same_Some new node (sym (get_set_same nodes id new inside) ∙ ap (slice_get (slice_set nodes id new)) (sym same.1) ∙ at) in
      subst (IsNode w k) is (subst (λ m. IsNode w m new) (sym same.1) fits)
  | inr other ↦ are k node (sym (get_set_other nodes id k new other.1) ∙ at)
]

-- an event is made
pub done : (w : Setup) (event : Event) (acting new_node : Node) (action : Option Action) (old new : List Node) (before after : PendingData) (sent : List (ℕ × Msg))
    → slice_get old (acting_node event) ≡ Some acting
    → new ≡ slice_set old (acting_node event) new_node
    → new_node ≡ (event_act w event acting before.inboxes).node
    → sent ≡ (event_act w event acting before.inboxes).sent
    → action ≡ (event_act w event acting before.inboxes).action
    → before.steps ≡ map can_step old
    → after.inboxes ≡ with_messages (acting_node event) sent (inboxes_left event before.inboxes)
    → after.steps ≡ slice_set before.steps (acting_node event) (can_step new_node)
    → (node : Node) → slice_get old (acting_node event) ≡ Some node → IsDone w event node action old new before after
done w event acting new_node action old new before after sent at set node_is sent_is action_is steps inboxes noted node here =
    let same : acting ≡ node = same_Some acting node (sym at ∙ here) in
    subst (λ n. IsDone w event n action old new before after) same (record {
      nodes = set ∙ ap (slice_set old (acting_node event)) node_is;
      inboxes = inboxes ∙ ap (λ s. with_messages (acting_node event) s (inboxes_left event before.inboxes)) sent_is;
      steps = noted ∙ ap (λ xs. slice_set xs (acting_node event) (can_step new_node)) steps
          ∙ sym (map-set can_step old (acting_node event) new_node) ∙ ap (map can_step) (sym set);
      commits = action_is;
    })

-- whether some node has no room for more, where one that had made one more event

or_false : (a b : Bool) → a ≡ false → (a || b) ≡ b
or_false true b e = cc (e)
or_false false b e = refl

or_swap : (a b c : Bool) → (a || (b || c)) ≡ (b || (a || c))
or_swap true true c = refl
or_swap true false c = refl
or_swap false b c = refl

pub full_set : (room : ℕ) (made : List ℕ) (i n : ℕ) → i < length made → slice_index made i < room
    → is_full room (slice_set made i n) ≡ (nat_le room n || is_full room made)
full_set room [] i n inside low = absurd (omega (arith, inside))
full_set room (m ∷ made) zero n inside low =
    let not_full : nat_le room m ≡ false = grind (arith, nat_tests) in
    ap (λ b. nat_le room n || b) (sym (or_false (nat_le room m) (is_full room made) not_full))
full_set room (m ∷ made) (suc i) n inside low =
    ap (λ b. nat_le room m || b) (full_set room made i n (omega (arith, inside)) low) ∙ or_swap (nat_le room m) (nat_le room n) (is_full room made)

-- a list with one more element
pub push_all : {A : Type 0} (P : ℕ → A → Type 0) (xs : List A) (x : A) → ((k : ℕ) (a : A) → slice_get xs k ≡ Some a → P k a) → P (length xs) x
    → (k : ℕ) (a : A) → slice_get (xs ++ x ∷ []) k ≡ Some a → P k a
push_all P [] x each last zero a at = subst (P 0) (same_Some x a at) last
push_all P [] x each last (suc k) a at = cc (at)
push_all P (y ∷ ys) x each last zero a at = each zero a at
push_all P (y ∷ ys) x each last (suc k) a at = push_all (λ n. P (suc n)) ys x (λ n b e. each (suc n) b e) last k a at

-- where an event is enabled, its node is there and has room
pub record ActsThere (core : CoreData) (id : ℕ) : Type 0 where
  pub room : slice_index core.made id < core.room
  pub node : Node
  pub node_at : slice_get core.nodes id ≡ Some node

there_by : (core : CoreData) (id : ℕ) (can : Bool) (found : Option ℕ) → length core.made ≡ length core.nodes → slice_get core.made id ≡ found
    → (has_room core.room found && can) ≡ true → ActsThere core id
there_by core id can None same at enabled = cc (enabled)
there_by core id can (Some made) same at enabled =
    let room : nat_lt made core.room ≡ true = (and_parts (nat_lt made core.room) can enabled).0 in
    let low : made < core.room = grind (arith, nat_tests) in
    let inside : id < length core.nodes = subst (λ n. id < n) same (slice_get_within core.made id made at) in
    elim (slice_get_cases core.nodes id).1 [
      | inl here ↦ record { room = rw (get_or_from_slice_get core.made id made 0 at) low; node = here.0; node_at = here.2 }
      | inr past ↦ absurd (omega (arith, inside, past.0))
    ]

pub acting_there : (w : Setup) (core : CoreData) (event : Event) → IsCore w core → is_enabled_in core event ≡ true → ActsThere core (acting_node event)
acting_there w core event is enabled =
    there_by core (acting_node event) (can_make_in core event) (slice_get core.made (acting_node event)) (is.made ∙ sym is.nodes) refl enabled

pub nodes_push : (w : Setup) (nodes : List Node) (new : Node) → AreNodes w nodes → IsNode w (length nodes) new → AreNodes w (nodes ++ new ∷ [])
nodes_push w nodes new are fits = push_all (IsNode w) nodes new are fits

pub zeros_fit : (most n : ℕ) → All (λ m. m ≤ most) (replicate n 0)
zeros_fit most zero = All-nil (λ m. m ≤ most)
zeros_fit most (suc n) = All-cons (λ m. m ≤ most) 0 (replicate n 0) (omega arith) (zeros_fit most n)
