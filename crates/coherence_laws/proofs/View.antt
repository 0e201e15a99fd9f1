-- The machine seen at one line: what an event changes of each node's part of it, and of the line at its home.
use Rattle.std.proofs.Common.{◌≡◌, ℕ, true, List, [], ◌++◌, ◌==◌, if◌then◌else◌, refl, sym, ap, ◌∙◌, inl, inr, subst}
use Rattle.std.proofs.lemmas.Bool.{cases_Bool, cond-true, cond-false}
use Rattle.std.proofs.lemmas.List.Elements.{filter_map-append}
use Rattle.std.specs.Prelude.{Option}
use Rattle.sim_base.specs.Numbering.{home_of}
use Rattle.elf_image.specs.Layout.{Setup}
use Rattle.wire_msg.specs.declared.messages.Msg.{Msg}
use Rattle.wire_msg.specs.declared.lines.Want.{Want}
use Rattle.wire_msg.specs.declared.lines.Up.{Up}
use Rattle.wire_msg.specs.Message.{Down, up_about, down_about, ups, downs}
use Rattle.event_journal.specs.Rules.{Change}
use Rattle.event_journal.specs.State.{State, messages_to, changed, with_queue}
use Rattle.event_journal.proofs.Views.{view_after, view_stays, node_here, node_there, queue_here, queue_there, queue_from, queue_same}
use Rattle.node_machine.specs.declared.nodes.Node.{Node}
use Rattle.coherence_laws.specs.Part.{Part, copy_at, want_at, part_of, home_in, home_line}
use Rattle.coherence_laws.proofs.Phases.{with_up, with_down, sent}
use Rattle.coherence_laws.proofs.Moves.{part}
use Rattle.coherence_laws.proofs.Nodes.{equal, itself, turned}
use Rattle.coherence_laws.proofs.Take.{with_part, part_here, part_there}

pub ups_append : (k : ℕ) (a b : List Msg) → ups k (a ++ b) ≡ ups k a ++ ups k b
ups_append k a b = filter_map-append (up_about k) a b

pub downs_append : (k : ℕ) (a b : List Msg) → downs k (a ++ b) ≡ downs k a ++ downs k b
downs_append k a b = filter_map-append (down_about k) a b

same_parts : {copy copy' : _} {want want' : Option Want} {up up' : List Up} {down down' : List Down} → copy ≡ copy' → want ≡ want' → up ≡ up' → down ≡ down' → part copy want up down ≡ part copy' want' up' down'
same_parts a b c d = cc

-- a node acts: what it sends joins the lists from it

ups_after : (s : State Node Msg) (x : ℕ) (change : Change Node Msg) (k from to : ℕ)
    → ups k ((changed s x change).queue from to) ≡ (if from == x then ups k (s.queue from to) ++ ups k (messages_to to change.sent) else ups k (s.queue from to))
ups_after s x change k from to = view_after (ups k) (ups_append k) s x change from to

downs_after : (s : State Node Msg) (x : ℕ) (change : Change Node Msg) (k from to : ℕ)
    → downs k ((changed s x change).queue from to) ≡ (if from == x then downs k (s.queue from to) ++ downs k (messages_to to change.sent) else downs k (s.queue from to))
downs_after s x change k from to = view_after (downs k) (downs_append k) s x change from to

-- where it says nothing of the line there
pub ups_stay : (s : State Node Msg) (x : ℕ) (change : Change Node Msg) (k from to : ℕ) → (from ≡ x → ups k (messages_to to change.sent) ≡ [])
    → ups k ((changed s x change).queue from to) ≡ ups k (s.queue from to)
ups_stay s x change k from to none = view_stays (ups k) (ups_append k) s x change from to none

pub downs_stay : (s : State Node Msg) (x : ℕ) (change : Change Node Msg) (k from to : ℕ) → (from ≡ x → downs k (messages_to to change.sent) ≡ [])
    → downs k ((changed s x change).queue from to) ≡ downs k (s.queue from to)
downs_stay s x change k from to none = view_stays (downs k) (downs_append k) s x change from to none

-- a node that says nothing of the line from a home changes its own part of it alone
pub acts_alone : (w : Setup) (s : State Node Msg) (k x : ℕ) (change : Change Node Msg) → ((y : ℕ) → downs k (messages_to y change.sent) ≡ []) → (y : ℕ)
    → part_of w (changed s x change) k y
    ≡ with_part x
    (part (copy_at change.node k) (want_at change.node k) ((part_of w s k x).up ++ ups k (messages_to (home_of w.config k) change.sent)) (part_of w s k x).down)
    (part_of w s k) y
acts_alone w s k x change silent y =
    let home : ℕ = home_of w.config k in
    let n : ℕ → Part = part_of w s k in
    let now : Part = part (copy_at change.node k) (want_at change.node k) ((n x).up ++ ups k (messages_to home change.sent)) (n x).down in
    let here : part_of w (changed s x change) k x ≡ now = same_parts (ap (λ node. copy_at node k) (node_here s x change)) (ap (λ node. want_at node k) (node_here s x change))
    (ups_after s x change k x home ∙ cond-true (x == x) _ _ (itself x)) (downs_stay s x change k home x (λ _. silent x)) in
    elim (cases_Bool (x == y)) [
      | inl t ↦ subst (λ z. part_of w (changed s x change) k z ≡ now) (equal x y t) here ∙ sym (part_here x y now n t)
      | inr t ↦
          same_parts (ap (λ node. copy_at node k) (node_there s x y change t)) (ap (λ node. want_at node k) (node_there s x y change t))
          (ups_after s x change k y home ∙ cond-false (y == x) _ _ (sym (turned x y) ∙ t)) (downs_stay s x change k home y (λ _. silent y))
          ∙ sym (part_there x y now n t)
    ]

-- a home that has its own part of the line as before, and says nothing to homes, sends to each node what is for it
pub home_sends : (w : Setup) (s : State Node Msg) (k x : ℕ) (change : Change Node Msg) → x ≡ home_of w.config k → copy_at change.node k ≡ copy_at (s.node x) k
    → want_at change.node k ≡ want_at (s.node x) k → ((y : ℕ) → ups k (messages_to y change.sent) ≡ []) → (y : ℕ)
    → part_of w (changed s x change) k y ≡ sent (part_of w s k y) (downs k (messages_to y change.sent))
home_sends w s k x change at copy want silent y =
    let home : ℕ = home_of w.config k in
    let node : Node = (changed s x change).node y in
    let copies : copy_at node k ≡ copy_at (s.node y) k = elim (cases_Bool (x == y)) [
      | inl t ↦ subst (λ z. copy_at ((changed s x change).node z) k ≡ copy_at (s.node z) k) (equal x y t) (ap (λ m. copy_at m k) (node_here s x change) ∙ copy)
      | inr t ↦ ap (λ m. copy_at m k) (node_there s x y change t)
    ] in
    let wants : want_at node k ≡ want_at (s.node y) k = elim (cases_Bool (x == y)) [
      | inl t ↦ subst (λ z. want_at ((changed s x change).node z) k ≡ want_at (s.node z) k) (equal x y t) (ap (λ m. want_at m k) (node_here s x change) ∙ want)
      | inr t ↦ ap (λ m. want_at m k) (node_there s x y change t)
    ] in
    let from_home : (home == x) ≡ true = ap (λ z. home == z) at ∙ itself home in
    same_parts copies wants (ups_stay s x change k y home (λ _. silent home)) (downs_after s x change k home y ∙ cond-true (home == x) _ _ from_home)

-- the line at its home

pub home_stays : (w : Setup) (s : State Node Msg) (k x : ℕ) (change : Change Node Msg) → home_in change.node k ≡ home_in (s.node x) k → home_line w (changed s x change) k ≡ home_line w s k
home_stays w s k x change e =
    let home : ℕ = home_of w.config k in
    elim (cases_Bool (x == home)) [
      | inl t ↦ subst (λ z. home_in ((changed s x change).node z) k ≡ home_in (s.node z) k) (equal x home t) (ap (λ m. home_in m k) (node_here s x change) ∙ e)
      | inr t ↦ ap (λ m. home_in m k) (node_there s x home change t)
    ]

pub home_changes : (w : Setup) (s : State Node Msg) (k x : ℕ) (change : Change Node Msg) → x ≡ home_of w.config k → home_line w (changed s x change) k ≡ home_in change.node k
home_changes w s k x change at = subst (λ z. home_in ((changed s x change).node z) k ≡ home_in change.node k) at (ap (λ m. home_in m k) (node_here s x change))

-- a message is taken from a list

-- one that says nothing of the line
pub takes_other : (w : Setup) (s : State Node Msg) (k i j : ℕ) (rest : List Msg) → ups k rest ≡ ups k (s.queue i j) → downs k rest ≡ downs k (s.queue i j) → (y : ℕ)
    → part_of w (with_queue s i j rest) k y ≡ part_of w s k y
takes_other w s k i j rest up down y =
    same_parts refl refl (queue_same (ups k) s i j rest up y (home_of w.config k)) (queue_same (downs k) s i j rest down (home_of w.config k) y)

-- one from the line's home
pub takes_down : (w : Setup) (s : State Node Msg) (k i x : ℕ) (rest : List Msg) → i ≡ home_of w.config k → ups k rest ≡ ups k (s.queue i x) → (y : ℕ)
    → part_of w (with_queue s i x rest) k y ≡ with_part x (with_down (part_of w s k x) (downs k rest)) (part_of w s k) y
takes_down w s k i x rest at up y =
    let home : ℕ = home_of w.config k in
    let n : ℕ → Part = part_of w s k in
    let now : Part = with_down (n x) (downs k rest) in
    let up_same = queue_same (ups k) s i x rest up in
    let here : part_of w (with_queue s i x rest) k x ≡ now = same_parts refl refl (up_same x home)
    (subst (λ z. downs k ((with_queue s i x rest).queue z x) ≡ downs k rest) at (ap (downs k) (queue_here s i x rest))) in
    elim (cases_Bool (x == y)) [
      | inl t ↦ subst (λ z. part_of w (with_queue s i x rest) k z ≡ now) (equal x y t) here ∙ sym (part_here x y now n t)
      | inr t ↦ same_parts refl refl (up_same y home) (ap (downs k) (queue_there s i x home y rest t)) ∙ sym (part_there x y now n t)
    ]

-- one to the line's home
pub takes_up : (w : Setup) (s : State Node Msg) (k i x : ℕ) (rest : List Msg) → x ≡ home_of w.config k → downs k rest ≡ downs k (s.queue i x) → (y : ℕ)
    → part_of w (with_queue s i x rest) k y ≡ with_part i (with_up (part_of w s k i) (ups k rest)) (part_of w s k) y
takes_up w s k i x rest at down y =
    let home : ℕ = home_of w.config k in
    let n : ℕ → Part = part_of w s k in
    let now : Part = with_up (n i) (ups k rest) in
    let down_same = queue_same (downs k) s i x rest down in
    let here : part_of w (with_queue s i x rest) k i ≡ now = same_parts refl refl
    (subst (λ z. ups k ((with_queue s i x rest).queue i z) ≡ ups k rest) at (ap (ups k) (queue_here s i x rest))) (down_same home i) in
    elim (cases_Bool (i == y)) [
      | inl t ↦ subst (λ z. part_of w (with_queue s i x rest) k z ≡ now) (equal i y t) here ∙ sym (part_here i y now n t)
      | inr t ↦ same_parts refl refl (ap (ups k) (queue_from s i x y home rest t)) (down_same home y) ∙ sym (part_there i y now n t)
    ]
