-- Views of lists of messages: what lists say, by a function from messages to what some of them say. How a view changes where
-- a node acts, or a message is taken from a list.
use Rattle.std.proofs.Common.{◌≡◌, ℕ, Bool, true, false, List, [], ◌∷◌, ◌++◌, Some, None, ◌==◌, if◌then◌else◌, refl, sym, ap, ◌∙◌, inl, inr, append-nil, subst, arith}
use Rattle.std.proofs.lemmas.Bool.Decides.{nat_tests}
use Rattle.std.proofs.lemmas.Bool.{cases_Bool, cond-true, cond-false}
use Rattle.std.proofs.lemmas.List.Elements.{All-head, All-tail, filter_map-append}
use Rattle.std.specs.Prelude.{Option, All}
use Rattle.std.specs.List.{filter_map, cons_option}
use Rattle.event_journal.specs.Rules.{Change}
use Rattle.event_journal.specs.State.{State, messages_to, changed, with_queue}
use Rattle.event_journal.proofs.Queues.{messages_to-append}

-- tests of numbers

equal : (x y : ℕ) → (x == y) ≡ true → x ≡ y
equal x y e = grind (arith, nat_tests)

itself : (x : ℕ) → (x == x) ≡ true
itself x = grind (arith, nat_tests)

turned : (x y : ℕ) → (x == y) ≡ (y == x)
turned x y = grind (arith, nat_tests)

-- the same where a test says so and where it doesn't
pub alike : {A : Type 0} (b : Bool) (x : A) → (if b then x else x) ≡ x
alike true x = refl
alike false x = refl

-- the first of a list

first_none : {A : Type 0} (o : Option A) (rest : List A) → cons_option o rest ≡ [] → (o ≡ None) × (rest ≡ [])
first_none None rest e = (refl, e)
first_none (Some a) rest e = cc

pub first_silent : {M A : Type 0} (about : M → Option A) (msg : M) (rest : List M) → filter_map about (msg ∷ rest) ≡ [] → (about msg ≡ None) × (filter_map about rest ≡ [])
first_silent about msg rest e = first_none (about msg) (filter_map about rest) e

pub first_skipped : {M A : Type 0} (about : M → Option A) (msg : M) (rest : List M) → about msg ≡ None → filter_map about (msg ∷ rest) ≡ filter_map about rest
first_skipped about msg rest e = ap (λ o. cons_option o (filter_map about rest)) e

pub first_said : {M A : Type 0} (about : M → Option A) (msg : M) (rest : List M) (a : A) → about msg ≡ Some a → filter_map about (msg ∷ rest) ≡ a ∷ filter_map about rest
first_said about msg rest a e = ap (λ o. cons_option o (filter_map about rest)) e

-- messages of which some are for a node

pub first_to : {M A : Type 0} (about : M → Option A) (y : ℕ) (m : ℕ × M) (all : List (ℕ × M))
    → filter_map about (messages_to y (m ∷ all))
    ≡ (if m.0 == y then cons_option (about m.1) (filter_map about (messages_to y all)) else filter_map about (messages_to y all))
first_to about y m all = elim (cases_Bool (m.0 == y)) [ inl e ↦ rw e refl | inr e ↦ rw e refl ]

pub seen_append : {M A : Type 0} (about : M → Option A) (y : ℕ) (a b : List (ℕ × M))
    → filter_map about (messages_to y (a ++ b)) ≡ filter_map about (messages_to y a) ++ filter_map about (messages_to y b)
seen_append about y a b = ap (filter_map about) (messages_to-append y a b) ∙ filter_map-append about (messages_to y a) (messages_to y b)

-- those for it say nothing
abbrev pub SaysNone : {M A : Type 0} → (M → Option A) → ℕ → ℕ × M → Type 0
SaysNone about y m = m.0 ≡ y → about m.1 ≡ None

pub silent_to : {M A : Type 0} (about : M → Option A) (y : ℕ) (all : List (ℕ × M)) → All (SaysNone about y) all → filter_map about (messages_to y all) ≡ []
silent_to about y [] none = refl
silent_to about y (m ∷ all) none =
    let rest = silent_to about y all (All-tail (SaysNone about y) m all none) in
    first_to about y m all ∙ elim (cases_Bool (m.0 == y)) [
      | inl t ↦ cond-true (m.0 == y) _ _ t ∙ ap (λ o. cons_option o (filter_map about (messages_to y all))) (All-head (SaysNone about y) m all none (equal m.0 y t)) ∙ rest
      | inr t ↦ cond-false (m.0 == y) _ _ t ∙ rest
    ]

-- a node acts: what it sends joins the lists from it

-- a view of lists that goes piece by piece, as a filter does
abbrev pub GoesByPieces : {M A : Type 0} → (List M → List A) → Type 0
GoesByPieces {M} {A} view = (a b : List M) → view (a ++ b) ≡ view a ++ view b

if_seen : {A B : Type 0} (f : A → B) (b : Bool) (x y : A) → f (if b then x else y) ≡ (if b then f x else f y)
if_seen f true x y = refl
if_seen f false x y = refl

nothing_added : {A : Type 0} (b : Bool) (xs ys : List A) → ys ≡ [] → (if b then xs ++ ys else xs) ≡ xs
nothing_added true xs ys e = ap (λ l. xs ++ l) e ∙ append-nil xs
nothing_added false xs ys e = refl

pub view_after : {N M A : Type 0} (view : List M → List A) → GoesByPieces view → (s : State N M) (x : ℕ) (change : Change N M) (from to : ℕ)
    → view ((changed s x change).queue from to) ≡ (if from == x then view (s.queue from to) ++ view (messages_to to change.sent) else view (s.queue from to))
view_after view pieces s x change from to =
    if_seen view (from == x) (s.queue from to ++ messages_to to change.sent) (s.queue from to)
    ∙ ap (λ l. if from == x then l else view (s.queue from to)) (pieces (s.queue from to) (messages_to to change.sent))

-- where nothing of what it sends there is seen
pub view_stays : {N M A : Type 0} (view : List M → List A) → GoesByPieces view → (s : State N M) (x : ℕ) (change : Change N M) (from to : ℕ) → (from ≡ x → view (messages_to to change.sent) ≡ [])
    → view ((changed s x change).queue from to) ≡ view (s.queue from to)
view_stays view pieces s x change from to none =
    view_after view pieces s x change from to ∙ elim (cases_Bool (from == x)) [
      | inl t ↦ nothing_added (from == x) (view (s.queue from to)) (view (messages_to to change.sent)) (none (equal from x t))
      | inr t ↦ cond-false (from == x) _ _ t
    ]

pub node_here : {N M : Type 0} (s : State N M) (x : ℕ) (change : Change N M) → (changed s x change).node x ≡ change.node
node_here s x change = cond-true (x == x) change.node (s.node x) (itself x)

pub node_there : {N M : Type 0} (s : State N M) (x y : ℕ) (change : Change N M) → (x == y) ≡ false → (changed s x change).node y ≡ s.node y
node_there s x y change e = cond-false (y == x) change.node (s.node y) (sym (turned x y) ∙ e)

-- a message is taken from a list

pub queue_here : {N M : Type 0} (s : State N M) (i j : ℕ) (rest : List M) → (with_queue s i j rest).queue i j ≡ rest
queue_here s i j rest = cond-true (i == i) _ _ (itself i) ∙ cond-true (j == j) _ _ (itself j)

pub queue_there : {N M : Type 0} (s : State N M) (i j from to : ℕ) (rest : List M) → (j == to) ≡ false → (with_queue s i j rest).queue from to ≡ s.queue from to
queue_there s i j from to rest e =
    let ne : (to == j) ≡ false = sym (turned j to) ∙ e in
    elim (cases_Bool (from == i)) [
      | inl t ↦ cond-true (from == i) _ _ t ∙ cond-false (to == j) _ _ ne
      | inr t ↦ cond-false (from == i) _ _ t
    ]

pub queue_from : {N M : Type 0} (s : State N M) (i j from to : ℕ) (rest : List M) → (i == from) ≡ false → (with_queue s i j rest).queue from to ≡ s.queue from to
queue_from s i j from to rest e = cond-false (from == i) _ _ (sym (turned i from) ∙ e)

-- what is seen of a list is as before where the message taken isn't seen
pub queue_same : {N M A : Type 0} (f : List M → A) (s : State N M) (i j : ℕ) (rest : List M) → f rest ≡ f (s.queue i j) → (from to : ℕ)
    → f ((with_queue s i j rest).queue from to) ≡ f (s.queue from to)
queue_same f s i j rest e from to =
    elim (cases_Bool (i == from)) [
      | inl t ↦ elim (cases_Bool (j == to)) [
        | inl u ↦
            subst (λ a. f ((with_queue s i j rest).queue a to) ≡ f (s.queue a to)) (equal i from t)
            (subst (λ b. f ((with_queue s i j rest).queue i b) ≡ f (s.queue i b)) (equal j to u) (ap f (queue_here s i j rest) ∙ e))
        | inr u ↦ ap f (queue_there s i j from to rest u)
      ]
      | inr t ↦ ap f (queue_from s i j from to rest t)
    ]

-- of what is left a list that said nothing says nothing
pub taken_silent : {N M A : Type 0} (about : M → Option A) (s : State N M) (i j : ℕ) (msg : M) (rest : List M) (from to : ℕ) → s.queue i j ≡ msg ∷ rest
    → filter_map about (s.queue from to) ≡ [] → filter_map about ((with_queue s i j rest).queue from to) ≡ []
taken_silent about s i j msg rest from to e none =
    elim (cases_Bool (i == from)) [
      | inl t ↦ elim (cases_Bool (j == to)) [
        | inl u ↦
            let here : filter_map about (s.queue i j) ≡ [] =
            subst (λ a. filter_map about (s.queue a j) ≡ []) (sym (equal i from t)) (subst (λ b. filter_map about (s.queue from b) ≡ []) (sym (equal j to u)) none)
            in
            let left : filter_map about rest ≡ [] = (first_silent about msg rest (sym (ap (filter_map about) e) ∙ here)).1 in
            queue_same (filter_map about) s i j rest (left ∙ sym here) from to ∙ none
        | inr u ↦ ap (filter_map about) (queue_there s i j from to rest u) ∙ none
      ]
      | inr t ↦ ap (filter_map about) (queue_from s i j from to rest t) ∙ none
    ]
