-- A home that knows tiles and the control server alone stays so.
use Rattle.std.proofs.Common.{◌≡◌, ℕ, ◌≤◌, Bool, true, false, List, [], ◌∷◌, ◌++◌, refl, sym, subst, inl, inr}
use Rattle.std.specs.Prelude.{nat_lt, nat_eq, ◌==◌, if◌then◌else◌, Option, Some, None, IfSome}
use Rattle.std.specs.List.{All}
use Rattle.std.specs.Option.{option_map}
use Rattle.std.proofs.lemmas.Bool.{cases_Bool}
use Rattle.std.proofs.lemmas.List.Elements.{All-nil, All-cons, All-head, All-tail, All-filter, All-rest, All-same, All-push}
use Rattle.sim_base.specs.declared.lines.LineData.{LineData}
use Rattle.sim_base.specs.declared.settings.Config.{Config}
use Rattle.node_set.specs.NodeSet.{with_node, without}
use Rattle.dir_slice.specs.declared.rows.Sends.{Sends}
use Rattle.wire_msg.specs.declared.lines.Want.{Want}
use Rattle.wire_msg.specs.declared.lines.Want.TheVariants.{Read, Write}
use Rattle.wire_msg.specs.declared.lines.Up.{Up}
use Rattle.wire_msg.specs.declared.lines.Up.TheVariants.{Asks, GivesUp, Acknowledges, HandsOver}
use Rattle.dir_slice.specs.Line.{Request, State, Uncached, Shared, Modified, BusyInv, BusyFetch, Home, Row, same, invalidate, request_row, ack_row, acked_by, fetch_row, fetched_by, put_row, put_by, answer_row, memory_after, is_busy}
use Rattle.dir_slice.specs.Inner.{row_of, StateIsWithin, IsWithin}
use Rattle.dir_slice.specs.Directory.{taken_up, settled, requested, after_row, reaction, home_after}

All-with_node : (P : ℕ → Type 0) (x : ℕ) (nodes : List ℕ) → P x → All P nodes → All P (with_node x nodes)
All-with_node P x [] here all = All-cons P x [] here (All-nil P)
All-with_node P x (y ∷ ys) here all =
    elim (cases_Bool (nat_lt x y)) [
      | inl t ↦ rw t (All-cons P x (y ∷ ys) here all)
      | inr t ↦ elim (cases_Bool (nat_eq x y)) [
        | inl e ↦ rw (t, e) all
        | inr e ↦ rw (t, e) (All-cons P y (with_node x ys) (All-head P y ys all) (All-with_node P x ys here (All-tail P y ys all)))
      ]
    ]

invalidate_within : (tiles r : ℕ) (left : List ℕ) → r ≤ tiles → All (λ node. node ≤ tiles) left → StateIsWithin tiles (invalidate r left).state
invalidate_within tiles r [] from all = from
invalidate_within tiles r (x ∷ xs) from all = (from, all)

row_within : (tiles : ℕ) (state : State) (want : Want) (r : ℕ) → StateIsWithin tiles state → r ≤ tiles → StateIsWithin tiles (request_row state want r).state
row_within tiles Uncached Read r h from = All-cons (λ node. node ≤ tiles) r [] from (All-nil (λ node. node ≤ tiles))
row_within tiles Uncached Write r h from = from
row_within tiles (Shared sharers) Read r h from = All-with_node (λ node. node ≤ tiles) r sharers from h
row_within tiles (Shared sharers) Write r h from = invalidate_within tiles r (without r sharers) from (All-filter _ (λ node. node ≤ tiles) sharers h)
row_within tiles (Modified owner) want r h from = (from, h)
row_within tiles (BusyInv requester left) want r h from = h
row_within tiles (BusyFetch other requester owner) want r h from = h

pub served_within : (tiles : ℕ) (before state : State) (sends : Sends) (want : Want) (r : ℕ) → StateIsWithin tiles before → r ≤ tiles
    → row_of state sends ≡ request_row before want r → StateIsWithin tiles state
served_within tiles before state sends want r in_range from row =
    subst (λ row. StateIsWithin tiles row.state) (sym row) (row_within tiles before want r in_range from)

pub taken_up_within : (c : Config) (tile line : ℕ) (h : Home) (q : Request) → IsWithin c.tiles h → q.from ≤ c.tiles → IsWithin c.tiles (taken_up c tile line h q).home
taken_up_within c tile line h q in_range from = record { state = row_within c.tiles h.state q.want q.from in_range.state from; waiting = in_range.waiting }

-- without the first of the waiting requests, and with one more at the end
pub later_within : (tiles : ℕ) (h : Home) (q : Request) (rest : List Request) → IsWithin tiles h → h.waiting ≡ q ∷ rest → IsWithin tiles (record h { waiting = rest })
later_within tiles h q rest in_range e = record { state = in_range.state; waiting = All-rest (λ r. r.from ≤ tiles) q rest h.waiting e in_range.waiting }

first_within : (tiles : ℕ) (h : Home) (q : Request) (rest : List Request) → IsWithin tiles h → h.waiting ≡ q ∷ rest → q.from ≤ tiles
first_within tiles h q rest in_range e = All-head (λ r. r.from ≤ tiles) q rest (All-same (λ r. r.from ≤ tiles) (q ∷ rest) h.waiting (sym e) in_range.waiting)

pub more_within : (tiles : ℕ) (h : Home) (q : Request) (requests : List Request) → IsWithin tiles h → q.from ≤ tiles → requests ≡ h.waiting ++ q ∷ [] → IsWithin tiles (record h { waiting = requests })
more_within tiles h q requests in_range from e = record { state = in_range.state; waiting = rw e (All-push (λ r. r.from ≤ tiles) h.waiting q in_range.waiting from) }

pub made_within : (c : Config) (tile line : ℕ) (h : Home) (q : Request) (rest : List Request) (next : Home) → IsWithin c.tiles h → h.waiting ≡ q ∷ rest
    → next ≡ (taken_up c tile line (record h { waiting = rest }) q).home → IsWithin c.tiles next
made_within c tile line h q rest next in_range e made =
    let first : q.from ≤ c.tiles = first_within c.tiles h q rest in_range e in
    rw made (taken_up_within c tile line (record h { waiting = rest }) q (later_within c.tiles h q rest in_range e) first)

acked_by_within : (tiles r : ℕ) (left : List ℕ) → r ≤ tiles → All (λ node. node ≤ tiles) left → StateIsWithin tiles (acked_by r left).state
acked_by_within tiles r [] from all = from
acked_by_within tiles r (x ∷ xs) from all = (from, all)

fetched_by_within : (tiles : ℕ) (want : Want) (r owner : ℕ) → r ≤ tiles → owner ≤ tiles → StateIsWithin tiles (fetched_by want r owner).state
fetched_by_within tiles Read r owner from owned = All-with_node (λ node. node ≤ tiles) r (owner ∷ []) from (All-cons (λ node. node ≤ tiles) owner [] owned (All-nil (λ node. node ≤ tiles)))
fetched_by_within tiles Write r owner from owned = from

put_by_within : (tiles : ℕ) (want : Want) (r : ℕ) → r ≤ tiles → StateIsWithin tiles (put_by want r).state
put_by_within tiles Read r from = All-cons (λ node. node ≤ tiles) r [] from (All-nil (λ node. node ≤ tiles))
put_by_within tiles Write r from = from

-- the rows for answers name nodes of the machine
abbrev RowsAreWithin : ℕ → Option Row → Type 0
RowsAreWithin tiles found = IfSome found (λ row. StateIsWithin tiles row.state)

ack_within : (tiles : ℕ) (state : State) (from : ℕ) → StateIsWithin tiles state → RowsAreWithin tiles (ack_row state from)
ack_within tiles (BusyInv r left) from h = acked_by_within tiles r (without from left) h.0 (All-filter _ (λ node. node ≤ tiles) left h.1)
ack_within tiles _ from h = tt

if_row : (tiles : ℕ) (b : Bool) (row : Row) → StateIsWithin tiles row.state → RowsAreWithin tiles (if b then Some row else None)
if_row tiles true row h = h
if_row tiles false row h = tt

fetch_within : (tiles : ℕ) (state : State) (from : ℕ) → StateIsWithin tiles state → RowsAreWithin tiles (fetch_row state from)
fetch_within tiles (BusyFetch want r owner) from h = if_row tiles (from == owner) (fetched_by want r owner) (fetched_by_within tiles want r owner h.0 h.1)
fetch_within tiles _ from h = tt

put_within : (tiles : ℕ) (state : State) (from : ℕ) → StateIsWithin tiles state → RowsAreWithin tiles (put_row state from)
put_within tiles (Modified owner) from h = if_row tiles (from == owner) (same Uncached) tt
put_within tiles (BusyFetch want r owner) from h = if_row tiles (from == owner) (put_by want r) (put_by_within tiles want r h.0)
put_within tiles _ from h = tt

answer_row_within : (tiles : ℕ) (state : State) (from : ℕ) (says : Up) → StateIsWithin tiles state → RowsAreWithin tiles (answer_row state from says)
answer_row_within tiles state from Acknowledges h = ack_within tiles state from h
answer_row_within tiles state from (HandsOver content) h = fetch_within tiles state from h
answer_row_within tiles state from (GivesUp content) h = put_within tiles state from h
answer_row_within tiles state from (Asks want) h = tt

pub next_within : (tiles : ℕ) (h : Home) (from : ℕ) (says : Up) (state : State) (sends : Sends) (memory : LineData) → IsWithin tiles h → answer_row h.state from says ≡ Some (row_of state sends)
    → IsWithin tiles (record h { state = state; memory = memory })
next_within tiles h from says state sends memory in_range found =
    record { state = subst (RowsAreWithin tiles) found (answer_row_within tiles h.state from says in_range.state); waiting = in_range.waiting }

-- a home stays so whatever it receives
settled_within : (c : Config) (tile line : ℕ) (h : Home) (requests : List Request) → StateIsWithin c.tiles h.state → All (λ q. q.from ≤ c.tiles) requests
    → IsWithin c.tiles (settled c tile line h requests).home
settled_within c tile line h [] in_range all = record { state = in_range; waiting = All-nil (λ q. q.from ≤ c.tiles) }
settled_within c tile line h (q ∷ rest) in_range all =
    elim (cases_Bool (is_busy h.state)) [
      | inl t ↦ rw t (record { state = in_range; waiting = all })
      | inr t ↦ let after : StateIsWithin c.tiles (request_row h.state q.want q.from).state = row_within c.tiles h.state q.want q.from in_range (All-head (λ r. r.from ≤ c.tiles) q rest all) in
          rw t (settled_within c tile line (taken_up c tile line h q).home rest after (All-tail (λ r. r.from ≤ c.tiles) q rest all))
    ]

requested_within : (c : Config) (tile line : ℕ) (h : Home) (q : Request) → IsWithin c.tiles h → q.from ≤ c.tiles → IsWithin c.tiles (requested c tile line h q).home
requested_within c tile line h q in_range from =
    elim (cases_Bool (is_busy h.state)) [
      | inl t ↦ rw t (more_within c.tiles h q (h.waiting ++ q ∷ []) in_range from refl)
      | inr t ↦ rw t (taken_up_within c tile line h q in_range from)
    ]

answered_within : (c : Config) (tile line : ℕ) (h : Home) (says : Up) (found : Option Row) → IsWithin c.tiles h → RowsAreWithin c.tiles found
    → IsWithin c.tiles (home_after h (option_map (after_row c tile line h says) found))
answered_within c tile line h says (Some row) in_range rows =
    settled_within c tile line (record h { state = row.state; memory = memory_after says h.memory }) h.waiting rows in_range.waiting
answered_within c tile line h says None in_range rows = in_range

pub told_within : (c : Config) (tile line : ℕ) (h : Home) (from : ℕ) (says : Up) → IsWithin c.tiles h → from ≤ c.tiles → IsWithin c.tiles (home_after h (reaction c tile line h from says))
told_within c tile line h from (Asks want) in_range reader = requested_within c tile line h (record { from = from; want = want }) in_range reader
told_within c tile line h from Acknowledges in_range reader = answered_within c tile line h Acknowledges _ in_range (answer_row_within c.tiles h.state from Acknowledges in_range.state)
told_within c tile line h from (HandsOver content) in_range reader =
    answered_within c tile line h (HandsOver content) _ in_range (answer_row_within c.tiles h.state from (HandsOver content) in_range.state)
told_within c tile line h from (GivesUp content) in_range reader =
    answered_within c tile line h (GivesUp content) _ in_range (answer_row_within c.tiles h.state from (GivesUp content) in_range.state)
