-- Whatever a home is told, requests wait only while a transaction is under way, its set ascends, and a writer waits for
-- some node other than itself.
use Rattle.std.proofs.Common.{◌≡◌, ℕ, Bool, true, false, List, [], ◌∷◌, refl, inl, inr}
use Rattle.std.specs.Option.{option_map}
use Rattle.std.specs.Prelude.{nat_eq, ◌==◌, filter, if◌then◌else◌, Option, Some, None, IfSome}
use Rattle.sim_base.specs.declared.settings.Config.{Config}
use Rattle.node_set.specs.NodeSet.{Ascends, has_node, without}
use Rattle.node_set.proofs.Sets.{Ascends-with_node, Ascends-without}
use Rattle.wire_msg.specs.declared.lines.Want.{Want}
use Rattle.wire_msg.specs.declared.lines.Want.TheVariants.{Read, Write}
use Rattle.wire_msg.specs.declared.lines.Up.{Up}
use Rattle.wire_msg.specs.declared.lines.Up.TheVariants.{Asks, GivesUp, Acknowledges, HandsOver}
use Rattle.dir_slice.specs.Line.{Request, State, Uncached, Shared, Modified, BusyInv, BusyFetch, Home, Row, fresh, same, is_busy, invalidate, request_row, ack_row, acked_by, fetch_row, fetched_by, put_row, put_by, answer_row, memory_after}
use Rattle.dir_slice.specs.Directory.{taken_up, settled, requested, after_row, reaction, home_after}
use Rattle.dir_slice.specs.Laws.{StateIsOrderly, IsOrderly, FreshIsOrderly, KeepsOrderly, after_all, StaysOrderly}
use Rattle.std.proofs.lemmas.Bool.{cases_Bool}

-- a set without a node lacks it, and lacks what it lacked
lacks-without : (x : ℕ) (ys : List ℕ) → has_node x (without x ys) ≡ false
lacks-without x [] = refl
lacks-without x (y ∷ ys) = elim (cases_Bool (nat_eq y x)) [ inl t ↦ rw t (lacks-without x ys) | inr t ↦ rw (t, t) (lacks-without x ys) ]

lacks-filter : (p : ℕ → Bool) (x : ℕ) (ys : List ℕ) → has_node x ys ≡ false → has_node x (filter p ys) ≡ false
lacks-filter p x [] none = refl
lacks-filter p x (y ∷ ys) none =
    elim (cases_Bool (nat_eq y x)) [
      | inl t ↦ cc
      | inr t ↦ let rest : has_node x ys ≡ false = rw t at none in
          elim (cases_Bool (p y)) [ inl e ↦ rw (e, t) (lacks-filter p x ys rest) | inr e ↦ rw e (lacks-filter p x ys rest) ]
    ]

-- the rows keep states so
invalidate_orderly : (r : ℕ) (left : List ℕ) → Ascends left → has_node r left ≡ false → StateIsOrderly (invalidate r left).state
invalidate_orderly r [] rises lacks = tt
invalidate_orderly r (x ∷ xs) rises lacks = (rises, λ (none : x ∷ xs ≡ []). cc, lacks)

request_orderly : (state : State) (want : Want) (r : ℕ) → StateIsOrderly state → StateIsOrderly (request_row state want r).state
request_orderly Uncached Read r o = (tt, tt)
request_orderly Uncached Write r o = tt
request_orderly (Shared sharers) Read r o = Ascends-with_node r sharers o
request_orderly (Shared sharers) Write r o = invalidate_orderly r (without r sharers) (Ascends-without r sharers o) (lacks-without r sharers)
request_orderly (Modified owner) want r o = tt
request_orderly (BusyInv requester left) want r o = o
request_orderly (BusyFetch other requester owner) want r o = tt

abbrev RowIsOrderly : Option Row → Type 0
RowIsOrderly found = IfSome found (λ row. StateIsOrderly row.state)

acked_by_orderly : (r : ℕ) (left : List ℕ) → Ascends left → has_node r left ≡ false → StateIsOrderly (acked_by r left).state
acked_by_orderly r [] rises lacks = tt
acked_by_orderly r (x ∷ xs) rises lacks = (rises, λ (none : x ∷ xs ≡ []). cc, lacks)

ack_orderly : (state : State) (from : ℕ) → StateIsOrderly state → RowIsOrderly (ack_row state from)
ack_orderly (BusyInv r left) from o = acked_by_orderly r (without from left) (Ascends-without from left o.0) (lacks-filter _ r left o.2)
ack_orderly _ from o = tt

fetched_by_orderly : (want : Want) (r owner : ℕ) → StateIsOrderly (fetched_by want r owner).state
fetched_by_orderly Read r owner = Ascends-with_node r (owner ∷ []) (tt, tt)
fetched_by_orderly Write r owner = tt

put_by_orderly : (want : Want) (r : ℕ) → StateIsOrderly (put_by want r).state
put_by_orderly Read r = (tt, tt)
put_by_orderly Write r = tt

if_row : (b : Bool) (row : Row) → StateIsOrderly row.state → RowIsOrderly (if b then Some row else None)
if_row true row o = o
if_row false row o = tt

fetch_orderly : (state : State) (from : ℕ) → RowIsOrderly (fetch_row state from)
fetch_orderly (BusyFetch want r owner) from = if_row (from == owner) (fetched_by want r owner) (fetched_by_orderly want r owner)
fetch_orderly _ from = tt

put_orderly : (state : State) (from : ℕ) → RowIsOrderly (put_row state from)
put_orderly (Modified owner) from = if_row (from == owner) (same Uncached) tt
put_orderly (BusyFetch want r owner) from = if_row (from == owner) (put_by want r) (put_by_orderly want r)
put_orderly _ from = tt

-- and the waiting requests are taken up until a transaction is under way
settled_orderly : (c : Config) (tile line : ℕ) (h : Home) (requests : List Request) → StateIsOrderly h.state → IsOrderly (settled c tile line h requests).home
settled_orderly c tile line h [] o = record { waits_while_busy = λ free. refl; state = o }
settled_orderly c tile line h (q ∷ rest) o =
    elim (cases_Bool (is_busy h.state)) [
      | inl t ↦ rw t (record { waits_while_busy = λ (free : is_busy h.state ≡ false). cc; state = o })
      | inr t ↦ rw t (settled_orderly c tile line (taken_up c tile line h q).home rest (request_orderly h.state q.want q.from o))
    ]

row_orderly : (state : State) (from : ℕ) (says : Up) → StateIsOrderly state → RowIsOrderly (answer_row state from says)
row_orderly state from Acknowledges o = ack_orderly state from o
row_orderly state from (HandsOver content) o = fetch_orderly state from
row_orderly state from (GivesUp content) o = put_orderly state from
row_orderly state from (Asks want) o = tt

answer_orderly : (c : Config) (tile line : ℕ) (h : Home) (says : Up) (found : Option Row) → IsOrderly h → RowIsOrderly found
    → IsOrderly (home_after h (option_map (after_row c tile line h says) found))
answer_orderly c tile line h says (Some row) o after = settled_orderly c tile line (record h { state = row.state; memory = memory_after says h.memory }) h.waiting after
answer_orderly c tile line h says None o after = o

-- a request waits, or is taken up where none waits
requested_orderly : (c : Config) (tile line : ℕ) (h : Home) (q : Request) → IsOrderly h → IsOrderly (requested c tile line h q).home
requested_orderly c tile line h q o =
    elim (cases_Bool (is_busy h.state)) [
      | inl t ↦ rw t (record { waits_while_busy = λ (free : is_busy h.state ≡ false). cc; state = o.state })
      | inr t ↦ rw t (record { waits_while_busy = λ free. o.waits_while_busy t; state = request_orderly h.state q.want q.from o.state })
    ]

pub fresh_is_orderly : FreshIsOrderly
fresh_is_orderly memory = record { waits_while_busy = λ free. refl; state = tt }

pub keeps_orderly : KeepsOrderly
keeps_orderly c tile line h from (Asks want) o = requested_orderly c tile line h (record { from = from; want = want }) o
keeps_orderly c tile line h from Acknowledges o = answer_orderly c tile line h Acknowledges _ o (row_orderly h.state from Acknowledges o.state)
keeps_orderly c tile line h from (HandsOver content) o = answer_orderly c tile line h (HandsOver content) _ o (row_orderly h.state from (HandsOver content) o.state)
keeps_orderly c tile line h from (GivesUp content) o = answer_orderly c tile line h (GivesUp content) _ o (row_orderly h.state from (GivesUp content) o.state)

-- so it is after all messages
all_orderly : (c : Config) (tile line : ℕ) (h : Home) (messages : List (ℕ × Up)) → IsOrderly h → IsOrderly (after_all c tile line h messages)
all_orderly c tile line h [] o = o
all_orderly c tile line h (m ∷ messages) o = all_orderly c tile line (home_after h (reaction c tile line h m.0 m.1)) messages (keeps_orderly c tile line h m.0 m.1 o)

pub stays_orderly : StaysOrderly
stays_orderly c tile line memory messages = all_orderly c tile line (fresh memory) messages (fresh_is_orderly memory)
