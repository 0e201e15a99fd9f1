-- What a row sends, message by message, and the nodes of a set, one by one.
use Rattle.std.proofs.Common.{arith, ◌≡◌, ℕ, List, [], ◌∷◌, drop, map, refl, sym, ap}
use Rattle.std.specs.Prelude.{Some, fold, max, slice_get}
use Rattle.std.specs.Ordering.{nat_cmp, ord_max}
use Rattle.std.proofs.lemmas.Bool.Decides.{nat_tests}
use Rattle.std.proofs.lemmas.Grind.{common_steps}
use Rattle.std.proofs.lemmas.Option.{none-some, same_Some}
use Rattle.sim_base.specs.declared.settings.Config.{Config}
use Rattle.mesh_model.specs.Mesh.{hops_between}
use Rattle.wire_msg.specs.declared.lines.Want.TheVariants.{Read, Write}
use Rattle.wire_msg.specs.declared.messages.Msg.TheVariants.{Inv}
use Rattle.dir_slice.specs.Line.{State, Home, Sent, drop_copy, fetch, give}
use Rattle.dir_slice.specs.Directory.{message, farthest}

-- an Inv to each of a set
pub invs_sent : (line : ℕ) (h : Home) (nodes : List ℕ) → map (message line h) (map drop_copy nodes) ≡ map (λ node. (node, Inv line)) nodes
invs_sent line h [] = refl
invs_sent line h (node ∷ nodes) = ap (λ mail. (node, Inv line) ∷ mail) (invs_sent line h nodes)

-- whatever the home's state is
message-state : (line : ℕ) (h : Home) (state : State) (sent : Sent) → message line (record h { state = state }) sent ≡ message line h sent
message-state line h state (drop_copy to) = refl
message-state line h state (fetch want to) = refl
message-state line h state (give Read to) = refl
message-state line h state (give Write to) = refl

pub messages-state : (line : ℕ) (h : Home) (state : State) (sent : List Sent) → map (message line (record h { state = state })) sent ≡ map (message line h) sent
messages-state line h state [] = refl
messages-state line h state (x ∷ xs) = λ i. message-state line h state x i ∷ messages-state line h state xs i

-- the first of a list and the rest of it
pub first_and_rest : (nodes rest : List ℕ) (node : ℕ) → Some node ≡ slice_get nodes 0 → rest ≡ drop 1 nodes → nodes ≡ node ∷ rest
first_and_rest [] rest node first e = absurd (none-some node (sym first))
first_and_rest (x ∷ xs) rest node first e = let same : node ≡ x = same_Some node x first in rw (same, e) refl

greater : (a b : ℕ) → ord_max nat_cmp a b ≡ max a b
greater a b = first_of (grind (arith, nat_tests), grind (arith, common_steps))

-- the farthest of what is left after the first
pub farthest_rest : (c : Config) (tile : ℕ) (all left rest : List ℕ) (node most next : ℕ) → left ≡ node ∷ rest → next ≡ ord_max nat_cmp most (hops_between c tile node)
    → fold (λ most x. max most (hops_between c tile x)) most left ≡ farthest c tile all → fold (λ most x. max most (hops_between c tile x)) next rest ≡ farthest c tile all
farthest_rest c tile all left rest node most next left_is next_is so_far =
    rw (next_is, greater) (rw left_is at so_far)
