-- Whether each node can step, noted one after the other.
use Rattle.std.proofs.Common.{◌≡◌, ℕ, false, refl, zero, suc, ◌+◌, List, [], ◌∷◌, ◌++◌, length, map, take, drop, sym, ap, subst, arith}
use Rattle.std.specs.Prelude.{Some, slice_get, slice_set, slice_index_or}
use Rattle.std.proofs.lemmas.Option.{same_Some}
use Rattle.node_machine.specs.declared.nodes.Node.{Node}
use Rattle.node_machine.specs.Machine.{can_step}
use Rattle.node_machine.specs.Core.{steps_at}

noted_further : {A B : Type 0} (f : A → B) (xs : List A) (ys : List B) (i : ℕ) (x : A) → slice_get xs i ≡ Some x → length ys ≡ length xs
    → slice_set (map f (take i xs) ++ drop i ys) i (f x) ≡ map f (take (suc i) xs) ++ drop (suc i) ys
noted_further f [] ys i x at same = cc (at)
noted_further f (z ∷ xs) [] i x at same = absurd (omega (arith, same))
noted_further f (z ∷ xs) (y ∷ ys) zero x at same = ap (λ a. f a ∷ ys) (sym (same_Some z x at))
noted_further f (z ∷ xs) (y ∷ ys) (suc i) x at same = ap (λ bs. f z ∷ bs) (noted_further f xs ys i x at (omega (arith, same)))

-- a place further, a list whose front has a function's values has one more of them
pub noted : {A B : Type 0} (f : A → B) (xs : List A) (ys : List B) (i : ℕ) (x : A) → slice_get xs i ≡ Some x → length ys ≡ length xs
    → slice_set (map f (take i xs) ++ drop i ys) i (f x) ≡ map f (take (i + 1) xs) ++ drop (i + 1) ys
noted f xs ys i x at same =
    let next : suc i ≡ i + 1 = omega arith in
    subst (λ n. slice_set (map f (take i xs) ++ drop i ys) i (f x) ≡ map f (take n xs) ++ drop n ys) next (noted_further f xs ys i x at same)

-- what is noted of a node is whether it can step
pub noted_step : (nodes : List Node) (id : ℕ) → slice_index_or (map can_step nodes) id false ≡ steps_at (slice_get nodes id)
noted_step [] zero = refl
noted_step [] (suc id) = refl
noted_step (node ∷ nodes) zero = refl
noted_step (node ∷ nodes) (suc id) = noted_step nodes id
