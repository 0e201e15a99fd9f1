-- Steps of one node, one after the other.
use Rattle.std.proofs.Common.{◌≡◌, ℕ, zero, suc, ◌+◌, ◌-◌, ◌<◌, ◌≤◌, true, false, List, [], refl, sym, ap, subst, ◌∙◌, arith, inl, inr}
use Rattle.std.proofs.lemmas.Bool.Decides.{eqb_tells}
use Rattle.elf_image.specs.Layout.{Setup}
use Rattle.wire_msg.specs.declared.messages.Msg.{Msg}
use Rattle.node_machine.specs.declared.nodes.Node.{Node}
use Rattle.node_machine.specs.Machine.{can_step, node_step}
use Rattle.node_machine.specs.Alone.{stepped}
use Rattle.node_machine.specs.Inner.{StepsSoFar, NodeHasStepped}

-- one step more
pub stepped_suc : (w : Setup) (node : Node) (n : ℕ) → stepped w node (suc n) ≡ (node_step w (stepped w node n)).node
unfolding stepped
stepped_suc w node zero = refl
stepped_suc w node (suc n) = stepped_suc w (node_step w node).node n

pub stepped_more : (w : Setup) (node : Node) (n : ℕ) → stepped w node (n + 1) ≡ (node_step w (stepped w node n)).node
stepped_more w node n =
    let next : n + 1 ≡ suc n = omega arith in
    ap (stepped w node) next ∙ stepped_suc w node n

pub none_yet : (w : Setup) (node : Node) → can_step node ≡ true → StepsSoFar w node node 0
unfolding stepped
none_yet w node can = record {
  here = refl;
  can = λ k low. let first : 0 ≡ k = omega (arith, low) in subst (λ n. can_step (stepped w node n) ≡ true) first can;
  quiet = λ k low. absurd (omega (arith, low));
}

module _ (w : Setup) (node now new : Node) (n : ℕ) (so_far : StepsSoFar w node now n) where
  pub can_now : can_step now ≡ true
  can_now = ap can_step so_far.here ∙ so_far.can n (omega arith)

  module _ (steps : new ≡ (node_step w now).node) where
    next_is : new ≡ stepped w node (n + 1)
    next_is = steps ∙ ap (λ a. (node_step w a).node) so_far.here ∙ sym (stepped_more w node n)

    -- it goes on where nothing was sent and the node can step again
    pub one_more_step : (node_step w now).sent ≡ [] → can_step new ≡ true → StepsSoFar w node new (n + 1)
    one_more_step none can = record {
      here = next_is;
      can = λ k low. elim (eqb_tells k (n + 1)) [
        | inl same ↦ subst (λ m. can_step (stepped w node m) ≡ true) (sym same.1) (ap can_step (sym next_is) ∙ can)
        | inr other ↦ so_far.can k (omega (arith, low, other.1))
      ];
      quiet = λ k low. elim (eqb_tells k n) [
        | inl same ↦ subst (λ m. (node_step w (stepped w node m)).sent ≡ []) (sym same.1) (ap (λ a. (node_step w a).sent) (sym so_far.here) ∙ none)
        | inr other ↦ so_far.quiet k (omega (arith, low, other.1))
      ];
    }

    -- or ends with that step
    pub ends_after : (most : ℕ) (mail : List (ℕ × Msg)) → n < most → mail ≡ (node_step w now).sent
        → (n + 1 < most → mail ≡ [] → can_step new ≡ false) → NodeHasStepped w most (n + 1) node new mail
    ends_after most mail low is stops =
        let before : n ≡ n + 1 - 1 = omega arith in
        record {
          few = omega (arith, low);
          are = record {
            some = omega arith;
            can = λ k low. so_far.can k low;
            quiet = λ k low. so_far.quiet k (omega (arith, low));
          };
          stops = stops;
          node = next_is;
          sent = is ∙ ap (λ a. (node_step w a).sent) so_far.here ∙ ap (λ m. (node_step w (stepped w node m)).sent) before;
        }

-- a tile that may make all the steps that it has room for, or another node that may make one, has room for them
pub steps_fit : (id tiles made most room : ℕ) → made < room → (id < tiles → made + most ≡ room) → (tiles ≤ id → most ≡ 1) → made + most ≤ room
steps_fit id tiles made most room below tile other = grind arith

pub several_are_of_a_tile : (id tiles n most : ℕ) → 1 < n → n ≤ most → (tiles ≤ id → most ≡ 1) → id < tiles
several_are_of_a_tile id tiles n most many few other = grind arith
