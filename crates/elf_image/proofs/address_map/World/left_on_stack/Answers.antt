use Rattle.std.proofs.Common.{◌≡◌, ◌-◌, ◌+◌, ◌*◌, ◌/◌, ◌%◌, ◌∙◌, ℕ, ap, nat_lt, true, false, arith}
use Rattle.std.proofs.lemmas.Bool.Decides.{nat_tests}
use Rattle.std.proofs.lemmas.Nat.{div-add-mod'}
use Rattle.elf_image.proofs.Stacks.{on_stack, below_stacks, free_stack}
use Rattle.elf_image.proofs.address_map.World.left_on_stack.Goals as goal
use Rattle.elf_image.proofs.address_map.World.left_on_stack.Goals.{else-tile-self-via-then-tile-self+else-place-stack, else-tile-self-via-else-tile-self}

-- what a quotient leaves is the remainder
what_is_left : (x n quotient number : ℕ) → quotient ≡ x / n → number ≡ n → x - quotient * number ≡ x % n
what_is_left x n quotient number is same = rw (is, same) (omega (arith, div-add-mod' x n))

pub returns-then-address-base-clause-on : goal.returns-then-address-base-clause-on
returns-then-address-base-clause-on c = rw (← c.self.view_is) (below_stacks _ _ c.args.address c.self.invariant.laid_out c.if-address-base.true)

pub returns-then-place-stack-clause-on : goal.returns-then-place-stack-clause-on
returns-then-place-stack-clause-on c =
    let tile : c.quotient-tile.result ≡ (c.args.address - c.self.inside.layout.stack_base) / (c.self.inside.config.stack_bytes + 4096) =
    c.quotient-tile.ensures ∙ ap (λ n. (c.args.address - c.self.inside.layout.stack_base) / n) c.self.invariant.apart in
    let place : c.args.address - c.self.inside.layout.stack_base - c.quotient-tile.result * c.from.result ≡ (c.args.address - c.self.inside.layout.stack_base) % (c.self.inside.config.stack_bytes + 4096) =
    what_is_left _ _ _ _ tile (c.from.ensures ∙ c.number.ensures.value ∙ c.self.invariant.apart) in
    let on_some : nat_lt ((c.args.address - c.self.inside.layout.stack_base) / (c.self.inside.config.stack_bytes + 4096)) c.self.inside.config.tiles ≡ true = grind (arith, nat_tests) in
    let within : nat_lt ((c.args.address - c.self.inside.layout.stack_base) % (c.self.inside.config.stack_bytes + 4096)) c.self.inside.config.stack_bytes ≡ true = grind (arith, nat_tests) in
    let left : nat_lt 0 (c.self.inside.config.stack_bytes - (c.args.address - c.self.inside.layout.stack_base - c.quotient-tile.result * c.from.result)) ≡ true = grind (arith, nat_tests) in
    rw (← c.self.view_is, left) (rw (on_some, within) at (on_stack _ _ c.args.address c.self.invariant.laid_out c.if-address-base.false))

pub returns-then-place-stack-clause-free : goal.returns-then-place-stack-clause-free
returns-then-place-stack-clause-free c =
    let tile : c.quotient-tile.result ≡ (c.args.address - c.self.inside.layout.stack_base) / (c.self.inside.config.stack_bytes + 4096) =
    c.quotient-tile.ensures ∙ ap (λ n. (c.args.address - c.self.inside.layout.stack_base) / n) c.self.invariant.apart in
    let place : c.args.address - c.self.inside.layout.stack_base - c.quotient-tile.result * c.from.result ≡ (c.args.address - c.self.inside.layout.stack_base) % (c.self.inside.config.stack_bytes + 4096) =
    what_is_left _ _ _ _ tile (c.from.ensures ∙ c.number.ensures.value ∙ c.self.invariant.apart) in
    rw (← c.self.view_is, place) (free_stack _ _ c.args.address c.self.invariant.laid_out c.if-address-base.false (rw tile at c.if-tile-self.true) (rw place at c.if-place-stack.true))

pub returns-else-tile-self-clause-on : goal.returns-else-tile-self-clause-on
returns-else-tile-self-clause-on c =
    let tile : c.quotient-tile.result ≡ (c.args.address - c.self.inside.layout.stack_base) / (c.self.inside.config.stack_bytes + 4096) =
    c.quotient-tile.ensures ∙ ap (λ n. (c.args.address - c.self.inside.layout.stack_base) / n) c.self.invariant.apart in
    let place : c.args.address - c.self.inside.layout.stack_base - c.quotient-tile.result * c.from.result ≡ (c.args.address - c.self.inside.layout.stack_base) % (c.self.inside.config.stack_bytes + 4096) =
    what_is_left _ _ _ _ tile (c.from.ensures ∙ c.number.ensures.value ∙ c.self.invariant.apart) in
    elim c.else-tile-self.branch [
      | else-tile-self-via-then-tile-self+else-place-stack w ↦
          let on_some : nat_lt ((c.args.address - c.self.inside.layout.stack_base) / (c.self.inside.config.stack_bytes + 4096)) c.self.inside.config.tiles ≡ true = grind (arith, nat_tests) in
          let past : nat_lt ((c.args.address - c.self.inside.layout.stack_base) % (c.self.inside.config.stack_bytes + 4096)) c.self.inside.config.stack_bytes ≡ false = grind (arith, nat_tests) in
          rw (← c.self.view_is) (rw (on_some, past) at (on_stack _ _ c.args.address c.self.invariant.laid_out c.if-address-base.false))
      | else-tile-self-via-else-tile-self w ↦
          let none : nat_lt ((c.args.address - c.self.inside.layout.stack_base) / (c.self.inside.config.stack_bytes + 4096)) c.self.inside.config.tiles ≡ false = grind (arith, nat_tests) in
          rw (← c.self.view_is) (rw none at (on_stack _ _ c.args.address c.self.invariant.laid_out c.if-address-base.false))
    ]
