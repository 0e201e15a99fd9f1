use Rattle.std.proofs.Common.{◌≡◌, ◌+◌, ◌-◌, ◌<◌, drop, ap, ◌∙◌, arith}
use Rattle.std.proofs.lemmas.Bool.Decides.{nat_tests}
use Rattle.std.proofs.lemmas.Nat.{ones_le_self}
use Rattle.node_set.specs.Inner.{bits}
use Rattle.node_set.proofs.Counts.{next_bit, bit_found, bit_within}
use Rattle.node_set.proofs.words.bit_at_place.Goals as goal

pub loop-left-preserved : goal.loop-left-preserved
loop-left-preserved c =
    let some : 0 < c.args.word = omega (arith, ones_le_self c.args.word) in
    let one : c.from-one.result ≡ 1 = grind (arith, nat_tests) in
    let gone : c.args.place - c.loop-left.left + 1 ≡ c.args.place - (c.loop-left.left - c.from-one.result) = omega arith in (
      omega arith,
      next_bit c.args.word c.loop-left.rest (c.args.place - c.loop-left.left) (omega arith) c.loop-left.invariant.1 ∙ ap (λ n. drop n (bits 64 0 c.args.word)) gone,
    )

pub returns-clause-bit : goal.returns-clause-bit
returns-clause-bit c =
    let cleared : bits 64 0 c.loop-left.rest ≡ drop c.args.place (bits 64 0 c.args.word) = c.loop-left.invariant.1 ∙ ap (λ n. drop n (bits 64 0 c.args.word)) (omega arith) in
    bit_found c.args.word c.loop-left.rest c.args.place (omega arith) (omega arith) c.requires cleared

pub returns-clause-within : goal.returns-clause-within
returns-clause-within c =
    let cleared : bits 64 0 c.loop-left.rest ≡ drop c.args.place (bits 64 0 c.args.word) = c.loop-left.invariant.1 ∙ ap (λ n. drop n (bits 64 0 c.args.word)) (omega arith) in
    bit_within c.args.word c.loop-left.rest c.args.place (omega arith) (omega arith) c.requires cleared
