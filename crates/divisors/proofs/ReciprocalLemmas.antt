-- A product with a reciprocal, without its low 64 bits, is a quotient; its low 64 bits, times the number, give the remainder.
use Rattle.std.proofs.Common.{◌≡◌, ◌≢◌, ℕ, ◌+◌, ◌-◌, ◌*◌, ◌/◌, ◌%◌, ◌^◌, ◌<◌, ◌≤◌, ◌∙◌, arith, sym, ap, inl, inr}
use Rattle.std.proofs.Math.Nat.{div-add-mod, mod-lt, mod-eq_of_lt, mod-one, mul-zero, div-one, div-eq_of_lt-le, lt_of_mul-lt-mul_right}
use Rattle.std.proofs.lemmas.Nat.{mul-le}
use Rattle.std.proofs.lemmas.Bool.{cases_eq}
use Rattle.divisors.specs.Reciprocal.{IsDivisor, reciprocal_of}

-- where d times m is a bit above 2^64, and w times that bit isn't 2^64 yet
quotient_from : (w d m q s e : ℕ) → w ≡ d * q + s → s < d → m * d ≡ 18446744073709551616 + e → w * e < 18446744073709551616
    → w * m / 18446744073709551616 ≡ q
quotient_from w d m q s e split rest up bit =
    let spread : w * m ≡ (d * q + s) * m = ap (λ x. x * m) split in
    let turns : q * (m * d) ≡ q * (18446744073709551616 + e) = ap (λ x. q * x) up in
    let low : q * 18446744073709551616 ≤ w * m = omega arith in
    let whole : w * (m * d) ≡ w * (18446744073709551616 + e) = ap (λ x. w * x) up in
    let high : w * m * d < (q + 1) * 18446744073709551616 * d = omega arith in
    div-eq_of_lt-le 18446744073709551616 low (lt_of_mul-lt-mul_right d high)

-- the reciprocal of a number above 1 isn't cut
reciprocal_is : (d m : ℕ) → 1 < d → IsDivisor d m → m ≡ 18446744073709551615 / d + 1
reciprocal_is d m some is =
    let whole : d * (18446744073709551615 / d) + 18446744073709551615 % d ≡ 18446744073709551615 = div-add-mod 18446744073709551615 d in
    let half : 2 * (18446744073709551615 / d) ≤ d * (18446744073709551615 / d) =
    mul-le 2 (18446744073709551615 / d) d (18446744073709551615 / d) (omega arith) (omega arith) in
    let below : 18446744073709551615 / d + 1 < 18446744073709551616 = omega arith in
    is.reciprocal_is ∙ mod-eq_of_lt below

-- and its product with the number is this much above 2^64
product_is : (d m : ℕ) → 1 < d → IsDivisor d m → m * d ≡ 18446744073709551616 + (d - 1 - 18446744073709551615 % d)
product_is d m some is =
    let whole : d * (18446744073709551615 / d) + 18446744073709551615 % d ≡ 18446744073709551615 = div-add-mod 18446744073709551615 d in
    let less : 18446744073709551615 % d < d = mod-lt 18446744073709551615 is.some in
    let times : m * d ≡ (18446744073709551615 / d + 1) * d = ap (λ x. x * d) (reciprocal_is d m some is) in
    omega arith

-- the product of two numbers below 2^32
product_small : (w e : ℕ) → w < 2 ^ 32 → e < 2 ^ 32 → w * e < 18446744073709551616
product_small w e low small =
    let most : w * e ≤ 4294967295 * 4294967295 = mul-le w e 4294967295 4294967295 (omega arith) (omega arith) in
    omega arith

pub quotient_is : (w d m : ℕ) → w < 2 ^ 32 → d < 2 ^ 32 → d ≢ 1 → IsDivisor d m → w * m / 18446744073709551616 ≡ w / d
quotient_is w d m low small other is =
    let zero : 0 < d = is.some in
    let some : 1 < d = omega arith in
    let split : d * (w / d) + w % d ≡ w = div-add-mod w d in
    quotient_from w d m (w / d) (w % d) (d - 1 - 18446744073709551615 % d) (sym split) (mod-lt w zero) (product_is d m some is)
    (product_small w (d - 1 - 18446744073709551615 % d) low (omega arith))

pub quotient_by_one : (w d : ℕ) → d ≡ 1 → w ≡ w / d
quotient_by_one w d one = sym (ap (λ n. w / n) one ∙ div-one w)

-- where x is what w times m has beyond q times 2^64
remainder_from : (w d m q s e x : ℕ) → w ≡ d * q + s → m * d ≡ 18446744073709551616 + e → w * e < 18446744073709551616
    → 18446744073709551616 * q + x ≡ w * m → x * d / 18446744073709551616 ≡ s
remainder_from w d m q s e x split up bit beyond =
    let whole : w * (m * d) ≡ w * (18446744073709551616 + e) = ap (λ n. w * n) up in
    let times : (18446744073709551616 * q + x) * d ≡ w * m * d = ap (λ n. n * d) beyond in
    let spread : w * 18446744073709551616 ≡ (d * q + s) * 18446744073709551616 = ap (λ n. n * 18446744073709551616) split in
    let value : x * d ≡ s * 18446744073709551616 + w * e = omega arith in
    div-eq_of_lt-le 18446744073709551616 (omega arith) (omega arith)

remainder_above_one : (w d m : ℕ) → w < 2 ^ 32 → d < 2 ^ 32 → 1 < d → IsDivisor d m → w * m % 18446744073709551616 * d / 18446744073709551616 ≡ w % d
remainder_above_one w d m low small some is =
    let other : d ≢ 1 = λ one. absurd (omega arith) in
    let split : d * (w / d) + w % d ≡ w = div-add-mod w d in
    let beyond : 18446744073709551616 * (w * m / 18446744073709551616) + w * m % 18446744073709551616 ≡ w * m = div-add-mod (w * m) 18446744073709551616 in
    let scaled : 18446744073709551616 * (w / d) + w * m % 18446744073709551616 ≡ w * m =
    ap (λ q. 18446744073709551616 * q + w * m % 18446744073709551616) (sym (quotient_is w d m low small other is)) ∙ beyond in
    remainder_from w d m (w / d) (w % d) (d - 1 - 18446744073709551615 % d) (w * m % 18446744073709551616) (sym split) (product_is d m some is)
    (product_small w (d - 1 - 18446744073709551615 % d) low (omega arith)) scaled

-- the reciprocal of 1 is cut to 0, and so is the remainder
remainder_by_one : (w d m : ℕ) → d ≡ 1 → IsDivisor d m → w * m % 18446744073709551616 * d / 18446744073709551616 ≡ w % d
remainder_by_one w d m one is =
    let none : m ≡ 0 = is.reciprocal_is ∙ ap reciprocal_of one in
    rw (none, one, mul-zero) (sym (mod-one w))

pub remainder_is : (w d m : ℕ) → w < 2 ^ 32 → d < 2 ^ 32 → IsDivisor d m → w * m % 18446744073709551616 * d / 18446744073709551616 ≡ w % d
remainder_is w d m low small is =
    let zero : 0 < d = is.some in
    elim (cases_eq d 1) [
      | inl one ↦ remainder_by_one w d m one is
      | inr other ↦ let some : 1 < d = omega arith in remainder_above_one w d m low small some is
    ]
