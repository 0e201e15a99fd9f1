-- How large the numbers of a mesh of checked settings are.
use Rattle.std.proofs.Common.{◌≡◌, ℕ, zero, suc, ◌+◌, ◌-◌, ◌*◌, ◌/◌, ◌<◌, ◌≤◌, Bool, true, false, Some, nat_le, find, cond, ◌⊎◌, inl, inr, sym, refl, subst, arith}
use Rattle.std.specs.Option.{unwrap_or}
use Rattle.std.specs.List.{range_with_len}
use Rattle.std.proofs.lemmas.Bool.Decides.{nat_tests}
use Rattle.std.proofs.lemmas.Bool.{cases_lt}
use Rattle.std.proofs.lemmas.Nat.{mul-le, div_below, mod_below}
use Rattle.sim_base.specs.declared.settings.Config.{Config}
use Rattle.sim_base.specs.Numbering.{node_count, place_of}
use Rattle.sim_base.specs.Settings.{IsChecked}
use Rattle.sim_base.proofs.CheckedSettings.{in_range}
use Rattle.mesh_model.specs.Mesh.{side, apart, column, row, hops_between, diameter}

-- a number that passes a test, and is at most k
record IsFoundBy (p : ℕ → Bool) (k found : ℕ) : Type 0 where
  passes : p found ≡ true
  least : found ≤ k

-- what `find` gives in a range in which k passes
found_in_range : (p : ℕ → Bool) (n a k : ℕ) → a ≤ k → k < a + n → p k ≡ true → IsFoundBy p k (unwrap_or (find p (range_with_len a n)) 0)
found_in_range p zero a k low high h = absurd (omega arith)
found_in_range p (suc n) a k low high h =
    let P : Bool → Type 0 = λ b. IsFoundBy p k (unwrap_or (cond b (Some a) (find p (range_with_len (a + 1) n))) 0) in
    elim (test (p a)) [
      | inl here ↦ subst P (sym here) (record { passes = here; least = low })
      | inr fails ↦
          let later : a < k = elim (cases_lt a k) [ inl l ↦ l | inr g ↦ let same : a ≡ k = omega arith in cc ] in
          subst P (sym fails) (found_in_range p n (a + 1) k (omega arith) (omega arith) h)
    ]
  where
    test : (b : Bool) → (b ≡ true) ⊎ (b ≡ false)
    test true = inl refl
    test false = inr refl

-- the side has room for the tiles, and is at most any number that has
pub side_is_least : (c : Config) (k : ℕ) → k ≤ c.tiles → c.tiles ≤ k * k → (c.tiles ≤ side c * side c) × (side c ≤ k)
unfolding side
side_is_least c k low room =
    let f = found_in_range (λ w. nat_le c.tiles (w * w)) (c.tiles + 1) 0 k (omega arith) (omega arith) (grind (arith, nat_tests)) in
    let p : nat_le c.tiles (side c * side c) ≡ true = f.passes in
    (grind (arith, nat_tests), f.least)

-- a number is at most its square
within_square : (n : ℕ) → 1 ≤ n → n ≤ n * n
within_square n h = grind arith

-- the side is the number whose square has room for the tiles, where the square of the one below it has not
pub side_is : (c : Config) (k : ℕ) → (k - 1) * (k - 1) < c.tiles → c.tiles ≤ k * k → k ≡ side c
side_is c k narrow room =
    let near : k ≤ c.tiles = elim (cases_lt k 2) [ inl l ↦ omega arith | inr g ↦ omega (arith, within_square (k - 1) (omega arith)) ] in
    let least : (c.tiles ≤ side c * side c) × (side c ≤ k) = side_is_least c k near room in
    elim (cases_lt (side c) k) [
      | inl l ↦
          let few : side c * side c ≤ (k - 1) * (k - 1) = mul-le (side c) (side c) (k - 1) (k - 1) (omega arith) (omega arith) in
          absurd (omega (arith, least.0))
      | inr g ↦ omega (arith, least.1)
    ]

-- the square has room for the tiles, and 8 by 8 are the most
pub record IsSide (c : Config) : Type 0 where
  pub room : c.tiles ≤ side c * side c
  pub some : 1 ≤ side c
  pub few : side c ≤ 8

pub side_bounds : (c : Config) → IsChecked c → IsSide c
side_bounds c h =
    let r = in_range c h in
    let least : (c.tiles ≤ side c * side c) × (side c ≤ 8) = elim (cases_lt c.tiles 8) [
      | inl l ↦
          let s = side_is_least c c.tiles (omega arith) (within_square c.tiles r.some_tile) in (s.0, omega arith)
      | inr g ↦ side_is_least c 8 g r.tiles
    ] in
    record { room = least.0; some = not_empty (side c) (omega arith); few = least.1 }
  where
    not_empty : (w : ℕ) → 1 ≤ w * w → 1 ≤ w
    not_empty zero l = l
    not_empty (suc w) l = omega arith

place_in_range : (c : Config) (node : ℕ) → IsChecked c → node < node_count c → place_of c node < c.tiles
place_in_range c node h l = let r = in_range c h in grind (arith, nat_tests)

apart_below : (a b n : ℕ) → a < n → b < n → apart a b ≤ n - 1
apart_below a b n h l = omega arith

-- no two nodes are farther apart than the corners
pub hops_near : (c : Config) (a b : ℕ) → IsChecked c → a < node_count c → b < node_count c → hops_between c a b ≤ diameter c
hops_near c a b h la lb =
    let s = side_bounds c h in
    let pa = place_in_range c a h la in
    let pb = place_in_range c b h lb in
    let columns : apart (column c a) (column c b) ≤ side c - 1 =
    apart_below (column c a) (column c b) (side c) (mod_below (place_of c a) (side c) s.some) (mod_below (place_of c b) (side c) s.some) in
    let rows : apart (row c a) (row c b) ≤ side c - 1 =
    apart_below (row c a) (row c b) (side c) (div_below (place_of c a) (side c) (side c) s.some (omega arith)) (div_below (place_of c b) (side c) (side c) s.some (omega arith)) in
    omega arith

-- a way of so many hops, so many times, costs no more than from corner to corner
pub way_bound : (k hops most cost : ℕ) → hops ≤ most → k * hops * cost ≤ k * most * cost
way_bound k hops most cost h = mul-le (k * hops) cost (k * most) cost (mul-le k hops k most (omega arith) h) (omega arith)

-- the bounds that keep sums of costs small
pub side_bound : (c : Config) → IsChecked c → side c ≤ 8
side_bound c h = (side_bounds c h).few

pub alu_bound : (c : Config) → IsChecked c → c.alu_cost ≤ 1000000
alu_bound c h = (in_range c h).alu_cost

pub mul_bound : (c : Config) → IsChecked c → c.mul_cost ≤ 1000000
mul_bound c h = (in_range c h).mul_cost

pub div_bound : (c : Config) → IsChecked c → c.div_cost ≤ 1000000
div_bound c h = (in_range c h).div_cost

pub mem_bound : (c : Config) → IsChecked c → c.mem_cost ≤ 1000000
mem_bound c h = (in_range c h).mem_cost

pub amo_bound : (c : Config) → IsChecked c → c.amo_cost ≤ 1000000
amo_bound c h = (in_range c h).amo_cost

pub directory_bound : (c : Config) → IsChecked c → c.directory_cost ≤ 1000000
directory_bound c h = (in_range c h).directory_cost

pub memory_bound : (c : Config) → IsChecked c → c.memory_cost ≤ 1000000
memory_bound c h = (in_range c h).memory_cost

pub travel_bound : (c : Config) (hops : ℕ) → IsChecked c → hops ≤ 56 → hops * c.hop_cost ≤ 56000000
travel_bound c hops h l = mul-le hops c.hop_cost 56 1000000 l (in_range c h).hop_cost

pub ruleset bounds = (side_bound, alu_bound, mul_bound, div_bound, mem_bound, amo_bound, directory_bound, memory_bound, travel_bound)

-- a place of a square mesh lies in one of its rows
pub row_below : (place side : ℕ) → 1 ≤ side → place < side * side → place / side < side
row_below place side some inside = div_below place side side some inside
