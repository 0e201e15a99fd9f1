-- The number in some of a list's bytes, by their places.
use Rattle.std.proofs.Common.{◌≡◌, ℕ, zero, suc, ◌+◌, ◌≤◌, List, take, drop, map, slice_index, refl, ap, ◌∙◌, add-one, arith}
use Rattle.std.proofs.lemmas.List.{get_or-drop}
use Rattle.std.specs.List.{range_with_len}
use Rattle.byteorder.specs.Endian.{little_from, little_number}
use Rattle.byteorder.specs.Numbers.{little_from-cons, little_from-take}
use Rattle.sim_base.specs.LittleEndian.{loaded}

-- to pass bytes is to start as many places later
little_from-drop : (i n passed : ℕ) (xs : List ℕ) → little_from i n (drop passed xs) ≡ little_from (passed + i) n xs
little_from-drop i zero passed xs = refl
little_from-drop i (suc n) passed xs =
    let next : passed + suc i ≡ suc (passed + i) = omega arith in
    rw (get_or-drop passed xs i 0, little_from-drop (suc i) n passed xs, next) refl

little_from-loaded : (i n : ℕ) (xs : List ℕ) → little_from i n xs ≡ loaded (slice_index xs) i n
little_from-loaded i zero xs = refl
little_from-loaded i (suc n) xs =
    rw (add-one i, little_from-cons 0 n (slice_index xs i) (map (slice_index xs) (range_with_len (suc i) n)), little_from-loaded (suc i) n xs) refl

-- the number in the first bytes of those from an offset on
pub read-loaded : (offset size room : ℕ) (xs : List ℕ) → size ≤ room → little_number size (take room (drop offset xs)) ≡ loaded (slice_index xs) offset size
read-loaded offset size room xs h =
    let here : offset + 0 ≡ offset = omega arith in
    little_from-take 0 size room (drop offset xs) (omega arith) ∙ little_from-drop 0 size offset xs
    ∙ ap (λ i. little_from i size xs) here ∙ little_from-loaded offset size xs
