-- How many bits of words are set, and which one is at a place.
use Rattle.std.proofs.Common.{◌≡◌, ℕ, zero, suc, ◌+◌, ◌-◌, ◌*◌, ◌/◌, ◌%◌, ◌^◌, ◌<◌, ◌≤◌, List, [], ◌∷◌, ◌++◌, length, get_or, map, drop, refl, sym, ap, ◌∙◌, arith, inl, inr, Some, length-drop}
use Rattle.std.specs.Prelude.{slice_get, bit_and, count_ones}
use Rattle.std.specs.Option.{option_map}
use Rattle.std.specs.Int.Count.{ones_step, count_trailing_zeros}
use Rattle.std.specs.Int.Bits.{and_step, and_self, and_zero_l}
use Rattle.std.proofs.lemmas.Bool.{cases_eq, eq-eqb, ne_eqb}
use Rattle.std.proofs.lemmas.Nat.{ones_le_self}
use Rattle.std.specs.Int.{w64}
use Rattle.std.proofs.lemmas.List.{drop-drop}
use Rattle.std.proofs.lemmas.Nat.Bits.{bit_at-trailing_zeros}
use Rattle.std.proofs.lemmas.Option.{slice_get-map, slice_get_within}
use Rattle.std.proofs.Math.Seq.{drop-cons}
use Rattle.std.proofs.Math.Nat.{pow-suc}
use Rattle.node_set.specs.Inner.{bits, nodes_from}

-- a word's lowest bit is set or not
bits-odd : (count first word : ℕ) → word % 2 ≡ 1 → bits (suc count) first word ≡ first ∷ bits count (first + 1) (word / 2)
unfolding bits
bits-odd count first word odd = rw (eq-eqb (word % 2) 1 odd) refl

bits-even : (count first word : ℕ) → word % 2 ≡ 0 → bits (suc count) first word ≡ bits count (first + 1) (word / 2)
unfolding bits
bits-even count first word even = rw (ne_eqb (word % 2) 1 (λ odd. absurd (omega arith))) refl

bits-none : (first word : ℕ) → bits 0 first word ≡ []
unfolding bits
bits-none first word = refl

-- no bit of 0 is set
pub bits-zero : (count first : ℕ) → bits count first 0 ≡ []
bits-zero zero first = bits-none first 0
bits-zero (suc count) first = bits-even count first 0 refl ∙ bits-zero count (first + 1)

half_below : (count word : ℕ) → word < 2 ^ suc count → word / 2 < 2 ^ count
half_below count word l = omega (arith, pow-suc 2 count)

-- how many bits are set
pub length-bits : (count first word : ℕ) → word < 2 ^ count → length (bits count first word) ≡ count_ones word
length-bits zero first word l =
    omega (arith, ap length (bits-none first word), ones_le_self word)
length-bits (suc count) first word l =
    let rest : length (bits count (first + 1) (word / 2)) ≡ count_ones (word / 2) = length-bits count (first + 1) (word / 2) (half_below count word l) in
    elim (cases_eq (word % 2) 1) [
      | inl odd ↦ omega (arith, ap length (bits-odd count first word odd), ones_step word)
      | inr even ↦ let zero : word % 2 ≡ 0 = omega arith in omega (arith, ap length (bits-even count first word zero), ones_step word)
    ]

-- the numbers of the bits, from another number on
pub bits-from : (count base first word : ℕ) → bits count (base + first) word ≡ map (λ k. base + k) (bits count first word)
bits-from zero base first word = bits-none (base + first) word ∙ sym (ap (map (λ k. base + k)) (bits-none first word))
bits-from (suc count) base first word =
    let next : base + first + 1 ≡ base + (first + 1) = omega arith in
    let rest : bits count (base + first + 1) (word / 2) ≡ map (λ k. base + k) (bits count (first + 1) (word / 2)) =
    ap (λ n. bits count n (word / 2)) next ∙ bits-from count base (first + 1) (word / 2) in
    elim (cases_eq (word % 2) 1) [
      | inl odd ↦ bits-odd count (base + first) word odd ∙ ap (λ ks. (base + first) ∷ ks) rest ∙ sym (ap (map (λ k. base + k)) (bits-odd count first word odd))
      | inr even ↦
          let zero : word % 2 ≡ 0 = omega arith in
          bits-even count (base + first) word zero ∙ rest ∙ sym (ap (map (λ k. base + k)) (bits-even count first word zero))
    ]

-- without the lowest bit that is set, which `word & (word - 1)` clears
clear_odd : (word : ℕ) → word % 2 ≡ 1 → bit_and word (word - 1) ≡ word / 2 * 2
clear_odd word odd =
    let half : (word - 1) / 2 ≡ word / 2 = omega arith in
    let low : (word - 1) % 2 ≡ 0 = omega arith in
    and_step word (word - 1) ∙ rw (half, low, odd, and_self) (omega arith)

clear_even : (word : ℕ) → word % 2 ≡ 0 → bit_and word (word - 1) ≡ bit_and (word / 2) (word / 2 - 1) * 2
clear_even word even =
    let half : (word - 1) / 2 ≡ word / 2 - 1 = omega arith in
    and_step word (word - 1) ∙ rw (half, even) (omega arith)

bits-twice : (count first word half : ℕ) → word ≡ half * 2 → bits (suc count) first word ≡ bits count (first + 1) half
bits-twice count first word half e =
    let even : word % 2 ≡ 0 = omega arith in
    let same : word / 2 ≡ half = omega arith in
    bits-even count first word even ∙ ap (bits count (first + 1)) same

pub bits-clear : (count first word : ℕ) → bits count first (bit_and word (word - 1)) ≡ drop 1 (bits count first word)
bits-clear zero first word = bits-none first (bit_and word (word - 1)) ∙ sym (ap (drop 1) (bits-none first word))
bits-clear (suc count) first word =
    elim (cases_eq (word % 2) 1) [
      | inl odd ↦ bits-twice count first _ (word / 2) (clear_odd word odd) ∙ sym (ap (drop 1) (bits-odd count first word odd))
      | inr even ↦
          let zero : word % 2 ≡ 0 = omega arith in
          bits-twice count first _ (bit_and (word / 2) (word / 2 - 1)) (clear_even word zero) ∙ bits-clear count (first + 1) (word / 2) ∙ sym (ap (drop 1) (bits-even count first word zero))
    ]

-- the lowest bit that is set
pub bits-first : (count first word : ℕ) → 0 < word → word < 2 ^ count → slice_get (bits count first word) 0 ≡ Some (first + count_trailing_zeros count word)
unfolding count_trailing_zeros
bits-first zero first word some l = absurd (omega arith)
bits-first (suc count) first word some l =
    elim (cases_eq (word % 2) 1) [
      | inl odd ↦ ap (λ ks. slice_get ks 0) (bits-odd count first word odd) ∙ rw odd (ap Some (omega arith))
      | inr even ↦
          let zero : word % 2 ≡ 0 = omega arith in
          ap (λ ks. slice_get ks 0) (bits-even count first word zero)
          ∙ bits-first count (first + 1) (word / 2) (omega arith) (half_below count word l) ∙ rw zero (ap Some (omega arith))
    ]

-- `word & word.wrapping_sub(1)`
wrapped : (word : ℕ) → word < 2 ^ 64 → bit_and word ((word + (2 ^ 64 - 1)) % 2 ^ 64) ≡ bit_and word (word - 1)
wrapped zero l = and_zero_l ((0 + (2 ^ 64 - 1)) % 2 ^ 64) ∙ sym (and_zero_l 0)
wrapped (suc word) l = ap (bit_and (suc word)) (omega arith)

slice_get-drop : (xs : List ℕ) (i : ℕ) → slice_get (drop i xs) 0 ≡ slice_get xs i
slice_get-drop [] zero = refl
slice_get-drop [] (suc i) = refl
slice_get-drop (x ∷ xs) zero = refl
slice_get-drop (x ∷ xs) (suc i) = slice_get-drop xs i

-- one bit fewer
pub next_bit : (word rest i : ℕ) → rest < 2 ^ 64 → bits 64 0 rest ≡ drop i (bits 64 0 word) → bits 64 0 (bit_and rest ((rest + (2 ^ 64 - 1)) % 2 ^ 64)) ≡ drop (i + 1) (bits 64 0 word)
next_bit word rest i l e = ap (bits 64 0) (wrapped rest l) ∙ bits-clear 64 0 rest ∙ ap (drop 1) e ∙ drop-drop 1 i (bits 64 0 word)

-- where there are more bits than a place, what is left without those before it has one
bit_left : (word rest place : ℕ) → word < 2 ^ 64 → place < count_ones word → bits 64 0 rest ≡ drop place (bits 64 0 word) → 0 < rest
bit_left word zero place l m e =
    let none : drop place (bits 64 0 word) ≡ [] = sym e ∙ bits-zero 64 0 in
    absurd (omega (arith, ap length none, length-drop place (bits 64 0 word), length-bits 64 0 word l))
bit_left word (suc rest) place l m e = omega arith

pub bit_found : (word rest place : ℕ) → word < 2 ^ 64 → rest < 2 ^ 64 → place < count_ones word → bits 64 0 rest ≡ drop place (bits 64 0 word) → slice_get (bits 64 0 word) place ≡ Some (count_trailing_zeros 64 rest)
bit_found word rest place l k m e =
    sym (slice_get-drop (bits 64 0 word) place) ∙ sym (ap (λ ks. slice_get ks 0) e) ∙ bits-first 64 0 rest (bit_left word rest place l m e) k ∙ ap Some (omega arith)

pub bit_within : (word rest place : ℕ) → word < 2 ^ 64 → rest < 2 ^ 64 → place < count_ones word → bits 64 0 rest ≡ drop place (bits 64 0 word) → count_trailing_zeros 64 rest < 64
bit_within word rest place l k m e = (bit_at-trailing_zeros w64 rest (bit_left word rest place l m e) k).0

-- a bit of a word, as the number of a node
pub bit_from : (base word place bit : ℕ) → slice_get (bits 64 0 word) place ≡ Some bit → slice_get (bits 64 base word) place ≡ Some (base + bit)
bit_from base word place bit e =
    let start : base ≡ base + 0 = omega arith in
    ap (λ first. slice_get (bits 64 first word) place) start ∙ ap (λ ks. slice_get ks place) (bits-from 64 base 0 word)
    ∙ slice_get-map (λ k. base + k) (bits 64 0 word) place ∙ ap (option_map (λ k. base + k)) e

-- a place of two lists
pub slice_get-left : (xs ys : List ℕ) (i : ℕ) → i < length xs → slice_get (xs ++ ys) i ≡ slice_get xs i
slice_get-left [] ys i l = absurd (omega arith)
slice_get-left (x ∷ xs) ys zero l = refl
slice_get-left (x ∷ xs) ys (suc i) l = slice_get-left xs ys i (omega arith)

pub slice_get-right : (xs ys : List ℕ) (i : ℕ) → length xs ≤ i → slice_get (xs ++ ys) i ≡ slice_get ys (i - length xs)
slice_get-right [] ys i l = ap (slice_get ys) (omega arith)
slice_get-right (x ∷ xs) ys zero l = absurd (omega arith)
slice_get-right (x ∷ xs) ys (suc i) l = slice_get-right xs ys i (omega arith) ∙ ap (slice_get ys) (omega arith)

-- the nodes from one word on: its own, and those of the words after it
pub nodes-drop : (words : List ℕ) (index : ℕ) → index < length words → nodes_from (64 * index) (drop index words) ≡ bits 64 (64 * index) (get_or words index 0) ++ nodes_from (64 * (index + 1)) (drop (index + 1) words)
nodes-drop words index l =
    let next : 64 * index + 64 ≡ 64 * (index + 1) = omega arith in
    let more : suc index ≡ index + 1 = omega arith in
    let rest : List ℕ → ℕ → List ℕ = λ rest first. bits 64 (64 * index) (get_or words index 0) ++ nodes_from first rest in
    ap (nodes_from (64 * index)) (drop-cons words index 0 l) ∙ ap (rest (drop (suc index) words)) next ∙ ap (λ k. rest (drop k words) (64 * (index + 1))) more

-- the node at a place, where it is one of this word
pub place_here : (words nodes : List ℕ) (index left place bit : ℕ) → index < length words → nodes_from 0 words ≡ nodes
    → slice_get (nodes_from (64 * index) (drop index words)) left ≡ slice_get (nodes_from 0 words) place
    → slice_get (bits 64 0 (get_or words index 0)) left ≡ Some bit → Some (64 * index + bit) ≡ slice_get nodes place
place_here words nodes index left place bit l view same e =
    let base : ℕ = 64 * index in
    let word : ℕ = get_or words index 0 in
    let here : slice_get (bits 64 base word) left ≡ Some (base + bit) = bit_from base word left bit e in
    let within : left < length (bits 64 base word) = slice_get_within (bits 64 base word) left (base + bit) here in
    sym here ∙ sym (slice_get-left (bits 64 base word) (nodes_from (64 * (index + 1)) (drop (index + 1) words)) left within)
    ∙ sym (ap (λ ks. slice_get ks left) (nodes-drop words index l)) ∙ same ∙ ap (λ ks. slice_get ks place) view

-- and where it is one of a later word
pub place_later : (words : List ℕ) (index left place : ℕ) → index < length words → get_or words index 0 < 2 ^ 64 → count_ones (get_or words index 0) ≤ left
    → slice_get (nodes_from (64 * index) (drop index words)) left ≡ slice_get (nodes_from 0 words) place
    → slice_get (nodes_from (64 * (index + 1)) (drop (index + 1) words)) (left - count_ones (get_or words index 0)) ≡ slice_get (nodes_from 0 words) place
place_later words index left place l fits m same =
    let base : ℕ = 64 * index in
    let word : ℕ = get_or words index 0 in
    let rest : List ℕ = nodes_from (64 * (index + 1)) (drop (index + 1) words) in
    let many : length (bits 64 base word) ≡ count_ones word = length-bits 64 base word fits in
    ap (λ n. slice_get rest (left - n)) (sym many) ∙ sym (slice_get-right (bits 64 base word) rest left (omega arith))
    ∙ sym (ap (λ ks. slice_get ks left) (nodes-drop words index l)) ∙ same
