-- The nodes whose bits are set in words, as the numbers of a range that pass a test.
use Rattle.std.proofs.Common.{◌≡◌, ◌≢◌, ℕ, zero, suc, ◌+◌, ◌*◌, ◌/◌, ◌%◌, ◌^◌, ◌<◌, ◌≤◌, Bool, true, false, cond, List, [], ◌∷◌, ◌++◌, length, get_or, set, refl, sym, ap, ◌∙◌, subst, arith, inl, inr}
use Rattle.std.specs.Prelude.{◌==◌, not, filter, bit_and, bit_or}
use Rattle.std.specs.List.{range_with_len}
use Rattle.std.specs.Int.{bit_at, bit_not, w64}
use Rattle.std.proofs.lemmas.Bool.{eqb-false, cases_eq}
use Rattle.std.proofs.lemmas.List.{length-set, get_or-set_same, get_or-set_other}
use Rattle.std.proofs.lemmas.List.Elements.{filter-append, All-filter}
use Rattle.std.proofs.lemmas.List.Filters.{length-filter_both}
use Rattle.std.proofs.lemmas.List.FromFn.{length-range_with_len}
use Rattle.std.proofs.lemmas.Nat.Bits.{bit_at_lowest, bit_at-suc, shr_and_one, bit_at_set_same, bit_at_set_other, bit_at_clear_same, bit_at_clear_other}
use Rattle.node_set.specs.NodeSet.{IsNodeSet, has_node, with_node, without}
use Rattle.node_set.specs.Inner.{bits, nodes_from}
use Rattle.node_set.proofs.Sets.{Ascends-filter}
use Rattle.node_set.proofs.Ranges.{Ascends-range, range-below, range-append, filter_with, filter_without, has_node-range}

-- what passes of so many numbers, from one on. A range of 64 or 256 numbers is not to be written out
unfoldable passing : (ℕ → Bool) → ℕ → ℕ → List ℕ
passing p first count = filter p (range_with_len first count)

passing-append : (p : ℕ → Bool) (first m n : ℕ) → passing p first (m + n) ≡ passing p first m ++ passing p (first + m) n
unfolding passing
passing-append p first m n = ap (filter p) (range-append first m n) ∙ filter-append p (range_with_len first m) (range_with_len (first + m) n)

passing-with : (p q : ℕ → Bool) (x count : ℕ) → ((i : ℕ) → (i == x) ≡ false → q i ≡ p i) → q x ≡ true → x < count → passing q 0 count ≡ with_node x (passing p 0 count)
unfolding passing
passing-with p q x count same passes l = filter_with p q x same passes 0 count (omega arith) (omega arith)

passing-without : (p q : ℕ → Bool) (x count : ℕ) → ((i : ℕ) → (i == x) ≡ false → q i ≡ p i) → q x ≡ false → passing q 0 count ≡ without x (passing p 0 count)
unfolding passing
passing-without p q x count same fails = filter_without p q x same fails (range_with_len 0 count)

has_node-passing : (p : ℕ → Bool) (x count : ℕ) → x < count → has_node x (passing p 0 count) ≡ p x
unfolding passing
has_node-passing p x count l = has_node-range p x 0 count (omega arith) (omega arith)

passing_known : (p : ℕ → Bool) (count : ℕ) → count ≤ 256 → IsNodeSet (passing p 0 count)
unfolding passing
passing_known p count l = record {
  ascends = Ascends-filter p (range_with_len 0 count) (Ascends-range 0 count);
  below = All-filter p (λ node. node < 256) (range_with_len 0 count) (range-below 0 count 256 (omega arith));
}

passing_few : (p : ℕ → Bool) (count : ℕ) → length (passing p 0 count) ≤ count
unfolding passing
passing_few p count = omega (arith, length-filter_both p (λ i. not (p i)) (λ i. refl) (range_with_len 0 count), length-range_with_len 0 count)

-- the bits of one word
bits-passing : (p : ℕ → Bool) (count first word : ℕ) → ((i : ℕ) → i < count → p (first + i) ≡ (bit_at word i == 1)) → bits count first word ≡ passing p first count
unfolding bits passing
bits-passing p zero first word h = refl
bits-passing p (suc count) first word h =
    let same : first ≡ first + 0 = omega arith in
    let here : (word % 2 == 1) ≡ p first = ap (λ b. b == 1) (sym (bit_at_lowest word)) ∙ sym (h 0 (omega arith)) ∙ ap p (sym same) in
    let rest : bits count (first + 1) (word / 2) ≡ passing p (first + 1) count = bits-passing p count (first + 1) (word / 2) (λ i l. ap p (omega arith) ∙ h (suc i) (omega (arith, l)) ∙ ap (λ b. b == 1) (bit_at-suc word i)) in
    ap (λ b. cond b (first ∷ bits count (first + 1) (word / 2)) (bits count (first + 1) (word / 2))) here ∙ ap (λ ys. cond (p first) (first ∷ ys) ys) rest

-- whether the bit of a node is set
abbrev pub is_set : List ℕ → ℕ → Bool
is_set words node = bit_at (get_or words (node / 64) 0) (node % 64) == 1

passing-none : (p : ℕ → Bool) (first : ℕ) → passing p first 0 ≡ []
unfolding passing
passing-none p first = refl

-- the first word's bits, and those after it
first_word : (word : ℕ) (words : List ℕ) (i : ℕ) → i < 64 → is_set (word ∷ words) i ≡ (bit_at word i == 1)
first_word word words i l =
    let place : i / 64 ≡ 0 = omega arith in
    let within : i % 64 ≡ i = omega arith in
    rw (place, within) refl

later_words : (word : ℕ) (words : List ℕ) (i : ℕ) → is_set (word ∷ words) (64 + i) ≡ is_set words i
later_words word words i =
    let place : (64 + i) / 64 ≡ suc (i / 64) = omega arith in
    let within : (64 + i) % 64 ≡ i % 64 = omega arith in
    rw (place, within) refl

-- the bits of all words
nodes-passing : (p : ℕ → Bool) (words : List ℕ) (first : ℕ) → ((i : ℕ) → i < 64 * length words → p (first + i) ≡ is_set words i) → nodes_from first words ≡ passing p first (64 * length words)
nodes-passing p [] first h = sym (passing-none p first)
nodes-passing p (word ∷ words) first h =
    let long : 64 * length (word ∷ words) ≡ 64 + 64 * length words = omega arith in
    let here : bits 64 first word ≡ passing p first 64 = bits-passing p 64 first word (λ i l. h i (omega (arith, l)) ∙ first_word word words i l) in
    let rest : nodes_from (first + 64) words ≡ passing p (first + 64) (64 * length words) =
    nodes-passing p words (first + 64) (λ i l. ap p (omega arith) ∙ h (64 + i) (omega (arith, l)) ∙ later_words word words i) in
    ap (λ xs. xs ++ nodes_from (first + 64) words) here ∙ ap (λ xs. passing p first 64 ++ xs) rest ∙ sym (passing-append p first 64 (64 * length words)) ∙ ap (passing p first) (sym long)

nodes_are : (words : List ℕ) → nodes_from 0 words ≡ passing (is_set words) 0 (64 * length words)
nodes_are words = nodes-passing (is_set words) words 0 (λ i l. ap (is_set words) (omega arith))

-- What a set of four words is

pub nodes_known : (words : List ℕ) (nodes : List ℕ) → length words ≡ 4 → nodes_from 0 words ≡ nodes → IsNodeSet nodes
nodes_known words nodes four e = subst IsNodeSet (sym (nodes_are words) ∙ e) (passing_known (is_set words) (64 * length words) (omega arith))

pub nodes_few : (words : List ℕ) (nodes : List ℕ) → length words ≡ 4 → nodes_from 0 words ≡ nodes → length nodes ≤ 256
nodes_few words nodes four e = omega (arith, ap length (sym (nodes_are words) ∙ e), passing_few (is_set words) (64 * length words))

pub has_node-nodes : (words : List ℕ) (nodes : List ℕ) (node : ℕ) → length words ≡ 4 → node < 256 → nodes_from 0 words ≡ nodes → (bit_and (get_or words (node / 64) 0 / 2 ^ (node % 64)) 1 == 1) ≡ has_node node nodes
has_node-nodes words nodes node four l e =
    ap (λ b. b == 1) (shr_and_one (get_or words (node / 64) 0) (node % 64))
    ∙ sym (has_node-passing (is_set words) node (64 * length words) (omega arith)) ∙ ap (has_node node) (sym (nodes_are words) ∙ e)

-- Where one word changes, at one bit

-- a node of another word, or of another bit of this one
other_node : (words : List ℕ) (node word i : ℕ) → node / 64 < length words → (i == node) ≡ false
    → ((bit : ℕ) → bit < 64 → bit ≢ node % 64 → bit_at word bit ≡ bit_at (get_or words (node / 64) 0) bit) → is_set (set words (node / 64) word) i ≡ is_set words i
other_node words node word i l other kept =
    elim (cases_eq (i / 64) (node / 64)) [
      | inl e ↦
          let apart : i % 64 ≢ node % 64 = λ same. eqb-false i node other (omega arith) in
          let new : get_or (set words (node / 64) word) (i / 64) 0 ≡ word = ap (λ k. get_or (set words (node / 64) word) k 0) e ∙ get_or-set_same words (node / 64) word 0 l in
          let bit : bit_at word (i % 64) ≡ bit_at (get_or words (node / 64) 0) (i % 64) = kept (i % 64) (omega arith) apart in
          ap (λ w. bit_at w (i % 64) == 1) new ∙ ap (λ b. b == 1) bit ∙ ap (λ k. bit_at (get_or words k 0) (i % 64) == 1) (sym e)
      | inr apart ↦ ap (λ w. bit_at w (i % 64) == 1) (get_or-set_other words (node / 64) (i / 64) word 0 apart)
    ]

this_node : (words : List ℕ) (node word : ℕ) → node / 64 < length words → is_set (set words (node / 64) word) node ≡ (bit_at word (node % 64) == 1)
this_node words node word l = ap (λ w. bit_at w (node % 64) == 1) (get_or-set_same words (node / 64) word 0 l)

pub nodes-insert : (words : List ℕ) (nodes : List ℕ) (node : ℕ) → length words ≡ 4 → node < 256 → nodes_from 0 words ≡ nodes
    → nodes_from 0 (set words (node / 64) (bit_or (get_or words (node / 64) 0) (1 * 2 ^ (node % 64) % 2 ^ 64))) ≡ with_node node nodes
nodes-insert words nodes node four l e =
    let old : ℕ = get_or words (node / 64) 0 in
    let word : ℕ = bit_or old (1 * 2 ^ (node % 64) % 2 ^ 64) in
    let place : node / 64 < length words = omega arith in
    let bit : node % 64 < 64 = omega arith in
    let more : passing (is_set (set words (node / 64) word)) 0 (64 * length words) ≡ with_node node (passing (is_set words) 0 (64 * length words)) =
    passing-with (is_set words) (is_set (set words (node / 64) word)) node (64 * length words)
    (λ i other. other_node words node word i place other (λ k m apart. bit_at_set_other w64 old (node % 64) bit k apart))
    (this_node words node word place ∙ ap (λ b. b == 1) (bit_at_set_same w64 old (node % 64) bit)) (omega arith) in
    nodes_are (set words (node / 64) word) ∙ ap (λ n. passing (is_set (set words (node / 64) word)) 0 (64 * n)) (length-set words (node / 64) word)
    ∙ more ∙ ap (with_node node) (sym (nodes_are words) ∙ e)

pub nodes-remove : (words : List ℕ) (nodes : List ℕ) (node : ℕ) → length words ≡ 4 → node < 256 → nodes_from 0 words ≡ nodes
    → nodes_from 0 (set words (node / 64) (bit_and (get_or words (node / 64) 0) (bit_not w64 (1 * 2 ^ (node % 64) % 2 ^ 64)))) ≡ without node nodes
nodes-remove words nodes node four l e =
    let old : ℕ = get_or words (node / 64) 0 in
    let word : ℕ = bit_and old (bit_not w64 (1 * 2 ^ (node % 64) % 2 ^ 64)) in
    let place : node / 64 < length words = omega arith in
    let bit : node % 64 < 64 = omega arith in
    let fewer : passing (is_set (set words (node / 64) word)) 0 (64 * length words) ≡ without node (passing (is_set words) 0 (64 * length words)) =
    passing-without (is_set words) (is_set (set words (node / 64) word)) node (64 * length words)
    (λ i other. other_node words node word i place other (λ k m apart. bit_at_clear_other w64 old (node % 64) bit k m apart))
    (this_node words node word place ∙ ap (λ b. b == 1) (bit_at_clear_same w64 old (node % 64) bit)) in
    nodes_are (set words (node / 64) word) ∙ ap (λ n. passing (is_set (set words (node / 64) word)) 0 (64 * n)) (length-set words (node / 64) word)
    ∙ fewer ∙ ap (without node) (sym (nodes_are words) ∙ e)
