-- What the blocks of a journal and its noted events stand for: one more event, and many more of one event.
use Rattle.std.proofs.Common.{◌≡◌, ℕ, zero, suc, ◌+◌, ◌<◌, ◌≤◌, ◌&&◌, Bool, true, false, List, [], ◌∷◌, ◌++◌, length, take, drop, replicate, refl, ◌∙◌, sym, ap, arith, append_assoc, append-nil, length-append, length-drop}
use Rattle.std.specs.List.{repeat, list_all}
use Rattle.std.proofs.lemmas.List.{take-append-le, drop-append-le, length-replicate}
use Rattle.std.proofs.Math.Seq.{take-append_seam, drop-append_seam}
use Rattle.event_journal.specs.declared.blocks.Block.{Block}
use Rattle.event_journal.specs.declared.events.Event.{Event}
use Rattle.event_journal.specs.Blocks.{covered_of, covered_by, front, unrolled, is_whole, IsJournal}

-- a list of one member, repeated
pub repeat_one : {A : Type 0} (n : ℕ) (x : A) → repeat n (x ∷ []) ≡ replicate n x
repeat_one zero x = refl
repeat_one (suc n) x = ap (λ xs. x ∷ xs) (repeat_one n x)

-- a block has its own events alone: what is noted behind them doesn't change what it stands for
pub front-append : {A : Type 0} (block : Block) (noted more : List A) → covered_of block ≤ length noted → front block (noted ++ more) ≡ front block noted
front-append block noted more within =
    let once : take block.once (noted ++ more) ≡ take block.once noted = take-append-le block.once noted more (omega arith) in
    let behind : drop block.once (noted ++ more) ≡ drop block.once noted ++ more = drop-append-le block.once noted more (omega arith) in
    let room : block.size ≤ length (drop block.once noted) = omega (arith, length-drop block.once noted) in
    let again : take block.size (drop block.once (noted ++ more)) ≡ take block.size (drop block.once noted) =
    ap (take block.size) behind ∙ take-append-le block.size (drop block.once noted) more room in
    ap (λ xs. xs ++ repeat block.times (take block.size (drop block.once (noted ++ more)))) once
    ∙ ap (λ xs. take block.once noted ++ repeat block.times xs) again

-- what is noted behind the blocks stands once, at the end
pub unrolled-append : {A : Type 0} (blocks : List Block) (noted more : List A) → covered_by blocks ≤ length noted
    → unrolled blocks (noted ++ more) ≡ unrolled blocks noted ++ more
unrolled-append [] noted more within = refl
unrolled-append (block ∷ blocks) noted more within =
    let here : covered_of block ≤ length noted = omega arith in
    let behind : drop (covered_of block) (noted ++ more) ≡ drop (covered_of block) noted ++ more = drop-append-le (covered_of block) noted more here in
    let room : covered_by blocks ≤ length (drop (covered_of block) noted) = omega (arith, length-drop (covered_of block) noted) in
    ap (λ xs. xs ++ unrolled blocks (drop (covered_of block) (noted ++ more))) (front-append block noted more here)
    ∙ ap (λ xs. front block noted ++ unrolled blocks xs) behind
    ∙ ap (λ xs. front block noted ++ xs) (unrolled-append blocks (drop (covered_of block) noted) more room)
    ∙ sym (append_assoc (front block noted) (unrolled blocks (drop (covered_of block) noted)) more)

-- a last block, of all that is noted behind the others and stands once, and of one event that stands so many times
pub unrolled-block : {A : Type 0} (blocks : List Block) (noted : List A) (x : A) (block : Block) → covered_by blocks ≤ length noted
    → block.once + covered_by blocks ≡ length noted → block.size ≡ 1
    → unrolled (blocks ++ block ∷ []) (noted ++ x ∷ []) ≡ unrolled blocks noted ++ replicate block.times x
unrolled-block [] noted x block within once one =
    let all : block.once ≡ length noted = omega arith in
    let first : take block.once (noted ++ x ∷ []) ≡ noted = ap (λ n. take n (noted ++ x ∷ [])) all ∙ take-append_seam noted (x ∷ []) in
    let last : drop block.once (noted ++ x ∷ []) ≡ x ∷ [] = ap (λ n. drop n (noted ++ x ∷ [])) all ∙ drop-append_seam noted (x ∷ []) in
    let again : take block.size (drop block.once (noted ++ x ∷ [])) ≡ x ∷ [] = ap (take block.size) last ∙ ap (λ n. take n (x ∷ [])) one in
    let whole : covered_of block ≡ length (noted ++ x ∷ []) = omega (arith, length-append noted (x ∷ []), all, one) in
    let rest : drop (covered_of block) (noted ++ x ∷ []) ≡ [] =
    ap (λ n. drop n (noted ++ x ∷ [])) whole ∙ drop-all (noted ++ x ∷ []) in
    ap (λ xs. (take block.once (noted ++ x ∷ []) ++ repeat block.times (take block.size (drop block.once (noted ++ x ∷ [])))) ++ xs) rest
    ∙ append-nil (take block.once (noted ++ x ∷ []) ++ repeat block.times (take block.size (drop block.once (noted ++ x ∷ []))))
    ∙ ap (λ xs. xs ++ repeat block.times (take block.size (drop block.once (noted ++ x ∷ [])))) first
    ∙ ap (λ xs. noted ++ repeat block.times xs) again
    ∙ ap (λ xs. noted ++ xs) (repeat_one block.times x)
  where
    drop-all : {A : Type 0} (xs : List A) → drop (length xs) xs ≡ []
    drop-all [] = refl
    drop-all (y ∷ ys) = drop-all ys
unrolled-block (b ∷ blocks) noted x block within once one =
    let here : covered_of b ≤ length noted = omega arith in
    let behind : drop (covered_of b) (noted ++ x ∷ []) ≡ drop (covered_of b) noted ++ x ∷ [] = drop-append-le (covered_of b) noted (x ∷ []) here in
    let room : covered_by blocks ≤ length (drop (covered_of b) noted) = omega (arith, length-drop (covered_of b) noted) in
    let left : block.once + covered_by blocks ≡ length (drop (covered_of b) noted) = omega (arith, length-drop (covered_of b) noted) in
    ap (λ xs. xs ++ unrolled (blocks ++ block ∷ []) (drop (covered_of b) (noted ++ x ∷ []))) (front-append b noted (x ∷ []) here)
    ∙ ap (λ xs. front b noted ++ unrolled (blocks ++ block ∷ []) xs) behind
    ∙ ap (λ xs. front b noted ++ xs) (unrolled-block blocks (drop (covered_of b) noted) x block room left one)
    ∙ sym (append_assoc (front b noted) (unrolled blocks (drop (covered_of b) noted)) (replicate block.times x))

-- what blocks have of the noted events, with one more block
pub covered_by-append : (blocks : List Block) (block : Block) → covered_by (blocks ++ block ∷ []) ≡ covered_by blocks + covered_of block
covered_by-append [] block = omega arith
covered_by-append (b ∷ blocks) block = omega (arith, covered_by-append blocks block)

pub whole-append : (blocks : List Block) (block : Block) → list_all is_whole blocks ≡ true → is_whole block ≡ true
    → list_all is_whole (blocks ++ block ∷ []) ≡ true
whole-append [] block all whole = rw whole refl
whole-append (b ∷ blocks) block all whole = by_first (is_whole b) (list_all is_whole blocks) (list_all is_whole (blocks ++ block ∷ [])) all (λ rest. whole-append blocks block rest whole)
  where
    by_first : (a b c : Bool) → (a && b) ≡ true → (b ≡ true → c ≡ true) → (a && c) ≡ true
    by_first true b c both next = next both
    by_first false b c both next = absurd (cc)

-- one more event, noted behind the blocks
pub one_more : (blocks : List Block) (noted : List Event) (covered count : ℕ) (event : Event) → IsJournal blocks noted covered count
    → IsJournal blocks (noted ++ event ∷ []) covered (count + 1)
one_more blocks noted covered count event j =
    let within : covered_by blocks ≤ length noted = omega (arith, j.covered_is, j.within) in
    record {
      covered_is = j.covered_is;
      within = omega (arith, length-append noted (event ∷ []), j.within);
      whole = j.whole;
      count_is = ap (λ n. n + 1) j.count_is
          ∙ sym (length-append (unrolled blocks noted) (event ∷ []))
          ∙ sym (ap length (unrolled-append blocks noted (event ∷ []) within));
    }

-- some more of one event, noted behind the blocks
pub some_more : (blocks : List Block) (noted : List Event) (covered count : ℕ) (event : Event) (times : ℕ) → IsJournal blocks noted covered count
    → IsJournal blocks (noted ++ replicate times event) covered (count + times)
some_more blocks noted covered count event times j =
    let within : covered_by blocks ≤ length noted = omega (arith, j.covered_is, j.within) in
    record {
      covered_is = j.covered_is;
      within = omega (arith, length-append noted (replicate times event), j.within);
      whole = j.whole;
      count_is =
          let shown : length (unrolled blocks (noted ++ replicate times event)) ≡ length (unrolled blocks noted) + length (replicate times event) =
          ap length (unrolled-append blocks noted (replicate times event) within) ∙ length-append (unrolled blocks noted) (replicate times event) in
          omega (arith, shown, j.count_is, length-replicate times event);
    }

-- many more of one event, in a block of their own
pub block_more : (blocks : List Block) (noted : List Event) (covered count : ℕ) (event : Event) (block : Block) → IsJournal blocks noted covered count
    → block.once + covered ≡ length noted → block.size ≡ 1 → 0 < block.times
    → IsJournal (blocks ++ block ∷ []) (noted ++ event ∷ []) (length (noted ++ event ∷ [])) (count + block.times)
block_more blocks noted covered count event block j once one some =
    let within : covered_by blocks ≤ length noted = omega (arith, j.covered_is, j.within) in
    let own : block.once + covered_by blocks ≡ length noted = omega (arith, j.covered_is, once) in
    let shown : length (unrolled (blocks ++ block ∷ []) (noted ++ event ∷ [])) ≡ length (unrolled blocks noted) + length (replicate block.times event) =
    ap length (unrolled-block blocks noted event block within own one) ∙ length-append (unrolled blocks noted) (replicate block.times event) in
    record {
      covered_is = omega (arith, length-append noted (event ∷ []), covered_by-append blocks block, own, one);
      within = omega arith;
      whole = whole-append blocks block j.whole (whole_of block one some);
      count_is = omega (arith, shown, j.count_is, length-replicate block.times event);
    }
  where
    whole_of : (block : Block) → block.size ≡ 1 → 0 < block.times → is_whole block ≡ true
    whole_of block one some = grind arith
