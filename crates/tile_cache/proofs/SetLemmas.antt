-- A line in a set: where it stands, and what each change of the set does there.
use Rattle.std.proofs.Common.{◌≡◌, ℕ, zero, suc, ◌-◌, ◌<◌, ◌≤◌, Bool, true, false, cond, List, [], ◌∷◌, length, get_or, set, Some, None, refl, sym, ap, subst, ◌∙◌, inl, inr, arith}
use Rattle.std.proofs.lemmas.Bool.{cases_Bool, or_parts, or_from, ltb-false, ltb-true, eqb-true, eq-eqb}
use Rattle.std.proofs.lemmas.Bool.Decides.{nat_tests}
use Rattle.std.proofs.lemmas.List.Elements.{All-head, All-tail}
use Rattle.std.proofs.lemmas.Option.{cond_some, same_Some}
use Rattle.std.specs.Prelude.{Option, find, filter, position, not, ◌==◌, map, All, if◌then◌else◌}
use Rattle.std.specs.List.{list_any, position_or_len, remove, slice_get}
use Rattle.std.specs.Option.{option_map}
use Rattle.tile_cache.specs.declared.ways.Way.{Way}
use Rattle.tile_cache.specs.Cache.{has_line, others, with_line_changed, last_way, has_repeat}
use Rattle.tile_cache.specs.Kept.{at_front, hold_among, touched_ways}

-- the first way with a line stands at a place
abbrev IsPlace : ℕ → List Way → ℕ → Type 0
IsPlace line [] i = ⊥
IsPlace line (way ∷ ways) zero = has_line line way ≡ true
IsPlace line (way ∷ ways) (suc i) = (has_line line way ≡ false) × IsPlace line ways i

place_at : (line : ℕ) (ways : List Way) (i : ℕ) → position_or_len (has_line line) ways ≡ i → i < length ways → IsPlace line ways i
place_at line [] i e h = absurd (omega arith)
place_at line (way ∷ ways) zero e h =
    elim (cases_Bool (has_line line way)) [ inl here ↦ here | inr other ↦ absurd (omega (arith, rw other at e)) ]
place_at line (way ∷ ways) (suc i) e h =
    elim (cases_Bool (has_line line way)) [
      | inl here ↦ absurd (omega (arith, rw here at e))
      | inr other ↦ (other, place_at line ways i (omega (arith, rw other at e)) (omega arith))
    ]

place : (line : ℕ) (ways : List Way) (i : ℕ) → position (has_line line) ways ≡ Some i → IsPlace line ways i
place line ways i e =
    let parts = cond_some _ _ _ e in
    let within : position_or_len (has_line line) ways < length ways = ltb-true _ _ parts.0 in
    place_at line ways i parts.1 (omega (arith, parts.1))

absent_at : (line : ℕ) (ways : List Way) → length ways ≤ position_or_len (has_line line) ways → list_any (has_line line) ways ≡ false
absent_at line [] h = refl
absent_at line (way ∷ ways) h =
    elim (cases_Bool (has_line line way)) [
      | inl here ↦ absurd (omega (arith, rw here at h))
      | inr other ↦ rw other (absent_at line ways (omega (arith, rw other at h)))
    ]

none_below : (b : Bool) (i : ℕ) → cond b (Some i) None ≡ None → b ≡ false
none_below true i e = cc
none_below false i e = refl

pub absent : (line : ℕ) (ways : List Way) → position (has_line line) ways ≡ None → list_any (has_line line) ways ≡ false
absent line ways e = absent_at line ways (ltb-false _ _ (none_below _ _ e))

-- a line that isn't there

pub find-absent : (line : ℕ) (ways : List Way) → list_any (has_line line) ways ≡ false → find (has_line line) ways ≡ None
find-absent line [] h = refl
find-absent line (way ∷ ways) h =
    let parts = or_parts (has_line line way) _ h in rw parts.0 (find-absent line ways parts.1)

pub others-absent : (line : ℕ) (ways : List Way) → list_any (has_line line) ways ≡ false → others line ways ≡ ways
others-absent line [] h = refl
others-absent line (way ∷ ways) h =
    let parts = or_parts (has_line line way) _ h in rw (parts.0, others-absent line ways parts.1) refl

pub changed-absent : (line : ℕ) (change : Way → Way) (ways : List Way) → list_any (has_line line) ways ≡ false → with_line_changed line change ways ≡ ways
changed-absent line change [] h = refl
changed-absent line change (way ∷ ways) h =
    let parts = or_parts (has_line line way) _ h in rw (parts.0, changed-absent line change ways parts.1) refl

-- a line that is there, and stands once

-- after the first way of a set its line doesn't come again
rest_lacks : (line : ℕ) (way : Way) (ways : List Way) → has_line line way ≡ true → has_repeat (way ∷ ways) ≡ false → list_any (has_line line) ways ≡ false
rest_lacks line way ways here once =
    let same : way.line ≡ line = eqb-true way.line line here in rw (← same) (or_parts _ _ once).0

rest_once : (way : Way) (ways : List Way) → has_repeat (way ∷ ways) ≡ false → has_repeat ways ≡ false
rest_once way ways once = (or_parts (list_any (has_line way.line) ways) (has_repeat ways) once).1

find_place : (line : ℕ) (ways : List Way) (i : ℕ) (d : Way) → IsPlace line ways i → find (has_line line) ways ≡ Some (get_or ways i d)
find_place line [] i d p = absurd p
find_place line (way ∷ ways) zero d p = rw p refl
find_place line (way ∷ ways) (suc i) d p = rw p.0 (find_place line ways i d p.1)

others_place : (line : ℕ) (ways : List Way) (i : ℕ) → has_repeat ways ≡ false → IsPlace line ways i → others line ways ≡ remove ways i
others_place line [] i once p = absurd p
others_place line (way ∷ ways) zero once p = rw p (others-absent line ways (rest_lacks line way ways p once))
others_place line (way ∷ ways) (suc i) once p = rw (p.0, others_place line ways i (rest_once way ways once) p.1) refl

changed_place : (line : ℕ) (change : Way → Way) (ways : List Way) (i : ℕ) (d : Way) → has_repeat ways ≡ false → IsPlace line ways i → with_line_changed line change ways ≡ set ways i (change (get_or ways i d))
changed_place line change [] i d once p = absurd p
changed_place line change (way ∷ ways) zero d once p = rw (p, changed-absent line change ways (rest_lacks line way ways p once)) refl
changed_place line change (way ∷ ways) (suc i) d once p = rw (p.0, changed_place line change ways i d (rest_once way ways once) p.1) refl

pub found_at : (line : ℕ) (ways : List Way) (i : ℕ) (way : Way) → Some i ≡ position (has_line line) ways → way ≡ get_or ways i way → Some way ≡ find (has_line line) ways
found_at line ways i way at here = ap Some here ∙ sym (find_place line ways i way (place line ways i (sym at)))

pub removed_at : (line : ℕ) (ways : List Way) (i : ℕ) → has_repeat ways ≡ false → Some i ≡ position (has_line line) ways → remove ways i ≡ others line ways
removed_at line ways i once at = sym (others_place line ways i once (place line ways i (sym at)))

pub changed_at : (line : ℕ) (change : Way → Way) (ways : List Way) (i : ℕ) (way : Way) → has_repeat ways ≡ false → Some i ≡ position (has_line line) ways
    → way ≡ get_or ways i way → set ways i (change way) ≡ with_line_changed line change ways
changed_at line change ways i way once at here =
    ap (λ w. set ways i (change w)) here ∙ sym (changed_place line change ways i way once (place line ways i (sym at)))

-- a line that comes to the front from its place

pub touched-absent : (line : ℕ) (ways : List Way) → list_any (has_line line) ways ≡ false → touched_ways line ways ≡ ways
touched-absent line ways h = rw (find-absent line ways h) refl

slice_place : (line : ℕ) (ways : List Way) (i : ℕ) → IsPlace line ways i → slice_get ways i ≡ find (has_line line) ways
slice_place line [] i p = absurd p
slice_place line (way ∷ ways) zero p = rw p refl
slice_place line (way ∷ ways) (suc i) p = rw p.0 (slice_place line ways i p.1)

front_place : (line : ℕ) (ways : List Way) (i : ℕ) → has_repeat ways ≡ false → IsPlace line ways i → at_front i ways ≡ touched_ways line ways
front_place line ways i once p = rw (slice_place line ways i p, others_place line ways i once p) refl

pub front_at : (line : ℕ) (ways : List Way) (i : ℕ) → has_repeat ways ≡ false → Some i ≡ position (has_line line) ways → at_front i ways ≡ touched_ways line ways
front_at line ways i once at = front_place line ways i once (place line ways i (sym at))

-- the last way

pub slice_get-last : (ways : List Way) → slice_get ways (length ways - 1) ≡ last_way ways
slice_get-last [] = refl
slice_get-last (way ∷ []) = refl
slice_get-last (way ∷ next ∷ ways) =
    let e : length (way ∷ next ∷ ways) - 1 ≡ suc (length (next ∷ ways) - 1) = omega arith in rw e (slice_get-last (next ∷ ways))

-- what each change leaves: no line comes twice, and other lines are found as before

any-filter : (p q : Way → Bool) (ways : List Way) → list_any p ways ≡ false → list_any p (filter q ways) ≡ false
any-filter p q [] h = refl
any-filter p q (way ∷ ways) h =
    let parts = or_parts (p way) (list_any p ways) h in
    elim (cases_Bool (q way)) [
      | inl kept ↦ rw (kept, parts.0) (any-filter p q ways parts.1)
      | inr left ↦ rw left (any-filter p q ways parts.1)
    ]

repeat-filter : (q : Way → Bool) (ways : List Way) → has_repeat ways ≡ false → has_repeat (filter q ways) ≡ false
repeat-filter q [] h = refl
repeat-filter q (way ∷ ways) h =
    let parts = or_parts (list_any (has_line way.line) ways) (has_repeat ways) h in
    elim (cases_Bool (q way)) [
      | inl kept ↦ rw (kept, any-filter (has_line way.line) q ways parts.0) (repeat-filter q ways parts.1)
      | inr left ↦ rw left (repeat-filter q ways parts.1)
    ]

pub others-once : (line : ℕ) (ways : List Way) → has_repeat ways ≡ false → has_repeat (others line ways) ≡ false
others-once line ways h = repeat-filter (λ way. not (has_line line way)) ways h

pub others-lacks : (line : ℕ) (ways : List Way) → list_any (has_line line) (others line ways) ≡ false
others-lacks line [] = refl
others-lacks line (way ∷ ways) =
    elim (cases_Bool (has_line line way)) [
      | inl here ↦ rw here (others-lacks line ways)
      | inr other ↦ rw (other, other) (others-lacks line ways)
    ]

pub front-once : (line : ℕ) (way : Way) (ways : List Way) → way.line ≡ line → has_repeat ways ≡ false → has_repeat (way ∷ others line ways) ≡ false
front-once line way ways e h = rw e (or_from (list_any (has_line line) (others line ways)) _ (others-lacks line ways) (others-once line ways h))

-- a way of one line has no other
pub other_line : (line k : ℕ) (way : Way) → (k == line) ≡ false → has_line line way ≡ true → has_line k way ≡ false
other_line line k way ne here = grind (arith, nat_tests)

pub find-others : (line k : ℕ) (ways : List Way) → (k == line) ≡ false → find (has_line k) (others line ways) ≡ find (has_line k) ways
find-others line k [] ne = refl
find-others line k (way ∷ ways) ne =
    elim (cases_Bool (has_line line way)) [
      | inl here ↦ rw (here, other_line line k way ne here) (find-others line k ways ne)
      | inr other ↦ rw (other, find-others line k ways ne) refl
    ]

pub length-others : (line : ℕ) (ways : List Way) → length (others line ways) ≤ length ways
length-others line [] = omega arith
length-others line (way ∷ ways) =
    let rest = length-others line ways in
    elim (cases_Bool (has_line line way)) [ inl here ↦ rw here (omega arith) | inr other ↦ rw other (omega arith) ]

pub length-others_found : (line : ℕ) (ways : List Way) (way : Way) → find (has_line line) ways ≡ Some way → length (others line ways) < length ways
length-others_found line [] found h = cc
length-others_found line (way ∷ ways) found h =
    let rest = length-others line ways in
    elim (cases_Bool (has_line line way)) [
      | inl here ↦ rw here (omega arith)
      | inr other ↦ let less = length-others_found line ways found (rw other at h) in rw other (omega arith)
    ]

-- what is found has the line
pub found_line : (line : ℕ) (ways : List Way) (way : Way) → find (has_line line) ways ≡ Some way → way.line ≡ line
found_line line [] found h = cc
found_line line (way ∷ ways) found h =
    elim (cases_Bool (has_line line way)) [
      | inl here ↦ let same = same_Some way found (rw here at h) in ap (λ w. w.line) (sym same) ∙ eqb-true way.line line here
      | inr other ↦ found_line line ways found (rw other at h)
    ]

-- a change that keeps lines leaves each where it is

abbrev pub KeepsLine : (Way → Way) → Type 0
KeepsLine change = (way : Way) → (change way).line ≡ way.line

-- the line of a way that is changed where it has a line
pub changed_line : (line : ℕ) (change : Way → Way) → KeepsLine change → (way : Way) → (if has_line line way then change way else way).line ≡ way.line
changed_line line change keeps way = elim (cases_Bool (has_line line way)) [ inl here ↦ rw here (keeps way) | inr other ↦ rw other refl ]

any-map : (line : ℕ) (f : Way → Way) → KeepsLine f → (ways : List Way) → list_any (has_line line) (map f ways) ≡ list_any (has_line line) ways
any-map line f keeps [] = refl
any-map line f keeps (way ∷ ways) = rw (keeps way, any-map line f keeps ways) refl

repeat-map : (f : Way → Way) → KeepsLine f → (ways : List Way) → has_repeat (map f ways) ≡ has_repeat ways
repeat-map f keeps [] = refl
repeat-map f keeps (way ∷ ways) = rw (keeps way, any-map way.line f keeps ways, repeat-map f keeps ways) refl

pub changed-once : (line : ℕ) (change : Way → Way) → KeepsLine change → (ways : List Way) → has_repeat ways ≡ false → has_repeat (with_line_changed line change ways) ≡ false
changed-once line change keeps ways h = repeat-map _ (changed_line line change keeps) ways ∙ h

pub find-changed : (line : ℕ) (change : Way → Way) → KeepsLine change → (ways : List Way)
    → find (has_line line) (with_line_changed line change ways) ≡ option_map change (find (has_line line) ways)
find-changed line change keeps [] = refl
find-changed line change keeps (way ∷ ways) =
    elim (cases_Bool (has_line line way)) [
      | inl here ↦ rw (here, keeps way, here) refl
      | inr other ↦ rw (other, other, find-changed line change keeps ways) refl
    ]

pub find-changed_other : (line k : ℕ) (change : Way → Way) → KeepsLine change → (ways : List Way) → (k == line) ≡ false
    → find (has_line k) (with_line_changed line change ways) ≡ find (has_line k) ways
find-changed_other line k change keeps [] ne = refl
find-changed_other line k change keeps (way ∷ ways) ne =
    elim (cases_Bool (has_line line way)) [
      | inl here ↦
          let other : has_line k way ≡ false = other_line line k way ne here in
          rw (here, keeps way, other, find-changed_other line k change keeps ways ne) refl
      | inr there ↦ rw (there, find-changed_other line k change keeps ways ne) refl
    ]

-- a line that is changed at its place and then comes to the front, as if it had come there first

changed-keeps_place : (line : ℕ) (change : Way → Way) → KeepsLine change → (ways : List Way) (i : ℕ) → IsPlace line ways i → IsPlace line (with_line_changed line change ways) i
changed-keeps_place line change keeps [] i p = absurd p
changed-keeps_place line change keeps (way ∷ ways) zero p = rw (p, keeps way) p
changed-keeps_place line change keeps (way ∷ ways) (suc i) p = rw p.0 (p.0, changed-keeps_place line change keeps ways i p.1)

others-changed : (line : ℕ) (change : Way → Way) → KeepsLine change → (ways : List Way) → others line (with_line_changed line change ways) ≡ others line ways
others-changed line change keeps [] = refl
others-changed line change keeps (way ∷ ways) =
    elim (cases_Bool (has_line line way)) [
      | inl here ↦ rw (here, keeps way, here) (others-changed line change keeps ways)
      | inr other ↦ rw (other, other, others-changed line change keeps ways) refl
    ]

touched-changed_from : (line : ℕ) (change : Way → Way) → KeepsLine change → (ways : List Way) (o : Option Way) → find (has_line line) ways ≡ o
    → touched_ways line (with_line_changed line change ways) ≡ with_line_changed line change (touched_ways line ways)
touched-changed_from line change keeps ways None e = rw (find-changed line change keeps ways, e) refl
touched-changed_from line change keeps ways (Some way) e =
    let here : has_line line way ≡ true = eq-eqb way.line line (found_line line ways way e) in
    let rest : with_line_changed line change (others line ways) ≡ others line ways = changed-absent line change (others line ways) (others-lacks line ways) in
    rw (find-changed line change keeps ways, e, here, rest, others-changed line change keeps ways) refl

touched-changed : (line : ℕ) (change : Way → Way) → KeepsLine change → (ways : List Way)
    → touched_ways line (with_line_changed line change ways) ≡ with_line_changed line change (touched_ways line ways)
touched-changed line change keeps ways = touched-changed_from line change keeps ways _ refl

pub changed_front_at : (line : ℕ) (change : Way → Way) → KeepsLine change → (ways : List Way) (i : ℕ) (way : Way) → has_repeat ways ≡ false → Some i ≡ position (has_line line) ways
    → way ≡ get_or ways i way → at_front i (set ways i (change way)) ≡ with_line_changed line change (touched_ways line ways)
changed_front_at line change keeps ways i way once at here =
    ap (at_front i) (changed_at line change ways i way once at here)
    ∙ front_place line (with_line_changed line change ways) i (changed-once line change keeps ways once) (changed-keeps_place line change keeps ways i (place line ways i (sym at)))
    ∙ touched-changed line change keeps ways

-- how a line is held, seen at its place
pub held_at : (line : ℕ) (ways : List Way) (i : ℕ) (way : Way) → Some i ≡ position (has_line line) ways → way ≡ get_or ways i way → hold_among line ways ≡ Some way.hold
held_at line ways i way at here = ap (option_map (λ w. w.hold)) (sym (found_at line ways i way at here))

-- the last way of a set that has some is in it, and stands once

pub find-last : (ways : List Way) (way : Way) → has_repeat ways ≡ false → last_way ways ≡ Some way → find (has_line way.line) ways ≡ Some way
find-last [] last once e = cc
find-last (way ∷ []) last once e =
    let same : way ≡ last = same_Some way last e in let here : has_line last.line way ≡ true = rw same (eq-eqb last.line last.line refl) in rw here e
find-last (way ∷ next ∷ ways) last once e =
    let rest : find (has_line last.line) (next ∷ ways) ≡ Some last = find-last (next ∷ ways) last (rest_once way (next ∷ ways) once) e in
    elim (cases_Bool (has_line last.line way)) [
      | inl here ↦
          let gone = find-absent last.line (next ∷ ways) (rest_lacks last.line way (next ∷ ways) here once) in cc
      | inr other ↦ rw other rest
    ]

pub All-last : (P : Way → Type 0) (ways : List Way) (way : Way) → All P ways → last_way ways ≡ Some way → P way
All-last P [] last h e = cc
All-last P (way ∷ []) last h e = subst P (same_Some way last e) (All-head P way [] h)
All-last P (way ∷ next ∷ ways) last h e = All-last P (next ∷ ways) last (All-tail P way (next ∷ ways) h) e

pub last-nothing : (ways : List Way) → last_way ways ≡ None → length ways ≡ 0
last-nothing [] e = refl
last-nothing (way ∷ []) e = cc
last-nothing (way ∷ next ∷ ways) e = absurd (omega (arith, last-nothing (next ∷ ways) e))
