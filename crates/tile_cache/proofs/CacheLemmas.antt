-- What is known of each set of a cache, and that each change keeps it.
use Rattle.std.proofs.Common.{◌≡◌, ℕ, ◌%◌, ◌<◌, ◌≤◌, false, List, ◌∷◌, [], length, get_or, set, Some, None, refl, sym, ap, ◌∙◌, inl, inr, arith}
use Rattle.std.proofs.Math.Nat.{mod-lt}
use Rattle.std.proofs.lemmas.Bool.{cases_Bool, cases_eq, ltb-true}
use Rattle.std.proofs.lemmas.List.{length-set, length-map, get_or-set_same, get_or-set_other, set-get_or, set-set}
use Rattle.std.proofs.lemmas.List.Elements.{All-weaker, All-filter, All-cons, All-map}
use Rattle.std.specs.Prelude.{All, not, Option, is_some, if◌then◌else◌, find, nat_lt}
use Rattle.std.specs.Option.{option_map}
use Rattle.tile_cache.specs.declared.ways.Hold.{Hold}
use Rattle.tile_cache.specs.declared.ways.Way.{Way}
use Rattle.tile_cache.specs.Cache.{Sets, IsCache, set_number, set_of, way_of, hold_of, is_m, with_set, has_line, has_repeat, others, touched, with_line_changed, with_change, way_written, written, last_way, line_and_hold, victim_of}
use Rattle.tile_cache.specs.Kept.{hold_among, touched_ways}
use Rattle.tile_cache.proofs.SetLemmas.{KeepsLine, changed_line, changed-once, found_line, front-once, length-others, last-nothing, length-others_found, others-once}

-- ways that may be the set of a number
pub record IsSet (c : Sets) (k : ℕ) (ways : List Way) : Type 0 where
  pub room : length ways ≤ c.ways
  pub own : All (λ way. set_number c way.line ≡ k) ways
  pub once : has_repeat ways ≡ false

pub IsSet-at : (c : Sets) (k : ℕ) → IsCache c → IsSet c k (get_or c.sets k [])
IsSet-at c k h = record { room = h.room k; own = h.own k; once = h.once k }

pub set_number-within : (c : Sets) (line : ℕ) → 0 < length c.sets → set_number c line < length c.sets
set_number-within c line h = mod-lt line h

IsSet-with_set : (c : Sets) (line k : ℕ) (ways new : List Way) → IsSet c k ways → IsSet (with_set c line new) k ways
IsSet-with_set c line k ways new h = record {
  room = h.room;
  own = All-weaker (λ way. set_number c way.line ≡ k) (λ way. set_number (with_set c line new) way.line ≡ k)
      (λ way e. ap (λ n. way.line % n) (length-set c.sets (set_number c line) new) ∙ e) ways h.own;
  once = h.once;
}

-- a cache with another set in the place of one is a cache
pub IsCache-with_set : (c : Sets) (line : ℕ) (new : List Way) → IsCache c → IsSet c (set_number c line) new → IsCache (with_set c line new)
IsCache-with_set c line new h s =
    let n : ℕ = set_number c line in
    let each : (k : ℕ) → IsSet (with_set c line new) k (get_or (set c.sets n new) k []) = λ k. elim (cases_eq k n) [
      | inl e ↦ rw (e, get_or-set_same c.sets n new [] (set_number-within c line h.some_set)) (IsSet-with_set c line n new new s)
      | inr ne ↦ rw (get_or-set_other c.sets n k new [] ne) (IsSet-with_set c line k _ new (IsSet-at c k h))
    ] in
    record {
      some_set = rw (length-set c.sets n new) h.some_set;
      some_way = h.some_way;
      room = λ k. (each k).room;
      own = λ k. (each k).own;
      once = λ k. (each k).once;
    }

-- the changes of a set

pub IsSet-others : (c : Sets) (k line : ℕ) (ways : List Way) → IsSet c k ways → IsSet c k (others line ways)
IsSet-others c k line ways h = record {
  room = let shorter = length-others line ways in omega (arith, h.room);
  own = All-filter (λ way. not (has_line line way)) (λ way. set_number c way.line ≡ k) ways h.own;
  once = others-once line ways h.once;
}

pub IsSet-front : (c : Sets) (line : ℕ) (way : Way) (ways : List Way) → way.line ≡ line → length (others line ways) < c.ways → IsSet c (set_number c line) ways
    → IsSet c (set_number c line) (way ∷ others line ways)
IsSet-front c line way ways e room h = record {
  room = omega arith;
  own = All-cons (λ w. set_number c w.line ≡ set_number c line) way (others line ways) (ap (set_number c) e) (IsSet-others c _ line ways h).own;
  once = front-once line way ways e h.once;
}

IsSet-touched_from : (c : Sets) (line : ℕ) (ways : List Way) (o : Option Way) → find (has_line line) ways ≡ o → IsSet c (set_number c line) ways
    → IsSet c (set_number c line) (touched_ways line ways)
IsSet-touched_from c line ways None e h = rw e h
IsSet-touched_from c line ways (Some way) e h =
    let less = length-others_found line ways way e in
    rw e (IsSet-front c line way ways (found_line line ways way e) (omega (arith, h.room)) h)

pub IsSet-touched : (c : Sets) (line : ℕ) (ways : List Way) → IsSet c (set_number c line) ways → IsSet c (set_number c line) (touched_ways line ways)
IsSet-touched c line ways h = IsSet-touched_from c line ways _ refl h

pub IsSet-changed : (c : Sets) (k line : ℕ) (change : Way → Way) (ways : List Way) → KeepsLine change → IsSet c k ways → IsSet c k (with_line_changed line change ways)
IsSet-changed c k line change ways keeps h = record {
  room = rw (length-map ways (λ way. if has_line line way then change way else way)) h.room;
  own = All-map (λ way. set_number c way.line ≡ k) (λ way. if has_line line way then change way else way) ways
      (All-weaker (λ way. set_number c way.line ≡ k) _ (λ way e. ap (set_number c) (changed_line line change keeps way) ∙ e) ways h.own);
  once = changed-once line change keeps ways h.once;
}

-- a touched line, seen in its set

touched_from : (c : Sets) (line : ℕ) (o : Option Way) → way_of c line ≡ o → touched c line ≡ with_set c line (touched_ways line (set_of c line))
touched_from c line None e = rw (e, set-get_or c.sets (set_number c line) []) refl
touched_from c line (Some way) e = rw (e, found_line line (set_of c line) way e) refl

pub touched-set : (c : Sets) (line : ℕ) → touched c line ≡ with_set c line (touched_ways line (set_of c line))
touched-set c line = touched_from c line _ refl

-- a line that is touched and written, where it may be written, seen in its set

abbrev pub overwritten_ways : ℕ → ℕ → ℕ → ℕ → List Way → List Way
overwritten_ways line offset size value ways =
    if is_m (hold_among line ways) then with_line_changed line (way_written offset size value) (touched_ways line ways) else ways

pub IsSet-overwritten : (c : Sets) (line offset size value : ℕ) (ways : List Way) → IsSet c (set_number c line) ways → IsSet c (set_number c line) (overwritten_ways line offset size value ways)
IsSet-overwritten c line offset size value ways h =
    elim (cases_Bool (is_m (hold_among line ways))) [
      | inl may ↦ rw may (IsSet-changed c (set_number c line) line (way_written offset size value) (touched_ways line ways) (λ way. refl) (IsSet-touched c line ways h))
      | inr not ↦ rw not h
    ]

with_change-with_set : (c : Sets) (line : ℕ) (change : Way → Way) (ways : List Way) → 0 < length c.sets → with_change (with_set c line ways) line change ≡ with_set c line (with_line_changed line change ways)
with_change-with_set c line change ways h =
    rw (length-set c.sets (set_number c line) ways, get_or-set_same c.sets (set_number c line) ways [] (set_number-within c line h), set-set c.sets (set_number c line) ways (with_line_changed line change ways)) refl

pub overwritten-set : (c : Sets) (line offset size value : ℕ) → 0 < length c.sets
    → with_set c line (overwritten_ways line offset size value (set_of c line)) ≡ (if is_m (hold_of c line) then written (touched c line) line offset size value else c)
overwritten-set c line offset size value h =
    elim (cases_Bool (is_m (hold_of c line))) [
      | inl may ↦
          rw may
          (sym (ap (λ (d : Sets). written d line offset size value) (touched-set c line) ∙ with_change-with_set c line (way_written offset size value) (touched_ways line (set_of c line)) h))
      | inr not ↦ rw (not, set-get_or c.sets (set_number c line) []) refl
    ]

-- a set that has no victim for a line has room for it, once what it has of the line is gone

nothing_last : (o : Option Way) → option_map line_and_hold o ≡ None → o ≡ None
nothing_last None e = refl
nothing_last (Some way) e = cc

last_room : (ways : List Way) → option_map line_and_hold (last_way ways) ≡ None → length ways ≡ 0
last_room ways e = last-nothing ways (nothing_last (last_way ways) e)

abbrev pub victim_among : ℕ → List Way → Option Way → Option (ℕ × Hold)
victim_among room ways found = if is_some found then None else (if nat_lt (length ways) room then None else option_map line_and_hold (last_way ways))

room_from : (c : Sets) (line : ℕ) (ways : List Way) (o : Option Way) → find (has_line line) ways ≡ o → 0 < c.ways → length ways ≤ c.ways
    → victim_among c.ways ways o ≡ None
    → length (others line ways) < c.ways
room_from c line ways None e some_way room h =
    let shorter = length-others line ways in
    elim (cases_Bool (nat_lt (length ways) c.ways)) [
      | inl less ↦ let below : length ways < c.ways = ltb-true _ _ less in omega arith
      | inr full ↦ let empty : length ways ≡ 0 = last_room ways (rw full at h) in omega arith
    ]
room_from c line ways (Some way) e some_way room h = let less = length-others_found line ways way e in omega arith

pub placed-room : (c : Sets) (line : ℕ) → IsCache c → victim_of c line ≡ None → length (others line (set_of c line)) < c.ways
placed-room c line h e = room_from c line (set_of c line) _ refl h.some_way (h.room (set_number c line)) e
