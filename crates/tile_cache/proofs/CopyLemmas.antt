-- How each change of a cache shows at each line, and that a victim is another line of the cache.
use Rattle.std.proofs.Common.{◌≡◌, ℕ, zero, suc, ◌%◌, ◌<◌, ◌≤◌, arith, replicate, true, false, List, [], ◌∷◌, length, get_or, Some, None, refl, sym, ap, ◌∙◌, inl, inr, Bool, cond}
use Rattle.std.proofs.lemmas.Bool.{cases_Bool, cases_eq, eqb-true, eq-eqb, lt-ltb, cond-true, cond-false}
use Rattle.std.proofs.lemmas.Option.{none-some, same_Some, some_pair_parts}
use Rattle.std.proofs.lemmas.List.{length-set, get_or-set_same, get_or-set_other}
use Rattle.std.specs.Prelude.{Option, find, nat_lt, ◌==◌, if◌then◌else◌}
use Rattle.std.specs.Option.{option_map}
use Rattle.sim_base.specs.declared.lines.LineData.{LineData}
use Rattle.tile_cache.specs.declared.ways.Hold.{Hold}
use Rattle.tile_cache.specs.declared.ways.Hold.TheVariants.{S, M}
use Rattle.tile_cache.specs.declared.ways.Way.{Way}
use Rattle.tile_cache.specs.Cache.{Sets, empty_cache, set_number, set_of, with_set, has_line, way_of, others, with_line_changed, with_change, with_front, without_line, touched, line_with, way_written, way_downgraded, last_way, line_and_hold, victim_of, LeavesRoom, IsCache}
use Rattle.tile_cache.specs.Copy.{Copy, absent, shared, held_as, copy_in, copy_of, with_data, as_shared, FrontShows, DropShows, TouchHides, WriteShows, DowngradeShows, VictimIsHeld, EmptyShows, HeldShows, AbsentShows, VictimIsAnother}
use Rattle.tile_cache.proofs.SetLemmas.{KeepsLine, All-last, find-last, other_line, find-absent, find-changed, find-changed_other, find-others, found_line, length-others_found, others-lacks}
use Rattle.tile_cache.proofs.CacheLemmas.{set_number-within, victim_among}

-- the way that a cache with another set has of a line
way_of-with_set : (c : Sets) (line k : ℕ) (new : List Way) (found : Option Way) → 0 < length c.sets
    → (set_number c k ≡ set_number c line → find (has_line k) new ≡ found) → ((set_number c k ≡ set_number c line → ⊥) → way_of c k ≡ found)
    → way_of (with_set c line new) k ≡ found
way_of-with_set c line k new found h same other =
    elim (cases_eq (set_number c k) (set_number c line)) [
      | inl e ↦ rw (length-set c.sets (set_number c line) new, e, get_or-set_same c.sets (set_number c line) new [] (set_number-within c line h)) (same e)
      | inr ne ↦ rw (length-set c.sets (set_number c line) new, get_or-set_other c.sets (set_number c line) (set_number c k) new [] ne) (other ne)
    ]

-- where a line's set changes so that the line is found to be one way, and every other line as before
way_of-change : (c : Sets) (line k : ℕ) (new : List Way) (found : Option Way) → 0 < length c.sets → find (has_line line) new ≡ found
    → ((k == line) ≡ false → find (has_line k) new ≡ find (has_line k) (set_of c line))
    → way_of (with_set c line new) k ≡ (if k == line then found else way_of c k)
way_of-change c line k new found h here there =
    elim (cases_Bool (k == line)) [
      | inl e ↦
          let same : k ≡ line = eqb-true k line e in
          rw e (way_of-with_set c line k new found h (λ _. rw same here) (λ ne. absurd (ne (ap (set_number c) same))))
      | inr ne ↦
          rw ne (way_of-with_set c line k new (way_of c k) h (λ e. there ne ∙ ap (λ n. find (has_line k) (get_or c.sets n [])) (sym e)) (λ _. refl))
    ]

-- the same for copies
copy_of-change : (c : Sets) (line k : ℕ) (new : List Way) (found : Option Way) (copy : ℕ → Copy) → 0 < length c.sets → find (has_line line) new ≡ found
    → copy_in found ≡ copy line → ((k == line) ≡ false → find (has_line k) new ≡ find (has_line k) (set_of c line))
    → copy_of (with_set c line new) k ≡ (if k == line then copy k else copy_of c k)
copy_of-change c line k new found copy h here is there =
    let ways = way_of-change c line k new found h here there in
    elim (cases_Bool (k == line)) [
      | inl e ↦ rw e (ap copy_in (ways ∙ cond-true (k == line) found _ e) ∙ is ∙ ap copy (sym (eqb-true k line e)))
      | inr ne ↦ rw ne (ap copy_in (ways ∙ cond-false (k == line) found _ ne))
    ]

-- the way at the front is there
pub front_way : (c : Sets) (way : Way) → 0 < length c.sets → way_of (with_front c way) way.line ≡ Some way
front_way c way h =
    let here : has_line way.line way ≡ true = eq-eqb way.line way.line refl in
    way_of-with_set c way.line way.line (way ∷ others way.line (set_of c way.line)) (Some way) h (λ _. rw here refl) (λ ne. absurd (ne refl))

touched_way_from : (c : Sets) (line : ℕ) (found : Option Way) → way_of c line ≡ found → 0 < length c.sets → way_of (touched c line) line ≡ way_of c line
touched_way_from c line None e h = rw e e
touched_way_from c line (Some way) e h =
    let same : way.line ≡ line = found_line line (set_of c line) way e in
    rw e (ap (way_of (with_front c way)) (sym same) ∙ front_way c way h)

-- a touched line is there as before
pub touched_way : (c : Sets) (line : ℕ) → 0 < length c.sets → way_of (touched c line) line ≡ way_of c line
touched_way c line h = touched_way_from c line _ refl h

pub front_shows : FrontShows
front_shows c way k h =
    let here : has_line way.line way ≡ true = eq-eqb way.line way.line refl in
    copy_of-change c way.line k (way ∷ others way.line (set_of c way.line)) (Some way) (λ _. held_as way.hold way.content) h (rw here refl) refl
    (λ ne. let other : has_line k way ≡ false = other_line way.line k way ne here in rw other (find-others way.line k (set_of c way.line) ne))

pub drop_shows : DropShows
drop_shows c line k h =
    copy_of-change c line k (others line (set_of c line)) None (λ _. absent) h (find-absent line _ (others-lacks line (set_of c line))) refl
    (find-others line k (set_of c line))

-- a change shows as what it does to the copy
change_shows : (c : Sets) (line k : ℕ) (change : Way → Way) (shown : Copy → Copy) → KeepsLine change
    → ((found : Option Way) → copy_in (option_map change found) ≡ shown (copy_in found)) → 0 < length c.sets
    → copy_of (with_change c line change) k ≡ (if k == line then shown (copy_of c k) else copy_of c k)
change_shows c line k change shown keeps is h =
    copy_of-change c line k (with_line_changed line change (set_of c line)) _ (λ n. shown (copy_of c n)) h (find-changed line change keeps (set_of c line)) (is (way_of c line))
    (find-changed_other line k change keeps (set_of c line))

written_copy : (offset size value : ℕ) (hold : Hold) (content : LineData)
    → held_as hold (line_with content offset size value) ≡ with_data (λ old. line_with old offset size value) (held_as hold content)
written_copy offset size value S content = refl
written_copy offset size value M content = refl

written_found : (offset size value : ℕ) (found : Option Way)
    → copy_in (option_map (way_written offset size value) found) ≡ with_data (λ content. line_with content offset size value) (copy_in found)
written_found offset size value None = refl
written_found offset size value (Some way) = written_copy offset size value way.hold way.content

pub write_shows : WriteShows
write_shows c line offset size value k h =
    change_shows c line k (way_written offset size value) (with_data (λ content. line_with content offset size value)) (λ way. refl) (written_found offset size value) h

shared_copy : (hold : Hold) (content : LineData) → shared content ≡ as_shared (held_as hold content)
shared_copy S content = refl
shared_copy M content = refl

shared_found : (found : Option Way) → copy_in (option_map way_downgraded found) ≡ as_shared (copy_in found)
shared_found None = refl
shared_found (Some way) = shared_copy way.hold way.content

pub downgrade_shows : DowngradeShows
downgrade_shows c line k h = change_shows c line k way_downgraded as_shared (λ way. refl) shared_found h

touch_from : (c : Sets) (line k : ℕ) (found : Option Way) → way_of c line ≡ found → 0 < length c.sets → copy_of (touched c line) k ≡ copy_of c k
touch_from c line k None e h = rw e refl
touch_from c line k (Some way) e h =
    let same : way.line ≡ line = found_line line (set_of c line) way e in
    rw e (front_shows c way k h ∙ elim (cases_Bool (k == way.line)) [
      | inl at ↦ let there : k ≡ line = eqb-true k way.line at ∙ same in rw (at, there, e) refl
      | inr ne ↦ rw ne refl
    ])

pub touch_hides : TouchHides
touch_hides c line k h = touch_from c line k _ refl h

told_way : (last : Option Way) (victim : ℕ) (hold : Hold) → option_map line_and_hold last ≡ Some (victim, hold)
    → (way : Way) × (last ≡ Some way) × (way.line ≡ victim) × (way.hold ≡ hold)
told_way None victim hold e = absurd (none-some (victim, hold) e)
told_way (Some way) victim hold e = let parts = some_pair_parts way.line victim way.hold hold e in (way, refl, parts.0, parts.1)

-- the way that a victim is
victim_way : (c : Sets) (line victim : ℕ) (hold : Hold) (found : Option Way) → way_of c line ≡ found → victim_among c.ways (set_of c line) found ≡ Some (victim, hold)
    → (way : Way) × (found ≡ None) × (last_way (set_of c line) ≡ Some way) × (way.line ≡ victim) × (way.hold ≡ hold)
victim_way c line victim hold (Some way) e h = cc
victim_way c line victim hold None e h =
    elim (cases_Bool (nat_lt (length (set_of c line)) c.ways)) [
      | inl room ↦ absurd (none-some (victim, hold) (rw room at h))
      | inr full ↦
          let parts = told_way (last_way (set_of c line)) victim hold (rw full at h) in
          (parts.0, refl, parts.1, parts.2, parts.3)
    ]

-- the last way of a set that doesn't have a line is of another
none_first : (b : Bool) (way : Way) (rest : Option Way) → cond b (Some way) rest ≡ None → (b ≡ false) × (rest ≡ None)
none_first true way rest e = cc
none_first false way rest e = (refl, e)

line_is_another : (line : ℕ) (ways : List Way) (last : Way) → find (has_line line) ways ≡ None → last_way ways ≡ Some last → has_line line last ≡ false
line_is_another line [] last none e = cc
line_is_another line (way ∷ []) last none e =
    let same : way ≡ last = same_Some way last e in ap (has_line line) (sym same) ∙ (none_first (has_line line way) way None none).0
line_is_another line (way ∷ next ∷ ways) last none e =
    let rest = none_first (has_line line way) way (find (has_line line) (next ∷ ways)) none in line_is_another line (next ∷ ways) last rest.1 e

pub victim_is_another : VictimIsAnother
victim_is_another c line victim hold e =
    let found = victim_way c line victim hold _ refl e in
    ap (λ n. n == line) (sym found.3) ∙ line_is_another line (set_of c line) found.0 found.1 found.2

pub victim_is_held : VictimIsHeld
victim_is_held c line victim hold known e =
    let found = victim_way c line victim hold _ refl e in
    let way : Way = found.0 in
    let ways : List Way = set_of c line in
    let own : set_number c way.line ≡ set_number c line = All-last (λ w. set_number c w.line ≡ set_number c line) ways way (known.own (set_number c line)) found.2 in
    let here : way_of c way.line ≡ Some way = ap (λ n. find (has_line way.line) (get_or c.sets n [])) own ∙ find-last ways way (known.once (set_number c line)) found.2 in
    (way.content, ap (copy_of c) (sym found.3) ∙ ap copy_in here ∙ ap (λ h. held_as h way.content) found.4)

roomy : (c : Sets) (k : ℕ) (found : Option Way) → way_of c k ≡ found → length (set_of c k) < c.ways → victim_of c k ≡ None
roomy c k None e less = let test : nat_lt (length (set_of c k)) c.ways ≡ true = lt-ltb _ _ less in rw (e, test) refl
roomy c k (Some way) e less = rw e refl

-- the set of a line after another line of it left
left_set : (c : Sets) (line k : ℕ) → 0 < length c.sets → set_number c line ≡ set_number c k → set_of (without_line c line) k ≡ others line (set_of c k)
left_set c line k h same =
    rw (length-set c.sets (set_number c line) (others line (set_of c line)), ← same) (get_or-set_same c.sets (set_number c line) (others line (set_of c line)) [] (set_number-within c line h))

pub victim_leaves : (c : Sets) (line : ℕ) → IsCache c → LeavesRoom c line (without_line c line)
victim_leaves c line known k hold e =
    let found = victim_way c k line hold _ refl e in
    let way : Way = found.0 in
    let ways : List Way = set_of c k in
    let own : set_number c way.line ≡ set_number c k = All-last (λ w. set_number c w.line ≡ set_number c k) ways way (known.own (set_number c k)) found.2 in
    let same : set_number c line ≡ set_number c k = ap (set_number c) (sym found.3) ∙ own in
    let here : find (has_line line) ways ≡ Some way = ap (λ n. find (has_line n) ways) (sym found.3) ∙ find-last ways way (known.once (set_number c k)) found.2 in
    let less : length (others line ways) < length ways = length-others_found line ways way here in
    let room : length ways ≤ c.ways = known.room (set_number c k) in
    let fewer : length (others line ways) < c.ways = omega arith in
    let left : length (set_of (without_line c line) k) ≡ length (others line ways) = ap length (left_set c line k known.some_set same) in
    roomy (without_line c line) k _ refl (rw left fewer)

-- a cache without lines

pub empty_at : (n k : ℕ) → get_or (replicate {A = List Way} n []) k [] ≡ []
empty_at zero k = refl
empty_at (suc n) zero = refl
empty_at (suc n) (suc k) = empty_at n k

pub empty_shows : EmptyShows
unfolding empty_cache
empty_shows sets ways k = rw (empty_at sets (k % length (replicate {A = List Way} sets []))) refl

-- what the answers tell

held_from : (line : ℕ) (hold : Hold) (found : Option Way) → option_map (λ way. way.hold) found ≡ Some hold
    → (content : LineData) × (option_map (λ way. way.content) found ≡ Some content) × (copy_in found ≡ held_as hold content)
held_from line hold None e = absurd (none-some hold e)
held_from line hold (Some way) e = (way.content, refl, ap (λ h. held_as h way.content) (same_Some way.hold hold e))

pub held_shows : HeldShows
held_shows c line hold e = held_from line hold (way_of c line) e

absent_from : (found : Option Way) → option_map (λ way. way.hold) found ≡ None → copy_in found ≡ absent
absent_from None e = refl
absent_from (Some way) e = cc

pub absent_shows : AbsentShows
absent_shows c line e = absent_from (way_of c line) e
