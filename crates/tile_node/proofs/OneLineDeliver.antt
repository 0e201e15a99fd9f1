-- How a delivery shows at each line.
use Rattle.std.proofs.Common.{◌≡◌, ℕ, Bool, true, false, [], Some, None, refl, sym, ap, ◌∙◌}
use Rattle.std.proofs.lemmas.Bool.{and_parts, eqb-true}
use Rattle.std.specs.Prelude.{Option, ◌+◌, ◌==◌, ◌&&◌, if◌then◌else◌}
use Rattle.std.specs.Option.{option_map}
use Rattle.sim_base.specs.declared.lines.LineData.{LineData}
use Rattle.sim_base.specs.Numbering.{home_of}
use Rattle.rv_exec.specs.Access.{Asked}
use Rattle.elf_image.specs.Layout.{Setup}
use Rattle.wire_msg.specs.declared.messages.Msg.{Msg}
use Rattle.wire_msg.specs.declared.messages.Msg.TheVariants.{GetS, GetM, PutM, InvAck, FetchAck, DataS, DataM, Inv, Fetch, FetchInv, Return, Start, Limit, ProbeReply}
use Rattle.wire_msg.specs.declared.lines.Want.{Want}
use Rattle.wire_msg.specs.declared.lines.Want.TheVariants.{Read, Write}
use Rattle.wire_msg.specs.declared.lines.Up.TheVariants.{Asks, GivesUp, Acknowledges, HandsOver}
use Rattle.wire_msg.specs.Message.{may_send}
use Rattle.tile_core.specs.declared.cores.Status.{Status}
use Rattle.tile_core.specs.declared.cores.Status.TheVariants.{Idle, Miss, Called, AtBarrier, Probing}
use Rattle.tile_core.specs.Core.{line_missed}
use Rattle.tile_cache.specs.declared.ways.Hold.{Hold}
use Rattle.tile_cache.specs.declared.ways.Hold.TheVariants.{S, M}
use Rattle.tile_cache.specs.declared.ways.Way.{Way}
use Rattle.tile_cache.specs.Cache.{Sets, IsCache, way_of, content_of, victim_of, without_line, placed}
use Rattle.tile_cache.specs.Copy.{Copy, absent, shared, modified, held_as, copy_in, copy_of, as_shared}
use Rattle.tile_cache.proofs.CopyLemmas.{front_shows, drop_shows, downgrade_shows, victim_is_another, victim_is_held}
use Rattle.clock_policy.specs.Probe.{may_go_on}
use Rattle.tile_node.specs.Tile.{Tile, Act, quiet, is_only_read}
use Rattle.tile_node.specs.Deliver.{put_home, victim_tile, victim_mail, waiting_done, hold_suits, miss_ends_for, data_taken, inv_tile, told_to, fetched_tile, fetch_by, return_taken, start_taken, limit_taken, reply_taken, onward, taken}
use Rattle.tile_node.specs.OneLine.{wants, wants_by, told_about, data_after, dropped_copy, fetched_copy, put_of, answer_of, nothing, came, evicted, invalidated, fetched, at_line, leaves_at, data_at, taken_at}
use Rattle.tile_node.specs.OneLineLaws.{Shows, DeliverShows}
use Rattle.tile_node.proofs.OneLineSpeaks.{homes_silent}
use Rattle.tile_node.proofs.OneLineParts.{at_itself, elsewhere, test_turned, shows_if, shows_both, shows_else, leaves_lines, told_here, told_there, used, used_here, used_there}
use Rattle.tile_node.proofs.OneLineCaches.{room_of, room_is, room_there, IsCache-room, IsCache-placed}

-- a miss ends

-- what the tile waits for of other lines
pub wants_other : (t : Tile) (access : Option Asked) (line k : ℕ) → t.core.status ≡ Miss access → line_missed t.core.write access ≡ line → (k == line) ≡ false
    → wants t k ≡ None
wants_other t access line k is at ne = ap (wants_by t.core.write k) is ∙ elsewhere (line_missed t.core.write access) k _ _ (ap (λ n. n == k) at ∙ test_turned k line ne)

ended_wants : (w : Setup) (t : Tile) (c : Sets) (access : Option Asked) (content : LineData) (delay k : ℕ) → wants (waiting_done w t c access content delay) k ≡ None
ended_wants w t c None content delay k = refl
ended_wants w t c (Some access) content delay k = refl

pub ended_cache : (w : Setup) (t : Tile) (c : Sets) (access : Option Asked) (content : LineData) (delay : ℕ) → (waiting_done w t c access content delay).cache ≡ used c access content
ended_cache w t c None content delay = refl
ended_cache w t c (Some access) content delay = refl

-- what a line that is held to write holds
modified_by : (hold : Hold) (had content : LineData) → held_as hold had ≡ modified content → Some had ≡ Some content
modified_by S had content e = cc
modified_by M had content e = cc

modified_content : (found : Option Way) (content : LineData) → copy_in found ≡ modified content → option_map (λ way. way.content) found ≡ Some content
modified_content None content e = cc
modified_content (Some way) content e = modified_by way.hold way.content content e

module _ (w : Setup) (t : Tile) (access : Option Asked) (line : ℕ) (hold : Hold) (content : LineData) (delay : ℕ)
    (h : IsCache t.cache) (is : t.core.status ≡ Miss access) (at : line_missed t.core.write access ≡ line) where
  -- the cache with the line, before its access
  abbrev filled : Option (ℕ × Hold) → Sets
  filled victim = placed (room_of t.cache victim) line hold content

  IsCache-filled : (victim : Option (ℕ × Hold)) → victim_of t.cache line ≡ victim → IsCache (filled victim)
  IsCache-filled victim e = IsCache-placed (room_of t.cache victim) line hold content (IsCache-room t.cache victim h) (room_there t.cache line victim h e)

  ended_is : (victim : Option (ℕ × Hold)) → (miss_ends_for w t victim access line hold content delay).tile.cache ≡ used (filled victim) access content
  ended_is victim =
      ended_cache w (victim_tile t victim) (placed (victim_tile t victim).cache line hold content) access content delay
      ∙ ap (λ c. used (placed c line hold content) access content) (room_is t victim)

  copy_here : (victim : Option (ℕ × Hold)) → victim_of t.cache line ≡ victim
      → copy_of (miss_ends_for w t victim access line hold content delay).tile.cache line ≡ held_as hold (data_after access content)
  copy_here victim e =
      let c : Sets = room_of t.cache victim in
      ap (λ d. copy_of d line) (ended_is victim)
      ∙ used_here (filled victim) t.core.write access line hold content (IsCache-filled victim e).some_set at
      (front_shows c (record { line = line; hold = hold; content = content }) line (IsCache-room t.cache victim h).some_set ∙ at_itself line _ _)

  copy_there : (victim : Option (ℕ × Hold)) (k : ℕ) → victim_of t.cache line ≡ victim → (k == line) ≡ false
      → copy_of (miss_ends_for w t victim access line hold content delay).tile.cache k ≡ copy_of (room_of t.cache victim) k
  copy_there victim k e ne =
      let c : Sets = room_of t.cache victim in
      ap (λ d. copy_of d k) (ended_is victim)
      ∙ used_there (filled victim) t.core.write access line k content (IsCache-filled victim e).some_set at ne
      ∙ front_shows c (record { line = line; hold = hold; content = content }) k (IsCache-room t.cache victim h).some_set ∙ elsewhere k line _ _ ne

  waits : (victim : Option (ℕ × Hold)) (k : ℕ) → (k == line) ≡ false → wants (miss_ends_for w t victim access line hold content delay).tile k ≡ wants t k
  waits victim k ne =
      ended_wants w (victim_tile t victim) (placed (victim_tile t victim).cache line hold content) access content delay k ∙ sym (wants_other t access line k is at ne)

  -- what is told of the victim
  told_put : (victim k : ℕ) → (k == victim) ≡ false → (content : Option LineData) → told_about k (put_home w victim content) ≡ []
  told_put victim k ne None = refl
  told_put victim k ne (Some old) = told_there (home_of w.config victim) victim k (GivesUp old) ne

  told_other : (victim : ℕ) (by : Hold) (k : ℕ) → (k == victim) ≡ false → told_about k (victim_mail w t (Some (victim, by))) ≡ []
  told_other victim S k ne = refl
  told_other victim M k ne = told_put victim k ne (content_of t.cache victim)

  told_victim : (victim : ℕ) (by : Hold) (old : LineData) → copy_of t.cache victim ≡ held_as by old
      → told_about victim (victim_mail w t (Some (victim, by))) ≡ put_of (copy_of t.cache victim)
  told_victim victim S old e = sym (ap put_of e)
  told_victim victim M old e =
      ap (λ o. told_about victim (put_home w victim o)) (modified_content (way_of t.cache victim) old e)
      ∙ told_here (home_of w.config victim) victim (GivesUp old) ∙ sym (ap put_of e)

  -- at the other lines
  other_shows : (victim : Option (ℕ × Hold)) (k : ℕ) → victim_of t.cache line ≡ victim → (k == line) ≡ false
      → Shows t k (miss_ends_for w t victim access line hold content delay) (leaves_at victim k)
  other_shows None k e ne = leaves_lines t k _ (copy_there None k e ne) refl (waits None k ne)
  other_shows (Some (victim, by)) k e ne =
      let held = victim_is_held t.cache line victim by h e in
      let another : (victim == line) ≡ false = victim_is_another t.cache line victim by e in
      shows_else t victim k _ evicted nothing
      (record {
        copy = copy_there (Some (victim, by)) victim e another ∙ drop_shows t.cache victim victim h.some_set ∙ at_itself victim _ _;
        told = told_victim victim by held.0 held.1;
        wants = waits (Some (victim, by)) victim another;
      })
      (λ nv. leaves_lines t k _ (copy_there (Some (victim, by)) k e ne ∙ drop_shows t.cache victim k h.some_set ∙ elsewhere k victim _ _ nv)
      (told_other victim by k nv) (waits (Some (victim, by)) k ne))

  -- at the line itself
  told_line : (victim : Option (ℕ × Hold)) → victim_of t.cache line ≡ victim → told_about line (victim_mail w t victim) ≡ []
  told_line None e = refl
  told_line (Some (victim, by)) e = told_other victim by line (test_turned victim line (victim_is_another t.cache line victim by e))

  miss_shows : (victim : Option (ℕ × Hold)) (k : ℕ) → victim_of t.cache line ≡ victim
      → Shows t k (miss_ends_for w t victim access line hold content delay) (if k == line then came hold (data_after access content) else leaves_at victim k)
  miss_shows victim k e =
      shows_else t line k _ (came hold (data_after access content)) (leaves_at victim k)
      (record {
        copy = copy_here victim e;
        told = told_line victim e;
        wants = ended_wants w (victim_tile t victim) (placed (victim_tile t victim).cache line hold content) access content delay line;
      })
      (λ ne. other_shows victim k e ne)

-- data
data_shows : (w : Setup) (t : Tile) (line : ℕ) (hold : Hold) (content : LineData) (delay : ℕ) (status : Status) (k : ℕ) → IsCache t.cache → t.core.status ≡ status
    → Shows t k (data_taken w t line hold content delay status) (data_at t line hold content status k)
data_shows w t line hold content delay (Miss access) k h is =
    shows_if (line_missed t.core.write access == line && hold_suits access hold) t k _ _ _ _
    (λ fits. miss_shows w t access line hold content delay h is (eqb-true _ _ (and_parts _ _ fits).0) (victim_of t.cache line) k refl)
    (λ _. leaves_lines t k _ refl refl refl)
data_shows w t line hold content delay _ k h is = leaves_lines t k _ refl refl refl

-- a copy is dropped
abbrev without_copy : Tile → ℕ → Hold → Tile
without_copy t line hold = if is_only_read hold then record t { cache = without_line t.cache line } else t

dropped_here : (t : Tile) (line : ℕ) (hold : Hold) (content : LineData) → IsCache t.cache → copy_of t.cache line ≡ held_as hold content
    → copy_of (without_copy t line hold).cache line ≡ dropped_copy (copy_of t.cache line)
dropped_here t line S content h e = drop_shows t.cache line line h.some_set ∙ at_itself line _ _ ∙ sym (ap dropped_copy e)
dropped_here t line M content h e = e ∙ sym (ap dropped_copy e)

dropped_there : (t : Tile) (line k : ℕ) (hold : Hold) → IsCache t.cache → (k == line) ≡ false → copy_of (without_copy t line hold).cache k ≡ copy_of t.cache k
dropped_there t line k S h ne = drop_shows t.cache line k h.some_set ∙ elsewhere k line _ _ ne
dropped_there t line k M h ne = refl

dropped_wants : (t : Tile) (line k : ℕ) (hold : Hold) → wants (without_copy t line hold) k ≡ wants t k
dropped_wants t line k S = refl
dropped_wants t line k M = refl

abbrev inv_by : Tile → ℕ → ℕ → Option Way → Act
inv_by t from line found = record (quiet (inv_tile t line found)) { mail = told_to from line Acknowledges }

inv_shows : (t : Tile) (from line : ℕ) (found : Option Way) (k : ℕ) → IsCache t.cache → way_of t.cache line ≡ found
    → Shows t k (inv_by t from line found) (at_line line k invalidated)
inv_shows t from line None k h e =
    let none : copy_of t.cache line ≡ absent = ap copy_in e in
    shows_else t line k _ invalidated nothing (record { copy = none ∙ sym (ap dropped_copy none); told = told_here from line Acknowledges; wants = refl })
    (λ ne. leaves_lines t k _ refl (told_there from line k Acknowledges ne) refl)
inv_shows t from line (Some way) k h e =
    shows_else t line k _ invalidated nothing
    (record {
      copy = dropped_here t line way.hold way.content h (ap copy_in e);
      told = told_here from line Acknowledges;
      wants = dropped_wants t line line way.hold;
    })
    (λ ne. leaves_lines t k _ (dropped_there t line k way.hold h ne) (told_there from line k Acknowledges ne) (dropped_wants t line k way.hold))

-- a line is fetched
fetched_here : (t : Tile) (line : ℕ) (want : Want) (content : LineData) → IsCache t.cache → copy_of t.cache line ≡ modified content
    → copy_of (fetched_tile t line want).cache line ≡ fetched_copy want (copy_of t.cache line)
fetched_here t line Read content h e = downgrade_shows t.cache line line h.some_set ∙ at_itself line _ _ ∙ ap as_shared e ∙ sym (ap (fetched_copy Read) e)
fetched_here t line Write content h e = drop_shows t.cache line line h.some_set ∙ at_itself line _ _ ∙ sym (ap (fetched_copy Write) e)

fetched_there : (t : Tile) (line k : ℕ) (want : Want) → IsCache t.cache → (k == line) ≡ false → copy_of (fetched_tile t line want).cache k ≡ copy_of t.cache k
fetched_there t line k Read h ne = downgrade_shows t.cache line k h.some_set ∙ elsewhere k line _ _ ne
fetched_there t line k Write h ne = drop_shows t.cache line k h.some_set ∙ elsewhere k line _ _ ne

fetched_wants : (t : Tile) (line k : ℕ) (want : Want) → wants (fetched_tile t line want) k ≡ wants t k
fetched_wants t line k Read = refl
fetched_wants t line k Write = refl

-- a line that isn't held to write answers nothing
stays_shows : (t : Tile) (line k : ℕ) (want : Want) (copy : Copy) → copy_of t.cache line ≡ copy → fetched_copy want copy ≡ copy → answer_of copy ≡ []
    → Shows t k (quiet t) (at_line line k (fetched want))
stays_shows t line k want copy is same silent =
    shows_else t line k _ (fetched want) nothing
    (record { copy = is ∙ sym same ∙ sym (ap (fetched_copy want) is); told = sym silent ∙ sym (ap answer_of is); wants = refl })
    (λ ne. leaves_lines t k _ refl refl refl)

fetch_held : (t : Tile) (from line : ℕ) (want : Want) (hold : Hold) (content : LineData) (k : ℕ) → IsCache t.cache → copy_of t.cache line ≡ held_as hold content
    → Shows t k (if is_only_read hold then quiet t else record (quiet (fetched_tile t line want)) { mail = told_to from line (HandsOver content) }) (at_line line k (fetched want))
fetch_held t from line want S content k h e = stays_shows t line k want (shared content) e refl refl
fetch_held t from line want M content k h e =
    shows_else t line k _ (fetched want) nothing
    (record {
      copy = fetched_here t line want content h e;
      told = told_here from line (HandsOver content) ∙ sym (ap answer_of e);
      wants = fetched_wants t line line want;
    })
    (λ ne. leaves_lines t k _ (fetched_there t line k want h ne) (told_there from line k (HandsOver content) ne) (fetched_wants t line k want))

fetch_shows : (t : Tile) (from line : ℕ) (want : Want) (found : Option Way) (k : ℕ) → IsCache t.cache → way_of t.cache line ≡ found
    → Shows t k (fetch_by t from line want found) (at_line line k (fetched want))
fetch_shows t from line want None k h e = stays_shows t line k want absent (ap copy_in e) refl refl
fetch_shows t from line want (Some way) k h e = fetch_held t from line want way.hold way.content k h (ap copy_in e)

-- messages to the thread
return_shows : (w : Setup) (t : Tile) (value time limit : ℕ) (status : Status) (k : ℕ) → t.core.status ≡ status
    → Shows t k (return_taken w t value time limit status) nothing
return_shows w t value time limit Called k is = leaves_lines t k _ refl refl (sym (ap (wants_by t.core.write k) is))
return_shows w t value time limit _ k is = leaves_lines t k _ refl refl refl

start_shows : (w : Setup) (t : Tile) (thread entry arg time limit : ℕ) (status : Status) (k : ℕ) → t.core.status ≡ status
    → Shows t k (start_taken w t thread entry arg time limit status) nothing
start_shows w t thread entry arg time limit Idle k is = leaves_lines t k _ refl refl (sym (ap (wants_by t.core.write k) is))
start_shows w t thread entry arg time limit _ k is = leaves_lines t k _ refl refl refl

onward_wants : (t : Tile) (k : ℕ) (writing : Bool) → wants_by t.core.write k (onward writing) ≡ None
onward_wants t k true = refl
onward_wants t k false = refl

limit_shows : (t : Tile) (limit : ℕ) (status : Status) (k : ℕ) → t.core.status ≡ status → Shows t k (limit_taken t limit status) nothing
limit_shows t limit (AtBarrier writing) k is = leaves_lines t k _ refl refl (onward_wants t k writing ∙ sym (ap (wants_by t.core.write k) is))
limit_shows t limit _ k is = leaves_lines t k _ refl refl refl

reply_shows : (w : Setup) (t : Tile) (running : Bool) (clock : ℕ) (status : Status) (k : ℕ) → t.core.status ≡ status
    → Shows t k (reply_taken w t running clock status) nothing
reply_shows w t running clock (Probing writing partner replies) k is =
    shows_both (may_go_on t.core.clock clock running w.config.slack (replies + 1)) t k _ _ nothing
    (leaves_lines t k _ refl refl (onward_wants t k writing ∙ sym (ap (wants_by t.core.write k) is)))
    (leaves_lines t k _ refl refl (sym (ap (wants_by t.core.write k) is)))
reply_shows w t running clock _ k is = leaves_lines t k _ refl refl refl

-- each message
taken_shows : (w : Setup) (t : Tile) (from : ℕ) (msg : Msg) (k : ℕ) → IsCache t.cache → Shows t k (taken w t from msg) (taken_at t msg k)
taken_shows w t from (DataS line content delay) k h = data_shows w t line S content delay t.core.status k h refl
taken_shows w t from (DataM line content delay) k h = data_shows w t line M content delay t.core.status k h refl
taken_shows w t from (Inv line) k h = inv_shows t from line (way_of t.cache line) k h refl
taken_shows w t from (Fetch line) k h = fetch_shows t from line Read (way_of t.cache line) k h refl
taken_shows w t from (FetchInv line) k h = fetch_shows t from line Write (way_of t.cache line) k h refl
taken_shows w t from (Return value time limit) k h = return_shows w t value time limit t.core.status k refl
taken_shows w t from (Start thread entry arg time limit) k h = start_shows w t thread entry arg time limit t.core.status k refl
taken_shows w t from (Limit limit) k h = limit_shows t limit t.core.status k refl
taken_shows w t from (ProbeReply running clock) k h = reply_shows w t running clock t.core.status k refl
taken_shows w t from (GetS line) k h = leaves_lines t k _ refl (homes_silent w t from line (Asks Read) k) refl
taken_shows w t from (GetM line) k h = leaves_lines t k _ refl (homes_silent w t from line (Asks Write) k) refl
taken_shows w t from (PutM line content) k h = leaves_lines t k _ refl (homes_silent w t from line (GivesUp content) k) refl
taken_shows w t from (InvAck line) k h = leaves_lines t k _ refl (homes_silent w t from line Acknowledges k) refl
taken_shows w t from (FetchAck line content) k h = leaves_lines t k _ refl (homes_silent w t from line (HandsOver content) k) refl
taken_shows w t from _ k h = leaves_lines t k _ refl refl refl

pub deliver_shows : DeliverShows
deliver_shows w t from msg k h =
    shows_if (may_send w.config from t.number msg) t k _ _ _ _ (λ _. taken_shows w t from msg k h) (λ _. leaves_lines t k _ refl refl refl)
