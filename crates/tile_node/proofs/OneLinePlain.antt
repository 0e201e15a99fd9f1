-- What every rule does besides: caches stay caches, who is told, and that a tile's lines as a home stay as they are.
use Rattle.std.proofs.Common.{◌≡◌, ◌≢◌, ℕ, Bool, true, false, List, [], ◌∷◌, Some, None, refl, ap, sym, ◌∙◌, inl, inr, subst}
use Rattle.std.proofs.lemmas.Bool.{cases_Bool, cond-true, cond-false, eqb-true}
use Rattle.std.proofs.lemmas.Option.{none-some, same_Some}
use Rattle.std.proofs.lemmas.List.Elements.{All-nil, All-cons}
use Rattle.std.specs.Prelude.{Option, All, ◌+◌, ◌==◌, ◌&&◌, if◌then◌else◌}
use Rattle.sim_base.specs.declared.lines.LineData.{LineData}
use Rattle.sim_base.specs.Numbering.{home_of}
use Rattle.rv_exec.specs.Access.{Asked}
use Rattle.elf_image.specs.Layout.{Setup}
use Rattle.wire_msg.specs.declared.messages.Msg.{Msg}
use Rattle.wire_msg.specs.declared.messages.Msg.TheVariants.{GetS, GetM, PutM, InvAck, FetchAck, DataS, DataM, Inv, Fetch, FetchInv, Return, Start, Limit, Probe, ProbeReply}
use Rattle.wire_msg.specs.declared.lines.Want.{Want}
use Rattle.wire_msg.specs.declared.lines.Want.TheVariants.{Read, Write}
use Rattle.wire_msg.specs.declared.lines.Up.{Up}
use Rattle.wire_msg.specs.declared.lines.Up.TheVariants.{Asks, GivesUp, Acknowledges, HandsOver}
use Rattle.wire_msg.specs.Message.{Down, drops, fetches, up_about, down_about, may_send, up_of, down_of}
use Rattle.tile_core.specs.declared.cores.Status.{Status}
use Rattle.tile_core.specs.declared.cores.Status.TheVariants.{Idle, Miss, Called, AtBarrier, Probing}
use Rattle.tile_core.specs.declared.plans.Plan.{Plan}
use Rattle.tile_core.specs.declared.plans.Plan.TheVariants.{Local, Access, ScFails, Send, Exit, Write, Trap}
use Rattle.tile_core.specs.Gathering.{is_gathered}
use Rattle.tile_core.specs.Core.{line_at, line_missed, next_byte}
use Rattle.tile_core.specs.Plan.{plan_of}
use Rattle.tile_cache.specs.declared.ways.Hold.{Hold}
use Rattle.tile_cache.specs.declared.ways.Hold.TheVariants.{S, M}
use Rattle.tile_cache.specs.declared.ways.Way.{Way}
use Rattle.tile_cache.specs.Cache.{Sets, IsCache, way_of, content_of, victim_of, touched, without_line, placed}
use Rattle.clock_policy.specs.Probe.{may_go_on}
use Rattle.dir_slice.specs.Directory.{Slice}
use Rattle.tile_node.specs.Tile.{Tile, Act, quiet, up_message, to_home, suits, is_only_read}
use Rattle.tile_node.specs.Step.{is_writing, waits_for_limit, looks_around, misses, reads_byte_by, writes, accesses_by, follows, tile_step}
use Rattle.tile_node.specs.Deliver.{put_home, victim_tile, victim_mail, waiting_done, hold_suits, miss_ends, data_taken, inv_tile, told_to, fetched_tile, fetch_by, return_taken, start_taken, limit_taken, reply_taken, taken, tile_delivered}
use Rattle.tile_node.specs.OneLineLaws.{GoesHome, GoesRightly, IsToldTo, StepStaysTile, ToldToHomes, StepLeavesHomes, DeliverLeavesHomes}
use Rattle.tile_node.proofs.OneLineParts.{at_itself, up_is, up_none}
use Rattle.tile_node.proofs.OneLineCaches.{room_of, room_is, room_there, IsCache-touched, IsCache-without, IsCache-downgraded, IsCache-used, IsCache-placed, IsCache-room}
use Rattle.tile_node.proofs.OneLineDeliver.{ended_cache}

-- what an act leaves alone: the tile's number, and its lines as a home
abbrev pub place_of : Tile → ℕ × Slice
place_of t = (t.number, t.slice)

-- a message that says nothing from a home
abbrev pub SaysNothingDown : ℕ × Msg → Type 0
SaysNothingDown m = down_of m.1 ≡ None

-- an act that leaves its cache a cache, sends only what it may, nothing from a home, and leaves homes alone
pub record Plain (P : ℕ × Msg → Type 0) (t : Tile) (act : Act) : Type 0 where
  pub cache : IsCache t.cache → IsCache act.tile.cache
  pub told : All P act.mail
  pub place : place_of act.tile ≡ place_of t
  pub mail : All SaysNothingDown act.mail

plain_if : (P : ℕ × Msg → Type 0) (b : Bool) (t : Tile) (x y : Act) → Plain P t x → Plain P t y → Plain P t (if b then x else y)
plain_if P true t x y one other = one
plain_if P false t x y one other = other

-- one message is sent or none
one : (P : ℕ × Msg → Type 0) (m : ℕ × Msg) → P m → All P (m ∷ [])
one P m e = All-cons P m [] e (All-nil P)

still : (P : ℕ × Msg → Type 0) (t : Tile) (act : Act) → (IsCache t.cache → IsCache act.tile.cache) → place_of act.tile ≡ place_of t → act.mail ≡ [] → Plain P t act
still P t act cache place mail = record {
  cache = cache;
  told = subst (All P) (sym mail) (All-nil P);
  place = place;
  mail = subst (All SaysNothingDown) (sym mail) (All-nil SaysNothingDown);
}

sends : (P : ℕ × Msg → Type 0) (t : Tile) (act : Act) (node : ℕ) (msg : Msg) → (IsCache t.cache → IsCache act.tile.cache) → place_of act.tile ≡ place_of t → act.mail ≡ (node, msg) ∷ []
    → P (node, msg) → down_of msg ≡ None → Plain P t act
sends P t act node msg cache place mail told e = record {
  cache = cache;
  told = subst (All P) (sym mail) (one P (node, msg) told);
  place = place;
  mail = subst (All SaysNothingDown) (sym mail) (one SaysNothingDown (node, msg) e);
}

-- one that says nothing of lines
sends_else : (P : ℕ × Msg → Type 0) → ((node : ℕ) (msg : Msg) → up_of msg ≡ None → P (node, msg)) → (t : Tile) (act : Act) (node : ℕ) (msg : Msg) → act.tile.cache ≡ t.cache
    → place_of act.tile ≡ place_of t → act.mail ≡ (node, msg) ∷ [] → up_of msg ≡ None → down_of msg ≡ None → Plain P t act
sends_else P silent t act node msg cache place mail none e = sends P t act node msg (λ h. subst IsCache (sym cache) h) place mail (silent node msg none) e

silent_at_home : (w : Setup) (node : ℕ) (msg : Msg) → up_of msg ≡ None → GoesHome w (node, msg)
silent_at_home w node msg e line says up = absurd (none-some says (sym (up_none line msg e) ∙ up))

-- what is said of one line is said to its home
says_one : (line k : ℕ) (says one : Up) → up_about k (up_message line says) ≡ Some one → (line ≡ k) × (says ≡ one)
says_one line k says one e =
    elim (cases_Bool (line == k)) [
      | inl t ↦ (eqb-true line k t, same_Some says one (sym (up_is k line says ∙ cond-true (line == k) _ _ t) ∙ e))
      | inr t ↦ absurd (none-some one (sym (up_is k line says ∙ cond-false (line == k) _ _ t) ∙ e))
    ]

down_none : (line : ℕ) (says : Up) → down_of (up_message line says) ≡ None
down_none line (Asks Read) = refl
down_none line (Asks Write) = refl
down_none line (GivesUp content) = refl
down_none line Acknowledges = refl
down_none line (HandsOver content) = refl

home_told : (w : Setup) (line : ℕ) (says : Up) → GoesHome w (to_home w line says)
home_told w line says k one e = ap (home_of w.config) (says_one line k says one e).0

-- a step

misses_plain : (w : Setup) (t : Tile) (line : ℕ) (want : Want) (access : Option Asked) → Plain (GoesHome w) t (misses w t line want access)
misses_plain w t line want access = sends (GoesHome w) t _ _ _ (λ h. h) refl refl (home_told w line (Asks want)) (down_none line (Asks want))

byte_plain : (w : Setup) (t : Tile) (found : Option Way) → Plain (GoesHome w) t (reads_byte_by w t (next_byte t.core.write) found)
byte_plain w t None = misses_plain w t _ Read None
byte_plain w t (Some way) = still (GoesHome w) t _ (λ h. IsCache-touched t.cache (line_at (next_byte t.core.write)) h) refl refl

writes_plain : (w : Setup) (t : Tile) → Plain (GoesHome w) t (writes w t)
writes_plain w t =
    plain_if (GoesHome w) (is_gathered t.core.write) t _ _ (sends_else (GoesHome w) (silent_at_home w) t _ _ _ refl refl refl refl refl) (byte_plain w t (way_of t.cache (line_at (next_byte t.core.write))))

access_plain : (w : Setup) (t : Tile) (access : Asked) (found : Option Way) → Plain (GoesHome w) t (accesses_by w t access found)
access_plain w t access None = misses_plain w t _ _ _
access_plain w t access (Some way) =
    plain_if (GoesHome w) (suits access.op way.hold) t _ _
    (still (GoesHome w) t _ (λ h. IsCache-used (touched t.cache (line_at access.addr)) (Some access) way.content (IsCache-touched t.cache (line_at access.addr) h)) refl refl)
    (misses_plain w t _ _ _)

follows_plain : (w : Setup) (t : Tile) (plan : Plan) → Plain (GoesHome w) t (follows w t plan)
follows_plain w t (Local rd value pc cost answered) = still (GoesHome w) t _ (λ h. h) refl refl
follows_plain w t (Access access) = access_plain w t access (way_of t.cache (line_at access.addr))
follows_plain w t (ScFails rd) = still (GoesHome w) t _ (λ h. h) refl refl
follows_plain w t (Send call) = sends_else (GoesHome w) (silent_at_home w) t _ _ _ refl refl refl refl refl
follows_plain w t (Exit code) = sends_else (GoesHome w) (silent_at_home w) t _ _ _ refl refl refl refl refl
follows_plain w t (Write addr len) = still (GoesHome w) t _ (λ h. h) refl refl
follows_plain w t (Trap cause) = sends_else (GoesHome w) (silent_at_home w) t _ _ _ refl refl refl refl refl

step_plain : (w : Setup) (t : Tile) → Plain (GoesHome w) t (tile_step w t)
step_plain w t =
    plain_if (GoesHome w) (waits_for_limit w.config.policy t.core.clock t.core.limit) t _ _ (sends_else (GoesHome w) (silent_at_home w) t _ _ _ refl refl refl refl refl)
    (plain_if (GoesHome w) (looks_around w.config.policy w.config.tiles t.core.clock t.core.next_check) t _ _ (sends_else (GoesHome w) (silent_at_home w) t _ _ _ refl refl refl refl refl)
    (plain_if (GoesHome w) (is_writing t.core.status) t _ _ (writes_plain w t) (follows_plain w t (plan_of w t.core))))

pub step_keeps_number : (w : Setup) (t : Tile) → (tile_step w t).tile.number ≡ t.number
step_keeps_number w t = ap (λ (p : ℕ × Slice). p.0) (step_plain w t).place

pub step_stays : StepStaysTile
step_stays w t h = record { cache = (step_plain w t).cache h; number = step_keeps_number w t }

pub step_told : ToldToHomes
step_told w t = (step_plain w t).told

pub step_leaves : StepLeavesHomes
step_leaves w t = let plain = step_plain w t in record { slice = ap (λ (p : ℕ × Slice). p.1) plain.place; mail = plain.mail }

-- a delivery of what no home is told

silent_rightly : (w : Setup) (from : ℕ) (msg : Msg) (node : ℕ) (m : Msg) → up_of m ≡ None → GoesRightly w from msg (node, m)
silent_rightly w from msg node m e line says up = absurd (none-some says (sym (up_none line m e) ∙ up))

told_rightly : (w : Setup) (from : ℕ) (msg : Msg) (to line : ℕ) (says : Up) → IsToldTo w from msg to line says → GoesRightly w from msg (to, up_message line says)
told_rightly w from msg to line says told k one e =
    let is = says_one line k says one e in subst (IsToldTo w from msg to k) is.1 (subst (λ n. IsToldTo w from msg to n says) is.0 told)

-- messages that go rightly, and say nothing from a home
abbrev Rightly : Setup → ℕ → Msg → List (ℕ × Msg) → Type 0
Rightly w from msg mail = All (GoesRightly w from msg) mail × All SaysNothingDown mail

told_put : (w : Setup) (from : ℕ) (msg : Msg) (line : ℕ) (content : Option LineData) → Rightly w from msg (put_home w line content)
told_put w from msg line None = (All-nil (GoesRightly w from msg), All-nil SaysNothingDown)
told_put w from msg line (Some content) =
    (one (GoesRightly w from msg) _ (told_rightly w from msg (home_of w.config line) line (GivesUp content) refl), one SaysNothingDown _ refl)

told_victim : (w : Setup) (t : Tile) (from : ℕ) (msg : Msg) (victim : Option (ℕ × Hold)) → Rightly w from msg (victim_mail w t victim)
told_victim w t from msg None = (All-nil (GoesRightly w from msg), All-nil SaysNothingDown)
told_victim w t from msg (Some (line, S)) = (All-nil (GoesRightly w from msg), All-nil SaysNothingDown)
told_victim w t from msg (Some (line, M)) = told_put w from msg line (content_of t.cache line)

miss_place : (w : Setup) (t : Tile) (c : Sets) (access : Option Asked) (content : LineData) (delay : ℕ) → place_of (waiting_done w t c access content delay) ≡ place_of t
miss_place w t c None content delay = refl
miss_place w t c (Some access) content delay = refl

victim_place : (t : Tile) (victim : Option (ℕ × Hold)) → place_of (victim_tile t victim) ≡ place_of t
victim_place t None = refl
victim_place t (Some (line, S)) = refl
victim_place t (Some (line, M)) = refl

miss_cache : (t : Tile) (line : ℕ) (hold : Hold) (content : LineData) (victim : Option (ℕ × Hold)) → IsCache t.cache → victim_of t.cache line ≡ victim
    → IsCache (placed (victim_tile t victim).cache line hold content)
miss_cache t line hold content victim h e =
    subst (λ c. IsCache (placed c line hold content)) (sym (room_is t victim))
    (IsCache-placed (room_of t.cache victim) line hold content (IsCache-room t.cache victim h) (room_there t.cache line victim h e))

miss_plain : (w : Setup) (t : Tile) (from : ℕ) (msg : Msg) (access : Option Asked) (line : ℕ) (hold : Hold) (content : LineData) (delay : ℕ)
    → Plain (GoesRightly w from msg) t (miss_ends w t access line hold content delay)
miss_plain w t from msg access line hold content delay =
    let room : Tile = victim_tile t (victim_of t.cache line) in
    let c : Sets = placed room.cache line hold content in
    record {
      cache = λ h. subst IsCache (sym (ended_cache w room c access content delay)) (IsCache-used c access content (miss_cache t line hold content (victim_of t.cache line) h refl));
      told = (told_victim w t from msg (victim_of t.cache line)).0;
      place = miss_place w room c access content delay ∙ victim_place t (victim_of t.cache line);
      mail = (told_victim w t from msg (victim_of t.cache line)).1;
    }

quiet_plain : (P : ℕ × Msg → Type 0) (t : Tile) → Plain P t (quiet t)
quiet_plain P t = still P t (quiet t) (λ h. h) refl refl

data_plain : (w : Setup) (t : Tile) (from : ℕ) (msg : Msg) (line : ℕ) (hold : Hold) (content : LineData) (delay : ℕ) (status : Status)
    → Plain (GoesRightly w from msg) t (data_taken w t line hold content delay status)
data_plain w t from msg line hold content delay (Miss access) =
    plain_if _ (line_missed t.core.write access == line && hold_suits access hold) t _ _ (miss_plain w t from msg access line hold content delay) (quiet_plain _ t)
data_plain w t from msg line hold content delay _ = quiet_plain _ t

-- an answer to a home
tells_plain : (w : Setup) (t new : Tile) (from : ℕ) (msg : Msg) (line : ℕ) (says : Up) → IsToldTo w from msg from line says → (IsCache t.cache → IsCache new.cache)
    → place_of new ≡ place_of t → Plain (GoesRightly w from msg) t (record (quiet new) { mail = told_to from line says })
tells_plain w t new from msg line says e cache place =
    sends (GoesRightly w from msg) t _ _ _ cache place refl (told_rightly w from msg from line says e) (down_none line says)

-- a word about a line is about it
is_word : (line : ℕ) (says : Down) → (if line == line then Some says else None) ≢ None
is_word line says = λ none. none-some says (sym none ∙ at_itself line _ _)

inv_cache : (t : Tile) (line : ℕ) (found : Option Way) → IsCache t.cache → IsCache (inv_tile t line found).cache
inv_cache t line None h = h
inv_cache t line (Some way) h = elim (is_only_read way.hold) as (λ b. IsCache (if b then record t { cache = without_line t.cache line } else t).cache) [
  | true ↦ IsCache-without t.cache line h
  | false ↦ h
]

inv_place : (t : Tile) (line : ℕ) (found : Option Way) → place_of (inv_tile t line found) ≡ place_of t
inv_place t line None = refl
inv_place t line (Some way) = elim (is_only_read way.hold) as (λ b. place_of (if b then record t { cache = without_line t.cache line } else t) ≡ place_of t) [
  | true ↦ refl
  | false ↦ refl
]

fetched_cache : (t : Tile) (line : ℕ) (want : Want) → IsCache t.cache → IsCache (fetched_tile t line want).cache
fetched_cache t line Read h = IsCache-downgraded t.cache line h
fetched_cache t line Write h = IsCache-without t.cache line h

fetched_place : (t : Tile) (line : ℕ) (want : Want) → place_of (fetched_tile t line want) ≡ place_of t
fetched_place t line Read = refl
fetched_place t line Write = refl

fetch_plain : (w : Setup) (t : Tile) (from : ℕ) (msg : Msg) (line : ℕ) (want : Want) (found : Option Way) → down_about line msg ≢ None → Plain (GoesRightly w from msg) t (fetch_by t from line want found)
fetch_plain w t from msg line want None word = quiet_plain _ t
fetch_plain w t from msg line want (Some way) word =
    plain_if _ (is_only_read way.hold) t _ _ (quiet_plain _ t) (tells_plain w t (fetched_tile t line want) from msg line (HandsOver way.content) (refl, word) (fetched_cache t line want) (fetched_place t line want))

return_plain : (P : ℕ × Msg → Type 0) (w : Setup) (t : Tile) (value time limit : ℕ) (status : Status) → Plain P t (return_taken w t value time limit status)
return_plain P w t value time limit Called = still P t _ (λ h. h) refl refl
return_plain P w t value time limit _ = quiet_plain P t

start_plain : (P : ℕ × Msg → Type 0) (w : Setup) (t : Tile) (thread entry arg time limit : ℕ) (status : Status) → Plain P t (start_taken w t thread entry arg time limit status)
start_plain P w t thread entry arg time limit Idle = still P t _ (λ h. h) refl refl
start_plain P w t thread entry arg time limit _ = quiet_plain P t

limit_plain : (P : ℕ × Msg → Type 0) (t : Tile) (limit : ℕ) (status : Status) → Plain P t (limit_taken t limit status)
limit_plain P t limit (AtBarrier writing) = still P t _ (λ h. h) refl refl
limit_plain P t limit _ = quiet_plain P t

reply_plain : (P : ℕ × Msg → Type 0) (asks : (node : ℕ) → P (node, Probe)) (w : Setup) (t : Tile) (running : Bool) (clock : ℕ) (status : Status) → Plain P t (reply_taken w t running clock status)
reply_plain P asks w t running clock (Probing writing partner replies) =
    plain_if P (may_go_on t.core.clock clock running w.config.slack (replies + 1)) t _ _ (still P t _ (λ h. h) refl refl) (sends P t _ _ _ (λ h. h) refl refl (asks partner) refl)
reply_plain P asks w t running clock _ = quiet_plain P t

taken_plain : (w : Setup) (t : Tile) (from : ℕ) (msg : Msg) → up_of msg ≡ None → Plain (GoesRightly w from msg) t (taken w t from msg)
taken_plain w t from (GetS line) e = cc
taken_plain w t from (GetM line) e = cc
taken_plain w t from (PutM line content) e = cc
taken_plain w t from (InvAck line) e = cc
taken_plain w t from (FetchAck line content) e = cc
taken_plain w t from (DataS line content delay) e = data_plain w t from (DataS line content delay) line S content delay t.core.status
taken_plain w t from (DataM line content delay) e = data_plain w t from (DataM line content delay) line M content delay t.core.status
taken_plain w t from (Inv line) e = tells_plain w t (inv_tile t line (way_of t.cache line)) from (Inv line) line Acknowledges (refl, is_word line drops) (inv_cache t line (way_of t.cache line)) (inv_place t line (way_of t.cache line))
taken_plain w t from (Fetch line) e = fetch_plain w t from (Fetch line) line Read (way_of t.cache line) (is_word line (fetches Read))
taken_plain w t from (FetchInv line) e = fetch_plain w t from (FetchInv line) line Write (way_of t.cache line) (is_word line (fetches Write))
taken_plain w t from (Return value time limit) e = return_plain _ w t value time limit t.core.status
taken_plain w t from (Start thread entry arg time limit) e = start_plain _ w t thread entry arg time limit t.core.status
taken_plain w t from (Limit limit) e = limit_plain _ t limit t.core.status
taken_plain w t from Probe e = sends_else _ (silent_rightly w from Probe) t _ _ _ refl refl refl refl refl
taken_plain w t from (ProbeReply running clock) e = reply_plain _ (λ node. silent_rightly w from (ProbeReply running clock) node Probe refl) w t running clock t.core.status
taken_plain w t from _ e = quiet_plain _ t

pub deliver_plain : (w : Setup) (t : Tile) (from : ℕ) (msg : Msg) → up_of msg ≡ None → Plain (GoesRightly w from msg) t (tile_delivered w t from msg)
deliver_plain w t from msg e = plain_if _ (may_send w.config from t.number msg) t _ _ (taken_plain w t from msg e) (quiet_plain _ t)

pub deliver_leaves : DeliverLeavesHomes
deliver_leaves w t from msg e = let plain = deliver_plain w t from msg e in record { slice = ap (λ (p : ℕ × Slice). p.1) plain.place; mail = plain.mail }
