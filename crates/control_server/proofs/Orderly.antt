-- What is known of a control server stays so.
use Rattle.std.proofs.Common.{◌≡◌, ℕ, ◌%◌, ◌<◌, ◌&&◌, ◌++◌, Bool, true, false, not, cond, nat_eq, nat_lt, is_some, List, [], ◌∷◌, length, slice_set, Option, Some, None, All, refl, ap, sym, ◌∙◌, subst, ⊎_elim, arith}
use Rattle.std.specs.Prelude.{◌||◌}
use Rattle.std.specs.List.{list_any}
use Rattle.std.proofs.lemmas.Bool.{and_parts, or_cases, eqb-true, eqb-false, ne_eqb, ltb-true}
use Rattle.std.proofs.lemmas.List.{length-set}
use Rattle.std.proofs.lemmas.List.Elements.{All-nil, All-cons, All-head, All-tail, All-push}
use Rattle.std.proofs.lemmas.List.Folds.{list_any-append}
use Rattle.std.proofs.lemmas.List.FromFn.{length-map-range_with_len}
use Rattle.sim_base.specs.declared.ends.End.{End}
use Rattle.sim_base.specs.declared.lines.LineData.{LineData}
use Rattle.sim_base.specs.declared.settings.Config.{Config}
use Rattle.sim_base.specs.Numbering.{node_count, control_node, host_of}
use Rattle.elf_image.specs.Layout.{Setup}
use Rattle.wire_msg.specs.declared.calls.Call.{Call as CallData}
use Rattle.wire_msg.specs.declared.calls.Call.TheVariants.{FutexWait}
use Rattle.wire_msg.specs.declared.messages.Msg.{Msg}
use Rattle.wire_msg.specs.declared.messages.Msg.TheVariants.{DataS, Inv, Call, Exit, Trapped, Reached}
use Rattle.wire_msg.specs.Message.{may_send, has_role, local}
use Rattle.serving.specs.declared.control_data.Request.{Request}
use Rattle.serving.specs.declared.control_data.Request.TheVariants.{Call as CallRequest, Exit as ExitRequest, Trap}
use Rattle.serving.specs.ControlData.{ControlData}
use Rattle.serving.specs.Serving.{Served, Born, serve}
use Rattle.clock_policy.specs.Members.{reported, standing}
use Rattle.clock_policy.proofs.Ascending.{threads_of-reported, threads_of-advanced}
use Rattle.control_server.specs.Control.{Control, Act, Waiting, Check, quiet, waits, is_active, has_request, is_placed, is_placed_request, is_checked, free_at_start, start_control, IsAsked, AreApart, IsCheckableIfAny, IsOrderly, IsInOrder}
use Rattle.control_server.specs.Serve.{serves, checks, begins, step_by, control_step, can_step, none_waits, line_at, free_born, free_left, freest_host, may_close, epochs_served}
use Rattle.control_server.specs.Deliver.{admits, admitted, request_taken, call_taken, data_taken, request_of, word_in, taken, taken_late, taken_by, control_delivered}
use Rattle.control_server.proofs.Active.{IsActive, active_parts, active_from}
use Rattle.control_server.proofs.Keeping.{Keeps, keeps}
use Rattle.control_server.proofs.Moves.{Moves, moves}
use Rattle.control_server.proofs.Members.{AreActive, members_active, members_listed, served_members, closed_threads}

neither : (a b : Bool) → (a || b) ≡ false → (a ≡ false) × (b ≡ false)
neither false false e = (refl, refl)
neither true b e = cc
neither false true e = cc

none : (a b : Bool) → a ≡ false → b ≡ false → (a || b) ≡ false
none a b p q = rw (p, q) refl

-- before the program runs
start_orderly : (w : Setup) → IsOrderly w (start_control w)
start_orderly w = record {
  hosts = length-map-range_with_len (free_at_start w.config) 0 w.config.hosts;
  numbers = omega arith;
  threads = refl;
  parked = λ t. omega arith;
  members = refl;
  asked = All-nil (IsAsked w (start_control w).control);
  apart = tt;
  checked = tt;
}

pub started_in_order : (w : Setup) (c : Control) → c ≡ start_control w → IsInOrder w c
started_in_order w c e = subst (IsInOrder w) (sym e) (record { orderly = λ fresh. start_orderly w })

-- the requests of others stay as they are
asked_kept : (w : Setup) (c d : ControlData) (caller : ℕ) (qs : List Waiting) → ((t : ℕ) → (t ≡ caller → ⊥) → IsActive c t → IsActive d t) → list_any (waits caller) qs ≡ false
    → All (IsAsked w c) qs → All (IsAsked w d) qs
asked_kept w c d caller [] others alone h = All-nil (IsAsked w d)
asked_kept w c d caller (q ∷ qs) others alone h =
    let p = neither (nat_eq q.thread caller) (list_any (waits caller) qs) alone in
    let first : IsAsked w c q = All-head (IsAsked w c) q qs h in
    let active = active_from d q.thread (others q.thread (eqb-false q.thread caller p.0) (active_parts c q.thread first.active)) in
    All-cons (IsAsked w d) q qs (record { active = active; sender = first.sender; placed = first.placed }) (asked_kept w c d caller qs others p.1 (All-tail (IsAsked w c) q qs h))

-- there is a count for each host
length-free_born : (born : Option Born) (free : List ℕ) → length (free_born born free) ≡ length free
length-free_born None free = refl
length-free_born (Some b) free = length-set free (freest_host free) _

length-free_left : (w : Setup) (from : ℕ) (request : Request) (free : List ℕ) → length (free_left w from request free) ≡ length free
length-free_left w from (CallRequest call) free = refl
length-free_left w from (ExitRequest code) free = length-set free (host_of w.config from) _
length-free_left w from (Trap cause pc) free = refl

-- a request was served
pub served_orderly : (w : Setup) (c : Control) (q : Waiting) (word : ℕ) → IsOrderly w c → is_active c.control q.thread ≡ true → list_any (waits q.thread) c.backlog ≡ false → c.checking ≡ None → IsOrderly w (serves w c q word).control
served_orderly w c q word h active alone idle =
    let made : Served = serve w c.control q.thread q.request word (none_waits c.backlog) in
    let m : Moves c.control q.thread made = moves w c.control q.thread q.request word (none_waits c.backlog) h.parked (active_parts c.control q.thread active) in
    let after : AreActive (epochs_served made.control q.thread made c.epochs).members made.control = served_members c.control q.thread made c.epochs (members_active c.epochs.members c.control h.members) active m in
    let k : Keeps c.control q.thread made = keeps w c.control q.thread q.request word (none_waits c.backlog) h.numbers in
    record {
      hosts = length-free_left w q.from q.request (free_born made.born c.free) ∙ length-free_born made.born c.free ∙ h.hosts;
      numbers = k.numbers;
      threads = k.begun c.callers h.threads;
      parked = m.parked;
      members = closed_threads (may_close made.own made.control.ended) (epochs_served made.control q.thread made c.epochs) ∙ members_listed (epochs_served made.control q.thread made c.epochs).members made.control after;
      asked = asked_kept w c.control made.control q.thread c.backlog k.others alone h.asked;
      apart = h.apart;
      checked = subst (IsCheckableIfAny w made.control c.backlog) (sym idle) tt;
    }

-- a futex wait is checked
checks_orderly : (w : Setup) (c : Control) (q : Waiting) (addr value : ℕ) → IsOrderly w c → IsAsked w c.control q → addr % 4 ≡ 0 → list_any (waits q.thread) c.backlog ≡ false
    → IsOrderly w (checks w c q addr value).control
checks_orderly w c q addr value h asked placed alone = record {
  hosts = h.hosts;
  numbers = h.numbers;
  threads = h.threads;
  parked = h.parked;
  members = h.members;
  asked = h.asked;
  apart = h.apart;
  checked = record { active = asked.active; sender = asked.sender; placed = placed; alone = alone };
}

begins_orderly : (w : Setup) (c : Control) (q : Waiting) (request : Request) → request ≡ q.request → IsOrderly w c → IsAsked w c.control q → list_any (waits q.thread) c.backlog ≡ false → c.checking ≡ None
    → IsOrderly w (begins w c q request).control
begins_orderly w c q (CallRequest (FutexWait addr value)) e h asked alone idle = checks_orderly w c q addr value h asked (eqb-true (addr % 4) 0 (ap is_placed_request e ∙ asked.placed)) alone
begins_orderly w c q _ e h asked alone idle = served_orderly w c q 0 h asked.active alone idle

-- the first request leaves the backlog
rest_orderly : (w : Setup) (c : Control) (q : Waiting) (rest : List Waiting) → c.backlog ≡ q ∷ rest → c.checking ≡ None → IsOrderly w c → IsOrderly w (record c { backlog = rest })
rest_orderly w c q rest e idle h =
    let asked : All (IsAsked w c.control) (q ∷ rest) = subst (All (IsAsked w c.control)) e h.asked in
    let apart : AreApart (q ∷ rest) = subst AreApart e h.apart in
    record {
      hosts = h.hosts;
      numbers = h.numbers;
      threads = h.threads;
      parked = h.parked;
      members = h.members;
      asked = All-tail (IsAsked w c.control) q rest asked;
      apart = apart.1;
      checked = subst (IsCheckableIfAny w c.control rest) (sym idle) tt;
    }

step_orderly_by : (w : Setup) (c : Control) (qs : List Waiting) → c.backlog ≡ qs → c.checking ≡ None → IsOrderly w c → IsOrderly w (step_by w c qs).control
step_orderly_by w c [] e idle h = h
step_orderly_by w c (q ∷ rest) e idle h =
    let asked : All (IsAsked w c.control) (q ∷ rest) = subst (All (IsAsked w c.control)) e h.asked in
    let apart : AreApart (q ∷ rest) = subst AreApart e h.apart in
    begins_orderly w (record c { backlog = rest }) q q.request refl (rest_orderly w c q rest e idle h) (All-head (IsAsked w c.control) q rest asked) apart.0 idle

none_checked : (waits ended : Bool) (o : Option Check) → (waits && (not (is_some o) && ended)) ≡ true → o ≡ None
none_checked waits ended None e = refl
none_checked true ended (Some check) e = cc
none_checked false ended (Some check) e = cc

pub step_orderly : (w : Setup) (c : Control) → can_step c ≡ true → IsOrderly w c → IsOrderly w (control_step w c).control
step_orderly w c can h = step_orderly_by w c c.backlog refl (none_checked (not (none_waits c.backlog)) (not (is_some c.control.ended)) c.checking can) h

-- a request joins the backlog
apart_push : (qs : List Waiting) (q : Waiting) → AreApart qs → list_any (waits q.thread) qs ≡ false → AreApart (qs ++ q ∷ [])
apart_push [] q h alone = (refl, tt)
apart_push (p ∷ ps) q h alone =
    let parts = neither (nat_eq p.thread q.thread) (list_any (waits q.thread) ps) alone in
    let other : nat_eq q.thread p.thread ≡ false = ne_eqb q.thread p.thread (λ e. eqb-false p.thread q.thread parts.0 (sym e)) in
    (list_any-append (waits p.thread) ps (q ∷ []) ∙ none (list_any (waits p.thread) ps) (nat_eq q.thread p.thread || false) h.0 (none (nat_eq q.thread p.thread) false other refl), apart_push ps q h.1 parts.1)

checkable_push : (w : Setup) (kept : ControlData) (qs : List Waiting) (q : Waiting) (o : Option Check) → is_checked q.thread o ≡ false → IsCheckableIfAny w kept qs o → IsCheckableIfAny w kept (qs ++ q ∷ []) o
checkable_push w kept qs q None e h = tt
checkable_push w kept qs q (Some check) e h =
    let other : nat_eq q.thread check.thread ≡ false = ne_eqb q.thread check.thread (λ same. eqb-false check.thread q.thread e (sym same)) in
    record {
      active = h.active;
      sender = h.sender;
      placed = h.placed;
      alone = list_any-append (waits check.thread) qs (q ∷ []) ∙ none (list_any (waits check.thread) qs) (nat_eq q.thread check.thread || false) h.alone (none (nat_eq q.thread check.thread) false other refl);
    }

no_request : (b : Bool) → not b ≡ true → b ≡ false
no_request true e = cc
no_request false e = refl

admitted_orderly : (w : Setup) (c : Control) (q : Waiting) (callers : List ℕ) → IsOrderly w c → admits c q.thread ≡ true → q.from < node_count w.config → is_placed_request q.request ≡ true
    → length callers ≡ length c.callers → IsOrderly w (record (admitted c q) { callers = callers })
admitted_orderly w c q callers h admits sender placed same =
    let parts = and_parts (is_active c.control q.thread) (not (has_request c q.thread)) admits in
    let free = neither (list_any (waits q.thread) c.backlog) (is_checked q.thread c.checking) (no_request (has_request c q.thread) parts.1) in
    record {
      hosts = h.hosts;
      numbers = h.numbers;
      threads = same ∙ h.threads;
      parked = h.parked;
      members = h.members;
      asked = All-push (IsAsked w c.control) c.backlog q h.asked (record { active = parts.0; sender = sender; placed = placed });
      apart = apart_push c.backlog q h.apart free.0;
      checked = checkable_push w c.control c.backlog q c.checking free.1 h.checked;
    }

orderly_cond : (w : Setup) (b : Bool) (c d : Control) → IsOrderly w c → (b ≡ true → IsOrderly w d) → IsOrderly w (cond b (quiet d) (quiet c)).control
orderly_cond w true c d h f = f refl
orderly_cond w false c d h f = h

call_orderly : (w : Setup) (c : Control) (from thread time : ℕ) (call : CallData) → IsOrderly w c → from < node_count w.config → IsOrderly w (call_taken c from thread time call).control
call_orderly w c from thread time call h sender = orderly_cond w (is_placed call && admits c thread) c _ h (λ e.
    let parts = and_parts (is_placed call) (admits c thread) e in
    admitted_orderly w c (record { thread = thread; from = from; time = time; request = CallRequest call }) (slice_set c.callers thread from) h parts.1 sender parts.0 (length-set c.callers thread from))

request_orderly : (w : Setup) (c : Control) (q : Waiting) → IsOrderly w c → q.from < node_count w.config → is_placed_request q.request ≡ true → IsOrderly w (request_taken c q).control
request_orderly w c q h sender placed = orderly_cond w (admits c q.thread) c _ h (λ e. admitted_orderly w c q c.callers h e sender placed refl)

-- the word that is being checked comes
idle_orderly : (w : Setup) (c : Control) → IsOrderly w c → IsOrderly w (record c { checking = None })
idle_orderly w c h = record { hosts = h.hosts; numbers = h.numbers; threads = h.threads; parked = h.parked; members = h.members; asked = h.asked; apart = h.apart; checked = tt }

data_orderly_cond : (w : Setup) (b : Bool) (c : Control) (act : Act) → IsOrderly w c → IsOrderly w act.control → IsOrderly w (cond b act (quiet c)).control
data_orderly_cond w true c act h k = k
data_orderly_cond w false c act h k = h

data_orderly : (w : Setup) (c : Control) (line : ℕ) (content : LineData) (o : Option Check) → IsCheckableIfAny w c.control c.backlog o → IsOrderly w c → IsOrderly w (data_taken w c line content o).control
data_orderly w c line content None k h = h
data_orderly w c line content (Some check) k h =
    data_orderly_cond w (nat_eq (line_at check.addr) line) c _ h
    (served_orderly w (record c { checking = None }) (request_of check) (word_in content check.addr) (idle_orderly w c h) k.active k.alone refl)

-- who sends is a node
tile_node : (c : Config) (from to : ℕ) (b : Bool) → (nat_lt from c.tiles && b) ≡ true → from < node_count c
tile_node c from to b e = omega (arith, ltb-true from c.tiles (and_parts _ _ e).0)

local_node_sends : (c : Config) (from to : ℕ) → may_send c from (control_node c) (Exit 0 0 0) ≡ true → from < node_count c
local_node_sends c from to e = ⊎_elim
    (λ (up : ((nat_lt from c.tiles && has_role c local (control_node c)) && nat_eq (host_of c from) (host_of c (control_node c))) ≡ true).
    tile_node c from to _ (and_parts _ _ up).0)
    (λ (down : ((nat_lt (control_node c) from && nat_lt from (node_count c)) && nat_eq (control_node c) (control_node c)) ≡ true).
    ltb-true from (node_count c) (and_parts (nat_lt (control_node c) from) (nat_lt from (node_count c)) (and_parts _ _ down).0).1)
    (or_cases _ _ e)

taken_orderly : (w : Setup) (c : Control) (from : ℕ) (msg : Msg) → may_send w.config from (control_node w.config) msg ≡ true → IsOrderly w c → IsOrderly w (taken w c from msg).control
taken_orderly w c from (Call thread time call) sends h = call_orderly w c from thread time call h (tile_node w.config from (control_node w.config) _ sends)
taken_orderly w c from (Exit thread code time) sends h = request_orderly w c (record { thread = thread; from = from; time = time; request = ExitRequest code }) h (local_node_sends w.config from 0 sends) refl
taken_orderly w c from (Trapped thread cause pc) sends h = request_orderly w c (record { thread = thread; from = from; time = 0; request = Trap cause pc }) h (tile_node w.config from (control_node w.config) _ sends) refl
taken_orderly w c from (Reached thread) sends h = record {
  hosts = h.hosts;
  numbers = h.numbers;
  threads = h.threads;
  parked = h.parked;
  members = threads_of-advanced (standing (reported thread from c.epochs.members)) (record c.epochs { members = reported thread from c.epochs.members }) ∙ threads_of-reported thread from c.epochs.members ∙ h.members;
  asked = h.asked;
  apart = h.apart;
  checked = h.checked;
}
taken_orderly w c from (DataS line content delay) sends h = data_orderly w c line content c.checking h.checked h
taken_orderly w c from (Inv line) sends h = h
taken_orderly w c from _ sends h = h

late_orderly : (w : Setup) (c : Control) (from : ℕ) (msg : Msg) → IsOrderly w c → IsOrderly w (taken_late c from msg).control
late_orderly w c from (Inv line) h = h
late_orderly w c from _ h = h

taken_by_orderly : (w : Setup) (c : Control) (from : ℕ) (msg : Msg) (o : Option End) → may_send w.config from (control_node w.config) msg ≡ true → IsOrderly w c → IsOrderly w (taken_by w c from msg o).control
taken_by_orderly w c from msg None sends h = taken_orderly w c from msg sends h
taken_by_orderly w c from msg (Some end) sends h = late_orderly w c from msg h

delivered_by : (w : Setup) (c : Control) (from : ℕ) (msg : Msg) (b : Bool) → may_send w.config from (control_node w.config) msg ≡ b → IsOrderly w c
    → IsOrderly w (cond b (taken_by w c from msg c.control.ended) (quiet c)).control
delivered_by w c from msg true sends h = taken_by_orderly w c from msg c.control.ended sends h
delivered_by w c from msg false sends h = h

pub delivered_orderly : (w : Setup) (c : Control) (from : ℕ) (msg : Msg) → IsOrderly w c → IsOrderly w (control_delivered w c from msg).control
delivered_orderly w c from msg h = delivered_by w c from msg (may_send w.config from (control_node w.config) msg) refl h
