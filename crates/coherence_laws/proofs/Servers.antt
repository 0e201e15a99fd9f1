-- What the servers do at a line: the control server asks for it to read a word, and acknowledges; all else that they send
-- is about no line.
use Rattle.std.proofs.Common.{◌≡◌, ℕ, Bool, true, false, List, [], ◌∷◌, ◌++◌, Some, None, ◌==◌, ◌&&◌, if◌then◌else◌, refl, sym, ap, ◌∙◌, inl, inr, arith, subst}
use Rattle.std.proofs.lemmas.Bool.Decides.{nat_tests}
use Rattle.std.proofs.lemmas.Bool.{cond-true, cond-false, and_parts}
use Rattle.std.proofs.lemmas.List.Elements.{All-nil, All-cons, All-append, All-map}
use Rattle.std.specs.Prelude.{Option, All, not, is_some, ◌⊎◌}
use Rattle.std.specs.List.{filter_map, cons_option}
use Rattle.std.specs.Option.{option_map}
use Rattle.sim_base.specs.declared.ends.End.{End}
use Rattle.sim_base.specs.declared.lines.LineData.{LineData}
use Rattle.sim_base.specs.declared.settings.Config.{Config}
use Rattle.sim_base.specs.Numbering.{home_of, control_node, local_node}
use Rattle.elf_image.specs.Layout.{Setup}
use Rattle.wire_msg.specs.declared.calls.Call.{Call as CallData}
use Rattle.wire_msg.specs.declared.calls.Call.TheVariants.{FutexWait}
use Rattle.wire_msg.specs.declared.messages.Msg.{Msg}
use Rattle.wire_msg.specs.declared.messages.Msg.TheVariants.{GetS, DataS, Inv, Call, Start, Exit as ExitMsg, Trapped, Reached, Limit}
use Rattle.wire_msg.specs.Message.{may_send, line_of}
use Rattle.serving.specs.declared.control_data.Request.{Request}
use Rattle.serving.specs.declared.control_data.Request.TheVariants.{Call as CallRequest}
use Rattle.serving.specs.Serving.{Served, Born, Own, answer, park, leave, serve}
use Rattle.clock_policy.specs.declared.members.Member.{Member}
use Rattle.clock_policy.specs.Members.{Standing, nobody, some_unreached, all_reached, standing, reported}
use Rattle.clock_policy.specs.Epoch.{Epoch, limit_of, next_epoch, limit_sent, announced_by}
use Rattle.control_server.specs.Control.{Control, Act, Waiting, Check, quiet, is_placed}
use Rattle.control_server.specs.Serve.{line_at, woken_mail, born_mail, own_mail, may_close, epochs_served, limits_closed, settled, none_waits, serves, begins, step_by, control_step, can_step}
use Rattle.control_server.specs.Deliver.{admits, request_taken, call_taken, reached_taken, word_in, request_of, data_taken, acknowledges as acknowledged_by, taken, taken_late, taken_by, control_delivered}
use Rattle.local_server.specs.Local.{Made, started, received, delivered}
use Rattle.coherence_laws.specs.Part.{check_wants}
use Rattle.coherence_laws.proofs.Holds.{IsUnended}

-- messages about no line
abbrev pub IsElse : ℕ × Msg → Type 0
IsElse m = line_of m.1 ≡ None

no_mail : All IsElse []
no_mail = All-nil IsElse

one_mail : (node : ℕ) (msg : Msg) → line_of msg ≡ None → All IsElse ((node, msg) ∷ [])
one_mail node msg e = All-cons IsElse (node, msg) [] e no_mail

limits_mail : (limit : ℕ) (members : List Member) → All IsElse (filter_map (limit_sent limit) members)
limits_mail limit [] = no_mail
limits_mail limit (m ∷ members) = limit_first limit m.reached _ (limits_mail limit members)
  where
    limit_first : (limit : ℕ) (reached : Option ℕ) (rest : List (ℕ × Msg)) → All IsElse rest → All IsElse (cons_option (option_map (λ tile. (tile, Limit limit)) reached) rest)
    limit_first limit None rest all = all
    limit_first limit (Some tile) rest all = All-cons IsElse (tile, Limit limit) rest refl all

announced_mail : (standing : Standing) (e : Epoch) → All IsElse (announced_by standing e)
announced_mail nobody e = no_mail
announced_mail some_unreached e = no_mail
announced_mail all_reached e = limits_mail (limit_of (next_epoch e)) e.members

closed_mail : (closes : Bool) (e : Epoch) → All IsElse (limits_closed closes e)
closed_mail true e = announced_mail (standing e.members) e
closed_mail false e = no_mail

own_else : (c : Control) (tile : ℕ) (own : Own) → All IsElse (own_mail c tile own)
own_else c tile (answer value) = one_mail tile _ refl
own_else c tile park = no_mail
own_else c tile leave = no_mail

born_else : (w : Setup) (c : Control) (time : ℕ) (born : Option Born) → All IsElse (born_mail w c time born)
born_else w c time None = no_mail
born_else w c time (Some b) = one_mail _ _ refl

settled_else : (w : Setup) (c : Control) (q : Waiting) (made : Served) → All IsElse (settled w c q made).mail
settled_else w c q made =
    let woken : List (ℕ × Msg) = woken_mail c q.time made.woken in
    let born : List (ℕ × Msg) = born_mail w c q.time made.born in
    let own : List (ℕ × Msg) = own_mail c q.from made.own in
    let epochs : Epoch = epochs_served made.control q.thread made c.epochs in
    let closes : Bool = may_close made.own made.control.ended in
    let woken_else : All IsElse woken = All-map IsElse _ made.woken (λ k d below. refl) in
    All-append IsElse (woken ++ born ++ own) (limits_closed closes epochs)
    (All-append IsElse (woken ++ born) own (All-append IsElse woken born woken_else (born_else w c q.time made.born)) (own_else c q.from made.own))
    (closed_mail closes epochs)

pub serves_else : (w : Setup) (c : Control) (q : Waiting) (word : ℕ) → All IsElse (serves w c q word).mail
serves_else w c q word = settled_else w c q (serve w c.control q.thread q.request word (none_waits c.backlog))

-- what the control server does besides: nothing about a line, and what it waits for of lines stays
pub record IsApart (c : Control) (act : Act) : Type 0 where
  pub checking : act.control.checking ≡ c.checking
  pub ended : IsUnended c.checking c.control.ended → IsUnended act.control.checking act.control.control.ended
  pub mail : All IsElse act.mail

apart_if : (c : Control) (b : Bool) (x y : Act) → IsApart c x → IsApart c y → IsApart c (if b then x else y)
apart_if c true x y one other = one
apart_if c false x y one other = other

apart_quiet : (c : Control) → IsApart c (quiet c)
apart_quiet c = record { checking = refl; ended = λ e. e; mail = no_mail }

-- its step serves a request, or begins a check

-- the check that begins
pub record Checks (w : Setup) (c : Control) (act : Act) : Type 0 where
  pub check : Check
  pub checking : act.control.checking ≡ Some check
  pub ended : act.control.control.ended ≡ c.control.ended
  pub mail : act.mail ≡ (home_of w.config (line_at check.addr), GetS (line_at check.addr)) ∷ []

pub record Serves (act : Act) : Type 0 where
  pub checking : act.control.checking ≡ None
  pub mail : All IsElse act.mail

begins_steps : (w : Setup) (c old : Control) (q : Waiting) (request : Request) → c.checking ≡ None → c.control.ended ≡ old.control.ended
    → Serves (begins w c q request) ⊎ Checks w old (begins w c q request)
begins_steps w c old q (CallRequest (FutexWait addr value)) none same =
    inr (record { check = record { thread = q.thread; from = q.from; addr = addr; value = value }; checking = refl; ended = same; mail = refl })
begins_steps w c old q _ none same = inl (record { checking = none; mail = serves_else w c q 0 })

nothing_checked : (o : Option Check) → not (is_some o) ≡ true → o ≡ None
nothing_checked None e = refl
nothing_checked (Some check) e = cc

nothing_ended : (o : Option End) → not (is_some o) ≡ true → o ≡ None
nothing_ended None e = refl
nothing_ended (Some end) e = cc

pub can_step_means : (c : Control) → can_step c ≡ true → (c.checking ≡ None) × (c.control.ended ≡ None)
can_step_means c can =
    let one = and_parts (not (none_waits c.backlog)) (not (is_some c.checking) && not (is_some c.control.ended)) can in
    let two = and_parts (not (is_some c.checking)) (not (is_some c.control.ended)) one.1 in
    (nothing_checked c.checking two.0, nothing_ended c.control.ended two.1)

steps_by : (w : Setup) (c : Control) (backlog : List Waiting) → c.checking ≡ None → Serves (step_by w c backlog) ⊎ Checks w c (step_by w c backlog)
steps_by w c [] none = inl (record { checking = none; mail = no_mail })
steps_by w c (q ∷ rest) none = begins_steps w (record c { backlog = rest }) c q q.request none refl

pub control_steps : (w : Setup) (c : Control) → can_step c ≡ true → Serves (control_step w c) ⊎ Checks w c (control_step w c)
control_steps w c can = steps_by w c c.backlog (can_step_means c can).0

-- messages that it takes

request_apart : (c : Control) (q : Waiting) → IsApart c (request_taken c q)
request_apart c q = apart_if c (admits c q.thread) _ _ (record { checking = refl; ended = λ e. e; mail = no_mail }) (apart_quiet c)

call_apart : (c : Control) (from thread time : ℕ) (call : CallData) → IsApart c (call_taken c from thread time call)
call_apart c from thread time call = apart_if c (is_placed call && admits c thread) _ _ (record { checking = refl; ended = λ e. e; mail = no_mail }) (apart_quiet c)

reached_apart : (c : Control) (from thread : ℕ) → IsApart c (reached_taken c from thread)
reached_apart c from thread =
    let epochs : Epoch = record c.epochs { members = reported thread from c.epochs.members } in
    record { checking = refl; ended = λ e. e; mail = announced_mail (standing epochs.members) epochs }

-- a line that comes: the check of it ends, and all else stays
pub record Reads (w : Setup) (c : Control) (line : ℕ) (act : Act) : Type 0 where
  pub waits : check_wants act.control.checking line ≡ None
  pub others : (k : ℕ) → (line == k) ≡ false → check_wants act.control.checking k ≡ check_wants c.checking k
  pub ended : IsUnended act.control.checking act.control.control.ended
  pub mail : All IsElse act.mail

read_if : (w : Setup) (c : Control) (line : ℕ) (b : Bool) (x y : Act) → (b ≡ true → Reads w c line x) → (b ≡ false → Reads w c line y) → Reads w c line (if b then x else y)
read_if w c line true x y one other = one refl
read_if w c line false x y one other = other refl

other_line : (check : Check) (o : Option Check) (line k : ℕ) → o ≡ Some check → (line_at check.addr == line) ≡ true → (line == k) ≡ false → check_wants None k ≡ check_wants o k
other_line check o line k is at ne =
    let t : (line_at check.addr == k) ≡ false = grind (arith, nat_tests) in
    sym (ap (λ z. check_wants z k) is ∙ cond-false (line_at check.addr == k) _ _ t)

data_reads : (w : Setup) (c : Control) (line : ℕ) (content : LineData) (check : Option Check) → c.checking ≡ check → IsUnended c.checking c.control.ended → Reads w c line (data_taken w c line content check)
data_reads w c line content None is alive = record {
  waits = ap (λ z. check_wants z line) is;
  others = λ k ne. refl;
  ended = alive;
  mail = no_mail;
}
data_reads w c line content (Some check) is alive =
    read_if w c line (line_at check.addr == line) _ _
    (λ at. record {
      waits = refl;
      others = λ k ne. other_line check c.checking line k is at ne;
      ended = tt;
      mail = serves_else w (record c { checking = None }) (request_of check) (word_in content check.addr);
    })
    (λ not_at. record {
      waits = ap (λ z. check_wants z line) is ∙ cond-false (line_at check.addr == line) _ _ not_at;
      others = λ k ne. refl;
      ended = alive;
      mail = no_mail;
    })

-- all messages but those of a line to a reader
abbrev pub IsForReaders : Msg → Type 0
IsForReaders (DataS line content delay) = Unit {0}
IsForReaders (Inv line) = Unit {0}
IsForReaders _ = ⊥

apart_taken : (w : Setup) (c : Control) (from : ℕ) (msg : Msg) → (IsForReaders msg → ⊥) → IsApart c (taken w c from msg)
apart_taken w c from (Call thread time call) not_read = call_apart c from thread time call
apart_taken w c from (ExitMsg thread code time) not_read = request_apart c _
apart_taken w c from (Trapped thread cause pc) not_read = request_apart c _
apart_taken w c from (Reached thread) not_read = reached_apart c from thread
apart_taken w c from (DataS line content delay) not_read = absurd (not_read tt)
apart_taken w c from (Inv line) not_read = absurd (not_read tt)
apart_taken w c from _ not_read = apart_quiet c

apart_late : (c : Control) (from : ℕ) (msg : Msg) → (IsForReaders msg → ⊥) → IsApart c (taken_late c from msg)
apart_late c from (Inv line) not_read = absurd (not_read tt)
apart_late c from _ not_read = apart_quiet c

apart_by : (w : Setup) (c : Control) (from : ℕ) (msg : Msg) (end : Option End) → (IsForReaders msg → ⊥) → IsApart c (taken_by w c from msg end)
apart_by w c from msg None not_read = apart_taken w c from msg not_read
apart_by w c from msg (Some end) not_read = apart_late c from msg not_read

pub control_apart : (w : Setup) (c : Control) (from : ℕ) (msg : Msg) → (IsForReaders msg → ⊥) → IsApart c (control_delivered w c from msg)
control_apart w c from msg not_read = apart_if c (may_send w.config from (control_node w.config) msg) _ _ (apart_by w c from msg c.control.ended not_read) (apart_quiet c)

-- a line comes from a tile while the program hasn't ended
pub control_reads : (w : Setup) (c : Control) (from line : ℕ) (content : LineData) (delay : ℕ) → IsUnended c.checking c.control.ended
    → (may_send w.config from (control_node w.config) (DataS line content delay) ≡ true) → (c.control.ended ≡ None) → Reads w c line (control_delivered w c from (DataS line content delay))
control_reads w c from line content delay alive may going =
    let is : control_delivered w c from (DataS line content delay) ≡ data_taken w c line content c.checking =
    cond-true (may_send w.config from (control_node w.config) (DataS line content delay)) _ _ may ∙ ap (taken_by w c from (DataS line content delay)) going
    in
    subst (Reads w c line) (sym is) (data_reads w c line content c.checking refl alive)

-- a line that comes at any time changes nothing of what it waits for of others
pub record Passes (c : Control) (line : ℕ) (act : Act) : Type 0 where
  pub others : (k : ℕ) → (line == k) ≡ false → check_wants act.control.checking k ≡ check_wants c.checking k
  pub ended : IsUnended act.control.checking act.control.control.ended
  pub mail : All IsElse act.mail

quiet_passes : (c : Control) (line : ℕ) → IsUnended c.checking c.control.ended → Passes c line (quiet c)
quiet_passes c line alive = record { others = λ k ne. refl; ended = alive; mail = no_mail }

passes_by : (w : Setup) (c : Control) (from line : ℕ) (content : LineData) (delay : ℕ) (end : Option End) → IsUnended c.checking c.control.ended
    → Passes c line (taken_by w c from (DataS line content delay) end)
passes_by w c from line content delay None alive = let r = data_reads w c line content c.checking refl alive in record { others = r.others; ended = r.ended; mail = r.mail }
passes_by w c from line content delay (Some end) alive = quiet_passes c line alive

passes_if : (c : Control) (line : ℕ) (b : Bool) (x y : Act) → Passes c line x → Passes c line y → Passes c line (if b then x else y)
passes_if c line true x y one other = one
passes_if c line false x y one other = other

pub control_passes : (w : Setup) (c : Control) (from line : ℕ) (content : LineData) (delay : ℕ) → IsUnended c.checking c.control.ended
    → Passes c line (control_delivered w c from (DataS line content delay))
control_passes w c from line content delay alive =
    passes_if c line (may_send w.config from (control_node w.config) (DataS line content delay)) _ _ (passes_by w c from line content delay c.control.ended alive) (quiet_passes c line alive)

-- an Inv is acknowledged, also after the end
late_or_not : (w : Setup) (c : Control) (from line : ℕ) (end : Option End) → taken_by w c from (Inv line) end ≡ acknowledged_by c from line
late_or_not w c from line None = refl
late_or_not w c from line (Some end) = refl

pub control_acknowledges : (w : Setup) (c : Control) (from line : ℕ) → (may_send w.config from (control_node w.config) (Inv line) ≡ true)
    → control_delivered w c from (Inv line) ≡ acknowledged_by c from line
control_acknowledges w c from line may = cond-true (may_send w.config from (control_node w.config) (Inv line)) _ _ may ∙ late_or_not w c from line c.control.ended

-- and otherwise changes nothing
pub control_drops : (w : Setup) (c : Control) (from line : ℕ) → (may_send w.config from (control_node w.config) (Inv line) ≡ false) → control_delivered w c from (Inv line) ≡ quiet c
control_drops w c from line may_not = cond-false (may_send w.config from (control_node w.config) (Inv line)) _ _ may_not

-- a local server

local_if : (b : Bool) (x y : Made) → All IsElse x.mail → All IsElse y.mail → All IsElse (if b then x else y).mail
local_if true x y one other = one
local_if false x y one other = other

started_else : (msg : Msg) (idle : List ℕ) → line_of msg ≡ None → All IsElse (started msg idle).mail
started_else msg [] e = no_mail
started_else msg (tile ∷ tiles) e = one_mail tile msg e

received_else : (c : Config) (from : ℕ) (msg : Msg) (idle : List ℕ) → All IsElse (received c from msg idle).mail
received_else c from (Start thread entry arg time limit) idle = started_else (Start thread entry arg time limit) idle refl
received_else c from (ExitMsg thread code time) idle = one_mail _ _ refl
received_else c from _ idle = no_mail

pub local_else : (c : Config) (host : ℕ) (idle : List ℕ) (from : ℕ) (msg : Msg) → All IsElse (delivered c host idle from msg).mail
local_else c host idle from msg = local_if (may_send c from (local_node c host) msg) _ _ (received_else c from msg idle) no_mail
