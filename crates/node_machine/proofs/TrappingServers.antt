-- What the servers make of traps: they send word of none; the control server keeps as requests those that it is told of,
-- and ends by one only where it serves the request.
use Rattle.std.proofs.Common.{ℕ, Bool, true, false, List, [], ◌∷◌, ◌++◌, Some, None}
use Rattle.std.proofs.lemmas.List.Elements.{All-cons, All-head, All-tail, All-append, All-push, All-map}
use Rattle.std.specs.Prelude.{Option, All, ◌==◌, ◌&&◌, ◌%◌, not, if◌then◌else◌}
use Rattle.std.specs.List.{filter_map, cons_option}
use Rattle.std.specs.Option.{option_map}
use Rattle.sim_base.specs.declared.ends.End.{End}
use Rattle.sim_base.specs.declared.ends.End.TheVariants.{Exit as ExitEnd, Deadlock}
use Rattle.sim_base.specs.declared.lines.LineData.{LineData}
use Rattle.sim_base.specs.declared.settings.Config.{Config}
use Rattle.sim_base.specs.Numbering.{control_node, local_node}
use Rattle.elf_image.specs.Layout.{Setup}
use Rattle.wire_msg.specs.declared.calls.Call.{Call as CallData}
use Rattle.wire_msg.specs.declared.calls.Call.TheVariants.{Spawn, Join as JoinCall, Write, FutexWait, FutexWake, Brk, ExitGroup}
use Rattle.wire_msg.specs.declared.messages.Msg.{Msg}
use Rattle.wire_msg.specs.declared.messages.Msg.TheVariants.{InvAck, DataS, Inv, Call, Start, Exit as ExitMsg, Trapped, Reached, Limit}
use Rattle.wire_msg.specs.Message.{may_send}
use Rattle.serving.specs.declared.control_data.Request.{Request}
use Rattle.serving.specs.declared.control_data.Request.TheVariants.{Call as CallRequest, Exit, Trap}
use Rattle.serving.specs.ControlData.{ControlData, live_count}
use Rattle.serving.specs.Join.{fates_exited}
use Rattle.serving.specs.Serving.{Served, Born, Own, answer, park, leave, is_full, call_served, request_served, is_deadlocked, end_after, serve}
use Rattle.clock_policy.specs.declared.members.Member.{Member}
use Rattle.clock_policy.specs.Members.{Standing, nobody, some_unreached, all_reached, standing, reported}
use Rattle.clock_policy.specs.Epoch.{Epoch, limit_of, next_epoch, limit_sent, announced_by}
use Rattle.control_server.specs.Control.{Control, Act, Waiting, Check, quiet, is_placed}
use Rattle.control_server.specs.Serve.{line_at, woken_mail, born_mail, own_mail, may_close, epochs_served, limits_closed, settled, none_waits, serves, checks, begins, step_by, control_step}
use Rattle.control_server.specs.Deliver.{admits, admitted, request_taken, call_taken, reached_taken, word_in, request_of, data_taken, acknowledges, taken, taken_late, taken_by, control_delivered}
use Rattle.local_server.specs.Local.{Made, started, received, delivered}
use Rattle.node_machine.proofs.TrappingWords.{TrapFact, Tells, Mails, Asks, Waits, Ends, Keeps, no_mail, one_mail}

-- serving: the end is a trap's only for a trap, or as it was

ends_if : (K : TrapFact) (b : Bool) (x y : Served) → Ends K x.control.ended → Ends K y.control.ended → Ends K (if b then x else y).control.ended
ends_if K true x y one other = one
ends_if K false x y one other = other

call_ends : (K : TrapFact) (w : Setup) (c : ControlData) (caller : ℕ) (call : CallData) (word : ℕ) → Ends K c.ended → Ends K (call_served w c caller call word).control.ended
call_ends K w c caller (Spawn entry arg) word old = ends_if K (not (entry % 4 == 0)) _ _ old (ends_if K (is_full w c.fates) _ _ old old)
call_ends K w c caller (JoinCall target) word old = old
call_ends K w c caller (Write bytes) word old = old
call_ends K w c caller (FutexWait addr value) word old = ends_if K (word == value) _ _ old old
call_ends K w c caller (FutexWake addr count) word old = old
call_ends K w c caller (Brk addr) word old = old
call_ends K w c caller (ExitGroup code) word old = tt

exit_ends : (K : TrapFact) (b : Bool) (code : ℕ) → Ends K (if b then Some (ExitEnd code) else None)
exit_ends K true code = tt
exit_ends K false code = tt

request_ends : (K : TrapFact) (w : Setup) (c : ControlData) (caller : ℕ) (request : Request) (word : ℕ) → Ends K c.ended → Asks K caller request
    → Ends K (request_served w c caller request word).control.ended
request_ends K w c caller (CallRequest call) word old asked = call_ends K w c caller call word old
request_ends K w c caller (Exit code) word old asked = exit_ends K (live_count (fates_exited c.fates caller code) == 0) code
request_ends K w c caller (Trap cause pc) word old asked = asked

closed_ends : (K : TrapFact) (b : Bool) (end : Option End) → Ends K end → Ends K (if b then Some Deadlock else end)
closed_ends K true end old = tt
closed_ends K false end old = old

after_ends : (K : TrapFact) (own : Own) (none_waits : Bool) (c : ControlData) → Ends K c.ended → Ends K (end_after own none_waits c)
after_ends K (answer value) none_waits c old = old
after_ends K park none_waits c old = closed_ends K (is_deadlocked none_waits c) c.ended old
after_ends K leave none_waits c old = closed_ends K (is_deadlocked none_waits c) c.ended old

serve_ends : (K : TrapFact) (w : Setup) (c : ControlData) (caller : ℕ) (request : Request) (word : ℕ) (none_waits : Bool) → Ends K c.ended → Asks K caller request
    → Ends K (serve w c caller request word none_waits).control.ended
serve_ends K w c caller request word none_waits old asked =
    let made : Served = request_served w c caller request word in
    after_ends K made.own none_waits made.control (request_ends K w c caller request word old asked)

-- what the control server sends

limits_mail : (K : TrapFact) (limit : ℕ) (members : List Member) → All (Mails K) (filter_map (limit_sent limit) members)
limits_mail K limit [] = no_mail K
limits_mail K limit (m ∷ members) = limit_first K limit m.reached _ (limits_mail K limit members)
  where
    limit_first : (K : TrapFact) (limit : ℕ) (reached : Option ℕ) (rest : List (ℕ × Msg)) → All (Mails K) rest → All (Mails K) (cons_option (option_map (λ tile. (tile, Limit limit)) reached) rest)
    limit_first K limit None rest all = all
    limit_first K limit (Some tile) rest all = All-cons (Mails K) (tile, Limit limit) rest tt all

announced_mail : (K : TrapFact) (standing : Standing) (e : Epoch) → All (Mails K) (announced_by standing e)
announced_mail K nobody e = no_mail K
announced_mail K some_unreached e = no_mail K
announced_mail K all_reached e = limits_mail K (limit_of (next_epoch e)) e.members

closed_mail : (K : TrapFact) (closes : Bool) (e : Epoch) → All (Mails K) (limits_closed closes e)
closed_mail K true e = announced_mail K (standing e.members) e
closed_mail K false e = no_mail K

own_tells : (K : TrapFact) (c : Control) (tile : ℕ) (own : Own) → All (Mails K) (own_mail c tile own)
own_tells K c tile (answer value) = one_mail K tile _ tt
own_tells K c tile park = no_mail K
own_tells K c tile leave = no_mail K

born_tells : (K : TrapFact) (w : Setup) (c : Control) (time : ℕ) (born : Option Born) → All (Mails K) (born_mail w c time born)
born_tells K w c time None = no_mail K
born_tells K w c time (Some b) = one_mail K _ _ tt

-- an act of the control server after which it keeps and sends only what is known
pub record KeepsBy (K : TrapFact) (act : Act) : Type 0 where
  pub control : Keeps K act.control
  pub mail : All (Mails K) act.mail

by_if : (K : TrapFact) (b : Bool) (x y : Act) → KeepsBy K x → KeepsBy K y → KeepsBy K (if b then x else y)
by_if K true x y one other = one
by_if K false x y one other = other

by_quiet : (K : TrapFact) (c : Control) → Keeps K c → KeepsBy K (quiet c)
by_quiet K c keeps = record { control = keeps; mail = no_mail K }

by_settled : (K : TrapFact) (w : Setup) (c : Control) (q : Waiting) (made : Served) → All (Waits K) c.backlog → Ends K made.control.ended → KeepsBy K (settled w c q made)
by_settled K w c q made backlog ended =
    let woken : List (ℕ × Msg) = woken_mail c q.time made.woken in
    let born : List (ℕ × Msg) = born_mail w c q.time made.born in
    let own : List (ℕ × Msg) = own_mail c q.from made.own in
    let epochs : Epoch = epochs_served made.control q.thread made c.epochs in
    let closes : Bool = may_close made.own made.control.ended in
    let woken_tells : All (Mails K) woken = All-map (Mails K) _ made.woken (λ k d below. tt) in
    record {
      control = record { backlog = backlog; ended = ended };
      mail =
          All-append (Mails K) (woken ++ born ++ own) (limits_closed closes epochs)
          (All-append (Mails K) (woken ++ born) own (All-append (Mails K) woken born woken_tells (born_tells K w c q.time made.born)) (own_tells K c q.from made.own))
          (closed_mail K closes epochs);
    }

by_serves : (K : TrapFact) (w : Setup) (c : Control) (q : Waiting) (word : ℕ) → Keeps K c → Waits K q → KeepsBy K (serves w c q word)
by_serves K w c q word keeps asked =
    by_settled K w c q (serve w c.control q.thread q.request word (none_waits c.backlog)) keeps.backlog
    (serve_ends K w c.control q.thread q.request word (none_waits c.backlog) keeps.ended asked)

-- its step

by_checks : (K : TrapFact) (w : Setup) (c : Control) (q : Waiting) (addr value : ℕ) → Keeps K c → KeepsBy K (checks w c q addr value)
by_checks K w c q addr value keeps = record {
  control = record { backlog = keeps.backlog; ended = keeps.ended };
  mail = one_mail K _ _ tt;
}

by_begins : (K : TrapFact) (w : Setup) (c : Control) (q : Waiting) (request : Request) → Keeps K c → Waits K q → KeepsBy K (begins w c q request)
by_begins K w c q (CallRequest (FutexWait addr value)) keeps asked = by_checks K w c q addr value keeps
by_begins K w c q _ keeps asked = by_serves K w c q 0 keeps asked

by_step : (K : TrapFact) (w : Setup) (c : Control) (backlog : List Waiting) → All (Waits K) backlog → Keeps K c → KeepsBy K (step_by w c backlog)
by_step K w c [] all keeps = by_quiet K c keeps
by_step K w c (q ∷ rest) all keeps =
    by_begins K w (record c { backlog = rest }) q q.request (record { backlog = All-tail (Waits K) q rest all; ended = keeps.ended }) (All-head (Waits K) q rest all)

pub control_steps : (K : TrapFact) (w : Setup) (c : Control) → Keeps K c → KeepsBy K (control_step w c)
control_steps K w c keeps = by_step K w c c.backlog keeps.backlog keeps

-- a message that it takes

by_request : (K : TrapFact) (c : Control) (q : Waiting) → Keeps K c → Waits K q → KeepsBy K (request_taken c q)
by_request K c q keeps asked =
    by_if K (admits c q.thread) _ _
    (by_quiet K (admitted c q) (record { backlog = All-push (Waits K) c.backlog q keeps.backlog asked; ended = keeps.ended }))
    (by_quiet K c keeps)

by_call : (K : TrapFact) (c : Control) (from thread time : ℕ) (call : CallData) → Keeps K c → KeepsBy K (call_taken c from thread time call)
by_call K c from thread time call keeps =
    by_if K (is_placed call && admits c thread) _ _
    (record { control = record { backlog = All-push (Waits K) c.backlog _ keeps.backlog tt; ended = keeps.ended }; mail = no_mail K })
    (by_quiet K c keeps)

by_reached : (K : TrapFact) (c : Control) (from thread : ℕ) → Keeps K c → KeepsBy K (reached_taken c from thread)
by_reached K c from thread keeps =
    let epochs : Epoch = record c.epochs { members = reported thread from c.epochs.members } in
    record {
      control = record { backlog = keeps.backlog; ended = keeps.ended };
      mail = announced_mail K (standing epochs.members) epochs;
    }

by_data : (K : TrapFact) (w : Setup) (c : Control) (line : ℕ) (content : LineData) (check : Option Check) → Keeps K c → KeepsBy K (data_taken w c line content check)
by_data K w c line content None keeps = by_quiet K c keeps
by_data K w c line content (Some check) keeps =
    by_if K (line_at check.addr == line) _ _
    (by_serves K w (record c { checking = None }) (request_of check) (word_in content check.addr) (record { backlog = keeps.backlog; ended = keeps.ended }) tt)
    (by_quiet K c keeps)

by_acknowledges : (K : TrapFact) (c : Control) (from line : ℕ) → Keeps K c → KeepsBy K (acknowledges c from line)
by_acknowledges K c from line keeps = record { control = keeps; mail = one_mail K from (InvAck line) tt }

by_taken : (K : TrapFact) (w : Setup) (c : Control) (from : ℕ) (msg : Msg) → Keeps K c → Tells K msg → KeepsBy K (taken w c from msg)
by_taken K w c from (Call thread time call) keeps told = by_call K c from thread time call keeps
by_taken K w c from (ExitMsg thread code time) keeps told = by_request K c _ keeps tt
by_taken K w c from (Trapped thread cause pc) keeps told = by_request K c _ keeps told
by_taken K w c from (Reached thread) keeps told = by_reached K c from thread keeps
by_taken K w c from (DataS line content delay) keeps told = by_data K w c line content c.checking keeps
by_taken K w c from (Inv line) keeps told = by_acknowledges K c from line keeps
by_taken K w c from _ keeps told = by_quiet K c keeps

by_late : (K : TrapFact) (c : Control) (from : ℕ) (msg : Msg) → Keeps K c → KeepsBy K (taken_late c from msg)
by_late K c from (Inv line) keeps = by_acknowledges K c from line keeps
by_late K c from _ keeps = by_quiet K c keeps

by_end : (K : TrapFact) (w : Setup) (c : Control) (from : ℕ) (msg : Msg) (end : Option End) → Keeps K c → Tells K msg → KeepsBy K (taken_by w c from msg end)
by_end K w c from msg None keeps told = by_taken K w c from msg keeps told
by_end K w c from msg (Some end) keeps told = by_late K c from msg keeps

pub control_takes : (K : TrapFact) (w : Setup) (c : Control) (from : ℕ) (msg : Msg) → Keeps K c → Tells K msg → KeepsBy K (control_delivered w c from msg)
control_takes K w c from msg keeps told =
    by_if K (may_send w.config from (control_node w.config) msg) _ _ (by_end K w c from msg c.control.ended keeps told) (by_quiet K c keeps)

-- a local server

local_if : (K : TrapFact) (b : Bool) (x y : Made) → All (Mails K) x.mail → All (Mails K) y.mail → All (Mails K) (if b then x else y).mail
local_if K true x y one other = one
local_if K false x y one other = other

started_mail : (K : TrapFact) (msg : Msg) (idle : List ℕ) → Tells K msg → All (Mails K) (started msg idle).mail
started_mail K msg [] told = no_mail K
started_mail K msg (tile ∷ tiles) told = one_mail K tile msg told

received_mail : (K : TrapFact) (c : Config) (from : ℕ) (msg : Msg) (idle : List ℕ) → All (Mails K) (received c from msg idle).mail
received_mail K c from (Start thread entry arg time limit) idle = started_mail K (Start thread entry arg time limit) idle tt
received_mail K c from (ExitMsg thread code time) idle = one_mail K _ _ tt
received_mail K c from _ idle = no_mail K

pub local_mail : (K : TrapFact) (c : Config) (host : ℕ) (idle : List ℕ) (from : ℕ) (msg : Msg) → All (Mails K) (delivered c host idle from msg).mail
local_mail K c host idle from msg = local_if K (may_send c from (local_node c host) msg) _ _ (received_mail K c from msg idle) (no_mail K)
