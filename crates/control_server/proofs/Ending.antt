-- How a call ends: as the act that was made, or spent.
use Rattle.std.proofs.Common.{◌≡◌, ℕ, ◌&&◌, ◌++◌, Bool, true, false, not, cond, List, [], ◌∷◌, Option, Some, None, is_some, Result, Ok, Err, IfOk, is_err, refl, ap, sym, ◌∙◌, subst, append-nil}
use Rattle.std.proofs.lemmas.Option.{some_pair_parts}
use Rattle.sim_base.specs.declared.actions.Action.{Action}
use Rattle.sim_base.specs.declared.actions.Action.TheVariants.{Serve}
use Rattle.sim_base.specs.declared.ends.End.{End}
use Rattle.sim_base.specs.declared.lines.LineData.{LineData}
use Rattle.sim_base.specs.declared.memory.NoMemory.{NoMemory}
use Rattle.sim_base.specs.Numbering.{control_node}
use Rattle.elf_image.specs.Layout.{Setup}
use Rattle.wire_msg.specs.declared.calls.Call.{Call as CallData}
use Rattle.wire_msg.specs.declared.calls.Call.TheVariants.{FutexWait}
use Rattle.wire_msg.specs.declared.messages.Msg.{Msg}
use Rattle.wire_msg.specs.declared.messages.Msg.TheVariants.{Call, Exit, Trapped, Reached, DataS, Inv}
use Rattle.wire_msg.specs.Message.{may_send}
use Rattle.serving.specs.declared.control_data.Request.{Request}
use Rattle.serving.specs.declared.control_data.Request.TheVariants.{Call as CallRequest}
use Rattle.control_server.specs.Control.{Control, Act, Waiting, Check, quiet, is_placed, IsOrderly, IsInOrder}
use Rattle.control_server.specs.Serve.{serves, checks, begins, step_by, control_step, none_waits}
use Rattle.control_server.specs.Deliver.{admits, call_taken, data_taken, taken, taken_late, taken_by, control_delivered, Answers}
use Rattle.control_server.specs.Laws.{EndStays}
use Rattle.control_server.specs.Inner.{word_of, IsMade, IsDone}

unspent : (c : Control) → c.spent ≡ false → record c { spent = false } ≡ c
unspent c e =
    let with : Bool → Control = λ b. record c { spent = b } in
    ap with (sym e)

-- the call is spent where memory ran out
pub ends : (r : Result (Option Action) NoMemory) (act : Act) (old mid new : Control) (before after : List (ℕ × Msg)) → old.spent ≡ false → act.control.spent ≡ false
    → IfOk r (λ action. IsDone act mid before after action) → new ≡ record mid { spent = is_err r } → Answers r old new before after act
ends (Ok action) act old mid new before after fresh kept done n =
    let with : Control → Control = λ c. record c { spent = false } in
    (fresh, n ∙ ap with done.made.control ∙ unspent act.control kept, done.made.mail, done.action)
ends (Err e) act old mid new before after fresh kept done n = ap (λ c. c.spent) n

pub in_order_after : (w : Setup) (r : Result (Option Action) NoMemory) (act : Act) (old new : Control) (before after : List (ℕ × Msg)) → Answers r old new before after act
    → (old.spent ≡ false → IsOrderly w act.control) → IsInOrder w new
in_order_after w (Ok action) act old new before after h f = record { orderly = λ fresh. subst (IsOrderly w) (sym h.1) (f h.0) }
in_order_after w (Err e) act old new before after h f = record { orderly = λ fresh. cc }

-- nothing that is served or taken spends
begins_fresh : (w : Setup) (c : Control) (q : Waiting) (request : Request) → (begins w c q request).control.spent ≡ c.spent
begins_fresh w c q (CallRequest (FutexWait addr value)) = refl
begins_fresh w c q _ = refl

step_fresh : (w : Setup) (c : Control) (qs : List Waiting) → (step_by w c qs).control.spent ≡ c.spent
step_fresh w c [] = refl
step_fresh w c (q ∷ rest) = begins_fresh w (record c { backlog = rest }) q q.request

pub step_unspent : (w : Setup) (c : Control) → c.spent ≡ false → (control_step w c).control.spent ≡ false
step_unspent w c e = step_fresh w c c.backlog ∙ e

cond_fresh : (b : Bool) (c : Control) (act : Act) → act.control.spent ≡ c.spent → (cond b act (quiet c)).control.spent ≡ c.spent
cond_fresh true c act e = e
cond_fresh false c act e = refl

data_fresh : (w : Setup) (c : Control) (line : ℕ) (content : LineData) (o : Option Check) → (data_taken w c line content o).control.spent ≡ c.spent
data_fresh w c line content None = refl
data_fresh w c line content (Some check) = cond_fresh _ c _ refl

taken_fresh : (w : Setup) (c : Control) (from : ℕ) (msg : Msg) → (taken w c from msg).control.spent ≡ c.spent
taken_fresh w c from (Call thread time call) = cond_fresh _ c _ refl
taken_fresh w c from (Exit thread code time) = cond_fresh _ c _ refl
taken_fresh w c from (Trapped thread cause pc) = cond_fresh _ c _ refl
taken_fresh w c from (Reached thread) = refl
taken_fresh w c from (DataS line content delay) = data_fresh w c line content c.checking
taken_fresh w c from (Inv line) = refl
taken_fresh w c from _ = refl

-- after the end the server stays as it is, and commits nothing
pub late_control : (c : Control) (from : ℕ) (msg : Msg) → (taken_late c from msg).control ≡ c
late_control c from (Inv line) = refl
late_control c from _ = refl

late_action : (c : Control) (from : ℕ) (msg : Msg) → (taken_late c from msg).action ≡ None
late_action c from (Inv line) = refl
late_action c from _ = refl

taken_by_fresh : (w : Setup) (c : Control) (from : ℕ) (msg : Msg) (o : Option End) → (taken_by w c from msg o).control.spent ≡ c.spent
taken_by_fresh w c from msg None = taken_fresh w c from msg
taken_by_fresh w c from msg (Some end) = ap (λ s. s.spent) (late_control c from msg)

pub delivered_unspent : (w : Setup) (c : Control) (from : ℕ) (msg : Msg) → c.spent ≡ false → (control_delivered w c from msg).control.spent ≡ false
delivered_unspent w c from msg e = cond_fresh (may_send w.config from (control_node w.config) msg) c (taken_by w c from msg c.control.ended) (taken_by_fresh w c from msg c.control.ended) ∙ e

-- a message after the end
late_by : (w : Setup) (c : Control) (from : ℕ) (msg : Msg) (o : Option End) → is_some o ≡ true → taken_by w c from msg o ≡ taken_late c from msg
late_by w c from msg None e = cc
late_by w c from msg (Some end) e = refl

late_act : (w : Setup) (c : Control) (from : ℕ) (msg : Msg) (b : Bool) → b ≡ true → is_some c.control.ended ≡ true → cond b (taken_by w c from msg c.control.ended) (quiet c) ≡ taken_late c from msg
late_act w c from msg true e ended = late_by w c from msg c.control.ended ended
late_act w c from msg false e ended = cc

pub late_done : (w : Setup) (c : Control) (from : ℕ) (msg : Msg) (before after : List (ℕ × Msg)) → may_send w.config from (control_node w.config) msg ≡ true → is_some c.control.ended ≡ true
    → after ≡ before ++ (taken_late c from msg).mail → IsDone (control_delivered w c from msg) c before after None
late_done w c from msg before after sends ended m =
    let e : control_delivered w c from msg ≡ taken_late c from msg = late_act w c from msg (may_send w.config from (control_node w.config) msg) sends ended in
    let done : IsDone (taken_late c from msg) c before after None = record { made = record { control = sym (late_control c from msg); mail = m }; action = sym (late_action c from msg) } in
    subst (λ act. IsDone act c before after None) (sym e) done

-- a call joins the backlog, or doesn't
call_done_by : (b : Bool) (c d new : Control) (out : List (ℕ × Msg)) → new ≡ (cond b (quiet d) (quiet c)).control → IsDone (cond b (quiet d) (quiet c)) new out out None
call_done_by true c d new out n = record { made = record { control = n; mail = sym (append-nil out) }; action = refl }
call_done_by false c d new out n = record { made = record { control = n; mail = sym (append-nil out) }; action = refl }

pub call_done : (c : Control) (from thread time : ℕ) (call : CallData) (new : Control) (out : List (ℕ × Msg)) → new ≡ (call_taken c from thread time call).control
    → IsDone (call_taken c from thread time call) new out out None
call_done c from thread time call new out n = call_done_by (is_placed call && admits c thread) c _ new out n

-- a request that is taken up is a futex wait, or is served
pub begins_check : (w : Setup) (c : Control) (q : Waiting) (request : Request) (addr value : ℕ) → word_of request ≡ Some (addr, value) → begins w c q request ≡ checks w c q addr value
begins_check w c q (CallRequest (FutexWait a v)) addr value e =
    let parts = some_pair_parts a addr v value e in
    rw (parts.0, parts.1) refl
begins_check w c q _ addr value e = cc

pub begins_served : (w : Setup) (c : Control) (q : Waiting) (request : Request) → word_of request ≡ None → begins w c q request ≡ serves w c q 0
begins_served w c q (CallRequest (FutexWait a v)) e = cc
begins_served w c q _ e = refl

pub checked_done : (w : Setup) (c : Control) (p q : Waiting) (addr value : ℕ) (new : Control) (before after : List (ℕ × Msg)) → p ≡ q → word_of p.request ≡ Some (addr, value)
    → IsMade (checks w c p addr value) new before after → IsDone (begins w c q q.request) new before after None
checked_done w c p q addr value new before after same e h =
    let done : IsDone (checks w c p addr value) new before after None = record { made = h; action = refl } in
    let there : IsDone (begins w c p p.request) new before after None = subst (λ act. IsDone act new before after None) (sym (begins_check w c p p.request addr value e)) done in
    subst (λ r. IsDone (begins w c r r.request) new before after None) same there

pub served_done : (w : Setup) (c : Control) (p q : Waiting) (new : Control) (before after : List (ℕ × Msg)) → p ≡ q → word_of p.request ≡ None
    → IsMade (serves w c p 0) new before after → IsDone (begins w c q q.request) new before after (Some (Serve p.thread))
served_done w c p q new before after same e h =
    let action : Option Action = Some (Serve p.thread) in
    let done : IsDone (serves w c p 0) new before after action = record { made = h; action = refl } in
    let there : IsDone (begins w c p p.request) new before after action = subst (λ act. IsDone act new before after action) (sym (begins_served w c p p.request e)) done in
    subst (λ r. IsDone (begins w c r r.request) new before after action) same there

-- after the end the server stands still
still_by : (w : Setup) (c : Control) (from : ℕ) (msg : Msg) (b : Bool) → is_some c.control.ended ≡ true → (cond b (taken_by w c from msg c.control.ended) (quiet c)).control ≡ c
still_by w c from msg true ended = ap (λ act. act.control) (late_by w c from msg c.control.ended ended) ∙ late_control c from msg
still_by w c from msg false ended = refl

no_step_after : (waits checks ended : Bool) → ended ≡ true → (waits && (checks && not ended)) ≡ false
no_step_after waits checks ended e = rw e (none waits checks) where
  none : (a b : Bool) → (a && (b && false)) ≡ false
  none true true = refl
  none true false = refl
  none false b = refl

pub end_stays : EndStays
end_stays w c ended = record {
  no_step = no_step_after (not (none_waits c.backlog)) (not (is_some c.checking)) (is_some c.control.ended) ended;
  no_change = λ from msg. still_by w c from msg (may_send w.config from (control_node w.config) msg) ended;
}
