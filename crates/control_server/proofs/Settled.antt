-- What a served request makes of the control server, by what becomes of the caller.
use Rattle.std.proofs.Common.{◌≡◌, ℕ, ◌++◌, Bool, true, false, List, [], Some, None, ap, sym, ◌∙◌, subst, append_assoc, append-nil}
use Rattle.sim_base.specs.declared.actions.Action.TheVariants.{Serve}
use Rattle.sim_base.specs.declared.ends.End.{End}
use Rattle.elf_image.specs.Layout.{Setup}
use Rattle.wire_msg.specs.declared.calls.Call.{Call as CallData}
use Rattle.wire_msg.specs.declared.messages.Msg.{Msg}
use Rattle.serving.specs.declared.control_data.Request.{Request}
use Rattle.serving.specs.declared.control_data.Request.TheVariants.{Call, Exit}
use Rattle.serving.specs.ControlData.{ControlData}
use Rattle.serving.specs.Serving.{Served, Woken, Born, answer, leave, answered, parked, ended, with_end, request_served}
use Rattle.clock_policy.specs.Epoch.{Epoch}
use Rattle.control_server.specs.declared.requests.Asker.{Asker}
use Rattle.control_server.specs.Control.{Control, Act, Waiting, is_active}
use Rattle.control_server.specs.Serve.{serves, settled, none_waits, own_mail, woken_mail, born_mail, callers_born, free_born, free_left, join_all, join_born, leave_unless, may_close, epochs_closed, limits_closed}
use Rattle.control_server.specs.Inner.{asked, leaves, IsMade}
use Rattle.control_server.proofs.Active.{is_active-closed}

-- what was served, with the epochs from then on
abbrev settled_with : Setup → Control → Waiting → Served → Epoch → Act
settled_with w c q made epochs =
    let closes : Bool = may_close made.own made.control.ended in
    record {
      control = record c {
        control = made.control;
        callers = callers_born made.born c.callers;
        free = free_left w q.from q.request (free_born made.born c.free);
        epochs = epochs_closed closes epochs;
      };
      mail = woken_mail c q.time made.woken ++ born_mail w c q.time made.born ++ own_mail c q.from made.own ++ limits_closed closes epochs;
      action = Some (Serve q.thread);
    }

-- and after the closing
abbrev after_closing : Control → Served → Served
after_closing c made = with_end (none_waits c.backlog) made

serves_with : (w : Setup) (c : Control) (q : Waiting) (word : ℕ) (made : Served) (b : Bool) → request_served w c.control q.thread q.request word ≡ made → is_active (after_closing c made).control q.thread ≡ b
    → serves w c q word ≡ settled_with w c q (after_closing c made) (leave_unless b q.thread (join_born made.born (join_all made.woken c.epochs)))
serves_with w c q word made b e active =
    let whole : Served → Act = λ m. settled w c q (after_closing c m) in
    let part : Bool → Act = λ t. settled_with w c q (after_closing c made) (leave_unless t q.thread (join_born made.born (join_all made.woken c.epochs))) in
    ap whole e ∙ ap part active

-- an act with this action
made_by : (act other : Act) (new : Control) (before after : List (ℕ × Msg)) → act ≡ other → IsMade other new before after → IsMade act new before after
made_by act other new before after e h = subst (λ a. IsMade a new before after) (sym e) h

-- the caller is answered, after others were woken
pub answered_made : (w : Setup) (c : Control) (a : Asker) (call : CallData) (word value : ℕ) (after : ControlData) (woken : List Woken) (new : Control) (before later : List (ℕ × Msg))
    → request_served w c.control a.thread (Call call) word ≡ record { control = after; woken = woken; born = None; own = answer value } → is_active after a.thread ≡ true
    → new ≡ record c { control = after; epochs = join_all woken c.epochs } → later ≡ before ++ (woken_mail c a.time woken ++ own_mail c a.from (answer value))
    → IsMade (serves w c (asked a (Call call)) word) new before later
answered_made w c a call word value after woken new before later e active n m =
    let act = serves_with w c (asked a (Call call)) word (record { control = after; woken = woken; born = None; own = answer value }) true e active in
    let mail : List (ℕ × Msg) = woken_mail c a.time woken in
    let own : List (ℕ × Msg) = own_mail c a.from (answer value) in
    let plain : mail ++ [] ++ own ++ [] ≡ mail ++ own = append-nil (mail ++ [] ++ own) ∙ ap (λ xs. xs ++ own) (append-nil mail) in
    made_by _ _ new before later act (record { control = n; mail = m ∙ ap (λ xs. before ++ xs) (sym plain) })

-- the caller is answered alone
pub alone_made : (w : Setup) (c : Control) (a : Asker) (call : CallData) (word value : ℕ) (after : ControlData) (new : Control) (before later : List (ℕ × Msg))
    → request_served w c.control a.thread (Call call) word ≡ answered after value → is_active after a.thread ≡ true
    → new ≡ record c { control = after } → later ≡ before ++ own_mail c a.from (answer value)
    → IsMade (serves w c (asked a (Call call)) word) new before later
alone_made w c a call word value after new before later e active n m = answered_made w c a call word value after [] new before later e active n m

-- the caller is parked
pub parked_made : (w : Setup) (c : Control) (a : Asker) (call : CallData) (word : ℕ) (after : ControlData) (new : Control) (before later : List (ℕ × Msg))
    → request_served w c.control a.thread (Call call) word ≡ parked after → is_active after a.thread ≡ false
    → IsMade (leaves (record c { control = after }) a.thread) new before later
    → IsMade (serves w c (asked a (Call call)) word) new before later
parked_made w c a call word after new before later e inactive h =
    let act = serves_with w c (asked a (Call call)) word (parked after) false e (is_active-closed (none_waits c.backlog) after a.thread ∙ inactive) in
    made_by _ _ new before later act (record { control = h.control; mail = h.mail })

-- the program ends by a call, or by a trap
pub ended_made : (w : Setup) (c : Control) (a : Asker) (request : Request) (word : ℕ) (end : End) (new : Control) (before later : List (ℕ × Msg))
    → request_served w c.control a.thread request word ≡ ended c.control end → free_left w a.from request c.free ≡ c.free → is_active c.control a.thread ≡ true
    → new ≡ record c { control = record c.control { ended = Some end } } → later ≡ before
    → IsMade (serves w c (asked a request) word) new before later
ended_made w c a request word end new before later e same active n m =
    let act = serves_with w c (asked a request) word (ended c.control end) true e active in
    made_by _ _ new before later act (record { control = n ∙ ap (λ free. record c { control = record c.control { ended = Some end }; free = free }) (sym same); mail = m ∙ sym (append-nil before) })

-- a thread is born
pub born_made : (w : Setup) (c : Control) (a : Asker) (call : CallData) (word value : ℕ) (after : ControlData) (b : Born) (new : Control) (before later : List (ℕ × Msg))
    → request_served w c.control a.thread (Call call) word ≡ record { control = after; woken = []; born = Some b; own = answer value } → is_active after a.thread ≡ true
    → new ≡ record c { control = after; callers = callers_born (Some b) c.callers; free = free_born (Some b) c.free; epochs = join_born (Some b) c.epochs }
    → later ≡ before ++ (born_mail w c a.time (Some b) ++ own_mail c a.from (answer value))
    → IsMade (serves w c (asked a (Call call)) word) new before later
born_made w c a call word value after b new before later e active n m =
    let act = serves_with w c (asked a (Call call)) word (record { control = after; woken = []; born = Some b; own = answer value }) true e active in
    made_by _ _ new before later act (record { control = n; mail = m })

-- a thread exits, after one that was parked joining it was woken
pub exited_made : (w : Setup) (c : Control) (a : Asker) (code : ℕ) (after : ControlData) (woken : List Woken) (mid new : Control) (before middle later : List (ℕ × Msg))
    → request_served w c.control a.thread (Exit code) 0 ≡ record { control = after; woken = woken; born = None; own = leave } → is_active after a.thread ≡ false
    → mid ≡ record c { control = after; free = free_left w a.from (Exit code) c.free; epochs = join_all woken c.epochs } → middle ≡ before ++ woken_mail c a.time woken
    → IsMade (leaves mid a.thread) new middle later
    → IsMade (serves w c (asked a (Exit code)) 0) new before later
exited_made w c a code after woken mid new before middle later e inactive at sent h =
    let act = serves_with w c (asked a (Exit code)) 0 (record { control = after; woken = woken; born = None; own = leave }) false e (is_active-closed (none_waits c.backlog) after a.thread ∙ inactive) in
    let then : Control = record c { control = after; free = free_left w a.from (Exit code) c.free; epochs = join_all woken c.epochs } in
    let mail : List (ℕ × Msg) = woken_mail c a.time woken in
    let limits : List (ℕ × Msg) = (leaves then a.thread).mail in
    let plain : mail ++ [] ++ [] ++ limits ≡ mail ++ limits = ap (λ xs. xs ++ limits) (append-nil (mail ++ []) ∙ append-nil mail) in
    made_by _ _ new before later act (record {
      control = h.control ∙ ap (λ s. (leaves s a.thread).control) at;
      mail = h.mail ∙ ap (λ s. middle ++ (leaves s a.thread).mail) at ∙ ap (λ xs. xs ++ limits) sent ∙ append_assoc before mail limits ∙ ap (λ xs. before ++ xs) (sym plain);
    })
