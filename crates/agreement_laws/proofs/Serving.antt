-- The control server serves: the same request is legal on the flat machine, and all is kept, with the epoch's advance.
use Rattle.std.proofs.Common.{◌≡◌, ℕ, ◌<◌, Bool, true, false, not, ◌&&◌, List, [], ◌∷◌, ◌++◌, slice_get, Option, Some, None, refl, sym, ap, ◌∙◌, subst, append_assoc, is_some}
use Rattle.std.proofs.lemmas.List.Elements.{All-tail}
use Rattle.std.specs.Prelude.{All}
use Rattle.std.specs.Option.{option_map}
use Rattle.sim_base.specs.declared.actions.Action.TheVariants.{Serve}
use Rattle.sim_base.specs.Numbering.{control_node, home_of}
use Rattle.elf_image.specs.Layout.{Setup}
use Rattle.wire_msg.specs.declared.calls.Call.TheVariants.{Spawn, Join as JoinCall, Write, FutexWait, FutexWake, Brk, ExitGroup}
use Rattle.wire_msg.specs.declared.messages.Msg.{Msg}
use Rattle.serving.specs.declared.control_data.Request.{Request}
use Rattle.serving.specs.declared.control_data.Request.TheVariants.{Call as CallRequest, Exit as ExitRequest, Trap as TrapRequest}
use Rattle.serving.specs.ControlData.{ControlData}
use Rattle.serving.specs.Serving.{Served, serve}
use Rattle.clock_policy.specs.Epoch.{Epoch}
use Rattle.flat_machine.specs.declared.threads.Thread.{Thread}
use Rattle.flat_machine.specs.declared.threads.Status.{Status as FlatStatus}
use Rattle.flat_machine.specs.declared.threads.Status.TheVariants.{Left, Trapped as FlatTrapped}
use Rattle.flat_machine.specs.State.{State as Flat}
use Rattle.flat_machine.specs.Serving.{request_of, word_of, after_serving, after_request}
use Rattle.flat_machine.specs.Action.{act}
use Rattle.flat_machine.proofs.ServingLemmas.{is_served}
use Rattle.control_server.specs.Control.{Control, Act, Waiting, Check, IsAsked, AreApart, IsCheckable, IsCheckableIfAny, IsOrderly}
use Rattle.control_server.specs.Deliver.{request_of as request_of_check}
use Rattle.control_server.specs.Serve.{freest_host, free_left, free_born, epochs_served, may_close, limits_closed, woken_mail, born_mail, own_mail, settled, serves, checks, begins, step_by, control_step, can_step, line_at, none_waits}
use Rattle.control_server.proofs.Freest.{freest_in_range}
use Rattle.event_journal.specs.Rules.{Change}
use Rattle.event_journal.specs.State.{State, changed}
use Rattle.node_machine.specs.declared.nodes.Node.{Node}
use Rattle.node_machine.specs.declared.nodes.Node.TheVariants.{Control as ControlNode}
use Rattle.agreement_laws.specs.Phases.{status_asking}
use Rattle.agreement_laws.specs.Sides.{Side, side_of}
use Rattle.agreement_laws.specs.Kept.{Kept}
use Rattle.agreement_laws.specs.Whole.{acted}
use Rattle.agreement_laws.proofs.Answering.{asks_call}
use Rattle.agreement_laws.proofs.Closing.{closing_by}
use Rattle.agreement_laws.proofs.Posting.{post, kept_posted, kept_joined}
use Rattle.agreement_laws.proofs.Callers.{asks_first, asks_checked, flat_status, caller_checked}
use Rattle.agreement_laws.proofs.Births.{who_leaves, who_trapped}
use Rattle.agreement_laws.proofs.Epochs.{closed_kept}
use Rattle.agreement_laws.proofs.Serves.{served_mail}
use Rattle.agreement_laws.proofs.Outcomes.{Outcome, is_wait, wait_outcome, request_outcome}

-- the event that an act of the control server is
abbrev pub act_change : Act → Change Node Msg
act_change a = record { node = ControlNode a.control; sent = a.mail }

-- what is kept once it has acted so, with a flat state
abbrev pub KeptBy : Setup → State Node Msg → Act → Flat → Type 0
KeptBy w s a g = Kept w (changed s (control_node w.config) (act_change a)) a.control g

-- an act commits what is legal, and all is kept
abbrev pub IsActed : Setup → State Node Msg → Flat → Act → Type 0
IsActed w s f a = (g : Flat) × (acted w f a.action ≡ Some g) × KeptBy w s a g

-- THE SERVER SETTLES what was served
settled_kept : (w : Setup) (s : State Node Msg) (c : Control) (f : Flat) (q : Waiting) (rest : List Waiting) (check : Option Check) (made : Served) → Outcome w s c f q rest check (free_left w q.from q.request (free_born made.born c.free)) made
    → KeptBy w s (settled w (record c { backlog = rest; checking = check }) q made) (after_serving f q.thread made)
settled_kept w s c f q rest check made outcome =
    let c0 : Control = record c { backlog = rest; checking = check } in
    let a : Act = settled w c0 q made in
    let closes : Bool = may_close made.own made.control.ended in
    let epochs : Epoch = epochs_served made.control q.thread made c.epochs in
    let limits : List (ℕ × Msg) = limits_closed closes epochs in
    let k = kept_joined s (served_mail w c q made) limits (closed_kept outcome closes) in
    let same : served_mail w c q made ++ limits ≡ a.mail =
    ap (λ (ms : List (ℕ × Msg)). ms ++ limits) (sym (append_assoc (woken_mail c q.time made.woken) (born_mail w c q.time made.born) (own_mail c q.from made.own))) in
    kept_posted s a.mail a.control (subst (λ (ms : List (ℕ × Msg)). Kept w (post w s ms) a.control (after_serving f q.thread made)) same k)

-- ON THE FLAT MACHINE
legal_by : (w : Setup) (f : Flat) (u : ℕ) (o : Option Thread) (status : FlatStatus) (request : Request) → slice_get f.threads u ≡ o → option_map (λ t. t.status) o ≡ Some status → request_of status ≡ Some request → f.ended ≡ None
    → act w f (Serve u) ≡ Some (after_request w f u request)
legal_by w f u None status request at is asks none = cc
legal_by w f u (Some t) status request at is asks none =
    let same : t.status ≡ status = (let q : Some t.status ≡ Some status = is in cc) in
    is_served w f u t request none at (ap request_of same ∙ asks)

pub legal_request : {w : Setup} {s : State Node Msg} {c : Control} {f : Flat} (k : Kept w s c f) (u : ℕ) (status : FlatStatus) (request : Request) (held : ℕ) → option_map (λ t. t.status) (slice_get f.threads u) ≡ Some status → request_of status ≡ Some request
    → c.control.ended ≡ None → word_of f.memory request ≡ held → act w f (Serve u) ≡ Some (after_serving f u (serve w c.control u request held true))
legal_request {w} {s} {c} {f} k u status request held is asks none word =
    legal_by w f u (slice_get f.threads u) status request refl is asks (sym (ap (λ (z : ControlData). z.ended) k.control) ∙ none)
    ∙ (ap (λ z. Some (after_serving f u (serve w z u request (word_of f.memory request) true))) (sym k.control)
    ∙ ap (λ z. Some (after_serving f u (serve w c.control u request z true))) word)

asked_status : {w : Setup} {s : State Node Msg} {c : Control} {f : Flat} (k : Kept w s c f) (q : Waiting) (rest : List Waiting) (request : Request) → c.backlog ≡ q ∷ rest → q.request ≡ request
    → (status : FlatStatus) × (option_map (λ t. t.status) (slice_get f.threads q.thread) ≡ Some status) × (request_of status ≡ Some request)
asked_status {w} {s} {c} {f} k q rest (CallRequest call) e is =
    let a = asks_first k q rest call e is in
    (status_asking a.ask, flat_status k q.thread call rest c.checking a, asks_call a.ask a.full ∙ ap (λ z. Some (CallRequest z)) a.asks)
asked_status {w} {s} {c} {f} k q rest (ExitRequest code) e is =
    let a = who_leaves k q rest code e is in
    (Left code, ap (λ (z : Side). z.status) (k.sides q.thread 0 ∙ ap (side_of w q.thread 0) a.phase), refl)
asked_status {w} {s} {c} {f} k q rest (TrapRequest cause pc) e is =
    let a = who_trapped k q rest cause pc e is in
    (FlatTrapped cause a.h.pc, ap (λ (z : Side). z.status) (k.sides q.thread 0 ∙ ap (side_of w q.thread 0) a.phase), ap (λ z. Some (TrapRequest cause z)) a.at)

no_word : (f : Flat) (request : Request) → is_wait request ≡ false → word_of f.memory request ≡ 0
no_word f (CallRequest (FutexWait addr value)) plain = cc
no_word f (CallRequest (Spawn entry arg)) plain = refl
no_word f (CallRequest (JoinCall target)) plain = refl
no_word f (CallRequest (Write bytes)) plain = refl
no_word f (CallRequest (FutexWake addr count)) plain = refl
no_word f (CallRequest (Brk addr)) plain = refl
no_word f (CallRequest (ExitGroup code)) plain = refl
no_word f (ExitRequest code) plain = refl
no_word f (TrapRequest cause pc) plain = refl

-- THE FIRST OF THE BACKLOG is served
abbrev pub IsServedToo : Setup → State Node Msg → Flat → ℕ → Act → Type 0
IsServedToo w s f u a = (g : Flat) × (act w f (Serve u) ≡ Some g) × KeptBy w s a g

pub first_served : {w : Setup} {s : State Node Msg} {c : Control} {f : Flat} (k : Kept w s c f) (q : Waiting) (rest : List Waiting) → IsOrderly w c → c.backlog ≡ q ∷ rest → c.control.ended ≡ None → 0 < w.config.hosts → is_wait q.request ≡ false
    → IsServedToo w s f q.thread (serves w (record c { backlog = rest }) q 0)
first_served {w} {s} {c} {f} k q rest orderly e none some plain =
    let u : ℕ = q.thread in
    let made : Served = serve w c.control u q.request 0 true in
    let g : Flat = after_serving f u made in
    let asked : All (IsAsked w c.control) (q ∷ rest) = subst (All (IsAsked w c.control)) e orderly.asked in
    let apart : AreApart (q ∷ rest) = subst AreApart e orderly.apart in
    let low : freest_host c.free < w.config.hosts = subst (λ n. freest_host c.free < n) orderly.hosts (freest_in_range c.free (subst (λ n. 0 < n) (sym orderly.hosts) some)) in
    let closing = closing_by w c.control q 0 rest orderly.numbers (All-tail (IsAsked w c.control) q rest asked) apart.0 in
    let asks = asked_status k q rest q.request e refl in
    let kept = settled_kept w s c f q rest c.checking made (request_outcome k q rest (free_left w q.from q.request (free_born made.born c.free)) q.request e refl plain none low) in (
      g,
      legal_request k u asks.0 q.request 0 asks.1 asks.2 none (no_word f q.request plain),
      subst (λ z. KeptBy w s (settled w (record c { backlog = rest }) q z) g) (sym closing) kept,
    )

-- A WAIT whose word was read is served
pub check_served : {w : Setup} {s : State Node Msg} {c : Control} {f : Flat} (k : Kept w s c f) (check : Check) (held : ℕ) → IsOrderly w c → c.checking ≡ Some check → c.control.ended ≡ None
    → word_of f.memory (CallRequest (FutexWait check.addr check.value)) ≡ held → IsServedToo w s f check.thread (serves w (record c { checking = None }) (request_of_check check) held)
check_served {w} {s} {c} {f} k check held orderly e none word =
    let u : ℕ = check.thread in
    let q : Waiting = request_of_check check in
    let request : Request = CallRequest (FutexWait check.addr check.value) in
    let made : Served = serve w c.control u request held true in
    let g : Flat = after_serving f u made in
    let checked : IsCheckable w c.control c.backlog check = subst (IsCheckableIfAny w c.control c.backlog) e orderly.checked in
    let closing = closing_by w c.control q held c.backlog orderly.numbers orderly.asked checked.alone in
    let a = asks_checked k check e in
    let kept = settled_kept w s c f q c.backlog None made (wait_outcome k check (free_left w q.from q.request (free_born made.born c.free)) held e none) in (
      g,
      legal_request k u (status_asking a.ask) request held (flat_status k u (FutexWait check.addr check.value) c.backlog None a) (asks_call a.ask a.full ∙ ap (λ z. Some (CallRequest z)) a.asks) none word,
      subst (λ z. KeptBy w s (settled w (record c { checking = None }) q z) g) (sym closing) kept,
    )

-- THE STEP of the control server
pub begins_kept : {w : Setup} {s : State Node Msg} {c : Control} {f : Flat} (k : Kept w s c f) (q : Waiting) (rest : List Waiting) (request : Request) → IsOrderly w c → c.backlog ≡ q ∷ rest → q.request ≡ request → c.checking ≡ None
    → c.control.ended ≡ None → 0 < w.config.hosts → IsActed w s f (begins w (record c { backlog = rest }) q request)
begins_kept {w} {s} {c} {f} k q rest (CallRequest (FutexWait addr value)) orderly e is idle none some =
    let a : Act = checks w (record c { backlog = rest }) q addr value in
    (f, refl, kept_posted s a.mail a.control (caller_checked k q rest addr value (home_of w.config (line_at addr)) (line_at addr) e is idle))
begins_kept k q rest (CallRequest (Spawn entry arg)) orderly e is idle none some = first_served k q rest orderly e none some (ap is_wait is)
begins_kept k q rest (CallRequest (JoinCall target)) orderly e is idle none some = first_served k q rest orderly e none some (ap is_wait is)
begins_kept k q rest (CallRequest (Write bytes)) orderly e is idle none some = first_served k q rest orderly e none some (ap is_wait is)
begins_kept k q rest (CallRequest (FutexWake addr count)) orderly e is idle none some = first_served k q rest orderly e none some (ap is_wait is)
begins_kept k q rest (CallRequest (Brk addr)) orderly e is idle none some = first_served k q rest orderly e none some (ap is_wait is)
begins_kept k q rest (CallRequest (ExitGroup code)) orderly e is idle none some = first_served k q rest orderly e none some (ap is_wait is)
begins_kept k q rest (ExitRequest code) orderly e is idle none some = first_served k q rest orderly e none some (ap is_wait is)
begins_kept k q rest (TrapRequest cause pc) orderly e is idle none some = first_served k q rest orderly e none some (ap is_wait is)

none_left : (waits checks ended : Bool) → (waits && (not checks && not ended)) ≡ true → (checks ≡ false) × (ended ≡ false)
none_left true false false e = (refl, refl)
none_left true false true e = cc
none_left true true ended e = cc
none_left false checks ended e = cc

is_none : {A : Type 0} (o : Option A) → is_some o ≡ false → o ≡ None
is_none None e = refl
is_none (Some x) e = cc

pub step_kept : {w : Setup} {s : State Node Msg} {c : Control} {f : Flat} (k : Kept w s c f) → IsOrderly w c → can_step c ≡ true → 0 < w.config.hosts → IsActed w s f (control_step w c)
step_kept {w} {s} {c} {f} k orderly can some = by_backlog c.backlog refl where
  by_backlog : (xs : List Waiting) → c.backlog ≡ xs → IsActed w s f (step_by w c xs)
  by_backlog [] e = let z = sym (ap (λ xs. not (none_waits xs) && (not (is_some c.checking) && not (is_some c.control.ended))) e) ∙ can in cc
  by_backlog (q ∷ rest) e =
      let left = none_left (not (none_waits c.backlog)) (is_some c.checking) (is_some c.control.ended) can in
      begins_kept k q rest q.request orderly e refl (is_none c.checking left.0) (is_none c.control.ended left.1) some
