-- What the control server makes of served requests: answers to tiles, a thread's start, counts of free tiles, and the
-- epochs of the barrier. What is served how is the one definition of serving.
use Rattle.std.specs.Prelude.{ℕ, ◌+◌, ◌-◌, ◌/◌, ◌==◌, ◌&&◌, not, Bool, true, false, List, [], ◌∷◌, ◌++◌, map, fold, max, position, slice_index, slice_set, is_some, unwrap_or, Option, Some, None}
use Rattle.sim_base.specs.declared.actions.Action.TheVariants.{Serve}
use Rattle.sim_base.specs.declared.ends.End.{End}
use Rattle.sim_base.specs.Numbering.{home_of, local_node, host_of}
use Rattle.sim_base.specs.Saturated.{saturated}
use Rattle.elf_image.specs.Layout.{Setup}
use Rattle.wire_msg.specs.declared.calls.Call.TheVariants.{FutexWait}
use Rattle.wire_msg.specs.declared.messages.Msg.{Msg}
use Rattle.wire_msg.specs.declared.messages.Msg.TheVariants.{GetS, Return, Start}
use Rattle.serving.specs.declared.control_data.Request.{Request}
use Rattle.serving.specs.declared.control_data.Request.TheVariants.{Call as CallRequest, Exit}
use Rattle.serving.specs.ControlData.{ControlData}
use Rattle.serving.specs.Serving.{Served, Woken, Born, Own, answer, serve}
use Rattle.clock_policy.specs.Members.{with_member, without_member, standing}
use Rattle.clock_policy.specs.Epoch.{Epoch, limit_of, advanced_by, announced_by}
use Rattle.control_server.specs.Control.{Control, Act, Waiting, quiet, is_active}

-- the line of an address
abbrev pub line_at : ℕ → ℕ
line_at addr = addr / 64

-- an answer goes to a tile: to one that was woken with its waker's time, to the caller with time 0
abbrev pub return_to : ℕ → ℕ → ℕ → ℕ → ℕ × Msg
return_to tile value time limit = (tile, Return value time limit)

abbrev pub caller_of : Control → ℕ → ℕ
caller_of c thread = slice_index c.callers thread

abbrev pub woken_mail : Control → ℕ → List Woken → List (ℕ × Msg)
woken_mail c time woken = map (λ w. return_to (caller_of c w.thread) w.value time (limit_of c.epochs)) woken

abbrev pub own_mail : Control → ℕ → Own → List (ℕ × Msg)
own_mail c tile (answer value) = return_to tile value 0 (limit_of c.epochs) ∷ []
own_mail c tile _ = []

-- the host with the most free tiles, and the least such host in a tie
abbrev pub most_free : List ℕ → ℕ
most_free free = fold max 0 free

abbrev pub freest_host : List ℕ → ℕ
freest_host free = unwrap_or (position (λ n. n == most_free free) free) 0

-- a thread that is born starts at that host's local server
abbrev pub born_mail : Setup → Control → ℕ → Option Born → List (ℕ × Msg)
born_mail w c time None = []
born_mail w c time (Some b) =
    (local_node w.config (freest_host c.free), Start b.thread b.entry b.arg time (limit_of c.epochs)) ∷ []

-- a host's count of free tiles, changed
abbrev pub with_free : List ℕ → ℕ → (ℕ → ℕ) → List ℕ
with_free free host change = slice_set free host (change (slice_index free host))

abbrev pub free_born : Option Born → List ℕ → List ℕ
free_born None free = free
free_born (Some b) free = with_free free (freest_host free) (λ n. n - 1)

-- an exit that a host's local server passed on frees a tile of that host
abbrev pub free_left : Setup → ℕ → Request → List ℕ → List ℕ
free_left w from (Exit code) free = with_free free (host_of w.config from) (λ n. saturated (n + 1))
free_left w from _ free = free

-- a thread that is born has called from no tile yet
abbrev pub callers_born : Option Born → List ℕ → List ℕ
callers_born None callers = callers
callers_born (Some b) callers = callers ++ 0 ∷ []

-- a thread is active from now on; a thread isn't any more
abbrev pub joined_by : ℕ → Epoch → Epoch
joined_by thread e = record e { members = with_member thread e.members }

abbrev pub left_by : ℕ → Epoch → Epoch
left_by thread e = record e { members = without_member thread e.members }

-- who is active: those who were woken or born are; the caller is while it is live and not parked
abbrev pub join_all : List Woken → Epoch → Epoch
join_all woken e = fold (λ e w. joined_by w.thread e) e woken

abbrev pub join_born : Option Born → Epoch → Epoch
join_born None e = e
join_born (Some b) e = joined_by b.thread e

abbrev pub leave_unless : Bool → ℕ → Epoch → Epoch
leave_unless true thread e = e
leave_unless false thread e = left_by thread e

abbrev pub epochs_served : ControlData → ℕ → Served → Epoch → Epoch
epochs_served after thread made e = leave_unless (is_active after thread) thread (join_born made.born (join_all made.woken e))

-- after a parking or an exit, and where the program hasn't ended, the epoch is advanced if all active threads have
-- reached
abbrev pub may_close : Own → Option End → Bool
may_close (answer value) ended = false
may_close _ ended = not (is_some ended)

abbrev pub epochs_closed : Bool → Epoch → Epoch
epochs_closed true e = advanced_by (standing e.members) e
epochs_closed false e = e

abbrev pub limits_closed : Bool → Epoch → List (ℕ × Msg)
limits_closed true e = announced_by (standing e.members) e
limits_closed false e = []

-- a request was served: what becomes of the control server, which has neither the request nor a check any more
abbrev pub settled : Setup → Control → Waiting → Served → Act
settled w c q made =
    let epochs : Epoch = epochs_served made.control q.thread made c.epochs in
    let closes : Bool = may_close made.own made.control.ended in
    record {
      control = record c {
        control = made.control;
        callers = callers_born made.born c.callers;
        free = free_left w q.from q.request (free_born made.born c.free);
        epochs = epochs_closed closes epochs;
      };
      mail = woken_mail c q.time made.woken ++ born_mail w c q.time made.born ++ own_mail c q.from made.own ++ limits_closed closes epochs;
      action = Some (Serve q.thread);
    }

-- whether no request waits
abbrev pub none_waits : List Waiting → Bool
none_waits [] = true
none_waits (q ∷ rest) = false

-- a request is served, with the word that a futex wait looks at
abbrev pub serves : Setup → Control → Waiting → ℕ → Act
serves w c q word = settled w c q (serve w c.control q.thread q.request word (none_waits c.backlog))

-- a futex wait is checked first: its word is read through memory, from its line's home
abbrev pub checks : Setup → Control → Waiting → ℕ → ℕ → Act
checks w c q addr value = record {
  control = record c { checking = Some (record { thread = q.thread; from = q.from; addr = addr; value = value }) };
  mail = (home_of w.config (line_at addr), GetS (line_at addr)) ∷ [];
  action = None;
}

-- the request that a call makes is begun: a futex wait by its check, every other one is served at once
abbrev pub begins : Setup → Control → Waiting → Request → Act
begins w c q (CallRequest (FutexWait addr value)) = checks w c q addr value
begins w c q _ = serves w c q 0

-- the step takes the first request that waits
abbrev pub step_by : Setup → Control → List Waiting → Act
step_by w c [] = quiet c
step_by w c (q ∷ rest) = begins w (record c { backlog = rest }) q q.request

abbrev pub control_step : Setup → Control → Act
control_step w c = step_by w c c.backlog

-- it can step where a request waits, none is being checked, and the program hasn't ended
abbrev pub can_step : Control → Bool
can_step c = not (none_waits c.backlog) && (not (is_some c.checking) && not (is_some c.control.ended))
