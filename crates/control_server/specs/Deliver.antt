-- What the control server makes of each message. Where no case speaks, nothing changes. This simulator's own.
use Rattle.std.specs.Prelude.{ℕ, ◌≡◌, ◌%◌, ◌==◌, ◌&&◌, not, Bool, true, false, List, [], ◌∷◌, ◌++◌, slice_index, slice_set, if◌then◌else◌, Option, Some, None, Result, Ok, Err}
use Rattle.sim_base.specs.declared.actions.Action.{Action}
use Rattle.sim_base.specs.declared.ends.End.{End}
use Rattle.sim_base.specs.declared.lines.LineData.{LineData}
use Rattle.sim_base.specs.declared.memory.NoMemory.{NoMemory}
use Rattle.sim_base.specs.LittleEndian.{loaded}
use Rattle.sim_base.specs.Numbering.{control_node}
use Rattle.elf_image.specs.Layout.{Setup}
use Rattle.wire_msg.specs.declared.calls.Call.{Call as CallData}
use Rattle.wire_msg.specs.declared.calls.Call.TheVariants.{FutexWait}
use Rattle.wire_msg.specs.declared.messages.Msg.{Msg}
use Rattle.wire_msg.specs.declared.messages.Msg.TheVariants.{InvAck, DataS, Inv, Call, Exit as ExitMsg, Trapped, Reached}
use Rattle.wire_msg.specs.Message.{may_send}
use Rattle.serving.specs.declared.control_data.Request.TheVariants.{Call as CallRequest, Exit, Trap}
use Rattle.clock_policy.specs.Members.{reported, standing}
use Rattle.clock_policy.specs.Epoch.{Epoch, advanced_by, announced_by}
use Rattle.control_server.specs.Control.{Control, Act, Waiting, Check, quiet, is_active, has_request, is_placed}
use Rattle.control_server.specs.Serve.{line_at, serves}

-- a request joins the backlog where its thread is active and has no other request here
abbrev pub admits : Control → ℕ → Bool
admits c thread = is_active c.control thread && not (has_request c thread)

abbrev pub admitted : Control → Waiting → Control
admitted c q = record c { backlog = c.backlog ++ q ∷ [] }

abbrev pub request_taken : Control → Waiting → Act
request_taken c q = if admits c q.thread then quiet (admitted c q) else quiet c

-- a call that joins notes its tile as the thread's
abbrev pub call_taken : Control → ℕ → ℕ → ℕ → CallData → Act
call_taken c from thread time call =
    if is_placed call && admits c thread
    then quiet (record (admitted c (record { thread = thread; from = from; time = time; request = CallRequest call })) {
      callers = slice_set c.callers thread from;
    })
    else quiet c

-- a thread that has reached its limit is noted, and then the epoch is advanced where all active ones have
abbrev pub reached_taken : Control → ℕ → ℕ → Act
reached_taken c from thread =
    let epochs : Epoch = record c.epochs { members = reported thread from c.epochs.members } in
    record {
      control = record c { epochs = advanced_by (standing epochs.members) epochs };
      mail = announced_by (standing epochs.members) epochs;
      action = None;
    }

-- the line of the word that is being checked comes: the check ends, and the wait is served by what the word holds
abbrev pub word_in : LineData → ℕ → ℕ
word_in content addr = loaded (slice_index content.bytes) (addr % 64) 4

abbrev pub request_of : Check → Waiting
request_of check = record { thread = check.thread; from = check.from; time = 0; request = CallRequest (FutexWait check.addr check.value) }

abbrev pub data_taken : Setup → Control → ℕ → LineData → Option Check → Act
data_taken w c line content None = quiet c
data_taken w c line content (Some check) =
    if line_at check.addr == line then serves w (record c { checking = None }) (request_of check) (word_in content check.addr) else quiet c

-- each message, while the program hasn't ended. The control server keeps no copy, and acknowledges every Inv
abbrev pub acknowledges : Control → ℕ → ℕ → Act
acknowledges c from line = record (quiet c) { mail = (from, InvAck line) ∷ [] }

abbrev pub taken : Setup → Control → ℕ → Msg → Act
taken w c from (Call thread time call) = call_taken c from thread time call
taken w c from (ExitMsg thread code time) = request_taken c (record { thread = thread; from = from; time = time; request = Exit code })
taken w c from (Trapped thread cause pc) = request_taken c (record { thread = thread; from = from; time = 0; request = Trap cause pc })
taken w c from (Reached thread) = reached_taken c from thread
taken w c from (DataS line content delay) = data_taken w c line content c.checking
taken w c from (Inv line) = acknowledges c from line
taken w c from _ = quiet c

-- after the end an Inv is acknowledged still, and all else changes nothing
abbrev pub taken_late : Control → ℕ → Msg → Act
taken_late c from (Inv line) = acknowledges c from line
taken_late c from _ = quiet c

abbrev pub taken_by : Setup → Control → ℕ → Msg → Option End → Act
taken_by w c from msg None = taken w c from msg
taken_by w c from msg (Some end) = taken_late c from msg

-- a message from a node that may not send it changes nothing
abbrev pub control_delivered : Setup → Control → ℕ → Msg → Act
control_delivered w c from msg = if may_send w.config from (control_node w.config) msg then taken_by w c from msg c.control.ended else quiet c

-- how a call ends that makes an act: the server and its messages are the act's, and it wasn't spent; or memory ran out,
-- and it is spent, so each later call ends so too
abbrev pub Answers : Result (Option Action) NoMemory → Control → Control → List (ℕ × Msg) → List (ℕ × Msg) → Act → Type 0
Answers (Ok action) old new before after act = (old.spent ≡ false) × (new ≡ act.control) × (after ≡ before ++ act.mail) × (action ≡ act.action)
Answers (Err e) old new before after act = new.spent ≡ true
