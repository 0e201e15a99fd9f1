-- For the contracts of the code alone: no clause of a public function needs this. A request by who asks and what is
-- asked; who may be served; a thread that stops; and acts that were made, by what they leave.
use Rattle.std.specs.Prelude.{ℕ, ◌≡◌, ◌<◌, ◌-◌, ◌^◌, ◌++◌, not, Bool, true, List, length, is_some, [], ◌∷◌, Option, Some, None}
use Rattle.sim_base.specs.declared.actions.Action.{Action}
use Rattle.sim_base.specs.Numbering.{node_count}
use Rattle.elf_image.specs.Layout.{Setup}
use Rattle.wire_msg.specs.declared.messages.Msg.{Msg}
use Rattle.wire_msg.specs.declared.calls.Call.TheVariants.{FutexWait}
use Rattle.serving.specs.declared.control_data.Request.{Request}
use Rattle.serving.specs.declared.control_data.Request.TheVariants.{Call}
use Rattle.serving.specs.declared.control_data.Fate.TheVariants.{Live}
use Rattle.serving.specs.ControlData.{ControlData, next_number}
use Rattle.serving.specs.Serving.{Born, answer, closed_end}
use Rattle.clock_policy.specs.Epoch.{Epoch}
use Rattle.control_server.specs.declared.requests.Asker.{Asker}
use Rattle.control_server.specs.Control.{Control, Act, Waiting, is_active}
use Rattle.control_server.specs.Serve.{none_waits, own_mail, born_mail, callers_born, free_born, join_born, left_by, epochs_closed, limits_closed}

-- the request of a thread that asks for something
abbrev pub asked : Asker → Request → Waiting
asked asker request = record { thread = asker.thread; from = asker.from; time = asker.time; request = request }

-- a thread's request can be served: the thread is active and has a number of 32 bits but the last, a node sent the
-- request, and each host's tiles are counted
pub record CanBeServed (w : Setup) (c : Control) (thread from : ℕ) : Type 0 where
  pub active : is_active c.control thread ≡ true
  pub number : thread < 2 ^ 32 - 1
  pub sender : from < node_count w.config
  pub hosts : length c.free ≡ w.config.hosts

-- the word and the value of a futex wait, if a request is one
abbrev pub word_of : Request → Option (ℕ × ℕ)
word_of (Call (FutexWait addr value)) = Some (addr, value)
word_of _ = None

-- control data with the end that the closing leaves
abbrev pub closed : Bool → ControlData → ControlData
closed idle c = record c { ended = closed_end idle c }

-- a thread isn't active any more; then the closing follows, and the epoch is advanced where all active threads have
-- reached, unless the program has ended
abbrev pub leaves_with : Control → ControlData → Epoch → Act
leaves_with c after epochs =
    let closes : Bool = not (is_some after.ended) in
    record { control = record c { control = after; epochs = epochs_closed closes epochs }; mail = limits_closed closes epochs; action = None }

abbrev pub leaves : Control → ℕ → Act
leaves c thread = leaves_with c (closed (none_waits c.backlog) c.control) (left_by thread c.epochs)

-- an act was made: the server is the act's, and its messages are sent after those that were there
pub record IsMade (act : Act) (new : Control) (before after : List (ℕ × Msg)) : Type 0 where
  pub control : new ≡ act.control
  pub mail : after ≡ before ++ act.mail

-- and its action is the answer
pub record IsDone (act : Act) (new : Control) (before after : List (ℕ × Msg)) (answer : Option Action) : Type 0 where
  pub made : IsMade act new before after
  pub action : answer ≡ act.action

-- the thread that a spawn begins
abbrev pub born_of : Control → ℕ → ℕ → Born
born_of c entry arg = record { thread = next_number c.control.fates; entry = entry; arg = arg }

-- a thread was born: the act of a spawn that can be
pub record IsBorn (w : Setup) (old : Control) (asker : Asker) (entry arg : ℕ) (new : Control) (before after : List (ℕ × Msg)) : Type 0 where
  pub control : new ≡ record old {
    control = record old.control { fates = old.control.fates ++ Live None ∷ [] };
    callers = callers_born (Some (born_of old entry arg)) old.callers;
    free = free_born (Some (born_of old entry arg)) old.free;
    epochs = join_born (Some (born_of old entry arg)) old.epochs;
  }
  pub mail : after ≡ before ++ (born_mail w old asker.time (Some (born_of old entry arg)) ++ own_mail old asker.from (answer (next_number old.control.fates)))
