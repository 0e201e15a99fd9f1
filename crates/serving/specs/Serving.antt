-- Serving: what a thread's call, exit or trap makes of the control data, and whom it answers. The flat machine and the
-- control server both serve by this one definition. The calls' numbers of errors are Linux's; the rest is this
-- simulator's own.
use Rattle.std.specs.Prelude.{ℕ, ◌+◌, ◌-◌, ◌%◌, ◌^◌, ◌==◌, ◌&&◌, ◌||◌, not, Bool, List, [], ◌∷◌, ◌++◌, length, map, nat_le, nat_lt, if◌then◌else◌, Option, Some, None, is_some}
use Rattle.std.specs.List.{list_all}
use Rattle.sim_base.specs.declared.ends.End.{End}
use Rattle.sim_base.specs.declared.ends.End.TheVariants.{Exit as ExitEnd, Trap as TrapEnd, Deadlock}
use Rattle.elf_image.specs.Layout.{Setup, heap_start, heap_end}
use Rattle.wire_msg.specs.ErrorNumber.{minus}
use Rattle.wire_msg.specs.declared.calls.Call.{Call}
use Rattle.wire_msg.specs.declared.calls.Call.TheVariants.{Spawn, Join as JoinCall, Write, FutexWait, FutexWake, Brk, ExitGroup}
use Rattle.serving.specs.declared.control_data.Fate.{Fate}
use Rattle.serving.specs.declared.control_data.Fate.TheVariants.{Live}
use Rattle.serving.specs.declared.control_data.Join.{Join}
use Rattle.serving.specs.declared.control_data.Join.TheVariants.{Code, Parked, NoThread, Invalid}
use Rattle.serving.specs.declared.control_data.Request.{Request}
use Rattle.serving.specs.declared.control_data.Request.TheVariants.{Call as CallRequest, Exit, Trap}
use Rattle.serving.specs.ControlData.{ControlData, next_number, live_count, live_from, is_parked}
use Rattle.serving.specs.Join.{join_of, fates_joined, fates_exited, joiner_of}
use Rattle.serving.specs.Wake.{woken, still_parked}

-- a thread that was parked, and the answer that wakes it
pub record Woken : Type 0 where
  pub thread : ℕ
  pub value : ℕ

-- a thread that is to begin at an entry with an argument
pub record Born : Type 0 where
  pub thread : ℕ
  pub entry : ℕ
  pub arg : ℕ

-- what becomes of the caller: it gets an answer; it is parked; or it gets none, since it exited or the program ended
pub data Own : Type 0 where
  answer : ℕ → Own
  park : Own
  leave : Own

-- what serving makes: the control data, who is woken, in order, who is born, and what becomes of the caller
pub record Served : Type 0 where
  pub control : ControlData
  pub woken : List Woken
  pub born : Option Born
  pub own : Own

-- the caller alone is answered; parked; or gone
abbrev pub answered : ControlData → ℕ → Served
answered c value = record { control = c; woken = []; born = None; own = answer value }

abbrev pub parked : ControlData → Served
parked c = record { control = c; woken = []; born = None; own = park }

abbrev pub ended : ControlData → End → Served
ended c end = record { control = record c { ended = Some end }; woken = []; born = None; own = leave }

-- spawn: the entry is a multiple of 4; there are fewer live threads than tiles, and a number is left
abbrev pub is_full : Setup → List Fate → Bool
is_full w fates = nat_le w.config.tiles (live_count fates) || nat_le (2 ^ 32 - 1) (next_number fates)

abbrev pub born : ControlData → ℕ → ℕ → Served
born c entry arg = record {
  control = record c { fates = c.fates ++ Live None ∷ [] };
  woken = [];
  born = Some (record { thread = next_number c.fates; entry = entry; arg = arg });
  own = answer (next_number c.fates);
}

abbrev pub spawn_served : Setup → ControlData → ℕ → ℕ → Served
spawn_served w c entry arg =
    if not (entry % 4 == 0) then answered c (minus 22) else (if is_full w c.fates then answered c (minus 11) else born c entry arg)

-- join: by what it comes to
abbrev pub join_own : Join → Own
join_own (Code code) = answer code
join_own Parked = park
join_own NoThread = answer (minus 3)
join_own Invalid = answer (minus 22)

abbrev pub joined : ControlData → ℕ → ℕ → Join → Served
joined c caller target join = record {
  control = record c { fates = fates_joined c.fates caller target join };
  woken = [];
  born = None;
  own = join_own join;
}

abbrev pub join_served : ControlData → ℕ → ℕ → Served
join_served c caller target = joined c caller target (join_of c.fates caller target)

-- write: the bytes are output, unless the output would pass 1,048,576 bytes
abbrev pub most_output : ℕ
most_output = 1048576

abbrev pub is_too_much : List ℕ → List ℕ → Bool
is_too_much output bytes = nat_lt most_output (length output + length bytes)

abbrev pub write_answer : List ℕ → List ℕ → ℕ
write_answer output bytes = if is_too_much output bytes then minus 28 else length bytes

abbrev pub output_with : List ℕ → List ℕ → List ℕ
output_with output bytes = if is_too_much output bytes then output else output ++ bytes

abbrev pub write_served : ControlData → List ℕ → Served
write_served c bytes = answered (record c { output = output_with c.output bytes }) (write_answer c.output bytes)

-- a futex wait: the caller is parked where the word is the value that it waits at, and comes last
abbrev pub wait_served : ControlData → ℕ → ℕ → ℕ → ℕ → Served
wait_served c caller addr value word =
    if word == value then parked (record c { waiters = c.waiters ++ (record { thread = caller; addr = addr }) ∷ [] })
    else answered c (minus 11)

-- a futex wake: the longest parked at the address, at most so many, are woken with 0; the answer is how many
abbrev pub woken_with : ℕ → ℕ → Woken
woken_with value thread = record { thread = thread; value = value }

abbrev pub wake_served : ControlData → ℕ → ℕ → Served
wake_served c addr count = record {
  control = record c { waiters = still_parked addr count c.waiters };
  woken = map (woken_with 0) (woken addr count c.waiters);
  born = None;
  own = answer (length (woken addr count c.waiters));
}

-- brk: an address in the heap window, its end included, is the break from then on; the answer is the break
abbrev pub break_after : Setup → ℕ → ℕ → ℕ
break_after w old addr = if nat_le (heap_start w) addr && nat_le addr (heap_end w) then addr else old

abbrev pub brk_served : Setup → ControlData → ℕ → Served
brk_served w c addr = answered (record c { heap_break = break_after w c.heap_break addr }) (break_after w c.heap_break addr)

-- the calls; `word` is the number in the four bytes that a futex wait looks at
abbrev pub call_served : Setup → ControlData → ℕ → Call → ℕ → Served
call_served w c caller (Spawn entry arg) word = spawn_served w c entry arg
call_served w c caller (JoinCall target) word = join_served c caller target
call_served w c caller (Write bytes) word = write_served c bytes
call_served w c caller (FutexWait addr value) word = wait_served c caller addr value word
call_served w c caller (FutexWake addr count) word = wake_served c addr count
call_served w c caller (Brk addr) word = brk_served w c addr
call_served w c caller (ExitGroup code) word = ended c (ExitEnd code)

-- the thread that is parked joining one that exits is woken with the code
abbrev pub joiner_woken : Option ℕ → ℕ → List Woken
joiner_woken None code = []
joiner_woken (Some thread) code = woken_with code thread ∷ []

-- the last live thread's exit is the program's
abbrev pub end_of_exit : List Fate → ℕ → Option End
end_of_exit fates code = if live_count fates == 0 then Some (ExitEnd code) else None

-- an exit
abbrev pub exit_served : ControlData → ℕ → ℕ → Served
exit_served c caller code = record {
  control = record c { fates = fates_exited c.fates caller code; ended = end_of_exit (fates_exited c.fates caller code) code };
  woken = joiner_woken (joiner_of c.fates caller) code;
  born = None;
  own = leave;
}

-- each request
abbrev pub request_served : Setup → ControlData → ℕ → Request → ℕ → Served
request_served w c caller (CallRequest call) word = call_served w c caller call word
request_served w c caller (Exit code) word = exit_served c caller code
request_served w c caller (Trap cause pc) word = ended c (TrapEnd caller cause pc)

-- the closing: where threads are live, all of them are parked and no other request waits, nobody can go on any more
abbrev pub are_all_parked : ControlData → Bool
are_all_parked c = list_all (is_parked c) (live_from 0 c.fates)

abbrev pub is_deadlocked : Bool → ControlData → Bool
is_deadlocked none_waits c = not (is_some c.ended) && (none_waits && (not (live_count c.fates == 0) && are_all_parked c))

-- the end that the closing leaves: one that serving itself made stays
abbrev pub closed_end : Bool → ControlData → Option End
closed_end none_waits c = if is_deadlocked none_waits c then Some Deadlock else c.ended

-- a thread that is answered can go on itself; else the closing follows
abbrev pub end_after : Own → Bool → ControlData → Option End
end_after (answer value) none_waits c = c.ended
end_after _ none_waits c = closed_end none_waits c

-- what serving made, with the end that follows
abbrev pub with_end : Bool → Served → Served
with_end none_waits made = record made { control = record made.control { ended = end_after made.own none_waits made.control } }

-- a request is served: `none_waits` says that no other request waits to be
abbrev pub serve : Setup → ControlData → ℕ → Request → ℕ → Bool → Served
serve w c caller request word none_waits = with_end none_waits (request_served w c caller request word)
