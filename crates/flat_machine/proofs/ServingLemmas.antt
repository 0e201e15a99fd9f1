-- What serving makes of the state, request by request, and the control data of states in which one thread changed.
use Rattle.std.proofs.Common.{◌≡◌, ℕ, ◌%◌, ◌==◌, ◌||◌, Bool, true, false, cond, zero, suc, List, [], ◌∷◌, ◌++◌, length, map, refl, sym, ap, ◌∙◌, arith}
use Rattle.std.specs.Prelude.{Option, Some, None, is_some, slice_get, slice_set}
use Rattle.std.specs.Option.{option_map_or}
use Rattle.std.specs.List.{list_any}
use Rattle.std.proofs.lemmas.List.{append-nil, length-map}
use Rattle.std.proofs.lemmas.Bool.Decides.{nat_tests}
use Rattle.sim_base.specs.declared.ends.End.{End}
use Rattle.elf_image.specs.Layout.{Setup}
use Rattle.serving.specs.declared.control_data.Fate.{Fate}
use Rattle.serving.specs.declared.control_data.Fate.TheVariants.{Live, Exited}
use Rattle.serving.specs.declared.control_data.Join.TheVariants.{Code, Parked as ParkedJoin, NoThread, Invalid}
use Rattle.serving.specs.declared.control_data.Request.{Request}
use Rattle.serving.specs.declared.control_data.Waiter.{Waiter}
use Rattle.serving.specs.Join.{join_by, join_of, joiner_of}
use Rattle.serving.specs.Wake.{woken, still_parked}
use Rattle.wire_msg.specs.ErrorNumber.{minus}
use Rattle.serving.specs.Serving.{is_full, spawn_served, join_served, joined, write_served, write_answer, output_with, wait_served, wake_served, woken_with, brk_served, break_after, exit_served, joiner_woken, end_of_exit, ended as ended_served}
use Rattle.flat_machine.specs.declared.threads.Thread.{Thread}
use Rattle.flat_machine.specs.declared.threads.Status.{Status}
use Rattle.flat_machine.specs.declared.threads.Status.TheVariants.{Answered, Parked, Gone}
use Rattle.flat_machine.specs.State.{State, new_thread, with_status}
use Rattle.flat_machine.specs.Serving.{fate_by, fate_of, control_of, request_of, with_fate, with_fates, woken_threads, after_serving, after_request, served}
use Rattle.flat_machine.specs.Inner.{concluded, with_closing, with_joiner}

-- threads by their own fates are the same
same_fate : (t : Thread) → with_fate t (fate_of t) ≡ t
same_fate t = by_status t.status where
  by_status : (status : Status) → with_fate (record t { status = status }) (fate_by t.joiner status) ≡ record t { status = status }
  by_status (Gone code joined) = refl
  by_status _ = refl

pub more_fates : (ts : List Thread) (fates : List Fate) → with_fates ts (map fate_of ts ++ fates) ≡ ts
more_fates [] fates = refl
more_fates (t ∷ ts) fates = cc (same_fate t, more_fates ts fates)

pub same_fates : (ts : List Thread) → with_fates ts (map fate_of ts) ≡ ts
same_fates [] = refl
same_fates (t ∷ ts) = cc (same_fate t, same_fates ts)

-- threads with another fate of one of them
behind : (t : Thread) (ts : List Thread) (f : Thread → List Thread) (o : Option Thread) → t ∷ option_map_or f o ts ≡ option_map_or (λ u. t ∷ f u) o (t ∷ ts)
behind t ts f None = refl
behind t ts f (Some u) = refl

pub one_fate : (ts : List Thread) (k : ℕ) (fate : Fate) → with_fates ts (slice_set (map fate_of ts) k fate) ≡ option_map_or (λ t. slice_set ts k (with_fate t fate)) (slice_get ts k) ts
one_fate [] k fate = refl
one_fate (t ∷ ts) zero fate = ap (λ xs. with_fate t fate ∷ xs) (same_fates ts)
one_fate (t ∷ ts) (suc k) fate = cc (same_fate t, one_fate ts k fate, behind t ts (λ u. slice_set ts k (with_fate u fate)) (slice_get ts k))

-- the fates where one thread is gone, or has a joiner
fates_behind : (t : Thread) (ts : List Thread) (f : Thread → List Thread) (o : Option Thread) → map fate_of (option_map_or (λ u. t ∷ f u) o (t ∷ ts)) ≡ fate_of t ∷ map fate_of (option_map_or f o ts)
fates_behind t ts f None = refl
fates_behind t ts f (Some u) = refl

pub fates_gone : (ts : List Thread) (k code : ℕ) (joined : Bool) → map fate_of (with_status ts k (Gone code joined)) ≡ slice_set (map fate_of ts) k (Exited code joined)
fates_gone [] k code joined = refl
fates_gone (t ∷ ts) zero code joined = refl
fates_gone (t ∷ ts) (suc k) code joined =
    fates_behind t ts (λ u. slice_set ts k (record u { status = Gone code joined })) (slice_get ts k) ∙ ap (λ xs. fate_of t ∷ xs) (fates_gone ts k code joined)

live_joined : (t : Thread) (old new : Option ℕ) → fate_of t ≡ Live old → fate_of (record t { joiner = new }) ≡ Live new
live_joined t old new e = by_status t.status e where
  by_status : (status : Status) → fate_by t.joiner status ≡ Live old → fate_by new status ≡ Live new
  by_status (Gone code joined) e = cc
  by_status _ e = refl

pub fates_joined_by : (ts : List Thread) (k : ℕ) (old new : Option ℕ) → slice_get (map fate_of ts) k ≡ Some (Live old)
    → map fate_of (with_joiner ts k new) ≡ slice_set (map fate_of ts) k (Live new)
fates_joined_by [] k old new e = cc
fates_joined_by (t ∷ ts) zero old new e = ap (λ fate. fate ∷ map fate_of ts) (live_joined t old new cc)
fates_joined_by (t ∷ ts) (suc k) old new e =
    fates_behind t ts (λ u. slice_set ts k (record u { joiner = new })) (slice_get ts k) ∙ ap (λ xs. fate_of t ∷ xs) (fates_joined_by ts k old new e)

-- spawn
pub spawn_misaligned : (w : Setup) (s : State) (number entry arg : ℕ) → (entry % 4 == 0) ≡ false
    → concluded s number (spawn_served w (control_of s) entry arg) ≡ record s { threads = with_status s.threads number (Answered (minus 22)) }
unfolding after_serving
spawn_misaligned w s number entry arg e = rw (e, append-nil, same_fates) refl

pub spawn_refused : (w : Setup) (s : State) (number entry arg : ℕ) → (entry % 4 == 0) ≡ true → is_full w (map fate_of s.threads) ≡ true
    → concluded s number (spawn_served w (control_of s) entry arg) ≡ record s { threads = with_status s.threads number (Answered (minus 11)) }
unfolding after_serving
spawn_refused w s number entry arg e full = rw (e, full, append-nil, same_fates) refl

pub spawn_made : (w : Setup) (s : State) (number entry arg : ℕ) → (entry % 4 == 0) ≡ true → is_full w (map fate_of s.threads) ≡ false
    → concluded s number (spawn_served w (control_of s) entry arg)
    ≡ record s { threads = with_status (s.threads ++ new_thread entry arg ∷ []) number (Answered (length s.threads)) }
unfolding after_serving
spawn_made w s number entry arg e full = rw (e, full, more_fates, length-map) refl

-- join
pub join_code : (s : State) (number target code : ℕ) → join_of (map fate_of s.threads) number target ≡ Code code
    → concluded s number (join_served (control_of s) number target)
    ≡ record s { threads = with_status (with_status s.threads target (Gone code true)) number (Answered code) }
unfolding after_serving
join_code s number target code e = rw (e, one_fate, append-nil) refl

live_target : (number target : ℕ) (fate : Option Fate) → join_by number target fate ≡ ParkedJoin → fate ≡ Some (Live None)
live_target number target None e = cc
live_target number target (Some (Exited code true)) e = cc
live_target number target (Some (Exited code false)) e = by_test (target == number) e where
  by_test : (b : Bool) → cond b Invalid (Code code) ≡ ParkedJoin → Some (Exited code false) ≡ Some (Live None)
  by_test true e = cc
  by_test false e = cc
live_target number target (Some (Live (Some joiner))) e = cc
live_target number target (Some (Live None)) e = refl

pub join_parked : (s : State) (number target : ℕ) → join_of (map fate_of s.threads) number target ≡ ParkedJoin
    → let s' : State = record s { threads = with_joiner s.threads target (Some number) } in
    concluded s number (join_served (control_of s) number target) ≡ record (with_closing s') { threads = with_status s'.threads number Parked }
unfolding after_serving
join_parked s number target e =
    let live : slice_get (map fate_of s.threads) target ≡ Some (Live None) = live_target number target _ e in
    let fates = fates_joined_by s.threads target None (Some number) live in
    rw (e, one_fate, append-nil, fates) refl

pub join_refused : (s : State) (number target : ℕ) → join_of (map fate_of s.threads) number target ≡ NoThread
    → concluded s number (join_served (control_of s) number target) ≡ record s { threads = with_status s.threads number (Answered (minus 3)) }
unfolding after_serving
join_refused s number target e = rw (e, append-nil, same_fates) refl

pub join_invalid : (s : State) (number target : ℕ) → join_of (map fate_of s.threads) number target ≡ Invalid
    → concluded s number (join_served (control_of s) number target) ≡ record s { threads = with_status s.threads number (Answered (minus 22)) }
unfolding after_serving
join_invalid s number target e = rw (e, append-nil, same_fates) refl

-- write and brk
pub write_made : (s : State) (number : ℕ) (bytes : List ℕ) → concluded s number (write_served (control_of s) bytes)
    ≡ record s { threads = with_status s.threads number (Answered (write_answer s.output bytes)); output = output_with s.output bytes }
unfolding after_serving
write_made s number bytes = rw (append-nil, same_fates) refl

pub write_shown : (v s : State) → v ≡ s → (number value : ℕ) (bytes output : List ℕ) (new : State) → new ≡ record v { threads = with_status v.threads number (Answered value); output = output }
    → value ≡ write_answer v.output bytes → output ≡ output_with v.output bytes
    → new ≡ record s { threads = with_status s.threads number (Answered (write_answer s.output bytes)); output = output_with s.output bytes }
write_shown v s is number value bytes output new made answered put = rw (made, answered, put, ← is) refl

pub brk_made : (w : Setup) (s : State) (number addr : ℕ) → concluded s number (brk_served w (control_of s) addr)
    ≡ record s { threads = with_status s.threads number (Answered (break_after w s.heap_break addr)); heap_break = break_after w s.heap_break addr }
unfolding after_serving
brk_made w s number addr = rw (append-nil, same_fates) refl

-- futexes
pub wait_parked : (s : State) (number addr value word : ℕ) → (word == value) ≡ true
    → let s' : State = record s { waiters = s.waiters ++ (let w : Waiter = record { thread = number; addr = addr } in w) ∷ [] } in
    concluded s number (wait_served (control_of s) number addr value word) ≡ record (with_closing s') { threads = with_status s.threads number Parked }
unfolding after_serving
wait_parked s number addr value word e = rw (e, append-nil, same_fates) refl

pub wait_refused : (s : State) (number addr value word : ℕ) → (word == value) ≡ false
    → concluded s number (wait_served (control_of s) number addr value word) ≡ record s { threads = with_status s.threads number (Answered (minus 11)) }
unfolding after_serving
wait_refused s number addr value word e = rw (e, append-nil, same_fates) refl

pub wake_made : (s : State) (number addr count : ℕ) → concluded s number (wake_served (control_of s) addr count) ≡ record s {
  threads = with_status (woken_threads (map (woken_with 0) (woken addr count s.waiters)) s.threads) number (Answered (length (woken addr count s.waiters)));
  waiters = still_parked addr count s.waiters;
}
unfolding after_serving
wake_made s number addr count = rw (append-nil, same_fates) refl

-- exit
pub exit_made : (s : State) (number code : ℕ) (joiner : Option ℕ) → joiner ≡ joiner_of (map fate_of s.threads) number
    → let threads : List Thread = with_status s.threads number (Gone code (is_some joiner)) in
    let s' : State = with_closing (record s { threads = threads; ended = end_of_exit (map fate_of threads) code }) in
    concluded s number (exit_served (control_of s) number code) ≡ record s' { threads = woken_threads (joiner_woken joiner code) threads }
unfolding after_serving
exit_made s number code joiner e =
    rw (← e, one_fate, append-nil, fates_gone s.threads number code (is_some joiner)) refl

-- what a thread asks for is served where there is no end
pub is_served : (w : Setup) (s : State) (number : ℕ) (t : Thread) (request : Request) → s.ended ≡ None → slice_get s.threads number ≡ Some t → request_of t.status ≡ Some request
    → served w s number ≡ Some (after_request w s number request)
is_served w s number t request no_end here asks = rw (no_end, here, asks) refl

pub asks_nothing : (w : Setup) (s : State) (number : ℕ) (t : Thread) → slice_get s.threads number ≡ Some t → request_of t.status ≡ None → served w s number ≡ None
asks_nothing w s number t here asks = by_end s.ended where
  by_end : (ended : Option End) → served w (record s { ended = ended }) number ≡ None
  by_end None = rw (here, asks) refl
  by_end (Some end) = refl

pub served_no_more : (w : Setup) (s : State) (number : ℕ) → is_some s.ended ≡ true → served w s number ≡ None
served_no_more w s number e = by_end s.ended e where
  by_end : (ended : Option End) → is_some ended ≡ true → served w (record s { ended = ended }) number ≡ None
  by_end None e = cc
  by_end (Some end) e = refl

-- a test of fates, asked of threads
pub any_fate : (p : Fate → Bool) (ts : List Thread) → list_any p (map fate_of ts) ≡ list_any (λ t. p (fate_of t)) ts
any_fate p [] = refl
any_fate p (t ∷ ts) = ap (λ b. p (fate_of t) || b) (any_fate p ts)

-- how a word that was read compares
pub word_same : (read word value : ℕ) → read ≡ word → read ≡ value → (word == value) ≡ true
word_same read word value is e = let f : word ≡ value = sym is ∙ e in grind (arith, nat_tests)

pub word_differs : (read word value : ℕ) → read ≡ word → (read ≡ value → ⊥) → (word == value) ≡ false
word_differs read word value is e = let f : word ≡ value → ⊥ = (λ h. e (is ∙ h)) in grind (arith, nat_tests)

-- an end is all that changes
pub end_made : (s : State) (number : ℕ) (end : End) → concluded s number (ended_served (control_of s) end) ≡ record s { ended = Some end }
unfolding after_serving
end_made s number end = rw (append-nil, same_fates) refl
