-- What stands behind an action that is made.
use Rattle.std.proofs.Common.{◌≡◌, ℕ, refl}
use Rattle.std.specs.Prelude.{Option, Some, None, slice_get, option_and_then}
use Rattle.std.specs.Option.{option_map}
use Rattle.sim_base.specs.declared.ends.End.{End}
use Rattle.elf_image.specs.Layout.{Setup}
use Rattle.serving.specs.declared.control_data.Request.{Request}
use Rattle.flat_machine.specs.declared.threads.Thread.{Thread}
use Rattle.flat_machine.specs.State.{State, with_thread}
use Rattle.flat_machine.specs.Serving.{request_of, request_at, after_request, served, served_before}
use Rattle.flat_machine.specs.Action.{Change, executed, with_change, with_move, with_instruction}

-- where an option gives something, so did what it was made of
mapped_from : {A B : Type 0} (f : A → B) (o : Option A) (y : B) → option_map f o ≡ Some y → (x : A) × (o ≡ Some x) × (f x ≡ y)
mapped_from f None y e = cc
mapped_from f (Some x) y e = (x, refl, cc)

chained_from : {A B : Type 0} (f : A → Option B) (o : Option A) (y : B) → option_and_then f o ≡ Some y → (x : A) × (o ≡ Some x) × (f x ≡ Some y)
chained_from f None y e = cc
chained_from f (Some x) y e = (x, refl, e)

-- a move: its thread was there, and its move was legal
pub record Moved (s : State) (number : ℕ) (move : Thread → Option Thread) (next : State) : Type 0 where
  pub old : Thread
  pub new : Thread
  pub here : slice_get s.threads number ≡ Some old
  pub moves : move old ≡ Some new
  pub gives : with_thread s number new ≡ next

pub moved_by : (s : State) (number : ℕ) (move : Thread → Option Thread) (next : State) → with_move s number move ≡ Some next → Moved s number move next
moved_by s number move next e =
    let outer = mapped_from (with_thread s number) (option_and_then move (slice_get s.threads number)) next e in
    let inner = chained_from move (slice_get s.threads number) outer.0 outer.1 in
    record { old = inner.0; new = outer.0; here = inner.1; moves = inner.2; gives = outer.2 }

-- an instruction
pub record Executed (w : Setup) (s : State) (number : ℕ) (next : State) : Type 0 where
  pub old : Thread
  pub change : Change
  pub here : slice_get s.threads number ≡ Some old
  pub executes : executed w s.memory number old ≡ Some change
  pub gives : with_change s number change ≡ next

pub executed_by_act : (w : Setup) (s : State) (number : ℕ) (next : State) → with_instruction w s number ≡ Some next → Executed w s number next
executed_by_act w s number next e =
    let outer = mapped_from (with_change s number) (option_and_then (executed w s.memory number) (slice_get s.threads number)) next e in
    let inner = chained_from (executed w s.memory number) (slice_get s.threads number) outer.0 outer.1 in
    record { old = inner.0; change = outer.0; here = inner.1; executes = inner.2; gives = outer.2 }

-- a request that is served
pub record Served (w : Setup) (s : State) (number : ℕ) (next : State) : Type 0 where
  pub old : Thread
  pub request : Request
  pub goes_on : s.ended ≡ None
  pub here : slice_get s.threads number ≡ Some old
  pub asks : request_of old.status ≡ Some request
  pub gives : after_request w s number request ≡ next

pub served_by_act : (w : Setup) (s : State) (number : ℕ) (next : State) → served w s number ≡ Some next → Served w s number next
served_by_act w s number next e = by_end s.ended refl e where
  by_end : (ended : Option End) → s.ended ≡ ended → served_before ended w s number ≡ Some next → Served w s number next
  by_end (Some end) is e = cc
  by_end None is e =
      let outer = mapped_from (after_request w s number) (request_at s number) next e in
      let inner = chained_from (λ (t : Thread). request_of t.status) (slice_get s.threads number) outer.0 outer.1 in
      record { old = inner.0; request = outer.0; goes_on = is; here = inner.1; asks = inner.2; gives = outer.2 }
