-- No action changes which addresses are mapped.
use Rattle.std.proofs.Common.{◌≡◌, ℕ, ◌+◌, Bool, true, false, cond, List, [], ◌∷◌, refl, sym, ap, ◌∙◌, inl, inr}
use Rattle.std.specs.Prelude.{Option, Some, None, is_some}
use Rattle.std.specs.Ordering.{nat_cmp}
use Rattle.std.specs.FinMap.{FinMap, insert, contains_key, get-insert}
use Rattle.std.specs.Cmp.{nat_cmp_total}
use Rattle.byteorder.specs.Endian.{little_bytes}
use Rattle.sim_base.specs.declared.actions.Action.TheVariants.{Exec, FailSc, Load, Serve, Return, Begin}
use Rattle.sim_base.specs.LittleEndian.{with_bytes}
use Rattle.elf_image.specs.Layout.{Setup}
use Rattle.rv_exec.specs.Access.{Asked as AccessAsked}
use Rattle.rv_hart.specs.declared.steps.Step.{Step}
use Rattle.rv_hart.specs.declared.steps.Step.TheVariants.{Access, ScFails}
use Rattle.serving.specs.declared.control_data.Request.{Request}
use Rattle.flat_machine.specs.declared.threads.Thread.{Thread}
use Rattle.flat_machine.specs.declared.threads.Status.{Status}
use Rattle.flat_machine.specs.declared.threads.Status.TheVariants.{Ready}
use Rattle.flat_machine.specs.Memory.{with_byte}
use Rattle.flat_machine.specs.State.{State}
use Rattle.flat_machine.specs.Serving.{after_serving, after_request}
use Rattle.flat_machine.specs.Action.{Change, step_of, executed_by, executed_by_step, written_memory, failed, loaded, returned, begun}
use Rattle.flat_machine.specs.Run.{MappedStays}
use Rattle.flat_machine.proofs.MemoryLemmas.{same_test, tied, untied}
use Rattle.flat_machine.proofs.ActLemmas.{moved_by, executed_by_act, served_by_act}

-- a byte is written where one was
pub byte_stays : (memory : FinMap nat_cmp ℕ) (a byte q : ℕ) → contains_key (with_byte memory a byte) q ≡ contains_key memory q
byte_stays memory a byte q = by_key (contains_key memory a) refl where
  inserted : contains_key memory a ≡ true → contains_key (insert memory a byte) q ≡ contains_key memory q
  inserted there = elim (same_test q a) [
    | inl e ↦ ap is_some (get-insert nat_cmp_total memory a byte q) ∙ rw (tied q a e) (sym (ap (contains_key memory) e ∙ there))
    | inr e ↦ ap is_some (get-insert nat_cmp_total memory a byte q) ∙ rw (untied q a e) refl
  ]

  by_key : (b : Bool) → contains_key memory a ≡ b → contains_key (cond b (insert memory a byte) memory) q ≡ contains_key memory q
  by_key true there = inserted there
  by_key false away = refl

pub bytes_stay : (memory : FinMap nat_cmp ℕ) (a : ℕ) (bytes : List ℕ) (q : ℕ) → contains_key (with_bytes with_byte memory a bytes) q ≡ contains_key memory q
bytes_stay memory a [] q = refl
bytes_stay memory a (byte ∷ bytes) q = bytes_stay (with_byte memory a byte) (a + 1) bytes q ∙ byte_stays memory a byte q

written_stays : (memory : FinMap nat_cmp ℕ) (access : AccessAsked) (write : Option ℕ) (q : ℕ) → contains_key (written_memory memory access write) q ≡ contains_key memory q
written_stays memory access None q = refl
written_stays memory access (Some value) q = bytes_stay memory access.addr (little_bytes access.size value) q

-- an instruction
stays_at : (memory : FinMap nat_cmp ℕ) (q : ℕ) (x change : Change) → Some x ≡ Some change → contains_key x.memory q ≡ contains_key memory q → contains_key change.memory q ≡ contains_key memory q
stays_at memory q x change e h = let same : x ≡ change = cc in rw (← same) h

step_stays : (memory : FinMap nat_cmp ℕ) (t : Thread) (step : Step) (change : Change) (q : ℕ) → executed_by_step memory t step ≡ Some change → contains_key change.memory q ≡ contains_key memory q
step_stays memory t (Access access) change q e = stays_at memory q _ change e (written_stays memory access _ q)
step_stays memory t (ScFails rd) change q e = cc
step_stays memory t _ change q e = stays_at memory q _ change e refl

executed_stays : (w : Setup) (memory : FinMap nat_cmp ℕ) (number : ℕ) (t : Thread) (status : Status) (change : Change) (q : ℕ)
    → executed_by w memory number t status ≡ Some change → contains_key change.memory q ≡ contains_key memory q
executed_stays w memory number t Ready change q e = step_stays memory t (step_of w number t) change q e
executed_stays w memory number t _ change q e = cc

serving_stays : (w : Setup) (s : State) (number : ℕ) (request : Request) → (after_request w s number request).memory ≡ s.memory
unfolding after_serving
serving_stays w s number request = refl

pub mapped_stays : MappedStays
mapped_stays w s (Exec number) next q e = let made = executed_by_act w s number next e in
    rw (← made.gives) (executed_stays w s.memory number made.old made.old.status made.change q made.executes)
mapped_stays w s (FailSc number) next q e = let made = moved_by s number (failed w number) next e in rw (← made.gives) refl
mapped_stays w s (Load number) next q e = let made = moved_by s number (loaded s.memory) next e in rw (← made.gives) refl
mapped_stays w s (Serve number) next q e = let made = served_by_act w s number next e in
    rw (← made.gives) (ap (λ memory. contains_key memory q) (serving_stays w s number made.request))
mapped_stays w s (Return number) next q e = let made = moved_by s number returned next e in rw (← made.gives) refl
mapped_stays w s (Begin number tile) next q e = let made = moved_by s number (begun w s tile) next e in rw (← made.gives) refl
