-- A move of one thread is a move of the machine.
use Rattle.std.proofs.Common.{◌≡◌, ℕ, ◌+◌, ◌%◌, ◌^◌, ◌<◌, ◌≤◌, Bool, true, false, List, [], ◌∷◌, ◌++◌, length, set, refl, sym, ap, ◌∙◌, arith}
use Rattle.std.specs.Prelude.{Option, Some, None, Result, Ok, Err, nat_lt, slice_get, slice_set, option_and_then}
use Rattle.std.proofs.lemmas.Option.{get_or_from_slice_get}
use Rattle.std.proofs.lemmas.List.{set-get_or}
use Rattle.flat_machine.specs.declared.machine.ActFault.{ActFault}
use Rattle.flat_machine.specs.declared.machine.ActFault.TheVariants.{NotLegal, NoMemory}
use Rattle.flat_machine.specs.declared.threads.Thread.{Thread}
use Rattle.std.proofs.lemmas.Bool.Decides.{nat_tests}
use Rattle.flat_machine.specs.declared.threads.Status.{Status}
use Rattle.flat_machine.specs.declared.threads.Status.TheVariants.{Writing}
use Rattle.flat_machine.specs.Memory.{byte_at}
use Rattle.flat_machine.specs.State.{State, with_thread}
use Rattle.elf_image.specs.Layout.{Setup}
use Rattle.flat_machine.specs.Action.{executed, loaded_by, with_instruction, with_move, is_vacant, begun, begun_by}
use Rattle.std.specs.Ordering.{nat_cmp}
use Rattle.std.specs.FinMap.{FinMap}
use Rattle.std.specs.Option.{option_map}
use Rattle.rv_hart.specs.declared.reservations.Span.{Span}
use Rattle.flat_machine.specs.Reservation.{others_end}
use Rattle.flat_machine.specs.Gives.{Acts}
use Rattle.flat_machine.specs.Inner.{Executes}

-- to write what is there changes nothing
same_state : (s : State) (number : ℕ) (thread : Thread) → slice_get s.threads number ≡ Some thread → with_thread s number thread ≡ s
same_state s number thread e =
    ap (λ (threads : List Thread). let old : State = s in record old { threads = threads })
    (ap (set s.threads number) (sym (get_or_from_slice_get s.threads number thread thread e)) ∙ set-get_or s.threads number thread)

pub moved : (s : State) (number : ℕ) (move : Thread → Option Thread) (old new : Thread) (r : Result (Unit {0}) ActFault)
    → slice_get s.threads number ≡ Some old → Acts r old new (move old) → Acts r s (with_thread s number new) (with_move s number move)
moved s number move old new (Ok done) here h = rw here (rw h refl)
moved s number move old new (Err NotLegal) here h = (rw here (rw h.0 refl), ap (with_thread s number) h.1 ∙ same_state s number old here)
moved s number move old new (Err NoMemory) here h = ap (with_thread s number) h ∙ same_state s number old here

-- where there is no such thread, no move is legal
pub not_there : (s : State) (number : ℕ) (move : Thread → Option Thread) → slice_get s.threads number ≡ None → with_move s number move ≡ None
not_there s number move e = rw e refl

-- an instruction of one thread that isn't made changes nothing
pub not_executed : (w : Setup) (s : State) (number : ℕ) (old thread : Thread) (memory : FinMap nat_cmp ℕ) (fault : ActFault)
    → slice_get s.threads number ≡ Some old → Executes (Err fault) s.memory memory old thread (executed w s.memory number old)
    → Acts {T = Unit {0}} (Err fault) s (record s { memory = memory; threads = slice_set s.threads number thread }) (with_instruction w s number)
not_executed w s number old thread memory NotLegal here h = (rw here (rw h.0 refl), rw (h.1, h.2) (same_state s number old here))
not_executed w s number old thread memory NoMemory here h = rw (h.0, h.1) (same_state s number old here)

-- no thread begins on a tile that isn't vacant, and on a vacant one a new thread does
no_room : (w : Setup) (s : State) (number tile : ℕ) (vacant : Bool) → vacant ≡ false → with_move s number (λ t. begun_by w tile t vacant t.status) ≡ None
no_room w s number tile true e = cc
no_room w s number tile false e = by_thread (slice_get s.threads number) where
  by_thread : (o : Option Thread) → option_map (with_thread s number) (option_and_then (λ t. begun_by w tile t false t.status) o) ≡ None
  by_thread None = refl
  by_thread (Some t) = refl

has_room : (w : Setup) (s : State) (number tile : ℕ) (vacant : Bool) → vacant ≡ true
    → with_move s number (λ t. begun_by w tile t true t.status) ≡ with_move s number (λ t. begun_by w tile t vacant t.status)
has_room w s number tile true e = refl
has_room w s number tile false e = cc

pub not_begun : (w : Setup) (s : State) (number tile : ℕ) → is_vacant w s tile ≡ false → with_move s number (begun w s tile) ≡ None
not_begun w s number tile e = no_room w s number tile (is_vacant w s tile) e

pub begins : (w : Setup) (s : State) (number tile : ℕ) → is_vacant w s tile ≡ true
    → with_move s number (λ t. begun_by w tile t true t.status) ≡ with_move s number (begun w s tile)
begins w s number tile e = has_room w s number tile (is_vacant w s tile) e

-- an instruction of one thread that is made changes the machine, and the others' reservations
pub was_executed : (w : Setup) (s : State) (number : ℕ) (old thread : Thread) (memory : FinMap nat_cmp ℕ) (written : Option Span)
    → slice_get s.threads number ≡ Some old → Executes (Ok written) s.memory memory old thread (executed w s.memory number old)
    → with_instruction w s number ≡ Some (record s { memory = memory; threads = others_end written (slice_set s.threads number thread) number })
was_executed w s number old thread memory written here h = rw here (rw h refl)

-- a thread reads the next byte of its write
pub not_writing : (memory : FinMap nat_cmp ℕ) (t : Thread) (s : Status) → ((addr len : ℕ) (bytes : List ℕ) → s ≡ Writing addr len bytes → ⊥) → loaded_by memory t s ≡ None
not_writing memory t (Writing addr len bytes) other = absurd (other addr len bytes refl)
not_writing memory t _ other = refl

pub all_read : (memory : FinMap nat_cmp ℕ) (t : Thread) (s : Status) (addr len read : ℕ) (bytes : List ℕ) → s ≡ Writing addr len bytes → read ≡ length bytes → len ≤ read
    → loaded_by memory t s ≡ None
all_read memory t s addr len read bytes writes counted none_left =
    let full : nat_lt (length bytes) len ≡ false = grind (arith, nat_tests) in rw (writes, full) refl

pub next_read : (memory : FinMap nat_cmp ℕ) (t : Thread) (s : Status) (addr len read byte : ℕ) (bytes new : List ℕ) → s ≡ Writing addr len bytes → read ≡ length bytes → read < len
    → byte ≡ byte_at memory ((addr + read) % 2 ^ 64) → new ≡ bytes ++ byte ∷ [] → loaded_by memory t s ≡ Some (record t { status = Writing addr len new })
next_read memory t s addr len read byte bytes new writes counted left fed put =
    let some_left : nat_lt (length bytes) len ≡ true = grind (arith, nat_tests) in rw (writes, some_left, put, fed, counted) refl
