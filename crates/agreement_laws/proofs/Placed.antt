-- A call that a step asks for: the word of a futex wait has an address that is a multiple of 4.
use Rattle.std.proofs.Common.{◌≡◌, ℕ, Bool, true, false, cond, not, ◌&&◌, List, Option, Some, None, refl, sym, ap, ◌∙◌, subst}
use Rattle.std.specs.Prelude.{◌%◌, ◌==◌, ◌||◌}
use Rattle.sim_base.specs.declared.ends.Cause.{Cause}
use Rattle.sim_base.specs.declared.kinds.CostClass.{CostClass}
use Rattle.rv_decode.specs.declared.instr.Instr.{Instr}
use Rattle.rv_decode.specs.Table.{row}
use Rattle.rv_exec.specs.declared.meaning.Meaning.{Meaning}
use Rattle.rv_exec.specs.declared.meaning.Meaning.TheVariants.{Next as NextMeaning, Access as AccessMeaning, Call as CallMeaning, Trap as TrapMeaning}
use Rattle.rv_exec.specs.Class.{class_of}
use Rattle.rv_exec.specs.Effect.{effect_of}
use Rattle.elf_image.specs.Layout.{Setup, fetch, may}
use Rattle.elf_image.specs.declared.address_map.Right.TheVariants.{Read}
use Rattle.wire_msg.specs.declared.calls.Call.{Call as CallData}
use Rattle.wire_msg.specs.declared.calls.Call.TheVariants.{FutexWait}
use Rattle.rv_hart.specs.declared.reservations.Span.{Span}
use Rattle.rv_hart.specs.declared.steps.Step.{Step}
use Rattle.rv_hart.specs.declared.steps.Step.TheVariants.{Next, Access, ScFails, Answer, Ask, Write, Exit, Trap}
use Rattle.rv_hart.specs.Reservation.{is_conditional, matches, lacks_reservation}
use Rattle.rv_hart.specs.Call.{a0, a1, a2, a3, a7, futex_op, write_length, write_call, futex_call, call_by_number}
use Rattle.rv_hart.specs.Step.{is_granted, access_fault, meaning_step, row_step, word_step, next_step}
use Rattle.tile_core.specs.declared.plans.Plan.{Plan}
use Rattle.tile_core.specs.declared.plans.Plan.TheVariants.{Send}
use Rattle.tile_core.specs.Plan.{plan_by}
use Rattle.control_server.specs.Control.{is_placed}

record AsksPlaced (step : Step) : Type 0 where
  placed : (call : CallData) → step ≡ Ask call → is_placed call ≡ true

asks_none : (step : Step) → ((call : CallData) → step ≡ Ask call → ⊥) → AsksPlaced step
asks_none step never = record { placed = λ call e. absurd (never call e) }

asks_so : (call : CallData) → is_placed call ≡ true → AsksPlaced (Ask call)
asks_so call is = record { placed = λ other e. let same : call ≡ other = cc in ap is_placed (sym same) ∙ is }

if_asks : (b : Bool) (x y : Step) → AsksPlaced x → AsksPlaced y → AsksPlaced (cond b x y)
if_asks true x y a c = a
if_asks false x y a c = c

answers : (value : ℕ) → AsksPlaced (Answer value)
answers value = asks_none (Answer value) (λ call e. cc)

write_asks : (w : Setup) (regs : List ℕ) → AsksPlaced (write_call w regs)
write_asks w regs =
    if_asks (not (a0 regs == 1 || a0 regs == 2)) _ _ (answers _)
    (if_asks (a2 regs == 0) _ _ (answers _)
    (if_asks (not (may w (a1 regs) (write_length regs) Read)) _ _ (answers _) (asks_none _ (λ call e. cc))))

-- a wait is asked for only where the address was tested
tested : (b : Bool) (x y : Step) → AsksPlaced x → (b ≡ true → AsksPlaced y) → AsksPlaced (cond (not b) x y)
tested true x y a c = c refl
tested false x y a c = a

futex_asks : (w : Setup) (regs : List ℕ) → AsksPlaced (futex_call w regs)
futex_asks w regs =
    if_asks (not (futex_op regs == 0 || futex_op regs == 1)) _ _ (answers _)
    (if_asks (futex_op regs == 0 && not (a3 regs == 0)) _ _ (answers _)
    (tested (a0 regs % 4 == 0) _ _ (answers _) (λ is.
    if_asks (not (may w (a0 regs) 4 Read)) _ _ (answers _)
    (if_asks (futex_op regs == 0) _ _ (asks_so _ is) (asks_so _ refl)))))

number_asks : (w : Setup) (regs : List ℕ) (thread number : ℕ) → AsksPlaced (call_by_number w regs thread number)
number_asks w regs thread number =
    if_asks (number == 64) _ _ (write_asks w regs)
    (if_asks (number == 93) _ _ (asks_none _ (λ call e. cc))
    (if_asks (number == 94) _ _ (asks_so _ refl)
    (if_asks (number == 98) _ _ (futex_asks w regs)
    (if_asks (number == 124) _ _ (answers _)
    (if_asks (number == 178) _ _ (answers _)
    (if_asks (number == 214) _ _ (asks_so _ refl)
    (if_asks (number == 2048) _ _ (asks_so _ refl)
    (if_asks (number == 2049) _ _ (asks_so _ refl) (answers _)))))))))

meaning_asks : (w : Setup) (regs : List ℕ) (r : Option Span) (u : ℕ) (class : CostClass) (m : Meaning) → AsksPlaced (meaning_step w regs r u class m)
meaning_asks w regs r u class (NextMeaning rd value pc) = asks_none _ (λ call e. cc)
meaning_asks w regs r u class (AccessMeaning a) =
    if_asks (not (is_granted w a)) _ _ (asks_none (Trap (access_fault a.op)) (λ call e. cc))
    (if_asks (lacks_reservation r a) _ _ (asks_none (ScFails a.rd) (λ call e. cc)) (asks_none (Access a) (λ call e. cc)))
meaning_asks w regs r u class CallMeaning = number_asks w regs u (a7 regs)
meaning_asks w regs r u class (TrapMeaning cause) = asks_none _ (λ call e. cc)

row_asks : (w : Setup) (regs : List ℕ) (pc : ℕ) (r : Option Span) (u : ℕ) (i : Option Instr) → AsksPlaced (row_step w regs pc r u i)
row_asks w regs pc r u None = asks_none _ (λ call e. cc)
row_asks w regs pc r u (Some i) = meaning_asks w regs r u (class_of i) (effect_of i regs pc)

word_asks : (w : Setup) (regs : List ℕ) (pc : ℕ) (r : Option Span) (u : ℕ) (word : Option ℕ) → AsksPlaced (word_step w regs pc r u word)
word_asks w regs pc r u None = asks_none _ (λ call e. cc)
word_asks w regs pc r u (Some word) = row_asks w regs pc r u (row word)

plan_sends : (w : Setup) (pc : ℕ) (step : Step) (call : CallData) → plan_by w pc step ≡ Send call → step ≡ Ask call
plan_sends w pc (Ask c) call e = let same : c ≡ call = cc in ap Ask same
plan_sends w pc (Next class rd value next) call e = cc
plan_sends w pc (Access access) call e = cc
plan_sends w pc (ScFails rd) call e = cc
plan_sends w pc (Answer value) call e = cc
plan_sends w pc (Write addr len) call e = cc
plan_sends w pc (Exit code) call e = cc
plan_sends w pc (Trap cause) call e = cc

-- so it is with each call that a plan sends
pub sent_placed : (w : Setup) (regs : List ℕ) (pc : ℕ) (r : Option Span) (u : ℕ) (call : CallData) → plan_by w pc (next_step w regs pc r u) ≡ Send call → is_placed call ≡ true
sent_placed w regs pc r u call e = (word_asks w regs pc r u (fetch w pc)).placed call (plan_sends w pc (next_step w regs pc r u) call e)
