-- What serving keeps of the control data: how many threads have begun, and who else is active.
use Rattle.std.proofs.Common.{◌≡◌, ℕ, ◌+◌, ◌-◌, ◌%◌, ◌^◌, ◌<◌, ◌++◌, Bool, true, false, not, cond, nat_eq, nat_le, List, [], ◌∷◌, length, None, refl, ap, sym, ◌∙◌, arith}
use Rattle.std.specs.Prelude.{◌||◌}
use Rattle.std.proofs.lemmas.Bool.{leb-false}
use Rattle.std.proofs.lemmas.List.{length-set, length-append}
use Rattle.elf_image.specs.Layout.{Setup}
use Rattle.wire_msg.specs.declared.calls.Call.TheVariants.{Spawn, Join as JoinCall, Write, FutexWait, FutexWake, Brk, ExitGroup}
use Rattle.serving.specs.declared.control_data.Fate.{Fate}
use Rattle.serving.specs.declared.control_data.Fate.TheVariants.{Live}
use Rattle.serving.specs.declared.control_data.Join.{Join}
use Rattle.serving.specs.declared.control_data.Join.TheVariants.{Code, Parked, NoThread, Invalid}
use Rattle.serving.specs.declared.control_data.Request.{Request}
use Rattle.serving.specs.declared.control_data.Request.TheVariants.{Call, Exit, Trap}
use Rattle.serving.specs.ControlData.{ControlData}
use Rattle.serving.specs.Join.{join_of, fates_joined}
use Rattle.serving.specs.Serving.{Served, answered, parked, born, is_full, with_end, request_served, serve}
use Rattle.control_server.specs.Serve.{callers_born}
use Rattle.control_server.proofs.Active.{IsActive, active_with_new, active_after_wake, active_after_park, active_after_exit, active_after_join}

-- what a served request keeps, from control data on in which so many threads have begun
pub record Keeps (c : ControlData) (caller : ℕ) (made : Served) : Type 0 where
  pub numbers : length made.control.fates < 2 ^ 32
  pub begun : (callers : List ℕ) → length callers ≡ length c.fates → length (callers_born made.born callers) ≡ length made.control.fates
  pub others : (t : ℕ) → (t ≡ caller → ⊥) → IsActive c t → IsActive made.control t

-- nobody is born, and as many threads have begun
keeps_count : (c : ControlData) (caller : ℕ) (made : Served) → length c.fates < 2 ^ 32 → made.born ≡ None → length made.control.fates ≡ length c.fates
    → ((t : ℕ) → (t ≡ caller → ⊥) → IsActive c t → IsActive made.control t) → Keeps c caller made
keeps_count c caller made few b same others = record {
  numbers = omega arith;
  begun = λ callers e. ap (λ o. length (callers_born o callers)) b ∙ e ∙ sym same;
  others = others;
}

-- who is parked and live stays the same
still : (c d : ControlData) (t : ℕ) → d.fates ≡ c.fates → d.waiters ≡ c.waiters → IsActive c t → IsActive d t
still c d t f w h = record { live = rw f h.live; awake = rw w h.awake; alone = rw f h.alone }

keeps_same : (c : ControlData) (caller : ℕ) (made : Served) → length c.fates < 2 ^ 32 → made.born ≡ None → made.control.fates ≡ c.fates → made.control.waiters ≡ c.waiters → Keeps c caller made
keeps_same c caller made few b f w = keeps_count c caller made few b (ap length f) (λ t apart h. still c made.control t f w h)

keeps_spawn : (c : ControlData) (caller entry arg : ℕ) (odd full : Bool) (error other : ℕ) → length c.fates < 2 ^ 32 → (full ≡ false → length c.fates < 2 ^ 32 - 1)
    → Keeps c caller (cond odd (answered c error) (cond full (answered c other) (born c entry arg)))
keeps_spawn c caller entry arg true full error other few room = keeps_same c caller (answered c error) few refl refl refl
keeps_spawn c caller entry arg false true error other few room = keeps_same c caller (answered c other) few refl refl refl
keeps_spawn c caller entry arg false false error other few room = record {
  numbers = omega (arith, room refl, length-append c.fates (Live None ∷ []));
  begun = λ callers e. length-append callers (0 ∷ []) ∙ ap (λ n. n + 1) e ∙ sym (length-append c.fates (Live None ∷ []));
  others = λ t apart h. active_with_new c t h;
}

or_right_false : (a b : Bool) → (a || b) ≡ false → b ≡ false
or_right_false true b e = cc
or_right_false false b e = e

room_left : (w : Setup) (fates : List Fate) → is_full w fates ≡ false → length fates < 2 ^ 32 - 1
room_left w fates e = leb-false (2 ^ 32 - 1) (length fates) (or_right_false _ (nat_le (2 ^ 32 - 1) (length fates)) e)

length-joined : (fates : List Fate) (caller target : ℕ) (join : Join) → length (fates_joined fates caller target join) ≡ length fates
length-joined fates caller target (Code code) = length-set fates target _
length-joined fates caller target Parked = length-set fates target _
length-joined fates caller target NoThread = refl
length-joined fates caller target Invalid = refl

keeps_wait : (c : ControlData) (caller addr : ℕ) (same : Bool) (error : ℕ) → length c.fates < 2 ^ 32
    → Keeps c caller (cond same (parked (record c { waiters = c.waiters ++ (record { thread = caller; addr = addr }) ∷ [] })) (answered c error))
keeps_wait c caller addr true error few = keeps_count c caller _ few refl refl (λ t apart h. active_after_park c caller addr t apart h)
keeps_wait c caller addr false error few = keeps_same c caller (answered c error) few refl refl refl

keeps_request : (w : Setup) (c : ControlData) (caller : ℕ) (request : Request) (word : ℕ) → length c.fates < 2 ^ 32 → Keeps c caller (request_served w c caller request word)
keeps_request w c caller (Call (Spawn entry arg)) word few = keeps_spawn c caller entry arg (not (nat_eq (entry % 4) 0)) (is_full w c.fates) _ _ few (room_left w c.fates)
keeps_request w c caller (Call (JoinCall target)) word few =
    keeps_count c caller _ few refl (length-joined c.fates caller target (join_of c.fates caller target)) (λ t apart h. active_after_join c caller target t (λ p same. apart same) h)
keeps_request w c caller (Call (Write bytes)) word few = keeps_same c caller _ few refl refl refl
keeps_request w c caller (Call (FutexWait addr value)) word few = keeps_wait c caller addr (nat_eq word value) _ few
keeps_request w c caller (Call (FutexWake addr count)) word few = keeps_count c caller _ few refl refl (λ t apart h. active_after_wake c addr count t h)
keeps_request w c caller (Call (Brk addr)) word few = keeps_same c caller _ few refl refl refl
keeps_request w c caller (Call (ExitGroup code)) word few = keeps_same c caller _ few refl refl refl
keeps_request w c caller (Exit code) word few = keeps_count c caller _ few refl (length-set c.fates caller _) (λ t apart h.
    let gone = active_after_exit c caller code t apart h in record { live = gone.live; awake = gone.awake; alone = gone.alone })
keeps_request w c caller (Trap cause pc) word few = keeps_same c caller _ few refl refl refl

pub keeps : (w : Setup) (c : ControlData) (caller : ℕ) (request : Request) (word : ℕ) (none_waits : Bool) → length c.fates < 2 ^ 32 → Keeps c caller (serve w c caller request word none_waits)
keeps w c caller request word none_waits few =
    let made : Served = request_served w c caller request word in
    let h : Keeps c caller made = keeps_request w c caller request word few in
    record {
      numbers = h.numbers;
      begun = h.begun;
      others = λ t apart active. still made.control (with_end none_waits made).control t refl refl (h.others t apart active);
    }
