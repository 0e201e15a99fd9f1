-- The calls and exits that change who is parked, live or woken: what the code leaves is what serving makes.
use Rattle.std.proofs.Common.{◌≡◌, ℕ, ◌+◌, ◌-◌, ◌%◌, ◌++◌, Bool, true, false, nat_eq, List, [], ◌∷◌, length, map, Option, Some, None, refl, ap, sym, ◌∙◌, subst, append_assoc, eq-eqb}
use Rattle.sim_base.specs.declared.ends.End.{End}
use Rattle.sim_base.specs.Numbering.{local_node, host_of}
use Rattle.sim_base.specs.Saturated.{saturated}
use Rattle.elf_image.specs.Layout.{Setup}
use Rattle.wire_msg.specs.declared.calls.Call.TheVariants.{Spawn, Join as JoinCall, FutexWake}
use Rattle.wire_msg.specs.declared.messages.Msg.{Msg}
use Rattle.wire_msg.specs.declared.messages.Msg.TheVariants.{Start}
use Rattle.serving.specs.declared.control_data.Fate.{Fate}
use Rattle.serving.specs.declared.control_data.Fate.TheVariants.{Live}
use Rattle.serving.specs.declared.control_data.Join.{Join}
use Rattle.serving.specs.declared.control_data.Join.TheVariants.{Parked}
use Rattle.serving.specs.declared.control_data.Request.TheVariants.{Call, Exit}
use Rattle.serving.specs.declared.control_data.Waiter.{Waiter}
use Rattle.serving.specs.ControlData.{ControlData, next_number}
use Rattle.serving.specs.Join.{join_of, fates_joined, fates_exited, joiner_of}
use Rattle.serving.specs.Wake.{woken, still_parked}
use Rattle.serving.specs.Serving.{Woken, woken_with, answer, join_own, is_full, joined, joiner_woken, end_of_exit, request_served, answered, parked}
use Rattle.clock_policy.specs.Epoch.{Epoch, limit_of}
use Rattle.control_server.specs.declared.requests.Asker.{Asker}
use Rattle.control_server.specs.Control.{Control, is_active}
use Rattle.control_server.specs.Serve.{serves, return_to, own_mail, woken_mail, join_all, joined_by, freest_host, with_free, free_left}
use Rattle.control_server.specs.Inner.{asked, leaves, born_of, IsBorn, IsMade}
use Rattle.control_server.proofs.Active.{active_parts, active_from, active_after_wake, active_after_join, joined_not_active, active_with_new, exited_not_active}
use Rattle.control_server.proofs.Settled.{answered_made, alone_made, parked_made, born_made, exited_made}
use Rattle.control_server.proofs.Waking.{limit_of-join_all}

-- threads are woken at a word
pub wake_made : (w : Setup) (c : Control) (a : Asker) (addr count : ℕ) (threads : List ℕ) (waiters : List Waiter) (mid new : Control) (before middle later : List (ℕ × Msg))
    → is_active c.control a.thread ≡ true → threads ≡ woken addr count c.control.waiters → waiters ≡ still_parked addr count c.control.waiters
    → mid ≡ record c { control = record c.control { waiters = waiters } } → new ≡ record mid { epochs = join_all (map (woken_with 0) threads) mid.epochs }
    → middle ≡ before ++ woken_mail mid a.time (map (woken_with 0) threads) → later ≡ middle ++ own_mail new a.from (answer (length threads))
    → IsMade (serves w c (asked a (Call (FutexWake addr count))) 0) new before later
wake_made w c a addr count threads waiters mid new before middle later active e still at n m l =
    let after : ControlData = record c.control { waiters = still_parked addr count c.control.waiters } in
    let all : List ℕ = woken addr count c.control.waiters in
    let first : Control = record c { control = after } in
    let with : List Waiter → Control = λ ws. record c { control = record c.control { waiters = ws } } in
    let there : mid ≡ first = at ∙ ap with still in
    let then : Control = record first { epochs = join_all (map (woken_with 0) all) first.epochs } in
    let joined : Control → List ℕ → Control = λ s ts. record s { epochs = join_all (map (woken_with 0) ts) s.epochs } in
    let now : new ≡ then = n ∙ ap (λ s. joined s threads) there ∙ ap (joined first) e in
    let mail : List (ℕ × Msg) = woken_mail c a.time (map (woken_with 0) all) in
    let own : List (ℕ × Msg) = own_mail c a.from (answer (length all)) in
    let sent : middle ≡ before ++ mail = m ∙ ap (λ s. before ++ woken_mail s a.time (map (woken_with 0) threads)) there ∙ ap (λ ts. before ++ woken_mail c a.time (map (woken_with 0) ts)) e in
    let limit : own_mail then a.from (answer (length all)) ≡ own = ap (λ limit. return_to a.from (length all) 0 limit ∷ []) (limit_of-join_all (map (woken_with 0) all) c.epochs) in
    let told : own_mail new a.from (answer (length threads)) ≡ own = ap (λ s. own_mail s a.from (answer (length threads))) now ∙ ap (λ ts. own_mail then a.from (answer (length ts))) e ∙ limit in
    answered_made w c a (FutexWake addr count) 0 (length all) after (map (woken_with 0) all) new before later refl
    (active_from after a.thread (active_after_wake c.control addr count a.thread (active_parts c.control a.thread active)))
    now (l ∙ ap (λ xs. xs ++ own_mail new a.from (answer (length threads))) sent ∙ ap (λ xs. before ++ mail ++ xs) told ∙ append_assoc before mail own)

-- a join that is answered
answers_join : (w : Setup) (c : ControlData) (caller target value : ℕ) → join_own (join_of c.fates caller target) ≡ answer value
    → request_served w c caller (Call (JoinCall target)) 0 ≡ answered (record c { fates = fates_joined c.fates caller target (join_of c.fates caller target) }) value
answers_join w c caller target value e = rw e refl

pub join_answered_made : (w : Setup) (c : Control) (a : Asker) (target value : ℕ) (join : Join) (fates : List Fate) (new : Control) (before later : List (ℕ × Msg))
    → is_active c.control a.thread ≡ true → join ≡ join_of c.control.fates a.thread target → join_own join ≡ answer value → (join ≡ Parked → ⊥)
    → fates ≡ fates_joined c.control.fates a.thread target (join_of c.control.fates a.thread target) → new ≡ record c { control = record c.control { fates = fates } }
    → later ≡ before ++ own_mail c a.from (answer value)
    → IsMade (serves w c (asked a (Call (JoinCall target))) 0) new before later
join_answered_made w c a target value join fates new before later active e own apart f n l =
    let made : Join = join_of c.control.fates a.thread target in
    let after : ControlData = record c.control { fates = fates_joined c.control.fates a.thread target made } in
    let with : List Fate → Control = λ fs. record c { control = record c.control { fates = fs } } in
    alone_made w c a (JoinCall target) 0 value after new before later
    (answers_join w c.control a.thread target value (ap join_own (sym e) ∙ own))
    (active_from after a.thread (active_after_join c.control a.thread target a.thread (λ p same. apart (e ∙ p)) (active_parts c.control a.thread active)))
    (n ∙ ap with f) l

-- a join that parks the caller
parks_join : (w : Setup) (c : ControlData) (caller target : ℕ) → join_of c.fates caller target ≡ Parked
    → request_served w c caller (Call (JoinCall target)) 0 ≡ parked (record c { fates = fates_joined c.fates caller target Parked })
parks_join w c caller target e = ap (joined c caller target) e

pub join_parked_made : (w : Setup) (c : Control) (a : Asker) (target : ℕ) (join : Join) (fates : List Fate) (mid new : Control) (before later : List (ℕ × Msg))
    → join ≡ join_of c.control.fates a.thread target → join ≡ Parked
    → fates ≡ fates_joined c.control.fates a.thread target (join_of c.control.fates a.thread target) → mid ≡ record c { control = record c.control { fates = fates } }
    → IsMade (leaves mid a.thread) new before later
    → IsMade (serves w c (asked a (Call (JoinCall target))) 0) new before later
join_parked_made w c a target join fates mid new before later e p f n h =
    let parks : join_of c.control.fates a.thread target ≡ Parked = sym e ∙ p in
    let after : ControlData = record c.control { fates = fates_joined c.control.fates a.thread target Parked } in
    let with : List Fate → Control = λ fs. record c { control = record c.control { fates = fs } } in
    let at : mid ≡ with (fates_joined c.control.fates a.thread target Parked) = n ∙ ap with (f ∙ ap (fates_joined c.control.fates a.thread target) parks) in
    parked_made w c a (JoinCall target) 0 after new before later (parks_join w c.control a.thread target parks) (joined_not_active c.control a.thread target parks)
    (subst (λ s. IsMade (leaves s a.thread) new before later) at h)

-- a thread is born, as the code puts it together
pub birth_made : (w : Setup) (c first : Control) (a : Asker) (entry arg thread to host limit : ℕ) (fates : List Fate) (callers : List ℕ) (epochs : Epoch) (new : Control) (before middle later : List (ℕ × Msg))
    → first ≡ record c { free = with_free c.free (freest_host c.free) (λ n. n - 1) } → thread ≡ next_number first.control.fates → fates ≡ first.control.fates ++ Live None ∷ []
    → callers ≡ first.callers ++ 0 ∷ [] → epochs ≡ joined_by thread first.epochs → host ≡ freest_host c.free → to ≡ local_node w.config host → limit ≡ limit_of epochs
    → middle ≡ before ++ (to, Start thread entry arg a.time limit) ∷ [] → new ≡ record first { control = record first.control { fates = fates }; callers = callers; epochs = epochs }
    → later ≡ middle ++ own_mail new a.from (answer thread)
    → IsBorn w c a entry arg new before later
birth_made w c first a entry arg thread to host limit fates callers epochs new before middle later f th fa ca ep h t lim m n l =
    rw (l, n, m, lim, t, h, ep, ca, fa, th, f) (record { control = refl; mail = append_assoc before _ _ })

spawns : (w : Setup) (c : ControlData) (caller entry arg : ℕ) (aligned full : Bool) → nat_eq (entry % 4) 0 ≡ true → is_full w c.fates ≡ false
    → request_served w c caller (Call (Spawn entry arg)) 0
    ≡ record { control = record c { fates = c.fates ++ Live None ∷ [] }; woken = []; born = Some (record { thread = next_number c.fates; entry = entry; arg = arg }); own = answer (next_number c.fates) }
spawns w c caller entry arg aligned full e f = rw (e, f) refl

pub spawn_made : (w : Setup) (c : Control) (a : Asker) (entry arg : ℕ) (new : Control) (before later : List (ℕ × Msg))
    → is_active c.control a.thread ≡ true → entry % 4 ≡ 0 → is_full w c.control.fates ≡ false → IsBorn w c a entry arg new before later
    → IsMade (serves w c (asked a (Call (Spawn entry arg))) 0) new before later
spawn_made w c a entry arg new before later active aligned room h =
    let after : ControlData = record c.control { fates = c.control.fates ++ Live None ∷ [] } in
    born_made w c a (Spawn entry arg) 0 (next_number c.control.fates) after (born_of c entry arg) new before later
    (spawns w c.control a.thread entry arg true false (eq-eqb (entry % 4) 0 aligned) room)
    (active_from after a.thread (active_with_new c.control a.thread (active_parts c.control a.thread active))) h.control h.mail

-- a thread exits
pub exit_made : (w : Setup) (c : Control) (a : Asker) (code host : ℕ) (freed gone mid third new : Control) (fates : List Fate) (joiner : Option ℕ) (end : Option End) (before middle later : List (ℕ × Msg))
    → is_active c.control a.thread ≡ true → host ≡ host_of w.config a.from → freed ≡ record c { free = with_free c.free host (λ n. saturated (n + 1)) }
    → fates ≡ fates_exited freed.control.fates a.thread code → joiner ≡ joiner_of freed.control.fates a.thread
    → gone ≡ record freed { control = record freed.control { fates = fates } } → mid ≡ record gone { epochs = join_all (joiner_woken joiner code) gone.epochs }
    → middle ≡ before ++ woken_mail gone a.time (joiner_woken joiner code)
    → end ≡ end_of_exit mid.control.fates code → third ≡ record mid { control = record mid.control { ended = end } } → IsMade (leaves third a.thread) new middle later
    → IsMade (serves w c (asked a (Exit code)) 0) new before later
exit_made w c a code host freed gone mid third new fates joiner end before middle later active ho fr fa jo go mi sent en th h =
    let after : ControlData = record c.control { fates = fates_exited c.control.fates a.thread code; ended = end_of_exit (fates_exited c.control.fates a.thread code) code } in
    let woken : List Woken = joiner_woken (joiner_of c.control.fates a.thread) code in
    let then : Control = record c { control = after; free = free_left w a.from (Exit code) c.free; epochs = join_all woken c.epochs } in
    let at : third ≡ then = rw (th, en, mi, go, jo, fa, fr, ho) refl in
    let told : middle ≡ before ++ woken_mail c a.time woken = rw (sent, go, jo, fr) refl in
    exited_made w c a code after woken third new before middle later refl (exited_not_active c.control a.thread code (active_parts c.control a.thread active).live) at told h
