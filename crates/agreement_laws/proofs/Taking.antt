-- What the control server takes from tiles and hosts: calls, traps and exits join the backlog, or are dropped after the end;
-- reports are noted.
use Rattle.std.proofs.Common.{◌≡◌, ℕ, zero, suc, ◌<◌, true, false, ◌&&◌, List, [], ◌∷◌, ◌++◌, map, slice_set, Option, Some, None, refl, sym, ap, ◌∙◌, arith, inl, inr, subst}
use Rattle.std.proofs.lemmas.Bool.Decides.{nat_tests}
use Rattle.std.proofs.lemmas.Bool.{cases_Bool, cond-true, cond-false}
use Rattle.std.specs.Prelude.{◌==◌, if◌then◌else◌, filter, slice_index, length}
use Rattle.std.specs.List.{list_any}
use Rattle.sim_base.specs.Numbering.{control_node, local_node, host_of}
use Rattle.sim_base.specs.declared.ends.End.{End}
use Rattle.sim_base.specs.declared.ends.Cause.{Cause}
use Rattle.elf_image.specs.Layout.{Setup}
use Rattle.wire_msg.specs.declared.calls.Call.{Call as CallOf}
use Rattle.wire_msg.specs.declared.messages.Msg.{Msg}
use Rattle.wire_msg.specs.declared.messages.Msg.TheVariants.{Call, Trapped, Reached}
use Rattle.serving.specs.declared.control_data.Fate.TheVariants.{Live}
use Rattle.serving.specs.declared.control_data.Request.TheVariants.{Call as CallRequest, Trap as TrapRequest}
use Rattle.clock_policy.specs.Members.{reported, standing}
use Rattle.flat_machine.specs.declared.threads.Status.{Status as FlatStatus}
use Rattle.flat_machine.specs.declared.threads.Status.TheVariants.{Trapped as FlatTrapped}
use Rattle.flat_machine.specs.State.{State as Flat}
use Rattle.control_server.specs.Control.{Control, Act, Waiting, Check, waits as is_by, is_active, is_checked, is_placed, quiet}
use Rattle.control_server.specs.Deliver.{admits, admitted, reached_taken, taken_by}
use Rattle.event_journal.specs.State.{State, with_queue, changed}
use Rattle.node_machine.specs.declared.nodes.Node.{Node}
use Rattle.node_machine.specs.declared.nodes.Node.TheVariants.{Control as ControlNode}
use Rattle.agreement_laws.specs.Seen.{is_of_threads, of_threads, naming}
use Rattle.agreement_laws.specs.Phases.{Hart, Work, on_way, noted, limited, unheard, Going, runs, misses, writes, misses_byte, stops, probes, Ask, call_of, status_asking, Phase, on, calling, asking, lost, traps, trapping, trapped, tile_of}
use Rattle.agreement_laws.specs.Sides.{Side, side, side_of, asked, checked_of}
use Rattle.agreement_laws.specs.Spots.{Spot, spot, spot_at, spot_of, reports_way}
use Rattle.agreement_laws.specs.Kept.{Fit, Kept}
use Rattle.agreement_laws.proofs.Moves.{moves, is, equal, same_is}
use Rattle.agreement_laws.proofs.AfterServing.{Lives, IsLiveIn}
use Rattle.agreement_laws.proofs.Views.{first_kept, taken_here, taken_there, taken_elsewhere}
use Rattle.agreement_laws.proofs.AtTile.{Elsewhere, free_seat}
use Rattle.agreement_laws.proofs.LocalStep.{turned, above, past, same_spot}
use Rattle.agreement_laws.proofs.Reporting.{now_at, reports_made, reports_made_there}
use Rattle.agreement_laws.proofs.Posting.{Turns, side_now, side_still, local_not, kept_posted, kept_unsent}
use Rattle.agreement_laws.proofs.Wakes.{live_in}
use Rattle.agreement_laws.proofs.Births.{fates_are}
use Rattle.agreement_laws.proofs.Serves.{lives_asking}
use Rattle.agreement_laws.proofs.ServesParked.{within}
use Rattle.agreement_laws.proofs.Outcomes.{live_active}
use Rattle.agreement_laws.proofs.Epochs.{advance_kept}

-- A MESSAGE FROM TILE x to the control server is taken
pub taken_to_control : (w : Setup) (s : State Node Msg) (x : ℕ) (rest : List Msg) → x < w.config.tiles → Elsewhere w s (with_queue s x (control_node w.config) rest) x
taken_to_control w s x rest low =
    let n : ℕ = control_node w.config in
    record {
      spots = λ y high apart. same_spot w (with_queue s x n rest) y (spot w s y) refl
          (ap of_threads (taken_there s x n rest y n (turned x y apart)))
          (ap of_threads (taken_there s x n rest n y (above n x low)))
          (ap of_threads (taken_there s x n rest y (local_node w.config (host_of w.config y)) (turned x y apart)))
          (ap of_threads (taken_there s x n rest (local_node w.config (host_of w.config y)) y (past n x (host_of w.config y) low)));
      starts = λ host u. ap (naming u) (taken_there s x n rest n (local_node w.config host) (above n x low));
      exits = λ host u. ap (naming u) (taken_there s x n rest (local_node w.config host) n (past n x host low));
      idle = λ host. refl;
    }

spot_taken : (w : Setup) (s : State Node Msg) (x : ℕ) (rest : List Msg) (old new : Spot) → x < w.config.tiles → of_threads rest ≡ [] → spot w s x ≡ old → record old { to_control = [] } ≡ new → spot w (with_queue s x (control_node w.config) rest) x ≡ new
spot_taken w s x rest old new low alone before same =
    let n : ℕ = control_node w.config in
    let l : ℕ = local_node w.config (host_of w.config x) in
    same_spot w (with_queue s x n rest) x (record old { to_control = [] })
    (ap (λ (z : Spot). z.sitting) before)
    (ap of_threads (taken_here s x n rest x n (same_is x) (same_is n)) ∙ alone)
    (ap of_threads (taken_there s x n rest n x (above n x low)) ∙ ap (λ (z : Spot). z.from_control) before)
    (ap of_threads (taken_elsewhere s x n rest x l (local_not n (host_of w.config x))) ∙ ap (λ (z : Spot). z.to_local) before)
    (ap of_threads (taken_there s x n rest l x (past n x (host_of w.config x) low)) ∙ ap (λ (z : Spot). z.from_local) before)
    ∙ same

-- a thread stays on tile x, whose list it is taken from
taken_moves : {w : Setup} {s : State Node Msg} {c : Control} {f : Flat} (k : Kept w s c f) (c' : Control) (x u : ℕ) (rest : List Msg) (p p' : Phase) → x < w.config.tiles → of_threads rest ≡ [] → k.phase u ≡ p → tile_of p ≡ Some x → tile_of p' ≡ Some x
    → ((host : ℕ) → (side_of w u host p).starts ≡ (side_of w u host p').starts) → ((host : ℕ) → (side_of w u host p).exits ≡ (side_of w u host p').exits) → record (spot_at u p) { to_control = [] } ≡ spot_at u p' → Turns w c c' f f u p'
    → Kept w (with_queue s x (control_node w.config) rest) c' f
taken_moves {w} {s} {c} {f} k c' x u rest p p' low alone is_p at at' starts exits same m =
    let s' : State Node Msg = with_queue s x (control_node w.config) rest in
    let elsewhere = taken_to_control w s x rest low in
    let seat : k.who x ≡ Some u = k.sits u x (ap tile_of is_p ∙ at) in
    let here : spot w s' x ≡ spot_at u p' = spot_taken w s x rest (spot_at u p) (spot_at u p') low alone (k.spots x low ∙ (ap (spot_of k.phase) seat ∙ ap (spot_at u) is_p)) same in
    moves k s' c' f u p p' is_p (record {
      side_here = λ host. side_now m s' host
          (elsewhere.starts host u ∙ (ap (λ (z : Side). z.starts) (k.sides u host ∙ ap (side_of w u host) is_p) ∙ starts host))
          (elsewhere.exits host u ∙ (ap (λ (z : Side). z.exits) (k.sides u host ∙ ap (side_of w u host) is_p) ∙ exits host));
      side_there = λ y host apart. side_still w s (m.others y apart) s' host (elsewhere.starts host y) (elsewhere.exits host y);
      knows_here = m.knows;
      knows_there = λ y apart. (m.others y apart).caller;
      fit = m.fit;
      ended = m.ended;
      spots = λ y high. elim (cases_Bool (x == y)) [
        | inl t ↦ (let i : is (tile_of p') y ≡ true = ap (λ o. is o y) at' ∙ t in
            subst (λ z. spot w s' z ≡ spot_at u p') (equal x y t) here ∙ sym (cond-true (is (tile_of p') y) _ _ i))
        | inr t ↦ (let i : is (tile_of p') y ≡ false = ap (λ o. is o y) at' ∙ t in let j : is (tile_of p) y ≡ false = ap (λ o. is o y) at ∙ t in
            elsewhere.spots y high t ∙ (sym (cond-false (is (tile_of p') y) _ _ i ∙ cond-false (is (tile_of p) y) _ _ j)))
      ];
      empty_seat = λ y e. inr (let t : (x == y) ≡ true = sym (ap (λ o. is o y) at') ∙ e in subst (λ z. k.who z ≡ Some u) (equal x y t) seat);
      idle_free = λ host y e. let old = k.idle_free host y e in (old.0, free_seat k x u y (tile_of p') seat old.1 at', inr old.1);
      idle_once = k.idle_once;
      control = m.control;
    })

-- WHOSE IT IS
no_report : (u : ℕ) (going : Going) (msg : Msg) (xs : List Msg) → reports_way u going ≡ msg ∷ xs → ((work : Work) × (going ≡ stops work on_way)) × (Reached u ≡ msg) × (xs ≡ [])
no_report u (stops work on_way) msg xs e = ((work, refl), cc, cc)
no_report u (stops work noted) msg xs e = cc
no_report u (stops work (limited l)) msg xs e = cc
no_report u (stops work unheard) msg xs e = cc
no_report u runs msg xs e = cc
no_report u (misses access) msg xs e = cc
no_report u (writes write) msg xs e = cc
no_report u (misses_byte write) msg xs e = cc
no_report u (probes work partner replies) msg xs e = cc

got_call : (v : ℕ) (p : Phase) (u time : ℕ) (call : CallOf) (xs : List Msg) → (spot_at v p).to_control ≡ Call u time call ∷ xs → (h : Hart) × (ask : Ask) × (p ≡ calling h ask time) × (v ≡ u) × (call_of ask ≡ call) × (xs ≡ [])
got_call v (calling h ask t) u time call xs e =
    let first : Call v t (call_of ask) ≡ Call u time call = (let q : Call v t (call_of ask) ∷ [] ≡ Call u time call ∷ xs = e in cc) in
    let at : t ≡ time = cc in
    (h, ask, ap (calling h ask) at, cc, cc, cc)
got_call v (on h going) u time call xs e = let r = (no_report v going (Call u time call) xs e).1 in cc
got_call v _ u time call xs e = cc

got_trap : (v : ℕ) (p : Phase) (u : ℕ) (cause : Cause) (pc : ℕ) (xs : List Msg) → (spot_at v p).to_control ≡ Trapped u cause pc ∷ xs → (h : Hart) × (p ≡ traps h cause) × (v ≡ u) × (h.pc ≡ pc) × (xs ≡ [])
got_trap v (traps h was) u cause pc xs e =
    let first : Trapped v was h.pc ≡ Trapped u cause pc = (let q : Trapped v was h.pc ∷ [] ≡ Trapped u cause pc ∷ xs = e in cc) in
    let same : was ≡ cause = cc in
    (h, ap (traps h) same, cc, cc, cc)
got_trap v (on h going) u cause pc xs e = let r = (no_report v going (Trapped u cause pc) xs e).1 in cc
got_trap v _ u cause pc xs e = cc

got_reached : (v : ℕ) (p : Phase) (u : ℕ) (xs : List Msg) → (spot_at v p).to_control ≡ Reached u ∷ xs → (h : Hart) × (work : Work) × (p ≡ on h (stops work on_way)) × (v ≡ u) × (xs ≡ [])
got_reached v (on h going) u xs e =
    let r = no_report v going (Reached u) xs e in
    (h, r.0.0, ap (on h) r.0.1, (let q : Reached v ≡ Reached u = r.1 in cc), r.2)
got_reached v _ u xs e = cc

front : {w : Setup} {s : State Node Msg} {c : Control} {f : Flat} (k : Kept w s c f) (x : ℕ) (msg : Msg) (rest : List Msg) → x < w.config.tiles → s.queue x (control_node w.config) ≡ msg ∷ rest → is_of_threads msg ≡ true
    → (v : ℕ) × (k.who x ≡ Some v) × ((spot_at v (k.phase v)).to_control ≡ msg ∷ of_threads rest)
front {w} {s} {c} {f} k x msg rest low first kind = by_who (k.who x) refl where
  seen : (spot_of k.phase (k.who x)).to_control ≡ msg ∷ of_threads rest
  seen = sym (ap (λ (z : Spot). z.to_control) (k.spots x low)) ∙ (ap of_threads first ∙ first_kept is_of_threads msg rest kind)

  by_who : (o : Option ℕ) → k.who x ≡ o → (v : ℕ) × (k.who x ≡ Some v) × ((spot_at v (k.phase v)).to_control ≡ msg ∷ of_threads rest)
  by_who None e = let z = sym (ap (λ o. (spot_of k.phase o).to_control) e) ∙ seen in cc
  by_who (Some v) e = (v, e, sym (ap (λ o. (spot_of k.phase o).to_control) e) ∙ seen)

-- IT IS ADMITTED: its thread is active and asks for nothing else
none_by : (u : ℕ) (xs : List Waiting) → filter (is_by u) xs ≡ [] → list_any (is_by u) xs ≡ false
none_by u [] e = refl
none_by u (x ∷ xs) e = elim (cases_Bool (x.thread == u)) [ inl t ↦ cc | inr t ↦ (let rest : filter (is_by u) xs ≡ [] = cc in let ih = none_by u xs rest in cc) ]

none_checked : (u : ℕ) (o : Option Check) → checked_of u o ≡ [] → is_checked u o ≡ false
none_checked u None e = refl
none_checked u (Some check) e = elim (cases_Bool (check.thread == u)) [ inl t ↦ cc | inr t ↦ t ]

admitted_by : {w : Setup} {s : State Node Msg} {c : Control} {f : Flat} (k : Kept w s c f) (u : ℕ) (status : FlatStatus) (p : Phase) → k.phase u ≡ p → (side_of w u 0 p).status ≡ Some status → Lives status → (side_of w u 0 p).keys ≡ [] → (side_of w u 0 p).backlog ≡ []
    → (side_of w u 0 p).checked ≡ [] → admits c u ≡ true
admitted_by {w} {s} {c} {f} k u status p is_p is lives keys backlog checked =
    let old = k.sides u 0 ∙ ap (side_of w u 0) is_p in
    let live : IsLiveIn c.control.fates u = subst (λ fs. IsLiveIn fs u) (sym (fates_are k)) (live_in f u status lives (ap (λ (z : Side). z.status) old ∙ is)) in
    let a : is_active c.control u ≡ true = live_active c.control u live (ap (λ (z : Side). z.keys) old ∙ keys) in
    let b : list_any (is_by u) c.backlog ≡ false = none_by u c.backlog (ap (λ (z : Side). z.backlog) old ∙ backlog) in
    let d : is_checked u c.checking ≡ false = none_checked u c.checking (ap (λ (z : Side). z.checked) old ∙ checked) in
    cc

-- THE BACKLOG with one more
more_here : (q : Waiting) (xs : List Waiting) → filter (is_by q.thread) xs ≡ [] → filter (is_by q.thread) (xs ++ q ∷ []) ≡ q ∷ []
more_here q [] none = let i = same_is q.thread in cc
more_here q (x ∷ xs) none = elim (cases_Bool (x.thread == q.thread)) [ inl t ↦ cc | inr t ↦ (let rest : filter (is_by q.thread) xs ≡ [] = cc in let ih = more_here q xs rest in cc) ]

more_there : (q : Waiting) (x : ℕ) (xs : List Waiting) → (q.thread == x) ≡ false → filter (is_by x) (xs ++ q ∷ []) ≡ filter (is_by x) xs
more_there q x [] apart = cc
more_there q x (y ∷ ys) apart = let ih = more_there q x ys apart in elim (cases_Bool (y.thread == x)) [ inl t ↦ cc | inr t ↦ cc ]

set_caller : (xs : List ℕ) (n v : ℕ) → n < length xs → slice_index (slice_set xs n v) n ≡ v
set_caller [] n v low = absurd (omega arith)
set_caller (x ∷ xs) zero v low = refl
set_caller (x ∷ xs) (suc n) v low = set_caller xs n v (omega arith)

other_caller : (xs : List ℕ) (n x v : ℕ) → (n == x) ≡ false → slice_index (slice_set xs n v) x ≡ slice_index xs x
other_caller [] n x v apart = refl
other_caller (y ∷ ys) zero zero v apart = cc
other_caller (y ∷ ys) zero (suc x) v apart = refl
other_caller (y ∷ ys) (suc n) zero v apart = refl
other_caller (y ∷ ys) (suc n) (suc x) v apart = other_caller ys n x v (let z : (n == x) ≡ false = grind (arith, nat_tests) in z)

-- what the control server does with a message that was taken, and that sends nothing
abbrev pub KeptAfter : Setup → State Node Msg → Act → Flat → Type 0
KeptAfter w s a f = Kept w (changed s (control_node w.config) (record { node = ControlNode a.control; sent = a.mail })) a.control f

quietly : {w : Setup} {s : State Node Msg} (c : Control) {f : Flat} → Kept w s c f → KeptAfter w s (quiet c) f
quietly {w} {s} c {f} k = kept_posted s [] c (kept_unsent k)

-- A CALL
pub call_comes : {w : Setup} {s : State Node Msg} {c : Control} {f : Flat} (k : Kept w s c f) (x u time : ℕ) (call : CallOf) (rest : List Msg) → x < w.config.tiles → s.queue x (control_node w.config) ≡ Call u time call ∷ rest
    → length c.callers ≡ length c.control.fates → is_placed call ≡ true → (o : Option End) → c.control.ended ≡ o → KeptAfter w (with_queue s x (control_node w.config) rest) (taken_by w c x (Call u time call) o) f
call_comes {w} {s} {c} {f} k x u time call rest low first callers placed o ended = by_end o ended where
  whose : (v : ℕ) × (k.who x ≡ Some v) × ((spot_at v (k.phase v)).to_control ≡ Call u time call ∷ of_threads rest)
  whose = front k x (Call u time call) rest low first refl

  by_end : (o : Option End) → c.control.ended ≡ o → KeptAfter w (with_queue s x (control_node w.config) rest) (taken_by w c x (Call u time call) o) f
  by_end o ended =
      let r = got_call whose.0 (k.phase whose.0) u time call (of_threads rest) whose.2 in
      let h : Hart = r.0 in
      let ask : Ask = r.1 in
      let p : Phase = calling h ask time in
      let is_p : k.phase u ≡ p = ap k.phase (sym r.3) ∙ r.2 in
      let tile : h.tile ≡ x = (let q : Some h.tile ≡ Some x = sym (ap tile_of is_p) ∙ k.stands u x (whose.1 ∙ ap Some r.3) in cc) in
      let old : (host : ℕ) → side w s c f u host ≡ side_of w u host p = λ host. k.sides u host ∙ ap (side_of w u host) is_p in
      let fit : Fit w c.control.ended p = subst (Fit w c.control.ended) is_p (k.fit u) in
      let q : Waiting = record { thread = u; from = x; time = time; request = CallRequest call } in
      let c' : Control = record (admitted c q) { callers = slice_set c.callers u x } in
      let admits_it : admits c u ≡ true = admitted_by k u (status_asking ask) p is_p refl (lives_asking ask) refl refl refl in
      let live : IsLiveIn c.control.fates u = subst (λ fs. IsLiveIn fs u) (sym (fates_are k)) (live_in f u (status_asking ask) (lives_asking ask) (ap (λ (z : Side). z.status) (old 0))) in
      let known : u < length c.callers = subst (λ n. u < n) (sym callers) (within c.control.fates u (Live live.0) live.1) in
      let is_q : q ≡ asked u h.tile time ask = λ i. record { thread = u; from = sym tile i; time = time; request = CallRequest (sym r.4 i) } in
      elim o as (λ o. c.control.ended ≡ o → KeptAfter w (with_queue s x (control_node w.config) rest) (taken_by w c x (Call u time call) o) f) [
        | Some end ↦ λ ended. quietly c (taken_moves k c x u rest p (lost h ask) low r.5 is_p (ap Some tile) (ap Some tile) (λ host. refl) (λ host. refl) refl (record {
          status = λ host. ap (λ (z : Side). z.status) (old host);
          place = λ host. ap (λ (z : Side). z.place) (old host);
          keys = λ host. ap (λ (z : Side). z.keys) (old host);
          backlog = λ host. ap (λ (z : Side). z.backlog) (old host);
          checked = λ host. ap (λ (z : Side). z.checked) (old host);
          reports = λ host. ap (λ (z : Side). z.reports) (old host);
          others = λ y apart. record { status = refl; place = refl; keys = refl; backlog = refl; checked = refl; reports = refl; caller = refl };
          knows = tt;
          fit = (fit.0, (fit.1, λ none. (let z = sym ended ∙ none in cc)));
          ended = λ some. some;
          control = k.control;
        }))
        | None ↦ λ ended. subst (λ b. KeptAfter w (with_queue s x (control_node w.config) rest) (if b then quiet c' else quiet c) f) (sym (ap (λ b. b && admits c u) placed ∙ admits_it))
            (quietly c' (taken_moves k c' x u rest p (asking h ask time) low r.5 is_p (ap Some tile) (ap Some tile) (λ host. refl) (λ host. refl) refl (record {
              status = λ host. ap (λ (z : Side). z.status) (old host);
              place = λ host. ap (λ (z : Side). z.place) (old host);
              keys = λ host. ap (λ (z : Side). z.keys) (old host);
              backlog = λ host. more_here q c.backlog (ap (λ (z : Side). z.backlog) (old host)) ∙ ap (λ z. z ∷ []) is_q;
              checked = λ host. ap (λ (z : Side). z.checked) (old host);
              reports = λ host. ap (λ (z : Side). z.reports) (old host);
              others = λ y apart. record { status = refl; place = refl; keys = refl; backlog = more_there q y c.backlog apart; checked = refl; reports = refl; caller = other_caller c.callers u y x apart };
              knows = set_caller c.callers u x known ∙ sym tile;
              fit = fit;
              ended = λ some. some;
              control = k.control;
            })))
      ] ended

-- A TRAP
pub trap_comes : {w : Setup} {s : State Node Msg} {c : Control} {f : Flat} (k : Kept w s c f) (x u : ℕ) (cause : Cause) (pc : ℕ) (rest : List Msg) → x < w.config.tiles → s.queue x (control_node w.config) ≡ Trapped u cause pc ∷ rest
    → (o : Option End) → c.control.ended ≡ o → KeptAfter w (with_queue s x (control_node w.config) rest) (taken_by w c x (Trapped u cause pc) o) f
trap_comes {w} {s} {c} {f} k x u cause pc rest low first o ended =
    let whose = front k x (Trapped u cause pc) rest low first refl in
    let r = got_trap whose.0 (k.phase whose.0) u cause pc (of_threads rest) whose.2 in
    let h : Hart = r.0 in
    let p : Phase = traps h cause in
    let is_p : k.phase u ≡ p = ap k.phase (sym r.2) ∙ r.1 in
    let tile : h.tile ≡ x = (let q : Some h.tile ≡ Some x = sym (ap tile_of is_p) ∙ k.stands u x (whose.1 ∙ ap Some r.2) in cc) in
    let old : (host : ℕ) → side w s c f u host ≡ side_of w u host p = λ host. k.sides u host ∙ ap (side_of w u host) is_p in
    let fit : Fit w c.control.ended p = subst (Fit w c.control.ended) is_p (k.fit u) in
    let q : Waiting = record { thread = u; from = x; time = 0; request = TrapRequest cause pc } in
    let c' : Control = admitted c q in
    let admits_it : admits c u ≡ true = admitted_by k u (FlatTrapped cause h.pc) p is_p refl tt refl refl refl in
    let own : Waiting = record { thread = u; from = h.tile; time = 0; request = TrapRequest cause h.pc } in
    let is_q : q ≡ own = λ i. record { thread = u; from = sym tile i; time = 0; request = TrapRequest cause (sym r.3 i) } in
    elim o as (λ o. c.control.ended ≡ o → KeptAfter w (with_queue s x (control_node w.config) rest) (taken_by w c x (Trapped u cause pc) o) f) [
      | Some end ↦ λ ended. quietly c (taken_moves k c x u rest p (trapped h cause) low r.4 is_p (ap Some tile) (ap Some tile) (λ host. refl) (λ host. refl) refl (record {
        status = λ host. ap (λ (z : Side). z.status) (old host);
        place = λ host. ap (λ (z : Side). z.place) (old host);
        keys = λ host. ap (λ (z : Side). z.keys) (old host);
        backlog = λ host. ap (λ (z : Side). z.backlog) (old host);
        checked = λ host. ap (λ (z : Side). z.checked) (old host);
        reports = λ host. ap (λ (z : Side). z.reports) (old host);
        others = λ y apart. record { status = refl; place = refl; keys = refl; backlog = refl; checked = refl; reports = refl; caller = refl };
        knows = tt;
        fit = (fit, λ none. (let z = sym ended ∙ none in cc));
        ended = λ some. some;
        control = k.control;
      }))
      | None ↦ λ ended. subst (λ b. KeptAfter w (with_queue s x (control_node w.config) rest) (if b then quiet c' else quiet c) f) (sym admits_it)
          (quietly c' (taken_moves k c' x u rest p (trapping h cause) low r.4 is_p (ap Some tile) (ap Some tile) (λ host. refl) (λ host. refl) refl (record {
            status = λ host. ap (λ (z : Side). z.status) (old host);
            place = λ host. ap (λ (z : Side). z.place) (old host);
            keys = λ host. ap (λ (z : Side). z.keys) (old host);
            backlog = λ host. more_here q c.backlog (ap (λ (z : Side). z.backlog) (old host)) ∙ ap (λ z. z ∷ []) is_q;
            checked = λ host. ap (λ (z : Side). z.checked) (old host);
            reports = λ host. ap (λ (z : Side). z.reports) (old host);
            others = λ y apart. record { status = refl; place = refl; keys = refl; backlog = more_there q y c.backlog apart; checked = refl; reports = refl; caller = refl };
            knows = tt;
            fit = fit;
            ended = λ some. some;
            control = k.control;
          })))
    ] ended

-- A REPORT is noted, and the epoch may be advanced
pub report_comes : {w : Setup} {s : State Node Msg} {c : Control} {f : Flat} (k : Kept w s c f) (x u : ℕ) (rest : List Msg) → x < w.config.tiles → s.queue x (control_node w.config) ≡ Reached u ∷ rest
    → (o : Option End) → c.control.ended ≡ o → KeptAfter w (with_queue s x (control_node w.config) rest) (taken_by w c x (Reached u) o) f
report_comes {w} {s} {c} {f} k x u rest low first o ended =
    let whose = front k x (Reached u) rest low first refl in
    let r = got_reached whose.0 (k.phase whose.0) u (of_threads rest) whose.2 in
    let h : Hart = r.0 in
    let work : Work = r.1 in
    let p : Phase = on h (stops work on_way) in
    let is_p : k.phase u ≡ p = ap k.phase (sym r.3) ∙ r.2 in
    let tile : h.tile ≡ x = (let q : Some h.tile ≡ Some x = sym (ap tile_of is_p) ∙ k.stands u x (whose.1 ∙ ap Some r.3) in cc) in
    let old : (host : ℕ) → side w s c f u host ≡ side_of w u host p = λ host. k.sides u host ∙ ap (side_of w u host) is_p in
    let fit : Fit w c.control.ended p = subst (Fit w c.control.ended) is_p (k.fit u) in
    let noted_control : Control = record c { epochs = record c.epochs { members = reported u x c.epochs.members } } in
    let s' : State Node Msg = with_queue s x (control_node w.config) rest in
    let a : Act = reached_taken c x u in
    elim o as (λ o. c.control.ended ≡ o → KeptAfter w (with_queue s x (control_node w.config) rest) (taken_by w c x (Reached u) o) f) [
      | Some end ↦ λ ended. quietly c (taken_moves k c x u rest p (on h (stops work unheard)) low r.4 is_p (ap Some tile) (ap Some tile) (λ host. refl) (λ host. refl) refl (record {
        status = λ host. ap (λ (z : Side). z.status) (old host);
        place = λ host. ap (λ (z : Side). z.place) (old host);
        keys = λ host. ap (λ (z : Side). z.keys) (old host);
        backlog = λ host. ap (λ (z : Side). z.backlog) (old host);
        checked = λ host. ap (λ (z : Side). z.checked) (old host);
        reports = λ host. ap (λ (z : Side). z.reports) (old host);
        others = λ y apart. record { status = refl; place = refl; keys = refl; backlog = refl; checked = refl; reports = refl; caller = refl };
        knows = tt;
        fit = (fit.0, (λ none. (let z = sym ended ∙ none in cc)), fit.2);
        ended = λ some. some;
        control = k.control;
      }))
      | None ↦ λ ended.
          let k1 : Kept w s' noted_control f = taken_moves k noted_control x u rest p (on h (stops work noted)) low r.4 is_p (ap Some tile) (ap Some tile) (λ host. refl) (λ host. refl) refl (record {
            status = λ host. ap (λ (z : Side). z.status) (old host);
            place = λ host. ap (λ (z : Side). z.place) (old host);
            keys = λ host. ap (λ (z : Side). z.keys) (old host);
            backlog = λ host. ap (λ (z : Side). z.backlog) (old host);
            checked = λ host. ap (λ (z : Side). z.checked) (old host);
            reports = λ host. reports_made u x c.epochs.members ∙ (ap (λ (z : Side). map (now_at x) z.reports) (old host) ∙ ap (λ z. Some z ∷ []) (sym tile));
            others = λ y apart. record { status = refl; place = refl; keys = refl; backlog = refl; checked = refl; reports = reports_made_there u x y c.epochs.members apart; caller = refl };
            knows = tt;
            fit = fit;
            ended = λ some. some;
            control = k.control;
          }) in
          kept_posted s' a.mail a.control (advance_kept k1 (standing noted_control.epochs.members))
    ] ended
