-- A message about no line comes to a tile: limits, probes and their replies, and what changes nothing.
use Rattle.std.proofs.Common.{◌≡◌, ◌≢◌, ℕ, ◌+◌, ◌<◌, Bool, true, false, List, [], ◌∷◌, Option, Some, None, refl, sym, ap, ◌∙◌, arith, inl, inr, subst}
use Rattle.std.proofs.lemmas.Bool.Decides.{nat_tests}
use Rattle.std.proofs.lemmas.Bool.{cases_Bool, cond-true, cond-false}
use Rattle.std.specs.Prelude.{◌==◌}
use Rattle.sim_base.specs.Numbering.{control_node, local_node, host_of}
use Rattle.elf_image.specs.Layout.{Setup}
use Rattle.wire_msg.specs.declared.messages.Msg.{Msg}
use Rattle.wire_msg.specs.declared.messages.Msg.TheVariants.{Return, Start, Limit, Probe, ProbeReply}
use Rattle.clock_policy.specs.Probe.{may_go_on}
use Rattle.flat_machine.specs.State.{State as Flat}
use Rattle.tile_core.specs.declared.cores.Status.{Status}
use Rattle.tile_core.specs.declared.cores.Status.TheVariants.{Idle, Run, Miss, Called, Writing, AtBarrier, Probing, Trapped as TrappedTile}
use Rattle.tile_core.specs.Gathering.{Gathering}
use Rattle.tile_node.specs.Tile.{Tile as TileData, Act, quiet}
use Rattle.tile_node.specs.Deliver.{limit_taken, probe_taken, reply_taken, goes_on, asks_again}
use Rattle.control_server.specs.Control.{Control}
use Rattle.event_journal.specs.State.{State, messages_to, changed, with_queue}
use Rattle.node_machine.specs.declared.nodes.Node.{Node}
use Rattle.node_machine.specs.declared.nodes.Node.TheVariants.{Tile}
use Rattle.node_machine.specs.Machine.{change_of, of_tile}
use Rattle.agreement_laws.specs.Seen.{is_of_threads, of_threads, naming}
use Rattle.agreement_laws.specs.Phases.{Hart, Work, executes, gathers, on_way, noted, limited, unheard, Going, runs, misses, writes, misses_byte, stops, probes, Phase, given, on, told}
use Rattle.agreement_laws.specs.Spots.{stopped, probing, work_in, stance_in, sitting_in, core_in, Spot, spot, spot_at, spot_of, limits_way}
use Rattle.agreement_laws.specs.Kept.{Kept}
use Rattle.agreement_laws.proofs.Moves.{equal, same_is}
use Rattle.agreement_laws.proofs.Reading.{seats}
use Rattle.agreement_laws.proofs.Views.{first_kept, taken_there, taken_elsewhere, taken_here}
use Rattle.agreement_laws.proofs.LocalStep.{above, past, same_spot, changed_elsewhere}
use Rattle.agreement_laws.proofs.Quiet.{ShowsSame, kept_seen, acted_same}
use Rattle.agreement_laws.proofs.Returning.{taken_from_control, elsewhere_then}
use Rattle.agreement_laws.proofs.Sending.{spot_acts}
use Rattle.agreement_laws.proofs.GoingOn.{goes_here, is_probes, spot_on, turns}
use Rattle.agreement_laws.proofs.Silent.{probe_silent}

-- a list that is about no thread
pub taken_unseen : (w : Setup) (s : State Node Msg) (i x : ℕ) (rest : List Msg) → x < w.config.tiles → (control_node w.config == i) ≡ false → (local_node w.config (host_of w.config x) == i) ≡ false → ShowsSame w s (with_queue s i x rest)
taken_unseen w s i x rest low control local =
    let n : ℕ = control_node w.config in
    record {
      spots = λ y high. same_spot w (with_queue s i x rest) y (spot w s y) refl
          (ap of_threads (taken_elsewhere s i x rest y n (above w.config.tiles x low)))
          (ap of_threads (taken_there s i x rest n y control))
          (ap of_threads (taken_elsewhere s i x rest y (local_node w.config (host_of w.config y)) (past w.config.tiles x (host_of w.config y) low)))
          (ap of_threads (elim (cases_Bool (y == x)) [
            | inl e ↦ taken_there s i x rest (local_node w.config (host_of w.config y)) y (ap (λ z. local_node w.config (host_of w.config z) == i) (equal y x e) ∙ local)
            | inr e ↦ taken_elsewhere s i x rest (local_node w.config (host_of w.config y)) y e
          ]));
      starts = λ host u. ap (naming u) (taken_elsewhere s i x rest n (local_node w.config host) (past w.config.tiles x host low));
      exits = λ host u. ap (naming u) (taken_elsewhere s i x rest (local_node w.config host) n (above w.config.tiles x low));
      idle = λ host. refl;
    }

-- what stands at the head of a tile's lists
abbrev pub is_answer : Msg → Bool
is_answer (Return value time limit) = true
is_answer (Limit limit) = true
is_answer _ = false

abbrev pub is_start : Msg → Bool
is_start (Start thread entry arg time limit) = true
is_start _ = false

going_answers : (going : Going) (msg : Msg) (xs : List Msg) → limits_way going ≡ msg ∷ xs → is_answer msg ≡ true
going_answers (stops work (limited l)) msg xs e = let same : Limit l ≡ msg = cc in ap is_answer (sym same)
going_answers (stops work on_way) msg xs e = cc
going_answers (stops work noted) msg xs e = cc
going_answers (stops work unheard) msg xs e = cc
going_answers runs msg xs e = cc
going_answers (misses access) msg xs e = cc
going_answers (writes write) msg xs e = cc
going_answers (misses_byte write) msg xs e = cc
going_answers (probes work partner replies) msg xs e = cc

head_answers : (u : ℕ) (p : Phase) (msg : Msg) (xs : List Msg) → (spot_at u p).from_control ≡ msg ∷ xs → is_answer msg ≡ true
head_answers u (told h v t l) msg xs e = let same : Return v t l ≡ msg = cc in ap is_answer (sym same)
head_answers u (on h going) msg xs e = going_answers going msg xs e
head_answers u _ msg xs e = cc

head_starts : (u : ℕ) (p : Phase) (msg : Msg) (xs : List Msg) → (spot_at u p).from_local ≡ msg ∷ xs → is_start msg ≡ true
head_starts u (given tile e a m l) msg xs q = let same : Start u e a m l ≡ msg = cc in ap is_start (sym same)
head_starts u _ msg xs q = cc

pub control_head : {w : Setup} {s : State Node Msg} {c : Control} {f : Flat} (k : Kept w s c f) (x : ℕ) (msg : Msg) (rest : List Msg) → x < w.config.tiles → s.queue (control_node w.config) x ≡ msg ∷ rest → is_of_threads msg ≡ true
    → is_answer msg ≡ true
control_head {w} {s} {c} {f} k x msg rest low waits about = by_who (k.who x) refl where
  front : (spot_of k.phase (k.who x)).from_control ≡ msg ∷ of_threads rest
  front = sym (ap (λ (z : Spot). z.from_control) (k.spots x low)) ∙ (ap of_threads waits ∙ first_kept is_of_threads msg rest about)

  by_who : (o : Option ℕ) → k.who x ≡ o → is_answer msg ≡ true
  by_who None e = let z = sym (ap (λ o. (spot_of k.phase o).from_control) e) ∙ front in cc
  by_who (Some u) e = head_answers u (k.phase u) msg (of_threads rest) (sym (ap (λ o. (spot_of k.phase o).from_control) e) ∙ front)

pub local_head : {w : Setup} {s : State Node Msg} {c : Control} {f : Flat} (k : Kept w s c f) (x : ℕ) (msg : Msg) (rest : List Msg) → x < w.config.tiles → s.queue (local_node w.config (host_of w.config x)) x ≡ msg ∷ rest
    → is_of_threads msg ≡ true → is_start msg ≡ true
local_head {w} {s} {c} {f} k x msg rest low waits about = by_who (k.who x) refl where
  front : (spot_of k.phase (k.who x)).from_local ≡ msg ∷ of_threads rest
  front = sym (ap (λ (z : Spot). z.from_local) (k.spots x low)) ∙ (ap of_threads waits ∙ first_kept is_of_threads msg rest about)

  by_who : (o : Option ℕ) → k.who x ≡ o → is_start msg ≡ true
  by_who None e = let z = sym (ap (λ o. (spot_of k.phase o).from_local) e) ∙ front in cc
  by_who (Some u) e = head_starts u (k.phase u) msg (of_threads rest) (sym (ap (λ o. (spot_of k.phase o).from_local) e) ∙ front)

-- NOTHING CHANGES, whatever is sent about no thread
pub quiet_kept : {w : Setup} {s : State Node Msg} {c : Control} {f : Flat} (k : Kept w s c f) (x : ℕ) (t : TileData) (sent : List (ℕ × Msg)) → x < w.config.tiles → s.node x ≡ Tile t → ((to : ℕ) → of_threads (messages_to to sent) ≡ [])
    → Kept w (changed s x (record { node = Tile t; sent = sent })) c f
quiet_kept {w} {s} k x t sent low is silent = kept_seen k (changed s x (record { node = Tile t; sent = sent })) (acted_same w s x t t sent low is refl silent)

reply_silent : (to from clock : ℕ) (running : Bool) → of_threads (messages_to to ((from, ProbeReply running clock) ∷ [])) ≡ []
reply_silent to from clock running = by_test (from == to) refl where
  by_test : (b : Bool) → (from == to) ≡ b → of_threads (messages_to to ((from, ProbeReply running clock) ∷ [])) ≡ []
  by_test true e = rw e refl
  by_test false e = rw e refl

pub probed_kept : {w : Setup} {s : State Node Msg} {c : Control} {f : Flat} (k : Kept w s c f) (x i : ℕ) (t : TileData) → x < w.config.tiles → s.node x ≡ Tile t → Kept w (changed s x (change_of (of_tile (probe_taken t i)))) c f
probed_kept k x i t low is = quiet_kept k x t (probe_taken t i).mail low is (λ to. reply_silent to i t.core.clock _)

-- A LIMIT ends a wait at the barrier
going_limit : (going : Going) (limit : ℕ) (xs : List Msg) → limits_way going ≡ Limit limit ∷ xs → (work : Work) × (going ≡ stops work (limited limit)) × (xs ≡ [])
going_limit (stops work (limited l)) limit xs e = let same : l ≡ limit = cc in (work, ap (λ z. stops work (limited z)) same, cc)
going_limit (stops work on_way) limit xs e = cc
going_limit (stops work noted) limit xs e = cc
going_limit (stops work unheard) limit xs e = cc
going_limit runs limit xs e = cc
going_limit (misses access) limit xs e = cc
going_limit (writes write) limit xs e = cc
going_limit (misses_byte write) limit xs e = cc
going_limit (probes work partner replies) limit xs e = cc

got_limit : (u : ℕ) (p : Phase) (limit : ℕ) (xs : List Msg) → (spot_at u p).from_control ≡ Limit limit ∷ xs → (h : Hart) × (work : Work) × (p ≡ on h (stops work (limited limit))) × (xs ≡ [])
got_limit u (on h going) limit xs e = let r = going_limit going limit xs e in (h, r.0, ap (on h) r.1, r.2)
got_limit u _ limit xs e = cc

at_barrier : (status : Status) (write : Gathering) (work : Work) → stance_in status write ≡ Some (stopped work) → (b : Bool) × (status ≡ AtBarrier b) × (work ≡ work_in b write)
at_barrier (AtBarrier b) write work e = (b, refl, cc)
at_barrier Idle write work e = cc
at_barrier Run write work e = cc
at_barrier (Miss (Some access)) write work e = cc
at_barrier (Miss None) write work e = cc
at_barrier Called write work e = cc
at_barrier Writing write work e = cc
at_barrier (Probing b partner replies) write work e = cc
at_barrier TrappedTile write work e = cc

record IsLimited (w : Setup) (phase : ℕ → Phase) (x : ℕ) (t : TileData) (limit : ℕ) (rest : List Msg) : Type 0 where
  writing_on : Bool
  status : t.core.status ≡ AtBarrier writing_on
  phase_is : phase t.core.thread ≡ on (record { tile = x; regs = t.core.regs; pc = t.core.pc }) (stops (work_in writing_on t.core.write) (limited limit))
  alone : of_threads rest ≡ []

who_is_limited : {w : Setup} {s : State Node Msg} {c : Control} {f : Flat} (k : Kept w s c f) (x : ℕ) (t : TileData) (limit : ℕ) (rest : List Msg) → x < w.config.tiles → s.node x ≡ Tile t
    → s.queue (control_node w.config) x ≡ Limit limit ∷ rest → IsLimited w k.phase x t limit rest
who_is_limited {w} {s} {c} {f} k x t limit rest low is waits = by_who (k.who x) refl where
  front : (spot_of k.phase (k.who x)).from_control ≡ Limit limit ∷ of_threads rest
  front = sym (ap (λ (z : Spot). z.from_control) (k.spots x low)) ∙ (ap of_threads waits ∙ first_kept is_of_threads (Limit limit) rest refl)

  by_who : (o : Option ℕ) → k.who x ≡ o → IsLimited w k.phase x t limit rest
  by_who None e = let z = sym (ap (λ o. (spot_of k.phase o).from_control) e) ∙ front in cc
  by_who (Some u) e =
      let r = got_limit u (k.phase u) limit (of_threads rest) (sym (ap (λ o. (spot_of k.phase o).from_control) e) ∙ front) in
      let sits : sitting_in x t.core ≡ Some (record { thread = u; hart = r.0; stance = stopped r.1 }) =
      sym (ap (λ n. sitting_in x (core_in n)) is) ∙ (ap (λ (z : Spot). z.sitting) (k.spots x low) ∙ (ap (λ o. (spot_of k.phase o).sitting) e ∙ ap (λ p. (spot_at u p).sitting) r.2)) in
      let seat = seats x t.core (record { thread = u; hart = r.0; stance = stopped r.1 }) sits in
      let wait = at_barrier t.core.status t.core.write r.1 seat.stance in
      record {
        writing_on = wait.0;
        status = wait.1;
        phase_is = ap k.phase seat.thread ∙ (r.2 ∙ (ap (λ h. on h (stops r.1 (limited limit))) (sym seat.hart) ∙ ap (λ z. on (record { tile = x; regs = t.core.regs; pc = t.core.pc }) (stops z (limited limit))) wait.2));
        alone = r.3;
      }

spot_taken : (w : Setup) (s : State Node Msg) (x : ℕ) (old : Spot) (rest : List Msg) → x < w.config.tiles → of_threads rest ≡ [] → spot w s x ≡ old → spot w (with_queue s (control_node w.config) x rest) x ≡ record old { from_control = [] }
spot_taken w s x old rest low alone before =
    let n : ℕ = control_node w.config in
    let l : ℕ = local_node w.config (host_of w.config x) in
    same_spot w (with_queue s n x rest) x (record old { from_control = [] }) (ap (λ (z : Spot). z.sitting) before)
    (ap of_threads (taken_there s n x rest x n (below n x low)) ∙ ap (λ (z : Spot). z.to_control) before)
    (ap of_threads (taken_here s n x rest n x (same_is n) (same_is x)) ∙ alone)
    (ap of_threads (taken_there s n x rest x l (below n x low)) ∙ ap (λ (z : Spot). z.to_local) before)
    (ap of_threads (taken_there s n x rest l x (local_not n (host_of w.config x))) ∙ ap (λ (z : Spot). z.from_local) before)
  where
    below : (n y : ℕ) → y < n → (y == n) ≡ false
    below n y low = grind (arith, nat_tests)

    local_not : (n host : ℕ) → (n + 1 + host == n) ≡ false
    local_not n host = grind (arith, nat_tests)

pub limit_kept : {w : Setup} {s : State Node Msg} {c : Control} {f : Flat} (k : Kept w s c f) (x : ℕ) (t : TileData) (limit : ℕ) (rest : List Msg) → x < w.config.tiles → s.node x ≡ Tile t
    → s.queue (control_node w.config) x ≡ Limit limit ∷ rest → (t.core.status ≢ Idle) × Kept w (changed (with_queue s (control_node w.config) x rest) x (change_of (of_tile (limit_taken t limit t.core.status)))) c f
limit_kept {w} {s} {c} {f} k x t limit rest low is waits = (
  λ e. (let z : AtBarrier so.writing_on ≡ Idle = sym so.status ∙ e in cc),
  subst (λ z. Kept w (changed (with_queue s (control_node w.config) x rest) x (change_of (of_tile (limit_taken t limit z)))) c f) (sym so.status) (by_work so.writing_on so.phase_is),
)
  where
    so : IsLimited w k.phase x t limit rest
    so = who_is_limited k x t limit rest low is waits

    s0 : State Node Msg
    s0 = with_queue s (control_node w.config) x rest

    by_work : (b : Bool) → k.phase t.core.thread ≡ on (record { tile = x; regs = t.core.regs; pc = t.core.pc }) (stops (work_in b t.core.write) (limited limit))
        → Kept w (changed (with_queue s (control_node w.config) x rest) x (change_of (of_tile (limit_taken t limit (AtBarrier b))))) c f
    by_work true phase =
        turns k (changed (with_queue s (control_node w.config) x rest) x (change_of (of_tile (limit_taken t limit (AtBarrier true))))) x t.core.thread t.core.regs t.core.pc (stops (gathers t.core.write) (limited limit))
        (on (record { tile = x; regs = t.core.regs; pc = t.core.pc }) (writes t.core.write)) phase refl
        (elsewhere_then w s (with_queue s (control_node w.config) x rest) (changed (with_queue s (control_node w.config) x rest) x (change_of (of_tile (limit_taken t limit (AtBarrier true))))) x (taken_from_control w s x rest low)
        (changed_elsewhere w (with_queue s (control_node w.config) x rest) x (change_of (of_tile (limit_taken t limit (AtBarrier true)))) low))
        (λ host. refl) tt (low, tt, tt)
        (spot_acts w (with_queue s (control_node w.config) x rest) x (limit_taken t limit (AtBarrier true)).tile [] _ _ low (spot_taken w s x _ rest low so.alone (spot_on k x t.core.thread _ low phase refl)) refl refl refl refl refl)
    by_work false phase =
        turns k (changed (with_queue s (control_node w.config) x rest) x (change_of (of_tile (limit_taken t limit (AtBarrier false))))) x t.core.thread t.core.regs t.core.pc (stops executes (limited limit))
        (on (record { tile = x; regs = t.core.regs; pc = t.core.pc }) runs) phase refl
        (elsewhere_then w s (with_queue s (control_node w.config) x rest) (changed (with_queue s (control_node w.config) x rest) x (change_of (of_tile (limit_taken t limit (AtBarrier false))))) x (taken_from_control w s x rest low)
        (changed_elsewhere w (with_queue s (control_node w.config) x rest) x (change_of (of_tile (limit_taken t limit (AtBarrier false)))) low))
        (λ host. refl) tt (low, tt, tt)
        (spot_acts w (with_queue s (control_node w.config) x rest) x (limit_taken t limit (AtBarrier false)).tile [] _ _ low (spot_taken w s x _ rest low so.alone (spot_on k x t.core.thread _ low phase refl)) refl refl refl refl refl)

-- A REPLY to a probe: the thread goes on, or asks again
pub reply_kept : {w : Setup} {s : State Node Msg} {c : Control} {f : Flat} (k : Kept w s c f) (x : ℕ) (t : TileData) (running : Bool) (clock : ℕ) → x < w.config.tiles → s.node x ≡ Tile t
    → Kept w (changed s x (change_of (of_tile (reply_taken w t running clock t.core.status)))) c f
reply_kept {w} {s} {c} {f} k x t running clock low is = by_status t.core.status refl where
  onward_so : (b : Bool) (partner replies : ℕ) → k.phase t.core.thread ≡ on (record { tile = x; regs = t.core.regs; pc = t.core.pc }) (probes (work_in b t.core.write) partner replies)
      → Kept w (changed s x (change_of (of_tile (quiet (goes_on w t b))))) c f
  onward_so true partner replies phase =
      turns k (changed s x (change_of (of_tile (quiet (goes_on w t true))))) x t.core.thread t.core.regs t.core.pc (probes (gathers t.core.write) partner replies) (on (record { tile = x; regs = t.core.regs; pc = t.core.pc }) (writes t.core.write)) phase refl
      (changed_elsewhere w s x (change_of (of_tile (quiet (goes_on w t true)))) low) (λ host. refl) tt (low, tt, tt)
      (spot_acts w s x (goes_on w t true) [] _ _ low (spot_on k x t.core.thread _ low phase refl) refl refl refl refl refl)
  onward_so false partner replies phase =
      turns k (changed s x (change_of (of_tile (quiet (goes_on w t false))))) x t.core.thread t.core.regs t.core.pc (probes executes partner replies) (on (record { tile = x; regs = t.core.regs; pc = t.core.pc }) runs) phase refl
      (changed_elsewhere w s x (change_of (of_tile (quiet (goes_on w t false)))) low) (λ host. refl) tt (low, tt, tt)
      (spot_acts w s x (goes_on w t false) [] _ _ low (spot_on k x t.core.thread _ low phase refl) refl refl refl refl refl)

  again_so : (work : Work) (b : Bool) (partner replies : ℕ) → work_in b t.core.write ≡ work → k.phase t.core.thread ≡ on (record { tile = x; regs = t.core.regs; pc = t.core.pc }) (probes work partner replies)
      → Kept w (changed s x (change_of (of_tile (asks_again t b partner (replies + 1))))) c f
  again_so work b partner replies e phase =
      turns k (changed s x (change_of (of_tile (asks_again t b partner (replies + 1))))) x t.core.thread t.core.regs t.core.pc (probes work partner replies)
      (on (record { tile = x; regs = t.core.regs; pc = t.core.pc }) (probes work partner (replies + 1))) phase refl
      (changed_elsewhere w s x (change_of (of_tile (asks_again t b partner (replies + 1)))) low) (λ host. refl) tt (low, tt, tt)
      (spot_acts w s x (asks_again t b partner (replies + 1)).tile ((partner, Probe) ∷ []) _ _ low (spot_on k x t.core.thread _ low phase refl)
      (ap (λ z. Some (record { thread = t.core.thread; hart = record { tile = x; regs = t.core.regs; pc = t.core.pc }; stance = probing z partner (replies + 1) })) e) (probe_silent partner _) (probe_silent partner _) refl refl)

  by_status : (status : Status) → t.core.status ≡ status → Kept w (changed s x (change_of (of_tile (reply_taken w t running clock status)))) c f
  by_status (Probing b partner replies) e =
      let goes = goes_here k x t (probing (work_in b t.core.write) partner replies) low is (ap (λ z. stance_in z t.core.write) e) refl in
      let phase = goes.phase_is ∙ ap (on (record { tile = x; regs = t.core.regs; pc = t.core.pc })) (is_probes goes.going (work_in b t.core.write) partner replies goes.stance_is) in
      elim (cases_Bool (may_go_on t.core.clock clock running w.config.slack (replies + 1))) [
        | inl may ↦ subst (λ (z : Act). Kept w (changed s x (change_of (of_tile z))) c f) (sym (cond-true (may_go_on t.core.clock clock running w.config.slack (replies + 1)) _ _ may)) (onward_so b partner replies phase)
        | inr not ↦ subst (λ (z : Act). Kept w (changed s x (change_of (of_tile z))) c f) (sym (cond-false (may_go_on t.core.clock clock running w.config.slack (replies + 1)) _ _ not)) (again_so (work_in b t.core.write) b partner replies refl phase)
      ]
  by_status Idle e = quiet_kept k x t [] low is (λ to. refl)
  by_status Run e = quiet_kept k x t [] low is (λ to. refl)
  by_status (Miss access) e = quiet_kept k x t [] low is (λ to. refl)
  by_status Called e = quiet_kept k x t [] low is (λ to. refl)
  by_status Writing e = quiet_kept k x t [] low is (λ to. refl)
  by_status (AtBarrier b) e = quiet_kept k x t [] low is (λ to. refl)
  by_status TrappedTile e = quiet_kept k x t [] low is (λ to. refl)
