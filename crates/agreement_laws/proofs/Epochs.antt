-- The epoch is advanced: each thread whose report was noted has the next limit on its way.
use Rattle.std.proofs.Common.{◌≡◌, ◌≢◌, ℕ, zero, suc, ◌<◌, Bool, true, false, List, [], ◌∷◌, ◌++◌, map, slice_get, Option, Some, None, refl, sym, ap, ◌∙◌, ◌⊎◌, inl, inr, subst, append-nil}
use Rattle.std.proofs.lemmas.Bool.{cases_Bool, cond-true, cond-false}
use Rattle.std.specs.Prelude.{◌==◌, if◌then◌else◌, filter, slice_index}
use Rattle.std.specs.List.{filter_map, cons_option}
use Rattle.std.specs.Option.{option_map}
use Rattle.sim_base.specs.Numbering.{control_node, local_node}
use Rattle.sim_base.specs.declared.ends.End.{End}
use Rattle.elf_image.specs.Layout.{Setup}
use Rattle.wire_msg.specs.declared.messages.Msg.{Msg}
use Rattle.wire_msg.specs.declared.messages.Msg.TheVariants.{Limit}
use Rattle.clock_policy.specs.declared.members.Member.{Member}
use Rattle.clock_policy.specs.Members.{Standing, nobody, some_unreached, all_reached, standing}
use Rattle.clock_policy.specs.Epoch.{limit_of, next_epoch, limit_sent, limits_sent, advanced_by, announced_by}
use Rattle.flat_machine.specs.State.{State as Flat}
use Rattle.control_server.specs.Control.{Control}
use Rattle.control_server.specs.Serve.{epochs_closed, limits_closed}
use Rattle.event_journal.specs.Rules.{Change}
use Rattle.event_journal.specs.State.{State, messages_to}
use Rattle.node_machine.specs.declared.nodes.Node.{Node}
use Rattle.agreement_laws.specs.Seen.{names, of_threads, naming, starts_of}
use Rattle.agreement_laws.specs.Phases.{on_way, noted, limited, unheard, runs, misses, writes, misses_byte, stops, probes, Phase, unborn, sent, given, on, calling, asking, checking, waits, lost, told, traps, trapping, trapped, leaving, passing, exiting, vanished, over, tile_of}
use Rattle.agreement_laws.specs.Sides.{Side, side, side_of, reports_of}
use Rattle.agreement_laws.specs.Spots.{Spot, spot, spot_at, spot_of}
use Rattle.agreement_laws.specs.Kept.{KnowsTile, Fit, Kept}
use Rattle.agreement_laws.proofs.Moves.{equal, same_is}
use Rattle.agreement_laws.proofs.Views.{seen_after}
use Rattle.agreement_laws.proofs.Reporting.{no_more, reports_renewed}
use Rattle.agreement_laws.proofs.Posting.{post, local_not, spot_posted, kept_unsent}

-- the phase afterwards
abbrev onward : ℕ → Phase → Phase
onward l (on h (stops work noted)) = on h (stops work (limited l))
onward l p = p

-- the limits that these reports bring to a tile
abbrev limits_in : ℕ → ℕ → List (Option ℕ) → List Msg
limits_in tile l [] = []
limits_in tile l (None ∷ rs) = limits_in tile l rs
limits_in tile l (Some x ∷ rs) = if x == tile then Limit l ∷ limits_in tile l rs else limits_in tile l rs

here_one : (x l : ℕ) → limits_in x l (Some x ∷ []) ≡ Limit l ∷ []
here_one x l = cond-true (x == x) _ _ (same_is x)

-- what a phase has after it: its side, its spot, and what is known of it
side_onward : (w : Setup) (u host l : ℕ) (p : Phase) → record (side_of w u host p) { reports = map no_more (side_of w u host p).reports } ≡ side_of w u host (onward l p)
side_onward w u host l (on h (stops work on_way)) = refl
side_onward w u host l (on h (stops work noted)) = refl
side_onward w u host l (on h (stops work (limited x))) = refl
side_onward w u host l (on h (stops work unheard)) = refl
side_onward w u host l (on h runs) = refl
side_onward w u host l (on h (misses access)) = refl
side_onward w u host l (on h (writes write)) = refl
side_onward w u host l (on h (misses_byte write)) = refl
side_onward w u host l (on h (probes work partner replies)) = refl
side_onward w u host l unborn = refl
side_onward w u host l (sent at entry arg time limit) = refl
side_onward w u host l (given tile entry arg time limit) = refl
side_onward w u host l (calling h ask time) = refl
side_onward w u host l (asking h ask time) = refl
side_onward w u host l (checking h addr value) = refl
side_onward w u host l (waits h key) = refl
side_onward w u host l (lost h ask) = refl
side_onward w u host l (told h value time limit) = refl
side_onward w u host l (traps h cause) = refl
side_onward w u host l (trapping h cause) = refl
side_onward w u host l (trapped h cause) = refl
side_onward w u host l (leaving tile code time) = refl
side_onward w u host l (passing at code time) = refl
side_onward w u host l (exiting at code time) = refl
side_onward w u host l (vanished code) = refl
side_onward w u host l (over code joined) = refl

spot_onward : (w : Setup) (u tile l : ℕ) (p : Phase) → tile_of p ≡ Some tile
    → record (spot_at u p) { from_control = (spot_at u p).from_control ++ limits_in tile l (side_of w u 0 p).reports } ≡ spot_at u (onward l p)
spot_onward w u tile l (on h (stops work on_way)) at = refl
spot_onward w u tile l (on h (stops work noted)) at =
    let same : h.tile ≡ tile = (let q : Some h.tile ≡ Some tile = at in cc) in
    ap (λ z. record (spot_at u (on h (stops work noted))) { from_control = limits_in z l (Some h.tile ∷ []) }) (sym same)
    ∙ ap (λ ms. record (spot_at u (on h (stops work noted))) { from_control = ms }) (here_one h.tile l)
spot_onward w u tile l (on h (stops work (limited x))) at = refl
spot_onward w u tile l (on h (stops work unheard)) at = refl
spot_onward w u tile l (on h runs) at = refl
spot_onward w u tile l (on h (misses access)) at = refl
spot_onward w u tile l (on h (writes write)) at = refl
spot_onward w u tile l (on h (misses_byte write)) at = refl
spot_onward w u tile l (on h (probes work partner replies)) at = refl
spot_onward w u tile l unborn at = cc
spot_onward w u tile l (sent host entry arg time limit) at = cc
spot_onward w u tile l (given x entry arg time limit) at = refl
spot_onward w u tile l (calling h ask time) at = refl
spot_onward w u tile l (asking h ask time) at = refl
spot_onward w u tile l (checking h addr value) at = refl
spot_onward w u tile l (waits h key) at = refl
spot_onward w u tile l (lost h ask) at = refl
spot_onward w u tile l (told h value time limit) at = refl
spot_onward w u tile l (traps h cause) at = refl
spot_onward w u tile l (trapping h cause) at = refl
spot_onward w u tile l (trapped h cause) at = refl
spot_onward w u tile l (leaving x code time) at = refl
spot_onward w u tile l (passing host code time) at = cc
spot_onward w u tile l (exiting host code time) at = cc
spot_onward w u tile l (vanished code) at = cc
spot_onward w u tile l (over code joined) at = cc

tile_onward : (l : ℕ) (p : Phase) → tile_of (onward l p) ≡ tile_of p
tile_onward l (on h (stops work noted)) = refl
tile_onward l _ = refl

knows_onward : (l : ℕ) (p : Phase) (caller : ℕ) → KnowsTile p caller → KnowsTile (onward l p) caller
knows_onward l (on h (stops work noted)) caller knows = tt
knows_onward l _ caller knows = knows

fit_onward : (w : Setup) (ended : Option End) (l : ℕ) (p : Phase) → Fit w ended p → Fit w ended (onward l p)
fit_onward w ended l (on h (stops work noted)) fit = fit
fit_onward w ended l _ fit = fit

-- a report from a tile is noted of the thread that sits there
got_noted : (w : Setup) (u tile : ℕ) (p : Phase) → (side_of w u 0 p).reports ≡ Some tile ∷ [] → tile_of p ≡ Some tile
got_noted w u tile (on h (stops work noted)) e = cc
got_noted w u tile (on h (stops work on_way)) e = cc
got_noted w u tile (on h (stops work (limited x))) e = cc
got_noted w u tile (on h (stops work unheard)) e = cc
got_noted w u tile (on h runs) e = cc
got_noted w u tile (on h (misses access)) e = cc
got_noted w u tile (on h (writes write)) e = cc
got_noted w u tile (on h (misses_byte write)) e = cc
got_noted w u tile (on h (probes work partner replies)) e = cc
got_noted w u tile _ e = cc

one_report : (w : Setup) (u : ℕ) (p : Phase) → ((side_of w u 0 p).reports ≡ []) ⊎ ((r : Option ℕ) × ((side_of w u 0 p).reports ≡ r ∷ []))
one_report w u unborn = inl refl
one_report w u (waits h key) = inl refl
one_report w u (over code joined) = inl refl
one_report w u (on h (stops work report)) = inr (_, refl)
one_report w u (on h runs) = inr (_, refl)
one_report w u (on h (misses access)) = inr (_, refl)
one_report w u (on h (writes write)) = inr (_, refl)
one_report w u (on h (misses_byte write)) = inr (_, refl)
one_report w u (on h (probes work partner replies)) = inr (_, refl)
one_report w u _ = inr (_, refl)

abbrev Has : Option ℕ → List (Option ℕ) → Type 0
Has r [] = ⊥
Has r (x ∷ xs) = (x ≡ r) ⊎ Has r xs

has_report : (ms : List Member) (i : ℕ) (m : Member) → slice_get ms i ≡ Some m → Has m.reached (reports_of m.thread ms)
has_report [] i m e = cc
has_report (x ∷ xs) zero m e =
    let same : x ≡ m = cc in
    let here : (x.thread == m.thread) ≡ true = ap (λ (z : Member). z.thread == m.thread) same ∙ same_is m.thread in
    subst (λ b. Has m.reached (map (λ (y : Member). y.reached) (if b then x ∷ filter (λ y. y.thread == m.thread) xs else filter (λ y. y.thread == m.thread) xs))) (sym here) (inl (ap (λ (z : Member). z.reached) same))
has_report (x ∷ xs) (suc i) m e = by_test (x.thread == m.thread) (has_report xs i m e) where
  by_test : (b : Bool) → Has m.reached (reports_of m.thread xs) → Has m.reached (map (λ (y : Member). y.reached) (if b then x ∷ filter (λ y. y.thread == m.thread) xs else filter (λ y. y.thread == m.thread) xs))
  by_test true h = inr h
  by_test false h = h

noted_sits : {w : Setup} {s : State Node Msg} {c : Control} {f : Flat} (k : Kept w s c f) (tile i : ℕ) (m : Member) → slice_get c.epochs.members i ≡ Some m → m.reached ≡ Some tile → k.who tile ≡ Some m.thread
noted_sits {w} {s} {c} {f} k tile i m is reached =
    let u : ℕ = m.thread in
    let there : reports_of u c.epochs.members ≡ (side_of w u 0 (k.phase u)).reports = ap (λ (z : Side). z.reports) (k.sides u 0) in
    let has : Has m.reached (side_of w u 0 (k.phase u)).reports = subst (Has m.reached) there (has_report c.epochs.members i m is) in
    elim (one_report w u (k.phase u)) [
      | inl none ↦ absurd (subst (Has m.reached) none has)
      | inr one ↦ elim (subst (Has m.reached) one.1 has) [
        | inl same ↦ k.sits u tile (got_noted w u tile (k.phase u) (one.1 ∙ ap (λ r. r ∷ []) (same ∙ reached)))
        | inr none ↦ absurd none
      ]
    ]

-- THE LIMITS that are sent, to one tile
limits_none : (tile l : ℕ) (ms : List Member) → ((i : ℕ) (m : Member) → slice_get ms i ≡ Some m → m.reached ≢ Some tile) → messages_to tile (filter_map (limit_sent l) ms) ≡ []
limits_none tile l [] none = refl
limits_none tile l (m ∷ ms) none = by_report m.reached refl (limits_none tile l ms (λ i x e. none (suc i) x e)) where
  by_report : (r : Option ℕ) → m.reached ≡ r → messages_to tile (filter_map (limit_sent l) ms) ≡ [] → messages_to tile (cons_option (option_map {U = ℕ × Msg} (λ x. (x, Limit l)) r) (filter_map (limit_sent l) ms)) ≡ []
  by_report None e ih = ih
  by_report (Some x) e ih = elim (cases_Bool (x == tile)) [ inl t ↦ absurd (none 0 m refl (e ∙ ap Some (equal x tile t))) | inr t ↦ rw t ih ]

limits_one : (tile u l : ℕ) (ms : List Member) → ((i : ℕ) (m : Member) → slice_get ms i ≡ Some m → m.reached ≡ Some tile → m.thread ≡ u) → messages_to tile (filter_map (limit_sent l) ms) ≡ limits_in tile l (reports_of u ms)
limits_one tile u l [] only = refl
limits_one tile u l (m ∷ ms) only = by_report m.reached refl (cases_Bool (m.thread == u)) (limits_one tile u l ms (λ i x e r. only (suc i) x e r)) where
  by_report : (r : Option ℕ) → m.reached ≡ r → ((m.thread == u) ≡ true) ⊎ ((m.thread == u) ≡ false) → messages_to tile (filter_map (limit_sent l) ms) ≡ limits_in tile l (reports_of u ms)
      → messages_to tile (cons_option (option_map {U = ℕ × Msg} (λ x. (x, Limit l)) r) (filter_map (limit_sent l) ms)) ≡ limits_in tile l (reports_of u (m ∷ ms))
  by_report None e (inl t) ih = rw (t, e) ih
  by_report None e (inr t) ih = rw t ih
  by_report (Some x) e (inl t) ih = elim (cases_Bool (x == tile)) [ inl d ↦ rw (t, e, d) (ap (λ ys. Limit l ∷ ys) ih) | inr d ↦ rw (t, e, d) ih ]
  by_report (Some x) e (inr t) ih = elim (cases_Bool (x == tile)) [
    | inl d ↦ (let is : m.thread ≡ u = only 0 m refl (e ∙ ap Some (equal x tile d)) in let same : (m.thread == u) ≡ true = ap (λ z. z == u) is ∙ same_is u in cc)
    | inr d ↦ rw (t, d) ih
  ]

-- they are about threads, and name none
about : (tile l : ℕ) (rs : List (Option ℕ)) → of_threads (limits_in tile l rs) ≡ limits_in tile l rs
about tile l [] = refl
about tile l (None ∷ rs) = about tile l rs
about tile l (Some x ∷ rs) = let ih = about tile l rs in elim (cases_Bool (x == tile)) [ inl t ↦ rw t (ap (λ ys. Limit l ∷ ys) ih) | inr t ↦ rw t ih ]

unnamed : (x to l : ℕ) (ms : List Member) → naming x (messages_to to (filter_map (limit_sent l) ms)) ≡ []
unnamed x to l [] = refl
unnamed x to l (m ∷ ms) = by_report m.reached (unnamed x to l ms) where
  by_report : (r : Option ℕ) → naming x (messages_to to (filter_map (limit_sent l) ms)) ≡ [] → naming x (messages_to to (cons_option (option_map {U = ℕ × Msg} (λ y. (y, Limit l)) r) (filter_map (limit_sent l) ms))) ≡ []
  by_report None ih = ih
  by_report (Some y) ih = elim (cases_Bool (y == to)) [ inl t ↦ rw t ih | inr t ↦ rw t ih ]

-- THE ADVANCE
advanced : {w : Setup} {s : State Node Msg} {c : Control} {f : Flat} (k : Kept w s c f) → Kept w (post w s (limits_sent c.epochs)) (record c { epochs = next_epoch c.epochs }) f
advanced {w} {s} {c} {f} k =
    let n : ℕ = control_node w.config in
    let ms : List Member = c.epochs.members in
    let l : ℕ = limit_of (next_epoch c.epochs) in
    let mail : List (ℕ × Msg) = limits_sent c.epochs in
    let s' : State Node Msg = post w s mail in
    let c' : Control = record c { epochs = next_epoch c.epochs } in
    let change : Change Node Msg = record { node = s.node n; sent = mail } in
    let tile_same : (u : ℕ) → tile_of (onward l (k.phase u)) ≡ tile_of (k.phase u) = λ u. tile_onward l (k.phase u) in
    let lists : (u host : ℕ) → side w s' c' f u host ≡ record (side w s c f u host) { reports = map no_more (reports_of u ms) } = λ u host i. record (side w s c f u host) {
      reports = reports_renewed u ms i;
      starts = (seen_after (names u) s n change n (local_node w.config host) ∙ (cond-true (n == n) _ _ (same_is n)
          ∙ (ap (λ ys. starts_of w s host u ++ ys) (unnamed u (local_node w.config host) l ms) ∙ append-nil (starts_of w s host u)))) i;
      exits = (ap (naming u) (cond-false (local_node w.config host == n) (s.queue (local_node w.config host) n ++ messages_to n mail) (s.queue (local_node w.config host) n) (local_not n host))) i;
    } in
    record {
      phase = λ u. onward l (k.phase u);
      who = k.who;
      sides = λ u host. lists u host ∙ (ap (λ (z : Side). record z { reports = map no_more z.reports }) (k.sides u host) ∙ side_onward w u host l (k.phase u));
      spots = λ tile low. spot_posted w s mail tile low ∙ spot_after k tile low (k.who tile) refl;
      sits = λ u tile e. k.sits u tile (sym (tile_same u) ∙ e);
      stands = λ u tile e. tile_same u ∙ k.stands u tile e;
      knows = λ u. knows_onward l (k.phase u) (slice_index c.callers u) (k.knows u);
      fit = λ u. fit_onward w c.control.ended l (k.phase u) (k.fit u);
      idle_free = k.idle_free;
      idle_once = k.idle_once;
      control = k.control;
    }
  where
    spot_after : {w : Setup} {s : State Node Msg} {c : Control} {f : Flat} (k : Kept w s c f) (tile : ℕ) → tile < w.config.tiles → (o : Option ℕ) → k.who tile ≡ o
        → record (spot w s tile) { from_control = (spot w s tile).from_control ++ of_threads (messages_to tile (limits_sent c.epochs)) } ≡ spot_of (λ u. onward (limit_of (next_epoch c.epochs)) (k.phase u)) o
    spot_after {w} {s} {c} {f} k tile low None e =
        let l : ℕ = limit_of (next_epoch c.epochs) in
        let none : messages_to tile (limits_sent c.epochs) ≡ [] = limits_none tile l c.epochs.members (λ i m is at. (let z = noted_sits k tile i m is at in cc)) in
        ap (λ ms. record (spot w s tile) { from_control = (spot w s tile).from_control ++ of_threads ms }) none
        ∙ (ap (λ ms. record (spot w s tile) { from_control = ms }) (append-nil (spot w s tile).from_control) ∙ (k.spots tile low ∙ ap (spot_of k.phase) e))
    spot_after {w} {s} {c} {f} k tile low (Some u) e =
        let l : ℕ = limit_of (next_epoch c.epochs) in
        let there : reports_of u c.epochs.members ≡ (side_of w u 0 (k.phase u)).reports = ap (λ (z : Side). z.reports) (k.sides u 0) in
        let ones : messages_to tile (limits_sent c.epochs) ≡ limits_in tile l (side_of w u 0 (k.phase u)).reports =
        limits_one tile u l c.epochs.members (λ i m is at. (let z : Some m.thread ≡ Some u = sym (noted_sits k tile i m is at) ∙ e in let q : m.thread ≡ u = cc in q)) ∙ ap (limits_in tile l) there in
        ap (λ ms. record (spot w s tile) { from_control = (spot w s tile).from_control ++ ms }) (ap of_threads ones ∙ about tile l (side_of w u 0 (k.phase u)).reports)
        ∙ (ap (λ (z : Spot). record z { from_control = z.from_control ++ limits_in tile l (side_of w u 0 (k.phase u)).reports }) (k.spots tile low ∙ ap (spot_of k.phase) e)
        ∙ spot_onward w u tile l (k.phase u) (k.stands u tile e))

pub advance_kept : {w : Setup} {s : State Node Msg} {c : Control} {f : Flat} (k : Kept w s c f) (o : Standing) → Kept w (post w s (announced_by o c.epochs)) (record c { epochs = advanced_by o c.epochs }) f
advance_kept k nobody = kept_unsent k
advance_kept k some_unreached = kept_unsent k
advance_kept k all_reached = advanced k

pub closed_kept : {w : Setup} {s : State Node Msg} {c : Control} {f : Flat} (k : Kept w s c f) (closes : Bool) → Kept w (post w s (limits_closed closes c.epochs)) (record c { epochs = epochs_closed closes c.epochs }) f
closed_kept {w} {s} {c} {f} k true = advance_kept k (standing c.epochs.members)
closed_kept k false = kept_unsent k
