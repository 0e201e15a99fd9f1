-- One thread goes from a phase to another, and all else stays: the lemma that serves every event.
use Rattle.std.proofs.Common.{◌≡◌, ◌≢◌, ℕ, ◌<◌, Bool, true, false, Option, Some, None, ◌==◌, if◌then◌else◌, refl, sym, ap, ◌∙◌, arith, ◌⊎◌, inl, inr, subst}
use Rattle.std.proofs.lemmas.Bool.Decides.{nat_tests}
use Rattle.std.proofs.lemmas.Bool.{cases_Bool}
use Rattle.std.specs.Prelude.{slice_index}
use Rattle.sim_base.specs.declared.ends.End.{End}
use Rattle.elf_image.specs.Layout.{Setup}
use Rattle.wire_msg.specs.declared.messages.Msg.{Msg}
use Rattle.flat_machine.specs.State.{State as Flat}
use Rattle.flat_machine.specs.Serving.{control_of}
use Rattle.control_server.specs.Control.{Control}
use Rattle.event_journal.specs.State.{State}
use Rattle.node_machine.specs.declared.nodes.Node.{Node}
use Rattle.agreement_laws.specs.Phases.{on_way, noted, limited, unheard, Going, runs, misses, writes, misses_byte, stops, probes, Phase, unborn, sent, given, on, calling, asking, checking, waits, lost, told, traps, trapping, trapped, leaving, passing, exiting, vanished, over, tile_of}
use Rattle.agreement_laws.specs.Sides.{side, side_of}
use Rattle.agreement_laws.specs.Spots.{spot, vacant, spot_at, spot_of}
use Rattle.agreement_laws.specs.Kept.{KnowsTile, Late, Fit, idle_at, has, Distinct, IsOfHost, Kept}

abbrev pub is : Option ℕ → ℕ → Bool
is None tile = false
is (Some x) tile = x == tile

abbrev pub seated : ℕ → Option ℕ → Option ℕ → Option ℕ → ℕ → Option ℕ
seated u old new who tile = if is new tile then Some u else (if is old tile then None else who)

abbrev pub put : {A : Type 0} → ℕ → A → (ℕ → A) → ℕ → A
put x a f y = if x == y then a else f y

-- ONE THREAD, u, goes from phase p to p'. All else stays
pub record Move (w : Setup) (s s' : State Node Msg) (c c' : Control) (f f' : Flat) (who : ℕ → Option ℕ) (u : ℕ) (p p' : Phase) : Type 0 where
  pub side_here : (host : ℕ) → side w s' c' f' u host ≡ side_of w u host p'
  pub side_there : (x host : ℕ) → (u == x) ≡ false → side w s' c' f' x host ≡ side w s c f x host
  pub knows_here : KnowsTile p' (slice_index c'.callers u)
  pub knows_there : (x : ℕ) → (u == x) ≡ false → slice_index c'.callers x ≡ slice_index c.callers x
  pub fit : Fit w c'.control.ended p'
  pub ended : c.control.ended ≢ None → c'.control.ended ≢ None
  pub spots : (tile : ℕ) → tile < w.config.tiles → spot w s' tile ≡ (if is (tile_of p') tile then spot_at u p' else (if is (tile_of p) tile then vacant else spot w s tile))
  pub empty_seat : (tile : ℕ) → is (tile_of p') tile ≡ true → (who tile ≡ None) ⊎ (who tile ≡ Some u)
  pub idle_free : (host tile : ℕ) → has tile (idle_at w s' host) ≡ true → IsOfHost w host tile × (is (tile_of p') tile ≡ false) × ((is (tile_of p) tile ≡ true) ⊎ (who tile ≡ None))
  pub idle_once : (host : ℕ) → Distinct (idle_at w s' host)
  pub control : c'.control ≡ control_of f'

pub equal : (x y : ℕ) → (x == y) ≡ true → x ≡ y
equal x y e = grind (arith, nat_tests)

pub same_is : (x : ℕ) → (x == x) ≡ true
same_is x = grind (arith, nat_tests)

pub put_same : {A : Type 0} (x : ℕ) (a : A) (f : ℕ → A) → put x a f x ≡ a
put_same x a f = let e = same_is x in cc

pub put_there : {A : Type 0} (x y : ℕ) (a : A) (f : ℕ → A) → (x == y) ≡ false → put x a f y ≡ f y
put_there x y a f e = cc

is_some_of : (o : Option ℕ) (t : ℕ) → is o t ≡ true → o ≡ Some t
is_some_of None t e = cc
is_some_of (Some x) t e = ap Some (equal x t e)

some_is : (o : Option ℕ) (t : ℕ) → o ≡ Some t → is o t ≡ true
some_is None t e = cc
some_is (Some x) t e = let i = same_is t in cc

spot_put : (phase : ℕ → Phase) (u : ℕ) (p' : Phase) (o : Option ℕ) → o ≢ Some u → spot_of (put u p' phase) o ≡ spot_of phase o
spot_put phase u p' None n = refl
spot_put phase u p' (Some x) n = elim (cases_Bool (u == x)) [ inl e ↦ absurd (n (ap Some (sym (equal u x e)))) | inr e ↦ ap (spot_at x) (put_there u x p' phase e) ]

differ : (x y : ℕ) → (x == y) ≡ false → x ≢ y
differ x y e = grind (arith, nat_tests)

put_here : {A : Type 0} (x y : ℕ) (a : A) (f : ℕ → A) → (x == y) ≡ true → put x a f y ≡ a
put_here x y a f e = cc

-- what came after the end came after it still
late_later : (going : Going) (e e' : Option End) → (e ≢ None → e' ≢ None) → Late going e → Late going e'
late_later (stops work unheard) e e' later late = later late
late_later (stops work on_way) e e' later late = tt
late_later (stops work noted) e e' later late = tt
late_later (stops work (limited limit)) e e' later late = tt
late_later runs e e' later late = tt
late_later (misses access) e e' later late = tt
late_later (writes write) e e' later late = tt
late_later (misses_byte write) e e' later late = tt
late_later (probes work partner replies) e e' later late = tt

pub fit_later : (w : Setup) (e e' : Option End) (p : Phase) → (e ≢ None → e' ≢ None) → Fit w e p → Fit w e' p
fit_later w e e' unborn later fit = tt
fit_later w e e' (sent host entry arg time limit) later fit = fit
fit_later w e e' (given tile entry arg time limit) later fit = fit
fit_later w e e' (on h going) later fit = (fit.0, late_later going e e' later fit.1, fit.2)
fit_later w e e' (calling h ask time) later fit = fit
fit_later w e e' (asking h ask time) later fit = fit
fit_later w e e' (checking h addr value) later fit = fit
fit_later w e e' (waits h key) later fit = fit
fit_later w e e' (lost h ask) later fit = (fit.0, (fit.1.0, later fit.1.1))
fit_later w e e' (told h value time limit) later fit = fit
fit_later w e e' (traps h cause) later fit = fit
fit_later w e e' (trapping h cause) later fit = fit
fit_later w e e' (trapped h cause) later fit = (fit.0, later fit.1)
fit_later w e e' (leaving tile code time) later fit = fit
fit_later w e e' (passing host code time) later fit = fit
fit_later w e e' (exiting host code time) later fit = fit
fit_later w e e' (vanished code) later fit = later fit
fit_later w e e' (over code joined) later fit = tt

-- THE MOVE LEMMA
pub moves : {w : Setup} {s : State Node Msg} {c : Control} {f : Flat} (k : Kept w s c f) (s' : State Node Msg) (c' : Control) (f' : Flat) (u : ℕ) (p p' : Phase)
    → k.phase u ≡ p → Move w s s' c c' f f' k.who u p p' → Kept w s' c' f'
moves {w} {s} {c} {f} k s' c' f' u p p' is_p m =
    let phase : ℕ → Phase = put u p' k.phase in
    let who : ℕ → Option ℕ = λ t. seated u (tile_of p) (tile_of p') (k.who t) t in
    let here : phase u ≡ p' = put_same u p' k.phase in
    let tile : tile_of (k.phase u) ≡ tile_of p = ap tile_of is_p in
    record {
      phase = phase;
      who = who;
      sides = λ x j. elim (cases_Bool (u == x)) [
        | inl e ↦ subst (λ z. side w s' c' f' z j ≡ side_of w z j (phase z)) (equal u x e) (m.side_here j ∙ ap (side_of w u j) (sym here))
        | inr e ↦ m.side_there x j e ∙ (k.sides x j ∙ ap (side_of w x j) (sym (put_there u x p' k.phase e)))
      ];
      knows = λ x. elim (cases_Bool (u == x)) [
        | inl e ↦ subst (λ z. KnowsTile (phase z) (slice_index c'.callers z)) (equal u x e) (subst (λ z. KnowsTile z (slice_index c'.callers u)) (sym here) m.knows_here)
        | inr e ↦ subst (λ z. KnowsTile z (slice_index c'.callers x)) (sym (put_there u x p' k.phase e)) (subst (λ z. KnowsTile (k.phase x) z) (sym (m.knows_there x e)) (k.knows x))
      ];
      fit = λ x. elim (cases_Bool (u == x)) [
        | inl e ↦ subst (λ z. Fit w c'.control.ended (phase z)) (equal u x e) (subst (Fit w c'.control.ended) (sym here) m.fit)
        | inr e ↦ subst (Fit w c'.control.ended) (sym (put_there u x p' k.phase e)) (fit_later w c.control.ended c'.control.ended (k.phase x) m.ended (k.fit x))
      ];
      spots = λ t low. elim (cases_Bool (is (tile_of p') t)) [
        | inl e ↦ m.spots t low ∙ (let h = here in cc)
        | inr e ↦ elim (cases_Bool (is (tile_of p) t)) [
          | inl o ↦ m.spots t low ∙ (cc)
          | inr o ↦
              let n : k.who t ≢ Some u = λ q. (let a = some_is (tile_of p) t (sym tile ∙ k.stands u t q) in cc) in
              let a = spot_put k.phase u p' (k.who t) n in
              let b = k.spots t low in
              m.spots t low ∙ (cc)
        ]
      ];
      sits = λ x t q. elim (cases_Bool (u == x)) [
        | inl e ↦ let i = equal u x e in let a : tile_of p' ≡ Some t = sym (ap tile_of (put_here u x p' k.phase e)) ∙ q in let b = some_is (tile_of p') t a in cc
        | inr e ↦
            let a : k.who t ≡ Some x = k.sits x t (sym (ap tile_of (put_there u x p' k.phase e)) ∙ q) in
            let d = differ u x e in
            elim (cases_Bool (is (tile_of p') t)) [
              | inl b ↦ elim (m.empty_seat t b) [ inl z ↦ cc | inr z ↦ cc ]
              | inr b ↦ elim (cases_Bool (is (tile_of p) t)) [
                | inl v ↦ let z = k.sits u t (tile ∙ is_some_of (tile_of p) t v) in cc
                | inr v ↦ cc
              ]
            ]
      ];
      stands = λ x t q. elim (cases_Bool (is (tile_of p') t)) [
        | inl b ↦ let i : x ≡ u = cc in let z = is_some_of (tile_of p') t b in cc
        | inr b ↦ elim (cases_Bool (is (tile_of p) t)) [
          | inl v ↦ cc
          | inr v ↦
              let a : k.who t ≡ Some x = cc in
              elim (cases_Bool (u == x)) [
                | inl e ↦ let i = equal u x e in let z = some_is (tile_of p) t (sym tile ∙ k.stands u t cc) in cc
                | inr e ↦ ap tile_of (put_there u x p' k.phase e) ∙ k.stands x t a
              ]
        ]
      ];
      idle_free = λ j t i. let a = m.idle_free j t i in (a.0, (let b = a.1 in elim a.2 [ inl v ↦ cc | inr v ↦ elim (cases_Bool (is (tile_of p) t)) [ inl d ↦ cc | inr d ↦ cc ] ]));
      idle_once = m.idle_once;
      control = m.control;
    }
