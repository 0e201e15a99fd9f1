-- What the control server sends, as far as threads are concerned; and one move lemma for a thread to which it does something
-- without moving it from its place.
use Rattle.std.proofs.Common.{◌≡◌, ◌≢◌, ℕ, ◌+◌, ◌<◌, Bool, true, false, cond, List, [], ◌∷◌, ◌++◌, slice_get, Option, Some, None, refl, sym, ap, ◌∙◌, arith, inl, inr, append-nil, append_assoc}
use Rattle.std.proofs.lemmas.Bool.Decides.{nat_tests}
use Rattle.std.proofs.lemmas.Bool.{cases_Bool, cond-true, cond-false}
use Rattle.std.specs.Prelude.{◌==◌, if◌then◌else◌, filter, slice_index, option_and_then}
use Rattle.std.specs.Option.{option_map}
use Rattle.sim_base.specs.Numbering.{control_node, local_node, host_of}
use Rattle.elf_image.specs.Layout.{Setup}
use Rattle.wire_msg.specs.declared.messages.Msg.{Msg}
use Rattle.wire_msg.specs.declared.messages.Msg.TheVariants.{Return, Start}
use Rattle.flat_machine.specs.State.{State as Flat}
use Rattle.flat_machine.specs.Serving.{control_of}
use Rattle.control_server.specs.Control.{Control, waits as is_by}
use Rattle.event_journal.specs.Rules.{Change}
use Rattle.event_journal.specs.State.{State, messages_to, changed}
use Rattle.node_machine.specs.declared.nodes.Node.{Node}
use Rattle.node_machine.specs.declared.nodes.Node.TheVariants.{Control as ControlNode}
use Rattle.agreement_laws.specs.Seen.{is_of_threads, names, of_threads, naming, starts_of, exits_of}
use Rattle.agreement_laws.specs.Phases.{Hart, Phase, unborn, sent, told, tile_of}
use Rattle.agreement_laws.specs.Sides.{there, Side, side, side_of, place_of, keys_of, checked_of, reports_of}
use Rattle.agreement_laws.specs.Spots.{sitting_in, core_in, Spot, spot, spot_of, spot_at, seat, called}
use Rattle.agreement_laws.specs.Kept.{idle_in, KnowsTile, Fit, Kept}
use Rattle.agreement_laws.proofs.Moves.{moves, is, equal, same_is}
use Rattle.agreement_laws.proofs.Views.{seen_after}
use Rattle.agreement_laws.proofs.LocalStep.{node_other, same_spot}
use Rattle.agreement_laws.proofs.Quiet.{ShowsSame, kept_seen}

-- the state in which the control server has sent this, and is not yet another
abbrev pub post : Setup → State Node Msg → List (ℕ × Msg) → State Node Msg
post w s mail = record {
  node = s.node;
  queue = λ from to. if from == control_node w.config then s.queue from to ++ messages_to to mail else s.queue from to;
  made = s.made;
}

pub low_not : (n x : ℕ) → x < n → (x == n) ≡ false
low_not n x low = grind (arith, nat_tests)

pub local_not : (n host : ℕ) → (n + 1 + host == n) ≡ false
local_not n host = grind (arith, nat_tests)

pub local_above : (n x host : ℕ) → x < n → (x == n + 1 + host) ≡ false
local_above n x host low = grind (arith, nat_tests)

pub some_of : (o : Option ℕ) (t : ℕ) → is o t ≡ true → o ≡ Some t
some_of None t e = cc
some_of (Some x) t e = ap Some (equal x t e)

pub is_some : (o : Option ℕ) (t : ℕ) → o ≡ Some t → is o t ≡ true
is_some None t e = cc
is_some (Some x) t e = let i = same_is t in cc

-- STATES THAT SHOW THE SAME: of other nodes than the control server, and of all lists
pub shows_by : (w : Setup) (s s' : State Node Msg) → ((from to : ℕ) → s'.queue from to ≡ s.queue from to) → ((y : ℕ) → (y == control_node w.config) ≡ false → s'.node y ≡ s.node y) → ShowsSame w s s'
shows_by w s s' queue node =
    let n : ℕ = control_node w.config in
    record {
      spots = λ y low. same_spot w s' y (spot w s y) (ap (λ m. sitting_in y (core_in m)) (node y (low_not n y low))) (ap of_threads (queue y n)) (ap of_threads (queue n y))
          (ap of_threads (queue y (local_node w.config (host_of w.config y)))) (ap of_threads (queue (local_node w.config (host_of w.config y)) y));
      starts = λ host u. ap (naming u) (queue n (local_node w.config host));
      exits = λ host u. ap (naming u) (queue (local_node w.config host) n);
      idle = λ host. ap idle_in (node (local_node w.config host) (local_not n host));
    }

-- the control server has acted
pub kept_posted : {w : Setup} (s : State Node Msg) {c : Control} {f : Flat} (mail : List (ℕ × Msg)) (c' : Control) → Kept w (post w s mail) c f → Kept w (changed s (control_node w.config) (record { node = ControlNode c'; sent = mail })) c f
kept_posted {w} s {c} {f} mail c' k =
    let n : ℕ = control_node w.config in
    let change : Change Node Msg = record { node = ControlNode c'; sent = mail } in
    kept_seen k (changed s n change) (shows_by w (post w s mail) (changed s n change) (λ from to. refl) (λ y apart. node_other s n change y apart))

-- nothing is sent, and one thing after another
pub kept_unsent : {w : Setup} {s : State Node Msg} {c : Control} {f : Flat} → Kept w s c f → Kept w (post w s []) c f
kept_unsent {w} {s} {c} {f} k = kept_seen k (post w s []) (shows_by w s (post w s []) (λ from to. by_test (from == control_node w.config) (s.queue from to)) (λ y apart. refl)) where
  by_test : (b : Bool) (xs : List Msg) → cond b (xs ++ []) xs ≡ xs
  by_test true xs = append-nil xs
  by_test false xs = refl

pub messages_append : (to : ℕ) (a b : List (ℕ × Msg)) → messages_to to (a ++ b) ≡ messages_to to a ++ messages_to to b
messages_append to [] b = refl
messages_append to (x ∷ xs) b = let ih = messages_append to xs b in elim (cases_Bool (x.0 == to)) [ inl t ↦ cc | inr t ↦ cc ]

pub kept_joined : {w : Setup} (s : State Node Msg) {c : Control} {f : Flat} (a b : List (ℕ × Msg)) → Kept w (post w (post w s a) b) c f → Kept w (post w s (a ++ b)) c f
kept_joined {w} s {c} {f} a b k =
    kept_seen k (post w s (a ++ b)) (shows_by w (post w (post w s a) b) (post w s (a ++ b)) (λ from to. by_test (from == control_node w.config) (s.queue from to) to) (λ y apart. refl))
  where
    by_test : (t : Bool) (xs : List Msg) (to : ℕ) → cond t (xs ++ messages_to to (a ++ b)) xs ≡ cond t (cond t (xs ++ messages_to to a) xs ++ messages_to to b) (cond t (xs ++ messages_to to a) xs)
    by_test true xs to = ap (λ ys. xs ++ ys) (messages_append to a b) ∙ sym (append_assoc xs (messages_to to a) (messages_to to b))
    by_test false xs to = refl

-- a tile and its lists
pub spot_posted : (w : Setup) (s : State Node Msg) (mail : List (ℕ × Msg)) (tile : ℕ) → tile < w.config.tiles
    → spot w (post w s mail) tile ≡ record (spot w s tile) { from_control = (spot w s tile).from_control ++ of_threads (messages_to tile mail) }
spot_posted w s mail tile low =
    let n : ℕ = control_node w.config in
    let change : Change Node Msg = record { node = s.node n; sent = mail } in
    let old : Spot = spot w s tile in
    same_spot w (post w s mail) tile (record old { from_control = old.from_control ++ of_threads (messages_to tile mail) })
    refl
    (ap of_threads (cond-false (tile == n) _ _ (low_not n tile low)))
    (seen_after is_of_threads s n change n tile ∙ cond-true (n == n) _ _ (same_is n))
    (ap of_threads (cond-false (tile == n) _ _ (low_not n tile low)))
    (ap of_threads (cond-false (local_node w.config (host_of w.config tile) == n) _ _ (local_not n (host_of w.config tile))))

-- ONE THREAD: what is sent to it, and to nobody else
pub record Posts (w : Setup) (u : ℕ) (p p' : Phase) (mail : List (ℕ × Msg)) : Type 0 where
  pub here : (tile : ℕ) → tile_of p ≡ Some tile → record (spot_at u p) { from_control = (spot_at u p).from_control ++ of_threads (messages_to tile mail) } ≡ spot_at u p'
  pub elsewhere : (tile : ℕ) → tile < w.config.tiles → is (tile_of p) tile ≡ false → of_threads (messages_to tile mail) ≡ []
  pub starts : (host : ℕ) → (side_of w u host p).starts ++ naming u (messages_to (local_node w.config host) mail) ≡ (side_of w u host p').starts
  pub exits : (host : ℕ) → (side_of w u host p).exits ≡ (side_of w u host p').exits
  pub others : (x host : ℕ) → (u == x) ≡ false → naming x (messages_to (local_node w.config host) mail) ≡ []

-- what becomes of it at the control server and on the flat machine; all others stay
pub record SameOf (c c' : Control) (f f' : Flat) (x : ℕ) : Type 0 where
  pub status : option_map (λ t. t.status) (slice_get f'.threads x) ≡ option_map (λ t. t.status) (slice_get f.threads x)
  pub place : option_and_then place_of (slice_get f'.threads x) ≡ option_and_then place_of (slice_get f.threads x)
  pub keys : keys_of c'.control x ≡ keys_of c.control x
  pub backlog : filter (is_by x) c'.backlog ≡ filter (is_by x) c.backlog
  pub checked : checked_of x c'.checking ≡ checked_of x c.checking
  pub reports : reports_of x c'.epochs.members ≡ reports_of x c.epochs.members
  pub caller : slice_index c'.callers x ≡ slice_index c.callers x

pub record Turns (w : Setup) (c c' : Control) (f f' : Flat) (u : ℕ) (p' : Phase) : Type 0 where
  pub status : (host : ℕ) → option_map (λ t. t.status) (slice_get f'.threads u) ≡ (side_of w u host p').status
  pub place : (host : ℕ) → option_and_then place_of (slice_get f'.threads u) ≡ (side_of w u host p').place
  pub keys : (host : ℕ) → keys_of c'.control u ≡ (side_of w u host p').keys
  pub backlog : (host : ℕ) → filter (is_by u) c'.backlog ≡ (side_of w u host p').backlog
  pub checked : (host : ℕ) → checked_of u c'.checking ≡ (side_of w u host p').checked
  pub reports : (host : ℕ) → reports_of u c'.epochs.members ≡ (side_of w u host p').reports
  pub others : (x : ℕ) → (u == x) ≡ false → SameOf c c' f f' x
  pub knows : KnowsTile p' (slice_index c'.callers u)
  pub fit : Fit w c'.control.ended p'
  pub ended : c.control.ended ≢ None → c'.control.ended ≢ None
  pub control : c'.control ≡ control_of f'

pub side_eq : (a b : Side) → a.status ≡ b.status → a.place ≡ b.place → a.keys ≡ b.keys → a.backlog ≡ b.backlog → a.checked ≡ b.checked → a.reports ≡ b.reports → a.starts ≡ b.starts → a.exits ≡ b.exits → a ≡ b
side_eq a b p0 p1 p2 p3 p4 p5 p6 p7 = λ i. record { status = p0 i; place = p1 i; keys = p2 i; backlog = p3 i; checked = p4 i; reports = p5 i; starts = p6 i; exits = p7 i }

pub side_now : {w : Setup} {c c' : Control} {f f' : Flat} {u : ℕ} {p' : Phase} (m : Turns w c c' f f' u p') (s' : State Node Msg) (host : ℕ)
    → starts_of w s' host u ≡ (side_of w u host p').starts → exits_of w s' host u ≡ (side_of w u host p').exits → side w s' c' f' u host ≡ side_of w u host p'
side_now {w} {c} {c'} {f} {f'} {u} {p'} m s' host starts exits =
    side_eq (side w s' c' f' u host) (side_of w u host p') (m.status host) (m.place host) (m.keys host) (m.backlog host) (m.checked host) (m.reports host) starts exits

pub side_still : (w : Setup) (s : State Node Msg) {c c' : Control} {f f' : Flat} {x : ℕ} (m : SameOf c c' f f' x) (s' : State Node Msg) (host : ℕ)
    → starts_of w s' host x ≡ starts_of w s host x → exits_of w s' host x ≡ exits_of w s host x → side w s' c' f' x host ≡ side w s c f x host
side_still w s {c} {c'} {f} {f'} {x} m s' host starts exits =
    side_eq (side w s' c' f' x host) (side w s c f x host) m.status m.place m.keys m.backlog m.checked m.reports starts exits

-- THE MOVE: it stays where it is
pub posted_moves : {w : Setup} {s : State Node Msg} {c : Control} {f : Flat} (k : Kept w s c f) (c' : Control) (f' : Flat) (u : ℕ) (p p' : Phase) (mail : List (ℕ × Msg))
    → k.phase u ≡ p → tile_of p' ≡ tile_of p → Turns w c c' f f' u p' → Posts w u p p' mail → Kept w (post w s mail) c' f'
posted_moves {w} {s} {c} {f} k c' f' u p p' mail is_p place m sends =
    let n : ℕ = control_node w.config in
    let s' : State Node Msg = post w s mail in
    let change : Change Node Msg = record { node = s.node n; sent = mail } in
    let sits : (tile : ℕ) → tile_of p ≡ Some tile → k.who tile ≡ Some u = λ tile e. k.sits u tile (ap tile_of is_p ∙ e) in
    moves k s' c' f' u p p' is_p (record {
      side_here = λ host. side_now m s' host
          (seen_after (names u) s n change n (local_node w.config host) ∙ (cond-true (n == n) _ _ (same_is n)
          ∙ (ap (λ (z : Side). z.starts ++ naming u (messages_to (local_node w.config host) mail)) (k.sides u host ∙ ap (side_of w u host) is_p) ∙ sends.starts host)))
          (ap (naming u) (cond-false (local_node w.config host == n) _ _ (local_not n host)) ∙ (ap (λ (z : Side). z.exits) (k.sides u host ∙ ap (side_of w u host) is_p) ∙ sends.exits host));
      side_there = λ x host apart. side_still w s (m.others x apart) s' host
          (seen_after (names x) s n change n (local_node w.config host) ∙ (cond-true (n == n) _ _ (same_is n)
          ∙ (ap (λ ys. starts_of w s host x ++ ys) (sends.others x host apart) ∙ append-nil (starts_of w s host x))))
          (ap (naming x) (cond-false (local_node w.config host == n) _ _ (local_not n host)));
      knows_here = m.knows;
      knows_there = λ x apart. (m.others x apart).caller;
      fit = m.fit;
      ended = m.ended;
      spots = λ tile low. elim (cases_Bool (is (tile_of p) tile)) [
        | inl t ↦ (
            let at : tile_of p ≡ Some tile = some_of (tile_of p) tile t in
            let old : spot w s tile ≡ spot_at u p = k.spots tile low ∙ (ap (spot_of k.phase) (sits tile at) ∙ ap (spot_at u) is_p) in
            spot_posted w s mail tile low ∙ (ap (λ (z : Spot). record z { from_control = z.from_control ++ of_threads (messages_to tile mail) }) old ∙ (sends.here tile at
            ∙ sym (cond-true (is (tile_of p') tile) _ _ (ap (λ o. is o tile) place ∙ t)))))
        | inr t ↦
            spot_posted w s mail tile low
            ∙ (ap (λ ms. record (spot w s tile) { from_control = (spot w s tile).from_control ++ ms }) (sends.elsewhere tile low t)
            ∙ (ap (λ ms. record (spot w s tile) { from_control = ms }) (append-nil (spot w s tile).from_control)
            ∙ sym (cond-false (is (tile_of p') tile) _ _ (ap (λ o. is o tile) place ∙ t) ∙ cond-false (is (tile_of p) tile) _ _ t)))
      ];
      empty_seat = λ tile t. inr (sits tile (some_of (tile_of p) tile (sym (ap (λ o. is o tile) place) ∙ t)));
      idle_free = λ host tile t.
          let o = k.idle_free host tile t in
          (o.0, ap (λ z. is z tile) place ∙ elim (cases_Bool (is (tile_of p) tile)) [ inl v ↦ (let z = sits tile (some_of (tile_of p) tile v) in let y = o.1 in cc) | inr v ↦ v ], inr o.1);
      idle_once = k.idle_once;
      control = m.control;
    })

-- WHAT IS SENT: an answer to a tile, a start to a host, or nothing about threads
naming_silent : (u to tile value time limit : ℕ) → naming u (messages_to to ((tile, Return value time limit) ∷ [])) ≡ []
naming_silent u to tile value time limit = elim (cases_Bool (tile == to)) [ inl t ↦ rw t refl | inr t ↦ rw t refl ]

sent_here : (tile value time limit : ℕ) → of_threads (messages_to tile ((tile, Return value time limit) ∷ [])) ≡ Return value time limit ∷ []
sent_here tile value time limit = let i = same_is tile in rw i refl

sent_there : (to tile value time limit : ℕ) → (tile == to) ≡ false → of_threads (messages_to to ((tile, Return value time limit) ∷ [])) ≡ []
sent_there to tile value time limit e = rw e refl

pub posts_answer : (w : Setup) (u : ℕ) (h : Hart) (p : Phase) (value time limit : ℕ) → tile_of p ≡ Some h.tile → spot_at u p ≡ seat u h called → ((host : ℕ) → (side_of w u host p).starts ≡ [])
    → ((host : ℕ) → (side_of w u host p).exits ≡ []) → Posts w u p (told h value time limit) ((h.tile, Return value time limit) ∷ [])
posts_answer w u h p value time limit at is_spot starts exits = record {
  here = λ tile e.
      let same : h.tile ≡ tile = (let q : Some h.tile ≡ Some tile = sym at ∙ e in cc) in
      ap (λ (z : Spot). record z { from_control = z.from_control ++ of_threads (messages_to tile ((h.tile, Return value time limit) ∷ [])) }) is_spot
      ∙ (ap (λ z. record (seat u h called) { from_control = of_threads (messages_to z ((h.tile, Return value time limit) ∷ [])) }) (sym same)
      ∙ ap (λ ms. record (seat u h called) { from_control = ms }) (sent_here h.tile value time limit));
  elsewhere = λ tile low e. sent_there tile h.tile value time limit (sym (ap (λ o. is o tile) at) ∙ e);
  starts = λ host. ap (λ ms. ms ++ naming u (messages_to (local_node w.config host) ((h.tile, Return value time limit) ∷ []))) (starts host) ∙ naming_silent u (local_node w.config host) h.tile value time limit;
  exits = exits;
  others = λ x host apart. naming_silent x (local_node w.config host) h.tile value time limit;
}

pub posts_silent : (w : Setup) (u : ℕ) (p p' : Phase) (mail : List (ℕ × Msg)) → ((to : ℕ) → of_threads (messages_to to mail) ≡ []) → ((x to : ℕ) → naming x (messages_to to mail) ≡ []) → spot_at u p ≡ spot_at u p'
    → ((host : ℕ) → (side_of w u host p).starts ≡ (side_of w u host p').starts) → ((host : ℕ) → (side_of w u host p).exits ≡ (side_of w u host p').exits) → Posts w u p p' mail
posts_silent w u p p' mail silent unnamed same starts exits = record {
  here = λ tile e.
      ap (λ ms. record (spot_at u p) { from_control = (spot_at u p).from_control ++ ms }) (silent tile)
      ∙ (ap (λ ms. record (spot_at u p) { from_control = ms }) (append-nil (spot_at u p).from_control) ∙ same);
  elsewhere = λ tile low e. silent tile;
  starts = λ host. ap (λ ms. (side_of w u host p).starts ++ ms) (unnamed u (local_node w.config host)) ∙ (append-nil (side_of w u host p).starts ∙ starts host);
  exits = exits;
  others = λ x host apart. unnamed x (local_node w.config host);
}

start_apart : (u x to place entry arg time limit : ℕ) → (u == x) ≡ false → naming x (messages_to to ((place, Start u entry arg time limit) ∷ [])) ≡ []
start_apart u x to place entry arg time limit apart = elim (cases_Bool (place == to)) [ inl t ↦ rw (t, apart) refl | inr t ↦ rw t refl ]

locals_same : (n a b : ℕ) → (n + 1 + a == n + 1 + b) ≡ (a == b)
locals_same n a b = grind (arith, nat_tests)

start_at : (n u host at entry arg time limit : ℕ) → naming u (messages_to (n + 1 + host) ((n + 1 + at, Start u entry arg time limit) ∷ [])) ≡ there at host (Start u entry arg time limit)
start_at n u host at entry arg time limit = let i = same_is u in let l = locals_same n at host in elim (cases_Bool (at == host)) [
  | inl t ↦ (let e : (n + 1 + at == n + 1 + host) ≡ true = l ∙ t in rw (e, t, i) refl)
  | inr t ↦ (let e : (n + 1 + at == n + 1 + host) ≡ false = l ∙ t in rw (e, t) refl)
]

local_tile : (n at tile : ℕ) → tile < n → (n + 1 + at == tile) ≡ false
local_tile n at tile low = grind (arith, nat_tests)

pub posts_start : (w : Setup) (u at entry arg time limit : ℕ) → Posts w u unborn (sent at entry arg time limit) ((local_node w.config at, Start u entry arg time limit) ∷ [])
posts_start w u at entry arg time limit = record {
  here = λ tile e. cc;
  elsewhere = λ tile low e. (let z = local_tile w.config.tiles at tile low in rw z refl);
  starts = λ host. start_at w.config.tiles u host at entry arg time limit;
  exits = λ host. refl;
  others = λ x host apart. start_apart u x (local_node w.config host) (local_node w.config at) entry arg time limit apart;
}
