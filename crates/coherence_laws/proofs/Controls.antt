-- The servers at each line: the control server's step, and each message that comes to a server.
use Rattle.std.proofs.Common.{◌≡◌, ◌≢◌, ℕ, ◌<◌, ◌≤◌, Bool, true, false, List, [], ◌∷◌, ◌++◌, Some, None, ◌==◌, ◌&&◌, if◌then◌else◌, refl, sym, ap, ◌∙◌, inl, inr, arith, subst, append-nil}
use Rattle.std.proofs.lemmas.Bool.Decides.{nat_tests}
use Rattle.std.proofs.lemmas.Bool.{cases_Bool, cond-true, cond-false}
use Rattle.std.proofs.lemmas.Option.{none-some}
use Rattle.std.proofs.lemmas.List.Elements.{All-nil, All-cons, All-head, All-tail, All-weaker}
use Rattle.std.specs.Prelude.{Option, All, nat_lt, ◌||◌, ◌%◌}
use Rattle.sim_base.specs.declared.ends.End.{End}
use Rattle.sim_base.specs.declared.lines.LineData.{LineData}
use Rattle.sim_base.specs.declared.settings.Config.{Config}
use Rattle.sim_base.specs.Numbering.{home_of, control_node}
use Rattle.elf_image.specs.Layout.{Setup}
use Rattle.wire_msg.specs.declared.messages.Msg.{Msg}
use Rattle.wire_msg.specs.declared.messages.Msg.TheVariants.{GetS, InvAck, DataS, DataM, Inv, Fetch, FetchInv}
use Rattle.wire_msg.specs.declared.lines.Want.{Want}
use Rattle.wire_msg.specs.declared.lines.Want.TheVariants.{Read, Write}
use Rattle.wire_msg.specs.declared.lines.Up.{Up}
use Rattle.wire_msg.specs.declared.lines.Up.TheVariants.{Asks, Acknowledges}
use Rattle.wire_msg.specs.Message.{Down, gives, drops, fetches, may_send, up_about, down_about, ups, downs}
use Rattle.tile_cache.specs.Copy.{absent}
use Rattle.dir_slice.specs.Line.{State as DirState, Uncached, Shared, Modified, BusyInv, BusyFetch, Home}
use Rattle.dir_slice.specs.Inner.{StateIsWithin}
use Rattle.node_set.specs.NodeSet.{has_node}
use Rattle.tile_node.specs.OneLine.{dropped_copy}
use Rattle.control_server.specs.Control.{Control, Act, Check}
use Rattle.control_server.specs.Serve.{line_at, can_step, control_step}
use Rattle.control_server.specs.Deliver.{acknowledges as acknowledged_by, control_delivered}
use Rattle.local_server.specs.Local.{LocalServer, Made, delivered}
use Rattle.event_journal.specs.Rules.{Change}
use Rattle.event_journal.specs.State.{State, messages_to, changed, with_queue}
use Rattle.node_machine.specs.declared.nodes.Node.{Node}
use Rattle.node_machine.specs.declared.nodes.Node.TheVariants.{Tile, Control as ControlNode, Local}
use Rattle.node_machine.specs.Machine.{of_control, of_local, change_of}
use Rattle.event_journal.proofs.Views.{alike, silent_to, SaysNone, first_silent, first_skipped, first_said}
use Rattle.coherence_laws.specs.Part.{Part, copy_at, check_wants, want_at, part_of, home_in, home_line}
use Rattle.coherence_laws.proofs.Phases.{stranger, Phase, away, quiet, on_way, at_home, standing_of, phase_want, phase_up, phase_down, standing, with_down, with_dropped, with_fetch}
use Rattle.coherence_laws.proofs.Moves.{part, IsNotWritten}
use Rattle.coherence_laws.proofs.Nodes.{equal, itself}
use Rattle.coherence_laws.proofs.Take.{with_part, part_here, part_there, kept_at}
use Rattle.coherence_laws.proofs.Acts.{stays_kept, asks_kept, drops_kept, fetch_kept, line_wanted, reads_kept}
use Rattle.coherence_laws.proofs.View.{takes_other, takes_down}
use Rattle.coherence_laws.proofs.Mail.{about_none, up_nothing, down_nothing, option_or_none, IsFromHome}
use Rattle.coherence_laws.proofs.Holds.{IsUnended, IsNodeOf, Placed, KeptIn, Holds, taken_placed, acts_hold}
use Rattle.coherence_laws.proofs.Servers.{IsElse, can_step_means, control_steps, IsForReaders, IsApart, control_apart, Reads, control_reads, Passes, control_passes, control_acknowledges, local_else}

else_ups : (k y : ℕ) (mail : List (ℕ × Msg)) → All IsElse mail → ups k (messages_to y mail) ≡ []
else_ups k y mail all = silent_to (up_about k) y mail (All-weaker IsElse (SaysNone (up_about k) y) (λ m e to. (about_none k m.1 e).0) mail all)

else_downs : (k y : ℕ) (mail : List (ℕ × Msg)) → All IsElse mail → downs k (messages_to y mail) ≡ []
else_downs k y mail all = silent_to (down_about k) y mail (All-weaker IsElse (SaysNone (down_about k) y) (λ m e to. (about_none k m.1 e).1) mail all)

-- an act that says nothing of the line and leaves its node's part of it
pub rests : (w : Setup) (s : State Node Msg) (k : ℕ) (v : LineData) (x : ℕ) (change : Change Node Msg) → Holds w s k v → home_in change.node k ≡ home_in (s.node x) k
    → copy_at change.node k ≡ copy_at (s.node x) k → want_at change.node k ≡ want_at (s.node x) k → ((y : ℕ) → ups k (messages_to y change.sent) ≡ [])
    → ((y : ℕ) → downs k (messages_to y change.sent) ≡ []) → Holds w (changed s x change) k v
rests w s k v x change held home copy want no_ups no_downs =
    let n : ℕ → Part = part_of w s k in
    let h : Home = home_line w s k in
    acts_hold w s k v x change held.placed home no_downs (λ y ne. no_ups y)
    (stays_kept h.state h.memory h.waiting v x n _ held.kept
    (ap (λ z. part z (want_at change.node k) ((n x).up ++ ups k (messages_to (home_of w.config k) change.sent)) (n x).down) copy
    ∙ ap (λ z. part (n x).copy z ((n x).up ++ ups k (messages_to (home_of w.config k) change.sent)) (n x).down) want
    ∙ ap (λ z. part (n x).copy (n x).want ((n x).up ++ z) (n x).down) (no_ups (home_of w.config k))
    ∙ ap (λ z. part (n x).copy (n x).want z (n x).down) (append-nil (n x).up)))

-- a message that says nothing of the line is taken from its list
pub skips : (w : Setup) (s : State Node Msg) (k : ℕ) (v : LineData) (i x : ℕ) (msg : Msg) (rest : List Msg) → s.queue i x ≡ msg ∷ rest → up_about k msg ≡ None → down_about k msg ≡ None
    → Holds w s k v → Holds w (with_queue s i x rest) k v
skips w s k v i x msg rest waits no_up no_down held = record {
  kept = kept_at (part_of w (with_queue s i x rest) k) held.kept
      (takes_other w s k i x rest (sym (ap (ups k) waits ∙ first_skipped (up_about k) msg rest no_up)) (sym (ap (downs k) waits ∙ first_skipped (down_about k) msg rest no_down)));
  placed = taken_placed w s k i x msg rest waits held.placed;
}

-- nothing is said of a line to its home in a list to another node
pub no_up_here : (w : Setup) (s : State Node Msg) (k i x : ℕ) (msg : Msg) (rest : List Msg) → Placed w s k → s.queue i x ≡ msg ∷ rest → x ≢ home_of w.config k → up_about k msg ≡ None
no_up_here w s k i x msg rest p waits ne = (first_silent (up_about k) msg rest (sym (ap (ups k) waits) ∙ p.up i x ne)).0

-- a home's word on the line is the first of what is on its way
pub front_is : (w : Setup) (s : State Node Msg) (k i x : ℕ) (msg : Msg) (rest : List Msg) (says : Down) → s.queue i x ≡ msg ∷ rest → down_about k msg ≡ Some says → i ≡ home_of w.config k
    → (part_of w s k x).down ≡ says ∷ downs k rest
front_is w s k i x msg rest says waits word at =
    subst (λ z. downs k (s.queue z x) ≡ says ∷ downs k rest) at (ap (downs k) waits ∙ first_said (down_about k) msg rest says word)

-- an act on a word of the line's home, after which its node's part is this
acts_on_word : (w : Setup) (s : State Node Msg) (k : ℕ) (v : LineData) (i x : ℕ) (msg : Msg) (rest : List Msg) (change : Change Node Msg) (p : Part) → Placed w s k → s.queue i x ≡ msg ∷ rest
    → up_about k msg ≡ None → i ≡ home_of w.config k → home_in change.node k ≡ home_in (s.node x) k → ((y : ℕ) → downs k (messages_to y change.sent) ≡ [])
    → ((y : ℕ) → y ≢ home_of w.config k → ups k (messages_to y change.sent) ≡ [])
    → part (copy_at change.node k) (want_at change.node k) ((part_of w s k x).up ++ ups k (messages_to (home_of w.config k) change.sent)) (downs k rest) ≡ p
    → KeptIn (home_line w s k) v (with_part x p (part_of w s k)) → Holds w (changed (with_queue s i x rest) x change) k v
acts_on_word w s k v i x msg rest change p placed waits no_up at home silent elsewhere part_is kept =
    let s' : State Node Msg = with_queue s i x rest in
    let n : ℕ → Part = part_of w s k in
    let n' : ℕ → Part = part_of w s' k in
    let ds : List Down = downs k rest in
    let popped : (y : ℕ) → n' y ≡ with_part x (with_down (n x) ds) n y = takes_down w s k i x rest at (sym (ap (ups k) waits ∙ first_skipped (up_about k) msg rest no_up)) in
    let here : n' x ≡ with_down (n x) ds = popped x ∙ part_here x x (with_down (n x) ds) n (itself x) in
    let said : List Up = ups k (messages_to (home_of w.config k) change.sent) in
    acts_hold w s' k v x change (taken_placed w s k i x msg rest waits placed) home silent elsewhere
    (kept_at _ kept
    (λ y. elim (cases_Bool (x == y)) [
      | inl e ↦
          part_here x y _ n' e ∙ ap (λ (q : Part). part (copy_at change.node k) (want_at change.node k) (q.up ++ said) q.down) here ∙ part_is ∙ sym (part_here x y p n e)
      | inr e ↦ part_there x y _ n' e ∙ popped y ∙ part_there x y (with_down (n x) ds) n e ∙ sym (part_there x y p n e)
    ]))

-- a word that a node without the line to write answers by nothing
ignores_fetch : (w : Setup) (s : State Node Msg) (k : ℕ) (v : LineData) (i x : ℕ) (msg : Msg) (rest : List Msg) (change : Change Node Msg) (f : Want) → Holds w s k v → s.queue i x ≡ msg ∷ rest
    → up_about k msg ≡ None → down_about k msg ≡ Some (fetches f) → i ≡ home_of w.config k → home_in change.node k ≡ home_in (s.node x) k → copy_at (s.node x) k ≡ absent → copy_at change.node k ≡ absent
    → want_at change.node k ≡ want_at (s.node x) k → All IsElse change.sent → Holds w (changed (with_queue s i x rest) x change) k v
ignores_fetch w s k v i x msg rest change f held waits no_up word at home before after want all =
    let n : ℕ → Part = part_of w s k in
    let h : Home = home_line w s k in
    let ds : List Down = downs k rest in
    acts_on_word w s k v i x msg rest change (with_down (n x) ds) held.placed waits no_up at home (λ y. else_downs k y change.sent all) (λ y ne. else_ups k y change.sent all)
    (ap (λ z. part z (want_at change.node k) ((n x).up ++ ups k (messages_to (home_of w.config k) change.sent)) ds) (after ∙ sym before)
    ∙ ap (λ z. part (n x).copy z ((n x).up ++ ups k (messages_to (home_of w.config k) change.sent)) ds) want
    ∙ ap (λ z. part (n x).copy (n x).want ((n x).up ++ z) ds) (else_ups k (home_of w.config k) change.sent all)
    ∙ ap (λ z. part (n x).copy (n x).want z ds) (append-nil (n x).up))
    (subst (λ copy. KeptIn h v (with_part x (with_fetch f copy (n x) ds) n)) before
    (fetch_kept h.state h.memory h.waiting v x n f ds held.kept (front_is w s k i x msg rest (fetches f) waits word at)))

-- the control server's step

check_asks : (w : Setup) (k y line : ℕ) → ups k (messages_to y ((home_of w.config line, GetS line) ∷ [])) ≡ (if home_of w.config line == y then (if line == k then Asks Read ∷ [] else []) else [])
check_asks w k y line = elim (cases_Bool (home_of w.config line == y)) [
  | inl t ↦ elim (cases_Bool (line == k)) [ inl u ↦ rw (t, u) refl | inr u ↦ rw (t, u) refl ]
  | inr t ↦ rw t refl
]

check_silent : (w : Setup) (k y line : ℕ) → downs k (messages_to y ((home_of w.config line, GetS line) ∷ [])) ≡ []
check_silent w k y line =
    silent_to (down_about k) y ((home_of w.config line, GetS line) ∷ [])
    (All-cons (SaysNone (down_about k) y) (home_of w.config line, GetS line) [] (λ to. down_nothing k (GetS line) refl) (All-nil (SaysNone (down_about k) y)))

pub control_step_holds : (w : Setup) (s : State Node Msg) (k : ℕ) (v : LineData) (x : ℕ) (c : Control) → s.node x ≡ ControlNode c → can_step c ≡ true → Holds w s k v
    → Holds w (changed s x (change_of (of_control (control_step w c)))) k v
control_step_holds w s k v x c is can held =
    let act : Act = control_step w c in
    let change : Change Node Msg = change_of (of_control act) in
    let n : ℕ → Part = part_of w s k in
    let h : Home = home_line w s k in
    let idle : c.checking ≡ None = (can_step_means c can).0 in
    let copy : copy_at (s.node x) k ≡ absent = ap (λ m. copy_at m k) is in
    let want : want_at (s.node x) k ≡ None = ap (λ m. want_at m k) is ∙ ap (λ o. check_wants o k) idle in
    let home : home_in change.node k ≡ home_in (s.node x) k = ap (λ m. home_in m k) (sym is) in
    elim (control_steps w c can) [
      | inl serves ↦
          rests w s k v x change held home (sym copy) (ap (λ o. check_wants o k) serves.checking ∙ sym want) (λ y. else_ups k y act.mail serves.mail) (λ y. else_downs k y act.mail serves.mail)
      | inr checks ↦
          let line : ℕ = line_at checks.check.addr in
          let asks_up : (y : ℕ) → ups k (messages_to y act.mail) ≡ (if home_of w.config line == y then (if line == k then Asks Read ∷ [] else []) else []) = λ y.
          ap (λ mail. ups k (messages_to y mail)) checks.mail ∙ check_asks w k y line
          in
          let silent : (y : ℕ) → downs k (messages_to y act.mail) ≡ [] = λ y. ap (λ mail. downs k (messages_to y mail)) checks.mail ∙ check_silent w k y line in
          let wants : check_wants act.control.checking k ≡ (if line == k then Some Read else None) = ap (λ o. check_wants o k) checks.checking in
          elim (cases_Bool (line == k)) [
            | inl t ↦
                let same : line ≡ k = equal line k t in
                let at : (home_of w.config line == home_of w.config k) ≡ true = ap (λ z. home_of w.config z == home_of w.config k) same ∙ itself (home_of w.config k) in
                acts_hold w s k v x change held.placed home silent
                (λ y ne. asks_up y ∙ elim (cases_Bool (home_of w.config line == y)) [
                  | inl u ↦ absurd (ne (sym (equal (home_of w.config line) y u) ∙ ap (home_of w.config) same))
                  | inr u ↦ cond-false (home_of w.config line == y) _ _ u
                ])
                (kept_at _ (asks_kept h.state h.memory h.waiting v x n Read held.kept want (subst IsNotWritten (sym copy) tt))
                (λ y. ap (λ p. with_part x p n y)
                (ap (λ z. part z (check_wants act.control.checking k) ((n x).up ++ ups k (messages_to (home_of w.config k) act.mail)) (n x).down) (sym copy)
                ∙ ap (λ z. part (n x).copy z ((n x).up ++ ups k (messages_to (home_of w.config k) act.mail)) (n x).down) (wants ∙ cond-true (line == k) _ _ t)
                ∙ ap (λ z. part (n x).copy (Some Read) ((n x).up ++ z) (n x).down) (asks_up (home_of w.config k) ∙ cond-true (home_of w.config line == home_of w.config k) _ _ at ∙ cond-true (line == k) _ _ t))))
            | inr t ↦
                let none : (y : ℕ) → ups k (messages_to y act.mail) ≡ [] = λ y.
                asks_up y ∙ ap (λ l. if home_of w.config line == y then l else []) (cond-false (line == k) (Asks Read ∷ []) [] t) ∙ alike (home_of w.config line == y) []
                in
                rests w s k v x change held home (sym copy) (wants ∙ cond-false (line == k) _ _ t ∙ sym want) none silent
          ]
    ]

-- what comes to the control server

reader_may : (c : Config) (i x : ℕ) → i < c.tiles → x ≡ control_node c → (nat_lt i c.tiles && (nat_lt x c.tiles || x == control_node c)) ≡ true
reader_may c i x a at = let p : nat_lt i c.tiles ≡ true = grind (arith, nat_tests) in let q : (x == control_node c) ≡ true = grind (arith, nat_tests) in let r : nat_lt x c.tiles ≡ false = grind (arith, nat_tests) in rw (p, q, r) refl

-- of those not for readers a home says only these
abbrev IsForWriters : Down → Type 0
IsForWriters (gives w content) = w ≡ Write
IsForWriters drops = ⊥
IsForWriters (fetches w) = Unit {0}

if_some : {A : Type 0} (b : Bool) (a d : A) → (if b then Some a else None) ≡ Some d → a ≡ d
if_some true a d e = cc
if_some false a d e = cc

for_writers : (k : ℕ) (msg : Msg) (says : Down) → (IsForReaders msg → ⊥) → down_about k msg ≡ Some says → IsForWriters says
for_writers k (DataS line content delay) says not_read e = absurd (not_read tt)
for_writers k (Inv line) says not_read e = absurd (not_read tt)
for_writers k (DataM line content delay) says not_read e = subst IsForWriters (if_some (line == k) (gives Write content) says e) refl
for_writers k (Fetch line) says not_read e = subst IsForWriters (if_some (line == k) (fetches Read) says e) tt
for_writers k (FetchInv line) says not_read e = subst IsForWriters (if_some (line == k) (fetches Write) says e) tt
for_writers k msg says not_read e = absurd (none-some says (sym (down_nothing k msg refl) ∙ e))

never_writes : (o : Option Check) (k : ℕ) → check_wants o k ≡ Some Write → ⊥
never_writes None k e = none-some Write e
never_writes (Some check) k e = wants_if (line_at check.addr == k) e
  where
    wants_if : (b : Bool) → (if b then Some Read else None) ≡ Some Write → ⊥
    wants_if true e = cc
    wants_if false e = cc

goes_on : (o : Option Check) (ended : Option End) (k : ℕ) → check_wants o k ≡ Some Read → IsUnended o ended → ended ≡ None
goes_on None ended k e alive = absurd (none-some Read e)
goes_on (Some check) ended k e alive = alive

control_word : (w : Setup) (s : State Node Msg) (k : ℕ) (v : LineData) (i x : ℕ) (msg : Msg) (rest : List Msg) (c : Control) (says : Down) → s.node x ≡ ControlNode c → s.queue i x ≡ msg ∷ rest
    → (IsForReaders msg → ⊥) → up_about k msg ≡ None → down_about k msg ≡ Some says → IsForWriters says → i ≡ home_of w.config k → Holds w s k v
    → Holds w (changed (with_queue s i x rest) x (change_of (of_control (control_delivered w c i msg)))) k v
control_word w s k v i x msg rest c (gives u content) is waits not_read no_up word writes at held =
    let n : ℕ → Part = part_of w s k in
    let h : Home = home_line w s k in
    let wanted = line_wanted h.state h.memory h.waiting v x n u content (downs k rest) held.kept (front_is w s k i x msg rest (gives u content) waits word at) in
    absurd (never_writes c.checking k (sym (ap (λ m. want_at m k) is) ∙ wanted.1 ∙ ap Some writes))
control_word w s k v i x msg rest c drops is waits not_read no_up word writes at held = absurd writes
control_word w s k v i x msg rest c (fetches f) is waits not_read no_up word writes at held =
    let act : Act = control_delivered w c i msg in
    let apart : IsApart c act = control_apart w c i msg not_read in
    ignores_fetch w s k v i x msg rest (change_of (of_control act)) f held waits no_up word at (ap (λ m. home_in m k) (sym is)) (ap (λ m. copy_at m k) is) refl
    (ap (λ o. check_wants o k) apart.checking ∙ ap (λ m. want_at m k) (sym is)) apart.mail

-- all messages but those for readers
control_other : (w : Setup) (s : State Node Msg) (k : ℕ) (v : LineData) (i x : ℕ) (msg : Msg) (rest : List Msg) (c : Control) → s.node x ≡ ControlNode c → s.queue i x ≡ msg ∷ rest
    → (IsForReaders msg → ⊥) → up_about k msg ≡ None → IsFromHome w i msg → Holds w s k v
    → Holds w (changed (with_queue s i x rest) x (change_of (of_control (control_delivered w c i msg)))) k v
control_other w s k v i x msg rest c is waits not_read no_up from_home held =
    let act : Act = control_delivered w c i msg in
    let apart : IsApart c act = control_apart w c i msg not_read in
    elim (option_or_none (down_about k msg)) [
      | inl none ↦
          rests w (with_queue s i x rest) k v x (change_of (of_control act)) (skips w s k v i x msg rest waits no_up none held) (ap (λ m. home_in m k) (sym is)) (ap (λ m. copy_at m k) (sym is))
          (ap (λ o. check_wants o k) apart.checking ∙ ap (λ m. want_at m k) (sym is)) (λ y. else_ups k y act.mail apart.mail) (λ y. else_downs k y act.mail apart.mail)
      | inr some ↦
          control_word w s k v i x msg rest c some.0 is waits not_read no_up some.1 (for_writers k msg some.0 not_read some.1)
          (from_home k (λ none. none-some some.0 (sym none ∙ some.1))) held
    ]

-- a line that was asked for to read
control_data : (w : Setup) (s : State Node Msg) (k : ℕ) (v : LineData) (i x line : ℕ) (content : LineData) (delay : ℕ) (rest : List Msg) (c : Control) → s.node x ≡ ControlNode c
    → s.queue i x ≡ DataS line content delay ∷ rest → x ≡ control_node w.config → IsUnended c.checking c.control.ended → i < w.config.tiles → i ≡ home_of w.config line → Holds w s k v
    → Holds w (changed (with_queue s i x rest) x (change_of (of_control (control_delivered w c i (DataS line content delay))))) k v
control_data w s k v i x line content delay rest c is waits at alive from home held =
    let msg : Msg = DataS line content delay in
    let act : Act = control_delivered w c i msg in
    let change : Change Node Msg = change_of (of_control act) in
    let no_up : up_about k msg ≡ None = up_nothing k msg refl in
    let n : ℕ → Part = part_of w s k in
    let h : Home = home_line w s k in
    elim (cases_Bool (line == k)) [
      | inl t ↦
          let same : line ≡ k = equal line k t in
          let word : down_about k msg ≡ Some (gives Read content) = cond-true (line == k) _ None t in
          let at_home : i ≡ home_of w.config k = home ∙ ap (home_of w.config) same in
          let front = front_is w s k i x msg rest (gives Read content) waits word at_home in
          let wanted = line_wanted h.state h.memory h.waiting v x n Read content (downs k rest) held.kept front in
          let checking : check_wants c.checking k ≡ Some Read = sym (ap (λ m. want_at m k) is) ∙ wanted.1 in
          let may : may_send w.config i (control_node w.config) msg ≡ true = reader_may w.config i (control_node w.config) from refl in
          let reads : Reads w c line act = control_reads w c i line content delay alive may (goes_on c.checking c.control.ended k checking alive) in
          acts_on_word w s k v i x msg rest change (part absent None (n x).up (downs k rest)) held.placed waits no_up at_home (ap (λ m. home_in m k) (sym is))
          (λ y. else_downs k y act.mail reads.mail) (λ y ne. else_ups k y act.mail reads.mail)
          (ap (λ z. part absent z ((n x).up ++ ups k (messages_to (home_of w.config k) act.mail)) (downs k rest)) (subst (λ z. check_wants act.control.checking z ≡ None) same reads.waits)
          ∙ ap (λ z. part absent None ((n x).up ++ z) (downs k rest)) (else_ups k (home_of w.config k) act.mail reads.mail)
          ∙ ap (λ z. part absent None z (downs k rest)) (append-nil (n x).up))
          (reads_kept h.state h.memory h.waiting v x n Read content (downs k rest) held.kept front wanted.1)
      | inr t ↦
          let passes : Passes c line act = control_passes w c i line content delay alive in
          rests w (with_queue s i x rest) k v x change (skips w s k v i x msg rest waits no_up (cond-false (line == k) _ _ t) held) (ap (λ m. home_in m k) (sym is)) (ap (λ m. copy_at m k) (sym is))
          (passes.others k t ∙ ap (λ m. want_at m k) (sym is)) (λ y. else_ups k y act.mail passes.mail) (λ y. else_downs k y act.mail passes.mail)
    ]

-- an Inv

ack_says : (k y i line : ℕ) → ups k (messages_to y ((i, InvAck line) ∷ [])) ≡ (if i == y then (if line == k then Acknowledges ∷ [] else []) else [])
ack_says k y i line = elim (cases_Bool (i == y)) [
  | inl t ↦ elim (cases_Bool (line == k)) [ inl u ↦ rw (t, u) refl | inr u ↦ rw (t, u) refl ]
  | inr t ↦ rw t refl
]

ack_silent : (k y i line : ℕ) → downs k (messages_to y ((i, InvAck line) ∷ [])) ≡ []
ack_silent k y i line =
    silent_to (down_about k) y ((i, InvAck line) ∷ []) (All-cons (SaysNone (down_about k) y) (i, InvAck line) [] (λ to. down_nothing k (InvAck line) refl) (All-nil (SaysNone (down_about k) y)))

control_inv : (w : Setup) (s : State Node Msg) (k : ℕ) (v : LineData) (i x line : ℕ) (rest : List Msg) (c : Control) → s.node x ≡ ControlNode c
    → s.queue i x ≡ Inv line ∷ rest → x ≡ control_node w.config → i < w.config.tiles → i ≡ home_of w.config line → Holds w s k v
    → Holds w (changed (with_queue s i x rest) x (change_of (of_control (control_delivered w c i (Inv line))))) k v
control_inv w s k v i x line rest c is waits at from home held =
    let msg : Msg = Inv line in
    let no_up : up_about k msg ≡ None = up_nothing k msg refl in
    let n : ℕ → Part = part_of w s k in
    let h : Home = home_line w s k in
    let may : may_send w.config i (control_node w.config) msg ≡ true = reader_may w.config i (control_node w.config) from refl in
    let act : Act = acknowledged_by c i line in
    let change : Change Node Msg = change_of (of_control act) in
    let copy : copy_at (s.node x) k ≡ absent = ap (λ m. copy_at m k) is in
    let want : check_wants c.checking k ≡ want_at (s.node x) k = ap (λ m. want_at m k) (sym is) in
    let done : Holds w (changed (with_queue s i x rest) x change) k v =
    elim (cases_Bool (line == k)) [
      | inl t ↦
          let same : line ≡ k = equal line k t in
          let word : down_about k msg ≡ Some drops = cond-true (line == k) _ None t in
          let at_home : i ≡ home_of w.config k = home ∙ ap (home_of w.config) same in
          let here : (i == home_of w.config k) ≡ true = ap (λ z. z == home_of w.config k) at_home ∙ itself (home_of w.config k) in
          let front = front_is w s k i x msg rest drops waits word at_home in
          acts_on_word w s k v i x msg rest change (with_dropped (n x) (downs k rest)) held.placed waits no_up at_home (ap (λ m. home_in m k) (sym is)) (λ y. ack_silent k y i line)
          (λ y ne. ack_says k y i line ∙ elim (cases_Bool (i == y)) [
            | inl u ↦ absurd (ne (sym (equal i y u) ∙ at_home))
            | inr u ↦ cond-false (i == y) _ _ u
          ])
          (ap (λ z. part absent z ((n x).up ++ ups k (messages_to (home_of w.config k) act.mail)) (downs k rest)) want
          ∙ ap (λ z. part absent (n x).want ((n x).up ++ z) (downs k rest)) (ack_says k (home_of w.config k) i line ∙ cond-true (i == home_of w.config k) _ _ here ∙ cond-true (line == k) _ _ t)
          ∙ ap (λ z. part (dropped_copy z) (n x).want ((n x).up ++ Acknowledges ∷ []) (downs k rest)) (sym copy))
          (drops_kept h.state h.memory h.waiting v x n (downs k rest) held.kept front)
      | inr t ↦
          rests w (with_queue s i x rest) k v x change (skips w s k v i x msg rest waits no_up (cond-false (line == k) _ _ t) held) (ap (λ m. home_in m k) (sym is)) (sym copy) want
          (λ y. ack_says k y i line ∙ ap (λ l. if i == y then l else []) (cond-false (line == k) (Acknowledges ∷ []) [] t) ∙ alike (i == y) [])
          (λ y. ack_silent k y i line)
    ]
    in
    subst (λ a. Holds w (changed (with_queue s i x rest) x (change_of (of_control a))) k v) (sym (control_acknowledges w c i line may)) done

-- each message
home_below : (w : Setup) (line i : ℕ) → 0 < w.config.tiles → i ≡ home_of w.config line → i < w.config.tiles
home_below w line i some at = let e : i ≡ line % w.config.tiles = at in omega arith

pub control_takes : (w : Setup) (s : State Node Msg) (k : ℕ) (v : LineData) (i x : ℕ) (msg : Msg) (rest : List Msg) (c : Control) → s.node x ≡ ControlNode c
    → s.queue i x ≡ msg ∷ rest → 0 < w.config.tiles → x ≡ control_node w.config → IsUnended c.checking c.control.ended → up_about k msg ≡ None → IsFromHome w i msg → Holds w s k v
    → Holds w (changed (with_queue s i x rest) x (change_of (of_control (control_delivered w c i msg)))) k v
control_takes w s k v i x (DataS line content delay) rest c is waits some at alive no_up from_home held =
    let home : i ≡ home_of w.config line = from_home line (λ none. none-some (gives Read content) (sym none ∙ cond-true (line == line) _ None (itself line))) in
    control_data w s k v i x line content delay rest c is waits at alive (home_below w line i some home) home held
control_takes w s k v i x (Inv line) rest c is waits some at alive no_up from_home held =
    let home : i ≡ home_of w.config line = from_home line (λ none. none-some drops (sym none ∙ cond-true (line == line) _ None (itself line))) in
    control_inv w s k v i x line rest c is waits at (home_below w line i some home) home held
control_takes w s k v i x msg rest c is waits some at alive no_up from_home held = control_other w s k v i x msg rest c is waits (λ read. read) no_up from_home held

-- a node that isn't of the machine's tiles, nor the control server, is a stranger to every home

lacks_outside : (tiles y : ℕ) (xs : List ℕ) → All (λ node. node ≤ tiles) xs → tiles < y → has_node y xs ≡ false
lacks_outside tiles y [] all out = refl
lacks_outside tiles y (x ∷ xs) all out =
    let first : x ≤ tiles = All-head (λ node. node ≤ tiles) x xs all in
    let t : (x == y) ≡ false = grind (arith, nat_tests) in let ih = lacks_outside tiles y xs (All-tail (λ node. node ≤ tiles) x xs all) out in cc

outside : (tiles y : ℕ) (state : DirState) → StateIsWithin tiles state → tiles < y → standing state y ≡ stranger
outside tiles y Uncached within out = refl
outside tiles y (Shared sharers) within out = let e = lacks_outside tiles y sharers within out in cc
outside tiles y (Modified o) within out = let t : (o == y) ≡ false = grind (arith, nat_tests) in cc
outside tiles y (BusyInv r left) within out =
    let a : r ≤ tiles = within.0 in
    let t : (r == y) ≡ false = grind (arith, nat_tests) in let e = lacks_outside tiles y left within.1 out in cc
outside tiles y (BusyFetch w r o) within out = let a : o ≤ tiles = within.1 in let t : (o == y) ≡ false = grind (arith, nat_tests) in cc

stranger_silent : (v : LineData) (p : Phase) → standing_of p ≡ stranger → phase_want p ≡ None → phase_up v p ≡ []
stranger_silent v (away st quiet) e want = refl
stranger_silent v (away st (on_way w)) e want = cc
stranger_silent v (away st (at_home w)) e want = refl
stranger_silent v _ e want = cc

stranger_hears : (v : LineData) (p : Phase) (says : Down) (ds : List Down) → standing_of p ≡ stranger → phase_down v p ≡ says ∷ ds → (f : Want) × (says ≡ fetches f)
stranger_hears v (away None q) says ds e front = cc
stranger_hears v (away (Some f) q) says ds e front = (f, cc)
stranger_hears v _ says ds e front = cc

-- a node that says something of a line to its home is one of them
speaks_within : (w : Setup) (s : State Node Msg) (k : ℕ) (v : LineData) (i : ℕ) (says : Up) (us : List Up) → w.config.tiles < i → want_at (s.node i) k ≡ None → (part_of w s k i).up ≡ says ∷ us
    → Holds w s k v → ⊥
speaks_within w s k v i says us out want speaks held =
    let h : Home = home_line w s k in
    let f = held.kept.fits i in
    let strange : standing_of f.phase ≡ stranger = sym f.standing_is ∙ outside w.config.tiles i h.state held.placed.within.state out in
    let wants : phase_want f.phase ≡ None = sym (ap (λ (p : Part). p.want) f.part_is) ∙ want in
    let none : (part_of w s k i).up ≡ [] = ap (λ (p : Part). p.up) f.part_is ∙ stranger_silent v f.phase strange wants in
    cc

-- a local server
pub local_takes : (w : Setup) (s : State Node Msg) (k : ℕ) (v : LineData) (i x : ℕ) (msg : Msg) (rest : List Msg) (l : LocalServer) → s.node x ≡ Local l
    → s.queue i x ≡ msg ∷ rest → w.config.tiles < x → up_about k msg ≡ None → IsFromHome w i msg → Holds w s k v
    → Holds w (changed (with_queue s i x rest) x (change_of (of_local l (delivered w.config l.host l.idle i msg)))) k v
local_takes w s k v i x msg rest l is waits out no_up from_home held =
    let made : Made = delivered w.config l.host l.idle i msg in
    let change : Change Node Msg = change_of (of_local l made) in
    let all : All IsElse made.mail = local_else w.config l.host l.idle i msg in
    let h : Home = home_line w s k in
    elim (option_or_none (down_about k msg)) [
      | inl none ↦
          rests w (with_queue s i x rest) k v x change (skips w s k v i x msg rest waits no_up none held) (ap (λ m. home_in m k) (sym is)) (ap (λ m. copy_at m k) (sym is)) (ap (λ m. want_at m k) (sym is))
          (λ y. else_ups k y made.mail all) (λ y. else_downs k y made.mail all)
      | inr some ↦
          let at : i ≡ home_of w.config k = from_home k (λ none. none-some some.0 (sym none ∙ some.1)) in
          let f = held.kept.fits x in
          let strange : standing_of f.phase ≡ stranger = sym f.standing_is ∙ outside w.config.tiles x h.state held.placed.within.state out in
          let front : phase_down v f.phase ≡ some.0 ∷ downs k rest = sym (ap (λ (p : Part). p.down) f.part_is) ∙ front_is w s k i x msg rest some.0 waits some.1 at in
          let word = stranger_hears v f.phase some.0 (downs k rest) strange front in
          ignores_fetch w s k v i x msg rest change word.0 held waits no_up (some.1 ∙ ap Some word.1) at (ap (λ m. home_in m k) (sym is)) (ap (λ m. copy_at m k) is) refl
          (ap (λ m. want_at m k) (sym is)) all
    ]

-- who says something of a line to its home is a tile or the control server
reader_by : (w : Setup) (s : State Node Msg) (k : ℕ) (v : LineData) (i : ℕ) (says : Up) (us : List Up) (node : Node) → s.node i ≡ node → IsNodeOf w i node → (part_of w s k i).up ≡ says ∷ us
    → Holds w s k v → i ≤ w.config.tiles
reader_by w s k v i says us (Tile t) is of speaks held = let a : i < w.config.tiles = of.0 in omega arith
reader_by w s k v i says us (ControlNode c) is of speaks held = let a : i ≡ w.config.tiles = of.0 in omega arith
reader_by w s k v i says us (Local l) is of speaks held = absurd (speaks_within w s k v i says us of (ap (λ m. want_at m k) is) speaks held)

pub reader_is : (w : Setup) (s : State Node Msg) (k : ℕ) (v : LineData) (i : ℕ) (says : Up) (us : List Up) → IsNodeOf w i (s.node i) → (part_of w s k i).up ≡ says ∷ us → Holds w s k v
    → i ≤ w.config.tiles
reader_is w s k v i says us of speaks held = reader_by w s k v i says us (s.node i) refl of speaks held
