-- Of a line of which nothing is on its way no transaction is under way, and nobody waits for it.
use Rattle.std.proofs.Common.{◌≡◌, ℕ, ◌<◌, ◌≤◌, false, List, [], ◌∷◌, ◌++◌, Some, None, ◌==◌, refl, sym, ap, ◌∙◌, inl, inr, arith, subst}
use Rattle.std.proofs.lemmas.Bool.{cases_Bool, cond-true}
use Rattle.std.proofs.lemmas.Option.{none-some}
use Rattle.std.proofs.lemmas.Bool.Decides.{nat_tests}
use Rattle.std.proofs.lemmas.List.Elements.{All-head}
use Rattle.std.specs.Prelude.{Option, is_some, nat_le}
use Rattle.sim_base.specs.declared.lines.LineData.{LineData}
use Rattle.sim_base.specs.Numbering.{home_of, node_count}
use Rattle.sim_base.proofs.CheckedSettings.{in_range}
use Rattle.elf_image.specs.Layout.{Setup}
use Rattle.wire_msg.specs.declared.messages.Msg.{Msg}
use Rattle.wire_msg.specs.declared.lines.Want.{Want}
use Rattle.wire_msg.specs.declared.lines.Want.TheVariants.{Read}
use Rattle.wire_msg.specs.Message.{ups, downs}
use Rattle.tile_core.specs.declared.cores.Status.{Status}
use Rattle.tile_core.specs.declared.cores.Status.TheVariants.{Miss}
use Rattle.tile_core.specs.Core.{line_missed}
use Rattle.tile_core.specs.Gathering.{Gathering}
use Rattle.dir_slice.specs.Line.{Request, State as DirState, Uncached, Shared, Modified, BusyInv, BusyFetch, Home, is_busy}
use Rattle.dir_slice.specs.Inner.{StateIsWithin}
use Rattle.node_set.specs.NodeSet.{has_node}
use Rattle.tile_node.specs.OneLine.{wants_by, want_for}
use Rattle.control_server.specs.Control.{Check}
use Rattle.control_server.specs.Serve.{line_at}
use Rattle.event_journal.specs.State.{State}
use Rattle.node_machine.specs.declared.nodes.Node.{Node}
use Rattle.node_machine.specs.declared.nodes.Node.TheVariants.{Tile, Control, Local}
use Rattle.coherence_laws.specs.Part.{Part, check_wants, want_at, part_of, home_line}
use Rattle.coherence_laws.specs.Laws.{reached}
use Rattle.coherence_laws.specs.Still.{IsStill, is_missing, waits_for_line, StillLinesAreServed, NoneWaitsInSilence}
use Rattle.coherence_laws.proofs.Phases.{quiet, on_way, at_home, stranger, victim, owner, Phase, away, shares, reads, upgrades, loses, reads_loses, dropped, dropped_late, writes, owns, puts, puts_fetched, answers_shared, answers_gone, standing_of, requests_of, phase_want, phase_up, phase_down, standing, served, waits, Fits}
use Rattle.coherence_laws.proofs.Nodes.{equal, itself}
use Rattle.coherence_laws.proofs.Serve.{Kept}
use Rattle.coherence_laws.proofs.Holds.{IsNodeOf, Holds}
use Rattle.coherence_laws.proofs.Events.{home_is_tile, reached_sound}

-- nothing is on its way to a node or from it
abbrev IsSilent : Part → Type 0
IsSilent p = (p.up ≡ []) × (p.down ≡ [])

-- a node that the home waits for has something on its way
victim_speaks : (v : LineData) (p : Phase) → standing_of p ≡ victim → phase_up v p ≡ [] → phase_down v p ≡ [] → ⊥
victim_speaks v (loses None h q) e up down = cc
victim_speaks v (loses (Some f) h q) e up down = cc
victim_speaks v (reads_loses None h) e up down = cc
victim_speaks v (reads_loses (Some f) h) e up down = cc
victim_speaks v (dropped st q) e up down = cc
victim_speaks v (dropped_late st w) e up down = cc
victim_speaks v _ e up down = cc

fetched_speaks : (v : LineData) (p : Phase) (w : Want) → standing_of p ≡ owner (Some w) → phase_up v p ≡ [] → phase_down v p ≡ [] → ⊥
fetched_speaks v (writes None h f) w e up down = cc
fetched_speaks v (writes (Some g) h f) w e up down = cc
fetched_speaks v (owns None) w e up down = cc
fetched_speaks v (owns (Some f)) w e up down = cc
fetched_speaks v (puts_fetched f there q) w e up down = cc
fetched_speaks v (answers_shared h q) w e up down = cc
fetched_speaks v (answers_gone q) w e up down = cc
fetched_speaks v _ w e up down = cc

-- who has nothing on its way and no request at the home waits for nothing
silent_wants : (v : LineData) (p : Phase) → requests_of p ≡ [] → phase_up v p ≡ [] → phase_down v p ≡ [] → phase_want p ≡ None
silent_wants v (away st quiet) none up down = refl
silent_wants v (away st (on_way w)) none up down = cc
silent_wants v (away st (at_home w)) none up down = cc
silent_wants v (shares st h quiet) none up down = refl
silent_wants v (shares st h (on_way w)) none up down = cc
silent_wants v (shares st h (at_home w)) none up down = cc
silent_wants v (reads None h) none up down = cc
silent_wants v (reads (Some f) h) none up down = cc
silent_wants v (upgrades st h) none up down = cc
silent_wants v (loses None h q) none up down = cc
silent_wants v (loses (Some f) h q) none up down = cc
silent_wants v (reads_loses None h) none up down = cc
silent_wants v (reads_loses (Some f) h) none up down = cc
silent_wants v (dropped st q) none up down = cc
silent_wants v (dropped_late st w) none up down = cc
silent_wants v (writes None h f) none up down = cc
silent_wants v (writes (Some g) h f) none up down = cc
silent_wants v (owns f) none up down = refl
silent_wants v (puts q) none up down = cc
silent_wants v (puts_fetched f there q) none up down = cc
silent_wants v (answers_shared h q) none up down = cc
silent_wants v (answers_gone q) none up down = cc

up_none : {state : DirState} {waiting : List Request} {v : LineData} {y : ℕ} {p : Part} (f : Fits state waiting v y p) → IsSilent p → phase_up v f.phase ≡ []
up_none f silent = sym (ap (λ (p : Part). p.up) f.part_is) ∙ silent.0

down_none : {state : DirState} {waiting : List Request} {v : LineData} {y : ℕ} {p : Part} (f : Fits state waiting v y p) → IsSilent p → phase_down v f.phase ≡ []
down_none f silent = sym (ap (λ (p : Part). p.down) f.part_is) ∙ silent.1

-- no transaction is under way
first_is_victim : (r z : ℕ) (rest : List ℕ) → has_node r (z ∷ rest) ≡ false → standing (BusyInv r (z ∷ rest)) z ≡ victim
first_is_victim r z rest lacks =
    let self = itself z in
    elim (cases_Bool (r == z)) [
      | inl t ↦ let same : r ≡ z = equal r z t in let there : has_node z (z ∷ rest) ≡ false = subst (λ x. has_node x (z ∷ rest) ≡ false) same lacks in cc
      | inr t ↦ cc
    ]

not_busy : (tiles : ℕ) (state : DirState) (memory : LineData) (waiting : List Request) (v : LineData) (n : ℕ → Part) → Kept state memory waiting v n → StateIsWithin tiles state
    → ((y : ℕ) → y ≤ tiles → IsSilent (n y)) → is_busy state ≡ false
not_busy tiles Uncached memory waiting v n k within silent_there = refl
not_busy tiles (Shared sharers) memory waiting v n k within silent_there = refl
not_busy tiles (Modified o) memory waiting v n k within silent_there = refl
not_busy tiles (BusyInv r []) memory waiting v n k within silent_there = absurd (k.orderly.1 refl)
not_busy tiles (BusyInv r (z ∷ rest)) memory waiting v n k within silent_there =
    let f = k.fits z in
    let silent : IsSilent (n z) = silent_there z (All-head (λ node. node ≤ tiles) z rest within.1) in
    absurd (victim_speaks v f.phase (sym f.standing_is ∙ first_is_victim r z rest k.orderly.2) (up_none f silent) (down_none f silent))
not_busy tiles (BusyFetch w r o) memory waiting v n k within silent_there =
    let f = k.fits o in
    let silent : IsSilent (n o) = silent_there o within.1 in
    absurd (fetched_speaks v f.phase w (sym f.standing_is ∙ cond-true (o == o) (owner (Some w)) stranger (itself o)) (up_none f silent) (down_none f silent))

served_none : (state : DirState) (y : ℕ) → is_busy state ≡ false → served state y ≡ []
served_none Uncached y e = refl
served_none (Shared sharers) y e = refl
served_none (Modified o) y e = refl
served_none (BusyInv r left) y e = cc
served_none (BusyFetch w r o) y e = cc

nobody_waits : (tiles : ℕ) (state : DirState) (memory : LineData) (waiting : List Request) (v : LineData) (n : ℕ → Part) → Kept state memory waiting v n → StateIsWithin tiles state
    → (is_busy state ≡ false → waiting ≡ []) → ((y : ℕ) → y ≤ tiles → IsSilent (n y)) → (y : ℕ) → y ≤ tiles → (n y).want ≡ None
nobody_waits tiles state memory waiting v n k within idle silent y below =
    let f = k.fits y in
    let free : is_busy state ≡ false = not_busy tiles state memory waiting v n k within silent in
    let none : served state y ++ waits y waiting ≡ [] = ap (λ l. l ++ waits y waiting) (served_none state y free) ∙ ap (waits y) (idle free) in
    ap (λ (p : Part). p.want) f.part_is ∙ silent_wants v f.phase (sym f.requests_are ∙ none) (up_none f (silent y below)) (down_none f (silent y below))

-- a node behind the control server waits for no line
server_waits : (w : Setup) (y k : ℕ) (node : Node) → w.config.tiles < y → IsNodeOf w y node → want_at node k ≡ None
server_waits w y k (Tile t) out of = let below : y < w.config.tiles = of.0 in absurd (omega arith)
server_waits w y k (Control c) out of = let at : y ≡ w.config.tiles = of.0 in absurd (omega arith)
server_waits w y k (Local l) out of = refl

holds_served : (w : Setup) (s : State Node Msg) (k : ℕ) (v : LineData) → ((y : ℕ) → IsNodeOf w y (s.node y)) → Holds w s k v → IsStill w s k → (node : ℕ) → want_at (s.node node) k ≡ None
holds_served w s k v nodes held still node =
    let h : Home = home_line w s k in
    elim (cases_Bool (nat_le node w.config.tiles)) [
      | inl t ↦
          let below : node ≤ w.config.tiles = grind (arith, nat_tests) in
          nobody_waits w.config.tiles h.state h.memory h.waiting v (part_of w s k) held.kept held.placed.within.state held.placed.orderly.waits_while_busy
          (λ y there. still y (omega (arith, there))) node below
      | inr t ↦ let out : w.config.tiles < node = grind (arith, nat_tests) in server_waits w node k (s.node node) out (nodes node)
    ]

pub still_lines_are_served : StillLinesAreServed
still_lines_are_served w events k checked run still node =
    let sound = reached_sound w events checked run in holds_served w (reached w events) k _ sound.nodes (sound.lines k) still node

-- where no message waits, every line is still
missed : (write : Gathering) (status : Status) → ((k : ℕ) → wants_by write k status ≡ None) → is_missing status ≡ false
missed write (Miss access) none =
    let line : ℕ = line_missed write access in
    absurd (none-some (want_for access) (sym (none line) ∙ cond-true (line == line) (Some (want_for access)) None (itself line)))
missed write _ none = refl

checked_none : (check : Option Check) → ((k : ℕ) → check_wants check k ≡ None) → is_some check ≡ false
checked_none None none = refl
checked_none (Some check) none =
    let line : ℕ = line_at check.addr in absurd (none-some Read (sym (none line) ∙ cond-true (line == line) (Some Read) None (itself line)))

waits_not : (node : Node) → ((k : ℕ) → want_at node k ≡ None) → waits_for_line node ≡ false
waits_not (Tile t) none = missed t.core.write t.core.status none
waits_not (Control c) none = checked_none c.checking none
waits_not (Local l) none = refl

pub none_waits_in_silence : NoneWaitsInSilence
none_waits_in_silence w events checked run silent node =
    let s : State Node Msg = reached w events in
    let range = in_range w.config checked in
    let home_below : (k : ℕ) → home_of w.config k < node_count w.config = λ k. let low : home_of w.config k < w.config.tiles = home_is_tile w k (home_of w.config k) range.some_tile refl in omega (arith, low) in
    waits_not (s.node node)
    (λ k. still_lines_are_served w events k checked run
    (λ y below. (ap (ups k) (silent y (home_of w.config k) below (home_below k)), ap (downs k) (silent (home_of w.config k) y (home_below k) below))) node)
