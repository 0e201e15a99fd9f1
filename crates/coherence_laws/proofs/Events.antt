-- Every event keeps every line, so every run does.
use Rattle.std.proofs.Common.{◌≡◌, ◌≢◌, ℕ, ◌<◌, ◌≤◌, Bool, true, false, List, [], ◌∷◌, ◌++◌, Some, None, ◌==◌, ◌&&◌, refl, sym, ap, ◌∙◌, inl, inr, arith, subst}
use Rattle.std.proofs.lemmas.Bool.Decides.{nat_tests}
use Rattle.std.proofs.lemmas.Bool.{cases_Bool, cond-true, cond-false}
use Rattle.std.proofs.lemmas.Option.{none-some}
use Rattle.std.proofs.lemmas.List.Elements.{All-nil}
use Rattle.std.specs.Prelude.{nat_lt, ◌%◌}
use Rattle.sim_base.specs.declared.lines.LineData.{LineData}
use Rattle.sim_base.specs.declared.settings.Config.{Config}
use Rattle.sim_base.specs.Numbering.{home_of, control_node, node_count}
use Rattle.sim_base.specs.Settings.{IsChecked}
use Rattle.sim_base.proofs.CheckedSettings.{in_range}
use Rattle.elf_image.specs.Layout.{Setup, initial_line}
use Rattle.wire_msg.specs.declared.messages.Msg.{Msg}
use Rattle.wire_msg.specs.declared.messages.Msg.TheVariants.{GetS, GetM, PutM, InvAck, FetchAck, DataS, Inv}
use Rattle.wire_msg.specs.declared.lines.Up.{Up}
use Rattle.wire_msg.specs.Message.{is_reader, goes_home, may_send, line_of, up_of, down_of, up_about, down_about, ups, downs}
use Rattle.tile_cache.specs.Copy.{absent}
use Rattle.dir_slice.specs.Line.{Home, fresh}
use Rattle.dir_slice.specs.Inner.{IsWithin}
use Rattle.dir_slice.specs.Laws.{IsOrderly}
use Rattle.dir_slice.proofs.Orderly.{fresh_is_orderly}
use Rattle.dir_slice.specs.Directory.{home_at}
use Rattle.dir_slice.proofs.Unfiled.{starts_as_the_image}
use Rattle.tile_node.specs.Tile.{Tile as TileData, start_tile}
use Rattle.tile_node.specs.Deliver.{tile_delivered}
use Rattle.tile_node.specs.OneLine.{delivered_at}
use Rattle.tile_node.proofs.OneLineHomes.{deliver_stays, start_empty}
use Rattle.tile_node.proofs.OneLinePlain.{step_stays, deliver_leaves}
use Rattle.tile_node.proofs.OneLineWords.{others_leave}
use Rattle.control_server.specs.Control.{Control, Act as ControlAct}
use Rattle.control_server.specs.Serve.{control_step, can_step as control_can_step}
use Rattle.control_server.specs.Deliver.{control_delivered}
use Rattle.event_journal.specs.declared.events.Event.{Event}
use Rattle.event_journal.specs.declared.events.Event.TheVariants.{Step, Deliver}
use Rattle.event_journal.specs.Rules.{Change}
use Rattle.event_journal.specs.State.{State, changed, with_queue}
use Rattle.event_journal.specs.Run.{IsRun, can_happen, delivered, happens, after}
use Rattle.node_machine.specs.declared.nodes.Node.{Node}
use Rattle.node_machine.specs.declared.nodes.Node.TheVariants.{Tile, Control as ControlNode, Local}
use Rattle.node_machine.specs.Machine.{rules, start_state, start_node, node_step, node_delivered, can_step, change_of, of_tile}
use Rattle.event_journal.proofs.Views.{first_said, first_silent}
use Rattle.coherence_laws.specs.Part.{Part, copy_at, want_at, part_of, home_in, home_line}
use Rattle.coherence_laws.specs.Coherence.{HasValue, IsCoherent}
use Rattle.coherence_laws.specs.Laws.{value_by, value_then, reached, line_value, stepped_at, heard_at, value_after, value_along, AlwaysOneWriter, AlwaysCoherent, ValuesChange}
use Rattle.coherence_laws.proofs.Phases.{away, quiet}
use Rattle.coherence_laws.proofs.Nodes.{equal, itself}
use Rattle.coherence_laws.proofs.Coherent.{Where, carried_at, in_memory, where_is, copy_data, reader_data, one_writer}
use Rattle.coherence_laws.proofs.Mail.{up_or_not, option_or_none, up_nothing, down_nothing, about_other, IsFromHome, says_nothing_down}
use Rattle.coherence_laws.proofs.Holds.{IsUnended, IsNodeOf, KeptIn, Holds}
use Rattle.coherence_laws.proofs.Servers.{can_step_means, control_steps, control_apart, control_passes, control_acknowledges, control_drops}
use Rattle.coherence_laws.proofs.Tiles.{tile_steps, tile_other, tile_word, tile_told, told_elsewhere, tile_hears}
use Rattle.coherence_laws.proofs.Controls.{no_up_here, control_step_holds, control_takes, local_takes, reader_is}

-- what holds of a state: of each line, and of each node
pub record Sound (w : Setup) (s : State Node Msg) (f : ℕ → LineData) : Type 0 where
  pub lines : (k : ℕ) → Holds w s k (f k)
  pub nodes : (y : ℕ) → IsNodeOf w y (s.node y)

-- a message that says something of a line from its home comes from there
pub from_home : (w : Setup) (s : State Node Msg) (f : ℕ → LineData) (i x : ℕ) (msg : Msg) (rest : List Msg) → Sound w s f → s.queue i x ≡ msg ∷ rest → IsFromHome w i msg
from_home w s f i x msg rest sound waits line some =
    elim (cases_Bool (i == home_of w.config line)) [
      | inl t ↦ equal i (home_of w.config line) t
      | inr t ↦
          absurd (some (first_silent (down_about line) msg rest
          (sym (ap (downs line) waits) ∙ (sound.lines line).placed.down i x (λ same. let a : (i == home_of w.config line) ≡ true = ap (λ z. z == home_of w.config line) same ∙ itself (home_of w.config line) in cc))).0)
    ]

-- and one that says something of a line to its home goes there
to_home : (w : Setup) (s : State Node Msg) (f : ℕ → LineData) (i x : ℕ) (msg : Msg) (rest : List Msg) (line : ℕ) → Sound w s f → s.queue i x ≡ msg ∷ rest → up_about line msg ≢ None
    → x ≡ home_of w.config line
to_home w s f i x msg rest line sound waits some =
    elim (cases_Bool (x == home_of w.config line)) [
      | inl t ↦ equal x (home_of w.config line) t
      | inr t ↦
          absurd (some (first_silent (up_about line) msg rest
          (sym (ap (ups line) waits) ∙ (sound.lines line).placed.up i x (λ same. let a : (x == home_of w.config line) ≡ true = ap (λ z. z == home_of w.config line) same ∙ itself (home_of w.config line) in cc))).0)
    ]

pub home_is_tile : (w : Setup) (line i : ℕ) → 0 < w.config.tiles → i ≡ home_of w.config line → i < w.config.tiles
home_is_tile w line i some at = let e : i ≡ line % w.config.tiles = at in omega arith

-- a tile takes a message

leaves_value : (w : Setup) (t : TileData) (i : ℕ) (msg : Msg) (k : ℕ) (v : LineData) → down_about k msg ≡ None → value_after t.core.status (delivered_at w t i msg k) v ≡ v
leaves_value w t i msg k v e = elim (others_leave w t i msg k e) [
  | inl is ↦ ap (λ h. value_after t.core.status h v) is
  | inr is ↦ ap (λ h. value_after t.core.status h v) is
]

about_it : (k : ℕ) (msg : Msg) (says : Up) → line_of msg ≡ Some k → up_of msg ≡ Some says → up_about k msg ≡ Some says
about_it k msg says line up = let t = itself k in cc

-- a reader may tell a home of its line
reads_there : (c : Config) (i : ℕ) → i ≤ c.tiles → is_reader c i ≡ true
reads_there c i reader = elim (cases_Bool (nat_lt i c.tiles)) [
  | inl t ↦ rw t refl
  | inr t ↦ let e : (i == control_node c) ≡ true = grind (arith, nat_tests) in rw (t, e) refl
]

tells_home : (c : Config) (k i x line : ℕ) → i ≤ c.tiles → x ≡ home_of c k → Some line ≡ Some k → goes_home c line i x ≡ true
tells_home c k i x line reader at about =
    let same : line ≡ k = cc in
    let a : (x == home_of c line) ≡ true = ap (λ z. x == home_of c z) same ∙ ap (λ z. x == z) (sym at) ∙ itself x in
    let b = reads_there c i reader in
    rw (b, a) refl

tells_may : (c : Config) (k i x : ℕ) (msg : Msg) (says : Up) → i ≤ c.tiles → x ≡ home_of c k → line_of msg ≡ Some k → up_of msg ≡ Some says → may_send c i x msg ≡ true
tells_may c k i x (GetS line) says reader at about up = tells_home c k i x line reader at about
tells_may c k i x (GetM line) says reader at about up = tells_home c k i x line reader at about
tells_may c k i x (PutM line content) says reader at about up = tells_home c k i x line reader at about
tells_may c k i x (InvAck line) says reader at about up = tells_home c k i x line reader at about
tells_may c k i x (FetchAck line content) says reader at about up = tells_home c k i x line reader at about
tells_may c k i x _ says reader at about up = absurd (none-some says up)

tile_takes_up : (w : Setup) (s : State Node Msg) (f : ℕ → LineData) (k i x : ℕ) (msg : Msg) (rest : List Msg) (t : TileData) (j : ℕ) (says : Up) → Sound w s f → 0 < w.config.tiles → s.node x ≡ Tile t
    → IsNodeOf w x (Tile t) → s.queue i x ≡ msg ∷ rest → line_of msg ≡ Some j → up_of msg ≡ Some says → down_of msg ≡ None
    → Holds w (changed (with_queue s i x rest) x (change_of (of_tile (tile_delivered w t i msg)))) k (value_after t.core.status (delivered_at w t i msg k) (f k))
tile_takes_up w s f k i x msg rest t j says sound some is of waits line up no_down =
    let no_word : down_about k msg ≡ None = down_nothing k msg no_down in
    let same : value_after t.core.status (delivered_at w t i msg k) (f k) ≡ f k = leaves_value w t i msg k (f k) no_word in
    elim (cases_Bool (j == k)) [
      | inl e ↦
          let at_line : line_of msg ≡ Some k = line ∙ ap Some (equal j k e) in
          let word : up_about k msg ≡ Some says = about_it k msg says at_line up in
          let at : x ≡ home_of w.config k = to_home w s f i x msg rest k sound waits (λ none. none-some says (sym none ∙ word)) in
          let front : (part_of w s k i).up ≡ says ∷ ups k rest = subst (λ z. ups k (s.queue i z) ≡ says ∷ ups k rest) at (ap (ups k) waits ∙ first_said (up_about k) msg rest says word) in
          let reader : i ≤ w.config.tiles = reader_is w s k (f k) i says (ups k rest) (sound.nodes i) front (sound.lines k) in
          let number : t.number ≡ x = of.1 in
          let may : may_send w.config i t.number msg ≡ true = tells_may w.config k i t.number msg says reader (number ∙ at) at_line up in
          subst (λ z. Holds w (changed (with_queue s i x rest) x (change_of (of_tile (tile_delivered w t i msg)))) k z) (sym same)
          (tile_told w s k (f k) x t i msg rest says is number waits may at_line up word no_word at reader (sound.lines k))
      | inr e ↦
          let other = told_elsewhere w t i msg j k says line up e in
          let about = about_other j k msg line e in
          tile_other w s k (f k) x t i msg rest is of.2 (from_home w s f i x msg rest sound waits) waits about.0 about.1 other.0 other.1 (sound.lines k)
    ]

tile_takes : (w : Setup) (s : State Node Msg) (f : ℕ → LineData) (k i x : ℕ) (msg : Msg) (rest : List Msg) (t : TileData) → Sound w s f → 0 < w.config.tiles → s.node x ≡ Tile t → IsNodeOf w x (Tile t)
    → s.queue i x ≡ msg ∷ rest → Holds w (changed (with_queue s i x rest) x (change_of (of_tile (tile_delivered w t i msg)))) k (value_after t.core.status (delivered_at w t i msg k) (f k))
tile_takes w s f k i x msg rest t sound some is of waits =
    let home = from_home w s f i x msg rest sound waits in
    elim (up_or_not msg) [
      | inl up ↦ tile_takes_up w s f k i x msg rest t up.0 up.1 sound some is of waits up.2 up.3 up.4
      | inr no_up ↦
          elim (option_or_none (down_about k msg)) [
            | inl none ↦
                tile_other w s k (f k) x t i msg rest is of.2 home waits (up_nothing k msg no_up) none
                (ap (λ slice. home_at slice.homes k) (deliver_leaves w t i msg no_up).slice) (λ y. says_nothing_down k y (tile_delivered w t i msg).mail (deliver_leaves w t i msg no_up).mail) (sound.lines k)
            | inr word ↦
                let at : i ≡ home_of w.config k = home k (λ none. none-some word.0 (sym none ∙ word.1)) in
                let below : t.number < w.config.tiles = subst (λ z. z < w.config.tiles) (sym of.1) of.0 in
                tile_word w s k (f k) x t i msg rest word.0 is of.2 home waits (tile_hears w.config k i t.number msg word.0 (home_is_tile w k i some at) below word.1) no_up word.1 at (sound.lines k)
          ]
    ]

-- each event at each line

steps_hold : (w : Setup) (s : State Node Msg) (f : ℕ → LineData) (k x : ℕ) (node : Node) → Sound w s f → s.node x ≡ node → IsNodeOf w x node → can_step node ≡ true
    → Holds w (changed s x (change_of (node_step w node))) k (value_by node (stepped_at w node k) (f k))
steps_hold w s f k x (Tile t) sound is of can = tile_steps w s k (f k) x t is of.2 can (sound.lines k)
steps_hold w s f k x (ControlNode c) sound is of can = control_step_holds w s k (f k) x c is can (sound.lines k)
steps_hold w s f k x (Local l) sound is of can = cc

no_up_at_server : (w : Setup) (s : State Node Msg) (f : ℕ → LineData) (k i x : ℕ) (msg : Msg) (rest : List Msg) → Sound w s f → 0 < w.config.tiles → s.queue i x ≡ msg ∷ rest → w.config.tiles ≤ x
    → up_about k msg ≡ None
no_up_at_server w s f k i x msg rest sound some waits out =
    no_up_here w s k i x msg rest (sound.lines k).placed waits (λ same. let below : x < w.config.tiles = home_is_tile w k x some same in omega arith)

takes_hold : (w : Setup) (s : State Node Msg) (f : ℕ → LineData) (k i x : ℕ) (msg : Msg) (rest : List Msg) (node : Node) → Sound w s f → 0 < w.config.tiles → s.node x ≡ node → IsNodeOf w x node
    → s.queue i x ≡ msg ∷ rest
    → Holds w (changed (with_queue s i x rest) x (change_of (node_delivered w node i msg))) k (value_by node (heard_at w node i (msg ∷ rest) k) (f k))
takes_hold w s f k i x msg rest (Tile t) sound some is of waits = tile_takes w s f k i x msg rest t sound some is of waits
takes_hold w s f k i x msg rest (ControlNode c) sound some is of waits =
    let at : x ≡ w.config.tiles = of.0 in
    control_takes w s k (f k) i x msg rest c is waits some of.0 of.1 (no_up_at_server w s f k i x msg rest sound some waits (omega arith)) (from_home w s f i x msg rest sound waits) (sound.lines k)
takes_hold w s f k i x msg rest (Local l) sound some is of waits =
    let out : w.config.tiles < x = of in
    local_takes w s k (f k) i x msg rest l is waits out (no_up_at_server w s f k i x msg rest sound some waits (omega arith)) (from_home w s f i x msg rest sound waits) (sound.lines k)

-- nodes stay what they are

step_ended : (w : Setup) (c : Control) → control_can_step c ≡ true → IsUnended (control_step w c).control.checking (control_step w c).control.control.ended
step_ended w c can = elim (control_steps w c can) [
  | inl serves ↦ subst (λ o. IsUnended o (control_step w c).control.control.ended) (sym serves.checking) tt
  | inr checks ↦ subst (λ o. IsUnended o (control_step w c).control.control.ended) (sym checks.checking) (checks.ended ∙ (can_step_means c can).1)
]

take_ended : (w : Setup) (c : Control) (i : ℕ) (msg : Msg) → IsUnended c.checking c.control.ended → IsUnended (control_delivered w c i msg).control.checking (control_delivered w c i msg).control.control.ended
take_ended w c i (DataS line content delay) alive = (control_passes w c i line content delay alive).ended
take_ended w c i (Inv line) alive = elim (cases_Bool (may_send w.config i (control_node w.config) (Inv line))) [
  | inl may ↦ subst (λ (a : ControlAct). IsUnended a.control.checking a.control.control.ended) (sym (control_acknowledges w c i line may)) alive
  | inr may_not ↦ subst (λ (a : ControlAct). IsUnended a.control.checking a.control.control.ended) (sym (control_drops w c i line may_not)) alive
]
take_ended w c i msg alive = (control_apart w c i msg (λ read. read)).ended alive

steps_node : (w : Setup) (x : ℕ) (node : Node) → IsNodeOf w x node → can_step node ≡ true → IsNodeOf w x (node_step w node).node
steps_node w x (Tile t) of can = let stays = step_stays w t of.2 in (of.0, stays.number ∙ of.1, stays.cache)
steps_node w x (ControlNode c) of can = (of.0, step_ended w c can)
steps_node w x (Local l) of can = of

takes_node : (w : Setup) (x i : ℕ) (msg : Msg) (node : Node) → IsNodeOf w x node → IsNodeOf w x (node_delivered w node i msg).node
takes_node w x i msg (Tile t) of = let stays = deliver_stays w t i msg of.2 in (of.0, stays.number ∙ of.1, stays.cache)
takes_node w x i msg (ControlNode c) of = (of.0, take_ended w c i msg of.1)
takes_node w x i msg (Local l) of = of

nodes_put : (w : Setup) (s : State Node Msg) (x : ℕ) (change : Change Node Msg) → ((y : ℕ) → IsNodeOf w y (s.node y)) → IsNodeOf w x change.node → (y : ℕ) → IsNodeOf w y ((changed s x change).node y)
nodes_put w s x change of new y = elim (cases_Bool (y == x)) [
  | inl t ↦ subst (IsNodeOf w y) (sym (cond-true (y == x) change.node (s.node y) t)) (subst (λ z. IsNodeOf w z change.node) (sym (equal y x t)) new)
  | inr t ↦ subst (IsNodeOf w y) (sym (cond-false (y == x) change.node (s.node y) t)) (of y)
]

-- each event

abbrev pub values_after : Setup → State Node Msg → Event → (ℕ → LineData) → ℕ → LineData
values_after w s event f k = value_then w s event k (f k)

delivery_sound : (w : Setup) (s : State Node Msg) (f : ℕ → LineData) (i x : ℕ) (queue : List Msg) → Sound w s f → 0 < w.config.tiles → s.queue i x ≡ queue
    → Sound w (delivered (rules w) s i x queue) (λ k. value_by (s.node x) (heard_at w (s.node x) i queue k) (f k))
delivery_sound w s f i x [] sound some waits = record {
  lines = λ k. subst (Holds w s k) (sym (unheard (s.node x) k)) (sound.lines k);
  nodes = sound.nodes;
}
  where
    unheard : (node : Node) (k : ℕ) → value_by node (heard_at w node i [] k) (f k) ≡ f k
    unheard (Tile t) k = refl
    unheard (ControlNode c) k = refl
    unheard (Local l) k = refl
delivery_sound w s f i x (msg ∷ rest) sound some waits = record {
  lines = λ k. takes_hold w s f k i x msg rest (s.node x) sound some refl (sound.nodes x) waits;
  nodes = nodes_put w (with_queue s i x rest) x (change_of (node_delivered w (s.node x) i msg)) sound.nodes (takes_node w x i msg (s.node x) (sound.nodes x));
}

pub steps_may : (a b c : Bool) → a && (b && c) ≡ true → c ≡ true
steps_may true true c e = e
steps_may true false c e = cc
steps_may false b c e = cc

pub event_sound : (w : Setup) (count : ℕ) (s : State Node Msg) (event : Event) (f : ℕ → LineData) → Sound w s f → 0 < w.config.tiles → can_happen (rules w) count s event ≡ true
    → Sound w (happens (rules w) s event) (values_after w s event f)
event_sound w count s (Step x) f sound some can =
    let may : can_step (s.node x) ≡ true = steps_may (nat_lt x count) (nat_lt (s.made x) w.config.events) (can_step (s.node x)) can in
    record {
      lines = λ k. steps_hold w s f k x (s.node x) sound refl (sound.nodes x) may;
      nodes = nodes_put w s x (change_of (node_step w (s.node x))) sound.nodes (steps_node w x (s.node x) (sound.nodes x) may);
    }
event_sound w count s (Deliver i x) f sound some can = delivery_sound w s f i x (s.queue i x) sound some refl

pub run_sound : (w : Setup) (count : ℕ) (events : List Event) (s : State Node Msg) (f : ℕ → LineData) → Sound w s f → 0 < w.config.tiles → IsRun (rules w) count s events
    → Sound w (after (rules w) s events) (λ k. value_along w s events k (f k))
run_sound w count [] s f sound some run = sound
run_sound w count (event ∷ events) s f sound some run =
    run_sound w count events (happens (rules w) s event) (values_after w s event f) (event_sound w count s event f sound some run.0) some run.1

-- the start

start_copy : (w : Setup) (y k : ℕ) → 0 < w.config.sets → 0 < w.config.ways → (copy_at (start_node w y) k ≡ absent) × (want_at (start_node w y) k ≡ None)
start_copy w y k sets ways =
    let empty = start_empty w y sets ways in
    elim (cases_Bool (nat_lt y w.config.tiles)) [
      | inl t ↦ rw t (empty.copies k, empty.wants k)
      | inr t ↦ elim (cases_Bool (y == control_node w.config)) [ inl u ↦ rw (t, u) (refl, refl) | inr u ↦ rw (t, u) (refl, refl) ]
    ]

start_is_node : (w : Setup) (y : ℕ) → 0 < w.config.sets → 0 < w.config.ways → IsNodeOf w y (start_node w y)
start_is_node w y sets ways =
    let empty = start_empty w y sets ways in
    elim (cases_Bool (nat_lt y w.config.tiles)) [
      | inl t ↦ let below : y < w.config.tiles = grind (arith, nat_tests) in rw t (below, refl, empty.cache)
      | inr t ↦ elim (cases_Bool (y == control_node w.config)) [
        | inl u ↦ rw (t, u) (equal y (control_node w.config) u, tt)
        | inr u ↦ let above : control_node w.config < y = grind (arith, nat_tests) in rw (t, u) above
      ]
    ]

start_home : (w : Setup) (k : ℕ) → 0 < w.config.tiles → home_line w (start_state w) k ≡ fresh (initial_line w k)
start_home w k tiles =
    let home : ℕ = home_of w.config k in
    let below : home < w.config.tiles = home_is_tile w k home tiles refl in
    let t : nat_lt home w.config.tiles ≡ true = grind (arith, nat_tests) in
    ap (λ m. home_in m k) (cond-true (nat_lt home w.config.tiles) (Tile (start_tile w home)) _ t) ∙ starts_as_the_image w home k refl

start_holds : (w : Setup) (k : ℕ) → 0 < w.config.tiles → 0 < w.config.sets → 0 < w.config.ways → Holds w (start_state w) k (initial_line w k)
start_holds w k tiles sets ways =
    let home = start_home w k tiles in
    let fresh_kept : KeptIn (fresh (initial_line w k)) (initial_line w k) (part_of w (start_state w) k) = record {
      fits = λ y. record {
        phase = away None quiet;
        standing_is = refl;
        requests_are = refl;
        part_is = let c = start_copy w y k sets ways in let a = c.0 in let b = c.1 in cc;
      };
      value = refl;
      orderly = tt;
    } in
    record {
      kept = subst (λ h. KeptIn h (initial_line w k) (part_of w (start_state w) k)) (sym home) fresh_kept;
      placed = record {
        orderly = subst IsOrderly (sym home) (fresh_is_orderly (initial_line w k));
        within = subst (IsWithin w.config.tiles) (sym home) (record { state = tt; waiting = All-nil _ });
        up = λ from to ne. refl;
        down = λ from to ne. refl;
      };
    }

pub start_sound : (w : Setup) → IsChecked w.config → Sound w (start_state w) (initial_line w)
start_sound w checked =
    let range = in_range w.config checked in
    record {
      lines = λ k. start_holds w k range.some_tile range.some_set range.some_way;
      nodes = λ y. start_is_node w y range.some_set range.some_way;
    }

-- the laws

stands_so : (w : Setup) (s : State Node Msg) (k : ℕ) (v : LineData) → Where (home_line w s k).memory v (part_of w s k) → HasValue w s k v
stands_so w s k v (carried_at x content alone) = inl (x, record { content = content; alone = alone })
stands_so w s k v (in_memory nowhere memory) = inr (record { nowhere = nowhere; memory = memory })

pub holds_coherent : (w : Setup) (s : State Node Msg) (k : ℕ) (v : LineData) → Holds w s k v → IsCoherent w s k v
holds_coherent w s k v held =
    let h : Home = home_line w s k in
    let n : ℕ → Part = part_of w s k in
    let kept = held.kept in
    record {
      writer = λ x y writes. one_writer h.state h.memory h.waiting v n kept x y writes;
      value = stands_so w s k v (where_is h.state h.memory h.waiting v n kept);
      copies = copy_data h.state h.memory h.waiting v n kept;
      readers = reader_data h.state h.memory h.waiting v n kept;
      messages = record { up = held.placed.up; down = held.placed.down };
    }

pub reached_sound : (w : Setup) (events : List Event) → IsChecked w.config → IsRun (rules w) (node_count w.config) (start_state w) events
    → Sound w (reached w events) (line_value w events)
reached_sound w events checked run =
    let range = in_range w.config checked in run_sound w (node_count w.config) events (start_state w) (initial_line w) (start_sound w checked) range.some_tile run

pub reached_holds : (w : Setup) (events : List Event) (k : ℕ) → IsChecked w.config → IsRun (rules w) (node_count w.config) (start_state w) events
    → Holds w (reached w events) k (line_value w events k)
reached_holds w events k checked run = (reached_sound w events checked run).lines k

pub always_coherent : AlwaysCoherent
always_coherent w events k checked run = holds_coherent w (reached w events) k (line_value w events k) (reached_holds w events k checked run)

pub always_one_writer : AlwaysOneWriter
always_one_writer w events k checked run = (always_coherent w events k checked run).writer

-- one more event
value_one_more : (w : Setup) (events : List Event) (event : Event) (k : ℕ) (s : State Node Msg) (v : LineData)
    → value_along w s (events ++ event ∷ []) k v ≡ value_then w (after (rules w) s events) event k (value_along w s events k v)
value_one_more w [] event k s v = refl
value_one_more w (first ∷ events) event k s v = value_one_more w events event k (happens (rules w) s first) (value_then w s first k v)

pub values_change : ValuesChange
values_change w events event k = value_one_more w events event k (start_state w) (initial_line w k)
