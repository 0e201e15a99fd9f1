-- What an access of a line works on is the line's value.
use Rattle.std.proofs.Common.{◌≡◌, ℕ, Bool, true, false, List, [], ◌∷◌, Some, None, if◌then◌else◌, refl, sym, ap, ◌∙◌, inl, inr, subst}
use Rattle.std.proofs.lemmas.Bool.{cases_Bool, cond-false}
use Rattle.std.proofs.lemmas.Option.{none-some}
use Rattle.std.specs.Prelude.{Option, nat_lt, ◌⊎◌}
use Rattle.sim_base.specs.declared.lines.LineData.{LineData}
use Rattle.sim_base.specs.Numbering.{home_of, node_count}
use Rattle.elf_image.specs.Layout.{Setup}
use Rattle.wire_msg.specs.declared.lines.Want.{Want}
use Rattle.wire_msg.specs.declared.messages.Msg.{Msg}
use Rattle.wire_msg.specs.Message.{Down, gives, drops, fetches, may_send, down_of, is_about, down_about, downs}
use Rattle.tile_cache.specs.declared.ways.Hold.{Hold}
use Rattle.tile_cache.specs.Copy.{Copy, absent, shared, modified, copy_of}
use Rattle.tile_node.specs.Tile.{Tile as TileData}
use Rattle.tile_node.specs.OneLine.{data_after, Happening, nothing, hit, came, evicted, step_at, delivered_at, wants, takes, hold_given, waiting, heard}
use Rattle.tile_node.specs.OneLineLaws.{MayHappen}
use Rattle.tile_node.proofs.OneLineHappens.{step_may}
use Rattle.tile_node.proofs.OneLineWords.{downs_happen, others_leave}
use Rattle.event_journal.specs.declared.events.Event.TheVariants.{Step, Deliver}
use Rattle.event_journal.specs.State.{State}
use Rattle.node_machine.specs.declared.nodes.Node.{Node}
use Rattle.node_machine.specs.declared.nodes.Node.TheVariants.{Tile, Control as ControlNode, Local}
use Rattle.node_machine.specs.Machine.{can_step}
use Rattle.coherence_laws.specs.Part.{copy_at, part_of, home_line}
use Rattle.coherence_laws.specs.Coherence.{HasData}
use Rattle.coherence_laws.specs.Laws.{reached, stepped_at, heard_at, IsUse, data_in, data_given, used_by, AccessesUseValues}
use Rattle.coherence_laws.proofs.Coherent.{copy_data}
use Rattle.coherence_laws.proofs.Mail.{option_or_none}
use Rattle.coherence_laws.proofs.Holds.{Holds}
use Rattle.coherence_laws.proofs.Acts.{IsOfStep, line_wanted}
use Rattle.coherence_laws.proofs.Tiles.{step_of_step}
use Rattle.coherence_laws.proofs.Controls.{front_is}
use Rattle.coherence_laws.proofs.Events.{Sound, from_home, steps_may, reached_sound}

-- on a copy
hit_uses : (copy : Copy) (v : LineData) (change : LineData → LineData) (want : Option Want) → HasData copy v → MayHappen (hit change) copy want → data_in copy ≡ Some v
hit_uses absent v change want has may = absurd may.0
hit_uses (shared content) v change want has may = ap Some has
hit_uses (modified content) v change want has may = ap Some has

step_uses : (h : Happening) (copy : Copy) (v : LineData) (want : Option Want) → HasData copy v → MayHappen h copy want → IsOfStep h → IsUse h → used_by h copy [] ≡ Some v
step_uses (hit change) copy v want has may of used = hit_uses copy v change want has may
step_uses (came hold content) copy v want has may of used = absurd of
step_uses _ copy v want has may of used = absurd used

node_uses : (w : Setup) (s : State Node Msg) (k : ℕ) (v : LineData) (x : ℕ) (node : Node) → s.node x ≡ node → can_step node ≡ true → HasData (copy_at (s.node x) k) v
    → IsUse (stepped_at w node k) → used_by (stepped_at w node k) (copy_at node k) [] ≡ Some v
node_uses w s k v x (Tile t) is can has used =
    step_uses (step_at w t k) (copy_of t.cache k) v (wants t k) (subst (λ m. HasData (copy_at m k) v) is has) (step_may w t k can) (step_of_step w t k) used
node_uses w s k v x (ControlNode c) is can has used = absurd used
node_uses w s k v x (Local l) is can has used = absurd used

-- on a line that comes
came_uses : (b : Bool) (hold : Hold) (content : LineData) (copy : Copy) (msg : Msg) (rest : List Msg) → IsUse (if b then came hold content else nothing)
    → used_by (if b then came hold content else nothing) copy (msg ∷ rest) ≡ data_given (down_of msg)
came_uses true hold content copy msg rest used = refl
came_uses false hold content copy msg rest used = absurd used

said : {A : Type 0} (b : Bool) (o : Option A) (a : A) → (if b then o else None) ≡ Some a → o ≡ Some a
said true o a e = e
said false o a e = absurd (none-some a e)

-- what a home's word is
word_uses : (w : Setup) (s : State Node Msg) (k : ℕ) (v : LineData) (i x : ℕ) (t : TileData) (msg : Msg) (rest : List Msg) (says : Down) → s.queue i x ≡ msg ∷ rest → i ≡ home_of w.config k → Holds w s k v
    → down_about k msg ≡ Some says → (copy : Copy) → IsUse (heard t.core.status (wants t k) says) → used_by (heard t.core.status (wants t k) says) copy (msg ∷ rest) ≡ Some v
word_uses w s k v i x t msg rest drops waits at held word copy used = absurd used
word_uses w s k v i x t msg rest (fetches other) waits at held word copy used = absurd used
word_uses w s k v i x t msg rest (gives given content) waits at held word copy used =
    let h = home_line w s k in
    let wanted = line_wanted h.state h.memory h.waiting v x (part_of w s k) given content (downs k rest) held.kept (front_is w s k i x msg rest (gives given content) waits word at) in
    came_uses (takes given (wants t k)) (hold_given given) (data_after (waiting t.core.status) content) copy msg rest used
    ∙ ap data_given (said (is_about k msg) (down_of msg) (gives given content) word) ∙ ap Some wanted.0

leaves_uses : (h : Happening) → IsUse h → (h ≡ nothing) ⊎ (h ≡ evicted) → ⊥
leaves_uses h used (inl e) = subst IsUse e used
leaves_uses h used (inr e) = subst IsUse e used

tile_uses : (w : Setup) (s : State Node Msg) (f : ℕ → LineData) (k i x : ℕ) (t : TileData) (msg : Msg) (rest : List Msg) → Sound w s f → s.queue i x ≡ msg ∷ rest
    → IsUse (delivered_at w t i msg k) → used_by (delivered_at w t i msg k) (copy_of t.cache k) (msg ∷ rest) ≡ Some (f k)
tile_uses w s f k i x t msg rest sound waits used =
    elim (option_or_none (down_about k msg)) [
      | inl none ↦ absurd (leaves_uses (delivered_at w t i msg k) used (others_leave w t i msg k none))
      | inr some ↦
          let at : i ≡ home_of w.config k = from_home w s f i x msg rest sound waits k (λ none. none-some some.0 (sym none ∙ some.1)) in
          elim (cases_Bool (may_send w.config i t.number msg)) [
            | inl may ↦
                let is : delivered_at w t i msg k ≡ heard t.core.status (wants t k) some.0 = downs_happen w t i msg k some.0 may some.1 in
                ap (λ h. used_by h (copy_of t.cache k) (msg ∷ rest)) is
                ∙ word_uses w s k (f k) i x t msg rest some.0 waits at (sound.lines k) some.1 (copy_of t.cache k) (subst IsUse is used)
            | inr may_not ↦ absurd (subst IsUse (cond-false (may_send w.config i t.number msg) _ nothing may_not) used)
          ]
    ]

taking_uses : (w : Setup) (s : State Node Msg) (f : ℕ → LineData) (k i x : ℕ) (node : Node) (queue : List Msg) → Sound w s f → s.queue i x ≡ queue
    → IsUse (heard_at w node i queue k) → used_by (heard_at w node i queue k) (copy_at node k) queue ≡ Some (f k)
taking_uses w s f k i x (Tile t) [] sound waits used = absurd used
taking_uses w s f k i x (Tile t) (msg ∷ rest) sound waits used = tile_uses w s f k i x t msg rest sound waits used
taking_uses w s f k i x (ControlNode c) queue sound waits used = absurd used
taking_uses w s f k i x (Local l) queue sound waits used = absurd used

pub accesses_use_values : AccessesUseValues
accesses_use_values w events (Step x) k checked run can used =
    let s : State Node Msg = reached w events in
    let sound = reached_sound w events checked run in
    let h = home_line w s k in
    let may : can_step (s.node x) ≡ true = steps_may (nat_lt x (node_count w.config)) (nat_lt (s.made x) w.config.events) (can_step (s.node x)) can in
    node_uses w s k _ x (s.node x) refl may (copy_data h.state h.memory h.waiting _ (part_of w s k) (sound.lines k).kept x) used
accesses_use_values w events (Deliver i x) k checked run can used =
    let s : State Node Msg = reached w events in taking_uses w s _ k i x (s.node x) (s.queue i x) (reached_sound w events checked run) refl used
