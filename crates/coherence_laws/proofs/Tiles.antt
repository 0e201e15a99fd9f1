-- A tile's step, and each message that comes to it, at each line.
use Rattle.std.proofs.Common.{◌≡◌, ◌≢◌, ℕ, ◌<◌, ◌≤◌, Bool, true, false, List, [], ◌∷◌, ◌++◌, Some, None, ◌==◌, if◌then◌else◌, refl, sym, ap, ◌∙◌, inl, inr, arith, subst}
use Rattle.std.proofs.lemmas.Bool.Decides.{nat_tests}
use Rattle.std.proofs.lemmas.Bool.{cases_Bool, cond-true, cond-false}
use Rattle.std.proofs.lemmas.Option.{none-some}
use Rattle.std.proofs.lemmas.List.Elements.{All-weaker}
use Rattle.std.specs.Prelude.{Option, All, nat_lt}
use Rattle.sim_base.specs.declared.lines.LineData.{LineData}
use Rattle.sim_base.specs.declared.settings.Config.{Config}
use Rattle.sim_base.specs.Numbering.{home_of}
use Rattle.elf_image.specs.Layout.{Setup}
use Rattle.wire_msg.specs.declared.messages.Msg.{Msg}
use Rattle.wire_msg.specs.declared.messages.Msg.TheVariants.{DataS, DataM, Inv, Fetch, FetchInv}
use Rattle.wire_msg.specs.declared.lines.Up.{Up}
use Rattle.wire_msg.specs.Message.{Down, may_send, line_of, up_of, up_about, down_about, ups, downs}
use Rattle.tile_cache.specs.Cache.{IsCache}
use Rattle.tile_cache.specs.Copy.{copy_of}
use Rattle.dir_slice.specs.Line.{Home, is_busy}
use Rattle.dir_slice.specs.Inner.{IsWithin}
use Rattle.dir_slice.specs.Laws.{IsOrderly}
use Rattle.dir_slice.proofs.Orderly.{keeps_orderly}
use Rattle.dir_slice.specs.Directory.{Step, home_at, reaction, home_after, mail_of}
use Rattle.dir_slice.proofs.Lines.{one_line_changes}
use Rattle.dir_slice.proofs.Nodes.{told_within}
use Rattle.tile_node.specs.Tile.{Tile as TileData, Act, quiet}
use Rattle.tile_node.specs.Step.{can_step, is_writing, waits_for_limit, looks_around, tile_step}
use Rattle.tile_node.specs.Deliver.{hold_suits, home_does, tile_delivered}
use Rattle.tile_core.specs.declared.plans.Plan.{Plan}
use Rattle.tile_core.specs.declared.plans.Plan.TheVariants.{Access}
use Rattle.tile_core.specs.Gathering.{is_gathered}
use Rattle.tile_core.specs.Core.{line_missed}
use Rattle.tile_core.specs.Plan.{plan_of}
use Rattle.tile_cache.specs.declared.ways.Way.{Way}
use Rattle.tile_cache.specs.Cache.{way_of}
use Rattle.rv_exec.specs.Access.{Asked}
use Rattle.tile_node.specs.OneLine.{wants, told_about, Happening, nothing, copy_after, told_after, wants_after, heard, needs, needs_at, follows_at, writes_at, works_at, step_at, delivered_at}
use Rattle.tile_node.specs.OneLineLaws.{Shows, MayHappen, GoesHome, GoesRightly}
use Rattle.tile_node.proofs.OneLineStep.{step_shows}
use Rattle.tile_node.proofs.OneLineDeliver.{deliver_shows}
use Rattle.tile_node.proofs.OneLineHappens.{step_may}
use Rattle.tile_node.proofs.OneLineWords.{downs_happen, others_leave}
use Rattle.tile_node.proofs.OneLinePlain.{step_told, step_leaves, deliver_leaves}
use Rattle.tile_node.proofs.OneLineHomes.{deliver_told, homes_hear}
use Rattle.tile_node.proofs.OneLineSpeaks.{homes_say}
use Rattle.event_journal.specs.State.{State, messages_to, changed, with_queue}
use Rattle.node_machine.specs.declared.nodes.Node.{Node}
use Rattle.node_machine.specs.declared.nodes.Node.TheVariants.{Tile}
use Rattle.node_machine.specs.Machine.{of_tile, change_of}
use Rattle.event_journal.proofs.Views.{silent_to, SaysNone, first_skipped, first_said}
use Rattle.coherence_laws.specs.Part.{Part, copy_at, want_at, part_of, home_in, home_line}
use Rattle.coherence_laws.specs.Laws.{value_after}
use Rattle.coherence_laws.proofs.Phases.{with_down, with_up, sent}
use Rattle.coherence_laws.proofs.Moves.{part}
use Rattle.coherence_laws.proofs.Nodes.{itself, turned}
use Rattle.coherence_laws.proofs.Serve.{all_sent}
use Rattle.coherence_laws.proofs.Take.{with_part, part_here, part_there, kept_at, home_takes, said_to}
use Rattle.coherence_laws.proofs.Acts.{moved, IsOfStep, step_kept, word_kept, other_kept, waiting_leaves}
use Rattle.coherence_laws.proofs.View.{home_sends, home_changes, takes_other, takes_down, takes_up, ups_stay, downs_stay}
use Rattle.coherence_laws.proofs.Mail.{about_other, up_nothing, down_nothing, IsFromHome, goes_elsewhere, goes_home, rightly_home, says_nothing_down}
use Rattle.coherence_laws.proofs.Holds.{Placed, KeptIn, Holds, taken_placed, acts_hold}

-- a step is at a line nothing, an access or a request

of_step_if : (b : Bool) (h g : Happening) → IsOfStep h → IsOfStep g → IsOfStep (if b then h else g)
of_step_if true h g one other = one
of_step_if false h g one other = other

needs_of_step : (access : Option Asked) (found : Option Way) → IsOfStep (needs access found)
needs_of_step access None = tt
needs_of_step access (Some way) = of_step_if (hold_suits access way.hold) _ _ tt tt

needed_of_step : (t : TileData) (access : Option Asked) (k : ℕ) → IsOfStep (needs_at t access k)
needed_of_step t access k =
    let line : ℕ = line_missed t.core.write access in
    of_step_if (k == line) (needs access (way_of t.cache line)) nothing (needs_of_step access (way_of t.cache line)) tt

follows_of_step : (t : TileData) (plan : Plan) (k : ℕ) → IsOfStep (follows_at t plan k)
follows_of_step t (Access access) k = needed_of_step t (Some access) k
follows_of_step t _ k = tt

works_of_step : (w : Setup) (t : TileData) (k : ℕ) → IsOfStep (works_at w t k)
works_of_step w t k =
    of_step_if (is_writing t.core.status) (writes_at t k) (follows_at t (plan_of w t.core) k)
    (of_step_if (is_gathered t.core.write) nothing (needs_at t None k) tt (needed_of_step t None k)) (follows_of_step t (plan_of w t.core) k)

pub step_of_step : (w : Setup) (t : TileData) (k : ℕ) → IsOfStep (step_at w t k)
step_of_step w t k =
    of_step_if (waits_for_limit w.config.policy t.core.clock t.core.limit) _ _ tt
    (of_step_if (looks_around w.config.policy w.config.tiles t.core.clock t.core.next_check) _ _ tt (works_of_step w t k))

-- what a tile's act makes of its part of a line
shown_part : (w : Setup) (s : State Node Msg) (k x : ℕ) (t : TileData) (act : Act) (h : Happening) (p : Part) → s.node x ≡ Tile t → p.copy ≡ copy_at (s.node x) k → p.want ≡ want_at (s.node x) k
    → Shows t k act h → ups k (messages_to (home_of w.config k) act.mail) ≡ told_about k act.mail
    → part (copy_of act.tile.cache k) (wants act.tile k) (p.up ++ ups k (messages_to (home_of w.config k) act.mail)) p.down ≡ moved h p p.down
shown_part w s k x t act h p is copy want shows told =
    let copy_is : copy_of t.cache k ≡ p.copy = ap (λ m. copy_at m k) (sym is) ∙ sym copy in
    let want_is : wants t k ≡ p.want = ap (λ m. want_at m k) (sym is) ∙ sym want in
    let a : copy_of act.tile.cache k ≡ copy_after h p.copy = shows.copy ∙ ap (copy_after h) copy_is in
    let b : wants act.tile k ≡ wants_after h p.want = shows.wants ∙ ap (wants_after h) want_is in
    let c : ups k (messages_to (home_of w.config k) act.mail) ≡ told_after h p.copy = told ∙ shows.told ∙ ap (told_after h) copy_is in
    ap (λ z. part z (wants act.tile k) (p.up ++ ups k (messages_to (home_of w.config k) act.mail)) p.down) a
    ∙ ap (λ z. part (copy_after h p.copy) z (p.up ++ ups k (messages_to (home_of w.config k) act.mail)) p.down) b
    ∙ ap (λ z. part (copy_after h p.copy) (wants_after h p.want) (p.up ++ z) p.down) c

pub tile_steps : (w : Setup) (s : State Node Msg) (k : ℕ) (v : LineData) (x : ℕ) (t : TileData) → s.node x ≡ Tile t → IsCache t.cache → can_step t ≡ true → Holds w s k v
    → Holds w (changed s x (change_of (of_tile (tile_step w t)))) k (value_after t.core.status (step_at w t k) v)
tile_steps w s k v x t is cache can held =
    let act : Act = tile_step w t in
    let h : Happening = step_at w t k in
    let n : ℕ → Part = part_of w s k in
    let home : Home = home_line w s k in
    let leaves = step_leaves w t in
    let may : MayHappen h (n x).copy (n x).want =
    subst (λ m. MayHappen h (copy_at m k) (want_at m k)) (sym is) (step_may w t k can)
    in
    let kept : KeptIn home (value_after t.core.status h v) (with_part x (moved h (n x) (n x).down) n) = step_kept home.state home.memory home.waiting v x n t.core.status h held.kept (step_of_step w t k) may in
    acts_hold w s k (value_after t.core.status h v) x (change_of (of_tile act)) held.placed
    (ap (λ slice. home_at slice.homes k) leaves.slice ∙ ap (λ m. home_in m k) (sym is)) (λ y. says_nothing_down k y act.mail leaves.mail)
    (λ y ne. goes_elsewhere w act.mail k y ne (step_told w t))
    (kept_at _ kept (λ y. ap (λ p. with_part x p n y) (shown_part w s k x t act h (n x) is refl refl (step_shows w t k can cache) (goes_home w act.mail k (step_told w t)))))

-- what a tile makes of a message that says nothing of the line, to its home or from it

tells_home : (w : Setup) (t : TileData) (i : ℕ) (msg : Msg) → IsFromHome w i msg → All (GoesHome w) (tile_delivered w t i msg).mail
tells_home w t i msg from_home = All-weaker (GoesRightly w i msg) (GoesHome w) (λ m goes. rightly_home w i msg m from_home goes) (tile_delivered w t i msg).mail (deliver_told w t i msg)

says_none_elsewhere : (w : Setup) (t : TileData) (i : ℕ) (msg : Msg) (k y : ℕ) → IsFromHome w i msg → y ≢ home_of w.config k → ups k (messages_to y (tile_delivered w t i msg).mail) ≡ []
says_none_elsewhere w t i msg k y from_home ne = goes_elsewhere w (tile_delivered w t i msg).mail k y ne (tells_home w t i msg from_home)

pub tile_other : (w : Setup) (s : State Node Msg) (k : ℕ) (v : LineData) (x : ℕ) (t : TileData) (i : ℕ) (msg : Msg) (rest : List Msg) → s.node x ≡ Tile t → IsCache t.cache → IsFromHome w i msg
    → s.queue i x ≡ msg ∷ rest → up_about k msg ≡ None → down_about k msg ≡ None
    → home_at (tile_delivered w t i msg).tile.slice.homes k ≡ home_at t.slice.homes k → ((y : ℕ) → downs k (messages_to y (tile_delivered w t i msg).mail) ≡ []) → Holds w s k v
    → Holds w (changed (with_queue s i x rest) x (change_of (of_tile (tile_delivered w t i msg)))) k (value_after t.core.status (delivered_at w t i msg k) v)
tile_other w s k v x t i msg rest is cache from_home waits no_up no_down same_home silent held =
    let act : Act = tile_delivered w t i msg in
    let h : Happening = delivered_at w t i msg k in
    let s' : State Node Msg = with_queue s i x rest in
    let n : ℕ → Part = part_of w s k in
    let n' : ℕ → Part = part_of w s' k in
    let home : Home = home_line w s k in
    let same : (y : ℕ) → n' y ≡ n y = takes_other w s k i x rest (sym (ap (ups k) waits ∙ first_skipped (up_about k) msg rest no_up)) (sym (ap (downs k) waits ∙ first_skipped (down_about k) msg rest no_down)) in
    let before : KeptIn home v n' = kept_at n' held.kept same in
    let kept : KeptIn home (value_after t.core.status h v) (with_part x (moved h (n' x) (n' x).down) n') = other_kept home.state home.memory home.waiting v x n' t.core.status h before (others_leave w t i msg k no_down) in
    acts_hold w s' k (value_after t.core.status h v) x (change_of (of_tile act)) (taken_placed w s k i x msg rest waits held.placed)
    (same_home ∙ ap (λ m. home_in m k) (sym is)) silent (λ y ne. says_none_elsewhere w t i msg k y from_home ne)
    (kept_at _ kept (λ y. ap (λ p. with_part x p n' y) (shown_part w s' k x t act h (n' x) is refl refl (deliver_shows w t i msg k cache) (goes_home w act.mail k (tells_home w t i msg from_home)))))

-- a home's word about the line

pub tile_hears : (c : Config) (k i x : ℕ) (msg : Msg) (says : Down) → i < c.tiles → x < c.tiles → down_about k msg ≡ Some says → may_send c i x msg ≡ true
tile_hears c k i x (DataS line content delay) says a b e = let p : nat_lt i c.tiles ≡ true = grind (arith, nat_tests) in let q : nat_lt x c.tiles ≡ true = grind (arith, nat_tests) in rw (p, q) refl
tile_hears c k i x (DataM line content delay) says a b e = let p : nat_lt i c.tiles ≡ true = grind (arith, nat_tests) in let q : nat_lt x c.tiles ≡ true = grind (arith, nat_tests) in rw (p, q) refl
tile_hears c k i x (Inv line) says a b e = let p : nat_lt i c.tiles ≡ true = grind (arith, nat_tests) in let q : nat_lt x c.tiles ≡ true = grind (arith, nat_tests) in rw (p, q) refl
tile_hears c k i x (Fetch line) says a b e = let p : nat_lt i c.tiles ≡ true = grind (arith, nat_tests) in let q : nat_lt x c.tiles ≡ true = grind (arith, nat_tests) in rw (p, q) refl
tile_hears c k i x (FetchInv line) says a b e = let p : nat_lt i c.tiles ≡ true = grind (arith, nat_tests) in let q : nat_lt x c.tiles ≡ true = grind (arith, nat_tests) in rw (p, q) refl
tile_hears c k i x msg says a b e = absurd (none-some says (sym (down_nothing k msg refl) ∙ e))

pub tile_word : (w : Setup) (s : State Node Msg) (k : ℕ) (v : LineData) (x : ℕ) (t : TileData) (i : ℕ) (msg : Msg) (rest : List Msg) (says : Down) → s.node x ≡ Tile t → IsCache t.cache
    → IsFromHome w i msg → s.queue i x ≡ msg ∷ rest → may_send w.config i t.number msg ≡ true → up_of msg ≡ None → down_about k msg ≡ Some says → i ≡ home_of w.config k → Holds w s k v
    → Holds w (changed (with_queue s i x rest) x (change_of (of_tile (tile_delivered w t i msg)))) k (value_after t.core.status (delivered_at w t i msg k) v)
tile_word w s k v x t i msg rest says is cache from_home waits may no_up word at held =
    let act : Act = tile_delivered w t i msg in
    let h : Happening = delivered_at w t i msg k in
    let s' : State Node Msg = with_queue s i x rest in
    let n : ℕ → Part = part_of w s k in
    let n' : ℕ → Part = part_of w s' k in
    let home : Home = home_line w s k in
    let ds : List Down = downs k rest in
    let leaves = deliver_leaves w t i msg no_up in
    let not_up : up_about k msg ≡ None = up_nothing k msg no_up in
    let popped : (y : ℕ) → n' y ≡ with_part x (with_down (n x) ds) n y = takes_down w s k i x rest at (sym (ap (ups k) waits ∙ first_skipped (up_about k) msg rest not_up)) in
    let front : (n x).down ≡ says ∷ ds =
    subst (λ z. downs k (s.queue z x) ≡ says ∷ ds) at (ap (downs k) waits ∙ first_said (down_about k) msg rest says word)
    in
    let wanted : wants t k ≡ (n x).want = ap (λ m. want_at m k) (sym is) in
    let heard_is : h ≡ heard t.core.status (n x).want says = downs_happen w t i msg k says may word ∙ ap (λ want. heard t.core.status want says) wanted in
    let kept : KeptIn home (value_after t.core.status h v) (with_part x (moved h (n x) ds) n) =
    subst (λ g. KeptIn home (value_after t.core.status g v) (with_part x (moved g (n x) ds) n)) (sym heard_is)
    (word_kept home.state home.memory home.waiting v x n t.core.status says ds held.kept front (λ content reads. waiting_leaves t.core.write k t.core.status content (wanted ∙ reads)))
    in
    let here : n' x ≡ with_down (n x) ds = popped x ∙ part_here x x (with_down (n x) ds) n (itself x) in
    let part_is : moved h (n' x) (n' x).down ≡ moved h (n x) ds = ap (λ (p : Part). moved h p p.down) here in
    let others : (y : ℕ) → (x == y) ≡ false → n' y ≡ n y = λ y ne. popped y ∙ part_there x y (with_down (n x) ds) n ne in
    acts_hold w s' k (value_after t.core.status h v) x (change_of (of_tile act)) (taken_placed w s k i x msg rest waits held.placed)
    (ap (λ slice. home_at slice.homes k) leaves.slice ∙ ap (λ m. home_in m k) (sym is)) (λ y. says_nothing_down k y act.mail leaves.mail)
    (λ y ne. says_none_elsewhere w t i msg k y from_home ne)
    (kept_at _ kept
    (λ y. elim (cases_Bool (x == y)) [
      | inl e ↦
          part_here x y _ n' e
          ∙ shown_part w s' k x t act h (n' x) is refl refl (deliver_shows w t i msg k cache) (goes_home w act.mail k (tells_home w t i msg from_home)) ∙ part_is ∙ sym (part_here x y (moved h (n x) ds) n e)
      | inr e ↦ part_there x y _ n' e ∙ others y e ∙ sym (part_there x y (moved h (n x) ds) n e)
    ]))

-- what a node tells the tile as the line's home

-- what a home sends is about the line, and says nothing to homes
abbrev GoesDown : ℕ → ℕ × Msg → Type 0
GoesDown line m = (up_of m.1 ≡ None) × (line_of m.1 ≡ Some line)

pub tile_told : (w : Setup) (s : State Node Msg) (k : ℕ) (v : LineData) (x : ℕ) (t : TileData) (i : ℕ) (msg : Msg) (rest : List Msg) (says : Up) → s.node x ≡ Tile t → t.number ≡ x
    → s.queue i x ≡ msg ∷ rest → may_send w.config i t.number msg ≡ true → line_of msg ≡ Some k → up_of msg ≡ Some says → up_about k msg ≡ Some says → down_about k msg ≡ None
    → x ≡ home_of w.config k → i ≤ w.config.tiles → Holds w s k v → Holds w (changed (with_queue s i x rest) x (change_of (of_tile (tile_delivered w t i msg)))) k v
tile_told w s k v x t i msg rest says is number waits may line up word no_down at from held =
    let act : Act = home_does w t i k says in
    let hears : tile_delivered w t i msg ≡ act = homes_hear w t i msg k says may line up in
    let s' : State Node Msg = with_queue s i x rest in
    let n : ℕ → Part = part_of w s k in
    let n' : ℕ → Part = part_of w s' k in
    let us : List Up = ups k rest in
    let h : Home = home_at t.slice.homes k in
    let home_is : home_line w s k ≡ h = subst (λ z. home_in (s.node z) k ≡ h) at (ap (λ m. home_in m k) is) in
    let before : KeptIn h v n = subst (λ g. KeptIn g v n) home_is held.kept in
    let idle : is_busy h.state ≡ false → h.waiting ≡ [] = subst (λ (g : Home). is_busy g.state ≡ false → g.waiting ≡ []) home_is held.placed.orderly.waits_while_busy in
    let step : Option Step = reaction w.config t.number k h i says in
    let popped : (y : ℕ) → n' y ≡ with_part i (with_up (n i) us) n y = takes_up w s k i x rest at (sym (ap (downs k) waits ∙ first_skipped (down_about k) msg rest no_down)) in
    let front : (n i).up ≡ says ∷ us =
    subst (λ z. ups k (s.queue i z) ≡ says ∷ us) at (ap (ups k) waits ∙ first_said (up_about k) msg rest says word)
    in
    let new : State Node Msg = changed s' x (change_of (of_tile act)) in
    let says_down = homes_say w t i k says in
    let no_ups : (y : ℕ) → ups k (messages_to y act.mail) ≡ [] = λ y.
    silent_to (up_about k) y act.mail (All-weaker (GoesDown k) (SaysNone (up_about k) y) (λ m e to. up_nothing k m.1 e.0) act.mail says_down)
    in
    let home_now : home_line w new k ≡ home_after h step =
    home_changes w s' k x (change_of (of_tile act)) at ∙ one_line_changes t.slice.homes k k step ∙ cond-true (k == k) _ _ (itself k)
    in
    let kept : KeptIn (home_after h step) v (all_sent (with_part i (with_up (n i) us) n) (said_to k (mail_of step))) = home_takes w.config t.number k h v i says us n idle before front in
    let parts : (y : ℕ) → part_of w new k y ≡ all_sent (with_part i (with_up (n i) us) n) (said_to k (mail_of step)) y = λ y.
    home_sends w s' k x (change_of (of_tile act)) at (ap (λ m. copy_at m k) (sym is)) (ap (λ m. want_at m k) (sym is)) no_ups y
    ∙ ap (λ p. sent p (said_to k (mail_of step) y)) (popped y)
    in
    let placed : Placed w s' k = taken_placed w s k i x msg rest waits held.placed in
    let done : Holds w new k v = record {
      kept = subst (λ g. KeptIn g v (part_of w new k)) (sym home_now) (kept_at (part_of w new k) kept parts);
      placed = record {
        orderly = subst IsOrderly (sym home_now) (keeps_orderly w.config t.number k h i says (subst IsOrderly home_is held.placed.orderly));
        within = subst (IsWithin w.config.tiles) (sym home_now) (told_within w.config t.number k h i says (subst (IsWithin w.config.tiles) home_is held.placed.within) from);
        up = λ a b ne. ups_stay s' x (change_of (of_tile act)) k a b (λ _. no_ups b) ∙ placed.up a b ne;
        down = λ a b ne. downs_stay s' x (change_of (of_tile act)) k a b (λ same. absurd (ne (same ∙ at))) ∙ placed.down a b ne;
      };
    } in
    subst (λ a. Holds w (changed s' x (change_of (of_tile a))) k v) (sym hears) done

-- and what it does for another line as its home leaves this one alone

home_elsewhere : (w : Setup) (t : TileData) (i j k : ℕ) (says : Up) → (j == k) ≡ false
    → (home_at (home_does w t i j says).tile.slice.homes k ≡ home_at t.slice.homes k) × ((y : ℕ) → downs k (messages_to y (home_does w t i j says).mail) ≡ [])
home_elsewhere w t i j k says ne =
    let step : Option Step = reaction w.config t.number j (home_at t.slice.homes j) i says in
    let act : Act = home_does w t i j says in
    let other : (k == j) ≡ false = sym (turned j k) ∙ ne in (
      one_line_changes t.slice.homes j k step ∙ cond-false (k == j) _ _ other,
      λ y. silent_to (down_about k) y act.mail (All-weaker (GoesDown j) (SaysNone (down_about k) y) (λ m e to. (about_other j k m.1 e.1 ne).1) act.mail (homes_say w t i j says)),
    )

pub told_elsewhere : (w : Setup) (t : TileData) (i : ℕ) (msg : Msg) (j k : ℕ) (says : Up) → line_of msg ≡ Some j → up_of msg ≡ Some says → (j == k) ≡ false
    → (home_at (tile_delivered w t i msg).tile.slice.homes k ≡ home_at t.slice.homes k) × ((y : ℕ) → downs k (messages_to y (tile_delivered w t i msg).mail) ≡ [])
told_elsewhere w t i msg j k says line up ne =
    elim (cases_Bool (may_send w.config i t.number msg)) [
      | inl may ↦
          let is : tile_delivered w t i msg ≡ home_does w t i j says = homes_hear w t i msg j says may line up in
          let other = home_elsewhere w t i j k says ne in
          (ap (λ (a : Act). home_at a.tile.slice.homes k) is ∙ other.0, λ y. ap (λ a. downs k (messages_to y a.mail)) is ∙ other.1 y)
      | inr may_not ↦
          let is : tile_delivered w t i msg ≡ quiet t = cond-false (may_send w.config i t.number msg) _ _ may_not in
          (ap (λ (a : Act). home_at a.tile.slice.homes k) is, λ y. ap (λ a. downs k (messages_to y a.mail)) is)
    ]
