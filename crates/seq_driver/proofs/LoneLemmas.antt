-- While one node alone can act, and its steps send nothing, the stream draws these steps, whatever its words are.
use Rattle.std.proofs.Common.{◌≡◌, ℕ, zero, suc, ◌+◌, ◌-◌, ◌*◌, ◌%◌, ◌<◌, ◌≤◌, Bool, true, false, List, [], ◌∷◌, ◌++◌, length, map, replicate, take, refl, sym, ap, subst, ◌∙◌, arith, inl, inr, eq-eqb, length-append, append-nil}
use Rattle.std.proofs.lemmas.List.{take_all}
use Rattle.std.specs.Prelude.{Some, None, Ok, Err, cond, ◌||◌, ◌==◌, not, nat_lt, nat_le, slice_get}
use Rattle.std.specs.List.{range_with_len, list_any}
use Rattle.std.proofs.lemmas.Bool.{and_parts, true≢false}
use Rattle.std.proofs.lemmas.Bool.Decides.{nat_tests, eqb_tells}
use Rattle.rand_pcg.specs.Lcg.{Lcg, advance, next as next_lcg}
use Rattle.rand_pcg.specs.Pcg.{multiplier_64}
use Rattle.rand_pcg.proofs.LcgLemmas.{advance_zero, advance_more}
use Rattle.sim_base.specs.Numbering.{node_count, control_node}
use Rattle.elf_image.specs.Layout.{Setup}
use Rattle.wire_msg.specs.declared.messages.Msg.{Msg}
use Rattle.event_journal.specs.declared.events.Event.{Event}
use Rattle.event_journal.specs.declared.events.Event.TheVariants.{Step, Deliver}
use Rattle.event_journal.specs.State.{State, is_empty, messages_to, put}
use Rattle.event_journal.specs.Run.{IsRun, happens, can_happen}
use Rattle.event_journal.specs.Choice.{acting_nodes, can_act, own_step, senders_to}
use Rattle.event_journal.proofs.Runs.{after-append, run-append}
use Rattle.node_machine.specs.declared.nodes.Node.{Node}
use Rattle.node_machine.specs.Machine.{rules, can_step, node_step, start_state}
use Rattle.node_machine.specs.Reading.{ended_of_node}
use Rattle.node_machine.specs.End.{end_of, end_by, is_used_up}
use Rattle.node_machine.specs.declared.cores.ApplyFault.{ApplyFault}
use Rattle.node_machine.specs.declared.cores.ApplyFault.TheVariants.{NotEnabled}
use Rattle.node_machine.specs.Core.{CoreData, Shows, IsCore, end_in, steps_at}
use Rattle.node_machine.specs.Alone.{stepped, steps_of, AreMade, StepsOn}
use Rattle.node_machine.specs.Shown.{ReadsAsShown}
use Rattle.node_set.proofs.Ranges.{filter_range}
use Rattle.node_machine.proofs.ShownLemmas.{shown_is_read}
use Rattle.seq_driver.specs.Picked.{start_stream, next_word, after_word, after_draw, picked, choice_of, drawn_event, AreDrawn}
use Rattle.seq_driver.specs.Driven.{state_after}
use Rattle.seq_driver.specs.Inner.{after_draws, IsUnderWay, IsDrawing, IsLone, GoesOn}
use Rattle.seq_driver.proofs.ChoiceLemmas.{kept_at}
use Rattle.seq_driver.proofs.DrawLemmas.{drawn_happens, drawn-join, draws-join}

either : {A : Type 0} (b : Bool) (x y z : A) → x ≡ z → y ≡ z → cond b x y ≡ z
either true x y z e f = e
either false x y z e f = f

-- a word picks the only one
one_picked : {A : Type 0} (x : A) (word : ℕ) → picked (x ∷ []) word ≡ Some x
one_picked x word =
    let first : word % 1 ≡ 0 = omega arith in
    ap (λ i. slice_get (x ∷ []) i) first

-- two tests that agree at the numbers of a range pass there alike
any_range : (p q : ℕ → Bool) (a n : ℕ) → ((i : ℕ) → a ≤ i → i < a + n → p i ≡ q i) → list_any p (range_with_len a n) ≡ list_any q (range_with_len a n)
any_range p q a zero h = refl
any_range p q a (suc n) h =
    ap (λ b. b || list_any p (range_with_len (a + 1) n)) (h a (omega arith) (omega arith))
    ∙ ap (λ b. q a || b) (any_range p q (a + 1) n (λ i low high. h i (omega (arith, low)) (omega (arith, high))))

own : {A : Type 0} (f : ℕ → A) (k : ℕ) (x : A) → put f k x k ≡ x
own f k x = rw (eq-eqb k k refl) refl

module _ (w : Setup) (node : ℕ) where
  lone_draws : (s : State Node Msg) (g : Lcg) → acting_nodes (rules w) (node_count w.config) s ≡ node ∷ [] → senders_to (node_count w.config) s node ≡ []
      → can_step (s.node node) ≡ true → drawn_event (rules w) (node_count w.config) s g ≡ Some (Step node)
  lone_draws s g acting senders can =
      ap (λ xs. choice_of (rules w) (node_count w.config) s (picked xs (next_word g)) (next_word (after_word g))) acting
      ∙ ap (λ found. choice_of (rules w) (node_count w.config) s found (next_word (after_word g))) (one_picked node (next_word g))
      ∙ ap (λ b. picked (own_step b node ++ map (λ from. Deliver from node) (senders_to (node_count w.config) s node)) (next_word (after_word g))) can
      ∙ ap (λ xs. picked (own_step true node ++ map (λ from. Deliver from node) xs) (next_word (after_word g))) senders
      ∙ one_picked (Step node) (next_word (after_word g))

  -- a step that sends nothing leaves what the others can do
  module _ (s : State Node Msg) (quiet : (node_step w (s.node node)).sent ≡ []) where
    next : State Node Msg
    next = happens (rules w) s (Step node)

    queue_same : (from to : ℕ) → (happens (rules w) s (Step node)).queue from to ≡ s.queue from to
    queue_same from to =
        ap (λ mail. cond (from == node) (s.queue from to ++ messages_to to mail) (s.queue from to)) quiet
        ∙ either (from == node) (s.queue from to ++ []) (s.queue from to) (s.queue from to) (append-nil (s.queue from to)) refl

    senders_same : (k : ℕ) → senders_to (node_count w.config) (happens (rules w) s (Step node)) k ≡ senders_to (node_count w.config) s k
    senders_same k =
        filter_range (λ from. not (is_empty ((happens (rules w) s (Step node)).queue from k))) (λ from. not (is_empty (s.queue from k))) 0 (node_count w.config)
        (λ from low high. ap (λ q. not (is_empty q)) (queue_same from k))

    other_node : (k : ℕ) → (k == node) ≡ false → (happens (rules w) s (Step node)).node k ≡ s.node k
    other_node k other = rw (other) refl

    module _ (before : can_step (s.node node) ≡ true) (can : can_happen (rules w) (node_count w.config) (happens (rules w) s (Step node)) (Step node) ≡ true) where
      room_then : nat_lt (s.made node + 1) w.config.events ≡ true
      room_then =
          ap (λ n. nat_lt n w.config.events) (sym (own s.made node (s.made node + 1)))
          ∙ (and_parts (nat_lt ((happens (rules w) s (Step node)).made node) w.config.events) _ (and_parts (nat_lt node (node_count w.config)) _ can).1).0

      can_then : can_step ((happens (rules w) s (Step node)).node node) ≡ true
      can_then = (and_parts (nat_lt ((happens (rules w) s (Step node)).made node) w.config.events) _ (and_parts (nat_lt node (node_count w.config)) _ can).1).1

      acts_same : (k : ℕ) → can_act (rules w) (node_count w.config) (happens (rules w) s (Step node)) k ≡ can_act (rules w) (node_count w.config) s k
      acts_same k = elim (eqb_tells k node) [
        | inl same ↦
            subst (λ m. can_act (rules w) (node_count w.config) (happens (rules w) s (Step node)) m ≡ can_act (rules w) (node_count w.config) s m) (sym same.1)
            (ap (λ b. b || not (is_empty (senders_to (node_count w.config) (happens (rules w) s (Step node)) node))) can_then
            ∙ sym (ap (λ b. b || not (is_empty (senders_to (node_count w.config) s node))) before))
        | inr other ↦
            ap (λ x. can_step x || not (is_empty (senders_to (node_count w.config) (happens (rules w) s (Step node)) k))) (other_node k other.0)
            ∙ ap (λ xs. can_step (s.node k) || not (is_empty xs)) (senders_same k)
      ]

      acting_same : acting_nodes (rules w) (node_count w.config) (happens (rules w) s (Step node)) ≡ acting_nodes (rules w) (node_count w.config) s
      acting_same =
          filter_range (can_act (rules w) (node_count w.config) (happens (rules w) s (Step node))) (can_act (rules w) (node_count w.config) s) 0 (node_count w.config)
          (λ k low high. acts_same k)

      full_same : (k : ℕ) → nat_le w.config.events ((happens (rules w) s (Step node)).made k) ≡ nat_le w.config.events (s.made k)
      full_same k = elim (eqb_tells k node) [
        | inl same ↦
            subst (λ m. nat_le w.config.events ((happens (rules w) s (Step node)).made m) ≡ nat_le w.config.events (s.made m)) (sym same.1)
            (let room = room_then in
            let then : nat_le w.config.events (s.made node + 1) ≡ false = grind (arith, nat_tests) in
            let now : nat_le w.config.events (s.made node) ≡ false = grind (arith, nat_tests) in
            ap (nat_le w.config.events) (own s.made node (s.made node + 1)) ∙ then ∙ sym now)
        | inr other ↦ rw (other.0) refl
      ]

      end_same : node < w.config.tiles → end_of w (happens (rules w) s (Step node)) ≡ end_of w s
      end_same tile =
          let apart : (control_node w.config == node) ≡ false = grind (arith, nat_tests) in
          ap (λ x. end_by (ended_of_node x) (is_used_up w (happens (rules w) s (Step node)))) (other_node (control_node w.config) apart)
          ∙ ap (λ b. end_by (ended_of_node (s.node (control_node w.config))) b)
          (any_range (λ k. nat_le w.config.events ((happens (rules w) s (Step node)).made k)) (λ k. nat_le w.config.events (s.made k)) 0 (node_count w.config) (λ k low high. full_same k))

  can_from : (s : State Node Msg) → can_happen (rules w) (node_count w.config) s (Step node) ≡ true → can_step (s.node node) ≡ true
  can_from s can = (and_parts (nat_lt (s.made node) w.config.events) _ (and_parts (nat_lt node (node_count w.config)) _ can).1).1

  lone_drawn : (n : ℕ) (s : State Node Msg) (g : Lcg) → end_of w s ≡ None → acting_nodes (rules w) (node_count w.config) s ≡ node ∷ []
      → senders_to (node_count w.config) s node ≡ [] → IsRun (rules w) (node_count w.config) s (steps_of node n)
      → ((k : ℕ) → k + 1 < n → (node_step w (stepped w (s.node node) k)).sent ≡ []) → (1 < n → node < w.config.tiles) → AreDrawn w s g (steps_of node n)
  unfolding steps_of stepped
  lone_drawn zero s g end acting senders run quiet tile = tt
  lone_drawn (suc zero) s g end acting senders run quiet tile = (end, lone_draws s g acting senders (can_from s run.0), tt)
  lone_drawn (suc (suc n)) s g end acting senders run quiet tile =
      let still : (node_step w (s.node node)).sent ≡ [] = quiet 0 (omega arith) in
      let before : can_step (s.node node) ≡ true = can_from s run.0 in
      let low : node < w.config.tiles = tile (omega arith) in (
        end,
        lone_draws s g acting senders before,
        lone_drawn (suc n) (happens (rules w) s (Step node)) (after_draw g)
            (end_same s still before run.1.0 low ∙ end)
            (acting_same s still before run.1.0 ∙ acting)
            (senders_same s still node ∙ senders)
            run.1
            (λ k less. ap (λ x. (node_step w (stepped w x k)).sent) (own s.node node (node_step w (s.node node)).node) ∙ quiet (suc k) (omega (arith, less)))
            (λ many. low),
      )

steps_length : (node n : ℕ) → length (steps_of node n) ≡ n
unfolding steps_of
steps_length node zero = refl
steps_length node (suc n) = ap suc (steps_length node n)

-- so many steps are one, so many times
pub steps_are : (node n : ℕ) → replicate n (Step node) ≡ steps_of node n
unfolding steps_of
steps_are node zero = refl
steps_are node (suc n) = ap (λ events. Step node ∷ events) (steps_are node n)

-- to draw once more is to pass two words more
draw_more : (n : ℕ) (g : Lcg) → advance 64 multiplier_64 (2 * n) (after_draw g) ≡ advance 64 multiplier_64 (2 * suc n) g
unfolding after_word
draw_more n g =
    let more : 2 * n + 1 + 1 ≡ 2 * suc n = omega arith in
    advance_more 64 multiplier_64 (2 * n) (next_lcg 64 multiplier_64 g) ∙ advance_more 64 multiplier_64 (2 * n + 1) g ∙ ap (λ k. advance 64 multiplier_64 k g) more

-- to draw so many steps is to pass two words for each
pub draws_are_words : (node n : ℕ) (g : Lcg) → after_draws g (steps_of node n) ≡ advance 64 multiplier_64 (2 * n) g
unfolding steps_of
draws_are_words node zero g = sym (advance_zero 64 multiplier_64 g)
draws_are_words node (suc n) g = draws_are_words node n (after_draw g) ∙ draw_more n g

-- the run goes on by the steps of the only node that can act
pub steps_go_on : (w : Setup) (core new : CoreData) (g : Lcg) (events : List Event) (node n : ℕ)
    → IsUnderWay w core events → IsDrawing w g events → end_in core ≡ None → IsLone core node
    → IsCore w new → new.spent ≡ false → ((s : State Node Msg) → Shows core s → AreMade w node n new s)
    → GoesOn w (Ok tt) new (after_draws g (steps_of node n)) events (events ++ steps_of node n)
steps_go_on w core new g events node n under drawing no_end lone fits not_spent each =
    let s : State Node Msg = state_after w events in
    let made : AreMade w node n new (state_after w events) = each (state_after w events) under.shows in
    let reads : ReadsAsShown w core (state_after w events) = shown_is_read w core (state_after w events) under.fits under.shows in
    let acting : acting_nodes (rules w) (node_count w.config) (state_after w events) ≡ node ∷ [] = sym reads.acting ∙ lone.acting in
    let kept = kept_at (can_act (rules w) (node_count w.config) (state_after w events)) 0 (node_count w.config) 0 node (ap (λ xs. slice_get xs 0) acting) in
    let low : node < node_count w.config = omega (arith, kept.high) in
    let senders : senders_to (node_count w.config) (state_after w events) node ≡ [] = sym (reads.senders node low) ∙ lone.senders in
    let drawn : AreDrawn w (state_after w events) g (steps_of node n) =
    lone_drawn w node n (state_after w events) g (sym reads.end ∙ no_end) acting senders made.run made.quiet made.tile in (
      omega (arith, length-append events (steps_of node n), steps_length node n, made.some),
      record {
        fits = fits;
        not_spent = not_spent;
        shows = subst (Shows new) (sym (after-append (rules w) (start_state w) events (steps_of node n))) made.shows;
        run = run-append (rules w) (node_count w.config) (start_state w) events (steps_of node n) under.run made.run;
      },
      record {
        drawn = drawn-join w (start_state w) (start_stream w.config.seed) events (steps_of node n) drawing.drawn
            (subst (λ h. AreDrawn w (state_after w events) h (steps_of node n)) drawing.stream drawn);
        stream = ap (λ h. after_draws h (steps_of node n)) drawing.stream ∙ sym (draws-join (start_stream w.config.seed) events (steps_of node n));
      },
    )

-- it can step
pub lone_can : (w : Setup) (core : CoreData) (g : Lcg) (events : List Event) (node : ℕ)
    → IsUnderWay w core events → end_in core ≡ None → IsLone core node
    → can_happen (rules w) (node_count w.config) (state_after w events) (Step node) ≡ true
lone_can w core g events node under no_end lone =
    let reads : ReadsAsShown w core (state_after w events) = shown_is_read w core (state_after w events) under.fits under.shows in
    let acting : acting_nodes (rules w) (node_count w.config) (state_after w events) ≡ node ∷ [] = sym reads.acting ∙ lone.acting in
    let kept = kept_at (can_act (rules w) (node_count w.config) (state_after w events)) 0 (node_count w.config) 0 node (ap (λ xs. slice_get xs 0) acting) in
    let low : node < node_count w.config = omega (arith, kept.high) in
    let senders : senders_to (node_count w.config) (state_after w events) node ≡ [] = sym (reads.senders node low) ∙ lone.senders in
    let can : can_step ((state_after w events).node node) ≡ true =
    sym (ap steps_at (under.shows.node node (subst (λ n. node < n) (sym under.fits.nodes) low))) ∙ lone.steps in
    drawn_happens w (state_after w events) g (Step node) (sym reads.end ∙ no_end) (lone_draws w node (state_after w events) g acting senders can)

pub never_refused : (w : Setup) (core new : CoreData) (g : Lcg) (events : List Event) (node : ℕ) (fault : ApplyFault)
    → IsUnderWay w core events → end_in core ≡ None → IsLone core node → fault ≡ NotEnabled → StepsOn w node (Err fault) core new → ⊥
never_refused w core new g events node fault under no_end lone is steps =
    let answer : StepsOn w node (Err NotEnabled) core new = subst (λ f. StepsOn w node (Err f) core new) is steps in
    true≢false (sym (lone_can w core g events node under no_end lone) ∙ answer.2 (state_after w events) under.shows)
