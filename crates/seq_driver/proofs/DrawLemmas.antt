-- What the stream draws of a core, and how a run goes on by it.
use Rattle.std.proofs.Common.{◌≡◌, ℕ, zero, suc, ◌+◌, ◌*◌, ◌<◌, ◌≤◌, Bool, true, false, List, [], ◌∷◌, ◌++◌, length, refl, sym, ap, subst, ◌∙◌, arith, inl, inr}
use Rattle.std.specs.Prelude.{Option, Some, None, Err, ◌||◌, nat_le, slice_get}
use Rattle.std.specs.List.{range_with_len, list_any}
use Rattle.std.proofs.lemmas.Bool.{cases_Bool}
use Rattle.std.proofs.lemmas.Bool.Decides.{nat_tests, eqb_tells}
use Rattle.std.proofs.lemmas.Option.{same_Some, none-some}
use Rattle.rand_pcg.specs.Lcg.{Lcg}
use Rattle.sim_base.specs.declared.actions.Action.{Action}
use Rattle.sim_base.specs.declared.ends.End.{End}
use Rattle.sim_base.specs.declared.ends.End.TheVariants.{Budget}
use Rattle.sim_base.specs.Numbering.{node_count}
use Rattle.elf_image.specs.Layout.{Setup}
use Rattle.wire_msg.specs.declared.messages.Msg.{Msg}
use Rattle.event_journal.specs.declared.events.Event.{Event}
use Rattle.event_journal.specs.State.{State}
use Rattle.event_journal.specs.Run.{after, happens, can_happen}
use Rattle.event_journal.specs.Choice.{acting_nodes}
use Rattle.event_journal.proofs.Runs.{after-append, run-append, stays_within}
use Rattle.node_machine.specs.declared.nodes.Node.{Node}
use Rattle.node_machine.specs.Machine.{rules, can_step, start_node, start_state}
use Rattle.node_machine.specs.Reading.{ended_of_node}
use Rattle.node_machine.specs.End.{end_of, end_by, is_used_up}
use Rattle.node_machine.specs.declared.cores.ApplyFault.{ApplyFault}
use Rattle.node_machine.specs.declared.cores.ApplyFault.TheVariants.{NotEnabled}
use Rattle.node_machine.specs.Core.{CoreData, Shows, IsCore, IsMade, Applies, is_enabled_in, steps_at, senders_in, end_in, start_core}
use Rattle.node_machine.specs.Shown.{ReadsAsShown}
use Rattle.node_machine.proofs.ShownLemmas.{shown_is_read}
use Rattle.seq_driver.specs.Picked.{start_stream, next_word, after_word, after_draw, picked, choice_of, drawn_event, AreDrawn}
use Rattle.node_machine.proofs.StartLemmas.{start_is_shown}
use Rattle.seq_driver.specs.Driven.{state_after, IsJournal, IsRan, IsStuck, OneIsDrawn}
use Rattle.seq_driver.specs.Inner.{choices_in, choice_in, drawn_in, after_draws, IsUnderWay, IsDrawing}
use Rattle.seq_driver.proofs.ChoiceLemmas.{nobody_acts, drawn_can, picked_acts, none_drawn}

-- lists of events that the stream drew, one after the other

pub drawn-join : (w : Setup) (s : State Node Msg) (g : Lcg) (events more : List Event) → AreDrawn w s g events
    → AreDrawn w (after (rules w) s events) (after_draws g events) more → AreDrawn w s g (events ++ more)
drawn-join w s g [] more drawn later = later
drawn-join w s g (first ∷ events) more drawn later =
    (drawn.0, drawn.1, drawn-join w (happens (rules w) s first) (after_draw g) events more drawn.2 later)

pub draws-join : (g : Lcg) (events more : List Event) → after_draws g (events ++ more) ≡ after_draws (after_draws g events) more
draws-join g [] more = refl
draws-join g (first ∷ events) more = draws-join (after_draw g) events more

-- while there is no end each node may make one more event

none_passes : (p : ℕ → Bool) (a n : ℕ) → list_any p (range_with_len a n) ≡ false → (k : ℕ) → a ≤ k → k < a + n → p k ≡ false
none_passes p a zero none k low high = absurd (omega (arith, low, high))
none_passes p a (suc n) none k low high = elim (cases_Bool (p a)) [
  | inl passes ↦ cc (subst (λ b. (b || list_any p (range_with_len (a + 1) n)) ≡ false) passes none)
  | inr fails ↦ elim (eqb_tells k a) [
    | inl same ↦ ap p same.1 ∙ fails
    | inr other ↦ none_passes p (a + 1) n (subst (λ b. (b || list_any p (range_with_len (a + 1) n)) ≡ false) fails none) k (omega (arith, low, other.1)) (omega (arith, high))
  ]
]

not_used_up : (found : Option End) (used_up : Bool) → end_by found used_up ≡ None → used_up ≡ false
not_used_up (Some end) used_up none = absurd (none-some end (sym none))
not_used_up None true none = absurd (none-some Budget (sym none))
not_used_up None false none = refl

has_room : (w : Setup) (s : State Node Msg) → end_of w s ≡ None → (node : ℕ) → node < node_count w.config → s.made node < w.config.events
has_room w s none node low =
    let fails : nat_le w.config.events (s.made node) ≡ false =
    none_passes (λ k. nat_le w.config.events (s.made k)) 0 (node_count w.config) (not_used_up (ended_of_node (s.node _)) (is_used_up w s) none) node (omega arith) (omega (arith, low)) in
    grind (arith, nat_tests)

-- what is drawn of a core is drawn of the state that it shows

choice_shown : (w : Setup) (core : CoreData) (s : State Node Msg) (found : Option ℕ) (word : ℕ) → ReadsAsShown w core s → Shows core s → IsCore w core
    → ((node : ℕ) → found ≡ Some node → node < node_count w.config)
    → choice_in core found word ≡ choice_of (rules w) (node_count w.config) s found word
choice_shown w core s None word reads shows is within = refl
choice_shown w core s (Some node) word reads shows is within =
    let low : node < node_count w.config = within node refl in
    let steps : steps_at (slice_get core.nodes node) ≡ can_step (s.node node) =
    ap steps_at (shows.node node (subst (λ n. node < n) (sym is.nodes) low)) in
    ap (λ b. picked (choices_in b node (senders_in core node)) word) steps
    ∙ ap (λ xs. picked (choices_in (can_step (s.node node)) node xs) word) (reads.senders node low)

pub drawn_shown : (w : Setup) (core : CoreData) (s : State Node Msg) (g : Lcg) → IsCore w core → Shows core s
    → drawn_in core g ≡ drawn_event (rules w) (node_count w.config) s g
drawn_shown w core s g is shows =
    let reads : ReadsAsShown w core s = shown_is_read w core s is shows in
    ap (λ xs. choice_in core (picked xs (next_word g)) (next_word (after_word g))) reads.acting
    ∙ choice_shown w core s (picked (acting_nodes (rules w) (node_count w.config) s) (next_word g)) (next_word (after_word g)) reads shows is
    (λ node e. omega (arith, (picked_acts (rules w) (node_count w.config) s (next_word g) node e).high))

-- a drawn event can happen, where there is no end; and where none is drawn, none can

pub drawn_happens : (w : Setup) (s : State Node Msg) (g : Lcg) (event : Event) → end_of w s ≡ None
    → drawn_event (rules w) (node_count w.config) s g ≡ Some event → can_happen (rules w) (node_count w.config) s event ≡ true
drawn_happens w s g event none is =
    drawn_can (rules w) (node_count w.config) s (picked (acting_nodes (rules w) (node_count w.config) s) (next_word g)) (next_word (after_word g)) event
    (λ node e. omega (arith, (picked_acts (rules w) (node_count w.config) s (next_word g) node e).high))
    (has_room w s none) is

pub none_happens : (w : Setup) (s : State Node Msg) (g : Lcg) → drawn_event (rules w) (node_count w.config) s g ≡ None
    → (event : Event) → can_happen (rules w) (node_count w.config) s event ≡ false
none_happens w s g none =
    nobody_acts (rules w) (node_count w.config) s
    (none_drawn (rules w) (node_count w.config) s (picked (acting_nodes (rules w) (node_count w.config) s) (next_word g)) (next_word g) (next_word (after_word g)) refl none)

-- a run goes on by an event

pub goes_on : (w : Setup) (old new : CoreData) (events : List Event) (event : Event) → IsUnderWay w old events → IsCore w new → new.spent ≡ false
    → can_happen (rules w) (node_count w.config) (state_after w events) event ≡ true
    → Shows new (happens (rules w) (state_after w events) event)
    → IsUnderWay w new (events ++ event ∷ [])
goes_on w old new events event under fits not_spent can shows = record {
  fits = fits;
  not_spent = not_spent;
  shows = subst (Shows new) (sym (after-append (rules w) (start_state w) events (event ∷ []))) shows;
  run = run-append (rules w) (node_count w.config) (start_state w) events (event ∷ []) under.run (can, tt);
}

pub draws_on : (w : Setup) (g : Lcg) (events : List Event) (event : Event) → IsDrawing w g events → end_of w (state_after w events) ≡ None
    → drawn_event (rules w) (node_count w.config) (state_after w events) g ≡ Some event
    → IsDrawing w (after_draw g) (events ++ event ∷ [])
draws_on w g events event drawing none is = record {
  drawn = drawn-join w (start_state w) (start_stream w.config.seed) events (event ∷ []) drawing.drawn
      (none, subst (λ h. drawn_event (rules w) (node_count w.config) (state_after w events) h ≡ Some event) drawing.stream is, tt);
  stream = ap after_draw drawing.stream ∙ sym (draws-join (start_stream w.config.seed) events (event ∷ []));
}

-- no run has more events than all nodes may make
pub not_so_many : (w : Setup) (events : List Event) → IsJournal w events → node_count w.config * w.config.events < length events → ⊥
not_so_many w events run many = omega (arith, many, (stays_within (rules w) (node_count w.config) (start_node w) events run).all)

-- one seed's run

one_drawn : (w : Setup) (s : State Node Msg) (g : Lcg) (a b : List Event) (first second : End) → AreDrawn w s g a → end_of w (after (rules w) s a) ≡ Some first
    → AreDrawn w s g b → end_of w (after (rules w) s b) ≡ Some second → a ≡ b
one_drawn w s g [] [] first second drawn_a ended_a drawn_b ended_b = refl
one_drawn w s g [] (e ∷ b) first second drawn_a ended_a drawn_b ended_b = absurd (none-some first (sym drawn_b.0 ∙ ended_a))
one_drawn w s g (e ∷ a) [] first second drawn_a ended_a drawn_b ended_b = absurd (none-some second (sym drawn_a.0 ∙ ended_b))
one_drawn w s g (e ∷ a) (f ∷ b) first second drawn_a ended_a drawn_b ended_b =
    let same : e ≡ f = same_Some e f (sym drawn_a.1 ∙ drawn_b.1) in
    let rest : a ≡ b = one_drawn w (happens (rules w) s e) (after_draw g) a b first second drawn_a.2 ended_a
    (subst (λ x. AreDrawn w (happens (rules w) s x) (after_draw g) b) (sym same) drawn_b.2)
    (subst (λ x. end_of w (after (rules w) (happens (rules w) s x) b) ≡ Some second) (sym same) ended_b) in
    ap (λ x. x ∷ a) same ∙ ap (λ xs. f ∷ xs) rest

pub one_is_drawn : OneIsDrawn
one_is_drawn w a b first second drawn_a ended_a drawn_b ended_b = one_drawn w (start_state w) (start_stream w.config.seed) a b first second drawn_a ended_a drawn_b ended_b

-- a turn of the run, by what the core answers

module _ (w : Setup) (core : CoreData) (g : Lcg) (events : List Event) (under : IsUnderWay w core events) (drawing : IsDrawing w g events) where
  state_end : end_in core ≡ end_of w (state_after w events)
  state_end = (shown_is_read w core (state_after w events) under.fits under.shows).end

  pub ran_at : (end : End) → end_in core ≡ Some end → IsRan w (record { journal = events; core = core; end = end })
  ran_at end is = record { run = under.run; fits = under.fits; not_spent = under.not_spent; shows = under.shows; end = sym state_end ∙ is }

  pub stuck_at : end_in core ≡ None → drawn_in core g ≡ None → IsStuck w events
  stuck_at no_end none = record {
    run = under.run;
    drawn = drawing.drawn;
    no_end = sym state_end ∙ no_end;
    none_enabled = none_happens w (state_after w events) g (sym (drawn_shown w core (state_after w events) g under.fits under.shows) ∙ none);
  }

  module _ (event : Event) (no_end : end_in core ≡ None) (is : drawn_in core g ≡ Some event) where
    drawn_here : drawn_event (rules w) (node_count w.config) (state_after w events) g ≡ Some event
    drawn_here = sym (drawn_shown w core (state_after w events) g under.fits under.shows) ∙ is

    event_can : can_happen (rules w) (node_count w.config) (state_after w events) event ≡ true
    event_can = drawn_happens w (state_after w events) g event (sym state_end ∙ no_end) drawn_here

    pub is_enabled : is_enabled_in core event ≡ true
    is_enabled = (shown_is_read w core (state_after w events) under.fits under.shows).enabled event ∙ event_can

    pub run_goes_on : (new : CoreData) (action : Option Action) → IsCore w new → new.spent ≡ false
        → ((s : State Node Msg) → Shows core s → IsMade w event action core new s)
        → IsUnderWay w new (events ++ event ∷ [])
    run_goes_on new action fits not_spent made = goes_on w core new events event under fits not_spent event_can (made (state_after w events) under.shows).shows

    pub drawing_goes_on : IsDrawing w (after_draw g) (events ++ event ∷ [])
    drawing_goes_on = draws_on w g events event drawing (sym state_end ∙ no_end) drawn_here

-- before the first turn

pub begins : (w : Setup) (core : CoreData) → core ≡ start_core w → IsCore w core → IsUnderWay w core []
begins w core is fits = record {
  fits = fits;
  not_spent = ap (λ c. c.spent) is;
  shows = subst (λ c. Shows c (start_state w)) (sym is) (start_is_shown w);
  run = tt;
}

-- what is known where an event was refused
pub refused_by : (w : Setup) (event : Event) (fault : ApplyFault) (old new : CoreData) → fault ≡ NotEnabled → Applies w event (Err fault) old new
    → (s : State Node Msg) → Shows old s → can_happen (rules w) (node_count w.config) s event ≡ false
refused_by w event fault old new is applies =
    let answer : Applies w event (Err NotEnabled) old new = subst (λ f. Applies w event (Err f) old new) is applies in
    answer.2
