-- The run that a seed draws and the events that a journal tells: each is one, and has an end or is refused, not both.
use Rattle.std.proofs.Common.{◌≡◌, ℕ, zero, suc, List, [], ◌∷◌, take, true, false, refl, sym, ap, subst, ◌∙◌}
use Rattle.std.specs.Prelude.{Some, None, slice_get}
use Rattle.std.proofs.lemmas.Option.{same_Some, none-some}
use Rattle.sim_base.specs.declared.ends.End.{End}
use Rattle.sim_base.specs.Numbering.{node_count}
use Rattle.elf_image.specs.Layout.{Setup}
use Rattle.wire_msg.specs.declared.messages.Msg.{Msg}
use Rattle.event_journal.specs.declared.events.Event.{Event}
use Rattle.event_journal.specs.Rules.{Rules}
use Rattle.event_journal.specs.State.{State}
use Rattle.event_journal.specs.Run.{IsRun, after, happens, can_happen}
use Rattle.node_machine.specs.declared.nodes.Node.{Node}
use Rattle.node_machine.specs.Machine.{rules, start_state}
use Rattle.node_machine.specs.End.{end_of}
use Rattle.seq_driver.specs.Driven.{state_after, IsJournal, IsDrawn, IsStuck}
use Rattle.seq_driver.specs.Picked.{AreDrawn, drawn_event, after_draw, start_stream}
use Rattle.seq_driver.specs.Replayed.{IsFirstRefused, IsUnfinished}
use Rattle.sim_top.specs.declared.outcomes.JournalFault.{JournalFault}
use Rattle.sim_top.specs.declared.outcomes.JournalFault.TheVariants.{TooLong, Byte, Event as EventFault, Unfinished}
use Rattle.sim_top.specs.Runs.{IsNoRun}
use Rattle.seq_driver.proofs.DrawLemmas.{drawn_happens}

-- a stuck run has no end

stuck_by : (w : Setup) (s : State Node Msg) (g : _) (a b : List Event) (end : End) → AreDrawn w s g a → end_of w (after (rules w) s a) ≡ Some end
    → AreDrawn w s g b → end_of w (after (rules w) s b) ≡ None → ((event : Event) → can_happen (rules w) (node_count w.config) (after (rules w) s b) event ≡ false) → ⊥
stuck_by w s g [] [] end drawn_a ended drawn_b no_end none = none-some end (sym no_end ∙ ended)
stuck_by w s g [] (e ∷ b) end drawn_a ended drawn_b no_end none = none-some end (sym drawn_b.0 ∙ ended)
stuck_by w s g (e ∷ a) [] end drawn_a ended drawn_b no_end none =
    let can : can_happen (rules w) (node_count w.config) s e ≡ true = drawn_happens w s g e drawn_a.0 drawn_a.1 in
    cc (can, none e)
stuck_by w s g (e ∷ a) (f ∷ b) end drawn_a ended drawn_b no_end none =
    let same : f ≡ e = same_Some f e (sym drawn_b.1 ∙ drawn_a.1) in
    stuck_by w (happens (rules w) s e) (after_draw g) a b end drawn_a.2 ended
    (subst (λ x. AreDrawn w (happens (rules w) s x) (after_draw g) b) same drawn_b.2)
    (subst (λ x. end_of w (after (rules w) (happens (rules w) s x) b) ≡ None) same no_end)
    (subst (λ x. (event : Event) → can_happen (rules w) (node_count w.config) (after (rules w) (happens (rules w) s x) b) event ≡ false) same none)

pub stuck_has_no_end : (w : Setup) (events stuck : List Event) (end : End) → IsDrawn w events → end_of w (state_after w events) ≡ Some end → IsStuck w stuck → ⊥
stuck_has_no_end w events stuck end drawn ended is =
    stuck_by w (start_state w) (start_stream w.config.seed) events stuck end drawn ended is.drawn is.no_end is.none_enabled

-- each event of a run is enabled

module _ {N M : Type 0} (r : Rules N M) (count : ℕ) where
  enabled_at : (s : State N M) (events : List Event) (i : ℕ) (event : Event) → IsRun r count s events → slice_get events i ≡ Some event
      → can_happen r count (after r s (take i events)) event ≡ true
  enabled_at s [] i event run here = absurd (none-some event here)
  enabled_at s (e ∷ es) zero event run here = subst (λ x. can_happen r count s x ≡ true) (same_Some e event here) run.0
  enabled_at s (e ∷ es) (suc i) event run here = enabled_at (happens r s e) es i event run.1 here

pub run_is_enabled : (w : Setup) (events : List Event) (i : ℕ) (event : Event) → IsJournal w events → slice_get events i ≡ Some event
    → can_happen (rules w) (node_count w.config) (state_after w (take i events)) event ≡ true
run_is_enabled w events i event run here = enabled_at (rules w) (node_count w.config) (start_state w) events i event run here

-- the first event that is refused is one

module _ {N M : Type 0} (r : Rules N M) (count : ℕ) where
  one_refused : (s : State N M) (events : List Event) (i j : ℕ) (e f : Event) → slice_get events i ≡ Some e → slice_get events j ≡ Some f
      → IsRun r count s (take i events) → IsRun r count s (take j events)
      → can_happen r count (after r s (take i events)) e ≡ false → can_happen r count (after r s (take j events)) f ≡ false → i ≡ j
  one_refused s [] i j e f here there run_i run_j no_i no_j = absurd (none-some e here)
  one_refused s (x ∷ xs) zero zero e f here there run_i run_j no_i no_j = refl
  one_refused s (x ∷ xs) zero (suc j) e f here there run_i run_j no_i no_j =
      let no : can_happen r count s x ≡ false = subst (λ y. can_happen r count s y ≡ false) (sym (same_Some x e here)) no_i in
      cc (no, run_j.0)
  one_refused s (x ∷ xs) (suc i) zero e f here there run_i run_j no_i no_j =
      let no : can_happen r count s x ≡ false = subst (λ y. can_happen r count s y ≡ false) (sym (same_Some x f there)) no_j in
      cc (no, run_i.0)
  one_refused s (x ∷ xs) (suc i) (suc j) e f here there run_i run_j no_i no_j =
      ap (λ n. suc n) (one_refused (happens r s x) xs i j e f here there run_i.1 run_j.1 no_i no_j)

not_refused : (w : Setup) (events : List Event) (index : ℕ) → IsJournal w events → IsFirstRefused w events index → ⊥
not_refused w events index run is = let can = run_is_enabled w events index is.event run is.here in cc (can, is.refused)

-- events that are a whole run to an end are no refused ones
pub not_no_run : (w : Setup) (events : List Event) (end : End) (fault : JournalFault) → IsJournal w events → end_of w (state_after w events) ≡ Some end → IsNoRun w events fault → ⊥
not_no_run w events end TooLong run ended never = never
not_no_run w events end (Byte at) run ended never = never
not_no_run w events end (EventFault index) run ended is = not_refused w events index run is
not_no_run w events end (Unfinished count) run ended is = none-some end (sym is.no_end ∙ ended)

-- and refused ones are refused for one reason
pub one_no_run : (w : Setup) (events : List Event) (a b : JournalFault) → IsNoRun w events a → IsNoRun w events b → a ≡ b
one_no_run w events (EventFault i) (EventFault j) is is' =
    ap (λ k. EventFault k) (one_refused (rules w) (node_count w.config) (start_state w) events i j is.event is'.event is.here is'.here is.run is'.run is.refused is'.refused)
one_no_run w events (EventFault i) (Unfinished n) is is' = absurd (not_refused w events i is'.run is)
one_no_run w events (Unfinished n) (EventFault i) is is' = absurd (not_refused w events i is.run is')
one_no_run w events (Unfinished n) (Unfinished m) is is' = ap (λ k. Unfinished k) (sym is.all ∙ is'.all)
one_no_run w events TooLong b never is' = absurd never
one_no_run w events (Byte at) b never is' = absurd never
one_no_run w events (EventFault i) TooLong is never = absurd never
one_no_run w events (EventFault i) (Byte at) is never = absurd never
one_no_run w events (Unfinished n) TooLong is never = absurd never
one_no_run w events (Unfinished n) (Byte at) is never = absurd never
