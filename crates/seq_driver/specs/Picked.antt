-- The seed's run: which event comes next is drawn by a stream of random words, two for each event. The first word picks
-- among the nodes that can act, the second among what that node can do. This simulator's own.
use Rattle.std.specs.Prelude.{ℕ, ◌≡◌, ◌%◌, List, [], ◌∷◌, length, slice_get, Option, Some, None}
use Rattle.rand_pcg.specs.Lcg.{Lcg, started, increment_of}
use Rattle.rand_pcg.specs.Pcg.{pcg32, multiplier_64}
use Rattle.sim_base.specs.Numbering.{node_count}
use Rattle.elf_image.specs.Layout.{Setup}
use Rattle.wire_msg.specs.declared.messages.Msg.{Msg}
use Rattle.event_journal.specs.declared.events.Event.{Event}
use Rattle.event_journal.specs.Rules.{Rules}
use Rattle.event_journal.specs.State.{State}
use Rattle.event_journal.specs.Run.{happens}
use Rattle.event_journal.specs.Choice.{acting_nodes, choices}
use Rattle.node_machine.specs.declared.nodes.Node.{Node}
use Rattle.node_machine.specs.Machine.{rules}
use Rattle.node_machine.specs.End.{end_of}

-- the stream of a seed before its first word: PCG's XSH RR generator on 64 bits, stream 0
unfoldable pub start_stream : ℕ → Lcg
start_stream seed = started 64 multiplier_64 seed (increment_of 64 0)

-- its next word, and the stream after it
unfoldable pub next_word : Lcg → ℕ
next_word g = (pcg32 g).0

unfoldable pub after_word : Lcg → Lcg
after_word g = (pcg32 g).1

-- the member of a list that a word picks: the one at the word modulo the list's length
abbrev pub picked : {A : Type 0} → List A → ℕ → Option A
picked members word = slice_get members (word % length members)

-- what a word picks of what a node can do
abbrev pub choice_of : {N M : Type 0} → Rules N M → ℕ → State N M → Option ℕ → ℕ → Option Event
choice_of r count s None word = None
choice_of r count s (Some node) word = picked (choices r count s node) word

-- the event that the stream's next two words pick
abbrev pub drawn_event : {N M : Type 0} → Rules N M → ℕ → State N M → Lcg → Option Event
drawn_event r count s g = choice_of r count s (picked (acting_nodes r count s) (next_word g)) (next_word (after_word g))

abbrev pub after_draw : Lcg → Lcg
after_draw g = after_word (after_word g)

-- each event of a list is the one that the stream picks, in a state that has no end
abbrev pub AreDrawn : Setup → State Node Msg → Lcg → List Event → Type 0
AreDrawn w s g [] = Unit {0}
AreDrawn w s g (event ∷ events) =
    (end_of w s ≡ None)
    × (drawn_event (rules w) (node_count w.config) s g ≡ Some event)
    × AreDrawn w (happens (rules w) s event) (after_draw g) events
