-- Which nodes of a machine can act, and what each can do next, in a state. This simulator's own.
use Rattle.std.specs.Prelude.{ℕ, ◌||◌, ◌++◌, not, Bool, true, false, List, [], ◌∷◌, map, filter}
use Rattle.std.specs.List.{range_with_len}
use Rattle.event_journal.specs.declared.events.Event.{Event}
use Rattle.event_journal.specs.declared.events.Event.TheVariants.{Step, Deliver}
use Rattle.event_journal.specs.Rules.{Rules}
use Rattle.event_journal.specs.State.{State, is_empty}

-- the nodes from which a message waits for a node, ascending
abbrev pub senders_to : {N M : Type 0} → ℕ → State N M → ℕ → List ℕ
senders_to count s node = filter (λ from. not (is_empty (s.queue from node))) (range_with_len 0 count)

-- whether a node can act: it can step, or a message waits for it
abbrev pub can_act : {N M : Type 0} → Rules N M → ℕ → State N M → ℕ → Bool
can_act r count s node = r.can_step (s.node node) || not (is_empty (senders_to count s node))

-- the nodes that can act, ascending
abbrev pub acting_nodes : {N M : Type 0} → Rules N M → ℕ → State N M → List ℕ
acting_nodes r count s = filter (can_act r count s) (range_with_len 0 count)

-- what a node can do: its step first, if it can step, and then a delivery from each sender, ascending
abbrev pub own_step : Bool → ℕ → List Event
own_step true node = Step node ∷ []
own_step false node = []

abbrev pub choices : {N M : Type 0} → Rules N M → ℕ → State N M → ℕ → List Event
choices r count s node = own_step (r.can_step (s.node node)) node ++ map (λ from. Deliver from node) (senders_to count s node)
