-- The event was made of the nodes and of what is pending, so it is made of each state that the core showed.
use Rattle.std.proofs.Common.{◌≡◌, Some, [], length, refl, ap, ◌∙◌, rules}
use Rattle.std.specs.Prelude.{slice_get}
use Rattle.std.proofs.lemmas.List.{length-set}
use Rattle.sim_base.specs.Numbering.{node_count}
use Rattle.event_journal.specs.Event.{acting_node}
use Rattle.node_machine.specs.Inner.{IsDone}
use Rattle.node_machine.proofs.MakeLemmas.{ActsThere, acting_there}
use Rattle.node_machine.proofs.ApplyLemmas.{event_made}
use Rattle.node_machine.proofs.cores.Core.apply_enabled.Goals as goal

pub invariant_of-self-2 : goal.invariant_of-self-2
invariant_of-self-2 c =
    let there : ActsThere c.args.self.now (acting_node c.args.event) = acting_there c.args.world.now c.args.self.now c.args.event c.requires.fits c.requires.enabled in
    let at : slice_get c.self.inside.nodes.items (acting_node c.args.event) ≡ Some there.node = search (there, rules) in
    let done : IsDone c.args.world.now c.args.event there.node c.in_ok-action.action c.self.inside.nodes.items c.make.new.nodes.items c.self.inside.pending c.make.new.pending =
    c.in_ok-action.ensures.made there.node at in
    let none : c.make.new.out.items ≡ [] = search rules in
    (search rules, λ _. (done.steps, none))

pub returns-clause-applies : goal.returns-clause-applies
returns-clause-applies c =
    let there : ActsThere c.args.self.now (acting_node c.args.event) = acting_there c.args.world.now c.args.self.now c.args.event c.requires.fits c.requires.enabled in
    let at : slice_get c.self.inside.nodes.items (acting_node c.args.event) ≡ Some there.node = search (there, rules) in
    let done : IsDone c.args.world.now c.args.event there.node c.in_ok-action.action c.self.inside.nodes.items c.make.new.nodes.items c.self.inside.pending c.make.new.pending =
    c.in_ok-action.ensures.made there.node at in
    let before : c.self.inside.pending.inboxes ≡ c.args.self.now.inboxes = search rules in (
      refl,
      λ s shows. event_made c.args.world.now c.args.self.now _ s c.in_ok-action.action c.self.inside.pending c.make.new.pending there.node
          c.requires.fits shows before refl c.args.event (search (there.node_at, rules)) c.requires.enabled (search (done, rules)) (search rules),
    )

pub returns-clause-fits : goal.returns-clause-fits
returns-clause-fits c =
    let there : ActsThere c.args.self.now (acting_node c.args.event) = acting_there c.args.world.now c.args.self.now c.args.event c.requires.fits c.requires.enabled in
    let at : slice_get c.self.inside.nodes.items (acting_node c.args.event) ≡ Some there.node = search (there, rules) in
    let done : IsDone c.args.world.now c.args.event there.node c.in_ok-action.action c.self.inside.nodes.items c.make.new.nodes.items c.self.inside.pending c.make.new.pending =
    c.in_ok-action.ensures.made there.node at in
    let nodes_before : length c.self.inside.nodes.items ≡ node_count c.args.world.now.config = search rules in
    let made_before : length c.self.inside.made.items ≡ node_count c.args.world.now.config = search rules in
    let nodes : length c.make.new.nodes.items ≡ node_count c.args.world.now.config = ap length done.nodes ∙ length-set c.self.inside.nodes.items _ _ ∙ nodes_before in
    record {
      tiles = search rules;
      room = search rules;
      nodes = nodes;
      fits = search rules;
      inboxes = search rules;
      made = ap length c.count_events.ensures.made ∙ length-set c.self.inside.made.items _ _ ∙ made_before;
    }
