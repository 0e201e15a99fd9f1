-- The steps were made of the nodes and of what is pending, so they are made of each state that the core showed.
use Rattle.std.proofs.Common.{◌≡◌, ◌+◌, ◌≤◌, true, false, Some, [], length, refl, sym, ap, subst, ◌∙◌, arith, rules}
use Rattle.std.specs.Prelude.{slice_get, slice_index}
use Rattle.std.proofs.lemmas.List.{length-set}
use Rattle.sim_base.specs.Numbering.{node_count}
use Rattle.event_journal.specs.declared.events.Event.TheVariants.{Step}
use Rattle.node_machine.specs.Core.{is_enabled_in}
use Rattle.node_machine.specs.Inner.{StepsAreDone}
use Rattle.node_machine.proofs.MakeLemmas.{ActsThere, acting_there}
use Rattle.node_machine.proofs.AloneLemmas.{steps_fit}
use Rattle.node_machine.proofs.AloneRuns.{steps_made}
use Rattle.node_machine.proofs.cores.Core.step_on.Goals as goal

pub count_events-requires-clause-room : goal.count_events-requires-clause-room
count_events-requires-clause-room c =
    let enabled : is_enabled_in c.args.self.now (Step c.args.node) ≡ true = search rules in
    let there : ActsThere c.args.self.now c.args.node = acting_there c.args.world.now c.args.self.now (Step c.args.node) c.requires enabled in
    let at : slice_get c.self.inside.nodes.items c.args.node ≡ Some there.node = search (there, rules) in
    let done : StepsAreDone c.args.world.now c.args.node c.steps_at_once-most.result c.in-Ok.count there.node c.self.inside.nodes.items c.step_all.new.nodes.items c.self.inside.pending c.step_all.new.pending =
    c.in-Ok.ensures.stepped there.node at in
    let few = done.few in
    let room : slice_index c.args.self.now.made c.args.node + c.steps_at_once-most.result ≤ c.args.self.now.room =
    steps_fit c.args.node c.args.self.now.tiles (slice_index c.args.self.now.made c.args.node) c.steps_at_once-most.result c.args.self.now.room
    there.room c.steps_at_once-most.ensures.tile c.steps_at_once-most.ensures.other in
    subst (λ core. slice_index core.made c.args.node + c.in-Ok.count ≤ core.room) (sym c.self.view_is) (omega arith)

pub invariant_of-self-2 : goal.invariant_of-self-2
invariant_of-self-2 c =
    let enabled : is_enabled_in c.args.self.now (Step c.args.node) ≡ true = search rules in
    let there : ActsThere c.args.self.now c.args.node = acting_there c.args.world.now c.args.self.now (Step c.args.node) c.requires enabled in
    let at : slice_get c.self.inside.nodes.items c.args.node ≡ Some there.node = search (there, rules) in
    let done : StepsAreDone c.args.world.now c.args.node c.steps_at_once-most.result c.in-Ok.count there.node c.self.inside.nodes.items c.step_all.new.nodes.items c.self.inside.pending c.step_all.new.pending =
    c.in-Ok.ensures.stepped there.node at in
    let none : c.step_all.new.out.items ≡ [] = search rules in
    (search rules, λ _. (done.steps, none))

pub returns-clause-steps : goal.returns-clause-steps
returns-clause-steps c =
    let enabled : is_enabled_in c.args.self.now (Step c.args.node) ≡ true = search rules in
    let there : ActsThere c.args.self.now c.args.node = acting_there c.args.world.now c.args.self.now (Step c.args.node) c.requires enabled in
    let at : slice_get c.self.inside.nodes.items c.args.node ≡ Some there.node = search (there, rules) in
    let done : StepsAreDone c.args.world.now c.args.node c.steps_at_once-most.result c.in-Ok.count there.node c.self.inside.nodes.items c.step_all.new.nodes.items c.self.inside.pending c.step_all.new.pending =
    c.in-Ok.ensures.stepped there.node at in
    let not_spent : c.args.self.now.spent ≡ false = search rules in
    let before : c.self.inside.pending.inboxes ≡ c.args.self.now.inboxes = search rules in (
      not_spent,
      refl,
      λ s shows. steps_made c.args.world.now c.args.self.now _ s c.self.inside.pending c.step_all.new.pending there.node c.args.node c.steps_at_once-most.result c.in-Ok.count
          c.requires shows before refl (search (there.node_at, rules)) (search (done, rules)) (search rules) there.room c.steps_at_once-most.ensures.tile c.steps_at_once-most.ensures.other,
    )

pub returns-clause-fits : goal.returns-clause-fits
returns-clause-fits c =
    let enabled : is_enabled_in c.args.self.now (Step c.args.node) ≡ true = search rules in
    let there : ActsThere c.args.self.now c.args.node = acting_there c.args.world.now c.args.self.now (Step c.args.node) c.requires enabled in
    let at : slice_get c.self.inside.nodes.items c.args.node ≡ Some there.node = search (there, rules) in
    let done : StepsAreDone c.args.world.now c.args.node c.steps_at_once-most.result c.in-Ok.count there.node c.self.inside.nodes.items c.step_all.new.nodes.items c.self.inside.pending c.step_all.new.pending =
    c.in-Ok.ensures.stepped there.node at in
    let nodes_before : length c.self.inside.nodes.items ≡ node_count c.args.world.now.config = search rules in
    let made_before : length c.self.inside.made.items ≡ node_count c.args.world.now.config = search rules in
    let nodes : length c.step_all.new.nodes.items ≡ node_count c.args.world.now.config = ap length done.nodes ∙ length-set c.self.inside.nodes.items _ _ ∙ nodes_before in
    record {
      tiles = search rules;
      room = search rules;
      nodes = nodes;
      fits = search rules;
      inboxes = search rules;
      made = ap length c.count_events.ensures.made ∙ length-set c.self.inside.made.items _ _ ∙ made_before;
    }
