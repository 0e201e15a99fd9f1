-- A machine that isn't spent has noted which nodes can step.
use Rattle.std.proofs.Common.{false, ap, ◌∙◌}
use Rattle.std.specs.Prelude.{slice_get, slice_index_or}
use Rattle.node_machine.specs.Core.{steps_at}
use Rattle.node_machine.proofs.StepsLemmas.{noted_step}
use Rattle.node_machine.proofs.cores.Core.can_step.Goals as goal

pub returns-then-not-self : goal.returns-then-not-self
returns-then-not-self c =
    c.can_step.ensures
    ∙ ap (λ steps. slice_index_or steps c.args.node false) (c.self.invariant.1 c.if-not-self.true).0
    ∙ noted_step c.self.inside.nodes.items c.args.node
    ∙ ap (λ core. steps_at (slice_get core.nodes c.args.node)) c.self.view_is
