use Rattle.std.proofs.Common.{ap, length, sym, ◌∙◌}
use Rattle.std.proofs.lemmas.Bool.{eqb-true, eq-eqb}
use Rattle.std.proofs.lemmas.List.{nil_from_length}
use Rattle.node_set.proofs.set.NodeSet.is_empty.Goals as goal

pub returns : goal.returns
returns c = (
  λ t. nil_from_length c.args.self.now (sym (ap length c.self.view_is) ∙ sym c.self.invariant ∙ eqb-true c.self.inside.count 0 t),
  λ e. eq-eqb c.self.inside.count 0 (c.self.invariant ∙ ap length (c.self.view_is ∙ e)),
)
