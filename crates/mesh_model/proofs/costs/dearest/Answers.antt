-- What the definition covers, its value does.
use Rattle.std.proofs.Common.{◌≡◌, rules}
use Rattle.mesh_model.specs.Cost.{dearest_step}
use Rattle.mesh_model.proofs.Covering.{covered}
use Rattle.mesh_model.proofs.costs.dearest.Goals as goal

pub returns-clause-covers : goal.returns-clause-covers
returns-clause-covers c =
    let value : c.max-2.result ≡ dearest_step c.args.config.now = search rules in
    rw value (covered c.args.config.now c.requires)
