-- The parts stop at the greatest of 64 bits, and so does the whole.
use Rattle.std.proofs.Common.{◌≡◌, ◌+◌, ◌*◌, ap, ◌∙◌, arith}
use Rattle.mesh_model.specs.Mesh.{hops_between}
use Rattle.mesh_model.proofs.Saturation.{stopped_once}
use Rattle.mesh_model.proofs.costs.delay.Goals as goal

pub returns : goal.returns
returns c =
    let config = c.args.config.now in
    let way : c.travel.result ≡ 2 * hops_between config c.args.from c.args.home * config.hop_cost =
    c.travel.ensures.value ∙ ap (λ n. 2 * n * config.hop_cost) c.hops.ensures.value in
    let once = stopped_once (c.travel.result + c.service.result) (c.args.remote * 2) config.hop_cost 18446744073709551615 _ _ _ c.saturating_mul.ensures c.saturating_mul-recall.ensures c.saturating_add.ensures in
    omega arith
