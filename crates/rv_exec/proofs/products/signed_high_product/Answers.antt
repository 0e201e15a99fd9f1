-- The casts on the way keep the numbers, since each fits its width.
use Rattle.std.proofs.Common.{arith}
use Rattle.std.proofs.lemmas.Int.{to_z-of_z}
use Rattle.rv_exec.proofs.products.signed_high_product.Goals as goal

pub returns : goal.returns
returns c = grind (arith, to_z-of_z)
