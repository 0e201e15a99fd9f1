use Rattle.std.proofs.Common.{◌≡◌, take}
use Rattle.control_server.specs.Serve.{most_free}
use Rattle.control_server.proofs.hosts.most_free.Given as goal

abbrev pub invariant-loop-n : goal.invariant-loop-n
invariant-loop-n l = l.most ≡ most_free (take l.n-index l.free)
