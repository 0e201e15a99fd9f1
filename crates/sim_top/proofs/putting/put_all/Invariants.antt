use Rattle.std.proofs.Common.{◌≡◌, ◌-◌, ◌≤◌, length, take}
use Rattle.sim_outside.specs.Told.{Took}
use Rattle.sim_top.proofs.putting.put_all.Given as goal

-- the stream took the front of the text
abbrev pub invariant-loop-done : goal.invariant-loop-done
invariant-loop-done g l = record {
  within : l.done ≤ length l.text;
  took : Took (g.S.Sink.taken l.fn.out) (g.S.Sink.taken l.out) (take l.done l.text);
  no_fault : g.S.Sink.faults l.out ≡ g.S.Sink.faults l.fn.out;
}

abbrev pub decreases-loop-done : goal.decreases-loop-done
decreases-loop-done g l = length l.text - l.done
