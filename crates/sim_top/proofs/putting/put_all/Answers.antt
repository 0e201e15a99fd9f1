-- One more piece of the text was taken.
use Rattle.std.proofs.Common.{length, take, ◌∙◌, arith}
use Rattle.std.proofs.Math.Seq.{take-add}
use Rattle.sim_top.proofs.TookLemmas.{Took-append, some_is_no_fault}
use Rattle.sim_top.proofs.putting.put_all.Goals as goal

pub loop-done-preserved : goal.loop-done-preserved
loop-done-preserved g c = record {
  within = omega (arith, c.in_ok-count.ensures.answer.0);
  took = rw (take-add c.loop-done.done c.in_ok-count.count c.args.text.now, ← c.split_at.ensures.back)
      (Took-append _ (g.S.Sink.taken c.loop-done.out) _ (take c.loop-done.done c.args.text.now) (take c.in_ok-count.count c.split_at.result.1.now)
      c.loop-done.invariant.took c.in_ok-count.ensures.answer.1);
  no_fault = some_is_no_fault c.in_ok-count.count (length c.split_at.result.1.now) _ _ c.if-count-eq0.false c.in_ok-count.ensures.counted ∙ c.loop-done.invariant.no_fault;
}
