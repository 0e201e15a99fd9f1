-- The first region with the address is written, and those before it are passed.
use Rattle.std.proofs.Common.{◌∙◌, ap, arith}
use Rattle.std.proofs.lemmas.List.{set-get_or}
use Rattle.flat_machine.specs.Inner.{with_byte_in}
use Rattle.flat_machine.proofs.WriteLemmas.{written_back, passed_back, passed_more}
use Rattle.flat_machine.proofs.regions.set_in.Goals as goal

pub loop-region-init : goal.loop-region-init
loop-region-init c = record {
  same = c.deref_mut-region-items.ensures.value;
  passed = ap (λ items. with_byte_in items c.args.address c.args.byte) c.deref_mut-region-items.ensures.value;
}

pub returns-in-Some : goal.returns-in-Some
returns-in-Some c =
    written_back c.args.regions.now.len c.args.regions.now.items c.loop-region.region-items c.loop-region.region-index c.region-item.result
    c.args.address c.args.byte c.in-Some.place c.set.new.self c.args.regions.now.ok.0 c.loop-region.invariant.same (omega arith) c.region-item.is
    c.in-Some.ensures.value c.set.ensures c.loop-region.invariant.passed

pub loop-region-preserved : goal.loop-region-preserved
loop-region-preserved c = record {
  same = set-get_or c.loop-region.region-items c.loop-region.region-index c.region-item.result ∙ c.loop-region.invariant.same;
  passed = passed_more c.args.regions.now.items c.loop-region.region-items c.loop-region.region-index c.region-item.result c.args.address c.args.byte
      (omega arith) c.region-item.is c.in_default.ensures.value c.loop-region.invariant.passed;
}

pub returns : goal.returns
returns c =
    passed_back c.args.regions.now.len c.args.regions.now.items c.loop-region.region-items c.loop-region.region-index c.args.address c.args.byte
    c.args.regions.now.ok.0 c.loop-region.invariant.same (omega arith) c.loop-region.invariant.passed
