-- Each turn ends the run, finds it stuck, or makes one event or more.
use Rattle.std.proofs.Common.{◌≡◌, ◌+◌, ◌*◌, ◌<◌, ◌≤◌, Some, length, arith, rules}
use Rattle.sim_base.specs.Numbering.{node_count}
use Rattle.node_machine.specs.Core.{end_in}
use Rattle.seq_driver.proofs.DrawLemmas.{ran_at, begins, not_so_many}
use Rattle.seq_driver.proofs.driver.run_alone.Goals as goal

pub returns-in-Some : goal.returns-in-Some
returns-in-Some c =
    let ended : end_in c.loop-turn.core ≡ Some c.in-Some.end = search rules in
    let inv = c.loop-turn.invariant in
    (ran_at c.args.world.now c.loop-turn.core c.loop-turn.stream c.loop-turn.journal inv.under_way inv.drawing c.in-Some.end ended, inv.drawing.drawn)

pub returns : goal.returns
returns c =
    let inv = c.loop-turn.invariant in
    let most : c.most_turns-turn-end.result ≡ node_count c.args.world.now.config * c.args.world.now.config.events + 1 = search rules in
    let many : node_count c.args.world.now.config * c.args.world.now.config.events < length c.loop-turn.journal = omega (arith, inv.turns, most, c.loop-turn-test.false, c.loop-turn.auto) in
    absurd (not_so_many c.args.world.now c.loop-turn.journal inv.under_way.run many)

pub loop-turn-init : goal.loop-turn-init
loop-turn-init c = record {
  under_way = search (begins, rules);
  drawing = record { drawn = search rules; stream = search rules };
  turns = omega arith;
}

pub loop-turn-preserved : goal.loop-turn-preserved
loop-turn-preserved c =
    let inv = c.loop-turn.invariant in
    let on = c.in_ok-go_on.ensures in
    let turns : c.loop-turn._turn ≤ length c.loop-turn.journal = inv.turns in
    let longer : length c.loop-turn.journal < length c.go_on.new.journal = on.0 in
    record {
      under_way = on.1;
      drawing = on.2;
      turns = omega arith;
    }
