use Rattle.std.proofs.Common.{◌≡◌, ◌++◌, length, arith, ap, length-append}
use Rattle.std.specs.Int.{w32, to_le_bytes}
use Rattle.workload_gen.proofs.Assembled.{part_label, part_word, part_all}
use Rattle.workload_gen.proofs.Coded.{length_code}
use Rattle.workload_gen.proofs.assembly.assemble.Goals.{in-Some+in_ok-extend_from_slice, in_default}
use Rattle.workload_gen.proofs.assembly.assemble.Goals as goal

pub instruction_at-requires-clause-aligned : goal.instruction_at-requires-clause-aligned
instruction_at-requires-clause-aligned c = omega (arith, length_code _ _ c.loop-statement.invariant.part.coded)

pub loop-statement-preserved : goal.loop-statement-preserved
loop-statement-preserved c =
    let here : c.len.result ≡ length c.loop-statement.code.items = omega arith in
    elim c.match-instruction_at.branch [
      | in-Some+in_ok-extend_from_slice w ↦
          let e = rw here at w.in-Some.ensures.value in
          let now : c.match-instruction_at.code.items ≡ c.loop-statement.code.items ++ to_le_bytes w32 w.encode.result = cc (w.in_ok-extend_from_slice.ensures.items) in
          record {
            part = rw now (part_word _ _ _ _ w.in-Some.instr w.encode.result c.loop-statement-test.true e (omega arith) w.encode.ensures.back c.loop-statement.invariant.part);
            small = omega (arith, ap length now, length-append c.loop-statement.code.items (to_le_bytes w32 w.encode.result));
          }
      | in_default w ↦
          let e = rw here at w.in_default.ensures.value in
          rw w.code-is (record {
            part = part_label _ _ _ _ c.loop-statement-test.true e c.loop-statement.invariant.part;
            small = omega arith;
          })
    ]

pub returns-clause-size : goal.returns-clause-size
returns-clause-size c = length_code _ _ (part_all _ _ _ c.loop-statement-test.false c.loop-statement.invariant.part)
