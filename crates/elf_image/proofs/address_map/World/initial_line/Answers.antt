use Rattle.std.proofs.Common.{◌+◌, ◌*◌, ◌≤◌, ◌^◌, ℕ, List, arith, ap}
use Rattle.std.proofs.lemmas.List.Edits.{fill_by_more}
use Rattle.std.proofs.lemmas.Grind.{common_steps}
use Rattle.sim_base.specs.declared.lines.LineData.{LineData}
use Rattle.elf_image.specs.Layout.{start_byte}
use Rattle.elf_image.proofs.Ranges.{zero_line, filled_line}
use Rattle.elf_image.proofs.address_map.World.initial_line.Goals as goal

abbrev as_line : List ℕ → LineData
as_line bytes = record { bytes = bytes }

pub loop-place-preserved : goal.loop-place-preserved
loop-place-preserved c = record {
  whole = grind (arith, common_steps);
  filled = rw c.start_byte.ensures
      (fill_by_more (λ k. start_byte c.args.self.now (c.args.line * 64 + k)) c.loop-place.bytes c.loop-place.place 0 (rw c.loop-place.invariant.whole c.loop-place-test.true) c.loop-place.invariant.filled);
}

pub returns-after-loop-place : goal.returns-after-loop-place
returns-after-loop-place c = ap as_line (filled_line c.args.self.now c.args.line _ c.loop-place.invariant.whole (λ k below. c.loop-place.invariant.filled k (omega arith)))

pub returns-else-line-lt-LINE_END : goal.returns-else-line-lt-LINE_END
returns-else-line-lt-LINE_END c =
    let high : 2 ^ 26 ≤ c.args.line = omega arith in
    rw (← c.self.view_is) (ap as_line (zero_line _ _ c.args.line c.self.invariant.laid_out high))
