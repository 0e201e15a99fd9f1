use Rattle.std.proofs.Common.{◌≡◌, ◌<◌, ◌≤◌, refl, ap, sym, ◌∙◌, arith}
use Rattle.std.specs.Prelude.{min}
use Rattle.coherence_laws.specs.Holders.{named_tiles, writer_with, readers_with}
use Rattle.coherence_laws.proofs.HolderLemmas.{all_counted, all_found, alone_so, readers_at_most, readers_next, writer_next}
use Rattle.coherence_laws.proofs.reading.holders.Goals as goal

-- no tile was looked at
pub loop-tile-init : goal.loop-tile-init
loop-tile-init c = (refl, refl, omega arith)

-- there are fewer readers than tiles
pub with_hold-found-requires : goal.with_hold-found-requires
with_hold-found-requires c =
    let few : c.loop-tile.found.readers ≤ c.loop-tile.tile = c.loop-tile.invariant.2 in
    let low : c.loop-tile.tile < c.min-tile-end.result = c.loop-tile-test.true in
    let all : c.min-tile-end.result ≡ named_tiles c.args.core.now = c.min-tile-end.ensures ∙ ap (λ tiles. min tiles 256) c.tiles.ensures in
    omega (arith, few, low, all)

-- one more tile
pub loop-tile-preserved : goal.loop-tile-preserved
loop-tile-preserved c =
    let before = c.loop-tile.invariant in
    let made = c.with_hold-found.ensures in
    let hold = c.hold.ensures in (
      made.writer ∙ ap (λ writer. writer_with writer c.loop-tile.tile c.hold.result) before.0 ∙ sym (writer_next c.args.core.now c.args.line c.loop-tile.tile c.hold.result hold),
      made.readers ∙ ap (λ readers. readers_with readers c.hold.result) before.1 ∙ sym (readers_next c.args.core.now c.args.line c.loop-tile.tile c.hold.result hold),
      readers_at_most c.loop-tile.found.readers c.loop-tile.tile c.with_hold-found.result.readers c.hold.result made.readers before.2,
    )

-- all tiles were looked at
pub returns-clause-writer : goal.returns-clause-writer
returns-clause-writer c = all_found c.args.core.now c.args.line c.loop-tile.tile c.min-tile-end.result c.loop-tile.found.writer (c.min-tile-end.ensures ∙ ap (λ tiles. min tiles 256) c.tiles.ensures) c.loop-tile.auto.tile-end c.loop-tile-test.false c.loop-tile.invariant.0

pub returns-clause-readers : goal.returns-clause-readers
returns-clause-readers c = all_counted c.args.core.now c.args.line c.loop-tile.tile c.min-tile-end.result c.loop-tile.found.readers (c.min-tile-end.ensures ∙ ap (λ tiles. min tiles 256) c.tiles.ensures) c.loop-tile.auto.tile-end c.loop-tile-test.false c.loop-tile.invariant.1

pub returns-clause-alone : goal.returns-clause-alone
returns-clause-alone c =
    alone_so c.args.core.now c.args.line c.loop-tile.found.writer c.loop-tile.found.readers (returns-clause-writer c) (returns-clause-readers c)
