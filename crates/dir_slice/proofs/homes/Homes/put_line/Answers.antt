-- The line was put at its home.
use Rattle.std.proofs.Common.{ap, sym, ◌∙◌}
use Rattle.sim_base.specs.Numbering.{home_of}
use Rattle.dir_slice.specs.Line.{fresh}
use Rattle.dir_slice.proofs.Starts.{line_put}
use Rattle.dir_slice.proofs.homes.Homes.put_line.Goals as goal

pub returns-in_ok-put : goal.returns-in_ok-put
returns-in_ok-put c =
    let homed = ap (λ config. home_of config c.args.line) (sym c.config.ensures.value) ∙ sym c.home.ensures.home ∙ c.if-home-tile.true in
    line_put c.args.world.now c.args.tile c.args.line c.args.self.now c.put.new.self c.fresh.result homed (c.fresh.ensures ∙ ap fresh c.initial_line.ensures) c.in_ok-put.ensures.ok
