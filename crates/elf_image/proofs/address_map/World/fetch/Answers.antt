-- The word is that of the one segment that has it.
use Rattle.std.proofs.Common.{◌∙◌, ap, sym}
use Rattle.std.specs.Prelude.{Some}
use Rattle.elf_image.specs.Layout.{Setup}
use Rattle.elf_image.proofs.Apart.{fetched, not_fetched}
use Rattle.elf_image.proofs.address_map.World.fetch.Goals as goal

pub returns-in_err-segment : goal.returns-in_err-segment
returns-in_err-segment c =
    let world : Setup = record { image = c.self.inside.image; config = c.self.inside.config } in
    c.from_residual.ensures ∙ rw (← c.self.view_is) (not_fetched world c.args.pc (sym c.in_err-segment.ensures.value))

pub returns : goal.returns
returns c =
    let world : Setup = record { image = c.self.inside.image; config = c.self.inside.config } in
    rw (← c.self.view_is) (ap Some c.word_at.ensures
    ∙ fetched world c.args.pc c.in_ok-segment.segment.now c.executable_at.ensures.program (sym c.in_ok-segment.ensures.value) c.in_ok-segment.ensures.word)
