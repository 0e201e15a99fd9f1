-- Parts of the law of one memory: what the control server and the local servers keep of it. This simulator's own.
use Rattle.std.specs.Prelude.{List, [], ◌∷◌, ◌++◌}
use Rattle.sim_base.specs.Numbering.{control_node}
use Rattle.sim_base.specs.Settings.{IsChecked}
use Rattle.elf_image.specs.Layout.{Setup}
use Rattle.flat_machine.specs.State.{State as Flat}
use Rattle.event_journal.specs.declared.events.Event.{Event}
use Rattle.event_journal.specs.declared.events.Event.TheVariants.{Step}
use Rattle.agreement_laws.specs.Laws.{IsRunOf}
use Rattle.agreement_laws.specs.Parts.{IsWhole, Follows}

-- a step of the control server: the request that it serves, if it does, is legally served on the flat machine, and the whole
-- is kept of the state that this gives
abbrev pub ControlStepFollows : Type 0
ControlStepFollows = (w : Setup) (events : List Event) (f : Flat) → IsChecked w.config → IsRunOf w (events ++ Step (control_node w.config) ∷ [])
    → IsWhole w events f → Follows w events (Step (control_node w.config)) f
