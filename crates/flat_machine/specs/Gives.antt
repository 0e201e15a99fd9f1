-- What a call that acts on the flat machine answers.
use Rattle.std.specs.Prelude.{◌≡◌, Option, Some, None, Result, Ok, Err}
use Rattle.flat_machine.specs.declared.machine.ActFault.{ActFault}
use Rattle.flat_machine.specs.declared.machine.ActFault.TheVariants.{NotLegal, NoMemory}

-- Ok where the action is legal, and it has made the next value; NotLegal exactly where it isn't; want of
-- memory is free. Nothing changes but at Ok.
abbrev pub Acts : {T S : Type 0} → Result T ActFault → S → S → Option S → Type 0
Acts (Ok done) old new next = next ≡ Some new
Acts (Err NotLegal) old new next = (next ≡ None) × (new ≡ old)
Acts (Err NoMemory) old new next = new ≡ old
