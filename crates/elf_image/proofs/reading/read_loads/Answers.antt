use Rattle.std.proofs.Common.{◌≡◌, ◌∙◌, sym, None, Some, rules}
use Rattle.elf_image.specs.Image.{program, first_of, program_refusals}
use Rattle.elf_image.proofs.Loads.{known_fault}
use Rattle.elf_image.proofs.Refusals.{wrong_table, same_fault}
use Rattle.elf_image.proofs.reading.read_loads.Goals as goal

pub returns-in-Some-clause-refused : goal.returns-in-Some-clause-refused
returns-in-Some-clause-refused c = λ fault same. same_fault _ fault _ same (rw (← c.header_fault.ensures.value, c.in-Some.is))

pub returns-then-has_wrong_table-clause-refused : goal.returns-then-has_wrong_table-clause-refused
returns-then-has_wrong_table-clause-refused c = λ fault same.
    let wrong = wrong_table c.args.bytes.now (sym c.has_wrong_table.ensures.value ∙ c.if-has_wrong_table.true) in
    same_fault _ fault _ same (rw (← c.header_fault.ensures.value, c.in_default.is, wrong))

pub returns-in-Some-table_fault-clause-refused : goal.returns-in-Some-table_fault-clause-refused
returns-in-Some-table_fault-clause-refused c = λ fault same.
    same_fault _ fault _ same (rw (← c.header_fault.ensures.value, c.in_default.is, ← c.table_fault.ensures, c.in-Some-table_fault.is))

pub returns-in-Some-program_fault-clause-refused : goal.returns-in-Some-program_fault-clause-refused
returns-in-Some-program_fault-clause-refused c = λ fault same.
    let known = known_fault c.args.bytes.now _ _ _ c.entry_of.ensures (c.as_slice-5.ensures.value ∙ c.in_ok-frames.ensures) (search rules) in
    let found : first_of program_refusals (program c.args.bytes.now) ≡ Some c.in-Some-program_fault.fault = sym known ∙ (sym c.program_fault.ensures.value ∙ c.in-Some-program_fault.is) in
    same_fault _ fault _ same (rw (← c.header_fault.ensures.value, c.in_default.is, ← c.table_fault.ensures, c.in_default-table_fault.is, found))

pub returns-clause-taken : goal.returns-clause-taken
returns-clause-taken c =
    let known = known_fault c.args.bytes.now _ _ _ c.entry_of.ensures (c.as_slice-5.ensures.value ∙ c.in_ok-frames.ensures) (search rules) in
    let found : first_of program_refusals (program c.args.bytes.now) ≡ None = sym known ∙ (sym c.program_fault.ensures.value ∙ c.in-None.is) in
    rw (← c.header_fault.ensures.value, c.in_default.is, ← c.table_fault.ensures, c.in_default-table_fault.is, found)
