use Rattle.elf_image.proofs.Loads.{kinds_are}
use Rattle.elf_image.proofs.faults.kind_fault.Goals as goal

pub returns-then-has_kind : goal.returns-then-has_kind
returns-then-has_kind c = λ bytes same. rw (kinds_are bytes c.args.table.now same, ← c.has_kind.ensures, c.if-has_kind.true)

pub returns-then-has_kind-2 : goal.returns-then-has_kind-2
returns-then-has_kind-2 c = λ bytes same.
    rw (kinds_are bytes c.args.table.now same, ← c.has_kind.ensures, c.if-has_kind.false, ← c.has_kind-else-has_kind.ensures, c.if-has_kind-2.true)

pub returns-then-has_kind-3 : goal.returns-then-has_kind-3
returns-then-has_kind-3 c = λ bytes same.
    rw (kinds_are bytes c.args.table.now same, ← c.has_kind.ensures, c.if-has_kind.false, ← c.has_kind-else-has_kind.ensures, c.if-has_kind-2.false, ← c.has_kind-else-has_kind-2.ensures, c.if-has_kind-3.true)

pub returns-else-has_kind-3 : goal.returns-else-has_kind-3
returns-else-has_kind-3 c = λ bytes same.
    rw (kinds_are bytes c.args.table.now same, ← c.has_kind.ensures, c.if-has_kind.false, ← c.has_kind-else-has_kind.ensures, c.if-has_kind-2.false, ← c.has_kind-else-has_kind-2.ensures, c.if-has_kind-3.false)
