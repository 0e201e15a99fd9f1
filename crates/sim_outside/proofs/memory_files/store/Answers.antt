-- The pair that is written over, or that comes last, is the first of that name.
use Rattle.std.proofs.Common.{◌≡◌, rules, sym}
use Rattle.sim_outside.proofs.WriteLemmas.{written_over, added_last}
use Rattle.sim_outside.proofs.memory_files.store.Goals as goal

pub returns-in-Some-clause-stored : goal.returns-in-Some-clause-stored
returns-in-Some-clause-stored c =
    let copied : c.in_ok-copy.copy.items ≡ c.args.bytes.now = search rules in
    written_over c.args.files.now.items c.args.name.now c.args.bytes.now c.in_ok-copy.copy copied
    c.in-Some.place c.index_mut.result.now (rw c.as_slice.ensures.value at (sym c.in-Some.ensures.place)) c.index_mut.ensures.value

pub returns-in_ok-push-in-None-clause-stored : goal.returns-in_ok-push-in-None-clause-stored
returns-in_ok-push-in-None-clause-stored c =
    let copied : c.in_ok-copy.copy.items ≡ c.args.bytes.now = search rules in
    rw c.in_ok-push-in-None.ensures.items (added_last c.args.files.now.items c.args.name.now c.args.bytes.now c.in_ok-copy.copy copied
    c.in_ok-from_str-in-None.field-0 (rw c.as_slice.ensures.value at (sym c.in-None.ensures.place)) c.in_ok-from_str-in-None.ensures.ok)
