-- One thread's action is the machine's, and with none or several there is none.
use Rattle.std.proofs.Common.{◌≡◌, ◌∙◌, refl, sym, ap, length, arith}
use Rattle.std.specs.Prelude.{Some, slice_get}
use Rattle.std.proofs.lemmas.Option.{slice_get_read}
use Rattle.flat_machine.proofs.LegalLemmas.{alone_is, not_alone}
use Rattle.flat_machine.proofs.machine.Flat.legal_action.Goals as goal

pub returns-in-len1 : goal.returns-in-len1
returns-in-len1 c =
    let items : length c.as_slice.result.now ≡ length c.self.inside.threads.items = ap length c.as_slice.ensures.value in
    let one : length c.self.inside.threads.items ≡ 1 = omega arith in
    let read : slice_get c.as_slice.result.now 0 ≡ Some c.thread-item.result = slice_get_read c.as_slice.result.now _ 0 _ refl (omega arith) c.thread-item.is in
    let here : slice_get c.self.inside.threads.items 0 ≡ Some c.thread-item.result = ap (λ ts. slice_get ts 0) (sym c.as_slice.ensures.value) ∙ read in
    rw (← c.self.view_is) (c.legal_action_of.ensures ∙ sym (alone_is c.args.world.now _ c.thread-item.result one here))

pub returns-in_default : goal.returns-in_default
returns-in_default c =
    let items : length c.as_slice.result.now ≡ length c.self.inside.threads.items = ap length c.as_slice.ensures.value in
    rw (← c.self.view_is) (sym (not_alone c.args.world.now _ (λ e. omega arith)))

pub returns-in_default-2 : goal.returns-in_default-2
returns-in_default-2 c =
    let items : length c.as_slice.result.now ≡ length c.self.inside.threads.items = ap length c.as_slice.ensures.value in
    rw (← c.self.view_is) (sym (not_alone c.args.world.now _ (λ e. omega arith)))
