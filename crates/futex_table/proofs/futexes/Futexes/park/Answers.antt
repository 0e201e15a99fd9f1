use Rattle.std.proofs.Common.{◌≡◌, false, [], ◌∷◌, ◌++◌, ap, ◌∙◌}
use Rattle.serving.specs.ControlData.{is_waiting}
use Rattle.futex_table.specs.Entries.{waiters_of}
use Rattle.futex_table.proofs.Orderly.{orderly_parked, waiters_of-parked}
use Rattle.futex_table.proofs.futexes.Futexes.park.Goals as goal

pub invariant_of-self-2 : goal.invariant_of-self-2
invariant_of-self-2 c =
    let awake : is_waiting (waiters_of c.self.inside.addresses.entries) c.args.thread ≡ false = cc in
    orderly_parked c.args.thread c.args.addr c.self.inside.addresses.entries c.insert.new.self.entries c.self.invariant c.requires.number awake c.in_ok-insert.ensures.entries c.in_ok-insert.ensures.unique

pub returns-clause-ok : goal.returns-clause-ok
returns-clause-ok c =
    let awake : is_waiting (waiters_of c.self.inside.addresses.entries) c.args.thread ≡ false = cc in
    waiters_of-parked c.args.thread c.args.addr c.self.inside.addresses.entries c.insert.new.self.entries awake c.in_ok-insert.ensures.entries
    ∙ ap (λ ws. ws ++ (record { thread = c.args.thread; addr = c.args.addr }) ∷ []) c.self.view_is
