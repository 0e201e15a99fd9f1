-- The word decides whether the caller is parked.
use Rattle.std.proofs.Common.{rules, ℕ, ◌≡◌, ◌==◌, true, false}
use Rattle.wire_msg.specs.declared.calls.Call.TheVariants.{FutexWait}
use Rattle.serving.specs.declared.control_data.Request.TheVariants.{Call as CallRequest}
use Rattle.flat_machine.specs.Serving.{word_of}
use Rattle.flat_machine.proofs.ServingLemmas.{wait_parked, wait_refused, word_same, word_differs}
use Rattle.flat_machine.proofs.machine.Flat.serve_wait.Goals as goal

pub returns-in_ok-push-clause-ok : goal.returns-in_ok-push-clause-ok
returns-in_ok-push-clause-ok c =
    let word : ℕ = word_of c.args.self.now.memory (CallRequest (FutexWait c.args.addr c.args.value)) in
    let e : (word == c.args.value) ≡ true = word_same c.word.result word c.args.value (search rules) c.if-word-value.true in
    rw (wait_parked c.args.self.now c.args.number c.args.addr c.args.value word e) (search rules)

pub returns-else-word-value-clause-ok : goal.returns-else-word-value-clause-ok
returns-else-word-value-clause-ok c =
    let word : ℕ = word_of c.args.self.now.memory (CallRequest (FutexWait c.args.addr c.args.value)) in
    let e : (word == c.args.value) ≡ false = word_differs c.word.result word c.args.value (search rules) c.if-word-value.false in
    rw (wait_refused c.args.self.now c.args.number c.args.addr c.args.value word e) (search rules)
