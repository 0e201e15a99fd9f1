-- The verdict is answered.
use Rattle.std.proofs.Common.{◌≡◌, ℕ, List, sym, subst, rules}
use Rattle.sim_outside.specs.Told.{Contents}
use Rattle.sim_top.specs.Answer.{IsPut, Writes, stream, writes}
use Rattle.sim_top.specs.Commands.{Decides}
use Rattle.sim_top.specs.Stage.{reads}
use Rattle.sim_top.specs.Inner.{decided, Stores}
use Rattle.sim_top.proofs.VerdictLemmas.{stored}
use Rattle.sim_top.proofs.top.answer.Goals as goal

pub returns-in-Ok-put_all-clause-answer : goal.returns-in-Ok-put_all-clause-answer
returns-in-Ok-put_all-clause-answer g c =
    let r = reads (g.F.Files.holds c.args.files.now) (g.F.Files.read_faults c.args.files.now) (g.F.Files.read_faults c.store.new.files) in
    let s = stream (g.S.Sink.faults c.args.out.now) (g.S.Sink.faults c.put_all.new.out) (g.S.Sink.taken c.args.out.now) (g.S.Sink.taken c.put_all.new.out) in
    let w = λ (held : Contents) (before : List ℕ → ℕ). writes held (g.F.Files.holds c.store.new.files) before (g.F.Files.write_faults c.store.new.files) in
    let decides : Decides c.args.words.now r (decided c.in-Ok.decision) =
    subst (λ after. Decides c.args.words.now (reads (g.F.Files.holds c.args.files.now) (g.F.Files.read_faults c.args.files.now) after) (decided c.in-Ok.decision)) (sym c.store.ensures.reads) c.in-Ok.ensures.decision in
    let text : c.as_slice.result.now ≡ c.in-Ok.decision.text = search rules in
    let put : IsPut s c.in-Ok.decision.text = subst (IsPut s) text (record { took = c.in-Ok-put_all.ensures.0; no_fault = c.in-Ok-put_all.ensures.1 }) in
    let stores : Stores c.in-Ok.decision c.store.result.outcome c.store.result.journal (w (g.F.Files.holds c.args.files.now) (g.F.Files.write_faults c.args.files.now)) =
    subst (λ held. Stores c.in-Ok.decision c.store.result.outcome c.store.result.journal (w held (g.F.Files.write_faults c.args.files.now))) c.in-Ok.ensures.kept
    (subst (λ before. Stores c.in-Ok.decision c.store.result.outcome c.store.result.journal (w (g.F.Files.holds c.decide.new.files) before)) c.in-Ok.ensures.writes c.store.ensures.stores) in
    stored c.args.words.now r s (w (g.F.Files.holds c.args.files.now) (g.F.Files.write_faults c.args.files.now)) c.in-Ok.decision c.store.result.outcome c.store.result.journal decides put stores
