-- The join is answered, or parks the caller.
use Rattle.std.proofs.Common.{refl}
use Rattle.serving.specs.declared.control_data.Join.TheVariants.{Code, Parked}
use Rattle.control_server.proofs.Outcome.{if_ok, if_done}
use Rattle.control_server.proofs.Served.{join_answered_made, join_parked_made}
use Rattle.control_server.proofs.control.Control.join.Goals as goal

pub returns-in-Code : goal.returns-in-Code
returns-in-Code c =
    let active = rw (← c.self.view_is) at c.requires in
    rw (← c.self.view_is) (if_ok c.answer.result _ _ c.answer.ensures (λ sent w.
    join_answered_made w _ c.args.asker c.args.target c.in-Code.code (Code c.in-Code.code) c.join.new.self _ c.args.out.now.items c.answer.new.out.items active c.in-Code.ensures.value refl (λ p. cc) c.in-Code.ensures.fates refl sent))

pub returns-in-Parked : goal.returns-in-Parked
returns-in-Parked c =
    rw (← c.self.view_is) (if_done c.leave.result _ _ c.leave.ensures (λ made w.
    join_parked_made w _ c.args.asker c.args.target Parked c.join.new.self _ c.leave.new.self c.args.out.now.items c.leave.new.out.items c.in-Parked.ensures.value refl c.in-Parked.ensures.fates refl made))
