use Rattle.std.proofs.Common.{arith, ◌≡◌, true, refl}
use Rattle.serving.specs.declared.control_data.Fate.TheVariants.{Exited}
use Rattle.thread_table.specs.Threads.{is_live_at}
use Rattle.thread_table.proofs.LiveCount.{live_count_exited}
use Rattle.thread_table.proofs.threads.Threads.exit.Goals as goal

-- a live thread is counted
pub overflow_sub-self : goal.overflow_sub-self
overflow_sub-self c =
    let live : is_live_at c.self.inside.fates.items c.args.thread ≡ true = cc in
    omega (arith, live_count_exited c.self.inside.fates.items c.args.thread (Exited c.args.code true) live refl)
