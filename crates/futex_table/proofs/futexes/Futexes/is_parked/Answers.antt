use Rattle.futex_table.proofs.Orderly.{is_waiting-entries}
use Rattle.futex_table.proofs.futexes.Futexes.is_parked.Goals as goal

pub returns : goal.returns
returns c = cc (is_waiting-entries c.args.thread c.self.inside.addresses.entries)
