-- The Invs are the row's messages.
use Rattle.std.proofs.Common.{◌++◌, sym, ap, ◌∙◌}
use Rattle.dir_slice.specs.Line.{awaited}
use Rattle.dir_slice.proofs.Sent.{invs_sent}
use Rattle.dir_slice.proofs.home.Home.send.Goals as goal

pub returns-in_ok-send_invs-in-Invs : goal.returns-in_ok-send_invs-in-Invs
returns-in_ok-send_invs-in-Invs c =
    rw c.in-Invs.is (c.in_ok-send_invs-in-Invs.ensures ∙ ap (λ mail. c.args.out.now.items ++ mail) (sym (invs_sent c.args.line c.args.self.now (awaited c.args.self.now.state))))
