use Rattle.stats_report.proofs.ShownText.{text-of_state}
use Rattle.stats_report.proofs.laws.text_is_of_state.Goals as goal

pub returns : goal.returns
returns c = text-of_state c.shown_is_read.ensures
