use Rattle.flat_machine.proofs.LegalLemmas.{made_is_legal, legal_is_made}
use Rattle.flat_machine.proofs.laws.one_legal_action.Goals as goal

pub returns-clause-legal : goal.returns-clause-legal
returns-clause-legal c = made_is_legal

pub returns-clause-only : goal.returns-clause-only
returns-clause-only c = legal_is_made
