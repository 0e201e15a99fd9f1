-- Each law is a lemma.
use Rattle.coherence_laws.proofs.Still.{none_waits_in_silence, still_lines_are_served}
use Rattle.coherence_laws.proofs.laws.still_lines_are_served.Goals as goal

pub returns-clause-line : goal.returns-clause-line
returns-clause-line c = still_lines_are_served

pub returns-clause-machine : goal.returns-clause-machine
returns-clause-machine c = none_waits_in_silence
