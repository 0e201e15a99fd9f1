-- The command's form is one that clap takes.
use Rattle.sim_config.proofs.Requests.{taken_form}
use Rattle.sim_config.proofs.words.command_request.Goals as goal

pub read-requires : goal.read-requires
read-requires c = taken_form _ _ c.form.ensures.form c.form.ensures.taken
