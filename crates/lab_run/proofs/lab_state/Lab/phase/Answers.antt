use Rattle.model_lab.specs.Meaning.{lab_names}
use Rattle.lab_run.proofs.lab_state.Lab.phase.Goals as goal

pub returns : goal.returns
returns c file x shows = c.phase.ensures lab_names x.manager shows.manager
