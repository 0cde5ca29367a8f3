use Rattle.model_lab.specs.Meaning.{lab_names}
use Rattle.lab_run.proofs.lab_state.Lab.begun.Goals as goal

pub returns : goal.returns
returns c file x shows = c.begun.ensures lab_names x.manager shows.manager
