use Rattle.model_lab.specs.Meaning.{lab_names}
use Rattle.lab_run.proofs.lab_state.Lab.undo_list.Goals as goal

pub returns : goal.returns
returns c file x shows = (c.undo_list.ensures lab_names x.manager shows.manager).requests
