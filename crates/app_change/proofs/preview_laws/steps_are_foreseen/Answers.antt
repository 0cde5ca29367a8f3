use Rattle.app_change.proofs.BoardSteps as boards
use Rattle.app_change.proofs.preview_laws.steps_are_foreseen.Goals as goal

pub returns-clause-shown : goal.returns-clause-shown
returns-clause-shown c = boards.foresees_steps

pub returns-clause-configured : goal.returns-clause-configured
returns-clause-configured c = boards.foresees_configuration

pub returns-clause-meant : goal.returns-clause-meant
returns-clause-meant c = boards.means_so
