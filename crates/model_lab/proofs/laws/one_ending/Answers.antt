use Rattle.model_lab.specs.Lab.{opening}
use Rattle.model_lab.specs.Meaning.{lab_names}
use Rattle.model_lab.specs.Played.{plans}
use Rattle.model_lab.proofs.Endings.{one_end}
use Rattle.model_lab.proofs.laws.one_ending.Goals as goal

pub returns : goal.returns
returns c file steps retries events ending other is was = one_end file (opening plans file lab_names steps retries) events ending other is was
