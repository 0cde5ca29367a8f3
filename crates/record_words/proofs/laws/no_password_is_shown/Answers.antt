use Rattle.record_words.proofs.NoPassword.{no_op}
use Rattle.record_words.proofs.laws.no_password_is_shown.Goals as goal

pub returns : goal.returns
returns c lun body words is = is.of_none (no_op lun body)
