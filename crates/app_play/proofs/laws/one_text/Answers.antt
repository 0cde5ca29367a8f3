use Rattle.app_play.specs.declared.run.Shown.TheVariants.{Lines, Chart}
use Rattle.app_play.proofs.OneAccount.{one_account}
use Rattle.app_play.proofs.OneChart.{one_chart}
use Rattle.app_play.proofs.laws.one_text.Goals as goal

pub returns : goal.returns
returns c (Lines frames premises) = one_account c.one_ending.ensures frames premises
returns c Chart = one_chart c.one_ending.ensures
