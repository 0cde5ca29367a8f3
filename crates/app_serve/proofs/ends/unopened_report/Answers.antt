use Rattle.app_serve.proofs.Serving.{unopened_told}
use Rattle.app_serve.proofs.ends.unopened_report.Goals as goal

pub returns : goal.returns
returns c = λ words is. unopened_told words c.args.why c.in_ok-end_report.field-0 is c.in_ok-end_report.ensures.stream c.in_ok-end_report.ensures.text c.in_ok-end_report.ensures.status
