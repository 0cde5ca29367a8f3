use Rattle.model_lab.specs.ManagerSteps.{board_plans}
use Rattle.lab_run.proofs.FrameMarks.{marks-replies}
use Rattle.lab_run.proofs.ages.FrameAge.reply.Goals as goal

pub returns-clause-marks : goal.returns-clause-marks
returns-clause-marks c = λ names setup. marks-replies (board_plans names) setup c.args.self c.args.idles
