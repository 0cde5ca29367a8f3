use Rattle.std.proofs.Common.{ℕ, List, Ok, subst}
use Rattle.text_board.specs.declared.fault.FileFault.TheVariants.{Memory}
use Rattle.text_board.specs.Holds.{ReadsText}
use Rattle.app_serve.proofs.Serving.{was_read}
use Rattle.app_serve.proofs.inputs.read_inputs.Goals as goal

pub returns-in-Err-list_of : goal.returns-in-Err-list_of
returns-in-Err-list_of c = (
  (c.in-Ok.file, subst (λ (text : List ℕ). ReadsText text (Ok c.in-Ok.file)) c.as_str.ensures.value (was_read c.in-Ok.file Memory c.in-Ok.ensures)),
  c.in-Err-list_of.ensures.refused,
)
