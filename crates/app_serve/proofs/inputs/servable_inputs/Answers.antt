use Rattle.std.proofs.Common.{ℕ, List, Option, Some, option_map, string_bytes, subst}
use Rattle.app_base.specs.declared.report.Report.{Report}
use Rattle.app_base.specs.Refusals.{RefusedIf}
use Rattle.app_serve.specs.Run.{is_refused_strictly}
use Rattle.app_serve.proofs.Serving.{strict_told}
use Rattle.app_serve.proofs.inputs.servable_inputs.Goals as goal

pub returns-in-Err-clause-refused : goal.returns-in-Err-clause-refused
returns-in-Err-clause-refused c =
    c.refusal.ensures c.args.words.now (string_bytes c.args.texts.now.board) (option_map (λ s. string_bytes s) c.args.texts.now.readings) c.in-Err.ensures

pub returns-in-Ok-Some-clause-refused : goal.returns-in-Ok-Some-clause-refused
returns-in-Ok-Some-clause-refused c =
    let words = c.args.words.now in
    let report = c.in-Ok-Some.report in
    strict_told words (string_bytes c.args.texts.now.board) (option_map (λ s. string_bytes s) c.args.texts.now.readings) c.in-Ok.inputs report c.in-Ok.ensures
    (subst (λ (text : List ℕ). RefusedIf (is_refused_strictly words text) (Some report)) c.as_str.ensures.value
    (subst (λ (told : Option Report). RefusedIf (is_refused_strictly words c.as_str.result.now) told) c.in-Ok-Some.field-0-is c.in-Ok-Some.ensures))
