use Rattle.std.proofs.Common.{refl, string_bytes}
use Rattle.undo_plans.specs.Journals.{kept_in}
use Rattle.text_check.specs.Staged.{AreStageLines, stage_line, step_words}
use Rattle.text_check.proofs.Lined.{on_ok, tells_one}
use Rattle.text_check.proofs.staged.push_other_stage.Goals as goal

pub returns : goal.returns
returns c =
    let name = c.args.name.now in
    let stage = c.args.contents.now.stage in
    let of = step_words c.of_step.result in
    on_ok c.push_staged.result _ _
    (λ told. tells_one (AreStageLines name (kept_in c.args.contents.now)) (stage_line name stage of) (string_bytes c.args.text.now) (string_bytes c.push_staged.new.text)
    (stage_line name stage of, (of, c.of_step.ensures, refl), refl) told)
    c.push_staged.ensures
