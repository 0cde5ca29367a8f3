use Rattle.std.proofs.Common.{◌++◌, [], List, Option, ℕ, codes, refl, string_bytes, subst, sym}
use Rattle.record_base.specs.declared.message.Asked.{Asked}
use Rattle.undo_plans.specs.Journals.{kept_in}
use Rattle.record_words.specs.RequestWords.{undo_words_of}
use Rattle.text_check.specs.Staged.{AreStageLines, IsBack, stage_line}
use Rattle.text_check.proofs.Lined.{on_ok, tells_one}
use Rattle.text_check.proofs.StageLines.{back_is_of}
use Rattle.text_check.proofs.staged.push_undo_stage.Goals as goal

pub returns-in-Some : goal.returns-in-Some
returns-in-Some c =
    let name = c.args.name.now in
    let kept = kept_in c.args.contents.now in
    let stage = c.args.contents.now.stage in
    let words = undo_words_of c.undo_in_words.result in
    let of : List ℕ = codes ", " ++ words in
    let back = subst (λ (asked : Option Asked). IsBack asked of) (sym c.in-Some.ensures.there) (words, c.undo_in_words.ensures, refl) in
    on_ok c.push_staged.result _ _
    (λ told. tells_one (AreStageLines name kept) (stage_line name stage of) (string_bytes c.args.text.now) (string_bytes c.push_staged.new.text)
    (stage_line name stage of, (of, back_is_of kept stage c.args.step of c.requires back, refl), refl) told)
    c.push_staged.ensures

pub returns-in-None : goal.returns-in-None
returns-in-None c =
    let name = c.args.name.now in
    let kept = kept_in c.args.contents.now in
    let stage = c.args.contents.now.stage in
    let of : List ℕ = [] in
    let back = subst (λ (asked : Option Asked). IsBack asked of) (sym c.in-None.ensures.missing) refl in
    on_ok c.push_staged-in-None.result _ _
    (λ told. tells_one (AreStageLines name kept) (stage_line name stage of) (string_bytes c.args.text.now) (string_bytes c.push_staged-in-None.new.text)
    (stage_line name stage of, (of, back_is_of kept stage c.args.step of c.requires back, refl), refl) told)
    c.push_staged-in-None.ensures
