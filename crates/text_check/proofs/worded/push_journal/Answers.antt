use Rattle.std.proofs.Common.{◌∙◌, ap, length, refl, string_bytes, subst, ℕ}
use Rattle.text_check.specs.Telling.{Tells}
use Rattle.undo_plans.specs.Journals.{kept_in}
use Rattle.text_check.specs.Staged.{AreStageLines, AreWaitingLines, left_at, set_at}
use Rattle.text_check.specs.Worded.{AreJournalLines, AreUndoLines}
use Rattle.text_check.proofs.Lined.{on_ok, tells_three}
use Rattle.text_check.proofs.StageLines.{waits_so}
use Rattle.text_check.proofs.worded.push_journal.Goals as goal

pub returns : goal.returns
returns c =
    let name = c.args.name.now in
    let kept = kept_in c.args.contents.now in
    let members = c.args.contents.now.requests.members in
    on_ok c.push_undo.result _ _
    (λ told. tells_three (AreStageLines name kept) (AreWaitingLines name (set_at kept.stage) c.args.contents.now.requests.waiting)
    (AreUndoLines name (left_at kept.stage (length members)) members) (AreJournalLines name kept)
    (string_bytes c.args.text.now) (string_bytes c.push_stage.new.text) (string_bytes c.push_waiting.new.text) (string_bytes c.push_undo.new.text)
    (λ x y z p q r. record { stage = x; waiting = y; back = z; is = refl; far = p; open_set = waits_so name kept.stage c.args.contents.now.requests.waiting y q; undo = r })
    c.in_ok-push_stage.ensures c.in_ok-push_waiting.ensures
    (subst (λ (n : ℕ). Tells (AreUndoLines name n members) (string_bytes c.push_waiting.new.text) (string_bytes c.push_undo.new.text))
    (c.left_at-count.ensures.value ∙ ap (left_at kept.stage) c.len.ensures.value) told))
    c.push_undo.ensures
