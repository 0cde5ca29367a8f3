use Rattle.std.proofs.Common.{inr, refl, string_bytes}
use Rattle.text_check.specs.declared.text_form.TextForm.TheVariants as looks
use Rattle.text_check.specs.Worded.{AreWords}
use Rattle.text_check.proofs.FaultyWords.{undo_bad}
use Rattle.text_check.proofs.Lined.{tells_nothing}
use Rattle.text_check.proofs.worded.tell_undo.Goals as goal

pub returns-in-Err-Line : goal.returns-in-Err-Line
returns-in-Err-Line c =
    let at = c.in-Err-Line in
    tells_nothing (AreWords looks.Undo c.args.source.name.now c.args.source.file.now) (string_bytes c.args.text.now)
    (inr (undo_bad c.args.source.file.now at.field-0 at.field-0-0 at.ensures.fault at.field-0-is, refl))
