use Rattle.std.proofs.Common.{◌≡◌, List, ℕ, map, ap, ◌∙◌, subst}
use Rattle.text_lines.specs.ScheduleText.{words_of}
use Rattle.text_lines.specs.EventLine.{AreWordsOf}
use Rattle.text_lines.specs.Reads.{ReadsLine}
use Rattle.text_lines.proofs.event_line.read_line.Goals as goal

pub returns-in-Ok : goal.returns-in-Ok
returns-in-Ok c =
    let are : map (λ x. x.now) c.as_slice.result.now ≡ words_of c.args.line.now = ap (map (λ x. x.now)) c.as_slice.ensures.value ∙ c.in-Ok.ensures in
    subst (λ (words : List (List ℕ)). ReadsLine (AreWordsOf words) c.event_of.result) are c.event_of.ensures
