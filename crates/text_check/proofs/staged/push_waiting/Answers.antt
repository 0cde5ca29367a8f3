use Rattle.std.proofs.Common.{◌∙◌, string_bytes, sym}
use Rattle.undo_plans.specs.Requests.{meant}
use Rattle.record_words.specs.RequestWords.{undo_words_of}
use Rattle.text_check.specs.Staged.{AreWaitingLines, set_at, waiting_line}
use Rattle.text_check.proofs.Lined.{on_ok, tells_one}
use Rattle.text_check.proofs.StageLines.{waiting_is}
use Rattle.text_check.proofs.staged.push_waiting.Goals as goal

pub returns : goal.returns
returns c =
    let name = c.args.name.now in
    let set = set_at c.args.contents.now.stage in
    let waiting = c.args.contents.now.requests.waiting in
    let words = undo_words_of c.undo_in_words-words.result in
    let are = waiting_is name set waiting c.in-Some.step (meant c.in-Some-waiting.request) words (sym c.set_at.ensures ∙ c.in-Some.is) c.in-Some-waiting.ensures.there c.undo_in_words-words.ensures in
    on_ok c.push_if_set.result _ _
    (λ told. tells_one (AreWaitingLines name set waiting) (waiting_line name c.in-Some.step words) (string_bytes c.args.text.now) (string_bytes c.push_if_set.new.text) are told)
    c.push_if_set.ensures
