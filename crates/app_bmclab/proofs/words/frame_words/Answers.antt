use Rattle.std.proofs.Common.{◌∙◌, Err, sym, ap, subst, option_map}
use Rattle.bmc_lab.specs.Asked.{AsksForBytes}
use Rattle.app_base.proofs.Readings.{none_there, refuses_more, refuses_none}
use Rattle.app_bmclab.proofs.Readings.{frame_asked, frame_refuses}
use Rattle.app_bmclab.proofs.words.frame_words.Goals as goal

pub returns-in_default-clause-refused : goal.returns-in_default-clause-refused
returns-in_default-clause-refused c =
    let missing = sym c.word_of.ensures ∙ ap (option_map (λ s. s.now)) c.in_default.is in
    refuses_none _ c.lacking.result (λ asked asks. none_there _ _ missing asks.given)

pub returns-in-Err-clause-refused : goal.returns-in-Err-clause-refused
returns-in-Err-clause-refused c =
    let bus = sym c.word_of-bus.ensures in
    let digits = sym c.word_of.ensures ∙ ap (option_map (λ s. s.now)) c.in-Some.is in
    refuses_more _ _ _ (frame_asked _ _ _ bus digits) (frame_refuses _ _ _ _ c.in-Err.ensures.faults (λ words. c.in-Err.ensures.refused (ap Err words)) c.frame_refusal.ensures)

pub returns-in-Ok-clause-asked : goal.returns-in-Ok-clause-asked
returns-in-Ok-clause-asked c =
    let bus = sym c.word_of-bus.ensures in
    record {
      board = c.in_ok-board.ensures.word;
      digits = c.in-Some.digits.now;
      given = sym c.word_of.ensures ∙ ap (option_map (λ s. s.now)) c.in-Some.is;
      explain = c.has_flag-explain.ensures;
      frame = subst (λ word. AsksForBytes word c.in-Some.digits.now c.in-Ok.frame.bus c.in-Ok.frame.bytes.items) (sym bus) c.in-Ok.ensures.asked;
    }
