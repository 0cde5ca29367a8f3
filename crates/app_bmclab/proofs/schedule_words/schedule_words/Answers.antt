use Rattle.std.proofs.Common.{string_bytes}
use Rattle.app_base.proofs.Readings.{refuses_on}
use Rattle.app_bmclab.proofs.schedule_words.schedule_words.Goals as goal

pub returns-in_err-options-clause-refused : goal.returns-in_err-options-clause-refused
returns-in_err-options-clause-refused c =
    refuses_on _ _ _ _ c.from_residual.ensures.1 (λ asked asks. (asks.options, asks.given)) c.in_err-options.ensures.refused

pub returns-in_err-named-clause-refused : goal.returns-in_err-named-clause-refused
returns-in_err-named-clause-refused c =
    refuses_on _ _ _ _ c.from_residual-in_err-named.ensures.1 (λ asked asks. (string_bytes asked.board, asks.board)) c.in_err-named.ensures.refused

pub returns-in_err-named-2-clause-refused : goal.returns-in_err-named-2-clause-refused
returns-in_err-named-2-clause-refused c =
    refuses_on _ _ _ _ c.from_residual-in_err-named-2.ensures.1 (λ asked asks. (string_bytes asked.plan, asks.plan)) c.in_err-named-2.ensures.refused

pub returns-clause-asked : goal.returns-clause-asked
returns-clause-asked c = record {
  options = c.in_ok-options.options;
  given = c.in_ok-options.ensures.options;
  links = c.links.ensures;
  undo = c.has_flag.ensures;
  board = c.in_ok-named.ensures.word;
  plan = c.in_ok-named-2.ensures.word;
}
