use Rattle.std.proofs.Common.{sym, string_bytes}
use Rattle.app_base.proofs.Readings.{refuses_on}
use Rattle.bmcnet.proofs.words.pair_words.Goals as goal

pub returns-in_err-named-clause-refused : goal.returns-in_err-named-clause-refused
returns-in_err-named-clause-refused c =
    refuses_on _ _ _ _ c.from_residual.ensures.1 (λ asked asks. (string_bytes asked.board, asks.board)) c.in_err-named.ensures.refused

pub returns-in_err-named-2-clause-refused : goal.returns-in_err-named-2-clause-refused
returns-in_err-named-2-clause-refused c =
    refuses_on _ _ _ _ c.from_residual-in_err-named-2.ensures.1 (λ asked asks. (string_bytes asked.plan, asks.plan)) c.in_err-named-2.ensures.refused

pub returns-in_err-turns-clause-refused : goal.returns-in_err-turns-clause-refused
returns-in_err-turns-clause-refused c =
    refuses_on _ _ _ _ c.from_residual-in_err-turns.ensures.1 (λ asked asks. (asked.options.turns, asks.turns)) c.in_err-turns.ensures.refused

pub returns-clause-asked : goal.returns-clause-asked
returns-clause-asked c = record {
  board = c.in_ok-named.ensures.word;
  plan = c.in_ok-named-2.ensures.word;
  turns = c.in_ok-turns.ensures.turns;
  strict = sym c.has_flag.ensures;
  list = sym c.has_flag-2.ensures;
}
