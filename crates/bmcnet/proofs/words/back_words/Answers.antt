use Rattle.std.proofs.Common.{sym}
use Rattle.app_base.proofs.Readings.{refuses_on}
use Rattle.bmcnet.proofs.words.back_words.Goals as goal

pub returns-in_err-revert_words-clause-refused : goal.returns-in_err-revert_words-clause-refused
returns-in_err-revert_words-clause-refused c =
    refuses_on _ _ _ _ c.from_residual.ensures.1 (λ asked asks. (asked.revert, asks.revert)) c.in_err-revert_words.ensures.refused

pub returns-clause-asked : goal.returns-clause-asked
returns-clause-asked c = record {
  revert = c.in_ok-revert_words.ensures.asked;
  preview = sym c.has_flag.ensures;
}
