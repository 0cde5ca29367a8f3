use Rattle.std.proofs.Common.{sym}
use Rattle.app_base.proofs.Readings.{refuses_on}
use Rattle.bmcnet.proofs.words.change_words.Goals as goal

pub returns-in_err-apply_words-clause-refused : goal.returns-in_err-apply_words-clause-refused
returns-in_err-apply_words-clause-refused c =
    refuses_on _ _ _ _ c.from_residual.ensures.1 (λ asked asks. (asked.apply, asks.apply)) c.in_err-apply_words.ensures.refused

pub returns-clause-asked : goal.returns-clause-asked
returns-clause-asked c = record {
  apply = c.in_ok-apply_words.ensures.asked;
  only_changes = sym c.has_flag.ensures;
  all_or_none = sym c.has_flag-2.ensures;
}
