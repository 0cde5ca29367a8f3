use Rattle.std.proofs.Common.{string_bytes, sym}
use Rattle.app_base.proofs.Readings.{refuses_on}
use Rattle.bmcnet.proofs.words.preview_words.Goals as goal

pub returns-in_err-named-clause-refused : goal.returns-in_err-named-clause-refused
returns-in_err-named-clause-refused c =
    refuses_on _ _ _ _ c.from_residual.ensures.1 (λ asked asks. (string_bytes asked.plan, asks.plan)) c.in_err-named.ensures.refused

pub returns-in_err-reach-clause-refused : goal.returns-in_err-reach-clause-refused
returns-in_err-reach-clause-refused c =
    refuses_on _ _ _ _ c.from_residual-in_err-reach.ensures.1 (λ asked asks. (asked.reach, asks.reach)) c.in_err-reach.ensures.refused

pub returns-clause-asked : goal.returns-clause-asked
returns-clause-asked c = record {
  plan = c.in_ok-named.ensures.word;
  json = sym c.has_flag.ensures;
  reach = c.in_ok-reach.ensures.reach;
}
