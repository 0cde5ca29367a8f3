use Rattle.std.proofs.Common.{sym}
use Rattle.app_base.proofs.Readings.{refuses_on}
use Rattle.bmcnet.proofs.words.show_words.Goals as goal

pub returns-in_err-effecters-clause-refused : goal.returns-in_err-effecters-clause-refused
returns-in_err-effecters-clause-refused c =
    refuses_on _ _ _ _ c.from_residual.ensures.1 (λ asked asks. (asked.effecters.items, asks.effecters)) c.in_err-effecters.ensures.refused

pub returns-in_err-reach-clause-refused : goal.returns-in_err-reach-clause-refused
returns-in_err-reach-clause-refused c =
    refuses_on _ _ _ _ c.from_residual-in_err-reach.ensures.1 (λ asked asks. (asked.reach, asks.reach)) c.in_err-reach.ensures.refused

pub returns-clause-asked : goal.returns-clause-asked
returns-clause-asked c = record {
  effecters = c.in_ok-effecters.ensures.ids;
  out = c.in_ok-given.ensures.word;
  json = sym c.has_flag.ensures;
  reach = c.in_ok-reach.ensures.reach;
}
