use Rattle.app_base.proofs.Readings.{refuses_on}
use Rattle.app_bmclab.proofs.schedule_words.given_options.Goals as goal

pub returns-in_err-percent-clause-refused : goal.returns-in_err-percent-clause-refused
returns-in_err-percent-clause-refused c =
    refuses_on _ _ _ _ c.from_residual.ensures.1 (λ asked asks. (asked.lose, asks.lose)) c.in_err-percent.ensures.refused

pub returns-in_err-percent-2-clause-refused : goal.returns-in_err-percent-2-clause-refused
returns-in_err-percent-2-clause-refused c =
    refuses_on _ _ _ _ c.from_residual-in_err-percent-2.ensures.1 (λ asked asks. (asked.repeat, asks.repeat)) c.in_err-percent-2.ensures.refused

pub returns-in_err-percent-3-clause-refused : goal.returns-in_err-percent-3-clause-refused
returns-in_err-percent-3-clause-refused c =
    refuses_on _ _ _ _ c.from_residual-in_err-percent-3.ensures.1 (λ asked asks. (asked.delay, asks.delay)) c.in_err-percent-3.ensures.refused

pub returns-in_err-percent-4-clause-refused : goal.returns-in_err-percent-4-clause-refused
returns-in_err-percent-4-clause-refused c =
    refuses_on _ _ _ _ c.from_residual-in_err-percent-4.ensures.1 (λ asked asks. (asked.others, asks.others)) c.in_err-percent-4.ensures.refused

pub returns-in_err-seed-clause-refused : goal.returns-in_err-seed-clause-refused
returns-in_err-seed-clause-refused c =
    refuses_on _ _ _ _ c.from_residual-in_err-seed.ensures.1 (λ asked asks. (asked.seed, asks.seed)) c.in_err-seed.ensures.refused
