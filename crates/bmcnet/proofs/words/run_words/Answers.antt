use Rattle.std.proofs.Common.{sym, string_bytes}
use Rattle.app_base.proofs.Readings.{refuses_on}
use Rattle.bmcnet.proofs.words.run_words.Goals as goal

pub returns-in_err-named-clause-refused : goal.returns-in_err-named-clause-refused
returns-in_err-named-clause-refused c =
    refuses_on _ _ _ _ c.from_residual.ensures.1 (λ asked asks. (string_bytes asked.plan, asks.plan)) c.in_err-named.ensures.refused

pub returns-in_err-port-clause-refused : goal.returns-in_err-port-clause-refused
returns-in_err-port-clause-refused c =
    refuses_on _ _ _ _ c.from_residual-in_err-port.ensures.1 (λ asked asks. (asked.ipmb_port, asks.ipmb)) c.in_err-port.ensures.refused

pub returns-in_err-port-2-clause-refused : goal.returns-in_err-port-2-clause-refused
returns-in_err-port-2-clause-refused c =
    refuses_on _ _ _ _ c.from_residual-in_err-port-2.ensures.1 (λ asked asks. (asked.smbus_port, asks.smbus)) c.in_err-port-2.ensures.refused

pub returns-in_err-turns-clause-refused : goal.returns-in_err-turns-clause-refused
returns-in_err-turns-clause-refused c =
    refuses_on _ _ _ _ c.from_residual-in_err-turns.ensures.1 (λ asked asks. (asked.turns, asks.turns)) c.in_err-turns.ensures.refused

pub returns-in_err-named-2-clause-refused : goal.returns-in_err-named-2-clause-refused
returns-in_err-named-2-clause-refused c =
    refuses_on _ _ _ _ c.from_residual-in_err-named-2.ensures.1 (λ asked asks. (string_bytes asked.undo, asks.undo)) c.in_err-named-2.ensures.refused

pub returns-in_err-wait-clause-refused : goal.returns-in_err-wait-clause-refused
returns-in_err-wait-clause-refused c =
    refuses_on _ _ _ _ c.from_residual-in_err-wait.ensures.1 (λ asked asks. (asked.wait_ms, asks.wait)) c.in_err-wait.ensures.refused

pub returns-in_err-number_or-clause-refused : goal.returns-in_err-number_or-clause-refused
returns-in_err-number_or-clause-refused c =
    refuses_on _ _ _ _ c.from_residual-in_err-number_or.ensures.1 (λ asked asks. (asked.again, asks.again)) c.in_err-number_or.ensures.refused

pub returns-in_err-number_given-clause-refused : goal.returns-in_err-number_given-clause-refused
returns-in_err-number_given-clause-refused c =
    refuses_on _ _ _ _ c.from_residual-in_err-number_given.ensures.1 (λ asked asks. (asked.forget, asks.forget)) c.in_err-number_given.ensures.refused

pub returns-clause-asked : goal.returns-clause-asked
returns-clause-asked c = record {
  plan = c.in_ok-named.ensures.word;
  ipmb = c.in_ok-port.ensures.port;
  smbus = c.in_ok-port-2.ensures.port;
  turns = c.in_ok-turns.ensures.turns;
  undo = c.in_ok-named-2.ensures.word;
  wait = c.in_ok-wait.ensures.wait;
  again = c.in_ok-number_or.ensures.number;
  forget = c.in_ok-number_given.ensures.number;
  greet = sym c.has_flag.ensures;
  replace = sym c.has_flag-2.ensures;
  strict = sym c.has_flag-3.ensures;
}
