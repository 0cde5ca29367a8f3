use Rattle.app_base.proofs.Readings.{refuses_on}
use Rattle.bmcnet.proofs.words.reach.Goals as goal

pub returns-in_err-port-clause-refused : goal.returns-in_err-port-clause-refused
returns-in_err-port-clause-refused c =
    refuses_on _ _ _ _ c.from_residual.ensures.1 (λ asked asks. (asked.ipmb_port, asks.ipmb)) c.in_err-port.ensures.refused

pub returns-in_err-port_given-clause-refused : goal.returns-in_err-port_given-clause-refused
returns-in_err-port_given-clause-refused c =
    refuses_on _ _ _ _ c.from_residual-in_err-port_given.ensures.1 (λ asked asks. (asked.smbus_port, asks.smbus)) c.in_err-port_given.ensures.refused

pub returns-in_err-wait-clause-refused : goal.returns-in_err-wait-clause-refused
returns-in_err-wait-clause-refused c =
    refuses_on _ _ _ _ c.from_residual-in_err-wait.ensures.1 (λ asked asks. (asked.wait_ms, asks.wait)) c.in_err-wait.ensures.refused

pub returns-in_err-number_or-clause-refused : goal.returns-in_err-number_or-clause-refused
returns-in_err-number_or-clause-refused c =
    refuses_on _ _ _ _ c.from_residual-in_err-number_or.ensures.1 (λ asked asks. (asked.again, asks.again)) c.in_err-number_or.ensures.refused

pub returns-clause-reach : goal.returns-clause-reach
returns-clause-reach c = record {
  ipmb = c.in_ok-port.ensures.port;
  smbus = c.in_ok-port_given.ensures.port;
  wait = c.in_ok-wait.ensures.wait;
  again = c.in_ok-number_or.ensures.number;
}
