-- What a port of its bus serves, a port of either does.
use Rattle.std.proofs.Common.{ℕ, List, Result, Ok, Err}
use Rattle.record_base.specs.declared.message.Asked.{Asked}
use Rattle.record_base.specs.declared.message.Answered.{Answered}
use Rattle.bmc_core.specs.declared.out.Out.{Out}
use Rattle.bmc_core.specs.declared.step.ServeOutcome.{ServeOutcome}
use Rattle.bmc_core.specs.declared.step.ServeOutcome.TheVariants.{CarriedOut, NothingAsked}
use Rattle.bmc_core.specs.declared.ipmb_port.IpmbPort.{IpmbPort}
use Rattle.bmc_core.specs.declared.smbus_port.SmbusPort.{SmbusPort}
use Rattle.bmc_core.specs.declared.port.Port.TheVariants.{Ipmb, Smbus}
use Rattle.bmc_core.specs.declared.port.Pending.TheVariants as pending
use Rattle.bmc_core.specs.IpmbServed as ipmb
use Rattle.bmc_core.specs.SmbusServed as smbus
use Rattle.bmc_core.specs.Port.{ServesFrameBy}

module _ {K E : Type 0} (carries : Asked → Answered → K → Type 0) (refuses : E → K → Type 0) (bytes : List ℕ) (before : K) where
  pub of_ipmb : (port next : IpmbPort) (out : Out) (after : K) (result : Result ServeOutcome E) → ipmb.ServesFrameBy carries refuses port bytes before result next out after
      → ServesFrameBy carries refuses (Ipmb port) bytes before result (Ipmb next) out after
  of_ipmb port next out after (Ok CarriedOut) done = record {
    between = Ipmb done.between;
    heard = done.heard;
    pending = pending.Ipmb done.pending;
    answered = done.answered;
    asks = done.asks;
    carried = done.carried;
    replied = done.replied;
  }
  of_ipmb port next out after (Ok NothingAsked) done = done
  of_ipmb port next out after (Err why) done = ((pending.Ipmb done.0.0, done.0.1), done.1)

  pub of_smbus : (port next : SmbusPort) (out : Out) (after : K) (result : Result ServeOutcome E) → smbus.ServesFrameBy carries refuses port bytes before result next out after
      → ServesFrameBy carries refuses (Smbus port) bytes before result (Smbus next) out after
  of_smbus port next out after (Ok CarriedOut) done = record {
    between = Smbus done.between;
    heard = done.heard;
    pending = pending.Smbus done.pending;
    answered = done.answered;
    asks = done.asks;
    carried = done.carried;
    replied = done.replied;
  }
  of_smbus port next out after (Ok NothingAsked) done = done
  of_smbus port next out after (Err why) done = ((pending.Smbus done.0.0, done.0.1), done.1)
