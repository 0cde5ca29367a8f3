use Rattle.std.proofs.Common.{ap, refl}
use Rattle.undo_plans.specs.Requests.{meant}
use Rattle.text_journal.proofs.WrittenBytes.{ipmb_written, smbus_written}
use Rattle.text_journal.proofs.writing.push_request.Goals as goal

pub returns-in-Ipmi-clause-line : goal.returns-in-Ipmi-clause-line
returns-in-Ipmi-clause-line c =
    ipmb_written (meant c.args.request.now) _ _ _ _ _ c.number-function.result c.number-unit.result c.as_slice.result.now (ap meant c.in-Ipmi.is) c.number-function.ensures.value c.number-unit.ensures.value c.as_slice.ensures.value refl
    c.number-function.ensures.below c.number-function.ensures.even c.number-unit.ensures.below c.as_slice.ensures.fits c.push_headed.ensures.line

pub returns-in-Pldm-clause-line : goal.returns-in-Pldm-clause-line
returns-in-Pldm-clause-line c =
    smbus_written (meant c.args.request.now) _ _ _ _ c.number-kind.result c.as_slice-in-Pldm.result.now (ap meant c.in-Pldm.is) c.number-kind.ensures.value c.as_slice-in-Pldm.ensures.value refl c.number-kind.ensures.below
    c.in-Pldm.request.fits c.push_headed-in-Pldm.ensures.line
