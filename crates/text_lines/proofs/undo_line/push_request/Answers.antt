use Rattle.std.proofs.Common.{ap}
use Rattle.undo_plans.specs.Requests.{meant}
use Rattle.text_lines.proofs.UndoLines.{ipmb_written, smbus_written}
use Rattle.text_lines.proofs.undo_line.push_request.Goals as goal

pub returns-in-Ipmi-clause-lines : goal.returns-in-Ipmi-clause-lines
returns-in-Ipmi-clause-lines c =
    ipmb_written (meant c.args.request.now) _ _ _ _ _ c.number.result c.as_slice.result.now (ap meant c.in-Ipmi.is) c.number.ensures.value c.as_slice.ensures.value c.number.ensures.below c.number.ensures.even c.as_slice.ensures.fits c.push_line.ensures.bytes

pub returns-in-Pldm-clause-lines : goal.returns-in-Pldm-clause-lines
returns-in-Pldm-clause-lines c =
    smbus_written (meant c.args.request.now) _ _ _ _ c.number-in-Pldm.result c.as_slice-in-Pldm.result.now (ap meant c.in-Pldm.is) c.number-in-Pldm.ensures.value c.as_slice-in-Pldm.ensures.value c.number-in-Pldm.ensures.below c.in-Pldm.request.fits c.push_line-in-Pldm.ensures.bytes
