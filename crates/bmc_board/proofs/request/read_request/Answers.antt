use Rattle.std.proofs.Common.{sym, ap, ◌∙◌}
use Rattle.bmc_board.specs.Request.{asked_of, asked_by, requester}
use Rattle.record_base.specs.declared.message.Asked.TheVariants.{Ipmi, Pldm}
use Rattle.bmc_board.proofs.request.read_request.Goals as goal

pub returns-in-Ipmi : goal.returns-in-Ipmi
returns-in-Ipmi c =
    ap (λ a. asked_of (requester a) c.read_ipmi.result c.as_slice-body.result.now) c.in-Ipmi.is
    ∙ c.read_ipmi.ensures c.in-Ipmi.from
    ∙ ap (λ body. asked_by (Ipmi c.in-Ipmi.from c.in-Ipmi.net_fn c.in-Ipmi.lun c.in-Ipmi.command body)) c.as_slice-body.ensures.value
    ∙ sym (ap asked_by c.in-Ipmi.is)

pub returns-in-Pldm : goal.returns-in-Pldm
returns-in-Pldm c =
    ap (λ a. asked_of (requester a) c.read_pldm.result c.as_slice-body-in-Pldm.result.now) c.in-Pldm.is
    ∙ c.read_pldm.ensures c.in-Pldm.from
    ∙ ap (λ body. asked_by (Pldm c.in-Pldm.from c.in-Pldm.kind c.in-Pldm.command body)) c.as_slice-body-in-Pldm.ensures.value
    ∙ sym (ap asked_by c.in-Pldm.is)
