use Rattle.std.proofs.Common.{◌≡◌, ℕ, List, sym, subst}
use Rattle.record_base.specs.declared.message.Asked.TheVariants as asked
use Rattle.bmc_board.specs.Request.{asked_of, asked_by, requester}
use Rattle.bmc_board.specs.declared.asked_ref.AskedRef.{AskedRef}
use Rattle.bmc_board.specs.Asking.{as_asked, data_of}
use Rattle.bmc_board.proofs.asked_ref.AskedRef.command.Goals as goal

pub returns-in-Ipmi : goal.returns-in-Ipmi
returns-in-Ipmi c =
    let a = c.in-Ipmi in
    subst (λ (x : AskedRef). asked_of (requester (as_asked x)) c.read_ipmi.result (data_of x) ≡ asked_by (as_asked x)) (sym a.is)
    (subst (λ (body : List ℕ). asked_of a.from c.read_ipmi.result body ≡ asked_by (asked.Ipmi a.from a.net_fn a.lun a.command body)) c.as_slice.ensures.value (c.read_ipmi.ensures a.from))

pub returns-in-Pldm : goal.returns-in-Pldm
returns-in-Pldm c =
    let a = c.in-Pldm in
    subst (λ (x : AskedRef). asked_of (requester (as_asked x)) c.read_pldm.result (data_of x) ≡ asked_by (as_asked x)) (sym a.is)
    (subst (λ (body : List ℕ). asked_of a.from c.read_pldm.result body ≡ asked_by (asked.Pldm a.from a.kind a.command body)) c.as_slice-in-Pldm.ensures.value (c.read_pldm.ensures a.from))
