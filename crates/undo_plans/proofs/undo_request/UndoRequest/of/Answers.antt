use Rattle.std.proofs.Common.{sym, subst}
use Rattle.record_base.specs.declared.message.Asked.{Asked}
use Rattle.bios_attr.specs.EntryParts.{with_body}
use Rattle.undo_plans.specs.Fitting.{FitsMessages}
use Rattle.undo_plans.proofs.ShortData.{short_fits}
use Rattle.undo_plans.proofs.undo_request.UndoRequest.of.Goals as goal

pub with-requires-in-Pldm : goal.with-requires-in-Pldm
with-requires-in-Pldm c =
    subst (λ (a : Asked). FitsMessages (with_body a c.as_slice-in-Pldm.result.now)) (sym c.in-Pldm.is)
    (short_fits c.in-Pldm.from c.in-Pldm.kind c.in-Pldm.command c.as_slice-in-Pldm.result.now c.as_slice-in-Pldm.ensures.fits)
