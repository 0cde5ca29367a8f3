use Rattle.std.proofs.Common.{◌≡◌, Some, List, ℕ, [], ◌∷◌, refl, sym, ◌∙◌, ap, subst, true, false}
use Rattle.model_bus.specs.Request.{Request as Asking}
use Rattle.model_bus.specs.Numbering.{is_above}
use Rattle.model_bus.specs.Carried.{Outcome, Repeats, outcome}
use Rattle.bmc_core.specs.Heard.{outcome_of_found}
use Rattle.bmc_core.specs.declared.out.Disposition.TheVariants as done
use Rattle.bmc_core.specs.Outs.{sends}
use Rattle.bmc_core.specs.Bytes.{heard_in}
use Rattle.bmc_core.specs.PortSteps.{response_after}
use Rattle.bmc_core.specs.IpmbShown.{reading, whole, IsKeptResponse, IsSent, response, response_frame, IsSettled}
use Rattle.bmc_core.proofs.OwnBytes.{response_read}
use Rattle.bmc_core.proofs.IpmbRepeats.{found_answers}
use Rattle.bmc_core.proofs.ipmb_port.replying.settle.Goals as goal

pub returns-in-Repeats-clause-settles : goal.returns-in-Repeats-clause-settles
returns-in-Repeats-clause-settles c p of =
    let r = c.args.request.now in
    let kept : List ℕ = c.in-Repeats.kept in
    let same = c.kept-heard.ensures.is in
    let found : outcome (is_above 64) (heard_in r) of.frames.log ≡ Repeats kept =
    ap (λ (q : Asking). outcome (is_above 64) q of.frames.log) (sym same)
    ∙ sym (ap (outcome_of_found whole) (sym c.in-Repeats.is) ∙ c.find.ensures whole of.frames.log of.frames.keeps) in
    subst (λ (o : Outcome). IsSettled r o c.repeat.new.out true)
    (ap (outcome_of_found reading) (sym c.in-Repeats.is) ∙ c.find.ensures reading p.log of.keeps ∙ ap (λ (q : Asking). outcome (is_above 64) q p.log) same) (
      refl,
      subst (λ (kept : List ℕ). IsSent (response_after r (Some (reading.reply kept))) done.Repeated c.repeat.new.out) c.as_slice.ensures.value
          (c.repeat.ensures r (sym c.header.ensures) (subst (λ (kept : List ℕ). IsKeptResponse (record { request = heard_in r; reply = kept })) (sym c.as_slice.ensures.value) (found_answers (heard_in r) of.frames.log kept found of.frames.answered))),
    )

pub returns-in-Busy-clause-settles : goal.returns-in-Busy-clause-settles
returns-in-Busy-clause-settles c p of =
    let r = c.args.request.now in
    let head = c.header-in-Busy.ensures in
    subst (λ (o : Outcome). IsSettled r o c.send.new.out true)
    (ap (outcome_of_found reading) (sym c.in-Busy.is) ∙ c.find.ensures reading p.log of.keeps ∙ ap (λ (q : Asking). outcome (is_above 64) q p.log) c.kept-heard.ensures.is) (
      refl,
      (c.send.ensures.sent ∙ (λ i. sends (response_frame (head i) (c.value.ensures.value i) [] ∷ []) done.Busy), response_read _ _ _ c.send.ensures.read (λ i. response (head i) (c.value.ensures.value i) [])),
    )

pub returns-in-New-clause-settles : goal.returns-in-New-clause-settles
returns-in-New-clause-settles c p of =
    subst (λ (o : Outcome). IsSettled c.args.request.now o c.args.out.now false)
    (ap (outcome_of_found reading) (sym c.in-New.is) ∙ c.find.ensures reading p.log of.keeps ∙ ap (λ (q : Asking). outcome (is_above 64) q p.log) c.kept-heard.ensures.is) refl

pub returns-in-New-clause-fresh : goal.returns-in-New-clause-fresh
returns-in-New-clause-fresh c is log keeps =
    ap (λ (q : Asking). outcome (is_above 64) q log) (sym c.kept-heard.ensures.is) ∙ sym (c.find.ensures whole log keeps) ∙ ap (outcome_of_found whole) c.in-New.is
