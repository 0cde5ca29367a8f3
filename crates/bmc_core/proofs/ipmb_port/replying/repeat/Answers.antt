use Rattle.std.proofs.Common.{rules, ◌≡◌, ℕ, List, [], ◌∷◌, sym, ◌∙◌, ap, subst}
use Rattle.std.specs.Prelude.{slice_index}
use Rattle.ipmb_frame.specs.declared.message.Header.{Header}
use Rattle.bmc_core.specs.Outs.{sends}
use Rattle.bmc_core.specs.IpmbShown.{HasUnits}
use Rattle.bmc_core.proofs.IpmbRepeats.{repeat_is}
use Rattle.bmc_core.proofs.ipmb_port.replying.repeat.Goals as goal

pub returns-then-byte_at-byte : goal.returns-then-byte_at-byte
returns-then-byte_at-byte c r head a =
    let kept : List ℕ = c.args.kept.now in
    let at : slice_index kept 3 ≡ r.header.responder.address =
    sym c.byte_at.ensures ∙ c.if-byte_at-byte.true ∙ c.byte.ensures.value ∙ ap (λ (h : Header). h.responder.address) (sym head) in
    let is = repeat_is r kept (subst (λ (h : Header). HasUnits h) (sym head) c.requires.units) a at in
    ((search rules) ∙ ap (λ (xs : List ℕ). sends (xs ∷ []) c.args.out.now.done) is.0, is.1)
