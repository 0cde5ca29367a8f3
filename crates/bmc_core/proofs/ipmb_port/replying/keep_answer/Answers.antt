use Rattle.std.proofs.Common.{ℕ, List, refl, subst}
use Rattle.ipmb_frame.specs.declared.message.Header.{Header}
use Rattle.ipmb_frame.specs.Grammar.{IsResponse}
use Rattle.bmc_core.specs.IpmbShown.{response, response_giving}
use Rattle.bmc_core.proofs.OwnBytes.{response_read}
use Rattle.bmc_core.proofs.IpmbFrames.{carried_of}
use Rattle.bmc_core.proofs.ipmb_port.replying.keep_answer.Goals as goal

pub returns-clause-kept : goal.returns-clause-kept
returns-clause-kept c =
    let r = c.args.request.now in
    let a = c.args.answered.now in
    let frame = c.write_response_into.new.frame in
    let is : IsResponse (response_giving r a) frame =
    subst (λ (h : Header). IsResponse (response h a.code a.body) frame) c.header.ensures
    (subst (λ (body : List ℕ). IsResponse (response c.header.result.now a.code body) frame) c.as_slice.ensures.value c.write_response_into.ensures) in
    carried_of c.args.windows.now c.keep.new.self c.kept-heard.result r a frame _ c.kept-heard.ensures.is is c.as_slice-in-len1.ensures.value c.keep.ensures.carried

pub returns-clause-read : goal.returns-clause-read
returns-clause-read c =
    let r = c.args.request.now in
    let a = c.args.answered.now in
    let frame = c.write_response_into.new.frame in
    let is : IsResponse (response_giving r a) frame =
    subst (λ (h : Header). IsResponse (response h a.code a.body) frame) c.header.ensures
    (subst (λ (body : List ℕ). IsResponse (response c.header.result.now a.code body) frame) c.as_slice.ensures.value c.write_response_into.ensures) in
    response_read _ _ _ is refl
