use Rattle.std.proofs.Common.{◌≡◌, Bool, true, subst}
use Rattle.ipmb_frame.specs.declared.message.Request.{Request}
use Rattle.model_bus.specs.Carried.{IsNew}
use Rattle.bmc_core.specs.PortSteps.{PortState}
use Rattle.bmc_core.specs.declared.ipmb_port.IpmbPort.{IpmbPort}
use Rattle.bmc_core.specs.IpmbShown.{Represents, outcome_at, IsSettled, AnswerStep}
use Rattle.bmc_core.proofs.IpmbDeeds.{answered_settled, answered_new, is_new}
use Rattle.bmc_core.proofs.ipmb_port.IpmbPort.answer.Goals as goal

pub returns-then-settle : goal.returns-then-settle
returns-then-settle c =
    let port = c.args.self.now in
    let r : Request = c.request-request.result in
    let out = c.settle.new.out in
    let settled : (p : PortState) → Represents port p → IsSettled r (outcome_at p r) out true =
    λ p shows. subst (λ (b : Bool). IsSettled r (outcome_at p r) out b) c.if-settle.true (c.settle.ensures.settles p shows.log) in
    let answers = λ (p : PortState) (shows : Represents port p). answered_settled p r c.args.answered.now port out (settled p shows) shows in
    subst (λ (q : Request). AnswerStep port q c.args.answered.now port out) c.request-request.ensures
    (record { shows = λ p shows. (answers p shows).0; sent = λ p shows. (answers p shows).1; read = λ p shows. (answers p shows).2 })

pub returns : goal.returns
returns c =
    let port = c.args.self.now in
    let r : Request = c.request-request.result in
    let a = c.args.answered.now in
    let out = c.keep_answer.new.out in
    let next : IpmbPort = record { wire = port.wire; windows = c.keep_answer.new.windows } in
    let new : (p : PortState) → Represents port p → outcome_at p r ≡ IsNew =
    λ p shows. is_new r (outcome_at p r) c.settle.new.out (subst (λ (b : Bool). IsSettled r (outcome_at p r) c.settle.new.out b) c.if-settle.false (c.settle.ensures.settles p shows.log)) in
    let answers = λ (p : PortState) (shows : Represents port p).
    answered_new p r a next out (new p shows)
    (record { wire = shows.wire; log = c.keep_answer.ensures.kept p shows.log (new p shows) (c.settle.ensures.fresh c.if-settle.false) }) c.keep_answer.ensures.sent c.keep_answer.ensures.read in
    subst (λ (q : Request). AnswerStep port q a next out) c.request-request.ensures
    (record { shows = λ p shows. (answers p shows).0; sent = λ p shows. (answers p shows).1; read = λ p shows. (answers p shows).2 })
