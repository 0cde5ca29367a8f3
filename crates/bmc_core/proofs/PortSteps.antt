-- What a port of either bus does in two steps, with the board between, is what it does in one.
use Rattle.std.proofs.Common.{◌≡◌, ℕ, List, [], ◌∷◌, Some, None, Result, refl, sym, subst}
use Rattle.two_wire.specs.declared.Bus.TheVariants as on
use Rattle.ipmb_frame.specs.declared.message.Request.{Request}
use Rattle.cfg_records.specs.declared.board_file.BoardFile.{BoardFile}
use Rattle.model_bus.specs.Carried.{Outcome, Repeats, IsBusy, IsNew}
use Rattle.bmc_board.specs.State.{State}
use Rattle.bmc_board.specs.Answer.{answer_of}
use Rattle.bmc_core.specs.PortSteps.{PortState, StepResult, left_by, asked_in, hears_request}
use Rattle.bmc_core.specs.declared.out.Out.{Out}
use Rattle.bmc_core.specs.declared.out.Reason.{Reason}
use Rattle.bmc_core.specs.declared.out.Reason.TheVariants as reason
use Rattle.bmc_core.specs.declared.step.Step.TheVariants as step
use Rattle.bmc_core.specs.declared.ipmb_port.IpmbPort.{IpmbPort}
use Rattle.bmc_core.specs.declared.smbus_port.SmbusPort.{SmbusPort}
use Rattle.bmc_core.specs.declared.smbus_port.pending.SmbusPending.{SmbusPending}
use Rattle.bmc_core.specs.declared.port.Port.{Port}
use Rattle.bmc_core.specs.declared.port.Port.TheVariants.{Ipmb, Smbus}
use Rattle.bmc_core.specs.declared.port.Pending.{Pending}
use Rattle.bmc_core.specs.declared.port.Pending.TheVariants as pending
use Rattle.bmc_core.specs.Outs.{done_by, ReadBack}
use Rattle.bmc_core.specs.IpmbShown as ipmb
use Rattle.bmc_core.specs.SmbusShown as smbus
use Rattle.bmc_core.specs.SmbusHeard.{InMessage, HeardMessage, Ignored, Waiting, Control, Asks, taken, heard_in, asked_of as message_asked, asks_of, found, asks, done_of}
use Rattle.bmc_core.specs.Port.{asked_of, PortStep, IsStep, AnswerStep, IsHeardThenAnswered}
use Rattle.bmc_core.proofs.IpmbDeeds.{step_new, settled_heard}
use Rattle.bmc_core.proofs.IpmbLists.{heard_then_answered as request_heard_then_answered}
use Rattle.bmc_core.proofs.SmbusLists.{new_one}
use Rattle.bmc_core.proofs.SmbusPorts.{answer_for, left_after, deed_of, hears_bytes, left_new, does}

-- ---- on IPMB

module _ (setup : BoardFile) (before : State) where
  pub ipmb_settled : (port next : IpmbPort) (bytes : List ℕ) (out : Out) → ipmb.IsStep port bytes next out step.Done → ipmb.PortStep setup port before bytes out next before
  ipmb_settled port next bytes out is p shows heard at =
      settled_heard setup before p heard next out (is.steps p shows heard at) (subst (λ (x : IpmbPort). ipmb.Represents x p) (sym is.stays) shows)

  answered_request : (p : PortState) (r : Request) (next : IpmbPort) (out : Out) → let given = answer_of setup before (asked_in r) in
      ipmb.outcome_at p r ≡ IsNew → ipmb.Represents next (ipmb.after p r given.0) → out ≡ ipmb.out_after p r given.0 → ReadBack on.Ipmb (ipmb.response_at p r given.0 ∷ [])
      → ipmb.IsStepResult (hears_request setup p before r) (done_by (ipmb.outcome_at p r)) next given.1 out
  answered_request p r next out is shows sent read =
      subst (λ (d : StepResult). ipmb.IsStepResult d (done_by (ipmb.outcome_at p r)) next (answer_of setup before (asked_in r)).1 out)
      (sym ((request_heard_then_answered setup p before r).answered is)) (record { shows = shows; left = refl; sent = sent; read = read })

  asked_heard : (p : PortState) (heard : Result Request Reason) (q : Request) (next : IpmbPort) (first out : Out) → let given = answer_of setup before (asked_in q) in
      ipmb.AskingStep p heard (step.Ask q) first → ipmb.Represents next (ipmb.after p q given.0) → out ≡ ipmb.out_after p q given.0 → ReadBack on.Ipmb (ipmb.response_at p q given.0 ∷ [])
      → ipmb.IsStepResult (ipmb.step_result_of setup p before heard) (ipmb.done_of p heard) next given.1 out
  asked_heard p heard q next first out is shows sent read =
      let so = step_new p heard q first is in
      subst (λ (h : Result Request Reason). ipmb.IsStepResult (ipmb.step_result_of setup p before h) (ipmb.done_of p h) next (answer_of setup before (asked_in q)).1 out) (sym so.0)
      (answered_request p q next out so.1 shows sent read)

  pub ipmb_asked : (port between next : IpmbPort) (bytes : List ℕ) (first out : Out) (q : Request) → let given = answer_of setup before (asked_in q) in
      ipmb.IsStep port bytes between first (step.Ask q) → ipmb.AnswerStep between q given.0 next out → ipmb.PortStep setup port before bytes out next given.1
  ipmb_asked port between next bytes first out q is answers p shows heard at =
      let shown : ipmb.Represents between p = subst (λ (x : IpmbPort). ipmb.Represents x p) (sym is.stays) shows in
      asked_heard p heard q next first out (is.steps p shows heard at) (answers.shows p shown) (answers.sent p shown) (answers.read p shown)

-- ---- on the System Management Bus

-- a request that is asked is what was heard, and is new
pub is_asked : (port : PortState) (h : HeardMessage) (m : InMessage) → asks port h ≡ Some m → (h ≡ Asks m) × (found port m ≡ IsNew)
is_asked port (Ignored why) m is = absurd cc
is_asked port Waiting m is = absurd cc
is_asked port (Control e r) m is = absurd cc
is_asked port (Asks n) m is =
    let so = new_one n m (found port n) is in
    let same : Asks n ≡ Asks m = λ i. Asks (so.1 i) in
    (same, subst (λ (x : InMessage). found port x ≡ IsNew) so.1 so.0)

none_left : (before after : State) (m : InMessage) (o : Outcome) → asks_of m o ≡ None → left_by o after before ≡ before
none_left before after m (Repeats reply) is = refl
none_left before after m IsBusy is = refl
none_left before after m IsNew is = absurd cc

module _ (setup : BoardFile) (before : State) where
  left_none : (port : PortState) (h : HeardMessage) → asks port h ≡ None → left_after setup before port h ≡ before
  left_none port (Ignored why) is = refl
  left_none port Waiting is = refl
  left_none port (Control e r) is = refl
  left_none port (Asks m) is = none_left before (answer_of setup before (message_asked m)).1 m (found port m) is

  pub done_step : (next : SmbusPort) (out : Out) (port : PortState) (h : HeardMessage) → smbus.IsStep next out step.Done port h
      → smbus.IsStepResult next out before (deed_of setup before port h) (done_of port h)
  done_step next out port h is = does setup before next out before port h (is.1 (answer_for setup before h)) (left_none port h is.0)

  pub smbus_settled : (port next : SmbusPort) (bytes : List ℕ) (out : Out) → ((p : PortState) → smbus.Represents port p → smbus.HearingOf p bytes (smbus.IsStep next out step.Done))
      → (p : PortState) → smbus.Represents port p → smbus.HearsBytes setup p before bytes next out before
  smbus_settled port next bytes out hears p shows =
      let h = hears p shows in
      hears_bytes setup before p bytes next out before (record {
        faulty = λ fault is. done_step next out p (Ignored (reason.Packet fault)) (h.faulty fault is);
        packet = λ q is. done_step next out (taken p q) (heard_in p q) (h.packet q is);
      })

  ask_step : (between next : SmbusPort) (first out : Out) (asked : SmbusPending) (port : PortState) (h : HeardMessage) → let given = answer_of setup before (message_asked (smbus.request_in asked)) in
      smbus.IsStep between first (step.Ask asked) port h → ((p : PortState) → smbus.Represents between p → smbus.HasMessageEffect next out p (Asks (smbus.request_in asked)) given.0)
      → smbus.IsStepResult next out given.1 (deed_of setup before port h) (done_of port h)
  ask_step between next first out asked port h is answers =
      let m : InMessage = smbus.request_in asked in
      let so = is_asked port h m is.0 in
      subst (λ (x : HeardMessage). smbus.IsStepResult next out (answer_of setup before (message_asked m)).1 (deed_of setup before port x) (done_of port x)) (sym so.0)
      (does setup before next out (answer_of setup before (message_asked m)).1 port (Asks m) (answers port is.1) (left_new setup before port m so.1))

  pub smbus_asked : (port between next : SmbusPort) (bytes : List ℕ) (first out : Out) (asked : SmbusPending) → let given = answer_of setup before (message_asked (smbus.request_in asked)) in
      ((p : PortState) → smbus.Represents port p → smbus.HearingOf p bytes (smbus.IsStep between first (step.Ask asked)))
      → ((p : PortState) → smbus.Represents between p → smbus.HasMessageEffect next out p (Asks (smbus.request_in asked)) given.0)
      → (p : PortState) → smbus.Represents port p → smbus.HearsBytes setup p before bytes next out given.1
  smbus_asked port between next bytes first out asked hears answers p shows =
      let h = hears p shows in
      hears_bytes setup before p bytes next out (answer_of setup before (message_asked (smbus.request_in asked))).1 (record {
        faulty = λ fault is. ask_step between next first out asked p (Ignored (reason.Packet fault)) (h.faulty fault is) answers;
        packet = λ q is. ask_step between next first out asked (taken p q) (heard_in p q) (h.packet q is) answers;
      })

-- ---- on either

module _ (setup : BoardFile) (before : State) (bytes : List ℕ) where
  settled_at : (port next : Port) (out : Out) → IsStep port bytes next out step.Done → PortStep setup port before bytes out next before
  settled_at (Ipmb port) (Ipmb next) out is = ipmb_settled setup before port next bytes out is
  settled_at (Ipmb port) (Smbus next) out is = absurd is
  settled_at (Smbus port) (Ipmb next) out is = absurd is
  settled_at (Smbus port) (Smbus next) out is = smbus_settled setup before port next bytes out is

  asked_at : (port between next : Port) (first out : Out) (asked : Pending) → IsStep port bytes between first (step.Ask asked)
      → let given = answer_of setup before (asked_of asked) in AnswerStep between asked given.0 next out → PortStep setup port before bytes out next given.1
  asked_at (Ipmb port) (Ipmb between) (Ipmb next) first out (pending.Ipmb r) is answers = ipmb_asked setup before port between next bytes first out r is answers
  asked_at (Ipmb port) (Ipmb between) (Smbus next) first out (pending.Ipmb r) is answers = absurd answers
  asked_at (Ipmb port) (Ipmb between) next first out (pending.Smbus m) is answers = absurd is
  asked_at (Ipmb port) (Smbus between) next first out asked is answers = absurd is
  asked_at (Smbus port) (Ipmb between) next first out asked is answers = absurd is
  asked_at (Smbus port) (Smbus between) next first out (pending.Ipmb r) is answers = absurd is
  asked_at (Smbus port) (Smbus between) (Ipmb next) first out (pending.Smbus m) is answers = absurd answers
  asked_at (Smbus port) (Smbus between) (Smbus next) first out (pending.Smbus m) is answers = smbus_asked setup before port between next bytes first out m is answers

pub heard_then_answered : (setup : BoardFile) (port : Port) (before : State) (bytes : List ℕ) → IsHeardThenAnswered setup port before bytes
heard_then_answered setup port before bytes = record {
  answered = λ between next first out asked is answers. asked_at setup before bytes port between next first out asked is answers;
  settled = λ next out is. settled_at setup before bytes port next out is;
}
