-- A port on the System Management Bus that has a request carried out hears it, and then gets the answer.
use Rattle.std.proofs.Common.{◌≡◌, ℕ, List, Option, Some, None, Result, Ok, Err, refl, sym, ◌∙◌, ap, subst}
use Rattle.mctp_net.specs.declared.packet.Packet.{Packet}
use Rattle.mctp_net.specs.Assembly.{message_of}
use Rattle.mctp_net.specs.Places.{seen}
use Rattle.record_base.specs.declared.message.Asked.{Asked}
use Rattle.record_base.specs.declared.message.Answered.{Answered}
use Rattle.model_bus.specs.Carried.{IsNew}
use Rattle.bmc_board.specs.declared.board.Board.{Board}
use Rattle.bmc_board.specs.State.{State, state_of}
use Rattle.bmc_board.specs.Answer.{AnswerAndState}
use Rattle.bmc_board.specs.Serves.{given_by}
use Rattle.bmc_board.specs.Carrying.{IsOneAnswer}
use Rattle.bmc_core.specs.Keeps.{HeldWindows}
use Rattle.bmc_core.specs.PortSteps.{PortState}
use Rattle.bmc_core.specs.declared.out.Out.{Out}
use Rattle.bmc_core.specs.declared.out.Disposition.TheVariants as what
use Rattle.bmc_core.specs.declared.step.ServeOutcome.{ServeOutcome}
use Rattle.bmc_core.specs.declared.step.ServeOutcome.TheVariants.{CarriedOut, NothingAsked}
use Rattle.bmc_core.specs.declared.step.Step.TheVariants as step
use Rattle.bmc_core.specs.declared.port.At.{At}
use Rattle.bmc_core.specs.declared.smbus_port.SmbusPort.{SmbusPort}
use Rattle.bmc_core.specs.Outs.{sends}
use Rattle.bmc_core.specs.SmbusHeard.{InMessage, HeardMessage, message_heard, asked_of, found, kept_with}
use Rattle.bmc_core.specs.SmbusShown.{WindowsHold, Represents, ForPortsAt, HearingOf, HearsBytes, IsAskedRequest, IsStep, AnswerStep, MessageRead, KeepsNewReply, KeepsReply, ReplyPackets, RepliesWith, frames_from, request_in, pending_of}
use Rattle.bmc_core.specs.Served.{HasCarried}
use Rattle.bmc_core.specs.SmbusServed.{IsAnsweredBy, ServesFrameBy}
use Rattle.bmc_core.proofs.SmbusPorts.{hearing_map, ended, message_is, parts_at, answered}
use Rattle.bmc_core.proofs.PortSteps.{is_asked, smbus_settled, smbus_asked}

-- what the port `read` shows, where it has read bytes: all but what waits is as it was
abbrev pub ReadBy : SmbusPort → SmbusPort → List ℕ → Out → Option Packet → Type 0
ReadBy port now bytes out packet = ForPortsAt port.wire port.endpoint (seen port.assembler) (λ at. MessageRead at bytes (seen now.assembler) out packet)

-- what was heard in a message, at a port that now is this one
abbrev pub HeardBy : SmbusPort → SmbusPort → Packet → List ℕ → Out → Option InMessage → Type 0
HeardBy port now packet body out request =
    (p : PortState) (next : SmbusPort) → p.wire ≡ port.wire → p.eid ≡ port.endpoint → WindowsHold port.windows p.log → Represents next (record p { eid = now.endpoint })
    → IsAskedRequest next out request p (message_heard (record { envelope = packet.envelope; body = body }))

-- a new request was carried out and kept, and the port sends its reply from a place
pub record IsCarriedOut {K : Type 0} (carries : Asked → Answered → K → Type 0) (at : At) (old : HeldWindows) (m : InMessage) (after : K)
    (new : HeldWindows) (out : Out) : Type 0 where
  pub answered : Answered
  pub carried : carries (asked_of m) answered after
  pub kept : KeepsNewReply old (kept_with m answered) new
  pub sent : RepliesWith at m answered out

-- the reply that was made, kept and sent is that of the answer
pub carried_out : {K : Type 0} (carries : Asked → Answered → K → Type 0) (at : At) (old new : HeldWindows) (m : InMessage)
    (reply : List ℕ) (after : K) (out : Out) → IsAnsweredBy carries m reply after → KeepsReply old m reply new
    → ReplyPackets at m.envelope reply what.Answered out → IsCarriedOut carries at old m after new out
carried_out carries at old new m reply after out done kept sent = record {
  answered = done.answered;
  carried = done.carried;
  kept = subst (λ (xs : List ℕ). KeepsReply old m xs new) done.reply_is kept;
  sent = subst (λ (xs : List ℕ). ReplyPackets at m.envelope xs what.Answered out) done.reply_is sent;
}

module _ (port now : SmbusPort) (bytes : List ℕ) where
  -- no packet ended a message
  pub unread : (out : Out) → ReadBy port now bytes out None → (p : PortState) → Represents port p
      → HearingOf p bytes (IsStep (record port { assembler = now.assembler }) out step.Done)
  unread out read p shows =
      let left = seen now.assembler in
      let next : SmbusPort = record port { assembler = now.assembler } in
      hearing_map p bytes _ (IsStep next out step.Done)
      (λ at h is. subst (λ (x : PortState). IsStep next out step.Done x h) (sym is.0)
      (ended next out (record p { kept = left }) h p.eid is.1 (record { wire = shows.wire; eid = shows.eid; kept = refl; log = shows.log }))) (read p shows.wire shows.eid shows.kept)

module _ (port now : SmbusPort) (bytes : List ℕ) (packet : Packet) (body : List ℕ) (first : Out) (read : ReadBy port now bytes first (Some packet))
    (body_is : body ≡ (message_of (seen now.assembler) packet).body) where
  abbrev heard_port : SmbusPort
  heard_port = record port { assembler = now.assembler; endpoint = now.endpoint }

  -- a message was heard, and this given
  given_so : (out : Out) (request : Option InMessage) → HeardBy port now packet body out request → (p : PortState) → Represents port p
      → HearingOf p bytes (λ at h. (at ≡ record p { kept = seen now.assembler }) × IsAskedRequest heard_port out request at h)
  given_so out request heard p shows =
      let left = seen now.assembler in
      let at : PortState = record p { kept = left } in
      let given = heard at heard_port shows.wire shows.eid shows.log (record { wire = shows.wire; eid = refl; kept = refl; log = shows.log }) in
      hearing_map p bytes _ (λ now h. (now ≡ at) × IsAskedRequest heard_port out request now h)
      (λ x h is. (
        is.0,
        subst (λ (x : PortState). IsAskedRequest heard_port out request x h) (sym is.0)
            (subst (λ (k : HeardMessage). IsAskedRequest heard_port out request at k) (message_is left packet body body_is ∙ sym is.1) given),
      )) (read p shows.wire shows.eid shows.kept)

  -- nothing was asked
  pub unasked : (out : Out) → HeardBy port now packet body out None → (p : PortState) → Represents port p → HearingOf p bytes (IsStep heard_port out step.Done)
  unasked out heard p shows = hearing_map p bytes _ (IsStep heard_port out step.Done) (λ x h is. is.1) (given_so out None heard p shows)

  -- a request was asked
  pub asked_so : (out : Out) (m : InMessage) → HeardBy port now packet body out (Some m) → (p : PortState) → Represents port p
      → HearingOf p bytes (IsStep heard_port out (step.Ask (pending_of m)))
  asked_so out m heard p shows = hearing_map p bytes _ (IsStep heard_port out (step.Ask (pending_of m))) (λ x h is. is.1) (given_so out (Some m) heard p shows)

  -- a new request that wasn't carried out was heard
  pub refused_so : (first out : Out) (m : InMessage) (next : SmbusPort) → HeardBy port now packet body first (Some m) → next.windows ≡ port.windows → (p : PortState) → Represents port p
      → HearingOf p bytes (IsStep (record heard_port { windows = next.windows; made = next.made }) out (step.Ask (pending_of m)))
  refused_so first out m next heard same p shows =
      hearing_map p bytes _ (IsStep (record heard_port { windows = next.windows; made = next.made }) out (step.Ask (pending_of m)))
      (λ x h is. (is.1.0, record { wire = is.1.1.wire; eid = is.1.1.eid; kept = is.1.1.kept; log = subst (λ (w : HeldWindows). WindowsHold w x.log) (sym same) is.1.1.log }))
      (given_so first (Some m) heard p shows)

  -- a new request that was carried out was heard, and then answered
  pub carried_so : {K : Type 0} (carries : Asked → Answered → K → Type 0) (heard : Out) (m : InMessage) (next : SmbusPort) (eid : ℕ) (out : Out) (after : K)
      → HeardBy port now packet body heard (Some m) → now.endpoint ≡ eid
      → IsCarriedOut carries (record { wire = port.wire; eid = eid }) port.windows m after next.windows out
      → HasCarried (λ between heard step. (p : PortState) → Represents port p → HearingOf p bytes (IsStep between heard step)) AnswerStep (λ q. asked_of (request_in q)) carries
      (record heard_port { windows = next.windows; made = next.made }) out after
  carried_so carries heard m next eid out after hears own done =
      let a : Answered = done.answered in
      let last : SmbusPort = record heard_port { windows = next.windows; made = next.made } in
      let is_new : (p : PortState) → Represents heard_port p → found p m ≡ IsNew =
      λ p shows. (is_asked (record p { eid = port.endpoint }) _ m
      (hears (record p { eid = port.endpoint }) heard_port shows.wire refl shows.log (record { wire = shows.wire; eid = refl; kept = shows.kept; log = shows.log })).0).1 in
      record {
        between = heard_port;
        heard = heard;
        pending = pending_of m;
        answered = a;
        asks = asked_so heard m hears;
        carried = done.carried;
        replied = λ p shows.
            let at_eid : p.eid ≡ eid = shows.eid ∙ own in
            answered last out p m a (is_new p shows)
            (record { wire = shows.wire; eid = shows.eid; kept = shows.kept; log = done.kept p.log shows.log (is_new p shows) })
            (done.sent.sent ∙ (λ i. sends (frames_from (sym shows.wire i) (sym at_eid i) m.envelope (kept_with m a).reply) what.Answered))
            (parts_at p m.envelope (kept_with m a).reply port.wire eid shows.wire at_eid done.sent.read);
      }

-- a port that has a board alone carry requests out hears as one of that board
pub alone_hears : {S E : Type 0} {g h : _} (port next : SmbusPort) (bytes : List ℕ) (before after : Board S g h) (out : Out) (result : Result ServeOutcome E)
    → ServesFrameBy (λ asked answered now. IsOneAnswer before asked answered now) (λ (why : E) (now : Board S g h). ⊥) port bytes before result next out after
    → ((p : PortState) → Represents port p → HearsBytes before.setup p (state_of before) bytes next out (state_of after)) × (after.setup ≡ before.setup)
alone_hears port next bytes before after out (Ok CarriedOut) done =
    let given : AnswerAndState = given_by before (asked_of (request_in done.pending)) in
    let reply : done.answered ≡ given.0 = ap (λ (g : AnswerAndState). g.0) done.carried.answer in
    let left : state_of after ≡ given.1 = ap (λ (g : AnswerAndState). g.1) done.carried.answer in
    let answers : AnswerStep done.between done.pending given.0 next out = subst (λ (a : Answered). AnswerStep done.between done.pending a next out) reply done.replied in (
      λ p shows. subst (λ (now : State). HearsBytes before.setup p (state_of before) bytes next out now) (sym left)
          (smbus_asked before.setup (state_of before) port done.between next bytes done.heard out done.pending done.asks answers p shows),
      done.carried.setup,
    )
alone_hears {S} {E} {g} {h} port next bytes before after out (Ok NothingAsked) done = (
  λ p shows. subst (λ (now : Board S g h). HearsBytes before.setup p (state_of before) bytes next out (state_of now)) (sym done.1)
      (smbus_settled before.setup (state_of before) port next bytes out done.0 p shows),
  ap (λ (now : Board S g h). now.setup) done.1,
)
alone_hears port next bytes before after out (Err why) done = absurd done.1
