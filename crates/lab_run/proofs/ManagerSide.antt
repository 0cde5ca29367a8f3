-- What the manager does in a lab, the manager of the model does.
use Rattle.std.proofs.Common.{◌≡◌, ℕ, Bool, true, false, List, ◌++◌, map, Option, Some, None, Ok, Err, refl, sym, ◌∙◌, ap, subst}
use Rattle.std.specs.Prelude.{slice_get}
use Rattle.std.proofs.lemmas.Bool.{true≢false}
use Rattle.two_wire.specs.declared.Bus.{Bus}
use Rattle.two_wire.specs.declared.Bus.TheVariants as bus
use Rattle.ipmb_frame.specs.declared.message.Request.{Request}
use Rattle.ipmb_frame.specs.declared.message.Response.{Response}
use Rattle.ipmb_frame.specs.declared.message.Msg.{Msg}
use Rattle.ipmb_frame.specs.declared.message.Msg.TheVariants as msg
use Rattle.ipmb_frame.specs.Grammar.{IsRequest, IsResponse}
use Rattle.ipmb_frame.proofs.Uniqueness.{message-one}
use Rattle.mctp_net.specs.declared.packet.Packet.{Packet}
use Rattle.mctp_net.specs.Grammar.{IsPacket}
use Rattle.cfg_records.specs.declared.board_file.BoardFile.{BoardFile}
use Rattle.undo_plans.specs.declared.names.Names.{Names}
use Rattle.model_bus.specs.Request.{idles_of}
use Rattle.lab_run.specs.declared.ages.FrameAge.{FrameAge}
use Rattle.bmc_core.specs.Values.{Value, Asks, Tells, Part, IsFrameOn}
use Rattle.model_lab.specs.ManagerSteps.{own_on, Sent as AllSent, ManagerState, ManagerStepResult, rests, hears_response, hears_packet, manager_hears}
use Rattle.model_lab.specs.Lab.{LabFrame, Lab as LabModel, idles_on, sends, call_does, returned}
use Rattle.undo_core.specs.declared.manager.Manager.{Manager}
use Rattle.undo_core.specs.declared.sending.Sent.{Sent}
use Rattle.undo_core.specs.declared.phase.WrongPhase.{WrongPhase}
use Rattle.undo_core.specs.Shown as manager
use Rattle.undo_core.specs.Shown.{IsSent, IsStepResult, IsCalled}
use Rattle.model_lab.specs.declared.way.Way.TheVariants as way
use Rattle.lab_run.specs.declared.frames.SentFrame.{SentFrame}
use Rattle.lab_run.specs.FramesShown.{sent_as}
use Rattle.model_lab.specs.Meaning.{lab_names}
use Rattle.model_lab.specs.Played.{plans}
use Rattle.lab_run.specs.declared.lab_state.Lab.{Lab}
use Rattle.lab_run.specs.Shown.{Represents, IsSentFrame, idles_in}
use Rattle.lab_run.proofs.Sent.{beside, none_beside, frames_shown}

-- the manager alone went on
module _ (file : BoardFile) (lab : Lab) (x : LabModel plans) (m : Manager) (d : ManagerState plans) where
  pub manager_shown : Represents file lab x → manager.Represents lab_names m d → Represents file (record lab { manager = m }) (record x { manager = d })
  manager_shown shows is = record {
    setup = shows.setup;
    board = shows.board;
    ipmb = shows.ipmb;
    smbus = shows.smbus;
    manager = is;
    named = shows.named;
    frames = shows.frames;
    idles = idles shows (is.is_named ∙ sym shows.manager.is_named);
  } where
    idles : Represents file lab x → d.names ≡ x.manager.names → (b : Bus) → idles_on plans b (record x { manager = d }) ≡ idles_in b lab.idles
    idles old same bus.Ipmb = ap (λ (n : Names). idles_of (own_on bus.Ipmb n) x.ipmb.log) same ∙ old.idles bus.Ipmb
    idles old same bus.Smbus = ap (λ (n : Names). idles_of (own_on bus.Smbus n) x.smbus.log) same ∙ old.idles bus.Smbus

-- ---- what it sends

pub sends_none : (s : Option AllSent) (x : LabModel plans) → IsSent None s → sends plans s x ≡ x
sends_none None x is = refl
sends_none (Some s) x is = absurd is

pub sends_some : (file : BoardFile) (lab : Lab) (x : LabModel plans) (r : Sent) (s : Option AllSent) (mark : FrameAge)
    → mark ≡ record { on = r.bus; request = r.request; idles = idles_in r.bus lab.idles } → Represents file lab x → IsSent (Some r) s
    → Represents file (record lab { frames = lab.frames ++ map (sent_as way.ToPort mark) r.frames.items }) (sends plans s x)
sends_some file lab x r None mark marked shows is = absurd is
sends_some file lab x r (Some s) mark marked shows is =
    let now : mark ≡ record { on = s.on; request = s.request; idles = idles_in s.on lab.idles } = marked ∙ (λ i. record { on = is.0 i; request = is.1 i; idles = idles_in (is.0 i) lab.idles }) in
    frames_shown file lab x s.on way.ToPort s.request mark s.values r.frames.items now shows is.2 is.3

-- what is sent leaves this lab, whichever lab the one with this manager shows
abbrev pub Sends : BoardFile → Lab → Manager → Option Sent → Lab → Type 0
Sends file old m sent new = (y : LabModel plans) (s : Option AllSent) → Represents file (record old { manager = m }) y → IsSent sent s → Represents file new (sends plans s y)

-- ---- calls

module _ (file : BoardFile) (old : Lab) (x : LabModel plans) (m : Manager) (shows : Represents file old x) where
  pub called_shown : (new : Lab) (sent : Option Sent) (o : Option (ManagerStepResult plans)) → IsCalled lab_names x.manager m (Ok sent) o → Sends file old m sent new
      → Represents file new (call_does plans o x)
  called_shown new sent None is then = absurd is
  called_shown new sent (Some d) is then = then (record x { manager = d.manager }) d.sent (manager_shown file old x m d.manager shows is.0) is.1

  pub refused_shown : (wrong : WrongPhase) (o : Option (ManagerStepResult plans)) → IsCalled lab_names x.manager m (Err wrong) o → Represents file (record old { manager = m }) (call_does plans o x)
  refused_shown wrong None is = manager_shown file old x m x.manager shows is
  refused_shown wrong (Some d) is = absurd is

-- ---- frames

-- no request is a response
abbrev is_request : Msg → Bool
is_request (msg.Request r) = true
is_request (msg.Response r) = false

not_both : (r : Request) (q : Response) (bytes : List ℕ) → IsRequest r bytes → IsResponse q bytes → ⊥
not_both r q bytes asks tells = true≢false (ap is_request (message-one (msg.Request r) (msg.Response q) bytes asks tells))

-- what a manager makes of the bytes of a frame
pub record Hearing (on : Bus) (bytes : List ℕ) (old new : Manager) (sent : Option Sent) : Type 0 where
  pub response : (r : Response) → on ≡ bus.Ipmb → IsResponse r bytes → (s : ManagerState plans) → manager.Represents lab_names old s → IsStepResult lab_names new sent (hears_response plans r s)
  pub packet : (p : Packet) → on ≡ bus.Smbus → IsPacket p bytes → (s : ManagerState plans) → manager.Represents lab_names old s → IsStepResult lab_names new sent (hears_packet plans p s)
  pub no_response : on ≡ bus.Ipmb → ((r : Response) → IsResponse r bytes → ⊥) → (new ≡ old) × (sent ≡ None)

-- so it hears the value that the frame is
hears_value : (on : Bus) (v : Value) (bytes : List ℕ) (old new : Manager) (sent : Option Sent) → Hearing on bytes old new sent → IsFrameOn on v bytes
    → (s : ManagerState plans) → manager.Represents lab_names old s → IsStepResult lab_names new sent (manager_hears plans v s)
hears_value bus.Ipmb (Asks r) bytes old new sent hears is s shows =
    let none = hears.no_response refl (λ q tells. not_both r q bytes is tells) in
    subst (λ (o : Manager × Option Sent). IsStepResult lab_names o.0 o.1 (rests plans s)) (λ i. (sym none.0 i, sym none.1 i)) (shows, tt)
hears_value bus.Ipmb (Tells r) bytes old new sent hears is s shows = hears.response r refl is s shows
hears_value bus.Ipmb (Part p) bytes old new sent hears is s shows = absurd is
hears_value bus.Smbus (Asks r) bytes old new sent hears is s shows = absurd is
hears_value bus.Smbus (Tells r) bytes old new sent hears is s shows = absurd is
hears_value bus.Smbus (Part p) bytes old new sent hears is s shows = hears.packet p refl is s shows

module _ (file : BoardFile) (old : Lab) (x : LabModel plans) (number : ℕ) (shows : Represents file old x) where
  pub returned_shown : (s : SentFrame) (m : Manager) (sent : Option Sent) (new : Lab) → slice_get old.frames number ≡ Some s
      → Hearing s.mark.on s.bytes old.manager m sent → Sends file old m sent new → Represents file new (returned plans file (slice_get x.frames number) x)
  returned_shown s m sent new there hears then =
      let at = beside IsSentFrame old.frames x.frames number s shows.frames there in
      let f = at.0 in
      let on : Hearing f.on s.bytes old.manager m sent = subst (λ (b : Bus). Hearing b s.bytes old.manager m sent) (sym at.2.is.mark.on) hears in
      let d = manager_hears plans f.value x.manager in
      let does = hears_value f.on f.value s.bytes old.manager m sent on at.2.read x.manager shows.manager in
      subst (λ (o : Option LabFrame). Represents file new (returned plans file o x)) (sym at.1)
      (then (record x { manager = d.manager }) d.sent (manager_shown file old x m d.manager shows does.0) does.1)

  pub no_return : slice_get old.frames number ≡ None → Represents file old (returned plans file (slice_get x.frames number) x)
  no_return none = subst (λ (o : Option LabFrame). Represents file old (returned plans file o x)) (sym (none_beside IsSentFrame old.frames x.frames number shows.frames none)) shows
