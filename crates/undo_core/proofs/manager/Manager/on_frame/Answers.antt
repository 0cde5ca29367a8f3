use Rattle.std.specs.Prelude.{Result, IfOk}
use Rattle.std.proofs.Common.{rules, ◌≡◌, Ok, Err, None, sym, ◌∙◌, ap, subst}
use Rattle.std.proofs.lemmas.Bool.{true≢false}
use Rattle.ipmb_frame.specs.declared.message.Response.{Response}
use Rattle.ipmb_frame.specs.declared.fault.FrameFault.{FrameFault}
use Rattle.ipmb_frame.specs.declared.message.Msg.{Msg}
use Rattle.ipmb_frame.specs.declared.message.Msg.TheVariants as msg
use Rattle.ipmb_frame.specs.Grammar.{IsMessage}
use Rattle.mctp_net.specs.declared.packet.Packet.{Packet}
use Rattle.model_lab.specs.ManagerSteps.{board_plans, hears_response, hears_packet}
use Rattle.undo_core.specs.Shown.{IsStepResult}
use Rattle.undo_core.specs.Course.{Hears, InputResult}
use Rattle.two_wire.specs.declared.Bus.{Bus}
use Rattle.two_wire.specs.declared.Bus.TheVariants.{Ipmb, Smbus}
use Rattle.bmc_core.specs.Values.{Tells, Part}
use Rattle.undo_core.proofs.Coming.{value_comes, no_response_comes, no_packet_comes}
use Rattle.undo_core.proofs.Heard.{response_read, packet_read, is_packet_read}
use Rattle.undo_core.proofs.manager.Manager.on_frame.Goals as goal
use Rattle.undo_core.proofs.manager.Manager.on_frame.Goals.{in_default-via-in-Ok+in_default, in_default-via-in_default}

-- what was read is a response
read_as : (c : goal.After-on_response) → IsMessage (msg.Response c.in-Ok-Response.response) c.args.bytes.now
read_as c =
    let read : c.read_frame.result ≡ Ok (msg.Response c.in-Ok-Response.response) = search rules in
    subst (λ (x : Result Msg FrameFault). IfOk x (λ message. IsMessage message c.args.bytes.now)) read c.read_frame.ensures.read

-- what was read is no response
other : (c : goal.In_default) (r : Response) → c.read_frame.result ≡ Ok (msg.Response r) → ⊥
other c r = elim c.in_default.branch [
  | in_default-via-in-Ok+in_default w ↦ λ same. search rules
  | in_default-via-in_default w ↦ λ same. let both : Err w.in_default.field-0 ≡ Ok (msg.Response r) = sym w.in_default.is ∙ same in cc both
]

pub returns-in-Ok-Response-clause-no_response : goal.returns-in-Ok-Response-clause-no_response
returns-in-Ok-Response-clause-no_response c on none = absurd (none c.in-Ok-Response.response (read_as c))

pub returns-in_default-clause-response : goal.returns-in_default-clause-response
returns-in_default-clause-response c on r is names s shows = absurd (other c r (c.read_frame.ensures.whole (msg.Response r) is))

pub returns-in-Ok-Response-clause-response : goal.returns-in-Ok-Response-clause-response
returns-in-Ok-Response-clause-response c on r is names s shows =
    let read : c.read_frame.result ≡ Ok (msg.Response c.in-Ok-Response.response) = search rules in
    let same : c.in-Ok-Response.response ≡ r = ap (response_read r) (sym read ∙ c.read_frame.ensures.whole (msg.Response r) is) in
    subst (λ (x : Response). IsStepResult names c.on_response.new.self c.on_response.result (hears_response (board_plans names) x s)) same (c.on_response.ensures names s shows)

pub returns-in-Ok-clause-packet : goal.returns-in-Ok-clause-packet
returns-in-Ok-clause-packet c on p is names s shows =
    let same : c.in-Ok.packet ≡ p = ap (packet_read p) (sym c.in-Ok.is ∙ c.read_packet.ensures.whole p is) in
    subst (λ (x : Packet). IsStepResult names c.on_packet.new.self c.on_packet.result (hears_packet (board_plans names) x s)) same (c.on_packet.ensures names s shows)

pub returns-in-Ok-clause-no_packet : goal.returns-in-Ok-clause-no_packet
returns-in-Ok-clause-no_packet c on none = absurd (none c.in-Ok.packet c.in-Ok.ensures.read)

pub returns-in-Err-clause-packet : goal.returns-in-Err-clause-packet
returns-in-Err-clause-packet c on p is names s shows = absurd (true≢false (ap is_packet_read (sym (c.read_packet.ensures.whole p is) ∙ c.in-Err.is)))

pub returns-in-Ok-Response-clause-heard : goal.returns-in-Ok-Response-clause-heard
returns-in-Ok-Response-clause-heard c names s shows =
    subst (λ (on : Bus). InputResult names (Hears on c.args.bytes.now) s c.on_response.new.self c.on_response.result) (sym c.in-Ipmb.is)
    (value_comes names s c.on_response.new.self c.on_response.result Ipmb c.args.bytes.now (Tells c.in-Ok-Response.response) (read_as c) (c.on_response.ensures names s shows))

pub returns-in_default-clause-heard : goal.returns-in_default-clause-heard
returns-in_default-clause-heard c names s shows =
    subst (λ (on : Bus). InputResult names (Hears on c.args.bytes.now) s c.args.self.now None) (sym c.in-Ipmb.is)
    (no_response_comes names s c.args.self.now None c.args.bytes.now c.read_frame.result c.read_frame.ensures.read c.read_frame.ensures.whole (other c) (shows, tt))

pub returns-in-Ok-clause-heard : goal.returns-in-Ok-clause-heard
returns-in-Ok-clause-heard c names s shows =
    subst (λ (on : Bus). InputResult names (Hears on c.args.bytes.now) s c.on_packet.new.self c.on_packet.result) (sym c.in-Smbus.is)
    (value_comes names s c.on_packet.new.self c.on_packet.result Smbus c.args.bytes.now (Part c.in-Ok.packet) c.in-Ok.ensures.read (c.on_packet.ensures names s shows))

pub returns-in-Err-clause-heard : goal.returns-in-Err-clause-heard
returns-in-Err-clause-heard c names s shows =
    subst (λ (on : Bus). InputResult names (Hears on c.args.bytes.now) s c.args.self.now None) (sym c.in-Smbus.is)
    (no_packet_comes names s c.args.self.now None c.args.bytes.now c.in-Err.field-0 (λ p is. sym c.in-Err.is ∙ c.read_packet.ensures.whole p is) (shows, tt))
