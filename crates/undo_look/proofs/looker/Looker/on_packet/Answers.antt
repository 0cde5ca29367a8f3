use Rattle.std.proofs.Common.{rules, ◌≡◌, ◌&&◌, inl, inr, true, Some, refl, sym, ◌∙◌, ap, subst}
use Rattle.two_wire.specs.declared.Bus.TheVariants.{Smbus}
use Rattle.mctp_net.specs.declared.packet.Packet.{Packet}
use Rattle.mctp_net.specs.Assembly.{message_of}
use Rattle.mctp_net.specs.Places.{seen}
use Rattle.undo_look.specs.Requests.{is_part}
use Rattle.undo_look.specs.Looks.{IsStepResult, LookState, awaited_on, hears_message, is_awaited_part, is_smbus, state_of}
use Rattle.undo_look.proofs.looker.Looker.on_packet.Goals as goal

-- the packet is a part of an answer that is awaited
ours : (s : LookState) (packet : Packet) → awaited_on s.stage ≡ Some Smbus → is_part s.names s.next.smbus packet ≡ true → is_awaited_part s packet ≡ true
ours s packet awaits part = λ i. is_smbus (awaits i) && part i

pub returns-in_default-take : goal.returns-in_default-take
returns-in_default-take c =
    let s = state_of c.args.self.now in
    let passes : c.is_part.result ≡ true = search rules in
    let part = ours s c.args.packet.now (sym c.awaits.ensures ∙ c.in-Some-Smbus.is ∙ ap Some c.in-Some-Smbus.field-0-is) (sym c.is_part.ensures ∙ passes) in
    inr (part, inr ((λ message whole. c.in_default-take.not-Whole ((c.take.ensures.whole message).1 whole).0), ((λ i. record s { joined = c.take.ensures.after i }), tt)))

pub returns : goal.returns
returns c =
    let s = state_of c.args.self.now in
    let message = message_of (seen c.take.new.self) c.args.packet.now in
    let body : c.as_slice.result.now ≡ message.body = c.as_slice.ensures.value ∙ c.from_slice-message.ensures ∙ c.body.ensures.value in
    let passes : c.is_part.result ≡ true = search rules in
    let part = ours s c.args.packet.now (sym c.awaits.ensures ∙ c.in-Some-Smbus.is ∙ ap Some c.in-Some-Smbus.field-0-is) (sym c.is_part.ensures ∙ passes) in
    inr (
      part,
      inl (
        message,
        (c.take.ensures.whole message).0 (c.in-Whole.is, refl),
        subst (IsStepResult c.on_message.new.self c.on_message.result) (λ i. hears_message (record s { joined = c.take.ensures.after i }) (body i)) c.on_message.ensures,
      ),
    )
