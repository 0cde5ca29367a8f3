use Rattle.std.proofs.Common.{◌≡◌, ℕ, suc, ◌+◌, List, ◌∷◌, [], ◌++◌, take, refl, sym, ◌∙◌, ap, subst, arith}
use Rattle.std.specs.List.{AllZip}
use Rattle.two_wire.specs.declared.Bus.TheVariants as bus
use Rattle.undo_plans.specs.declared.names.Names.{Names}
use Rattle.bmc_core.specs.Values.{IsFrameOn}
use Rattle.model_lab.specs.declared.way.Way.TheVariants.{ToOthers}
use Rattle.model_lab.specs.Lab.{port_does}
use Rattle.model_lab.specs.Meaning.{lab_names, message_of}
use Rattle.model_lab.specs.Played.{plans}
use Rattle.text_lines.specs.declared.event.OtherMessage.{OtherMessage}
use Rattle.lab_run.specs.Hearing.{packets_of}
use Rattle.lab_run.proofs.Sent.{at_place}
use Rattle.lab_run.proofs.Deeds.{hears_each}
use Rattle.lab_run.proofs.PortSide.{none_heard, next_heard, message_heard}
use Rattle.lab_run.proofs.lab_state.Lab.other_message.Goals as goal

-- the frames are read as the message's packets
reads : (names : Names) (message : OtherMessage) (frames given : List (List ℕ)) → given ≡ frames → names ≡ lab_names → AllZip (IsFrameOn bus.Smbus) (packets_of names message) frames
    → AllZip (IsFrameOn bus.Smbus) (packets_of lab_names message) given
reads names message frames given same named all =
    subst (λ (n : Names). AllZip (IsFrameOn bus.Smbus) (packets_of n message) given) named (subst (λ (fs : List (List ℕ)). AllZip (IsFrameOn bus.Smbus) (packets_of names message) fs) (sym same) all)

pub loop-frame-init : goal.loop-frame-init
loop-frame-init c = (λ file x shows. none_heard file c.args.self.now x shows, refl)

pub loop-frame-preserved : goal.loop-frame-preserved
loop-frame-preserved c = (
  λ file x shows.
      let message = c.args.message.now in
      let values = packets_of lab_names message in
      let given = c.as_slice-frame-items.result.now in
      let place = c.loop-frame.frame-index in
      let read : AllZip (IsFrameOn bus.Smbus) values given = reads c.args.self.now.names message c.message_frames-frames.result.items given c.as_slice-frame-items.ensures.value shows.named c.message_frames-frames.ensures in
      let at = at_place (IsFrameOn bus.Smbus) values given place c.frame-item.result read (omega arith) c.frame-item.is in
      let next : place + 1 ≡ suc place = omega arith in
      let more : take (place + 1) values ≡ take place values ++ at.0 ∷ [] = ap (λ (n : ℕ). take n values) next ∙ at.2 in
      let is : IsFrameOn bus.Smbus at.0 c.as_slice.result.now = subst (λ (bytes : List ℕ). IsFrameOn bus.Smbus at.0 bytes) (sym c.as_slice.ensures.value) at.1 in
      let y = port_does plans bus.Smbus ToOthers 0 (hears_each file x.smbus x.board (take place values)) x in
      next_heard file c.hear_other.new.self x (take place values) (take (place + 1) values) at.0 more
      (c.in_ok-hear_other.ensures.becomes file y at.0 (c.loop-frame.invariant.0 file x shows) is),
  c.hear_other.ensures.idles ∙ c.loop-frame.invariant.1,
)

pub returns-clause-becomes : goal.returns-clause-becomes
returns-clause-becomes c file x shows =
    let message = c.args.message.now in
    let read = reads c.args.self.now.names message c.message_frames-frames.result.items c.as_slice-frame-items.result.now c.as_slice-frame-items.ensures.value shows.named c.message_frames-frames.ensures in
    message_heard file c.loop-frame.self x (message_of lab_names message) c.as_slice-frame-items.result.now c.loop-frame.frame-index read (omega arith) (c.loop-frame.invariant.0 file x shows)
