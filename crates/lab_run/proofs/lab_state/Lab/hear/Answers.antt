use Rattle.std.proofs.Common.{rules, ◌≡◌, refl, sym, subst}
use Rattle.two_wire.specs.declared.Bus.{Bus}
use Rattle.two_wire.specs.declared.Bus.TheVariants as bus
use Rattle.lab_run.specs.declared.lab_state.Lab.{Lab}
use Rattle.lab_run.specs.Hearing.{PortHears}
use Rattle.lab_run.proofs.PortSide.{Stays, ipmb_hears, ipmb_done, smbus_hears, smbus_done}
use Rattle.lab_run.proofs.Silence.{ipmb_noise, ipmb_ignores, smbus_noise, smbus_ignores}
use Rattle.lab_run.proofs.lab_state.Lab.hear.Goals as goal

pub returns-in-Ipmb-clause-port : goal.returns-in-Ipmb-clause-port
returns-in-Ipmb-clause-port c =
    let on : c.args.on ≡ bus.Ipmb = search rules in
    let bytes = c.args.bytes.now in
    let old = c.args.self.now in
    let new : Lab = record old { ipmb = c.on_frame.new.self; board = c.on_frame.new.board; out = c.on_frame.new.out } in
    let stays : Stays old new = record { setup = c.on_frame.ensures.setup; manager = refl; names = refl; frames = refl; idles = refl } in
    let heard = c.on_frame.ensures.heard in
    subst (λ (b : Bus). PortHears b bytes old new) (sym on) (record {
      heard = λ file x v shows is. ipmb_hears file old new x shows stays bytes v refl heard is;
      done = λ file x v shows is. ipmb_done file old new x shows stays bytes v heard is;
      noise = λ file x shows noise. ipmb_noise file old new x shows bytes stays refl heard noise;
      ignored = λ file x shows noise. ipmb_ignores file old new x shows bytes heard noise;
    })

pub returns-in-Smbus-clause-port : goal.returns-in-Smbus-clause-port
returns-in-Smbus-clause-port c =
    let on : c.args.on ≡ bus.Smbus = search rules in
    let bytes = c.args.bytes.now in
    let old = c.args.self.now in
    let new : Lab = record old { smbus = c.on_frame-in-Smbus.new.self; board = c.on_frame-in-Smbus.new.board; out = c.on_frame-in-Smbus.new.out } in
    let stays : Stays old new = record { setup = c.on_frame-in-Smbus.ensures.setup; manager = refl; names = refl; frames = refl; idles = refl } in
    let heard = c.on_frame-in-Smbus.ensures.heard in
    subst (λ (b : Bus). PortHears b bytes old new) (sym on) (record {
      heard = λ file x v shows is. smbus_hears file old new x shows stays bytes v refl heard is;
      done = λ file x v shows is. smbus_done file old new x shows stays bytes v heard is;
      noise = λ file x shows noise. smbus_noise file old new x shows bytes stays refl heard noise;
      ignored = λ file x shows noise. smbus_ignores file old new x shows bytes heard noise;
    })
