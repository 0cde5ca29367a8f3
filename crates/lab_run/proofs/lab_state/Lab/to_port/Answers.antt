use Rattle.std.proofs.Common.{◌≡◌, sym, ◌∙◌, ap, subst}
use Rattle.lab_run.specs.declared.ages.FrameAge.{FrameAge}
use Rattle.bmc_core.specs.Values.{IsFrameOn}
use Rattle.bmc_core.specs.PortSteps.{hears}
use Rattle.model_lab.specs.declared.way.Way.TheVariants.{ToManager}
use Rattle.model_lab.specs.Lab.{port_on, with_port, with_frames}
use Rattle.bmc_core.specs.declared.out.Out.{Out}
use Rattle.model_lab.specs.Played.{plans}
use Rattle.lab_run.specs.Shown.{Represents}
use Rattle.lab_run.specs.Hearing.{HasFrames, done_on}
use Rattle.lab_run.proofs.Sent.{on_ok, on_any}
use Rattle.lab_run.proofs.PortSide.{delivered_shown, not_delivered, done_shown, none_done}
use Rattle.lab_run.proofs.lab_state.Lab.to_port.Goals as goal

pub returns-in_default-clause-becomes : goal.returns-in_default-clause-becomes
returns-in_default-clause-becomes c file x shows = not_delivered file c.args.self.now x c.args.number shows c.in_default.ensures.none

pub returns-clause-becomes : goal.returns-clause-becomes
returns-clause-becomes c = on_ok c.send_out.result c.send_out.ensures.sent (λ sends file x shows.
    let s = c.in-Some.frame.now in
    let new = c.send_out.new.self in
    let mark = c.reply-reply.ensures.value in
    delivered_shown file c.args.self.now new x shows c.args.number s c.in-Some.ensures.some (λ v is y shown.
    let bytes : c.as_slice.result.now ≡ s.bytes = c.as_slice.ensures.value ∙ c.copy-bytes.ensures in
    let d = hears file (port_on plans s.mark.on y) y.board v in
    let z = with_port plans s.mark.on d.port (record y { board = d.board }) in
    let heard = c.hear.ensures.port.heard file y v shown (subst (IsFrameOn s.mark.on v) (sym bytes) is) in
    subst (λ (m : FrameAge). Represents file new (with_frames plans m.on ToManager m.request d.sent z)) mark
    (sends file z d.sent heard.shows (subst (λ (m : FrameAge). HasFrames m.on d.sent c.hear.new.self.out) (sym mark) heard.out))))

pub returns-in_default-clause-done : goal.returns-in_default-clause-done
returns-in_default-clause-done c file x f shows is =
    none_done file c.args.self.now x c.args.number f (c.args.self.now.out.done ≡ done_on f.on (port_on plans f.on x) f.value) shows c.in_default.ensures.none is

pub returns-clause-done : goal.returns-clause-done
returns-clause-done c = on_any c.send_out.result (λ file x f shows is.
    let s = c.in-Some.frame.now in
    let bytes : c.as_slice.result.now ≡ s.bytes = c.as_slice.ensures.value ∙ c.copy-bytes.ensures in
    done_shown file c.args.self.now x c.args.number s f c.send_out.new.self.out.done shows c.in-Some.ensures.some is
    (λ v read. ap (λ (o : Out). o.done) c.send_out.ensures.out ∙ c.hear.ensures.port.done file x v shows (subst (IsFrameOn s.mark.on v) (sym bytes) read)))
