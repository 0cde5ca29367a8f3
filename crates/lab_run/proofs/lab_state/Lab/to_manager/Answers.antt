use Rattle.std.proofs.Common.{sym, subst}
use Rattle.ipmb_frame.specs.Grammar.{IsResponse}
use Rattle.mctp_net.specs.Grammar.{IsPacket}
use Rattle.model_lab.specs.Meaning.{lab_names}
use Rattle.lab_run.proofs.Sent.{on_ok}
use Rattle.lab_run.proofs.ManagerSide.{Hearing, returned_shown, no_return}
use Rattle.lab_run.proofs.lab_state.Lab.to_manager.Goals as goal

pub returns-in_default-clause-becomes : goal.returns-in_default-clause-becomes
returns-in_default-clause-becomes c file x shows = no_return file c.args.self.now x c.args.number shows c.in_default.ensures.none

pub returns-clause-becomes : goal.returns-clause-becomes
returns-clause-becomes c = on_ok c.send.result c.send.ensures.becomes (λ sends file x shows.
    let old = c.args.self.now in
    let s = c.in-Some.frame.now in
    let m = c.on_frame-sent.new.self in
    let is = c.as_slice.ensures.value in
    let heard = c.on_frame-sent.ensures in
    let hears : Hearing s.mark.on s.bytes old.manager m c.on_frame-sent.result = record {
      response = λ r on bytes. heard.response on r (subst (IsResponse r) (sym is) bytes) lab_names;
      packet = λ p on bytes. heard.packet on p (subst (IsPacket p) (sym is) bytes) lab_names;
      no_response = λ on none. heard.no_response on (λ r bytes. none r (subst (IsResponse r) is bytes));
    } in
    returned_shown file old x c.args.number shows s m c.on_frame-sent.result c.send.new.self c.in-Some.ensures.some hears (sends file))
