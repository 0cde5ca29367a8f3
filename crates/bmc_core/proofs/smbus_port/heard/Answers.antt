use Rattle.std.proofs.Common.{rules, ◌≡◌, ℕ, true, false, Some, None, sym, ◌∙◌, ap, subst}
use Rattle.model_bus.specs.Carried.{IsNew}
use Rattle.bmc_core.specs.SmbusHeard.{InMessage, HeardMessage, message_heard, found, asks_of}
use Rattle.bmc_core.specs.SmbusShown.{Represents, IsAskedRequest}
use Rattle.bmc_core.proofs.SmbusPorts.{with_eid, ended, given_is_heard, heard_at, settled_as, settled, new}
use Rattle.bmc_core.proofs.smbus_port.heard.Goals as goal

pub returns-in_default : goal.returns-in_default
returns-in_default c p next at_wire at_eid of shows =
    let none : c.hear.result ≡ None = search rules in
    let h : HeardMessage = message_heard (record { envelope = c.args.envelope; body = c.args.body.now }) in
    let has = heard_at p h c.args.wire c.args.endpoint.now c.hear.new.endpoint c.hear.new.out c.hear.result None at_wire at_eid none c.hear.ensures in
    ended next c.hear.new.out p h c.hear.new.endpoint has shows

pub returns-then-settle : goal.returns-then-settle
returns-then-settle c p next at_wire at_eid of shows =
    let m : InMessage = c.in-Some.request in
    let some : c.hear.result ≡ Some m = search rules in
    let h : HeardMessage = message_heard (record { envelope = c.args.envelope; body = c.args.body.now }) in
    let so = given_is_heard p.wire p.eid h c.hear.new.endpoint c.hear.new.out m
    (heard_at p h c.args.wire c.args.endpoint.now c.hear.new.endpoint c.hear.new.out c.hear.result (Some m) at_wire at_eid some c.hear.ensures) in
    let shown : Represents next p = subst (λ (n : ℕ). Represents next (with_eid p n)) so.0 shows in
    let done = settled next c.settle.new.out c.hear.new.out p m shown
    (settled_as p m c.args.wire c.eid.result c.hear.new.out c.settle.new.out c.settle.result true at_wire (sym so.0 ∙ sym c.eid.ensures) c.if-settle.true (c.settle.ensures p.log of)) in
    subst (λ (k : HeardMessage). IsAskedRequest next c.settle.new.out None p k) (sym so.1) done

pub returns : goal.returns
returns c p next at_wire at_eid of shows =
    let m : InMessage = c.in-Some.request in
    let some : c.hear.result ≡ Some m = search rules in
    let h : HeardMessage = message_heard (record { envelope = c.args.envelope; body = c.args.body.now }) in
    let so = given_is_heard p.wire p.eid h c.hear.new.endpoint c.hear.new.out m
    (heard_at p h c.args.wire c.args.endpoint.now c.hear.new.endpoint c.hear.new.out c.hear.result (Some m) at_wire at_eid some c.hear.ensures) in
    let shown : Represents next p = subst (λ (n : ℕ). Represents next (with_eid p n)) so.0 shows in
    let is : found p m ≡ IsNew =
    new (found p m) _ _ c.hear.new.out c.settle.new.out
    (settled_as p m c.args.wire c.eid.result c.hear.new.out c.settle.new.out c.settle.result false at_wire (sym so.0 ∙ sym c.eid.ensures) c.if-settle.false (c.settle.ensures p.log of)) in
    subst (λ (k : HeardMessage). IsAskedRequest next c.settle.new.out (Some m) p k) (sym so.1) (ap (asks_of m) is, shown)
