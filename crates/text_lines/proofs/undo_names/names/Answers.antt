use Rattle.text_lines.proofs.NamesLines.{names_behind, behind_ipmb, behind_word, behind_smbus}
use Rattle.std.proofs.Common.{subst, sym, List, ℕ}
use Rattle.text_lines.specs.UndoText.{IsPair}
use Rattle.text_lines.proofs.NamesLines.{eid_same}
use Rattle.text_lines.proofs.undo_names.names.Goals as goal

pub returns-in_default-first_places-clause-none : goal.returns-in_default-first_places-clause-none
returns-in_default-first_places-clause-none c names is =
    c.in_default-first_places.ensures.none is.ipmb names.own_address names.peer_address _ is.addresses is.even_addresses (names_behind c.args.line.now c.in-Some.all.now names c.in-Some.ensures.some is)

pub returns-in_default-behind-clause-none : goal.returns-in_default-behind-clause-none
returns-in_default-behind-clause-none c names is =
    let ipmb = c.in-Some-first_places.ensures.some in
    c.in_default-behind.ensures.none _ (behind_ipmb c.args.line.now c.in-Some.all.now ipmb.0 _ _ _ names c.in-Some.ensures.some ipmb.1 ipmb.2 is)

pub returns-in_default-first_places-2-clause-none : goal.returns-in_default-first_places-2-clause-none
returns-in_default-first_places-2-clause-none c names is =
    let ipmb = c.in-Some-first_places.ensures.some in
    c.in_default-first_places-2.ensures.none is.smbus names.own_wire names.peer_wire _ is.wires is.even_wires
    (behind_word c.args.line.now c.in-Some.all.now ipmb.0 _ c.in-Some-behind.others.now _ _ names c.in-Some.ensures.some ipmb.1 ipmb.2 c.in-Some-behind.ensures.some is)

pub returns-in_default-behind-2-clause-none : goal.returns-in_default-behind-2-clause-none
returns-in_default-behind-2-clause-none c names is =
    let ipmb = c.in-Some-first_places.ensures.some in
    let smbus = c.in-Some-first_places-2.ensures.some in
    c.in_default-behind-2.ensures.none is.eid
    (behind_smbus c.in-Some-behind.others.now smbus.0 _ _ _ c.args.line.now names smbus.1 smbus.2 is
    (behind_word c.args.line.now c.in-Some.all.now ipmb.0 _ c.in-Some-behind.others.now _ _ names c.in-Some.ensures.some ipmb.1 ipmb.2 c.in-Some-behind.ensures.some is))

pub returns-in_default-eids-clause-none : goal.returns-in_default-eids-clause-none
returns-in_default-eids-clause-none c names is =
    let ipmb = c.in-Some-first_places.ensures.some in
    let smbus = c.in-Some-first_places-2.ensures.some in
    let last = eid_same _ c.in-Some-behind-2.last.now is.eid c.in-Some-behind-2.ensures.some
    (behind_smbus c.in-Some-behind.others.now smbus.0 _ _ _ c.args.line.now names smbus.1 smbus.2 is
    (behind_word c.args.line.now c.in-Some.all.now ipmb.0 _ c.in-Some-behind.others.now _ _ names c.in-Some.ensures.some ipmb.1 ipmb.2 c.in-Some-behind.ensures.some is)) in
    c.in_default-eids.ensures.none names.own_eid names.peer_eid (subst (λ (w : List ℕ). IsPair w names.own_eid names.peer_eid) (sym last) is.eids)
