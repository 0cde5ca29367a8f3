use Rattle.std.proofs.Common.{rules, ◌≡◌, Bool, true, false, refl, sym, ◌∙◌, ap, subst}
use Rattle.mctp_net.specs.Assembly.{Assemblies, message_of}
use Rattle.mctp_net.specs.Places.{seen}
use Rattle.bmc_core.specs.PortSteps.{PortState}
use Rattle.bmc_core.specs.SmbusHeard.{message_heard}
use Rattle.bmc_core.specs.SmbusShown.{HasHeard, HasTaken}
use Rattle.bmc_core.proofs.SmbusPorts.{hearing_fault, hearing_packet}
use Rattle.bmc_core.proofs.smbus_port.read.Goals as goal
use Rattle.std.specs.Prelude.{None}

-- the port with what waits at it
abbrev with_kept : PortState → Assemblies → PortState
with_kept port left = record port { kept = left }

pub returns-in-Err : goal.returns-in-Err
returns-in-Err c p wire eid kept =
    hearing_fault p c.args.bytes.now c.in-Err.fault (λ now h. (now ≡ with_kept p (seen c.args.assembler.now)) × HasHeard p.wire p.eid h p.eid c.ignore.new.self None)
    c.in-Err.ensures.fault c.in-Err.ensures.whole (ap (with_kept p) kept, (refl, c.ignore.ensures, refl))

pub returns-then-not-take : goal.returns-then-not-take
returns-then-not-take c p wire eid kept =
    let q = c.in-Ok.packet in
    let left = seen c.take.new.assembler in
    let no : c.take.result ≡ false = search rules in
    let took : HasTaken p q left c.take.new.out false = subst (λ (b : Bool). HasTaken p q left c.take.new.out b) no (c.take.ensures p wire eid kept) in
    hearing_packet p c.args.bytes.now q (λ now h. (now ≡ with_kept p left) × HasHeard p.wire p.eid h p.eid c.take.new.out None)
    c.in-Ok.ensures.fault c.in-Ok.ensures.whole (ap (with_kept p) (sym took.kept), took.heard)

pub returns : goal.returns
returns c p wire eid kept =
    let q = c.in-Ok.packet in
    let left = seen c.take.new.assembler in
    let yes : c.take.result ≡ true = search rules in
    let took : HasTaken p q left c.take.new.out true = subst (λ (b : Bool). HasTaken p q left c.take.new.out b) yes (c.take.ensures p wire eid kept) in
    hearing_packet p c.args.bytes.now q (λ now h. (now ≡ with_kept p left) × (h ≡ message_heard (message_of left q)))
    c.in-Ok.ensures.fault c.in-Ok.ensures.whole (ap (with_kept p) (sym took.kept), took.heard ∙ ap (λ (a : Assemblies). message_heard (message_of a q)) (sym took.kept))
