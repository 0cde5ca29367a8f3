-- What is looked at of a packet.
use Rattle.std.proofs.Common.{◌≡◌, ℕ, ◌==◌, ◌||◌, List, Some, None, Result, Ok, Err, refl, sym, ◌∙◌, ap}
use Rattle.two_wire.specs.declared.Bus.TheVariants.{Ipmb, Smbus}
use Rattle.mctp_net.specs.declared.packet.Packet.{Packet}
use Rattle.mctp_net.specs.Grammar.{IsPacket}
use Rattle.bmc_core.specs.Values.{Value, Asks, Tells, Part, IsFrameOn}
use Rattle.model_lab.specs.Lab.{LabFrame, Lab as LabModel}
use Rattle.model_lab.specs.Played.{plans}
use Rattle.lab_run.specs.declared.frames.SentFrame.{SentFrame}
use Rattle.lab_run.specs.declared.part.ManagerPart.{ManagerPart}
use Rattle.lab_run.specs.Shown.{IsSentFrame}
use Rattle.lab_run.specs.Parts.{part_of}

-- a frame on IPMB is no packet
pub none_on_ipmb : (x : LabModel plans) (request : ℕ) (v : Value) (bytes : List ℕ) → IsFrameOn Ipmb v bytes → None ≡ part_of x request v
none_on_ipmb x request (Asks r) bytes is = refl
none_on_ipmb x request (Tells r) bytes is = refl
none_on_ipmb x request (Part p) bytes is = absurd is

-- a frame on SMBus is one
pub some_on_smbus : (v : Value) (bytes : List ℕ) → IsFrameOn Smbus v bytes → (p : Packet) × (v ≡ Part p) × IsPacket p bytes
some_on_smbus (Asks r) bytes is = absurd is
some_on_smbus (Tells r) bytes is = absurd is
some_on_smbus (Part p) bytes is = (p, refl, is)

-- what is looked at of it
pub looked_at : (x : LabModel plans) (s : SentFrame) (f : LabFrame) (p q : Packet) (own : ℕ) → IsSentFrame s f → f.value ≡ Part p → q ≡ p → own ≡ x.smbus.eid
    → Some (let m : ManagerPart = record { start = q.start; tag = q.envelope.tag; request = s.mark.request; ours = q.envelope.destination_eid == own || q.envelope.destination_eid == 0 } in m)
    ≡ part_of x f.request f.value
looked_at x s f p q own is value same eid =
    ap (λ (e : ℕ). Some (let m : ManagerPart = record { start = q.start; tag = q.envelope.tag; request = s.mark.request; ours = q.envelope.destination_eid == e || q.envelope.destination_eid == 0 } in m)) eid
    ∙ ap (λ (k : Packet). part_of x s.mark.request (Part k)) same
    ∙ ap (λ (n : ℕ). part_of x n (Part p)) (sym is.is.mark.request)
    ∙ ap (part_of x f.request) (sym value)

-- a result that is a value is no error, and has that value alone
pub no_error : {A E : Type 0} (r : Result A E) (a : A) (e : E) → r ≡ Ok a → r ≡ Err e → ⊥
no_error r a e one other = let bad : Ok a ≡ Err e = sym one ∙ other in cc

pub ok_same : {A E : Type 0} (r : Result A E) (x y : A) → r ≡ Ok x → r ≡ Ok y → x ≡ y
ok_same r x y one other = let same : Ok x ≡ Ok y = sym one ∙ other in cc
