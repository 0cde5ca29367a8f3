-- Whether the port took a packet, and whether that broke the premise.
use Rattle.std.proofs.Common.{◌≡◌, ◌+◌, ◌-◌, ◌<◌, ◌≤◌, ◌==◌, ◌&&◌, ℕ, Bool, true, false, not, nat_lt, cond, List, [], ◌∷◌, Option, Some, None, refl, sym, ◌∙◌, ap, arith}
use Rattle.std.specs.Option.{is_none}
use Rattle.std.proofs.lemmas.Bool.{false≢true, eqb-true, eq-eqb, and_parts}
use Rattle.std.proofs.lemmas.Bool.Decides.{nat_tests}
use Rattle.two_wire.specs.declared.Bus.TheVariants.{Smbus}
use Rattle.mctp_net.specs.declared.packet.Packet.{Packet}
use Rattle.mctp_net.specs.declared.packet.Envelope.{Envelope}
use Rattle.mctp_net.specs.declared.message.Message.{Message}
use Rattle.mctp_net.specs.declared.taken.DropCause.{DropCause}
use Rattle.mctp_net.specs.Assembly.{drop_cause, message_of}
use Rattle.mctp_net.specs.Control.{Request as ControlRequest, request_of as control_request_of}
use Rattle.pldm_base.specs.declared.fault.PldmFault.{PldmFault}
use Rattle.pldm_base.specs.declared.message.PldmRequest.{PldmRequest}
use Rattle.pldm_base.specs.Message.{request_in as pldm_request_in, has_fault as has_pldm_fault, faults as pldm_faults}
use Rattle.model_bus.specs.Carried.{Outcome, Repeats, IsBusy, IsNew}
use Rattle.bmc_core.specs.Values.{Part}
use Rattle.bmc_core.specs.PortSteps.{PortState}
use Rattle.model_lab.specs.Joins.{JoinsLive}
use Rattle.model_lab.specs.Faults.{begun_on}
use Rattle.model_lab.specs.Lab.{Lab as LabModel}
use Rattle.model_lab.specs.Played.{plans}
use Rattle.bmc_core.specs.declared.out.Reason.TheVariants as reason
use Rattle.bmc_core.specs.Outs.{done_by}
use Rattle.bmc_core.specs.SmbusHeard.{HeardMessage, Ignored, Waiting, control_heard, pldm_heard, typed_heard, message_heard, part_heard, with_part, taken, done_of, found}
use Rattle.lab_run.specs.Hearing.{done_with}
use Rattle.lab_play.specs.Watched.{took}
use Rattle.std.specs.Prelude.{find}

outcome_took : (o : Outcome) → took (done_by o) ≡ true
outcome_took (Repeats reply) = refl
outcome_took IsBusy = refl
outcome_took IsNew = refl

module _ (port : PortState) where
  abbrev Took : HeardMessage → Type 0
  Took h = took (done_of port h) ≡ true

  control_took : (e : Envelope) (o : Option ControlRequest) → Took (control_heard e o)
  control_took e (Some r) = refl
  control_took e None = refl

  pldm_took : (e : Envelope) (o : Option PldmRequest) (fault : Option PldmFault) → Took (pldm_heard e o fault)
  pldm_took e (Some r) fault = outcome_took (found port (record { envelope = e; request = r }))
  pldm_took e None (Some why) = refl
  pldm_took e None None = refl

  typed_took : (m : Message) (body : List ℕ) → Took (typed_heard m body)
  typed_took m [] = refl
  typed_took m (kind ∷ rest) = by (kind == 0) (kind == 1)
    where
      by : (s t : Bool) → Took (cond s (control_heard m.envelope (control_request_of m.body))
          (cond t (pldm_heard m.envelope (pldm_request_in rest) (find (has_pldm_fault rest) pldm_faults)) (Ignored reason.MessageType)))
      by true t = control_took m.envelope (control_request_of m.body)
      by false true = pldm_took m.envelope (pldm_request_in rest) (find (has_pldm_fault rest) pldm_faults)
      by false false = refl

  message_took : (m : Message) → Took (message_heard m)
  message_took m = by m.envelope.tag_owner
    where
      by : (t : Bool) → Took (cond t (typed_heard m m.body) (Ignored reason.NotRequest))
      by true = typed_took m m.body
      by false = refl

-- the port took a packet where that went to it and wasn't dropped
pub took_is : (port : PortState) (p : Packet) → took (done_with port (Part p)) ≡ ((p.envelope.destination == port.wire) && is_none (drop_cause port.eid port.kept p))
took_is port p = by (p.envelope.destination == port.wire)
  where
    by_end : (t : Bool) → Took (taken port p) (cond t (message_heard (message_of (with_part port p).kept p)) Waiting)
    by_end true = message_took (taken port p) (message_of (with_part port p).kept p)
    by_end false = refl

    by_cause : (c : Option DropCause) → took (done_of (taken port p) (part_heard (with_part port p) p c)) ≡ is_none c
    by_cause (Some cause) = refl
    by_cause None = by_end p.end

    by : (t : Bool) → took (done_of (taken port p) (cond t (part_heard (with_part port p) p (drop_cause port.eid port.kept p)) (Ignored reason.NotOurs))) ≡ (t && is_none (drop_cause port.eid port.kept p))
    by true = by_cause (drop_cause port.eid port.kept p)
    by false = refl

some_is : {A : Type 0} (o : Option A) → is_none o ≡ true → o ≡ None
some_is None is = refl
some_is (Some a) is = absurd (false≢true is)

not_true : (b : Bool) → not b ≡ true → b ≡ false
not_true true is = absurd (false≢true is)
not_true false is = refl

few : (n : ℕ) → nat_lt 8 n ≡ false → n ≤ 8
few n is = grind (arith, nat_tests)

many : (n : ℕ) → nat_lt 8 n ≡ true → 8 < n
many n is = grind (arith, nat_tests)

within : (begun opened : ℕ) → nat_lt 8 (begun - opened) ≡ false → begun ≤ opened + 8
within begun opened is = let most : begun - opened ≤ 8 = few (begun - opened) is in omega (arith, most)

beyond : (begun opened : ℕ) → nat_lt 8 (begun - opened) ≡ true → begun ≤ opened + 8 → ⊥
beyond begun opened is most = let more : 8 < begun - opened = many (begun - opened) is in omega (arith, more, most)

module _ (x : LabModel plans) (p : Packet) where
  abbrev begun : ℕ
  begun = begun_on plans.words Smbus x.manager.machine

  abbrev taken_so : Bool
  taken_so = took (done_with x.smbus (Part p))

  -- the packet joins one that has waited too long
  abbrev pub breaks : Bool
  breaks = not p.start && taken_so && nat_lt 8 (begun - x.opened p.envelope.tag)

  pub kept_live : breaks ≡ false → JoinsLive plans x (Part p)
  kept_live is more there none =
      let took_it : taken_so ≡ true = took_is x.smbus p ∙ ap (λ (t : Bool). t && is_none (drop_cause x.smbus.eid x.smbus.kept p)) (eq-eqb _ _ there) ∙ ap is_none none in
      let test : nat_lt 8 (begun - x.opened p.envelope.tag) ≡ false =
      sym (ap (λ (s : Bool). not s && true && nat_lt 8 (begun - x.opened p.envelope.tag)) more)
      ∙ sym (ap (λ (t : Bool). not p.start && t && nat_lt 8 (begun - x.opened p.envelope.tag)) took_it)
      ∙ is in
      within begun (x.opened p.envelope.tag) test

  pub broke_live : breaks ≡ true → JoinsLive plans x (Part p) → ⊥
  broke_live is live =
      let parts = and_parts (not p.start && taken_so) (nat_lt 8 (begun - x.opened p.envelope.tag)) is in
      let first = and_parts (not p.start) taken_so parts.0 in
      let came = and_parts (p.envelope.destination == x.smbus.wire) (is_none (drop_cause x.smbus.eid x.smbus.kept p)) (sym (took_is x.smbus p) ∙ first.1) in
      beyond begun (x.opened p.envelope.tag) parts.1 (live (not_true p.start first.0) (eqb-true _ _ came.0) (some_is _ came.1))
