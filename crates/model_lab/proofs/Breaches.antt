-- The faults of events, and the premises that they break.
use Rattle.std.proofs.Common.{◌≡◌, ◌⊎◌, ℕ, ◌<◌, Bool, true, false, cond, not, ◌&&◌, List, [], ◌∷◌, Option, Some, None, refl, sym, ◌∙◌, ap, subst, inl, inr}
use Rattle.std.specs.Prelude.{◌==◌, ◌||◌, find, slice_get, All}
use Rattle.std.specs.Option.{is_none}
use Rattle.std.proofs.lemmas.Bool.{and_parts, and_from, le-leb, leb-true, eqb-true, eqb-false, eq-eqb}
use Rattle.two_wire.specs.declared.Bus.{Bus}
use Rattle.two_wire.specs.declared.Bus.TheVariants.{Ipmb, Smbus}
use Rattle.ipmb_frame.specs.declared.message.Msg.{Msg}
use Rattle.ipmb_frame.specs.Grammar.{IsMessage}
use Rattle.ipmb_frame.specs.Fault.{has_fault as has_frame_fault, faults as frame_faults, HasFault as HasFrameFault}
use Rattle.ipmb_frame.proofs.Faultless.{fault-or-message}
use Rattle.mctp_net.specs.declared.packet.Packet.{Packet}
use Rattle.mctp_net.specs.Grammar.{IsPacket, has_fault as has_packet_fault, faults as packet_faults, HasFault as HasPacketFault}
use Rattle.ipmb_frame.proofs.Whole.{message-no_fault}
use Rattle.mctp_net.proofs.Faultless.{fault-or-packet}
use Rattle.mctp_net.proofs.PacketLaws.{packet-whole}
use Rattle.model_undo.specs.Machine.{open_bus}
use Rattle.pldm_base.specs.declared.message.PldmRequest.{PldmRequest}
use Rattle.pldm_base.specs.Message.{IsRequest, request_in}
use Rattle.pldm_base.proofs.InBytes.{request-in, request-in_back}
use Rattle.undo_plans.specs.declared.names.Names.{Names}
use Rattle.model_lab.specs.ManagerSteps.{own_on, peer_on, Plans}
use Rattle.model_lab.specs.declared.way.Way.{Way}
use Rattle.model_lab.specs.declared.way.Way.TheVariants.{ToPort, ToManager, ToOthers}
use Rattle.model_lab.specs.Lab.{LabFrame, Event, Calls, ToBmc, ToMgr, OtherIpmb, OtherSmbus, Noise, Idles, OnBench, Lab}
use Rattle.model_lab.specs.declared.fault.Fault.{Fault}
use Rattle.model_lab.specs.declared.fault.Fault.TheVariants.{Room}
use Rattle.model_lab.specs.Faults.{Check, first_of, same_way, is_own, pldm_changes, message_changes, is_frame, is_live, delivery, checks, fault_of}
use Rattle.model_lab.specs.Honest.{IsAnother, ChangesNothing, IsNoFrame, IsLive, IsDelivered, IsHonest, HasBytes, FaultsAreBreaches}

-- ---- lists of faults

abbrev pub AllHoldNot : List Check → Type 0
AllHoldNot [] = Unit {0}
AllHoldNot (c ∷ cs) = (c.holds ≡ false) × AllHoldNot cs

abbrev pub AllBreach : Type 0 → List Check → Type 0
AllBreach Honest [] = Unit {0}
AllBreach Honest (c ∷ cs) = (c.holds ≡ true → (c.fault ≡ Room) ⊎ (¬ Honest)) × AllBreach Honest cs

none_here : (c : Check) (cs : List Check) (t : Bool) → c.holds ≡ t → (first_of cs ≡ None → AllHoldNot cs) → cond t (Some c.fault) (first_of cs) ≡ None → AllHoldNot (c ∷ cs)
none_here c cs true e rest h = absurd cc
none_here c cs false e rest h = (e, rest h)

none_hold : (cs : List Check) → first_of cs ≡ None → AllHoldNot cs
none_hold [] h = tt
none_hold (c ∷ cs) h = none_here c cs c.holds refl (none_hold cs) h

one_breaches : (Honest : Type 0) (c : Check) (cs : List Check) (fault : Fault) (t : Bool) → c.holds ≡ t → (c.holds ≡ true → (c.fault ≡ Room) ⊎ (¬ Honest))
    → (first_of cs ≡ Some fault → (fault ≡ Room) ⊎ (¬ Honest)) → cond t (Some c.fault) (first_of cs) ≡ Some fault → (fault ≡ Room) ⊎ (¬ Honest)
one_breaches Honest c cs fault true e here rest h = let same : c.fault ≡ fault = cc in subst (λ (f : Fault). (f ≡ Room) ⊎ (¬ Honest)) same (here e)
one_breaches Honest c cs fault false e here rest h = rest h

some_breaches : (Honest : Type 0) (cs : List Check) (fault : Fault) → AllBreach Honest cs → first_of cs ≡ Some fault → (fault ≡ Room) ⊎ (¬ Honest)
some_breaches Honest [] fault all h = absurd cc
some_breaches Honest (c ∷ cs) fault all h = one_breaches Honest c cs fault c.holds refl all.0 (some_breaches Honest cs fault all.1) h

-- ---- tests

no_not : (t : Bool) → not t ≡ false → t ≡ true
no_not true h = refl
no_not false h = absurd cc

is_not : (t : Bool) → not t ≡ true → t ≡ true → ⊥
is_not true h e = absurd cc
is_not false h e = absurd cc

same_way-tells : (v w : Way) → same_way v w ≡ true → v ≡ w
same_way-tells ToPort ToPort t = refl
same_way-tells ToPort ToManager t = absurd cc
same_way-tells ToPort ToOthers t = absurd cc
same_way-tells ToManager ToPort t = absurd cc
same_way-tells ToManager ToManager t = refl
same_way-tells ToManager ToOthers t = absurd cc
same_way-tells ToOthers ToPort t = absurd cc
same_way-tells ToOthers ToManager t = absurd cc
same_way-tells ToOthers ToOthers t = refl

same_way-self : (w : Way) → same_way w w ≡ true
same_way-self ToPort = refl
same_way-self ToManager = refl
same_way-self ToOthers = refl

no_false : (t : Bool) → t ≡ true → t ≡ false → ⊥
no_false true e h = absurd cc
no_false false e h = absurd cc

neither : (a b : Bool) → (a || b) ≡ false → (a ≡ false) × (b ≡ false)
neither true b h = absurd cc
neither false true h = absurd cc
neither false false h = (refl, refl)

another : (on : Bus) (names : Names) (from : ℕ) → is_own on names from ≡ false → IsAnother on names from
another on names from t = let parts = neither (from == own_on on names) (from == peer_on on names) t in (eqb-false _ _ parts.0, eqb-false _ _ parts.1)

no_other : (on : Bus) (names : Names) (from : ℕ) → is_own on names from ≡ true → IsAnother on names from → ⊥
no_other on names from t other = by (from == own_on on names) (from == peer_on on names) refl refl t
  where
    by : (a b : Bool) → (from == own_on on names) ≡ a → (from == peer_on on names) ≡ b → (a || b) ≡ true → ⊥
    by true b e f t = other.0 (eqb-true _ _ e)
    by false true e f t = other.1 (eqb-true _ _ f)
    by false false e f t = absurd cc

-- ---- deliveries

module _ (P : Plans) (x : Lab P) where
  live-tells : (f : LabFrame) → is_live P x f ≡ true → IsLive P x f
  live-tells f t = let parts = and_parts _ _ t in record { recent = leb-true _ _ parts.0; remembered = eqb-true _ _ parts.1 }

  live-told : (f : LabFrame) → IsLive P x f → is_live P x f ≡ true
  live-told f live = and_from _ _ (le-leb _ _ live.recent) (eq-eqb _ _ live.remembered)

  delivered : (way : Way) (number : ℕ) (frame : Option LabFrame) → slice_get x.frames number ≡ frame → first_of (delivery P way x frame) ≡ None → IsDelivered P way x number
  delivered way number None e h = absurd cc
  delivered way number (Some f) e h =
      let held = none_hold (delivery P way x (Some f)) h in
      record { frame = f; sent = e; meant = same_way-tells f.way way (no_not _ held.0); live = live-tells f (no_not _ held.1.0) }

  undelivered : (way : Way) (number : ℕ) (frame : Option LabFrame) → slice_get x.frames number ≡ frame → AllBreach (IsDelivered P way x number) (delivery P way x frame)
  undelivered way number None e = (λ t. inr (λ d. none_sent (sym e ∙ d.sent)), tt)
    where
      none_sent : {f : LabFrame} → None ≡ Some f → ⊥
      none_sent h = absurd cc
  undelivered way number (Some f) e = (
    λ t. inr (λ d. is_not _ t (subst (λ (v : Way). same_way v way ≡ true) (sym (ap (λ (g : LabFrame). g.way) (same d) ∙ d.meant)) (same_way-self way))),
    (
      λ t. inr (λ d. is_not _ t (live-told f (subst (IsLive P x) (sym (same d)) d.live))),
      (λ t. inl refl, tt),
    ),
  )
    where
      same : (d : IsDelivered P way x number) → f ≡ d.frame
      same d = let both : Some f ≡ Some d.frame = sym e ∙ d.sent in cc

-- ---- messages

quiet_request : (from : ℕ) (rest : List ℕ) (found : Option PldmRequest) → request_in rest ≡ found → pldm_changes from found ≡ false
    → (r : PldmRequest) → IsRequest r rest → pldm_changes from (Some r) ≡ false
quiet_request from rest found e t r is = subst (λ (o : Option PldmRequest). pldm_changes from o ≡ false) (sym e ∙ request-in_back r rest is) t

quiet_message : (from : ℕ) (body : List ℕ) → message_changes from body ≡ false → ChangesNothing from body
quiet_message from body t rest r is request =
    quiet_request from rest (request_in rest) refl (subst (λ (b : List ℕ). message_changes from b ≡ false) is t) r request

loud_message : (from : ℕ) (body : List ℕ) → message_changes from body ≡ true → ChangesNothing from body → ⊥
loud_message from [] t quiet = absurd cc
loud_message from (kind ∷ rest) t quiet =
    let parts = and_parts (kind == 1) (pldm_changes from (request_in rest)) t in
    by (request_in rest) refl parts.1 (ap (λ n. n ∷ rest) (eqb-true kind 1 parts.0))
  where
    by : (found : Option PldmRequest) → request_in rest ≡ found → pldm_changes from found ≡ true → kind ∷ rest ≡ 1 ∷ rest → ⊥
    by None e t same = absurd cc
    by (Some r) e t same = no_false _ t (quiet rest r same (request-in r rest e))

-- ---- noise

framed : {X : Type 0} (o : Option X) → o ≡ None → is_none o ≡ true
framed None h = refl
framed (Some x) h = absurd cc

is_noise : (on : Bus) (bytes : List ℕ) → is_frame on bytes ≡ false → IsNoFrame on bytes
is_noise Ipmb bytes t = λ m is. no_false _ (framed (find (has_frame_fault bytes) frame_faults) (message-no_fault m bytes is)) t
is_noise Smbus bytes t = λ p is. no_false _ (framed (find (has_packet_fault bytes) packet_faults) (packet-whole p bytes is)) t

is_no_noise : (on : Bus) (bytes : List ℕ) → All (λ b. b < 256) bytes → is_frame on bytes ≡ true → IsNoFrame on bytes → ⊥
is_no_noise Ipmb bytes small t none = by (fault-or-message bytes small)
  where
    by : HasFrameFault bytes ⊎ ((m : Msg) × IsMessage m bytes) → ⊥
    by (inl fault) = no_false _ t (ap is_none fault.1)
    by (inr message) = none message.0 message.1
is_no_noise Smbus bytes small t none = by (fault-or-packet bytes small)
  where
    by : HasPacketFault bytes ⊎ ((p : Packet) × IsPacket p bytes) → ⊥
    by (inl fault) = no_false _ t (ap is_none fault.1)
    by (inr packet) = none packet.0 packet.1

-- ---- idles

closed : {X : Type 0} (o : Option X) → not (is_none o) ≡ false → o ≡ None
closed None h = refl
closed (Some x) h = absurd cc

still_closed : {X : Type 0} (a : Bool) (o : Option X) → (a && not (is_none o)) ≡ false → a ≡ true → o ≡ None
still_closed true o h e = closed o h
still_closed false o h e = absurd cc

-- ---- each event

module _ (P : Plans) where
  taken : (x : Lab P) (e : Event) → HasBytes P e → fault_of P x e ≡ None → IsHonest P x e
  taken x (Calls call) small h = tt
  taken x (ToBmc number) small h = delivered P x ToPort number (slice_get x.frames number) refl h
  taken x (ToMgr number) small h = delivered P x ToManager number (slice_get x.frames number) refl h
  taken x (OtherIpmb r) small h = let held = none_hold (checks P x (OtherIpmb r)) h in (held.0, another Ipmb x.manager.names r.header.requester.address held.1.0)
  taken x (OtherSmbus m) small h =
      let held = none_hold (checks P x (OtherSmbus m)) h in
      (quiet_message m.envelope.source_eid m.body held.0, another Smbus x.manager.names m.envelope.source_eid held.1.0)
  taken x (Noise on bytes) small h = is_noise on bytes (none_hold (checks P x (Noise on bytes)) h).0
  taken x (Idles on requester) small h = λ same.
      still_closed (requester == own_on on x.manager.names) (open_bus P.words x.manager.machine) (none_hold (checks P x (Idles on requester)) h).0 (eq-eqb _ _ same)
  taken x (OnBench activity) small h = tt

  breaches : (x : Lab P) (e : Event) → HasBytes P e → AllBreach (IsHonest P x e) (checks P x e)
  breaches x (Calls call) small = (λ t. inl refl, tt)
  breaches x (ToBmc number) small = undelivered P x ToPort number (slice_get x.frames number) refl
  breaches x (ToMgr number) small = undelivered P x ToManager number (slice_get x.frames number) refl
  breaches x (OtherIpmb r) small = (λ t. inr (λ h. no_false _ t h.0), (λ t. inr (λ h. no_other Ipmb x.manager.names _ t h.1), (λ t. inl refl, tt)))
  breaches x (OtherSmbus m) small = (λ t. inr (λ h. loud_message m.envelope.source_eid m.body t h.0), (λ t. inr (λ h. no_other Smbus x.manager.names _ t h.1), (λ t. inl refl, tt)))
  breaches x (Noise on bytes) small = (λ t. inr (λ h. is_no_noise on bytes small t h), tt)
  breaches x (Idles on requester) small = (λ t. inr (λ h. still_open t h), tt)
    where
      still_open : (requester == own_on on x.manager.names && not (is_none (open_bus P.words x.manager.machine))) ≡ true
          → (requester ≡ own_on on x.manager.names → open_bus P.words x.manager.machine ≡ None) → ⊥
      still_open t h =
          let parts = and_parts (requester == own_on on x.manager.names) _ t in
          is_not _ parts.1 (framed (open_bus P.words x.manager.machine) (h (eqb-true _ _ parts.0)))
  breaches x (OnBench activity) small = tt

  pub faults_are_breaches : FaultsAreBreaches P
  faults_are_breaches = record { taken = taken; refused = λ x e fault small h. some_breaches (IsHonest P x e) (checks P x e) fault (breaches x e small) h }
