-- What a packet of the manager that comes to the port on SMBus does in a lab, it does in the model's world.
use Rattle.std.proofs.Common.{◌≡◌, ℕ, ◌+◌, ◌%◌, ◌≤◌, Bool, true, false, cond, ◌&&◌, List, [], ◌∷◌, ◌++◌, length, Option, Some, None, refl, sym, ◌∙◌, ap, subst, arith, ◌⊎◌, inl, inr}
use Rattle.std.specs.Prelude.{◌==◌, slice_get, IfSome}
use Rattle.std.proofs.lemmas.Bool.{eq-eqb, eqb-true}
use Rattle.two_wire.specs.declared.Bus.TheVariants.{Smbus}
use Rattle.mctp_net.specs.declared.packet.Packet.{Packet}
use Rattle.mctp_net.specs.declared.taken.DropCause.{DropCause}
use Rattle.mctp_net.specs.declared.taken.DropCause.TheVariants.{NotOurs, NoStart, TooLong, OutOfSequence, UnitSize, NoSlot}
use Rattle.mctp_net.specs.Cut.{piece}
use Rattle.mctp_net.specs.Assembly.{is_ours, drop_cause}
use Rattle.mctp_net.proofs.Causes.{passes}
use Rattle.record_base.specs.declared.op.Op.{Op}
use Rattle.cfg_records.specs.declared.board_file.BoardFile.{BoardFile}
use Rattle.cfg_records.specs.Records.{Records}
use Rattle.model_bus.specs.Repeat.{In}
use Rattle.model_bus.specs.Assembly.{Name, is_name, SentPacket, Step, IsWhole, takes, waiting}
use Rattle.model_bus.specs.BusState.{Frame, Content}
use Rattle.model_bus.specs.Schedule.{IsLive as IsLiveThere}
use Rattle.model_bus.specs.PacketBus.{PacketBus, BusEnds, PacketEvent, PacketReachesPort, OtherPacket, request_name, set_at, whole_comes, port_takes, packet_comes, packet_at_port, packet_happens}
use Rattle.model_bus.specs.PacketSchedule.{RecentWhereWhole, MayJoin, PacketMayJoin, JoinsAtPort, IsPacketHonest}
use Rattle.model_bus.specs.PacketEffect.{HasPacketEffect}
use Rattle.model_bus.proofs.Cutting.{packets_cut}
use Rattle.model_undo.specs.World.{States}
use Rattle.model_undo.proofs.LineLaws.{effect}
use Rattle.bmc_core.specs.Seen.{seen, AgreesWithJoin}
use Rattle.bmc_core.proofs.PacketSteps.{takes-agrees}
use Rattle.undo_plans.specs.declared.names.Names.{Names}
use Rattle.bmc_core.specs.Values.{Part}
use Rattle.bmc_core.specs.PortEvents.{name_in, part_answer_to, PartsAreEvents}
use Rattle.model_lab.specs.Own.{JoinsOwn}
use Rattle.model_lab.specs.Lab.{LabFrame, Lab, opens}
use Rattle.bmc_core.proofs.PortEvents.{parts_leave_log}
use Rattle.model_headline.specs.Tied.{own_plans, own_lines, smbus_bus, rules_on, HoldsAskedPart, IsTied, world_of}
use Rattle.model_headline.specs.Follows.{HoldsInWorld}
use Rattle.model_headline.proofs.Sending.{from_zero}
use Rattle.model_headline.proofs.Live.{smbus_holds}

module _ (setup : BoardFile) (names : Names) (plan : List Op) (start : Records) where
  module _ (x : Lab (own_plans setup names)) (on : States (own_lines setup names)) (tied : IsTied setup names x on) (h : HoldsInWorld setup names plan start (world_of setup names x on)) (f : LabFrame) (hold : HoldsAskedPart setup names (on Smbus) f)
      (live : IsLiveThere (rules_on setup names Smbus) (on Smbus).bus hold.part.frame) (mine : JoinsOwn (own_plans setup names) x f.request (Part hold.packet)) where
    abbrev pub b : PacketBus
    b = smbus_bus setup names

    abbrev pub p : Packet
    p = hold.packet

    abbrev pub g : Frame
    g = hold.part.frame

    abbrev pub ends : BusEnds
    ends = on Smbus

    abbrev pub cause : Option DropCause
    cause = drop_cause x.smbus.eid x.smbus.kept p

    abbrev pub answer : List ℕ
    answer = part_answer_to setup x.smbus x.board p

    abbrev pub arrives : PacketEvent
    arrives = PacketReachesPort hold.which hold.place answer

    -- what the model has of another's packet that is the same
    abbrev pub others_event : PacketEvent
    others_event = OtherPacket (name_in p) (seen (piece p)) answer

    abbrev pub sent : SentPacket
    sent = record { request = g.request; idles = g.idles; packet = seen (piece p) }

    abbrev pub taken : Step × List SentPacket
    taken = takes (ends.port (name_in p)) sent

    -- what waits under the packet's name is of the requests under its tag
    pub tag_is : p.envelope.tag ≡ g.request % 8
    tag_is = ap (λ (n : Name). n.tag) hold.part.named ∙ ap (λ (n : ℕ). n % 8) (sym (from_zero g.request))

    pub agrees : AgreesWithJoin cause p.end (waiting (ends.port (name_in p)) sent ++ sent ∷ []) taken
    agrees = takes-agrees x.smbus.eid x.smbus.kept p sent (ends.port (name_in p)) refl (tied.smbus_port.waits _)

    -- ---- it may come

    pub waits_of : (t : SentPacket) → In t (ends.port (name_in p)) → t.request ≡ x.opened p.envelope.tag
    waits_of t is =
        tied.opened g.request t (subst (λ (n : Name). In t (ends.port n)) hold.part.named is) ∙ ap x.opened (sym tag_is)

    recent : cause ≡ None → (t : SentPacket) → In t (waiting (ends.port (name_in p)) sent) → length ends.bus.begun ≤ t.request + 8
    recent none t is = by p.start refl is
      where
        by : (s : Bool) → p.start ≡ s → In t (cond s [] (ends.port (name_in p))) → length ends.bus.begun ≤ t.request + 8
        by true e is = absurd is
        by false e is =
            let same : t.request ≡ g.request = waits_of t is ∙ mine e none ∙ sym hold.same_request in
            let most = live.0 in
            omega (arith, same, most)

    may_join : (c : Option DropCause) → cause ≡ c → (c ≡ Some NotOurs → ⊥) → (c ≡ Some NoSlot → ⊥) → AgreesWithJoin c p.end (waiting (ends.port (name_in p)) sent ++ sent ∷ []) taken
        → MayJoin RecentWhereWhole (rules_on setup names Smbus) ends.bus (ends.port (name_in p)) sent
    may_join (Some NotOurs) e ours slot a whole = absurd (ours refl)
    may_join (Some NoSlot) e ours slot a whole = absurd (slot refl)
    may_join (Some NoStart) e ours slot a whole = absurd (subst (λ (r : Step × List SentPacket). IsWhole r.0) a whole)
    may_join (Some TooLong) e ours slot a whole = absurd (subst (λ (r : Step × List SentPacket). IsWhole r.0) a whole)
    may_join (Some OutOfSequence) e ours slot a whole = absurd (subst (λ (r : Step × List SentPacket). IsWhole r.0) a whole)
    may_join (Some UnitSize) e ours slot a whole = absurd (subst (λ (r : Step × List SentPacket). IsWhole r.0) a whole)
    may_join None e ours slot a whole = recent e

    pub honest_part : (cause ≡ Some NotOurs → ⊥) → (cause ≡ Some NoSlot → ⊥) → IsPacketHonest RecentWhereWhole b ends arrives
    honest_part ours slot =
        let here : MayJoin RecentWhereWhole (rules_on setup names Smbus) ends.bus (ends.port (name_in p)) sent = may_join cause refl ours slot agrees in
        let named : MayJoin RecentWhereWhole (rules_on setup names Smbus) ends.bus (ends.port (request_name b g.request)) sent =
        subst (λ (n : Name). MayJoin RecentWhereWhole (rules_on setup names Smbus) ends.bus (ends.port n) sent) hold.part.named here in
        let placed : PacketMayJoin RecentWhereWhole (rules_on setup names Smbus) ends.bus (ends.port (request_name b g.request)) g.request g.idles (slice_get (b.split hold.part.bytes) hold.place) =
        subst (λ o. PacketMayJoin RecentWhereWhole (rules_on setup names Smbus) ends.bus (ends.port (request_name b g.request)) g.request g.idles o) (sym hold.part.part) named in
        let joins : JoinsAtPort RecentWhereWhole b ends hold.place g.request g.idles g.content =
        subst (λ (c : Content). JoinsAtPort RecentWhereWhole b ends hold.place g.request g.idles c) (sym hold.part.asks) placed in
        subst (λ (o : Option Frame). IfSome o (λ (k : Frame). IsLiveThere (rules_on setup names Smbus) ends.bus k × JoinsAtPort RecentWhereWhole b ends hold.place k.request k.idles k.content)) (sym hold.part.sent) (live, joins)

    pub effect_of : (cause ≡ Some NotOurs → ⊥) → (cause ≡ Some NoSlot → ⊥) → HasPacketEffect b ends arrives
    effect_of ours slot = effect b packets_cut ends arrives (smbus_holds setup names plan start x on h) (honest_part ours slot)

    -- ---- what it leaves

    -- both ends after it, by what the port's end does with it
    abbrev pub ends_by : Step × List SentPacket → BusEnds
    ends_by r = record ends { bus = whole_comes (rules_on setup names Smbus) answer g.request r.0 ends.bus; port = set_at (name_in p) r.1 ends.port }

    pub happens_so : packet_happens b ends arrives ≡ ends_by taken
    happens_so =
        ap (λ (o : Option Frame). packet_at_port b answer hold.place o ends) hold.part.sent
        ∙ ap (λ (c : Content). packet_comes b answer hold.place g.request g.idles c ends) hold.part.asks
        ∙ ap (λ o. port_takes b answer g.request g.idles o ends) hold.part.part
        ∙ ap (λ (n : Name).
        let r = takes (ends.port n) sent in
        let y : BusEnds = record ends { bus = whole_comes (rules_on setup names Smbus) answer g.request r.0 ends.bus; port = set_at n r.1 ends.port } in y) (sym hold.part.named)

    -- the law of single packets
    pub leaves : PartsAreEvents setup x.smbus x.board p b ends
    leaves = parts_leave_log setup x.smbus x.board p b ends hold.small tied.smbus_port

    -- ---- what is opened under each tag

    abbrev pub opened_after : ℕ → ℕ
    opened_after = (opens (own_plans setup names) (Part p) f.request x).opened

    pub opened_at : (tag : ℕ) (s o : Bool) → p.start ≡ s → is_ours x.smbus.eid p ≡ o → opened_after tag ≡ cond (s && o && (tag == p.envelope.tag)) f.request (x.opened tag)
    opened_at tag s o e m = by (p.start && is_ours x.smbus.eid p) refl
      where
        by : (t : Bool) → (p.start && is_ours x.smbus.eid p) ≡ t → opened_after tag ≡ cond (s && o && (tag == p.envelope.tag)) f.request (x.opened tag)
        by true t = ap (λ (u : Bool). (let z : Lab (own_plans setup names) = cond u (record x { opened = λ k. cond (k == p.envelope.tag) f.request (x.opened k) }) x in z).opened tag) t
            ∙ ap (λ (u : Bool). cond (u && (tag == p.envelope.tag)) f.request (x.opened tag)) (sym t ∙ ap (λ (u : Bool). u && is_ours x.smbus.eid p) e ∙ ap (λ (u : Bool). s && u) m)
        by false t = ap (λ (u : Bool). (let z : Lab (own_plans setup names) = cond u (record x { opened = λ k. cond (k == p.envelope.tag) f.request (x.opened k) }) x in z).opened tag) t
            ∙ ap (λ (u : Bool). cond (u && (tag == p.envelope.tag)) f.request (x.opened tag)) (sym t ∙ ap (λ (u : Bool). u && is_ours x.smbus.eid p) e ∙ ap (λ (u : Bool). s && u) m)

    -- ---- the tie after it

    -- what is opened is all that a packet changes of a lab before the port has it
    pub opens_is : opens (own_plans setup names) (Part p) f.request x ≡ record x { opened = opened_after }
    opens_is = by (p.start && is_ours x.smbus.eid p)
      where
        by : (t : Bool) → (let z : Lab (own_plans setup names) = cond t (record x { opened = λ k. cond (k == p.envelope.tag) f.request (x.opened k) }) x in z)
            ≡ record x { opened = (let z : Lab (own_plans setup names) = cond t (record x { opened = λ k. cond (k == p.envelope.tag) f.request (x.opened k) }) x in z).opened }
        by true = refl
        by false = refl

    -- under another tag nothing was opened
    opened_beside : (tag : ℕ) → (tag == p.envelope.tag) ≡ false → opened_after tag ≡ x.opened tag
    opened_beside tag other = opened_at tag p.start (is_ours x.smbus.eid p) refl refl ∙ by (p.start && is_ours x.smbus.eid p)
      where
        by : (t : Bool) → cond (t && (tag == p.envelope.tag)) f.request (x.opened tag) ≡ x.opened tag
        by true = ap (λ (u : Bool). cond u f.request (x.opened tag)) other
        by false = refl

    -- names of the manager's requests are told apart by their tags
    named_by_tag : (n : ℕ) → is_name (request_name b n) (name_in p) ≡ (n % 8 == p.envelope.tag)
    named_by_tag n =
        ap (λ (m : Name). is_name (request_name b n) m) hold.part.named
        ∙ ap (λ (t : Bool). (t && true) && ((0 + n) % 8 == (0 + g.request) % 8)) (eq-eqb names.own_eid names.own_eid refl)
        ∙ ap (λ (k : ℕ). k % 8 == (0 + g.request) % 8) (sym (from_zero n))
        ∙ ap (λ (k : ℕ). n % 8 == k % 8) (sym (from_zero g.request))
        ∙ ap (λ (k : ℕ). n % 8 == k) (sym tag_is)

    -- what waits after it is of the requests that were opened
    pub still_opened : (now : List SentPacket) → ((t : SentPacket) → In t now → t.request ≡ opened_after p.envelope.tag)
        → (n : ℕ) (t : SentPacket) → In t (set_at (name_in p) now ends.port (request_name b n)) → t.request ≡ opened_after (n % 8)
    still_opened now mine_now n t is = by (n % 8 == p.envelope.tag) refl (subst (λ (u : Bool). In t (cond u now (ends.port (request_name b n)))) (named_by_tag n) is)
      where
        by : (u : Bool) → (n % 8 == p.envelope.tag) ≡ u → In t (cond u now (ends.port (request_name b n))) → t.request ≡ opened_after (n % 8)
        by true e is = mine_now t is ∙ ap opened_after (sym (eqb-true _ _ e))
        by false e is = tied.opened n t is ∙ sym (opened_beside (n % 8) e)

    -- what is opened under the packet's own tag, where it is taken
    pub own_opened : cause ≡ None → f.request ≡ opened_after p.envelope.tag
    own_opened none = sym (by p.start refl)
      where
        ours : is_ours x.smbus.eid p ≡ true
        ours = (passes x.smbus.eid x.smbus.kept p none).0

        self : (p.envelope.tag == p.envelope.tag) ≡ true
        self = eq-eqb _ _ refl

        by : (s : Bool) → p.start ≡ s → opened_after p.envelope.tag ≡ f.request
        by true e = opened_at p.envelope.tag true true e ours ∙ ap (λ (u : Bool). cond u f.request (x.opened p.envelope.tag)) self
        by false e = opened_at p.envelope.tag false true e ours ∙ mine e none

    in_more : (ss : List SentPacket) (s t : SentPacket) → In t (ss ++ s ∷ []) → In t ss ⊎ (s ≡ t)
    in_more [] s t (inl same) = inr same
    in_more [] s t (inr never_so) = absurd never_so
    in_more (q ∷ qs) s t (inl same) = inl (inl same)
    in_more (q ∷ qs) s t (inr later) = elim (in_more qs s t later) [ inl there ↦ inl (inr there) | inr same ↦ inr same ]

    -- what waits with it, where it waits
    pub waiting_opened : cause ≡ None → (t : SentPacket) → In t (waiting (ends.port (name_in p)) sent ++ sent ∷ []) → t.request ≡ opened_after p.envelope.tag
    waiting_opened none t is = elim (in_more (waiting (ends.port (name_in p)) sent) sent t is) [
      | inl there ↦ before p.start refl there
      | inr same ↦ ap (λ (s : SentPacket). s.request) (sym same) ∙ hold.same_request ∙ own_opened none
    ]
      where
        before : (s : Bool) → p.start ≡ s → In t (cond s [] (ends.port (name_in p))) → t.request ≡ opened_after p.envelope.tag
        before true e is = absurd is
        before false e is = waits_of t is ∙ mine e none ∙ own_opened none
