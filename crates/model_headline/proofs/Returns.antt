-- What a frame that comes to the manager does in a lab, it does in the model's world.
use Rattle.std.proofs.Common.{◌≡◌, ℕ, ◌%◌, Bool, true, false, cond, not, ◌&&◌, List, [], ◌∷◌, length, Option, Some, None, refl, sym, ◌∙◌, ap, subst, inl, inr}
use Rattle.std.specs.Prelude.{◌==◌, slice_get, IfSome, MatchOption}
use Rattle.two_wire.specs.declared.Bus.{Bus}
use Rattle.two_wire.specs.declared.Bus.TheVariants.{Ipmb, Smbus}
use Rattle.mctp_net.specs.Assembly.{Assemblies, open_beside, is_ours}
use Rattle.record_base.specs.declared.op.Op.{Op}
use Rattle.cfg_records.specs.declared.board_file.BoardFile.{BoardFile}
use Rattle.cfg_records.specs.Records.{Records}
use Rattle.model_bus.specs.Repeat.{In}
use Rattle.model_bus.specs.Request.{Kept}
use Rattle.model_bus.specs.Answering.{AreWritten}
use Rattle.model_bus.specs.BusState.{BusState, Event as BusEvent, ReachesManager, taken_now, takes_if as takes_reply}
use Rattle.model_bus.specs.Schedule.{IsLive as IsLiveThere}
use Rattle.model_bus.specs.PacketBus.{BusEnds, PacketEvent, PacketReachesManager, request_name, packet_happens}
use Rattle.model_bus.specs.PacketEffect.{HasPacketEffect}
use Rattle.model_bus.specs.PacketSchedule.{RecentWhereWhole, IsPacketHonest}
use Rattle.model_bus.specs.Effect.{SameRequests, TakesReply}
use Rattle.model_bus.specs.Packet.{packets_of}
use Rattle.model_bus.proofs.Cutting.{packets_cut}
use Rattle.model_bus.proofs.Lists.{Grows}
use Rattle.model_undo.specs.Machine.{Task, Part as TaskPart, Stage, AtStart, Opened, AtEnd, AtHalt, AtUndone, AtRefused, bus_at, same_bus, count_of, reply_of}
use Rattle.model_undo.specs.Joined.{OthersStill}
use Rattle.model_undo.specs.Wires.{number_of}
use Rattle.model_undo.specs.Line.{brings_whole, brings_packets}
use Rattle.model_undo.specs.World as world
use Rattle.model_undo.specs.World.{States, World, ToManager, update}
use Rattle.model_undo.proofs.Buses.{cases_bus}
use Rattle.model_undo.proofs.LineLaws.{effect}
use Rattle.model_undo.proofs.TwoBuses.{packet_lines}
use Rattle.bmc_core.specs.Wires.{answered_from, bytes_of}
use Rattle.bmc_core.specs.Seen.{WaitsAlike}
use Rattle.undo_plans.specs.declared.names.Names.{Names}
use Rattle.model_lab.specs.ManagerSteps.{ManagerState, ManagerStepResult, rests, taken_or, heeded_on, open_count, open_bytes, is_answer, is_part, joins, joins_for, goes_on, hears_response, hears_packet, manager_hears}
use Rattle.model_lab.specs.ManagerEvents.{takes_if, IsOpenOn, IsManagerOf, IsRepliesResponse, IsRepliesPart, BringsPart, name_awaited}
use Rattle.model_lab.specs.Honest.{IsLive, IsDelivered}
use Rattle.model_lab.specs.declared.way.Way.TheVariants.{ToManager as ToTheManager}
use Rattle.model_lab.specs.Lab.{LabFrame, Lab, manager_does, returned}
use Rattle.model_lab.proofs.ManagerEvents.{replies_are_brought}
use Rattle.model_headline.specs.Tied.{own_plans, own_family, own_lines, own_wires, ipmb_bus, smbus_bus, rules_on, requests, HoldsTold, HoldsToldPart, ComesFromAnother, IsHeldBy, IsHeld, EntryAnswers, IsTied, world_of, WorldFollows}
use Rattle.model_headline.specs.Each.{Each}
use Rattle.model_headline.proofs.Each.{each_at}
use Rattle.model_headline.proofs.Frames.{all_held}
use Rattle.model_headline.proofs.Sending.{from_zero}
use Rattle.model_headline.proofs.Begun.{own, words}
use Rattle.model_headline.specs.Follows.{HoldsInWorld}
use Rattle.model_headline.proofs.Calls.{are_closed}
use Rattle.model_headline.proofs.Live.{smbus_holds, ipmb_agrees, smbus_agrees, live_there}
use Rattle.model_headline.proofs.Only.{SameButTaken, taking, only_manager}
use Rattle.model_headline.proofs.Taken.{Took, turn as taken_turn, taken_after, reply_is}

module _ (setup : BoardFile) (names : Names) (plan : List Op) (start : Records) where
  module _ (x : Lab (own_plans setup names)) (on : States (own_lines setup names)) (tied : IsTied setup names x on) (h : HoldsInWorld setup names plan start (world_of setup names x on)) where
    abbrev m : ManagerState (own_plans setup names)
    m = x.manager

    abbrev w : World (own_family setup names) (own_lines setup names)
    w = world_of setup names x on

    -- nothing comes of it
    rest_goes : (d : ManagerStepResult (own_plans setup names)) → d ≡ rests (own_plans setup names) m → WorldFollows setup names x on (manager_does (own_plans setup names) d x)
    rest_goes d is =
        subst (λ e. WorldFollows setup names x on (manager_does (own_plans setup names) e x)) (sym is)
        (let quiet : WorldFollows setup names x on x = record { happenings = []; left = on; may = tt; reaches = refl; gives = tt; tied = tied } in quiet)

    -- ---- a reply is taken

    module _ (bus : Bus) (e : ((own_lines setup names) bus).Event) (task : Task (words setup names)) (part : TaskPart (words setup names)) (at : Opened true task part ≡ m.machine.stage) (same : bus ≡ bus_at (words setup names) part)
        (outside : ((own_lines setup names) bus).IsOutside e) (told : ((own_lines setup names) bus).is_to_manager e ≡ true) (honest : ((own_lines setup names) bus).IsHonest (on bus) e) where
      abbrev now : States (own_lines setup names)
      now = world.moved (own_family setup names) (own_lines setup names) (own_wires setup names) bus e w

      same_bus-same : (a b : Bus) → a ≡ b → same_bus a b ≡ true
      same_bus-same a b is = subst (λ (c : Bus). same_bus a c ≡ true) is (self a)
        where
          self : (a : Bus) → same_bus a a ≡ true
          self Ipmb = refl
          self Smbus = refl

      -- the model's manager looks at it
      looked : world.happens (own_family setup names) (own_lines setup names) (own_wires setup names) w (ToManager bus e) ≡ world.brought (own_family setup names) (own_lines setup names) (own_wires setup names) bus e (((own_lines setup names) bus).brings (on bus) e) w
      looked =
          ap (λ s. world.returns (own_family setup names) (own_lines setup names) (own_wires setup names) bus e s w) (sym at)
          ∙ ap (λ (t : Bool). world.looks (own_family setup names) (own_lines setup names) (own_wires setup names) bus e t w) (same_bus-same bus (bus_at (words setup names) part) same)

      goes_taken : (reply : List ℕ) (joined : Assemblies) → ((own_lines setup names) bus).brings (on bus) e ≡ Some reply → Took setup names plan start x on now tied h bus reply joined
          → WorldFollows setup names x on (manager_does (own_plans setup names) (taken_or (own_plans setup names) (record m { joined = joined }) (reply_of (words setup names) (answered_from bus reply) m.machine)) x)
      goes_taken reply joined brings took_here =
          let took = subst (λ (b : Bus). Took setup names plan start x on now tied h b reply joined) same took_here in
          let after = taken_after setup names plan start x on now tied h task part reply joined at took in
          let turn = taken_turn setup names plan start x on now tied h task part reply joined at took in
          let is : reply_of (words setup names) (answered_from bus reply) m.machine ≡ Some turn =
          ap (λ (b : Bus). reply_of (words setup names) (answered_from b reply) m.machine) same ∙ reply_is setup names plan start x on now tied h task part reply joined at took in
          let deed : taken_or (own_plans setup names) (record m { joined = joined }) (reply_of (words setup names) (answered_from bus reply) m.machine) ≡ goes_on (own_plans setup names) (record m { joined = joined }) turn =
          ap (taken_or (own_plans setup names) (record m { joined = joined })) is in
          record {
            happenings = ToManager bus e ∷ [];
            left = after.left;
            may = (((outside, honest), told), tt);
            gives = tt;
            reaches = looked
                ∙ ap (λ o. world.brought (own_family setup names) (own_lines setup names) (own_wires setup names) bus e o w) brings
                ∙ ap (λ o. world.answered (own_family setup names) (own_lines setup names) (own_wires setup names) bus e o w) is
                ∙ ap (λ (s : States (own_lines setup names)). let z : World (own_family setup names) (own_lines setup names) = record { machine = turn.machine; on = s; board = x.board } in z) (sym after.is_left)
                ∙ after.reaches
                ∙ ap (λ d. world_of setup names (manager_does (own_plans setup names) d x) after.left) (sym deed);
            tied = subst (λ d. IsTied setup names (manager_does (own_plans setup names) d x) after.left) (sym deed) after.ties;
          }

      effect_is : MatchOption (((own_lines setup names) bus).brings (on bus) e) (SameRequests (requests setup names on bus) (((own_lines setup names) bus).requests (((own_lines setup names) bus).happens (on bus) e))) (TakesReply (requests setup names on bus) (((own_lines setup names) bus).requests (((own_lines setup names) bus).happens (on bus) e)))
      effect_is = (packet_lines (own setup names) packets_of packets_cut bus).to_manager (on bus) e (h.holds bus) outside told honest

    -- ---- what is heeded

    same_true : (bus : Bus) (part : TaskPart (words setup names)) → bus ≡ bus_at (words setup names) part → same_bus bus (bus_at (words setup names) part) ≡ true
    same_true bus part is = subst (λ (c : Bus). same_bus bus c ≡ true) is (self bus)
      where
        self : (a : Bus) → same_bus a a ≡ true
        self Ipmb = refl
        self Smbus = refl

    same_false : (a b : Bus) → (a ≡ b → ⊥) → same_bus a b ≡ false
    same_false Ipmb Ipmb ne = absurd (ne refl)
    same_false Ipmb Smbus ne = refl
    same_false Smbus Ipmb ne = refl
    same_false Smbus Smbus ne = absurd (ne refl)

    heeds : (bus : Bus) (task : Task (words setup names)) (part : TaskPart (words setup names)) → Opened true task part ≡ m.machine.stage → bus ≡ bus_at (words setup names) part → heeded_on (own_plans setup names) bus m.machine.stage ≡ Some part
    heeds bus task part at is =
        ap (heeded_on (own_plans setup names) bus) (sym at) ∙ ap (λ (t : Bool). let none : Option (TaskPart (words setup names)) = None in cond t (Some part) none) (same_true bus part is)

    heeds_not : (bus : Bus) (task : Task (words setup names)) (part : TaskPart (words setup names)) → Opened true task part ≡ m.machine.stage → (bus ≡ bus_at (words setup names) part → ⊥) → heeded_on (own_plans setup names) bus m.machine.stage ≡ None
    heeds_not bus task part at other =
        ap (heeded_on (own_plans setup names) bus) (sym at) ∙ ap (λ (t : Bool). let none : Option (TaskPart (words setup names)) = None in cond t (Some part) none) (same_false bus (bus_at (words setup names) part) other)

    -- the model's open request has the manager's bytes
    open_there : (bus : Bus) (task : Task (words setup names)) (part : TaskPart (words setup names)) → Opened true task part ≡ m.machine.stage → bus ≡ bus_at (words setup names) part
        → slice_get (requests setup names on bus).begun (length (requests setup names on bus).taken) ≡ Some (open_bytes (own_plans setup names) bus m part)
    open_there bus task part at is =
        (are_closed setup names plan start x on tied h (Opened true task part) at bus).0 is
        ∙ ap (λ (n : ℕ). Some (bytes_of (number_of bus n) part.asked)) (sym (from_zero _) ∙ sym (tied.counted bus))

    -- ---- IPMB

    module _ (f : LabFrame) (hold : HoldsTold setup names (on Ipmb).frames f) (live : IsLiveThere (ipmb_bus setup names) (on Ipmb) hold.frame) where
      told_is : IsRepliesResponse m.names (ipmb_bus setup names) (on Ipmb) hold.which hold.response
      told_is = record { frame = hold.frame; sent = hold.is_of.sent; live = live; held = hold.held; answers = ap (λ n. is_answer n hold.response) tied.named ∙ hold.answers }

      abbrev comes : BusEvent
      comes = ReachesManager hold.which

      abbrev after_it : BusState
      after_it = takes_reply (taken_now (ipmb_bus setup names) (slice_get (on Ipmb).frames hold.which) (on Ipmb)) (on Ipmb)

      honest_there : ((own_lines setup names) Ipmb).IsHonest (on Ipmb) comes
      honest_there = subst (λ o. IfSome o (IsLiveThere (ipmb_bus setup names) (on Ipmb))) (sym hold.is_of.sent) live

      took_ipmb : (reply : List ℕ) → TakesReply (on Ipmb) after_it reply
          → Took setup names plan start x on (update (own_lines setup names) Ipmb after_it on) tied h Ipmb reply m.joined
      took_ipmb reply taken =
          let s = takes_reply (taken_now (ipmb_bus setup names) (slice_get (on Ipmb).frames hold.which) (on Ipmb)) (on Ipmb) in
          let same : SameButTaken (on Ipmb) s = taking (taken_now (ipmb_bus setup names) (slice_get (on Ipmb).frames hold.which) (on Ipmb)) (on Ipmb) in
          record {
            taken = taken;
            still = still;
            logs = by (λ a b. b.log ≡ a.log) same.log refl;
            frames = by (λ a b. b.frames ≡ a.frames) same.frames refl;
            port = refl;
            waits = tied.waits;
            alone = λ n. inl not_smbus;
            beside = λ _. refl;
          }
        where
          not_smbus : Ipmb ≡ Smbus → ⊥
          not_smbus e = absurd cc

          still : OthersStill Ipmb (requests setup names on) (requests setup names (update (own_lines setup names) Ipmb after_it on))
          still Ipmb ne = absurd (ne refl)
          still Smbus ne = record { begun = refl; carried = refl; taken = refl }

          by : (Q : BusState → BusState → Type 0) → Q (on Ipmb) after_it → Q (on Smbus).bus (on Smbus).bus
              → (any : Bus) → Q (requests setup names on any) (requests setup names (update (own_lines setup names) Ipmb after_it on) any)
          by Q here there Ipmb = here
          by Q here there Smbus = there

      by_brought : (task : Task (words setup names)) (part : TaskPart (words setup names)) → Opened true task part ≡ m.machine.stage → Ipmb ≡ bus_at (words setup names) part
          → (o : Option (List ℕ)) → brings_whole (ipmb_bus setup names) (on Ipmb) comes ≡ o → WorldFollows setup names x on (manager_does (own_plans setup names) (takes_if (own_plans setup names) Ipmb o m) x)
      by_brought task part at same None e = rest_goes (rests (own_plans setup names) m) refl
      by_brought task part at same (Some reply) e =
          goes_taken Ipmb comes task part at same tt refl honest_there reply m.joined e
          (took_ipmb reply (subst (λ o. MatchOption o (SameRequests (on Ipmb) after_it) (TakesReply (on Ipmb) after_it)) e (effect_is Ipmb comes task part at same tt refl honest_there)))

      by_stage : (stage : Stage (words setup names)) → stage ≡ m.machine.stage → WorldFollows setup names x on (manager_does (own_plans setup names) (hears_response (own_plans setup names) hold.response m) x)
      by_stage (Opened true task part) at = elim (cases_bus Ipmb (bus_at (words setup names) part)) [
        | inl same ↦
            let opened : IsOpenOn (own_plans setup names) Ipmb m part (on Ipmb) = record { heeded = heeds Ipmb task part at same; opened = open_there Ipmb task part at same } in
            let is = (replies_are_brought (own_plans setup names)).responses m part (ipmb_bus setup names) (on Ipmb) hold.which hold.response (ipmb_agrees setup names plan start x on tied h) opened told_is in
            subst (λ d. WorldFollows setup names x on (manager_does (own_plans setup names) d x)) (sym is) (by_brought task part at same (brings_whole (ipmb_bus setup names) (on Ipmb) comes) refl)
        | inr other ↦ rest_goes _ ((replies_are_brought (own_plans setup names)).unheeded_response m hold.response (heeds_not Ipmb task part at other))
      ]
      by_stage (Opened false task part) at = rest_goes _ ((replies_are_brought (own_plans setup names)).unheeded_response m hold.response (ap (heeded_on (own_plans setup names) Ipmb) (sym at)))
      by_stage AtStart at = rest_goes _ ((replies_are_brought (own_plans setup names)).unheeded_response m hold.response (ap (heeded_on (own_plans setup names) Ipmb) (sym at)))
      by_stage AtEnd at = rest_goes _ ((replies_are_brought (own_plans setup names)).unheeded_response m hold.response (ap (heeded_on (own_plans setup names) Ipmb) (sym at)))
      by_stage (AtHalt k why) at = rest_goes _ ((replies_are_brought (own_plans setup names)).unheeded_response m hold.response (ap (heeded_on (own_plans setup names) Ipmb) (sym at)))
      by_stage AtUndone at = rest_goes _ ((replies_are_brought (own_plans setup names)).unheeded_response m hold.response (ap (heeded_on (own_plans setup names) Ipmb) (sym at)))
      by_stage (AtRefused k code) at = rest_goes _ ((replies_are_brought (own_plans setup names)).unheeded_response m hold.response (ap (heeded_on (own_plans setup names) Ipmb) (sym at)))

      pub told_goes : WorldFollows setup names x on (manager_does (own_plans setup names) (manager_hears (own_plans setup names) f.value m) x)
      told_goes = subst (λ v. WorldFollows setup names x on (manager_does (own_plans setup names) (manager_hears (own_plans setup names) v m) x)) (sym hold.value) (by_stage m.machine.stage refl)

    -- ---- SMBus

    -- a packet that isn't the controller's is nothing to the manager
    others_part : (f : LabFrame) → ComesFromAnother setup names f → WorldFollows setup names x on (manager_does (own_plans setup names) (manager_hears (own_plans setup names) f.value m) x)
    unfolding hears_packet
    others_part f other =
        subst (λ v. WorldFollows setup names x on (manager_does (own_plans setup names) (manager_hears (own_plans setup names) v m) x)) (sym other.value)
        (rest_goes (hears_packet (own_plans setup names) other.packet m) (by (heeded_on (own_plans setup names) Smbus m.machine.stage) refl))
      where
        middle : (a b c : Bool) → b ≡ false → (a && (b && c)) ≡ false
        middle true b c e = ap (λ (t : Bool). t && c) e
        middle false b c e = refl

        not_part : is_part m.names (open_count (own_plans setup names) Smbus m) other.packet ≡ false
        not_part = middle (other.packet.envelope.destination == m.names.own_wire && other.packet.envelope.source == m.names.peer_wire) (other.packet.envelope.source_eid == m.names.peer_eid)
            (not other.packet.envelope.tag_owner && other.packet.envelope.tag == open_count (own_plans setup names) Smbus m % 8) (ap (λ n. other.packet.envelope.source_eid == n.peer_eid) tied.named ∙ other.source)

        by : (o : Option (TaskPart (words setup names))) → heeded_on (own_plans setup names) Smbus m.machine.stage ≡ o → hears_packet (own_plans setup names) other.packet m ≡ rests (own_plans setup names) m
        by None e = ap (joins_for (own_plans setup names) other.packet m) e
        by (Some part) e =
            ap (joins_for (own_plans setup names) other.packet m) e
            ∙ ap (λ (t : Bool). cond t (joins (own_plans setup names) other.packet m) (rests (own_plans setup names) m)) not_part

    module _ (f : LabFrame) (hold : HoldsToldPart setup names (on Smbus).bus.frames f) (live : IsLiveThere (rules_on setup names Smbus) (on Smbus).bus hold.frame) where
      part_is : IsRepliesPart m.names (smbus_bus setup names) (on Smbus) hold.which hold.place hold.packet
      part_is = record {
        frame = hold.frame;
        sent = hold.is_of.sent;
        live = live;
        held = hold.held;
        named = hold.named;
        destination = hold.destination ∙ ap (λ n. n.own_wire) (sym tied.named);
        source = hold.source ∙ ap (λ n. n.peer_wire) (sym tied.named);
        ours = ap (λ n. is_ours n.own_eid hold.packet) tied.named ∙ hold.ours;
      }

      abbrev arrives : PacketEvent
      arrives = PacketReachesManager hold.which hold.place

      abbrev ends_after : BusEnds
      ends_after = packet_happens (smbus_bus setup names) (on Smbus) arrives

      abbrev moved : States (own_lines setup names)
      moved = update (own_lines setup names) Smbus ends_after on

      honest_part : IsPacketHonest RecentWhereWhole (smbus_bus setup names) (on Smbus) arrives
      honest_part = subst (λ o. IfSome o (IsLiveThere (rules_on setup names Smbus) (on Smbus).bus)) (sym hold.is_of.sent) live

      effect_of_part : HasPacketEffect (smbus_bus setup names) (on Smbus) arrives
      effect_of_part = effect (smbus_bus setup names) packets_cut (on Smbus) arrives (smbus_holds setup names plan start x on h) honest_part

      manager_is : IsManagerOf (own_plans setup names) m (smbus_bus setup names) (on Smbus)
      manager_is = record {
        waits = tied.waits;
        alone = ap (λ n. open_beside (name_awaited n (open_count (own_plans setup names) Smbus m)) m.joined) tied.named ∙ tied.alone;
        counted = tied.counted Smbus ∙ from_zero _;
        controller = ap (λ n. n.peer_eid) (sym tied.named);
      }

      each_moved : (Q : BusState → BusState → Type 0) → Q (on Ipmb) (on Ipmb) → Q (on Smbus).bus ends_after.bus → (any : Bus) → Q (requests setup names on any) (requests setup names moved any)
      each_moved Q there here Ipmb = there
      each_moved Q there here Smbus = here

      still : OthersStill Smbus (requests setup names on) (requests setup names moved)
      still Ipmb ne = record { begun = refl; carried = refl; taken = refl }
      still Smbus ne = absurd (ne refl)

      -- a reply is whole
      took_part : (reply : List ℕ) (joined : Assemblies) → TakesReply (on Smbus).bus ends_after.bus reply → WaitsAlike ends_after.manager joined → joined.open_count ≡ 0
          → Took setup names plan start x on moved tied h Smbus reply joined
      took_part reply joined taken waits none =
          let only = only_manager (smbus_bus setup names) (on Smbus) hold.which hold.place in
          record {
            taken = taken;
            still = still;
            logs = each_moved (λ a b. b.log ≡ a.log) refl only.bus.log;
            frames = each_moved (λ a b. b.frames ≡ a.frames) refl only.bus.frames;
            port = only.port;
            waits = waits;
            alone = λ n. inr none;
            beside = λ ne. absurd (ne refl);
          }

      -- no reply is whole yet
      waits_tied : (joined : Assemblies) → SameRequests (on Smbus).bus ends_after.bus → WaitsAlike ends_after.manager joined
          → open_beside (name_awaited m.names (open_count (own_plans setup names) Smbus m)) joined ≡ 0 → IsTied setup names (record x { manager = record m { joined = joined } }) moved
      waits_tied joined same waits alone =
          let only = only_manager (smbus_bus setup names) (on Smbus) hold.which hold.place in
          record {
            named = tied.named;
            ipmb_wire = tied.ipmb_wire;
            smbus_wire = tied.smbus_wire;
            ipmb_log = tied.ipmb_log;
            smbus_port = record {
              log = only.bus.log ∙ tied.smbus_port.log;
              waits = subst (λ v. WaitsAlike v x.smbus.kept) (sym only.port) tied.smbus_port.waits;
              sound = tied.smbus_port.sound;
            };
            waits = waits;
            alone = ap (λ n. open_beside (name_awaited n (open_count (own_plans setup names) Smbus m)) joined) (sym tied.named) ∙ alone;
            counted = counted;
            written = written;
            answered = answered;
            made = tied.made;
            frames = all_held setup names on moved x.frames (each_moved (λ a b. Grows a.frames b.frames) (λ n g e. e) (λ n g e. ap (λ fs. slice_get fs n) only.bus.frames ∙ e)) tied.frames;
            opened = λ n t is. tied.opened n t (subst (λ v. In t (v (request_name (smbus_bus setup names) n))) only.port is);
          }
        where
          counted : (bus : Bus) → count_of bus m.machine.counts ≡ length (requests setup names moved bus).taken
          counted Ipmb = tied.counted Ipmb
          counted Smbus = tied.counted Smbus ∙ ap (λ (l : List (List ℕ)). length l) (sym same.taken)

          answered : (bus : Bus) → Each (EntryAnswers setup names bus) (requests setup names moved bus).log
          answered Ipmb = tied.answered Ipmb
          answered Smbus = subst (Each (EntryAnswers setup names Smbus)) (sym (only_manager (smbus_bus setup names) (on Smbus) hold.which hold.place).bus.log) (tied.answered Smbus)

          written : (bus : Bus) → AreWritten bus (rules_on setup names bus) (requests setup names moved bus)
          written Ipmb = tied.written Ipmb
          written Smbus = record {
            requests = λ n b e. (tied.written Smbus).requests n b (ap (λ (l : List (List ℕ)). slice_get l n) (sym same.begun) ∙ e);
            replies = λ n k e. (tied.written Smbus).replies n k (ap (λ (l : List Kept). slice_get l n) (sym same.carried) ∙ e);
          }

      by_brought_part : (task : Task (words setup names)) (part : TaskPart (words setup names)) (at : Opened true task part ≡ m.machine.stage) (same : Smbus ≡ bus_at (words setup names) part)
          → (r : BringsPart (own_plans setup names) m (smbus_bus setup names) (on Smbus) hold.which hold.place hold.packet) → (o : Option (List ℕ)) → brings_packets (smbus_bus setup names) (on Smbus) arrives ≡ o
          → WorldFollows setup names x on (manager_does (own_plans setup names) (takes_if (own_plans setup names) Smbus o (record m { joined = r.joined })) x)
      by_brought_part task part at same r None e =
          let still = subst (λ o. MatchOption o (SameRequests (on Smbus).bus ends_after.bus) (TakesReply (on Smbus).bus ends_after.bus)) e (effect_is Smbus arrives task part at same tt refl honest_part) in
          record {
            happenings = ToManager Smbus arrives ∷ [];
            left = moved;
            may = (((tt, honest_part), refl), tt);
            gives = tt;
            reaches = looked Smbus arrives task part at same tt refl honest_part ∙ ap (λ o. world.brought (own_family setup names) (own_lines setup names) (own_wires setup names) Smbus arrives o w) e;
            tied = waits_tied r.joined still r.waits r.alone;
          }
      by_brought_part task part at same r (Some reply) e =
          let taken = subst (λ o. MatchOption o (SameRequests (on Smbus).bus ends_after.bus) (TakesReply (on Smbus).bus ends_after.bus)) e (effect_is Smbus arrives task part at same tt refl honest_part) in
          let none = subst (λ o. IfSome o (λ reply. r.joined.open_count ≡ 0)) e r.none_left in
          goes_taken Smbus arrives task part at same tt refl honest_part reply r.joined e (took_part reply r.joined taken r.waits none)

      part_by_stage : (stage : Stage (words setup names)) → stage ≡ m.machine.stage → WorldFollows setup names x on (manager_does (own_plans setup names) (hears_packet (own_plans setup names) hold.packet m) x)
      part_by_stage (Opened true task part) at = elim (cases_bus Smbus (bus_at (words setup names) part)) [
        | inl same ↦
            let opened : IsOpenOn (own_plans setup names) Smbus m part (on Smbus).bus = record { heeded = heeds Smbus task part at same; opened = open_there Smbus task part at same } in
            let r = (replies_are_brought (own_plans setup names)).parts m part (smbus_bus setup names) (on Smbus) hold.which hold.place hold.packet (smbus_agrees setup names plan start x on tied h) effect_of_part opened manager_is part_is in
            subst (λ d. WorldFollows setup names x on (manager_does (own_plans setup names) d x)) (sym r.deed) (by_brought_part task part at same r (brings_packets (smbus_bus setup names) (on Smbus) arrives) refl)
        | inr other ↦ rest_goes _ ((replies_are_brought (own_plans setup names)).unheeded_part m hold.packet (heeds_not Smbus task part at other))
      ]
      part_by_stage (Opened false task part) at = rest_goes _ ((replies_are_brought (own_plans setup names)).unheeded_part m hold.packet (ap (heeded_on (own_plans setup names) Smbus) (sym at)))
      part_by_stage AtStart at = rest_goes _ ((replies_are_brought (own_plans setup names)).unheeded_part m hold.packet (ap (heeded_on (own_plans setup names) Smbus) (sym at)))
      part_by_stage AtEnd at = rest_goes _ ((replies_are_brought (own_plans setup names)).unheeded_part m hold.packet (ap (heeded_on (own_plans setup names) Smbus) (sym at)))
      part_by_stage (AtHalt k why) at = rest_goes _ ((replies_are_brought (own_plans setup names)).unheeded_part m hold.packet (ap (heeded_on (own_plans setup names) Smbus) (sym at)))
      part_by_stage AtUndone at = rest_goes _ ((replies_are_brought (own_plans setup names)).unheeded_part m hold.packet (ap (heeded_on (own_plans setup names) Smbus) (sym at)))
      part_by_stage (AtRefused k code) at = rest_goes _ ((replies_are_brought (own_plans setup names)).unheeded_part m hold.packet (ap (heeded_on (own_plans setup names) Smbus) (sym at)))

      pub told_part_goes : WorldFollows setup names x on (manager_does (own_plans setup names) (manager_hears (own_plans setup names) f.value m) x)
      told_part_goes = subst (λ v. WorldFollows setup names x on (manager_does (own_plans setup names) (manager_hears (own_plans setup names) v m) x)) (sym hold.value) (part_by_stage m.machine.stage refl)

    -- ---- any frame to the manager

    by_bus : (f : LabFrame) (bus : Bus) → f.on ≡ bus → IsLive (own_plans setup names) x f → IsHeldBy setup names ToTheManager bus on f → WorldFollows setup names x on (manager_does (own_plans setup names) (manager_hears (own_plans setup names) f.value m) x)
    by_bus f Ipmb at live hold = told_goes f hold (live_there setup names plan start x on tied h f hold.frame Ipmb at live hold.is_of.request hold.is_of.idles)
    by_bus f Smbus at live (inl hold) = told_part_goes f hold (live_there setup names plan start x on tied h f hold.frame Smbus at live hold.is_of.request hold.is_of.idles)
    by_bus f Smbus at live (inr other) = others_part f other

    -- a frame comes to the manager
    pub returned_goes : (number : ℕ) → IsDelivered (own_plans setup names) ToTheManager x number → WorldFollows setup names x on (returned (own_plans setup names) setup (slice_get x.frames number) x)
    returned_goes number d =
        let held = each_at (IsHeld setup names on) x.frames number d.frame tied.frames d.sent in
        let here = subst (λ way. IsHeldBy setup names way d.frame.on on d.frame) d.meant held in
        subst (λ o. WorldFollows setup names x on (returned (own_plans setup names) setup o x)) (sym d.sent) (by_bus d.frame d.frame.on refl d.live here)
