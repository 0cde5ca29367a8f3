-- The laws of packets.
use Rattle.std.proofs.Common.{ℕ, ◌+◌, ◌≤◌, List, [], ◌∷◌, ◌++◌, length, Option, Some, None, sym, subst}
use Rattle.std.specs.Prelude.{slice_get, IfSome}
use Rattle.model_bus.specs.Numbering.{Rules}
use Rattle.model_bus.specs.BusState.{BusState, Frame, Content, Ask, Reply}
use Rattle.model_bus.specs.Schedule.{IsLive}
use Rattle.model_bus.specs.Packet.{Packet}
use Rattle.model_bus.specs.Assembly.{SentPacket, Step, Waits, Whole, Drops, IsWhole, IsJoined, takes}
use Rattle.model_bus.specs.PacketBus.{PacketBus, rules_of, request_name, BusEnds, PacketEvent, Plain, PacketReachesPort, PacketReachesManager, OtherPacket, OtherReplyPacket, Closes, Clears, PacketResumes, packet_happens, packet_run}
use Rattle.model_bus.specs.PacketSchedule.{JoinRule, LiveWhereJoined, OneRequestWhereJoined, RecentWhereWhole, MayJoin, PacketMayJoin, JoinsAtPort, IsPacketHonest, AllPacketHonest, AlwaysAtMostOnceInPackets, RuleImplies, NoneOpenIsPacketHonest}
use Rattle.model_bus.specs.PacketEffect.{EventsHavePacketEffects}
use Rattle.model_bus.proofs.WholeMessages.{at_most_once_from, none_open}
use Rattle.model_bus.proofs.PacketEnds.{packet_step, packet_run_holds, start_ends_hold}

-- what completes a message is taken
whole_joined : (st : Step) → IsWhole st → IsJoined st
whole_joined Waits whole = absurd whole
whole_joined (Whole ss) whole = tt
whole_joined Drops whole = whole

-- a rule that asks no less of a packet of a recent request than that what waits is recent where it completes a message
abbrev pub AsksNoLess : JoinRule → Type 0
AsksNoLess rule = (b : Rules) (s : BusState) (taken : List SentPacket) (p : SentPacket) → length s.begun ≤ p.request + b.span → MayJoin rule b s taken p → MayJoin RecentWhereWhole b s taken p

pub recent_itself : AsksNoLess RecentWhereWhole
recent_itself b s taken p live joins = joins

pub live_is_recent : AsksNoLess LiveWhereJoined
live_is_recent b s taken p live joins whole t is = (joins (whole_joined (takes taken p).0 whole) t is).0

pub one_is_recent : AsksNoLess OneRequestWhereJoined
one_is_recent b s taken p live joins whole t is =
    let same = joins (whole_joined (takes taken p).0 whole) t is in
    subst (λ (n : ℕ). length s.begun ≤ n + b.span) (sym same) live

module _ (rule : JoinRule) (asks : AsksNoLess rule) (b : PacketBus) where
  packet_implies : (s : BusState) (taken : List SentPacket) (n idles : ℕ) (o : Option Packet) → length s.begun ≤ n + (rules_of b).span → PacketMayJoin rule (rules_of b) s taken n idles o → PacketMayJoin RecentWhereWhole (rules_of b) s taken n idles o
  packet_implies s taken n idles None live joins = joins
  packet_implies s taken n idles (Some p) live joins = asks (rules_of b) s taken (record { request = n; idles = idles; packet = p }) live joins

  content_implies : (x : BusEnds) (place n idles : ℕ) (c : Content) → length x.bus.begun ≤ n + (rules_of b).span → JoinsAtPort rule b x place n idles c → JoinsAtPort RecentWhereWhole b x place n idles c
  content_implies x place n idles (Ask bytes) live joins = packet_implies x.bus (x.port (request_name b n)) n idles (slice_get (b.split bytes) place) live joins
  content_implies x place n idles (Reply number reply) live joins = joins

  frame_implies : (x : BusEnds) (place : ℕ) (o : Option Frame) → IfSome o (λ f. IsLive (rules_of b) x.bus f × JoinsAtPort rule b x place f.request f.idles f.content)
      → IfSome o (λ f. IsLive (rules_of b) x.bus f × JoinsAtPort RecentWhereWhole b x place f.request f.idles f.content)
  frame_implies x place None honest = honest
  frame_implies x place (Some f) honest = (honest.0, content_implies x place f.request f.idles f.content honest.0.0 honest.1)

  pub event_implies : (x : BusEnds) (e : PacketEvent) → IsPacketHonest rule b x e → IsPacketHonest RecentWhereWhole b x e
  event_implies x (Plain e) honest = honest
  event_implies x (PacketReachesPort which place answer) honest = frame_implies x place (slice_get x.bus.frames which) honest
  event_implies x (PacketReachesManager which place) honest = honest
  event_implies x (OtherPacket name packet answer) honest = honest
  event_implies x (OtherReplyPacket name packet number) honest = honest
  event_implies x (Closes name) honest = honest
  event_implies x Clears honest = honest
  event_implies x PacketResumes honest = honest

  pub all_imply : (events : List PacketEvent) (x : BusEnds) → AllPacketHonest rule b events x → AllPacketHonest RecentWhereWhole b events x
  all_imply [] x honest = honest
  all_imply (e ∷ es) x honest = (event_implies x e honest.0, all_imply es (packet_happens b x e) honest.1)

pub implies : (rule : JoinRule) → AsksNoLess rule → RuleImplies rule RecentWhereWhole
implies rule asks b events x honest = all_imply rule asks b events x honest

-- a prefix of an honest schedule is honest
pub packet_prefix : (rule : JoinRule) (b : PacketBus) (events later : List PacketEvent) (x : BusEnds) → AllPacketHonest rule b (events ++ later) x → AllPacketHonest rule b events x
packet_prefix rule b [] later x honest = tt
packet_prefix rule b (e ∷ es) later x honest = (honest.0, packet_prefix rule b es later (packet_happens b x e) honest.1)

-- and so is the rest, after it
pub packet_rest : (rule : JoinRule) (b : PacketBus) (events later : List PacketEvent) (x : BusEnds) → AllPacketHonest rule b (events ++ later) x → AllPacketHonest rule b later (packet_run b events x)
packet_rest rule b [] later x honest = honest
packet_rest rule b (e ∷ es) later x honest = packet_rest rule b es later (packet_happens b x e) honest.1

pub always_in_packets : (rule : JoinRule) → AsksNoLess rule → AlwaysAtMostOnceInPackets rule
always_in_packets rule asks b cutting start events later none waits empty honest =
    let first = all_imply rule asks b events start (packet_prefix rule b events later start honest) in
    let ok = packet_run_holds b cutting start.bus.log events start (start_ends_hold b cutting start none waits empty) first in
    at_most_once_from (rules_of b) start.bus.log (packet_run b events start).bus ok.holds ok.shows

pub effects_in_packets : (rule : JoinRule) → AsksNoLess rule → EventsHavePacketEffects rule
effects_in_packets rule asks b cutting start events e none waits empty honest =
    let first = all_imply rule asks b events start (packet_prefix rule b events (e ∷ []) start honest) in
    let next = event_implies rule asks b (packet_run b events start) e (packet_rest rule b events (e ∷ []) start honest).0 in
    (packet_step b cutting start.bus.log (packet_run b events start) e (packet_run_holds b cutting start.bus.log events start (start_ends_hold b cutting start none waits empty) first) next).1

pub none_open_in_packets : NoneOpenIsPacketHonest
none_open_in_packets = record {
  idle = λ rule b here there requester closed. (tt, none_open.idle (rules_of b) here.bus there requester closed);
  resumes = λ rule b here there closed. none_open.resumes (rules_of b) here.bus there closed;
}
