-- Whether a schedule of packets is honest, as a test that computes.
use Rattle.std.proofs.Common.{◌≡◌, ℕ, ◌+◌, Bool, true, false, not, ◌&&◌, ◌||◌, List, [], ◌∷◌, length, Option, Some, None, sym, subst, inl, inr, refl}
use Rattle.std.specs.Prelude.{slice_get, IfSome, nat_le, ◌==◌}
use Rattle.std.specs.List.{list_all}
use Rattle.std.proofs.lemmas.Bool.{and_parts, leb-true, eqb-true, eqb-false, not-true, or_cases, both_ways, true≢false}
use Rattle.model_bus.specs.Request.{idles_of}
use Rattle.model_bus.specs.Numbering.{Rules}
use Rattle.model_bus.specs.BusState.{BusState, Frame, Content, Ask, Reply, Event, Begins, SendsAgain, ReachesPort, ReachesManager, OtherAsks, OtherReplies, IsIdle, Resumes}
use Rattle.model_bus.specs.Schedule.{IsLive, is_live}
use Rattle.model_bus.specs.Repeat.{In}
use Rattle.model_bus.specs.Packet.{Packet}
use Rattle.model_bus.specs.Assembly.{SentPacket, Step, Waits, Whole, Drops, IsJoined, takes, waiting}
use Rattle.model_bus.specs.PacketBus.{PacketBus, rules_of, request_name, BusEnds, PacketEvent, Plain, PacketReachesPort, PacketReachesManager, OtherPacket, OtherReplyPacket, Closes, Clears, PacketResumes, packet_happens}
use Rattle.model_bus.specs.PacketSchedule.{JoinRule, AnyJoin, LiveWhereJoined, MayJoin, PacketMayJoin, JoinsAtPort, IsPlain, IsPacketHonest, AllPacketHonest}
use Rattle.model_bus.proofs.Decides.{live_if, is_honest, is_live-tells, live_if-tells, is_honest-tells}

-- the packet is taken
abbrev pub is_joined : Step → Bool
is_joined Waits = true
is_joined (Whole ss) = true
is_joined Drops = false

-- with no premise on joins (`any`), or with that of live packets
abbrev pub rule_of : Bool → JoinRule
rule_of true = AnyJoin
rule_of false = LiveWhereJoined

-- a packet that waits is live
abbrev pub sent_is_live : Rules → BusState → SentPacket → Bool
sent_is_live b s t = nat_le (length s.begun) (t.request + b.span) && (t.idles == idles_of b.manager s.log)

-- it may be joined to what waits
abbrev pub may_join : Bool → Rules → BusState → List SentPacket → SentPacket → Bool
may_join any b s taken p = any || (not (is_joined (takes taken p).0) || list_all (sent_is_live b s) (waiting taken p))

-- the same of a packet, if there is one
abbrev pub packet_may_join : Bool → Rules → BusState → List SentPacket → ℕ → ℕ → Option Packet → Bool
packet_may_join any b s taken n idles None = true
packet_may_join any b s taken n idles (Some p) = may_join any b s taken (record { request = n; idles = idles; packet = p })

-- the same of a packet of a frame's content
abbrev pub joins_at_port : Bool → PacketBus → BusEnds → ℕ → ℕ → ℕ → Content → Bool
joins_at_port any b x place n idles (Ask bytes) = packet_may_join any (rules_of b) x.bus (x.port (request_name b n)) n idles (slice_get (b.split bytes) place)
joins_at_port any b x place n idles (Reply number reply) = true

-- a packet of a frame may reach the port
abbrev pub port_test : Bool → PacketBus → BusEnds → ℕ → Option Frame → Bool
port_test any b x place None = true
port_test any b x place (Some f) = is_live (rules_of b) x.bus f && joins_at_port any b x place f.request f.idles f.content

-- the event brings no frame to an end
abbrev pub is_plain : Event → Bool
is_plain (ReachesPort which answer) = false
is_plain (ReachesManager which) = false
is_plain (Begins bytes) = true
is_plain SendsAgain = true
is_plain (OtherAsks request answer) = true
is_plain (OtherReplies source number reply) = true
is_plain (IsIdle requester) = true
is_plain Resumes = false

-- the event is honest
abbrev pub is_packet_honest : Bool → PacketBus → BusEnds → PacketEvent → Bool
is_packet_honest any b x (Plain e) = is_plain e && is_honest (rules_of b) x.bus e
is_packet_honest any b x (PacketReachesPort which place answer) = port_test any b x place (slice_get x.bus.frames which)
is_packet_honest any b x (PacketReachesManager which place) = live_if (rules_of b) x.bus (slice_get x.bus.frames which)
is_packet_honest any b x (OtherPacket name packet answer) = not (name.source == b.manager)
is_packet_honest any b x (OtherReplyPacket name packet number) = not (name.source == b.controller)
is_packet_honest any b x (Closes name) = true
is_packet_honest any b x Clears = true
is_packet_honest any b x PacketResumes = is_honest (rules_of b) x.bus Resumes

-- every event is
abbrev pub all_packet_honest : Bool → PacketBus → List PacketEvent → BusEnds → Bool
all_packet_honest any b [] x = true
all_packet_honest any b (e ∷ es) x = is_packet_honest any b x e && all_packet_honest any b es (packet_happens b x e)

joined_tells : (st : Step) → IsJoined st → is_joined st ≡ true
joined_tells Waits h = refl
joined_tells (Whole ss) h = refl
joined_tells Drops h = absurd h

all_tells : (p : SentPacket → Bool) (ts : List SentPacket) → list_all p ts ≡ true → (t : SentPacket) → In t ts → p t ≡ true
all_tells p [] all t is = absurd is
all_tells p (u ∷ us) all t (inl e) = subst (λ (t : SentPacket). p t ≡ true) e (and_parts _ _ all).0
all_tells p (u ∷ us) all t (inr is) = all_tells p us (and_parts _ _ all).1 t is

may_join-tells : (any : Bool) (b : Rules) (s : BusState) (taken : List SentPacket) (p : SentPacket) → may_join any b s taken p ≡ true → MayJoin (rule_of any) b s taken p
may_join-tells true b s taken p h = tt
may_join-tells false b s taken p h =
    λ joined t is. elim (or_cases (not (is_joined (takes taken p).0)) (list_all (sent_is_live b s) (waiting taken p)) h) [
      | inl drops ↦ absurd (both_ways _ (not-true _ drops) (joined_tells (takes taken p).0 joined))
      | inr all ↦ let parts = and_parts _ _ (all_tells (sent_is_live b s) (waiting taken p) all t is) in (leb-true _ _ parts.0, eqb-true _ _ parts.1)
    ]

packet_may_join-tells : (any : Bool) (b : Rules) (s : BusState) (taken : List SentPacket) (n idles : ℕ) (o : Option Packet) → packet_may_join any b s taken n idles o ≡ true → PacketMayJoin (rule_of any) b s taken n idles o
packet_may_join-tells any b s taken n idles None t = tt
packet_may_join-tells any b s taken n idles (Some p) t = may_join-tells any b s taken (record { request = n; idles = idles; packet = p }) t

joins_at_port-tells : (any : Bool) (b : PacketBus) (x : BusEnds) (place n idles : ℕ) (c : Content) → joins_at_port any b x place n idles c ≡ true → JoinsAtPort (rule_of any) b x place n idles c
joins_at_port-tells any b x place n idles (Ask bytes) t = packet_may_join-tells any (rules_of b) x.bus (x.port (request_name b n)) n idles (slice_get (b.split bytes) place) t
joins_at_port-tells any b x place n idles (Reply number reply) t = tt

port_test-tells : (any : Bool) (b : PacketBus) (x : BusEnds) (place : ℕ) (o : Option Frame) → port_test any b x place o ≡ true → IfSome o (λ f. IsLive (rules_of b) x.bus f × JoinsAtPort (rule_of any) b x place f.request f.idles f.content)
port_test-tells any b x place None t = tt
port_test-tells any b x place (Some f) t =
    let parts = and_parts _ _ t in
    (is_live-tells (rules_of b) x.bus f parts.0, joins_at_port-tells any b x place f.request f.idles f.content parts.1)

is_plain-tells : (e : Event) → is_plain e ≡ true → IsPlain e
is_plain-tells (Begins bytes) t = tt
is_plain-tells SendsAgain t = tt
is_plain-tells (ReachesPort which answer) t = absurd (true≢false (sym t))
is_plain-tells (ReachesManager which) t = absurd (true≢false (sym t))
is_plain-tells (OtherAsks request answer) t = tt
is_plain-tells (OtherReplies source number reply) t = tt
is_plain-tells (IsIdle requester) t = tt
is_plain-tells Resumes t = absurd (true≢false (sym t))

is_packet_honest-tells : (any : Bool) (b : PacketBus) (x : BusEnds) (e : PacketEvent) → is_packet_honest any b x e ≡ true → IsPacketHonest (rule_of any) b x e
is_packet_honest-tells any b x (Plain e) t = let parts = and_parts _ _ t in (is_plain-tells e parts.0, is_honest-tells (rules_of b) x.bus e parts.1)
is_packet_honest-tells any b x (PacketReachesPort which place answer) t = port_test-tells any b x place (slice_get x.bus.frames which) t
is_packet_honest-tells any b x (PacketReachesManager which place) t = live_if-tells (rules_of b) x.bus (slice_get x.bus.frames which) t
is_packet_honest-tells any b x (OtherPacket name packet answer) t = eqb-false _ _ (not-true _ t)
is_packet_honest-tells any b x (OtherReplyPacket name packet number) t = eqb-false _ _ (not-true _ t)
is_packet_honest-tells any b x (Closes name) t = tt
is_packet_honest-tells any b x Clears t = tt
is_packet_honest-tells any b x PacketResumes t = is_honest-tells (rules_of b) x.bus Resumes t

pub all_packet_honest-tells : (any : Bool) (b : PacketBus) (events : List PacketEvent) (x : BusEnds) → all_packet_honest any b events x ≡ true → AllPacketHonest (rule_of any) b events x
all_packet_honest-tells any b [] x t = tt
all_packet_honest-tells any b (e ∷ es) x t =
    let parts = and_parts _ _ t in
    (is_packet_honest-tells any b x e parts.0, all_packet_honest-tells any b es (packet_happens b x e) parts.1)
