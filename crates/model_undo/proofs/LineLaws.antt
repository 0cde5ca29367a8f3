-- What a bus is to do for a manager, and that a bus in whole messages and one in packets do it.
use Rattle.std.proofs.Common.{◌≡◌, ℕ, Bool, true, false, List, Option, Some, None, subst}
use Rattle.std.specs.Prelude.{slice_get, MatchOption, MatchBool}
use Rattle.std.proofs.lemmas.Bool.{false≢true, true≢false, le-ltb}
use Rattle.model_bus.specs.Request.{Entry}
use Rattle.model_bus.specs.Numbering.{Rules}
use Rattle.model_bus.specs.BusState.{BusState, Frame, Event, Begins, SendsAgain, ReachesPort, ReachesManager, OtherAsks, OtherReplies, IsIdle, Resumes, is_open}
use Rattle.model_bus.specs.Start.{NothingUnderWay}
use Rattle.model_bus.specs.Effect.{SameRequests, BeginsRequest, CarriesOpen, TakesReply}
use Rattle.model_bus.specs.Packet.{IsCutting}
use Rattle.model_bus.specs.PacketBus.{PacketBus, rules_of, BusEnds, PacketEvent, Plain, PacketReachesPort, PacketReachesManager, OtherPacket, OtherReplyPacket, Closes, Clears, PacketResumes, packet_happens}
use Rattle.model_bus.specs.PacketSchedule.{RecentWhereWhole, IsPacketHonest}
use Rattle.model_bus.specs.PacketEffect.{FrameAtPort, FrameAtManager, HasPacketEffect}
use Rattle.model_bus.proofs.NumberLaws.{IsNumbering, smbus_numbers}
use Rattle.model_bus.proofs.Steps.{Holds, start_holds, happens_holds}
use Rattle.model_bus.proofs.Effects.{has_effect, begins_effect}
use Rattle.model_bus.proofs.PacketEnds.{same_requests, EndsHold, start_ends_hold, packet_step}
use Rattle.model_undo.specs.Line.{Line, exchange, whole, packets, carried_at, brought_at}
use Rattle.model_undo.specs.Joined.{IsClosed}

pub record IsLine (L : Line) : Type 1 where
  -- what holds of it at every moment of an honest schedule
  pub Holds : L.State → Type 0
  pub starts : (s : L.State) → L.IsStart s → Holds s × NothingUnderWay (L.requests s)
  pub keeps : (s : L.State) (e : L.Event) → Holds s → L.IsHonest s e → Holds (L.happens s e)
  -- a request can always be begun or sent again, and another manager can go on where none is open
  pub may_begin : (s : L.State) (bytes : List ℕ) → L.IsHonest s (L.begins bytes)
  pub may_send : (s : L.State) → L.IsHonest s L.sends_again
  pub may_resume : (s : L.State) → IsClosed (L.requests s) → L.IsHonest s L.resumes
  pub begun : (s : L.State) (bytes : List ℕ) → Holds s → IsClosed (L.requests s) → BeginsRequest (L.requests s) (L.requests (L.happens s (L.begins bytes))) bytes
  pub sent : (s : L.State) → Holds s → SameRequests (L.requests s) (L.requests (L.happens s L.sends_again))
  pub restarted : (s : L.State) → Holds s → Holds (L.restarts s) × SameRequests (L.requests s) (L.requests (L.restarts s))
  pub resumed : (s : L.State) → Holds s → IsClosed (L.requests s) → SameRequests (L.requests s) (L.requests (L.happens s L.resumes))
  -- what comes to the manager moves no request, or brings the reply that is kept for the open one
  pub to_manager : (s : L.State) (e : L.Event) → Holds s → L.IsOutside e → L.is_to_manager e ≡ true → L.IsHonest s e
      → MatchOption (L.brings s e) (SameRequests (L.requests s) (L.requests (L.happens s e))) (TakesReply (L.requests s) (L.requests (L.happens s e)))
  -- all else moves none, or has the open one carried out for the first time
  pub on_bus : (s : L.State) (e : L.Event) → Holds s → L.IsOutside e → L.is_to_manager e ≡ false → L.IsHonest s e
      → MatchOption (L.carries s e) (SameRequests (L.requests s) (L.requests (L.happens s e))) (λ x. CarriesOpen (L.requests s) (L.requests (L.happens s e)) x.bytes x.reply)

pub closed_is : (s : BusState) → IsClosed s → is_open s ≡ false
closed_is s closed = le-ltb _ _ closed

exchanged : (o : Option (List ℕ)) (answer : List ℕ) (old new : BusState) → MatchOption o (SameRequests old new) (λ bytes. CarriesOpen old new bytes answer)
    → MatchOption (exchange o answer) (SameRequests old new) (λ x. CarriesOpen old new x.bytes x.reply)
exchanged None answer old new h = h
exchanged (Some bytes) answer old new h = h

-- ---- whole messages

module _ (b : Rules) (numbers : IsNumbering b) where
  pub begun_whole : (s : BusState) (bytes : List ℕ) → Holds b s → IsClosed s → BeginsRequest s ((whole b).happens s (Begins bytes)) bytes
  begun_whole s bytes h closed =
      subst (λ (o : Bool). MatchBool o (SameRequests s ((whole b).happens s (Begins bytes))) (BeginsRequest s ((whole b).happens s (Begins bytes)) bytes)) (closed_is s closed) (begins_effect b numbers s h bytes)

  pub to_manager_whole : (s : BusState) (e : Event) → Holds b s → (whole b).IsOutside e → (whole b).is_to_manager e ≡ true → (whole b).IsHonest s e
      → MatchOption ((whole b).brings s e) (SameRequests s ((whole b).happens s e)) (TakesReply s ((whole b).happens s e))
  to_manager_whole s (Begins bytes) h outside t honest = absurd outside
  to_manager_whole s SendsAgain h outside t honest = absurd outside
  to_manager_whole s (ReachesPort which answer) h outside t honest = absurd (false≢true t)
  to_manager_whole s (ReachesManager which) h outside t honest = has_effect b numbers s (ReachesManager which) h honest
  to_manager_whole s (OtherAsks request answer) h outside t honest = absurd (false≢true t)
  to_manager_whole s (OtherReplies source number reply) h outside t honest = has_effect b numbers s (OtherReplies source number reply) h honest
  to_manager_whole s (IsIdle requester) h outside t honest = absurd (false≢true t)
  to_manager_whole s Resumes h outside t honest = absurd outside

  pub on_bus_whole : (s : BusState) (e : Event) → Holds b s → (whole b).IsOutside e → (whole b).is_to_manager e ≡ false → (whole b).IsHonest s e
      → MatchOption ((whole b).carries s e) (SameRequests s ((whole b).happens s e)) (λ x. CarriesOpen s ((whole b).happens s e) x.bytes x.reply)
  on_bus_whole s (Begins bytes) h outside t honest = absurd outside
  on_bus_whole s SendsAgain h outside t honest = absurd outside
  on_bus_whole s (ReachesPort which answer) h outside t honest = exchanged _ answer s _ (has_effect b numbers s (ReachesPort which answer) h honest)
  on_bus_whole s (ReachesManager which) h outside t honest = absurd (true≢false t)
  on_bus_whole s (OtherAsks request answer) h outside t honest = has_effect b numbers s (OtherAsks request answer) h honest
  on_bus_whole s (OtherReplies source number reply) h outside t honest = absurd (true≢false t)
  on_bus_whole s (IsIdle requester) h outside t honest = has_effect b numbers s (IsIdle requester) h honest
  on_bus_whole s Resumes h outside t honest = absurd outside

  unfoldable pub whole_is_line : IsLine (whole b)
  whole_is_line = record {
    Holds = Holds b;
    starts = λ s start. (start_holds b s start.0 start.1, start.0);
    keeps = happens_holds b numbers;
    may_begin = λ s bytes. tt;
    may_send = λ s. tt;
    may_resume = λ s closed. closed_is s closed;
    begun = begun_whole;
    sent = λ s h. has_effect b numbers s SendsAgain h tt;
    restarted = λ s h. (h, same_requests s);
    resumed = λ s h closed. has_effect b numbers s Resumes h (closed_is s closed);
    to_manager = to_manager_whole;
    on_bus = on_bus_whole;
  }

-- ---- packets

module _ (b : PacketBus) (cutting : IsCutting b.split) where
  -- over a port that did this before the start
  abbrev pub AllHold : BusEnds → Type 0
  AllHold x = (before : List Entry) × EndsHold b cutting before x

  pub step : (x : BusEnds) (e : PacketEvent) → AllHold x → IsPacketHonest RecentWhereWhole b x e → AllHold (packet_happens b x e)
  step x e h honest = (h.0, (packet_step b cutting h.0 x e h.1 honest).0)

  pub effect : (x : BusEnds) (e : PacketEvent) → AllHold x → IsPacketHonest RecentWhereWhole b x e → HasPacketEffect b x e
  effect x e h honest = (packet_step b cutting h.0 x e h.1 honest).1

  at_manager : (x : BusEnds) (place : ℕ) (new : BusState) (o : Option Frame) → FrameAtManager b x place new o → MatchOption (brought_at b x place o) (SameRequests x.bus new) (TakesReply x.bus new)
  at_manager x place new None h = h
  at_manager x place new (Some f) h = h.moves

  at_port : (x : BusEnds) (place : ℕ) (answer : List ℕ) (new : BusState) (o : Option Frame) → FrameAtPort b x place answer new o → MatchOption (carried_at b x place o) (SameRequests x.bus new) (λ bytes. CarriesOpen x.bus new bytes answer)
  at_port x place answer new None h = h
  at_port x place answer new (Some f) h = h.moves

  plain_to_manager : (x : BusEnds) (e : Event) → AllHold x → (packets b).IsOutside (Plain e) → (packets b).is_to_manager (Plain e) ≡ true → IsPacketHonest RecentWhereWhole b x (Plain e)
      → SameRequests x.bus (packet_happens b x (Plain e)).bus
  plain_to_manager x (Begins bytes) h outside t honest = absurd outside
  plain_to_manager x SendsAgain h outside t honest = absurd outside
  plain_to_manager x (ReachesPort which answer) h outside t honest = absurd honest.0
  plain_to_manager x (ReachesManager which) h outside t honest = absurd honest.0
  plain_to_manager x (OtherAsks request answer) h outside t honest = absurd (false≢true t)
  plain_to_manager x (OtherReplies source number reply) h outside t honest = (effect x (Plain (OtherReplies source number reply)) h honest)
  plain_to_manager x (IsIdle requester) h outside t honest = absurd (false≢true t)
  plain_to_manager x Resumes h outside t honest = absurd outside

  pub to_manager_packets : (x : BusEnds) (e : PacketEvent) → AllHold x → (packets b).IsOutside e → (packets b).is_to_manager e ≡ true → IsPacketHonest RecentWhereWhole b x e
      → MatchOption ((packets b).brings x e) (SameRequests x.bus (packet_happens b x e).bus) (TakesReply x.bus (packet_happens b x e).bus)
  to_manager_packets x (Plain e) h outside t honest = plain_to_manager x e h outside t honest
  to_manager_packets x (PacketReachesPort which place answer) h outside t honest = absurd (false≢true t)
  to_manager_packets x (PacketReachesManager which place) h outside t honest = at_manager x place _ (slice_get x.bus.frames which) (effect x (PacketReachesManager which place) h honest)
  to_manager_packets x (OtherPacket name packet answer) h outside t honest = absurd (false≢true t)
  to_manager_packets x (OtherReplyPacket name packet number) h outside t honest = (effect x (OtherReplyPacket name packet number) h honest)
  to_manager_packets x (Closes name) h outside t honest = absurd (false≢true t)
  to_manager_packets x Clears h outside t honest = absurd (false≢true t)
  to_manager_packets x PacketResumes h outside t honest = absurd outside

  plain_on_bus : (x : BusEnds) (e : Event) → AllHold x → (packets b).IsOutside (Plain e) → (packets b).is_to_manager (Plain e) ≡ false → IsPacketHonest RecentWhereWhole b x (Plain e)
      → SameRequests x.bus (packet_happens b x (Plain e)).bus
  plain_on_bus x (Begins bytes) h outside t honest = absurd outside
  plain_on_bus x SendsAgain h outside t honest = absurd outside
  plain_on_bus x (ReachesPort which answer) h outside t honest = absurd honest.0
  plain_on_bus x (ReachesManager which) h outside t honest = absurd honest.0
  plain_on_bus x (OtherAsks request answer) h outside t honest = (effect x (Plain (OtherAsks request answer)) h honest)
  plain_on_bus x (OtherReplies source number reply) h outside t honest = absurd (true≢false t)
  plain_on_bus x (IsIdle requester) h outside t honest = (effect x (Plain (IsIdle requester)) h honest)
  plain_on_bus x Resumes h outside t honest = absurd outside

  pub on_bus_packets : (x : BusEnds) (e : PacketEvent) → AllHold x → (packets b).IsOutside e → (packets b).is_to_manager e ≡ false → IsPacketHonest RecentWhereWhole b x e
      → MatchOption ((packets b).carries x e) (SameRequests x.bus (packet_happens b x e).bus) (λ y. CarriesOpen x.bus (packet_happens b x e).bus y.bytes y.reply)
  on_bus_packets x (Plain e) h outside t honest = plain_on_bus x e h outside t honest
  on_bus_packets x (PacketReachesPort which place answer) h outside t honest =
      exchanged _ answer x.bus _ (at_port x place answer _ (slice_get x.bus.frames which) (effect x (PacketReachesPort which place answer) h honest))
  on_bus_packets x (PacketReachesManager which place) h outside t honest = absurd (true≢false t)
  on_bus_packets x (OtherPacket name packet answer) h outside t honest = (effect x (OtherPacket name packet answer) h honest)
  on_bus_packets x (OtherReplyPacket name packet number) h outside t honest = absurd (true≢false t)
  on_bus_packets x (Closes name) h outside t honest = (effect x (Closes name) h honest)
  on_bus_packets x Clears h outside t honest = (effect x Clears h honest)
  on_bus_packets x PacketResumes h outside t honest = absurd outside

  unfoldable pub packets_are_line : IsLine (packets b)
  packets_are_line = record {
    Holds = AllHold;
    starts = λ x start. ((x.bus.log, start_ends_hold b cutting x start.0 start.1 start.2), start.0);
    keeps = step;
    may_begin = λ x bytes. (tt, tt);
    may_send = λ x. (tt, tt);
    may_resume = λ x closed. closed_is x.bus closed;
    begun = λ x bytes h closed. begun_whole (rules_of b) (smbus_numbers b.manager b.controller b.first) x.bus bytes h.1.holds closed;
    sent = λ x h. effect x (Plain SendsAgain) h (tt, tt);
    restarted = λ x h. (step x Clears h tt, effect x Clears h tt);
    resumed = λ x h closed. effect x PacketResumes h (closed_is x.bus closed);
    to_manager = to_manager_packets;
    on_bus = on_bus_packets;
  }
