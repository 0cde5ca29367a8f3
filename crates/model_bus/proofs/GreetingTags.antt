-- A greeting in packets clears what waits under the tag of every request.
use Rattle.std.proofs.Common.{◌≡◌, ℕ, zero, suc, ◌*◌, ltb, ◌+◌, ◌%◌, ◌<◌, Bool, true, false, ◌&&◌, not, cond, List, [], ◌∷◌, length, Option, Some, None, refl, sym, ◌∙◌, ap, subst, arith, ◌⊎◌, inl, inr}
use Rattle.std.specs.Prelude.{slice_get}
use Rattle.std.proofs.lemmas.Bool.{cond_both, and_parts, and_from, eqb-true, eq-eqb, cases_Bool, false≢true}
use Rattle.std.proofs.lemmas.Bool.{ltb-true}
use Rattle.std.proofs.lemmas.Bool.Decides.{nat_tests}
use Rattle.model_bus.specs.Repeat.{In}
use Rattle.model_bus.specs.Numbering.{tag_of}
use Rattle.model_bus.specs.BusState.{Content, Ask, Reply, Frame, is_open}
use Rattle.model_bus.specs.Packet.{Packet}
use Rattle.model_bus.specs.Assembly.{Name, is_name, SentPacket, takes}
use Rattle.model_bus.specs.PacketBus.{PacketBus, request_name, reply_name, BusEnds, PacketEvent, Plain, PacketReachesPort, PacketReachesManager, OtherPacket, OtherReplyPacket, Closes, Clears, PacketResumes, set_at, is_awaited, port_takes, manager_takes, other_returns, packet_comes, packet_returns, packet_at_port, packet_at_manager, packet_happens, packet_run}
use Rattle.model_bus.specs.Start.{NothingWaits}
use Rattle.model_bus.specs.GreetingTags.{packet_places, IsSingle, IsOfGreeting, GreetsInPackets, NoRequestWaits, IsUnsent, OnlyRequestsWait, SendsRequests, GreetingClears}
use Rattle.model_bus.proofs.Greeting.{singles_clear}

-- ---- names

-- names with equal parts are equal
named_so : (name other : Name) → name.source ≡ other.source → name.owner ≡ other.owner → name.tag ≡ other.tag → name ≡ other
named_so name other source owner tag = λ i. record { source = source i; owner = owner i; tag = tag i }

-- the same name
same_name : (name other : Name) → is_name name other ≡ true → (name.source ≡ other.source) × (name.owner ≡ other.owner) × (name.tag ≡ other.tag)
same_name name other is =
    let parts = and_parts _ _ is in
    let ends = and_parts _ _ parts.0 in
    (eqb-true _ _ ends.0, owners name.owner other.owner ends.1, eqb-true _ _ parts.1)
  where
    owners : (one two : Bool) → cond one two (not two) ≡ true → one ≡ two
    owners true true e = refl
    owners true false e = absurd (false≢true e)
    owners false true e = absurd (false≢true e)
    owners false false e = refl

owner_self : (owner : Bool) → cond owner owner (not owner) ≡ true
owner_self true = refl
owner_self false = refl

name_self : (name : Name) → is_name name name ≡ true
name_self name = and_from _ _ (and_from _ _ (eq-eqb name.source name.source refl) (owner_self name.owner)) (eq-eqb name.tag name.tag refl)

-- a packet that is all of its message leaves nothing
single_leaves : (taken : List SentPacket) (sent : SentPacket) → IsSingle sent.packet → (takes taken sent).1 ≡ []
single_leaves taken sent single = ap (λ r. r.1) (singles_clear taken sent single.first single.last single.sequence)

-- ---- what an event leaves at the port under a name

module _ (bus : PacketBus) where
  -- a packet at the manager leaves the port
  takes_leaves : (number request idles : ℕ) (o : Option Packet) (ends : BusEnds) → (manager_takes bus number request idles o ends).port ≡ ends.port
  takes_leaves number request idles None ends = refl
  takes_leaves number request idles (Some packet) ends = refl

  returns_leaves : (place request idles : ℕ) (content : Content) (ends : BusEnds) → (packet_returns bus place request idles content ends).port ≡ ends.port
  returns_leaves place request idles (Ask bytes) ends = refl
  returns_leaves place request idles (Reply number None) ends =
      cond_both (is_awaited bus request ends.bus) (record ends { manager = set_at (reply_name bus request) [] ends.manager }) ends (λ (x : BusEnds). x.port ≡ ends.port) (λ _. refl) (λ _. refl)
  returns_leaves place request idles (Reply number (Some reply)) ends =
      let o = slice_get (bus.split reply) place in
      cond_both (is_awaited bus request ends.bus) (manager_takes bus number request idles o ends) ends (λ (x : BusEnds). x.port ≡ ends.port) (λ _. takes_leaves number request idles o ends) (λ _. refl)

  frame_leaves : (place : ℕ) (o : Option Frame) (ends : BusEnds) → (packet_at_manager bus place o ends).port ≡ ends.port
  frame_leaves place None ends = refl
  frame_leaves place (Some frame) ends = returns_leaves place frame.request frame.idles frame.content ends

  other_leaves : (name : Name) (packet : Packet) (number : ℕ) (ends : BusEnds) → (other_returns bus name packet number ends).port ≡ ends.port
  other_leaves name packet number ends =
      cond_both (is_open ends.bus && is_name name (reply_name bus (length ends.bus.taken))) (manager_takes bus number (length ends.bus.taken) 0 (Some packet) ends) ends
      (λ (x : BusEnds). x.port ≡ ends.port) (λ _. refl) (λ _. refl)

  -- what is set under a name is so under each name of which it is so before
  set_keeps : (name other : Name) (taken : List SentPacket) (port : Name → List SentPacket) → (is_name name other ≡ true → taken ≡ []) → port name ≡ [] → set_at other taken port name ≡ []
  set_keeps name other taken port new old = cond_both (is_name name other) taken (port name) (λ (x : List SentPacket). x ≡ []) new (λ _. old)

  -- an event leaves nothing under a name under which nothing waited, if a packet under that name leaves nothing
  module _ (name : Name) where
    abbrev Leaves : PacketEvent → BusEnds → Type 0
    Leaves event ends = ends.port name ≡ [] → (packet_happens bus ends event).port name ≡ []

    -- what a packet under this name leaves
    abbrev ClosesIt : PacketEvent → Type 0
    ClosesIt (OtherPacket other packet answer) = is_name name other ≡ true → IsSingle packet
    ClosesIt (PacketReachesPort which place answer) = (request : ℕ) → is_name name (request_name bus request) ≡ true → ⊥
    ClosesIt _ = Unit {0}

    port_leaves : (answer : List ℕ) (request idles : ℕ) (o : Option Packet) (ends : BusEnds) → (is_name name (request_name bus request) ≡ true → ⊥) → ends.port name ≡ [] → (port_takes bus answer request idles o ends).port name ≡ []
    port_leaves answer request idles None ends other empty = empty
    port_leaves answer request idles (Some packet) ends other empty =
        let sent : SentPacket = record { request = request; idles = idles; packet = packet } in
        set_keeps name (request_name bus request) (takes (ends.port (request_name bus request)) sent).1 ends.port (λ is. absurd (other is)) empty

    comes_leaves : (answer : List ℕ) (place request idles : ℕ) (content : Content) (ends : BusEnds) → (is_name name (request_name bus request) ≡ true → ⊥) → ends.port name ≡ [] → (packet_comes bus answer place request idles content ends).port name ≡ []
    comes_leaves answer place request idles (Ask bytes) ends other empty = port_leaves answer request idles (slice_get (bus.split bytes) place) ends other empty
    comes_leaves answer place request idles (Reply number reply) ends other empty = empty

    frame_comes_leaves : (answer : List ℕ) (place : ℕ) (o : Option Frame) (ends : BusEnds) → ((request : ℕ) → is_name name (request_name bus request) ≡ true → ⊥) → ends.port name ≡ [] → (packet_at_port bus answer place o ends).port name ≡ []
    frame_comes_leaves answer place None ends other empty = empty
    frame_comes_leaves answer place (Some frame) ends other empty = comes_leaves answer place frame.request frame.idles frame.content ends (other frame.request) empty

    leaves : (event : PacketEvent) (ends : BusEnds) → ClosesIt event → Leaves event ends
    leaves (Plain event) ends h empty = empty
    leaves (PacketReachesPort which place answer) ends h empty = frame_comes_leaves answer place (slice_get ends.bus.frames which) ends h empty
    leaves (PacketReachesManager which place) ends h empty = ap (λ (f : Name → List SentPacket). f name) (frame_leaves place (slice_get ends.bus.frames which) ends) ∙ empty
    leaves (OtherPacket other packet answer) ends h empty =
        let sent : SentPacket = record { request = 0; idles = 0; packet = packet } in
        set_keeps name other (takes (ends.port other) sent).1 ends.port (λ is. single_leaves (ends.port other) sent (h is)) empty
    leaves (OtherReplyPacket other packet number) ends h empty = ap (λ (f : Name → List SentPacket). f name) (other_leaves other packet number ends) ∙ empty
    leaves (Closes other) ends h empty = set_keeps name other [] ends.port (λ _. refl) empty
    leaves Clears ends h empty = empty
    leaves PacketResumes ends h empty = empty

    all_leave : (events : List PacketEvent) (ends : BusEnds) → ((event : PacketEvent) → In event events → ClosesIt event) → ends.port name ≡ [] → (packet_run bus events ends).port name ≡ []
    all_leave [] ends h empty = empty
    all_leave (event ∷ events) ends h empty =
        all_leave events (packet_happens bus ends event) (λ e is. h e (inr is)) (leaves event ends (h event (inl refl)) empty)

    -- where such a packet comes, nothing waits under its name from then on
    one_clears : (events : List PacketEvent) (ends : BusEnds) → ((event : PacketEvent) → In event events → ClosesIt event)
        → (packet : Packet) (answer : List ℕ) → IsSingle packet → In (OtherPacket name packet answer) events → (packet_run bus events ends).port name ≡ []
    one_clears [] ends h packet answer single is = absurd is
    one_clears (event ∷ events) ends h packet answer single (inl same) =
        let sent : SentPacket = record { request = 0; idles = 0; packet = packet } in
        let empty : (packet_happens bus ends (OtherPacket name packet answer)).port name ≡ [] =
        cond_both (is_name name name) (takes (ends.port name) sent).1 (ends.port name) (λ (x : List SentPacket). x ≡ []) (λ _. single_leaves (ends.port name) sent single) (λ differs. absurd (false≢true (sym differs ∙ name_self name))) in
        all_leave events (packet_happens bus ends event) (λ e is. h e (inr is)) (subst (λ (e : PacketEvent). (packet_happens bus ends e).port name ≡ []) (sym same) empty)
    one_clears (event ∷ events) ends h packet answer single (inr is) = one_clears events (packet_happens bus ends event) (λ e is. h e (inr is)) packet answer single is

-- ---- the eight tags

-- one of the greeting's requests has the tag of this request
place_for : (request : ℕ) → In (24 + request % 8) packet_places
place_for request = by (request % 8) (omega arith)
  where
    by : (r : ℕ) → r < 8 → In (24 + r) packet_places
    by zero below = inr (inl refl)
    by (suc zero) below = inr (inr (inl refl))
    by (suc (suc zero)) below = inr (inr (inr (inl refl)))
    by (suc (suc (suc zero))) below = inr (inr (inr (inr (inl refl))))
    by (suc (suc (suc (suc zero)))) below = inr (inr (inr (inr (inr (inl refl)))))
    by (suc (suc (suc (suc (suc zero))))) below = inr (inr (inr (inr (inr (inr (inl refl))))))
    by (suc (suc (suc (suc (suc (suc zero)))))) below = inr (inr (inr (inr (inr (inr (inr (inl refl)))))))
    by (suc (suc (suc (suc (suc (suc (suc zero))))))) below = inr (inr (inr (inr (inr (inr (inr (inr (inl refl))))))))
    by (suc (suc (suc (suc (suc (suc (suc (suc r)))))))) below = absurd (omega arith)

same_tag : (first request : ℕ) → tag_of first (24 + request % 8) ≡ tag_of first request
same_tag first request = omega arith

-- ---- the law

module _ (bus : PacketBus) where
  -- what comes of a greeting leaves nothing under a name of the manager
  greeting_closes : (name : Name) → name.source ≡ bus.manager → name.owner ≡ true → (event : PacketEvent) → IsOfGreeting bus event → ClosesIt bus name event
  greeting_closes name mine owned (OtherPacket other packet answer) h = λ is. h (sym (same_name name other is).0 ∙ mine)
  greeting_closes name mine owned (PacketReachesPort which place answer) h = absurd h
  greeting_closes name mine owned (Plain event) h = tt
  greeting_closes name mine owned (PacketReachesManager which place) h = tt
  greeting_closes name mine owned (OtherReplyPacket other packet number) h = tt
  greeting_closes name mine owned (Closes other) h = tt
  greeting_closes name mine owned Clears h = tt
  greeting_closes name mine owned PacketResumes h = tt

  clears : (before : BusEnds) (events : List PacketEvent) → GreetsInPackets bus events → NoRequestWaits bus (packet_run bus events before).port
  clears before events greets request =
      let place = 24 + request % 8 in
      let name = request_name bus place in
      let comes = greets.each place (place_for request) in
      let empty = one_clears bus name events before (λ event is. greeting_closes name refl refl event (greets.alone event is)) comes.0 comes.1 comes.2 comes.3 in
      let same : name ≡ request_name bus request = ap (λ (tag : ℕ). let n : Name = record { source = bus.manager; owner = true; tag = tag } in n) (same_tag bus.first request) in
      ap (packet_run bus events before).port (sym same) ∙ empty

  -- no packet comes under a name under which the manager sends nothing
  unsent : (name : Name) → IsUnsent name → (owner : Bool) (tag : ℕ) → owner ≡ true → tag < 8 → name.owner ≡ owner → name.tag ≡ tag → ⊥
  unsent name (inl released) owner tag owned below same number = false≢true (sym released ∙ same ∙ owned)
  unsent name (inr above) owner tag owned below same number = omega arith

  sends_closes : (name : Name) → name.source ≡ bus.manager → IsUnsent name → (event : PacketEvent) → SendsRequests bus event → ClosesIt bus name event
  sends_closes name mine is (OtherPacket other packet answer) h = λ same.
      let s = same_name name other same in
      let sends = h (sym s.0 ∙ mine) in
      absurd (unsent name is other.owner other.tag sends.0 sends.1 s.1 s.2)
  sends_closes name mine is (PacketReachesPort which place answer) h = λ request same.
      let s = same_name name (request_name bus request) same in
      unsent name is true (tag_of bus.first request) refl (omega arith) s.1 s.2
  sends_closes name mine is (Plain event) h = tt
  sends_closes name mine is (PacketReachesManager which place) h = tt
  sends_closes name mine is (OtherReplyPacket other packet number) h = tt
  sends_closes name mine is (Closes other) h = tt
  sends_closes name mine is Clears h = tt
  sends_closes name mine is PacketResumes h = tt

  keeps : (before : BusEnds) (events : List PacketEvent) → ((event : PacketEvent) → In event events → SendsRequests bus event)
      → OnlyRequestsWait bus before.port → OnlyRequestsWait bus (packet_run bus events before).port
  keeps before events sends only name mine is =
      all_leave bus name events before (λ event here. sends_closes name mine is event (sends event here)) (only name mine is)

  -- a name of the manager's is a request's, or one under which it sends nothing
  at_port : (port : Name → List SentPacket) → NoRequestWaits bus port → OnlyRequestsWait bus port → (name : Name) → name.source ≡ bus.manager → port name ≡ []
  at_port port none only name mine = by name.owner refl (cases_Bool (ltb name.tag 8))
    where
      by : (owner : Bool) → name.owner ≡ owner → (ltb name.tag 8 ≡ true) ⊎ (ltb name.tag 8 ≡ false) → port name ≡ []
      by false released below = only name mine (inl released)
      by true owned (inr above) = only name mine (inr (grind (arith, nat_tests)))
      by true owned (inl below) =
          let request = name.tag + 7 * bus.first in
          let tag : tag_of bus.first request ≡ name.tag = (let small : name.tag < 8 = ltb-true _ _ below in omega arith) in
          let same : name ≡ request_name bus request = named_so name (request_name bus request) mine owned (sym tag) in
          ap port same ∙ none request

  nothing_waits : (before : BusEnds) (events : List PacketEvent) → GreetsInPackets bus events → ((event : PacketEvent) → In event events → SendsRequests bus event)
      → OnlyRequestsWait bus before.port → NothingWaits bus (record (packet_run bus events before) { manager = λ name. [] })
  nothing_waits before events greets sends only = record {
    port = at_port (packet_run bus events before).port (clears before events greets) (keeps before events sends only);
    manager = λ name mine. refl;
  }

pub greeting_clears : GreetingClears
greeting_clears = record { clears = clears; keeps = keeps; nothing_waits = nothing_waits }
