-- What holds of a bus on which messages go in packets, at every event of an honest schedule.
use Rattle.std.proofs.Common.{◌≡◌, ℕ, ◌+◌, ◌<◌, ◌≤◌, Bool, true, false, cond, List, [], ◌∷◌, length, Option, Some, None, refl, sym, ◌∙◌, ap, subst, arith, inl, inr}
use Rattle.std.specs.Prelude.{slice_get, IfSome}
use Rattle.std.proofs.lemmas.Bool.{cond_both, cases_Bool, and_parts, eqb-true, ltb-true}
use Rattle.std.proofs.lemmas.Option.{slice_get_within}
use Rattle.model_bus.specs.Request.{Request, Entry}
use Rattle.model_bus.specs.Numbering.{Rules, tag_of}
use Rattle.model_bus.specs.BusState.{BusState, Frame, Content, Ask, Reply, Event, Begins, SendsAgain, ReachesPort, ReachesManager, OtherAsks, OtherReplies, IsIdle, Resumes, is_open, begins, sends_again, request_of, hears, taken_content, takes_if, happens}
use Rattle.model_bus.specs.Schedule.{IsLive, IsHonest}
use Rattle.model_bus.specs.Start.{NothingUnderWay, FreshWindow, NothingWaits}
use Rattle.model_bus.specs.Effect.{SameRequests}
use Rattle.model_bus.specs.Repeat.{In}
use Rattle.model_bus.specs.Packet.{Packet, IsCutting}
use Rattle.model_bus.specs.Assembly.{Name, SentPacket, Step, Waits, Whole, Drops, IsWhole, takes, waiting, message_of}
use Rattle.model_bus.specs.PacketBus.{PacketBus, rules_of, request_name, reply_name, BusEnds, PacketEvent, Plain, PacketReachesPort, PacketReachesManager, OtherPacket, OtherReplyPacket, Closes, Clears, PacketResumes, set_at, is_awaited, whole_comes, whole_returns, other_request, hears_other, port_takes, manager_takes, packet_comes, packet_returns, packet_at_port, packet_at_manager, packet_happens, packet_run}
use Rattle.model_bus.specs.PacketSchedule.{RecentWhereWhole, PacketMayJoin, JoinsAtPort, IsPlain, IsPacketHonest, AllPacketHonest}
use Rattle.model_bus.specs.PacketEffect.{step_of, whole_request, whole_reply, completed_request, completed_reply, PortEffect, ManagerEffect, FrameAtPort, FrameAtManager, HasPacketEffect}
use Rattle.model_bus.proofs.Lists.{length_more}
use Rattle.model_bus.proofs.NumberLaws.{smbus_numbers}
use Rattle.model_bus.proofs.Sound.{Fits}
use Rattle.model_bus.proofs.Strangers.{ignored, packet_ignored, not_of}
use Rattle.model_bus.proofs.Steps.{Holds, start_holds, happens_holds, comes_holds, returns_holds}
use Rattle.model_bus.proofs.Effects.{comes_effect, returns_effect, has_effect}
use Rattle.model_bus.proofs.BusGrows.{BusGrows, stays, comes_grow, takes_grow, happens_grows, begun_at, kept_at, reply_at, reply_within, kept_within}
use Rattle.model_bus.proofs.InLog.{LogShows, start_shows, comes_shows, takes_shows, happens_shows}
use Rattle.model_bus.proofs.Assemblies.{one_tag}
use Rattle.model_bus.proofs.PacketSteps.{in_slice, in_rest, in_waiting, named, at_tag, at_tag_alone, at_other, at_empty, takes_whole, WholeIs, FirstIs, IsAssembly, nothing, assembly_grows, assembly_step}

pub same_requests : (s : BusState) → SameRequests s s
same_requests s = record { begun = refl; carried = refl; taken = refl }

-- nothing is complete, and nothing moves
pub port_still : (b : Rules) (n : ℕ) (content : Content) (answer : List ℕ) (s : BusState) → PortEffect b n content None answer s s
port_still b n content answer s = record { as_sent = tt; moves = same_requests s }

pub manager_still : (b : Rules) (content : Content) (s : BusState) → ManagerEffect b content None s s
manager_still b content s = record { as_sent = tt; moves = same_requests s }

-- an event that brings no frame to an end takes no reply
module _ (b : Rules) where
  abbrev TakesNone : BusState → BusState → Type 0
  TakesNone old new = (new.taken ≡ old.taken) × (length old.begun ≤ length new.begun)

  again_takes_none : (s : BusState) (o : Option (List ℕ)) → TakesNone s (sends_again b o s)
  again_takes_none s None = (refl, omega arith)
  again_takes_none s (Some bytes) = (refl, omega arith)

  pub plain_takes_none : (s : BusState) (e : Event) → IsPlain e → IsHonest b s e → TakesNone s (happens b s e)
  plain_takes_none s (Begins bytes) plain honest =
      let more = length_more s.begun bytes in
      cond_both (is_open s) s (begins b bytes s) (TakesNone s) (λ _. (refl, omega arith)) (λ _. (refl, omega arith))
  plain_takes_none s SendsAgain plain honest = again_takes_none s (slice_get s.begun (length s.taken))
  plain_takes_none s (ReachesPort which answer) plain honest = absurd plain
  plain_takes_none s (ReachesManager which) plain honest = absurd plain
  plain_takes_none s (OtherAsks request answer) plain honest = (refl, omega arith)
  plain_takes_none s (OtherReplies source number reply) plain honest = subst (TakesNone s) (sym (ignored b source number reply s honest)) (refl, omega arith)
  plain_takes_none s (IsIdle requester) plain honest = (refl, omega arith)
  plain_takes_none s Resumes plain honest = absurd plain

module _ (b : PacketBus) (cutting : IsCutting b.split) (before : List Entry) where
  abbrev pub rules : Rules
  rules = rules_of b

  abbrev pub PortAssemblies : BusState → (Name → List SentPacket) → Type 0
  PortAssemblies s port = (tag : ℕ) → IsAssembly b.first b.split cutting (begun_at s) tag (port (named b.manager true tag))

  abbrev pub ManagerAssemblies : BusState → (Name → List SentPacket) → Type 0
  ManagerAssemblies s manager = (tag : ℕ) → IsAssembly b.first b.split cutting (kept_at s) tag (manager (named b.controller false tag))

  -- what waits at the manager is of the open request
  abbrev pub IsAwaited : BusState → List SentPacket → Type 0
  IsAwaited s taken = (t : SentPacket) → In t taken → (t.request ≡ length s.taken) × (length s.taken < length s.begun)

  abbrev pub AllAwaited : BusState → (Name → List SentPacket) → Type 0
  AllAwaited s manager = (tag : ℕ) → IsAwaited s (manager (named b.controller false tag))

  -- the invariant of a bus of packets
  pub record EndsHold (x : BusEnds) : Type 0 where
    pub holds : Holds rules x.bus
    pub shows : LogShows rules before x.bus
    pub port : PortAssemblies x.bus x.port
    pub manager : ManagerAssemblies x.bus x.manager
    pub awaited : AllAwaited x.bus x.manager

  port_grows : (old new : BusState) → BusGrows old new → (port : Name → List SentPacket) → PortAssemblies old port → PortAssemblies new port
  port_grows old new g port a tag = assembly_grows b.first b.split cutting (begun_at old) (begun_at new) g.begun tag (port (named b.manager true tag)) (a tag)

  manager_grows : (old new : BusState) → BusGrows old new → (manager : Name → List SentPacket) → ManagerAssemblies old manager → ManagerAssemblies new manager
  manager_grows old new g manager a tag = assembly_grows b.first b.split cutting (kept_at old) (kept_at new) (kept_within old new g) tag (manager (named b.controller false tag)) (a tag)

  awaited_still : (old new : BusState) (manager : Name → List SentPacket) → new.taken ≡ old.taken → length old.begun ≤ length new.begun → AllAwaited old manager → AllAwaited new manager
  awaited_still old new manager same longer all tag t is =
      let a = all tag t is in
      let lengths : length new.taken ≡ length old.taken = ap (λ (l : List (List ℕ)). length l) same in
      let at = a.0 in let opened = a.1 in
      (omega arith, omega arith)

  -- a step of the bus that takes no reply
  record Keeps (old new : BusState) : Type 0 where
    holds : Holds rules new
    shows : LogShows rules before new
    grows : BusGrows old new
    taken : new.taken ≡ old.taken
    longer : length old.begun ≤ length new.begun

  keeps_still : (s : BusState) → Holds rules s → LogShows rules before s → Keeps s s
  keeps_still s h shows = record { holds = h; shows = shows; grows = stays s; taken = refl; longer = omega arith }

  after_step : (x : BusEnds) → EndsHold x → (new : BusState) (port : Name → List SentPacket) → Keeps x.bus new → PortAssemblies new port → EndsHold (record { bus = new; port = port; manager = x.manager })
  after_step x ok new port w assemblies = record {
    holds = w.holds;
    shows = w.shows;
    port = assemblies;
    manager = manager_grows x.bus new w.grows x.manager ok.manager;
    awaited = awaited_still x.bus new x.manager w.taken w.longer ok.awaited;
  }

  whole_comes_keeps : (s : BusState) (h : Holds rules s) → LogShows rules before s → (answer : List ℕ) (n : ℕ) (bytes : List ℕ) (st : Step) → WholeIs bytes st → FirstIs n st → h.floor ≤ n → length s.begun ≤ n + 8 → slice_get s.begun n ≡ Some bytes
      → Keeps s (whole_comes rules answer n st s) × PortEffect rules n (Ask bytes) (whole_request rules n st) answer s (whole_comes rules answer n st s)
  whole_comes_keeps s h shows answer n bytes Waits is first above live at = (keeps_still s h shows, port_still rules n (Ask bytes) answer s)
  whole_comes_keeps s h shows answer n bytes Drops is first above live at = (keeps_still s h shows, port_still rules n (Ask bytes) answer s)
  whole_comes_keeps s h shows answer n bytes (Whole ss) is first above live at =
      let content = Ask (message_of ss) in
      let fits : Fits rules s.begun s.carried n content = at ∙ ap (λ (x : List ℕ). Some x) (sym is) in
      let numbers = smbus_numbers b.manager b.controller b.first in
      let hears_as : ℕ → BusState = (λ m. hears rules n (record { request = request_of rules m (message_of ss); reply = answer }) s) in
      let Does : ℕ → Type 0 = (λ m. Keeps s (hears_as m) × PortEffect rules n (Ask bytes) (Some (request_of rules m (message_of ss))) answer s (hears_as m)) in
      let one : Does n = (
        record {
          holds = comes_holds rules numbers s h answer n content above live fits;
          shows = comes_shows rules before answer n content s shows;
          grows = comes_grow rules answer n content s;
          taken = refl;
          longer = omega arith;
        },
        record { as_sent = ap (λ (x : List ℕ). request_of rules n x) is; moves = comes_effect rules numbers s h answer n content above live fits },
      ) in
      subst Does (sym first) one

  plain_keeps : (s : BusState) (h : Holds rules s) → LogShows rules before s → (e : Event) → IsPlain e → IsHonest rules s e → Keeps s (happens rules s e)
  plain_keeps s h shows e plain honest =
      let none = plain_takes_none rules s e plain honest in
      record {
        holds = happens_holds rules (smbus_numbers b.manager b.controller b.first) s e h honest;
        shows = happens_shows rules before s e shows honest;
        grows = happens_grows rules s e;
        taken = none.0;
        longer = none.1;
      }

  other_keeps : (s : BusState) (h : Holds rules s) → LogShows rules before s → (answer : List ℕ) (asked : Option Request) → IfSome asked (λ r. r.requester ≡ b.manager → ⊥)
      → Keeps s (hears_other rules answer asked s) × SameRequests s (hears_other rules answer asked s)
  other_keeps s h shows answer None other = (keeps_still s h shows, same_requests s)
  other_keeps s h shows answer (Some r) other =
      (plain_keeps s h shows (OtherAsks r answer) tt other, has_effect rules (smbus_numbers b.manager b.controller b.first) s (OtherAsks r answer) h other)

  -- a packet reaches the port
  port_step : (x : BusEnds) → EndsHold x → (answer : List ℕ) (n idles : ℕ) (bytes : List ℕ) (place : ℕ) (o : Option Packet) → slice_get (b.split bytes) place ≡ o → (h : Holds rules x.bus) → h.floor ≤ n → length x.bus.begun ≤ n + 8 → slice_get x.bus.begun n ≡ Some bytes
      → PacketMayJoin RecentWhereWhole rules x.bus (x.port (request_name b n)) n idles o → EndsHold (port_takes b answer n idles o x) × PortEffect rules n (Ask bytes) (whole_request rules n (step_of x.port (request_name b n) n idles o)) answer x.bus (port_takes b answer n idles o x).bus
  port_step x ok answer n idles bytes place None e h above live at joins = (ok, port_still rules n (Ask bytes) answer x.bus)
  port_step x ok answer n idles bytes place (Some p) e h above live at joins =
      let s : SentPacket = record { request = n; idles = idles; packet = p } in
      let taken = x.port (request_name b n) in
      let r = assembly_step b.first b.split cutting (begun_at x.bus) (length x.bus.begun) (λ n bytes e. slice_get_within x.bus.begun n bytes e) taken s bytes (ok.port (tag_of b.first n)) at (in_slice (b.split bytes) place p e) live joins in
      let new = whole_comes rules answer n (takes taken s).0 x.bus in
      let w = whole_comes_keeps x.bus h ok.shows answer n bytes (takes taken s).0 r.0 r.2 above live at in (
        after_step x ok new (set_at (request_name b n) (takes taken s).1 x.port) w.0
            (at_tag b.manager true (λ tag taken. IsAssembly b.first b.split cutting (begun_at new) tag taken) (tag_of b.first n) (takes taken s).1 x.port
            (assembly_grows b.first b.split cutting (begun_at x.bus) (begun_at new) w.0.grows.begun (tag_of b.first n) (takes taken s).1 r.1) (port_grows x.bus new w.0.grows x.port ok.port)),
        w.1,
      )

  content_step : (x : BusEnds) → EndsHold x → (answer : List ℕ) (place n idles : ℕ) (content : Content) → (h : Holds rules x.bus) → h.floor ≤ n → length x.bus.begun ≤ n + 8 → Fits rules x.bus.begun x.bus.carried n content
      → JoinsAtPort RecentWhereWhole b x place n idles content → EndsHold (packet_comes b answer place n idles content x) × PortEffect rules n content (completed_request b x place n idles content) answer x.bus (packet_comes b answer place n idles content x).bus
  content_step x ok answer place n idles (Ask bytes) h above live fits joins = port_step x ok answer n idles bytes place (slice_get (b.split bytes) place) refl h above live fits joins
  content_step x ok answer place n idles (Reply number reply) h above live fits joins = (ok, port_still rules n (Reply number reply) answer x.bus)

  frame_at_port : (x : BusEnds) → EndsHold x → (which place : ℕ) (answer : List ℕ) (o : Option Frame) → slice_get x.bus.frames which ≡ o
      → IfSome o (λ f. IsLive rules x.bus f × JoinsAtPort RecentWhereWhole b x place f.request f.idles f.content) → EndsHold (packet_at_port b answer place o x) × FrameAtPort b x place answer (packet_at_port b answer place o x).bus o
  frame_at_port x ok which place answer None e honest = (ok, same_requests x.bus)
  frame_at_port x ok which place answer (Some f) e honest =
      let s = ok.holds.sound.frames which f e in
      content_step x ok answer place f.request f.idles f.content ok.holds (s.floor_below honest.0.1) honest.0.0 s.fits honest.1

  -- a reply is awaited only where it is the open request's
  awaited_is_open : (s : BusState) → Holds rules s → (n : ℕ) → n < length s.begun → length s.begun ≤ n + 8 → is_awaited b n s ≡ true → (n ≡ length s.taken) × (length s.taken < length s.begun)
  awaited_is_open s h n below live t =
      let parts = and_parts _ _ t in
      let opened : length s.taken < length s.begun = ltb-true _ _ parts.0 in
      let one_open = h.sound.one_open in
      (one_tag b.first n (length s.taken) (length s.begun) below opened live (omega arith) (eqb-true _ _ parts.1), opened)

  -- the bus and what waits, after a packet at the manager
  record Returned (content : Content) (complete : Option Content) (old new : BusState) (name : Name) (rest : List SentPacket) (manager : Name → List SentPacket) : Type 0 where
    holds : Holds rules new
    shows : LogShows rules before new
    grows : BusGrows old new
    awaited : AllAwaited new (set_at name rest manager)
    effect : ManagerEffect rules content complete old new

  module _ (x : BusEnds) (ok : EndsHold x) (n number : ℕ) (reply : List ℕ) (live : length x.bus.begun ≤ n + 8) (fits : Fits rules x.bus.begun x.bus.carried n (Reply number (Some reply))) (is_open_one : (n ≡ length x.bus.taken) × (length x.bus.taken < length x.bus.begun)) where
    still_awaited : (rest : List SentPacket) → IsAwaited x.bus rest → AllAwaited x.bus (set_at (reply_name b n) rest x.manager)
    still_awaited rest all = at_tag b.controller false (λ tag taken. IsAwaited x.bus taken) (tag_of b.first n) rest x.manager all ok.awaited

    none_waits : (new : BusState) (rest : List SentPacket) → rest ≡ [] → AllAwaited new (set_at (reply_name b n) rest x.manager)
    none_waits new rest empty =
        at_tag_alone b.controller false (λ tag taken. IsAwaited new taken) (tag_of b.first n) rest x.manager
        (λ t is. absurd (subst (λ (l : List SentPacket). In t l) empty is))
        (λ tag differs t is. absurd (differs (sym ((ok.manager tag).tags t is) ∙ ap (tag_of b.first) ((ok.awaited tag t is).0 ∙ sym is_open_one.0))))

    whole_returns_keeps : (st : Step) (rest : List SentPacket) → WholeIs reply st → (IsWhole st → rest ≡ []) → IsAwaited x.bus rest → Returned (Reply number (Some reply)) (whole_reply number st) x.bus (whole_returns rules number st x.bus) (reply_name b n) rest x.manager
    whole_returns_keeps Waits rest is empty all = record { holds = ok.holds; shows = ok.shows; grows = stays x.bus; awaited = still_awaited rest all; effect = manager_still rules (Reply number (Some reply)) x.bus }
    whole_returns_keeps Drops rest is empty all = record { holds = ok.holds; shows = ok.shows; grows = stays x.bus; awaited = still_awaited rest all; effect = manager_still rules (Reply number (Some reply)) x.bus }
    whole_returns_keeps (Whole ss) rest is empty all =
        let content = Reply number (Some (message_of ss)) in
        let o = taken_content rules content x.bus in
        let numbers = smbus_numbers b.manager b.controller b.first in
        let new_fits : Fits rules x.bus.begun x.bus.carried n content = (fits.0, record { kept = fits.1.kept; at = fits.1.at; replied = fits.1.replied ∙ sym is }) in
        record {
          holds = returns_holds rules numbers x.bus ok.holds n content live new_fits;
          shows = takes_shows rules before o x.bus ok.shows;
          grows = takes_grow rules o x.bus;
          awaited = none_waits (takes_if o x.bus) rest (empty tt);
          effect = record { as_sent = ap (λ (x : List ℕ). Reply number (Some x)) is; moves = returns_effect rules numbers x.bus ok.holds n content live new_fits };
        }

  -- a packet reaches the manager
  manager_step : (x : BusEnds) → EndsHold x → (n idles number : ℕ) (reply : List ℕ) (place : ℕ) (o : Option Packet) → slice_get (b.split reply) place ≡ o → length x.bus.begun ≤ n + 8 → Fits rules x.bus.begun x.bus.carried n (Reply number (Some reply))
      → (n ≡ length x.bus.taken) × (length x.bus.taken < length x.bus.begun) → EndsHold (manager_takes b number n idles o x) × ManagerEffect rules (Reply number (Some reply)) (whole_reply number (step_of x.manager (reply_name b n) n idles o)) x.bus (manager_takes b number n idles o x).bus
  manager_step x ok n idles number reply place None e live fits awaited = (ok, manager_still rules (Reply number (Some reply)) x.bus)
  manager_step x ok n idles number reply place (Some p) e live fits awaited =
      let at : kept_at x.bus n ≡ Some reply = ap reply_at fits.1.at ∙ ap (λ (r : List ℕ). Some r) fits.1.replied in
      let below = ok.holds.sound.below in let one_open = ok.holds.sound.one_open in
      let bound : (n : ℕ) (bytes : List ℕ) → kept_at x.bus n ≡ Some bytes → n < length x.bus.begun =
      (λ n bytes e. let within = reply_within x.bus.carried n bytes (slice_get x.bus.carried n) refl e in omega arith) in
      let s : SentPacket = record { request = n; idles = idles; packet = p } in
      let taken = x.manager (reply_name b n) in
      let recent : IsWhole (takes taken s).0 → (t : SentPacket) → In t (waiting taken s) → length x.bus.begun ≤ t.request + 8 =
      (λ _ t is. let at_open = (ok.awaited (tag_of b.first n) t (in_waiting taken s t is)).0 in omega arith) in
      let r = assembly_step b.first b.split cutting (kept_at x.bus) (length x.bus.begun) bound taken s reply (ok.manager (tag_of b.first n)) at (in_slice (b.split reply) place p e) live recent in
      let rest_awaited : IsAwaited x.bus (takes taken s).1 =
      (λ t is. elim (in_rest taken s t is) [ inl old ↦ ok.awaited (tag_of b.first n) t old | inr e ↦ subst (λ (t : SentPacket). (t.request ≡ length x.bus.taken) × (length x.bus.taken < length x.bus.begun)) e awaited ]) in
      let new = whole_returns rules number (takes taken s).0 x.bus in
      let w = whole_returns_keeps x ok n number reply live fits awaited (takes taken s).0 (takes taken s).1 r.0 (takes_whole taken s) rest_awaited in (
        record {
          holds = w.holds;
          shows = w.shows;
          port = port_grows x.bus new w.grows x.port ok.port;
          manager = at_tag b.controller false (λ tag taken. IsAssembly b.first b.split cutting (kept_at new) tag taken) (tag_of b.first n) (takes taken s).1 x.manager
              (assembly_grows b.first b.split cutting (kept_at x.bus) (kept_at new) (kept_within x.bus new w.grows) (tag_of b.first n) (takes taken s).1 r.1) (manager_grows x.bus new w.grows x.manager ok.manager);
          awaited = w.awaited;
        },
        w.effect,
      )

  busy_step : (x : BusEnds) → EndsHold x → (n : ℕ) → EndsHold (record x { manager = set_at (reply_name b n) [] x.manager })
  busy_step x ok n = record {
    holds = ok.holds;
    shows = ok.shows;
    port = ok.port;
    manager = at_empty b.controller false (λ tag taken. IsAssembly b.first b.split cutting (kept_at x.bus) tag taken) (reply_name b n) x.manager (nothing b.first b.split cutting (kept_at x.bus)) ok.manager;
    awaited = at_empty b.controller false (λ tag taken. IsAwaited x.bus taken) (reply_name b n) x.manager (λ tag t is. absurd is) ok.awaited;
  }

  reply_step : (x : BusEnds) → EndsHold x → (place n idles : ℕ) (content : Content) → length x.bus.begun ≤ n + 8 → Fits rules x.bus.begun x.bus.carried n content
      → EndsHold (packet_returns b place n idles content x) × ManagerEffect rules content (completed_reply b x place n idles content) x.bus (packet_returns b place n idles content x).bus
  reply_step x ok place n idles (Ask bytes) live fits = (ok, manager_still rules (Ask bytes) x.bus)
  reply_step x ok place n idles (Reply number None) live fits =
      let busy = Reply number None in
      cond_both (is_awaited b n x.bus) (record x { manager = set_at (reply_name b n) [] x.manager }) x (λ y. EndsHold y × ManagerEffect rules busy None x.bus y.bus)
      (λ _. (busy_step x ok n, manager_still rules busy x.bus)) (λ _. (ok, manager_still rules busy x.bus))
  reply_step x ok place n idles (Reply number (Some reply)) live fits =
      let o = slice_get (b.split reply) place in
      let within = slice_get_within x.bus.carried n fits.1.kept fits.1.at in
      let below = ok.holds.sound.below in
      let content = Reply number (Some reply) in
      let complete = whole_reply number (step_of x.manager (reply_name b n) n idles o) in
      let Does : Bool → Type 0 = (λ t. let y = cond t (manager_takes b number n idles o x) x in EndsHold y × ManagerEffect rules content (cond t complete None) x.bus y.bus) in
      elim (cases_Bool (is_awaited b n x.bus)) [
        | inl t ↦ subst Does (sym t) (manager_step x ok n idles number reply place o refl live fits (awaited_is_open x.bus ok.holds n (omega arith) live t))
        | inr f ↦ subst Does (sym f) (ok, manager_still rules content x.bus)
      ]

  frame_at_manager : (x : BusEnds) → EndsHold x → (which place : ℕ) (o : Option Frame) → slice_get x.bus.frames which ≡ o → IfSome o (IsLive rules x.bus)
      → EndsHold (packet_at_manager b place o x) × FrameAtManager b x place (packet_at_manager b place o x).bus o
  frame_at_manager x ok which place None e live = (ok, same_requests x.bus)
  frame_at_manager x ok which place (Some f) e live = reply_step x ok place f.request f.idles f.content live.0 (ok.holds.sound.frames which f e).fits

  other_step : (x : BusEnds) → EndsHold x → (name : Name) (packet : Packet) (answer : List ℕ) → (name.source ≡ b.manager → ⊥)
      → EndsHold (packet_happens b x (OtherPacket name packet answer)) × SameRequests x.bus (packet_happens b x (OtherPacket name packet answer)).bus
  other_step x ok name packet answer other =
      let r = takes (x.port name) (record { request = 0; idles = 0; packet = packet }) in
      let new = hears_other rules answer (other_request name r.0) x.bus in
      let w = other_keeps x.bus ok.holds ok.shows answer (other_request name r.0) (not_of b.manager name r.0 other) in (
        after_step x ok new (set_at name r.1 x.port) w.0
            (at_other b.manager true (λ tag taken. IsAssembly b.first b.split cutting (begun_at new) tag taken) name r.1 x.port other (port_grows x.bus new w.0.grows x.port ok.port)),
        w.1,
      )

  -- what waits at the manager is dropped
  cleared : (x : BusEnds) → EndsHold x → EndsHold (record x { manager = λ name. [] })
  cleared x ok = record {
    holds = ok.holds;
    shows = ok.shows;
    port = ok.port;
    manager = λ tag. nothing b.first b.split cutting (kept_at x.bus) tag;
    awaited = λ tag t is. absurd is;
  }

  -- each honest event keeps what holds, and does to the manager's requests what it may
  pub packet_step : (x : BusEnds) (e : PacketEvent) → EndsHold x → IsPacketHonest RecentWhereWhole b x e → EndsHold (packet_happens b x e) × HasPacketEffect b x e
  packet_step x (Plain e) ok honest =
      let new = happens rules x.bus e in
      let w = plain_keeps x.bus ok.holds ok.shows e honest.0 honest.1 in
      (after_step x ok new x.port w (port_grows x.bus new w.grows x.port ok.port), has_effect rules (smbus_numbers b.manager b.controller b.first) x.bus e ok.holds honest.1)
  packet_step x (PacketReachesPort which place answer) ok honest = frame_at_port x ok which place answer _ refl honest
  packet_step x (PacketReachesManager which place) ok honest = frame_at_manager x ok which place _ refl honest
  packet_step x (OtherPacket name packet answer) ok honest = other_step x ok name packet answer honest
  packet_step x (OtherReplyPacket name packet number) ok honest =
      subst (λ (y : BusEnds). EndsHold y × SameRequests x.bus y.bus) (sym (packet_ignored b x name packet number honest)) (ok, same_requests x.bus)
  packet_step x (Closes name) ok honest = (
    record {
      holds = ok.holds;
      shows = ok.shows;
      port = at_empty b.manager true (λ tag taken. IsAssembly b.first b.split cutting (begun_at x.bus) tag taken) name x.port (nothing b.first b.split cutting (begun_at x.bus)) ok.port;
      manager = ok.manager;
      awaited = ok.awaited;
    },
    same_requests x.bus,
  )
  packet_step x Clears ok honest = (cleared x ok, same_requests x.bus)
  packet_step x PacketResumes ok honest = (cleared x ok, same_requests x.bus)

  pub packet_run_holds : (events : List PacketEvent) (x : BusEnds) → EndsHold x → AllPacketHonest RecentWhereWhole b events x → EndsHold (packet_run b events x)
  packet_run_holds [] x ok honest = ok
  packet_run_holds (e ∷ es) x ok honest = packet_run_holds es (packet_happens b x e) (packet_step x e ok honest.0).0 honest.1

-- a bus of packets with nothing under way, nothing waiting and an empty window
pub start_ends_hold : (b : PacketBus) (cutting : IsCutting b.split) (x : BusEnds) → NothingUnderWay x.bus → NothingWaits b x → FreshWindow (rules_of b) x.bus.log → EndsHold b cutting x.bus.log x
start_ends_hold b cutting x none waits empty = record {
  holds = start_holds (rules_of b) x.bus none empty;
  shows = start_shows (rules_of b) x.bus.log x.bus none refl;
  port = λ tag. subst (IsAssembly b.first b.split cutting (begun_at x.bus) tag) (sym (waits.port (named b.manager true tag) refl)) (nothing b.first b.split cutting (begun_at x.bus) tag);
  manager = λ tag. subst (IsAssembly b.first b.split cutting (kept_at x.bus) tag) (sym (waits.manager (named b.controller false tag) refl)) (nothing b.first b.split cutting (kept_at x.bus) tag);
  awaited = λ tag t is. absurd (subst (λ (l : List SentPacket). In t l) (waits.manager (named b.controller false tag) refl) is);
}
