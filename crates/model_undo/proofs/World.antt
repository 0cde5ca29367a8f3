-- Whatever happens between a manager, two buses and a board, the join holds at each moment.
use Rattle.std.proofs.Common.{◌≡◌, ℕ, ◌+◌, ◌%◌, Bool, true, false, List, [], ◌∷◌, length, Option, Some, None, refl, sym, ◌∙◌, ap, subst, arith}
use Rattle.std.specs.Prelude.{slice_get, IfSome, MatchOption, nat_lt, if◌then◌else◌}
use Rattle.std.proofs.lemmas.Bool.{false≢true, cond_both}
use Rattle.two_wire.specs.declared.Bus.{Bus}
use Rattle.two_wire.specs.declared.Bus.TheVariants.{Ipmb, Smbus}
use Rattle.model_bus.specs.BusState.{BusState}
use Rattle.model_bus.specs.Effect.{SameRequests, BeginsRequest, CarriesOpen, TakesReply}
use Rattle.model_bus.proofs.Lists.{length_more}
use Rattle.model_bus.proofs.PacketEnds.{same_requests}
use Rattle.model_undo.specs.Family.{Family}
use Rattle.model_undo.specs.Words.{is_busy}
use Rattle.model_undo.specs.IsFamily.{IsFamily}
use Rattle.model_undo.specs.Machine.{Counts, count_of, one_answered, Task, Part, Gets, Sets, Undoes, Stage, AtStart, Opened, AtEnd, AtHalt, AtUndone, AtRefused, Machine, Sending, Turn, bus_at, sending, sends_at, first_stage, undo_stage, starts, undoes, quiets, agains, stops, replies, takes, stage_after, undo_after, start_of, undo_of, quiet_of, again_of, stop_of, reply_of, same_bus}
use Rattle.model_undo.specs.Resume.{list_of, resumed}
use Rattle.model_undo.specs.Restart.{restarts}
use Rattle.model_undo.specs.Wires.{number_of, Wires}
use Rattle.model_undo.specs.Joined.{OthersStill, IsClosed, request_bytes, answer_at, AreCounted}
use Rattle.model_undo.specs.Line.{Exchange, Line}
use Rattle.model_undo.specs.World as world
use Rattle.model_undo.specs.declared.call.Call.TheVariants.{Start, Quiet, Stop, Again, Undo}
use Rattle.model_undo.specs.World.{States, update, World, Happening, Calls, Resume, Restart, ToManager, OnBus, OnBench, MayHappen, AllMay, run, happens, IsHonestOn, BoardMay}
use Rattle.model_undo.specs.Undoable.{CanUndo}
use Rattle.model_undo.proofs.Undoable.{length_of}
use Rattle.model_undo.proofs.Calls.{first_good, undo_good, stop_good}
use Rattle.model_undo.proofs.Buses.{each_bus}
use Rattle.model_undo.proofs.LineLaws.{IsLine}
use Rattle.model_undo.proofs.Joined.{Joined, Closed, still, elsewhere, carries, enters_joined, told, takes_closed}

pub same_bus-true : (a b : Bus) → same_bus a b ≡ true → a ≡ b
same_bus-true Ipmb Ipmb t = refl
same_bus-true Ipmb Smbus t = absurd (false≢true t)
same_bus-true Smbus Ipmb t = absurd (false≢true t)
same_bus-true Smbus Smbus t = refl

-- the next count has the next number
pub next_number : (bus : Bus) (first m n : ℕ) → number_of bus (first + m) ≡ number_of bus n → number_of bus (first + (m + 1)) ≡ number_of bus (n + 1)
next_number Ipmb first m n same = omega arith
next_number Smbus first m n same = omega arith

-- a count that is taken round the circle has the same number
pub round : (bus : Bus) (c : Counts) → number_of bus (count_of bus (record { ipmb = c.ipmb % 64; smbus = c.smbus % 32 })) ≡ number_of bus (count_of bus c)
round Ipmb c = omega arith
round Smbus c = omega arith

pub count_here : (bus : Bus) (c : Counts) → count_of bus (one_answered bus c) ≡ count_of bus c + 1
count_here Ipmb c = omega arith
count_here Smbus c = omega arith

pub count_there : (bus other : Bus) (c : Counts) → (other ≡ bus → ⊥) → count_of other (one_answered bus c) ≡ count_of other c
count_there Ipmb Ipmb c ne = absurd (ne refl)
count_there Ipmb Smbus c ne = refl
count_there Smbus Ipmb c ne = refl
count_there Smbus Smbus c ne = absurd (ne refl)

module _ (F : Family) (laws : IsFamily F) (L : Bus → Line) (lines : (bus : Bus) → IsLine (L bus)) (W : Wires F.words) (first : Bus → ℕ) (plan : List F.words.Op) (start : F.Records) where
  abbrev pub requests : States L → Bus → BusState
  requests on bus = (L bus).requests (on bus)

  abbrev pub AllHold : States L → Type 0
  AllHold on = (bus : Bus) → (lines bus).Holds (on bus)

  pub here : (bus : Bus) (s : (L bus).State) (on : States L) → update L bus s on bus ≡ s
  here Ipmb s on = refl
  here Smbus s on = refl

  pub there : (bus other : Bus) (s : (L bus).State) (on : States L) → (other ≡ bus → ⊥) → update L bus s on other ≡ on other
  there Ipmb Ipmb s on ne = absurd (ne refl)
  there Ipmb Smbus s on ne = refl
  there Smbus Ipmb s on ne = refl
  there Smbus Smbus s on ne = absurd (ne refl)

  -- one bus moves, the other is still
  others : (bus : Bus) (s : (L bus).State) (on : States L) → OthersStill bus (requests on) (requests (update L bus s on))
  others bus s on other ne = subst (λ (x : (L other).State). SameRequests (requests on other) ((L other).requests x)) (sym (there bus other s on ne)) (same_requests (requests on other))

  at_here : (bus : Bus) (s : (L bus).State) (on : States L) (P : BusState → Type 0) → P ((L bus).requests s) → P (requests (update L bus s on) bus)
  at_here bus s on P h = subst (λ (x : (L bus).State). P ((L bus).requests x)) (sym (here bus s on)) h

  all_still : (bus : Bus) (s : (L bus).State) (on : States L) → SameRequests (requests on bus) ((L bus).requests s) → (any : Bus) → SameRequests (requests on any) (requests (update L bus s on) any)
  all_still bus s on same = each_bus (λ any. SameRequests (requests on any) (requests (update L bus s on) any)) bus (at_here bus s on (SameRequests (requests on bus)) same) (others bus s on)

  all_hold : (bus : Bus) (s : (L bus).State) (on : States L) → AllHold on → (lines bus).Holds s → AllHold (update L bus s on)
  all_hold bus s on h held =
      each_bus (λ any. (lines any).Holds (update L bus s on any)) bus (subst (lines bus).Holds (sym (here bus s on)) held)
      (λ other ne. subst (lines other).Holds (sym (there bus other s on ne)) (h other))

  -- ---- counts

  counted_still : (counts : Counts) (old new : Bus → BusState) → ((bus : Bus) → SameRequests (old bus) (new bus)) → AreCounted F W first counts old → AreCounted F W first counts new
  counted_still counts old new same h bus = ap (λ (x : List (List ℕ)). number_of bus (first bus + length x)) (same bus).taken ∙ h bus

  counted_taken : (counts : Counts) (bus : Bus) (old new : Bus → BusState) (reply : List ℕ) → TakesReply (old bus) (new bus) reply → OthersStill bus old new → AreCounted F W first counts old
      → AreCounted F W first (one_answered bus counts) new
  counted_taken counts bus old new reply t there_still h =
      each_bus (λ any. number_of any (first any + length (new any).taken) ≡ number_of any (count_of any (one_answered bus counts))) bus
      (ap (λ (x : List (List ℕ)). number_of bus (first bus + length x)) t.taken ∙ ap (λ (n : ℕ). number_of bus (first bus + n)) (length_more (old bus).taken reply)
      ∙ next_number bus (first bus) (length (old bus).taken) (count_of bus counts) (h bus) ∙ ap (number_of bus) (sym (count_here bus counts)))
      (λ other ne. ap (λ (x : List (List ℕ)). number_of other (first other + length x)) (there_still other ne).taken ∙ h other ∙ ap (number_of other) (sym (count_there bus other counts ne)))

  -- ---- the invariant, over components

  pub record Holding (own : List F.words.Op) (stage : Stage F.words) (stopped : Bool) (undo : List F.words.Series) (counts : Counts) (on : States L) (board : F.Board) : Type 0 where
    pub joined : Joined F laws W first plan start own stage stopped undo (requests on) board
    pub counted : AreCounted F W first counts (requests on)
    pub holds : AllHold on

  abbrev pub HoldsOf : Machine F.words → States L → F.Board → Type 0
  HoldsOf m on board = Holding m.plan m.stage m.stopped m.undo m.counts on board

  -- a new request is begun
  abbrev Opens : Option (Turn F.words) → States L → F.Board → Type 0
  Opens o on board = IfSome o (λ t. HoldsOf t.machine (world.begins F L W t.sends on) board)

  -- the open request is sent again
  abbrev Repeats : Option (Turn F.words) → States L → F.Board → Type 0
  Repeats o on board = IfSome o (λ t. HoldsOf t.machine (world.sends_again F L W t.sends on) board)

  -- no request is open, and a stage is entered
  record Resting (own : List F.words.Op) (stage : Stage F.words) (stopped : Bool) (undo : List F.words.Series) (counts : Counts) (on : States L) (board : F.Board) : Type 0 where
    closed : Closed F laws W first plan start own stage stopped undo (requests on) board
    counted : AreCounted F W first counts (requests on)
    holds : AllHold on

  opens_task : (own : List F.words.Op) (heeded : Bool) (task : Task F.words) (part : Part F.words) (stopped : Bool) (undo : List F.words.Series) (counts : Counts) (on : States L) (board : F.Board) → Resting own (Opened heeded task part) stopped undo counts on board
      → Holding own (Opened heeded task part) stopped undo counts (world.begins F L W (Some (sending F.words part counts)) on) board
  opens_task own heeded task part stopped undo counts on board h =
      let bus = bus_at F.words part in
      let bytes = W.bytes_of (number_of bus (count_of bus counts)) part.asked in
      let s = (L bus).happens (on bus) ((L bus).begins bytes) in
      let order = h.closed.orderly bus in
      let answered = order.answered in let below = order.below in let closed = h.closed.closed bus in
      let all : length (requests on bus).begun ≡ length (requests on bus).taken = omega arith in
      let number : number_of bus (count_of bus counts) ≡ number_of bus (first bus + length (requests on bus).begun) = sym (h.counted bus) ∙ ap (λ (n : ℕ). number_of bus (first bus + n)) (sym all) in
      let begun : BeginsRequest (requests on bus) ((L bus).requests s) bytes = (lines bus).begun (on bus) bytes (h.holds bus) closed in
      let spelled : BeginsRequest (requests on bus) ((L bus).requests s) (request_bytes F W first bus (length (requests on bus).begun) part.asked) =
      subst (λ (n : ℕ). BeginsRequest (requests on bus) ((L bus).requests s) (W.bytes_of n part.asked)) number begun in
      let taken : (any : Bus) → number_of any (first any + length (requests (update L bus s on) any).taken) ≡ number_of any (count_of any counts) =
      each_bus (λ any. number_of any (first any + length (requests (update L bus s on) any).taken) ≡ number_of any (count_of any counts)) bus
      (at_here bus s on (λ x. number_of bus (first bus + length x.taken) ≡ number_of bus (count_of bus counts)) (ap (λ (x : List (List ℕ)). number_of bus (first bus + length x)) begun.taken ∙ h.counted bus))
      (λ other ne. ap (λ (x : List (List ℕ)). number_of other (first other + length x)) (others bus s on other ne).taken ∙ h.counted other) in
      record {
        joined = enters_joined F laws W first plan start own (Opened heeded task part) stopped undo (requests on) (requests (update L bus s on)) board h.closed
            (at_here bus s on (λ x. BeginsRequest (requests on bus) x (request_bytes F W first bus (length (requests on bus).begun) part.asked)) spelled, others bus s on);
        counted = taken;
        holds = all_hold bus s on h.holds ((lines bus).keeps (on bus) ((L bus).begins bytes) (h.holds bus) ((lines bus).may_begin (on bus) bytes));
      }

  opens_stage : (own : List F.words.Op) (stage : Stage F.words) (stopped : Bool) (undo : List F.words.Series) (counts : Counts) (on : States L) (board : F.Board) → Resting own stage stopped undo counts on board
      → Holding own stage stopped undo counts (world.begins F L W (sends_at F.words stage counts) on) board
  opens_stage own (Opened heeded task part) stopped undo counts on board h = opens_task own heeded task part stopped undo counts on board h
  opens_stage own AtStart stopped undo counts on board h = record { joined = enters_joined F laws W first plan start own AtStart stopped undo (requests on) (requests on) board h.closed (λ bus. same_requests (requests on bus)); counted = h.counted; holds = h.holds }
  opens_stage own AtEnd stopped undo counts on board h = record { joined = enters_joined F laws W first plan start own AtEnd stopped undo (requests on) (requests on) board h.closed (λ bus. same_requests (requests on bus)); counted = h.counted; holds = h.holds }
  opens_stage own (AtHalt k why) stopped undo counts on board h = record { joined = enters_joined F laws W first plan start own (AtHalt k why) stopped undo (requests on) (requests on) board h.closed (λ bus. same_requests (requests on bus)); counted = h.counted; holds = h.holds }
  opens_stage own AtUndone stopped undo counts on board h = record { joined = enters_joined F laws W first plan start own AtUndone stopped undo (requests on) (requests on) board h.closed (λ bus. same_requests (requests on bus)); counted = h.counted; holds = h.holds }
  opens_stage own (AtRefused k code) stopped undo counts on board h = record { joined = enters_joined F laws W first plan start own (AtRefused k code) stopped undo (requests on) (requests on) board h.closed (λ bus. same_requests (requests on bus)); counted = h.counted; holds = h.holds }

  -- ---- start and undo

  starts_hold : (stage : Stage F.words) (m : Machine F.words) (on : States L) (board : F.Board) → Holding m.plan stage m.stopped m.undo m.counts on board → Opens (starts F.words stage m) on board
  starts_hold AtStart m on board h =
      let s = h.joined.sound in
      opens_stage m.plan (first_stage F.words (slice_get m.plan 0)) m.stopped m.undo m.counts on board
      (record { closed = record { orderly = h.joined.orderly; closed = h.joined.are_open; sound = first_good F laws plan start m.plan (slice_get m.plan 0) m.stopped m.undo board refl s.0 s.1; valid = h.joined.valid; free = h.joined.free }; counted = h.counted; holds = h.holds })
  starts_hold (Opened heeded task part) m on board h = tt
  starts_hold AtEnd m on board h = tt
  starts_hold (AtHalt k why) m on board h = tt
  starts_hold AtUndone m on board h = tt
  starts_hold (AtRefused k code) m on board h = tt

  undoes_hold : (stage : Stage F.words) (m : Machine F.words) (on : States L) (board : F.Board) → Holding m.plan stage m.stopped m.undo m.counts on board → Opens (undoes F.words stage m) on board
  undoes_hold AtEnd m on board h =
      opens_stage m.plan (undo_stage F.words m.undo) m.stopped m.undo m.counts on board
      (record { closed = record { orderly = h.joined.orderly; closed = h.joined.are_open; sound = undo_good F laws plan start m.plan m.undo (length plan) m.stopped m.undo board h.joined.sound h.joined.free; valid = h.joined.valid; free = h.joined.free }; counted = h.counted; holds = h.holds })
  undoes_hold (AtHalt k why) m on board h =
      opens_stage m.plan (undo_stage F.words m.undo) m.stopped m.undo m.counts on board
      (record { closed = record { orderly = h.joined.orderly; closed = h.joined.are_open; sound = undo_good F laws plan start m.plan m.undo k m.stopped m.undo board h.joined.sound.0 h.joined.free; valid = h.joined.valid; free = h.joined.free }; counted = h.counted; holds = h.holds })
  undoes_hold AtStart m on board h = tt
  undoes_hold (Opened heeded task part) m on board h = tt
  undoes_hold AtUndone m on board h = tt
  undoes_hold (AtRefused k code) m on board h = tt

  -- ---- stop

  stop_holds : (stage : Stage F.words) (m : Machine F.words) (on : States L) (board : F.Board) → Holding m.plan stage m.stopped m.undo m.counts on board → Holding m.plan stage true m.undo m.counts on board
  stop_holds stage m on board h = record {
    joined = record { orderly = h.joined.orderly; are_open = h.joined.are_open; sound = stop_good F laws plan start m.plan stage (answer_at F W first stage (requests on)) m.stopped m.undo board h.joined.sound; valid = h.joined.valid; free = h.joined.free };
    counted = h.counted;
    holds = h.holds;
  }

  stops_hold : (stage : Stage F.words) (m : Machine F.words) (on : States L) (board : F.Board) → stage ≡ m.stage → Holding m.plan stage m.stopped m.undo m.counts on board → Opens (stops F.words stage m) on board
  stops_hold (Opened true (Gets k op) part) m on board e h = subst (λ (s : Stage F.words). Holding m.plan s true m.undo m.counts on board) e (stop_holds (Opened true (Gets k op) part) m on board h)
  stops_hold (Opened true (Sets k op back) part) m on board e h = subst (λ (s : Stage F.words). Holding m.plan s true m.undo m.counts on board) e (stop_holds (Opened true (Sets k op back) part) m on board h)
  stops_hold (Opened true (Undoes u us) part) m on board e h = tt
  stops_hold (Opened false task part) m on board e h = tt
  stops_hold AtStart m on board e h = tt
  stops_hold AtEnd m on board e h = tt
  stops_hold (AtHalt k why) m on board e h = tt
  stops_hold AtUndone m on board e h = tt
  stops_hold (AtRefused k code) m on board e h = tt

  -- ---- quiet and again

  heeds_hold : (before now : Bool) (task : Task F.words) (part : Part F.words) (m : Machine F.words) (on : States L) (board : F.Board) → Holding m.plan (Opened before task part) m.stopped m.undo m.counts on board → Holding m.plan (Opened now task part) m.stopped m.undo m.counts on board
  heeds_hold before now task part m on board h =
      record { joined = record { orderly = h.joined.orderly; are_open = h.joined.are_open; sound = h.joined.sound; valid = h.joined.valid; free = h.joined.free }; counted = h.counted; holds = h.holds }

  sends_hold : (stage : Stage F.words) (m : Machine F.words) (s : Sending F.words) (on : States L) (board : F.Board) → Holding m.plan stage m.stopped m.undo m.counts on board
      → Holding m.plan stage m.stopped m.undo m.counts (world.sends_again F L W (Some s) on) board
  sends_hold stage m s on board h =
      let new = (L s.bus).happens (on s.bus) (L s.bus).sends_again in
      let same = all_still s.bus new on ((lines s.bus).sent (on s.bus) (h.holds s.bus)) in
      record {
        joined = still F laws W first plan start m.plan stage m.stopped m.undo (requests on) (requests (update L s.bus new on)) board h.joined same;
        counted = counted_still m.counts (requests on) (requests (update L s.bus new on)) same h.counted;
        holds = all_hold s.bus new on h.holds ((lines s.bus).keeps (on s.bus) (L s.bus).sends_again (h.holds s.bus) ((lines s.bus).may_send (on s.bus)));
      }

  quiets_hold : (stage : Stage F.words) (m : Machine F.words) (on : States L) (board : F.Board) → stage ≡ m.stage → Holding m.plan stage m.stopped m.undo m.counts on board → Repeats (quiets F.words stage m) on board
  quiets_hold (Opened true task part) m on board e h =
      cond_both (nat_lt m.resent m.retries) (Some (record { machine = record m { resent = m.resent + 1 }; sends = Some (sending F.words part m.counts) })) (Some (record { machine = record m { stage = Opened false task part }; sends = None })) (λ o. Repeats o on board)
      (λ _. subst (λ (s : Stage F.words). Holding m.plan s m.stopped m.undo m.counts (world.sends_again F L W (Some (sending F.words part m.counts)) on) board) e (sends_hold (Opened true task part) m (sending F.words part m.counts) on board h))
      (λ _. heeds_hold true false task part m on board h)
  quiets_hold (Opened false task part) m on board e h = tt
  quiets_hold AtStart m on board e h = tt
  quiets_hold AtEnd m on board e h = tt
  quiets_hold (AtHalt k why) m on board e h = tt
  quiets_hold AtUndone m on board e h = tt
  quiets_hold (AtRefused k code) m on board e h = tt

  agains_hold : (stage : Stage F.words) (m : Machine F.words) (on : States L) (board : F.Board) → Holding m.plan stage m.stopped m.undo m.counts on board → Repeats (agains F.words stage m) on board
  agains_hold (Opened false task part) m on board h = sends_hold (Opened true task part) m (sending F.words part m.counts) on board (heeds_hold false true task part m on board h)
  agains_hold (Opened true task part) m on board h = tt
  agains_hold AtStart m on board h = tt
  agains_hold AtEnd m on board h = tt
  agains_hold (AtHalt k why) m on board h = tt
  agains_hold AtUndone m on board h = tt
  agains_hold (AtRefused k code) m on board h = tt

  -- ---- a reply is taken

  replies_hold : (task : Task F.words) (part : Part F.words) (m : Machine F.words) (bus : Bus) (e : (L bus).Event) (on : States L) (board : F.Board) (reply : List ℕ) → bus ≡ bus_at F.words part → Holding m.plan (Opened true task part) m.stopped m.undo m.counts on board
      → (lines bus).Holds ((L bus).happens (on bus) e) → TakesReply (requests on bus) ((L bus).requests ((L bus).happens (on bus) e)) reply
      → Opens (replies F.words (W.answered_from bus reply) (Opened true task part) m) (update L bus ((L bus).happens (on bus) e) on) board
  replies_hold task part m bus e on board reply is h held taken =
      let a = W.answered_from bus reply in
      let now = update L bus ((L bus).happens (on bus) e) on in
      let t : TakesReply (requests on bus) (requests now bus) reply = at_here bus ((L bus).happens (on bus) e) on (λ x. TakesReply (requests on bus) x reply) taken in
      let others_still : OthersStill bus (requests on) (requests now) = others bus ((L bus).happens (on bus) e) on in
      let busy : is_busy a.code ≡ false = subst (λ (x : Bus). TakesReply (requests on x) (requests now x) reply → is_busy (W.answered_from x reply).code ≡ false) (sym is)
      (λ t. (told F laws W first plan start m.plan true task part m.stopped m.undo (requests on) board (requests now (bus_at F.words part)) reply h.joined t).1) t in
      let closed : Closed F laws W first plan start m.plan (stage_after F.words m.stopped m.plan a task part) m.stopped (undo_after F.words a task part m.undo) (requests now) board =
      subst (λ (x : Bus). TakesReply (requests on x) (requests now x) reply → OthersStill x (requests on) (requests now)
      → Closed F laws W first plan start m.plan (stage_after F.words m.stopped m.plan (W.answered_from x reply) task part) m.stopped (undo_after F.words (W.answered_from x reply) task part m.undo) (requests now) board) (sym is)
      (λ t others_still. takes_closed F laws W first plan start m.plan true task part m.stopped m.undo (requests on) (requests now) board reply h.joined t others_still) t others_still in
      let counted : AreCounted F W first (one_answered (bus_at F.words part) m.counts) (requests now) =
      subst (λ (x : Bus). AreCounted F W first (one_answered x m.counts) (requests now)) is (counted_taken m.counts bus (requests on) (requests now) reply t others_still h.counted) in
      subst (λ (b : Bool). Opens (if b then None else Some (takes F.words a task part m)) now board) (sym busy)
      (opens_stage m.plan (stage_after F.words m.stopped m.plan a task part) m.stopped (undo_after F.words a task part m.undo) (one_answered (bus_at F.words part) m.counts) now board
      (record { closed = closed; counted = counted; holds = all_hold bus ((L bus).happens (on bus) e) on h.holds held }))

  -- ---- each thing that can happen

  abbrev pub WorldHolds : World F L → Type 0
  WorldHolds w = HoldsOf w.machine w.on w.board

  opened_holds : (o : Option (Turn F.words)) (w : World F L) → WorldHolds w → Opens o w.on w.board → WorldHolds (world.opens F L W o w)
  opened_holds None w h o = h
  opened_holds (Some t) w h o = o

  repeated_holds : (o : Option (Turn F.words)) (w : World F L) → WorldHolds w → Repeats o w.on w.board → WorldHolds (world.repeats F L W o w)
  repeated_holds None w h o = h
  repeated_holds (Some t) w h o = o

  -- nothing moves on a bus
  moved_still : (bus : Bus) (e : (L bus).Event) (w : World F L) → WorldHolds w → (L bus).IsHonest (w.on bus) e → SameRequests (requests w.on bus) ((L bus).requests ((L bus).happens (w.on bus) e))
      → HoldsOf w.machine (world.moved F L W bus e w) w.board
  moved_still bus e w h honest same =
      let s = (L bus).happens (w.on bus) e in
      let all = all_still bus s w.on same in
      record {
        joined = still F laws W first plan start w.machine.plan w.machine.stage w.machine.stopped w.machine.undo (requests w.on) (requests (update L bus s w.on)) w.board h.joined all;
        counted = counted_still w.machine.counts (requests w.on) (requests (update L bus s w.on)) all h.counted;
        holds = all_hold bus s w.on h.holds ((lines bus).keeps (w.on bus) e (h.holds bus) honest);
      }

  on_bus_holds : (bus : Bus) (e : (L bus).Event) (after : F.Board) (o : Option Exchange) (w : World F L) → WorldHolds w → (L bus).IsHonest (w.on bus) e
      → MatchOption o (SameRequests (requests w.on bus) ((L bus).requests ((L bus).happens (w.on bus) e))) (λ x. CarriesOpen (requests w.on bus) ((L bus).requests ((L bus).happens (w.on bus) e)) x.bytes x.reply)
      → BoardMay F L W bus o w.board after → HoldsOf w.machine (world.moved F L W bus e w) after
  on_bus_holds bus e after None w h honest same may =
      let m = moved_still bus e w h honest same in
      record { joined = elsewhere F laws W first plan start w.machine.plan w.machine.stage w.machine.stopped w.machine.undo (requests (world.moved F L W bus e w)) w.board after m.joined may; counted = m.counted; holds = m.holds }
  on_bus_holds bus e after (Some x) w h honest c may =
      let s = (L bus).happens (w.on bus) e in
      let a = may.0 in
      let told_as : CarriesOpen (requests w.on bus) ((L bus).requests s) x.bytes (W.reply_to bus x.bytes a) = subst (CarriesOpen (requests w.on bus) ((L bus).requests s) x.bytes) may.1 c in
      let same_taken : (any : Bus) → (requests (update L bus s w.on) any).taken ≡ (requests w.on any).taken =
      each_bus (λ any. (requests (update L bus s w.on) any).taken ≡ (requests w.on any).taken) bus (at_here bus s w.on (λ y. y.taken ≡ (requests w.on bus).taken) c.taken) (λ other ne. (others bus s w.on other ne).taken) in
      record {
        joined = carries F laws W first plan start w.machine.plan w.machine.stage w.machine.stopped w.machine.undo (requests w.on) (requests (update L bus s w.on)) w.board after x.bytes a bus h.joined
            (at_here bus s w.on (λ y. CarriesOpen (requests w.on bus) y x.bytes (W.reply_to bus x.bytes a)) told_as) (others bus s w.on) may.2;
        counted = λ any. ap (λ (l : List (List ℕ)). number_of any (first any + length l)) (same_taken any) ∙ h.counted any;
        holds = all_hold bus s w.on h.holds ((lines bus).keeps (w.on bus) e (h.holds bus) honest);
      }

  answered_holds : (bus : Bus) (e : (L bus).Event) (o : Option (Turn F.words)) (w : World F L) → WorldHolds w → Opens o (world.moved F L W bus e w) w.board → WorldHolds (world.answered F L W bus e o w)
  answered_holds bus e None w h o = h
  answered_holds bus e (Some t) w h o = o

  brought_holds : (task : Task F.words) (part : Part F.words) (bus : Bus) (e : (L bus).Event) (o : Option (List ℕ)) (w : World F L) → Opened true task part ≡ w.machine.stage → bus ≡ bus_at F.words part → WorldHolds w → (L bus).IsHonest (w.on bus) e
      → MatchOption o (SameRequests (requests w.on bus) ((L bus).requests ((L bus).happens (w.on bus) e))) (TakesReply (requests w.on bus) ((L bus).requests ((L bus).happens (w.on bus) e)))
      → WorldHolds (world.brought F L W bus e o w)
  brought_holds task part bus e None w at is h honest same = moved_still bus e w h honest same
  brought_holds task part bus e (Some reply) w at is h honest t =
      let open_now : Holding w.machine.plan (Opened true task part) w.machine.stopped w.machine.undo w.machine.counts w.on w.board =
      subst (λ (s : Stage F.words). Holding w.machine.plan s w.machine.stopped w.machine.undo w.machine.counts w.on w.board) (sym at) h in
      let r = replies_hold task part w.machine bus e w.on w.board reply is open_now ((lines bus).keeps (w.on bus) e (h.holds bus) honest) t in
      answered_holds bus e (reply_of F.words (W.answered_from bus reply) w.machine) w h
      (subst (λ (s : Stage F.words). Opens (replies F.words (W.answered_from bus reply) s w.machine) (world.moved F L W bus e w) w.board) at r)

  looks_hold : (task : Task F.words) (part : Part F.words) (bus : Bus) (e : (L bus).Event) (b : Bool) (w : World F L) → Opened true task part ≡ w.machine.stage → (b ≡ true → bus ≡ bus_at F.words part) → WorldHolds w → IsHonestOn F L W bus e w → (L bus).is_to_manager e ≡ true
      → WorldHolds (world.looks F L W bus e b w)
  looks_hold task part bus e false w at is h honest t = h
  looks_hold task part bus e true w at is h honest t =
      brought_holds task part bus e ((L bus).brings (w.on bus) e) w at (is refl) h honest.1 ((lines bus).to_manager (w.on bus) e (h.holds bus) honest.0 t honest.1)

  returns_hold : (bus : Bus) (e : (L bus).Event) (stage : Stage F.words) (w : World F L) → stage ≡ w.machine.stage → WorldHolds w → IsHonestOn F L W bus e w → (L bus).is_to_manager e ≡ true → WorldHolds (world.returns F L W bus e stage w)
  returns_hold bus e (Opened true task part) w at h honest t = looks_hold task part bus e (same_bus bus (bus_at F.words part)) w at (same_bus-true bus (bus_at F.words part)) h honest t
  returns_hold bus e (Opened false task part) w at h honest t = h
  returns_hold bus e AtStart w at h honest t = h
  returns_hold bus e AtEnd w at h honest t = h
  returns_hold bus e (AtHalt k why) w at h honest t = h
  returns_hold bus e AtUndone w at h honest t = h
  returns_hold bus e (AtRefused k code) w at h honest t = h

  -- another manager goes on: no request is open, and its list leads back over as many steps as it has requests
  replaced_holds : (retries k : ℕ) (w : World F L) → ((bus : Bus) → IsClosed (requests w.on bus)) → CanUndo F plan start k w.machine.undo (F.records w.board) → WorldHolds w → WorldHolds (world.replaced F L W retries w)
  replaced_holds retries k w closed can h =
      let now : States L = (λ bus. (L bus).happens (w.on bus) (L bus).resumes) in
      let same : (bus : Bus) → SameRequests (requests w.on bus) (requests now bus) = (λ bus. (lines bus).resumed (w.on bus) (h.holds bus) (closed bus)) in
      let k_is = length_of F plan start k w.machine.undo (F.records w.board) can in
      let m = resumed F.words retries (list_of F.words w.machine) in
      let rest : Closed F laws W first plan start m.plan m.stage m.stopped m.undo (requests w.on) w.board = record {
        orderly = h.joined.orderly;
        closed = closed;
        sound = (subst (λ (n : ℕ). CanUndo F plan start n w.machine.undo (F.records w.board)) (sym k_is) can, refl);
        valid = h.joined.valid;
        free = h.joined.free;
      } in
      record {
        joined = enters_joined F laws W first plan start m.plan m.stage m.stopped m.undo (requests w.on) (requests now) w.board rest same;
        counted = λ bus. counted_still w.machine.counts (requests w.on) (requests now) same h.counted bus ∙ sym (round bus w.machine.counts);
        holds = λ bus. (lines bus).keeps (w.on bus) (L bus).resumes (h.holds bus) ((lines bus).may_resume (w.on bus) (closed bus));
      }

  resumes_hold : (retries : ℕ) (stage : Stage F.words) (w : World F L) → stage ≡ w.machine.stage → WorldHolds w → WorldHolds (world.resumes F L W retries stage w)
  resumes_hold retries AtEnd w at h =
      let j = subst (λ (s : Stage F.words). Holding w.machine.plan s w.machine.stopped w.machine.undo w.machine.counts w.on w.board) (sym at) h in
      replaced_holds retries (length plan) w j.joined.are_open j.joined.sound h
  resumes_hold retries (AtHalt k why) w at h =
      let j = subst (λ (s : Stage F.words). Holding w.machine.plan s w.machine.stopped w.machine.undo w.machine.counts w.on w.board) (sym at) h in
      replaced_holds retries k w j.joined.are_open j.joined.sound.0 h
  resumes_hold retries AtStart w at h = h
  resumes_hold retries (Opened heeded task part) w at h = h
  resumes_hold retries AtUndone w at h = h
  resumes_hold retries (AtRefused k code) w at h = h

  -- the manager is made again: the task and its requests stay, and a plan is to stop
  restarts_hold : (stage : Stage F.words) (m : Machine F.words) (on : States L) (board : F.Board) → stage ≡ m.stage → Holding m.plan stage m.stopped m.undo m.counts on board → HoldsOf (restarts F.words stage m) on board
  restarts_hold (Opened heeded (Gets k op) part) m on board e h = heeds_hold heeded false (Gets k op) part (record m { stopped = true }) on board (stop_holds (Opened heeded (Gets k op) part) m on board h)
  restarts_hold (Opened heeded (Sets k op back) part) m on board e h = heeds_hold heeded false (Sets k op back) part (record m { stopped = true }) on board (stop_holds (Opened heeded (Sets k op back) part) m on board h)
  restarts_hold (Opened heeded (Undoes u us) part) m on board e h = heeds_hold heeded false (Undoes u us) part m on board h
  restarts_hold AtStart m on board e h = subst (λ (s : Stage F.words). Holding m.plan s m.stopped m.undo m.counts on board) e h
  restarts_hold AtEnd m on board e h = subst (λ (s : Stage F.words). Holding m.plan s m.stopped m.undo m.counts on board) e h
  restarts_hold (AtHalt k why) m on board e h = subst (λ (s : Stage F.words). Holding m.plan s m.stopped m.undo m.counts on board) e h
  restarts_hold AtUndone m on board e h = subst (λ (s : Stage F.words). Holding m.plan s m.stopped m.undo m.counts on board) e h
  restarts_hold (AtRefused k code) m on board e h = subst (λ (s : Stage F.words). Holding m.plan s m.stopped m.undo m.counts on board) e h

  -- and no request moves on a bus
  remade_holds : (m : Machine F.words) (on : States L) (board : F.Board) → HoldsOf m on board → HoldsOf m (λ bus. (L bus).restarts (on bus)) board
  remade_holds m on board h =
      let now : States L = (λ bus. (L bus).restarts (on bus)) in
      let same : (bus : Bus) → SameRequests (requests on bus) (requests now bus) = (λ bus. ((lines bus).restarted (on bus) (h.holds bus)).1) in
      record {
        joined = still F laws W first plan start m.plan m.stage m.stopped m.undo (requests on) (requests now) board h.joined same;
        counted = counted_still m.counts (requests on) (requests now) same h.counted;
        holds = λ bus. ((lines bus).restarted (on bus) (h.holds bus)).0;
      }

  pub happens_holds : (w : World F L) (e : Happening F L) → WorldHolds w → MayHappen F L W w e → WorldHolds (happens F L W w e)
  happens_holds w (Calls Start) h may = opened_holds (start_of F.words w.machine) w h (starts_hold w.machine.stage w.machine w.on w.board h)
  happens_holds w (Calls Quiet) h may = repeated_holds (quiet_of F.words w.machine) w h (quiets_hold w.machine.stage w.machine w.on w.board refl h)
  happens_holds w (Calls Stop) h may = opened_holds (stop_of F.words w.machine) w h (stops_hold w.machine.stage w.machine w.on w.board refl h)
  happens_holds w (Calls Again) h may = repeated_holds (again_of F.words w.machine) w h (agains_hold w.machine.stage w.machine w.on w.board h)
  happens_holds w (Calls Undo) h may = opened_holds (undo_of F.words w.machine) w h (undoes_hold w.machine.stage w.machine w.on w.board h)
  happens_holds w (Resume retries) h may = resumes_hold retries w.machine.stage w refl h
  happens_holds w Restart h may = remade_holds (restarts F.words w.machine.stage w.machine) w.on w.board (restarts_hold w.machine.stage w.machine w.on w.board refl h)
  happens_holds w (ToManager bus e) h may = returns_hold bus e w.machine.stage w refl h may.0 may.1
  happens_holds w (OnBus bus e after) h may =
      on_bus_holds bus e after ((L bus).carries (w.on bus) e) w h may.0.1 ((lines bus).on_bus (w.on bus) e (h.holds bus) may.0.0 may.1 may.0.1) may.2
  happens_holds w (OnBench after) h may =
      record { joined = elsewhere F laws W first plan start w.machine.plan w.machine.stage w.machine.stopped w.machine.undo (requests w.on) w.board after h.joined may; counted = h.counted; holds = h.holds }

  pub run_holds : (events : List (Happening F L)) (w : World F L) → WorldHolds w → AllMay F L W events w → WorldHolds (run F L W events w)
  run_holds [] w h may = h
  run_holds (e ∷ es) w h may = run_holds es (happens F L W w e) (happens_holds w e h may.0) may.1
