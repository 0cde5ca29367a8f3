-- Over two buses that lose nothing a plan goes as where the board answers at once.
use Rattle.std.proofs.Common.{◌≡◌, ℕ, zero, suc, ◌+◌, Bool, true, false, eqb, List, [], ◌∷◌, ◌++◌, length, Option, Some, None, refl, sym, ◌∙◌, ap, subst, arith}
use Rattle.std.specs.Prelude.{slice_get, MatchOption, IfSome, map, if◌then◌else◌}
use Rattle.std.proofs.lemmas.Bool.{cond_both}
use Rattle.std.proofs.lemmas.Option.{none-some}
use Rattle.two_wire.specs.Codes.{success}
use Rattle.two_wire.specs.declared.Bus.{Bus}
use Rattle.two_wire.specs.declared.Bus.TheVariants.{Ipmb, Smbus}
use Rattle.model_bus.specs.Request.{Kept}
use Rattle.model_bus.specs.BusState.{BusState}
use Rattle.model_bus.specs.Start.{NothingUnderWay}
use Rattle.model_bus.specs.Effect.{SameRequests, BeginsRequest, CarriesOpen, TakesReply}
use Rattle.model_bus.proofs.Lists.{length_more}
use Rattle.model_bus.specs.Answered.{Answered}
use Rattle.model_undo.specs.Words.{is_busy, AreSingle}
use Rattle.model_undo.specs.declared.phase.Phase.{Phase}
use Rattle.model_undo.specs.declared.phase.Phase.TheVariants.{Undone}
use Rattle.model_undo.specs.Family.{Family}
use Rattle.model_undo.specs.IsFamily.{IsFamily}
use Rattle.model_undo.specs.Plan.{IsAfter}
use Rattle.model_undo.specs.Machine.{Counts, count_of, one_answered, Task, Part, series_of, bodies_with, next_asked, refused, goes_on, told_stage, finished, stage_after, Gets, Sets, Undoes, Stage, AtStart, Opened, AtEnd, AtHalt, AtUndone, AtRefused, Machine, Turn, bus_at, same_bus, sending, sends_at, enters, takes, replies as machine_replies, reply_of, set_stage, next_stage, undo_stage, first_stage, phase_at, undo_of, opened}
use Rattle.model_undo.specs.Wires.{number_of, Wires}
use Rattle.model_undo.specs.Line.{Exchange, Line}
use Rattle.model_undo.specs.Joined.{IsClosed}
use Rattle.model_undo.specs.Delivery.{Delivery}
use Rattle.model_undo.specs.World as world
use Rattle.model_undo.specs.declared.call.Call.TheVariants.{Start, Undo}
use Rattle.model_undo.specs.World.{States, update, World, Happening, Calls, ToManager, BoardMay, bytes_sent, begins, moved, happens, run, AllMay, opening}
use Rattle.model_undo.specs.Clean.{Moment, answered_in_all, AnswersByRow, one, clean, IsAtRest}
use Rattle.model_undo.specs.CleanBuses.{reach_port, asks, replies, exchange, exchanges, AllCanBeSent, HasEnded, RunsThroughBuses, AlwaysRunsThroughBuses, RunsOverBuses, AlwaysRunsOverBuses}
use Rattle.model_undo.specs.CleanSeries.{AreFinite, AnswersEach}
use Rattle.model_undo.specs.Undoable.{CanUndo}
use Rattle.model_undo.proofs.StageSound.{task_made}
use Rattle.model_undo.proofs.Calls.{first_good, undo_good}
use Rattle.model_undo.proofs.Buses.{each_bus}
use Rattle.model_undo.proofs.Orderly.{closed_taken}
use Rattle.model_undo.proofs.LineLaws.{IsLine}
use Rattle.model_undo.proofs.Delivery.{HasCarried, HasBrought, LosesNothing}
use Rattle.model_undo.proofs.World.{count_here, count_there, here, there, WorldHolds, happens_holds, run_holds}
use Rattle.model_undo.proofs.Headline.{run_on, opening_holds}
use Rattle.model_undo.proofs.CleanSteps.{at_stage, Good, replied, one_part, part_good}
use Rattle.model_undo.proofs.CleanSeries.{always_runs_through}
use Rattle.model_undo.proofs.Clean.{are_finite, go_all, ends_so, each_one}

same_bus-itself : (bus : Bus) → same_bus bus bus ≡ true
same_bus-itself Ipmb = refl
same_bus-itself Smbus = refl

-- no request moves, and then a reply is taken
taken_after : (old mid new : BusState) (reply : List ℕ) → SameRequests old mid → TakesReply mid new reply → TakesReply old new reply
taken_after old mid new reply s t =
    let place : length mid.taken ≡ length old.taken = ap (λ (x : List (List ℕ)). length x) s.taken in
    let all : length mid.begun ≡ length old.begun = ap (λ (x : List (List ℕ)). length x) s.begun in
    let opened = t.opened in
    record {
      begun = t.begun ∙ s.begun;
      carried = t.carried ∙ s.carried;
      taken = t.taken ∙ ap (λ (x : List (List ℕ)). x ++ reply ∷ []) s.taken;
      opened = omega arith;
      kept = record { kept = t.kept.kept; at = sym (ap (λ (x : List Kept). slice_get x (length old.taken)) s.carried) ∙ ap (slice_get mid.carried) (sym place) ∙ t.kept.at; replied = t.kept.replied };
    }

-- a stage that is heeded, if a request is open in it
abbrev IsHeeded : (F : Family) → Stage F.words → Type 0
IsHeeded F (Opened false task part) = ⊥
IsHeeded F _ = Unit {0}

set_heeded : (F : Family) (stopped : Bool) (k : ℕ) (op : F.words.Op) (o : Option F.words.Op) → IsHeeded F (set_stage F.words stopped k op o)
set_heeded F stopped k op None = tt
set_heeded F true k op (Some back) = tt
set_heeded F false k op (Some back) = tt

next_heeded : (F : Family) (stopped : Bool) (k : ℕ) (o : Option F.words.Op) → IsHeeded F (next_stage F.words stopped k o)
next_heeded F stopped k None = tt
next_heeded F true k (Some op) = tt
next_heeded F false k (Some op) = tt

undo_heeded : (F : Family) (list : List F.words.Series) → IsHeeded F (undo_stage F.words list)
undo_heeded F [] = tt
undo_heeded F (u ∷ us) = tt

finished_heeded : (F : Family) (stopped : Bool) (plan : List F.words.Op) (shown : List ℕ) (task : Task F.words) → IsHeeded F (finished F.words stopped plan shown task)
finished_heeded F stopped plan shown (Gets k op) = set_heeded F stopped k op (F.words.inverse op shown)
finished_heeded F stopped plan shown (Sets k op back) = next_heeded F stopped (suc k) (slice_get plan (suc k))
finished_heeded F stopped plan shown (Undoes u us) = undo_heeded F us

refused_heeded : (F : Family) (code : ℕ) (task : Task F.words) → IsHeeded F (refused F.words code task)
refused_heeded F code (Gets k op) = tt
refused_heeded F code (Sets k op back) = tt
refused_heeded F code (Undoes u us) = tt

goes_on_heeded : (F : Family) (stopped : Bool) (task : Task F.words) (part : Part F.words) → IsHeeded F (goes_on F.words stopped task part)
goes_on_heeded F true (Gets k op) part = tt
goes_on_heeded F false (Gets k op) part = tt
goes_on_heeded F stopped (Sets k op back) part = tt
goes_on_heeded F stopped (Undoes u us) part = tt

told_heeded : (F : Family) (stopped : Bool) (plan : List F.words.Op) (task : Task F.words) (bodies : List (List ℕ)) (o : Option F.words.Asked) → IsHeeded F (told_stage F.words stopped plan task bodies o)
told_heeded F stopped plan task bodies (Some asked) = goes_on_heeded F stopped task (record { asked = asked; before = bodies })
told_heeded F stopped plan task bodies None = finished_heeded F stopped plan (F.words.joined (series_of F.words task) bodies) task

after_heeded : (F : Family) (stopped : Bool) (plan : List F.words.Op) (a : Answered) (task : Task F.words) (part : Part F.words) → IsHeeded F (stage_after F.words stopped plan a task part)
after_heeded F stopped plan a task part =
    let went = told_stage F.words stopped plan task (bodies_with F.words a part) (next_asked F.words a task part) in
    cond_both (eqb a.code success) went (refused F.words a.code task) (IsHeeded F)
    (λ _. told_heeded F stopped plan task (bodies_with F.words a part) (next_asked F.words a task part)) (λ _. refused_heeded F a.code task)

module _ (F : Family) (L : Bus → Line) (W : Wires F.words) where
  pub all_append : (es fs : List (Happening F L)) (w : World F L) → AllMay F L W es w → AllMay F L W fs (run F L W es w) → AllMay F L W (es ++ fs) w
  all_append [] fs w may more = more
  all_append (e ∷ es) fs w may more = (may.0, all_append es fs (happens F L W w e) may.1 more)

module _ (F : Family) (laws : IsFamily F) (L : Bus → Line) (lines : (bus : Bus) → IsLine (L bus)) (D : (bus : Bus) → Delivery (L bus)) (clean_lines : (bus : Bus) → LosesNothing (L bus) (D bus) (lines bus))
    (W : Wires F.words) (answer : F.Board → F.words.Asked → Answered × F.Board) (by_row : AnswersByRow F answer) (can : AllCanBeSent F L D W answer) (plan : List F.words.Op) (start : F.Records) where
  abbrev first : Bus → ℕ
  first bus = 0

  abbrev Holds : World F L → Type 0
  Holds w = WorldHolds F laws L lines W first plan start w

  abbrev world_of : Machine F.words → States L → F.Board → World F L
  world_of m on board = record { machine = m; on = on; board = board }

  abbrev request_on : States L → Bus → BusState
  request_on on bus = (L bus).requests (on bus)

  is_here : (bus : Bus) (s : (L bus).State) (on : States L) → update L bus s on bus ≡ s
  is_here bus s on = here F laws L lines W first plan start bus s on

  is_there : (bus other : Bus) (s : (L bus).State) (on : States L) → (other ≡ bus → ⊥) → update L bus s on other ≡ on other
  is_there bus other s on ne = there F laws L lines W first plan start bus other s on ne

  -- ---- a request reaches the port

  -- it was carried out, and its reply was sent
  record Reached (bus : Bus) (reply : List ℕ) (after : F.Board) (w v : World F L) : Type 0 where
    now : States L
    is : v ≡ world_of w.machine now after
    answered : (clean_lines bus).Answered (now bus) reply
    taken : (request_on now bus).taken ≡ (request_on w.on bus).taken
    others : (other : Bus) → (other ≡ bus → ⊥) → now other ≡ w.on other

  reaches : (bus : Bus) (es : List (L bus).Event) (x : Exchange) (after : F.Board) (w : World F L) → (lines bus).Holds (w.on bus) → HasCarried (L bus) es (w.on bus) x (λ t. (clean_lines bus).Answered t x.reply)
      → BoardMay F L W bus (Some x) w.board after
      → AllMay F L W (reach_port F L D W answer bus es w.board after) w × Reached bus x.reply after w (run F L W (reach_port F L D W answer bus es w.board after) w)
  reaches bus [] x after w held h may = absurd h
  reaches bus (e ∷ []) x after w held h may =
      let s = w.on bus in
      let t = (L bus).happens s e in
      let effect : CarriesOpen ((L bus).requests s) ((L bus).requests t) x.bytes x.reply =
      subst (λ (o : Option Exchange). MatchOption o (SameRequests ((L bus).requests s) ((L bus).requests t)) (λ y. CarriesOpen ((L bus).requests s) ((L bus).requests t) y.bytes y.reply)) h.3 ((lines bus).on_bus s e held h.0 h.1 h.2) in (
        (((h.0, h.2), h.1, subst (λ (o : Option Exchange). BoardMay F L W bus o w.board after) (sym h.3) may), tt),
        record {
          now = update L bus t w.on;
          is = refl;
          answered = subst (λ (y : (L bus).State). (clean_lines bus).Answered y x.reply) (sym (is_here bus t w.on)) h.4;
          taken = ap (λ (y : (L bus).State). ((L bus).requests y).taken) (is_here bus t w.on) ∙ effect.taken;
          others = λ other ne. is_there bus other t w.on ne;
        },
      )
  reaches bus (e ∷ f ∷ es) x after w held h may =
      let s = w.on bus in
      let t = (L bus).happens s e in
      let effect : SameRequests ((L bus).requests s) ((L bus).requests t) =
      subst (λ (o : Option Exchange). MatchOption o (SameRequests ((L bus).requests s) ((L bus).requests t)) (λ y. CarriesOpen ((L bus).requests s) ((L bus).requests t) y.bytes y.reply)) h.3 ((lines bus).on_bus s e held h.0 h.1 h.2) in
      let next = world_of w.machine (update L bus t w.on) w.board in
      let r = reaches bus (f ∷ es) x after next (subst (lines bus).Holds (sym (is_here bus t w.on)) ((lines bus).keeps s e held h.2))
      (subst (λ (y : (L bus).State). HasCarried (L bus) (f ∷ es) y x (λ z. (clean_lines bus).Answered z x.reply)) (sym (is_here bus t w.on)) h.4) may in (
        (((h.0, h.2), h.1, subst (λ (o : Option Exchange). BoardMay F L W bus o w.board w.board) (sym h.3) (refl, (λ series bodies ready. ready))), r.0),
        record {
          now = r.1.now;
          is = r.1.is;
          answered = r.1.answered;
          taken = r.1.taken ∙ ap (λ (y : (L bus).State). ((L bus).requests y).taken) (is_here bus t w.on) ∙ effect.taken;
          others = λ other ne. r.1.others other ne ∙ is_there bus other t w.on ne;
        },
      )

  -- ---- its reply reaches the manager

  -- the machine took it; `mid` are the buses before a next request is begun
  record Took (bus : Bus) (task : Task F.words) (part : Part F.words) (reply : List ℕ) (w v : World F L) : Type 0 where
    mid : States L
    is : let t = takes F.words (W.answered_from bus reply) task part w.machine in v ≡ world_of t.machine (begins F L W t.sends mid) w.board
    place : (D bus).HasPlace (mid bus)
    held : (lines bus).Holds (mid bus)
    taken : TakesReply (request_on w.on bus) (request_on mid bus) reply
    others : (other : Bus) → (other ≡ bus → ⊥) → mid other ≡ w.on other

  comes : (bus : Bus) (e : (L bus).Event) (task : Task F.words) (part : Part F.words) (w : World F L) → w.machine.stage ≡ Opened true task part → bus ≡ bus_at F.words part → happens F L W w (ToManager bus e) ≡ world.brought F L W bus e ((L bus).brings (w.on bus) e) w
  comes bus e task part w at is =
      let on_it : same_bus bus (bus_at F.words part) ≡ true = ap (same_bus bus) (sym is) ∙ same_bus-itself bus in
      ap (λ (s : Stage F.words). world.returns F L W bus e s w) at ∙ ap (λ (t : Bool). world.looks F L W bus e t w) on_it

  takes_reply : (bus : Bus) (es : List (L bus).Event) (task : Task F.words) (part : Part F.words) (reply : List ℕ) (w : World F L) → w.machine.stage ≡ Opened true task part → bus ≡ bus_at F.words part → (lines bus).Holds (w.on bus)
      → HasBrought (L bus) es (w.on bus) reply (D bus).HasPlace → is_busy (W.answered_from bus reply).code ≡ false
      → let all = map (λ (e : (L bus).Event). ToManager bus e) es in
      AllMay F L W all w × Took bus task part reply w (run F L W all w)
  takes_reply bus [] task part reply w at is held h free = absurd h
  takes_reply bus (e ∷ []) task part reply w at is held h free =
      let s = w.on bus in
      let t = (L bus).happens s e in
      let a = W.answered_from bus reply in
      let turn = takes F.words a task part w.machine in
      let effect : TakesReply ((L bus).requests s) ((L bus).requests t) reply =
      subst (λ (o : Option (List ℕ)). MatchOption o (SameRequests ((L bus).requests s) ((L bus).requests t)) (TakesReply ((L bus).requests s) ((L bus).requests t))) h.3 ((lines bus).to_manager s e held h.0 h.1 h.2) in
      let heard : reply_of F.words a w.machine ≡ Some turn = ap (λ (y : Stage F.words). machine_replies F.words a y w.machine) at ∙ ap (λ (b : Bool). if b then None else Some turn) free in
      let becomes : happens F L W w (ToManager bus e) ≡ world_of turn.machine (begins F L W turn.sends (moved F L W bus e w)) w.board =
      comes bus e task part w at is ∙ ap (λ (o : Option (List ℕ)). world.brought F L W bus e o w) h.3 ∙ ap (λ (o : Option (Turn F.words)). world.answered F L W bus e o w) heard in (
        (((h.0, h.2), h.1), tt),
        record {
          mid = update L bus t w.on;
          is = becomes;
          place = subst (D bus).HasPlace (sym (is_here bus t w.on)) h.4;
          held = subst (lines bus).Holds (sym (is_here bus t w.on)) ((lines bus).keeps s e held h.2);
          taken = subst (λ (y : (L bus).State). TakesReply ((L bus).requests s) ((L bus).requests y) reply) (sym (is_here bus t w.on)) effect;
          others = λ other ne. is_there bus other t w.on ne;
        },
      )
  takes_reply bus (e ∷ f ∷ es) task part reply w at is held h free =
      let s = w.on bus in
      let t = (L bus).happens s e in
      let effect : SameRequests ((L bus).requests s) ((L bus).requests t) =
      subst (λ (o : Option (List ℕ)). MatchOption o (SameRequests ((L bus).requests s) ((L bus).requests t)) (TakesReply ((L bus).requests s) ((L bus).requests t))) h.3 ((lines bus).to_manager s e held h.0 h.1 h.2) in
      let next = world_of w.machine (update L bus t w.on) w.board in
      let becomes : happens F L W w (ToManager bus e) ≡ next = comes bus e task part w at is ∙ ap (λ (o : Option (List ℕ)). world.brought F L W bus e o w) h.3 in
      let all = map (λ (y : (L bus).Event). ToManager bus y) (f ∷ es) in
      let same : SameRequests ((L bus).requests s) (request_on next.on bus) = subst (λ (y : (L bus).State). SameRequests ((L bus).requests s) ((L bus).requests y)) (sym (is_here bus t w.on)) effect in
      let r = takes_reply bus (f ∷ es) task part reply next at is (subst (lines bus).Holds (sym (is_here bus t w.on)) ((lines bus).keeps s e held h.2))
      (subst (λ (y : (L bus).State). HasBrought (L bus) (f ∷ es) y reply (D bus).HasPlace) (sym (is_here bus t w.on)) h.4) free in (
        (((h.0, h.2), h.1), subst (AllMay F L W all) (sym becomes) r.0),
        record {
          mid = r.1.mid;
          is = ap (run F L W all) becomes ∙ r.1.is;
          place = r.1.place;
          held = r.1.held;
          taken = taken_after ((L bus).requests s) (request_on next.on bus) (request_on r.1.mid bus) reply same r.1.taken;
          others = λ other ne. r.1.others other ne ∙ is_there bus other t w.on ne;
        },
      )

  -- ---- a stage is entered

  abbrev HavePlace : States L → Type 0
  HavePlace on = (bus : Bus) → (D bus).HasPlace (on bus)

  -- the request of the stage was just sent, and there is a place for each that comes
  abbrev Ready : Stage F.words → Counts → States L → Type 0
  Ready (Opened true task part) counts on =
      (clean_lines (bus_at F.words part)).Asked (on (bus_at F.words part)) (bytes_sent F L W (sending F.words part counts))
      × ((other : Bus) → (other ≡ bus_at F.words part → ⊥) → (D other).HasPlace (on other))
  Ready (Opened false task part) counts on = ⊥
  Ready AtStart counts on = HavePlace on
  Ready AtEnd counts on = HavePlace on
  Ready (AtHalt k why) counts on = HavePlace on
  Ready AtUndone counts on = HavePlace on
  Ready (AtRefused k code) counts on = HavePlace on

  -- so many replies were taken as the machine counts
  abbrev AreExact : Counts → States L → Type 0
  AreExact counts on = (bus : Bus) → length (request_on on bus).taken ≡ count_of bus counts

  -- no request is open on either bus
  record Rests (counts : Counts) (on : States L) : Type 0 where
    held : (bus : Bus) → (lines bus).Holds (on bus)
    closed : (bus : Bus) → IsClosed (request_on on bus)
    place : HavePlace on
    exact : AreExact counts on

  opens_ready : (task : Task F.words) (part : Part F.words) (m : Machine F.words) (on : States L) (b : F.Board) → Good F laws answer by_row plan start (Opened true task part) m b → Rests m.counts on
      → let now = begins F L W (sends_at F.words (Opened true task part) m.counts) on in Ready (Opened true task part) m.counts now × AreExact m.counts now
  opens_ready task part m on b good r =
      let bus = bus_at F.words part in
      let bytes = bytes_sent F L W (sending F.words part m.counts) in
      let s = (L bus).happens (on bus) ((L bus).begins bytes) in
      let made = task_made F plan start m.plan m.undo b task part good.sound.0 good.sound.2 in
      let asked = (clean_lines bus).begun (on bus) bytes (r.held bus) (r.closed bus) (r.place bus) (can.requests (number_of bus (count_of bus m.counts)) part.asked made) in
      let begun : BeginsRequest (request_on on bus) ((L bus).requests s) bytes = (lines bus).begun (on bus) bytes (r.held bus) (r.closed bus) in (
        (subst (λ (y : (L bus).State). (clean_lines bus).Asked y bytes) (sym (is_here bus s on)) asked, λ other ne. subst (D other).HasPlace (sym (is_there bus other s on ne)) (r.place other)),
        each_bus (λ any. length (request_on (update L bus s on) any).taken ≡ count_of any m.counts) bus
            (ap (λ (y : (L bus).State). length ((L bus).requests y).taken) (is_here bus s on) ∙ ap (λ (l : List (List ℕ)). length l) begun.taken ∙ r.exact bus)
            (λ other ne. ap (λ (y : (L other).State). length ((L other).requests y).taken) (is_there bus other s on ne) ∙ r.exact other),
      )

  enters_ready : (stage : Stage F.words) (m : Machine F.words) (on : States L) (b : F.Board) → IsHeeded F stage → Good F laws answer by_row plan start stage m b → Rests m.counts on
      → let now = begins F L W (sends_at F.words stage m.counts) on in Ready stage m.counts now × AreExact m.counts now
  enters_ready (Opened true task part) m on b heeded good r = opens_ready task part m on b good r
  enters_ready (Opened false task part) m on b heeded good r = absurd heeded
  enters_ready AtStart m on b heeded good r = (r.place, r.exact)
  enters_ready AtEnd m on b heeded good r = (r.place, r.exact)
  enters_ready (AtHalt k why) m on b heeded good r = (r.place, r.exact)
  enters_ready AtUndone m on b heeded good r = (r.place, r.exact)
  enters_ready (AtRefused k code) m on b heeded good r = (r.place, r.exact)

  -- ---- one request

  -- what holds before each
  record Going (stage : Stage F.words) (m : Machine F.words) (on : States L) (b : F.Board) : Type 0 where
    good : Good F laws answer by_row plan start stage m b
    holds : Holds (world_of (enters F.words stage m).machine on b)
    ready : Ready stage m.counts on
    exact : AreExact m.counts on

  -- the world has come as far as the manager and the board without buses
  record Follows (x : Moment F) (w : World F L) : Type 0 where
    stage : Stage F.words
    machine : Machine F.words
    now : States L
    board : F.Board
    same : x ≡ at_stage F laws answer by_row plan start stage machine board
    is : w ≡ world_of (enters F.words stage machine).machine now board
    going : Going stage machine now board

  exchange_task : (task : Task F.words) (part : Part F.words) (m : Machine F.words) (on : States L) (b : F.Board) → Going (Opened true task part) m on b
      → let w = world_of (enters F.words (Opened true task part) m).machine on b in
      let es = exchange F L D W answer (Opened true task part) w in
      AllMay F L W es w × Follows (one F answer (at_stage F laws answer by_row plan start (Opened true task part) m b)) (run F L W es w)
  exchange_task task part m on b g =
      let w = world_of (enters F.words (Opened true task part) m).machine on b in
      let bus = bus_at F.words part in
      let asked = part.asked in
      let number = number_of bus (count_of bus m.counts) in
      let r = answer b asked in
      let bytes = bytes_sent F L W (sending F.words part m.counts) in
      let reply = W.reply_to bus bytes r.0 in
      let made = task_made F plan start m.plan m.undo b task part g.good.sound.0 g.good.sound.2 in
      let can_ask = can.requests number asked made in
      let can_answer = can.answers number asked b g.good.valid made in
      let may_board : BoardMay F L W bus (Some (record { bytes = bytes; reply = reply })) b r.1 = (r.0, refl, subst (λ (y : F.words.Asked). F.Row b y r.0 r.1) (sym (W.same number asked made)) (by_row b asked)) in
      let to = asks F L D W answer part w in
      let there = reaches bus ((D bus).to_port (on bus) reply) (record { bytes = bytes; reply = reply }) r.1 w (g.holds.holds bus) ((clean_lines bus).carried (on bus) bytes reply (g.holds.holds bus) g.ready.0 can_ask can_answer) may_board in
      let v = world_of w.machine there.1.now r.1 in
      let holds_v : Holds v = subst Holds there.1.is (run_holds F laws L lines W first plan start to w g.holds there.0) in
      let told : W.answered_from bus reply ≡ r.0 = W.same_reply bus bytes r.0 in
      let free : is_busy (W.answered_from bus reply).code ≡ false = ap (λ (a : Answered). is_busy a.code) told ∙ laws.never_busy b r.1 asked r.0 (by_row b asked) in
      let back = takes_reply bus ((D bus).to_manager (there.1.now bus)) task part reply v refl refl (holds_v.holds bus) ((clean_lines bus).brought (there.1.now bus) reply (holds_v.holds bus) there.1.answered can_answer) free in
      let mid = back.1.mid in
      let es = exchange F L D W answer (Opened true task part) w in
      let may : AllMay F L W es w = all_append F L W to (replies F L D W answer bus (run F L W to w)) w there.0
      (subst (λ (y : World F L). AllMay F L W (replies F L D W answer bus y) y) (sym there.1.is) back.0) in
      let next = stage_after F.words m.stopped m.plan r.0 task part in
      let then_m = replied F laws answer by_row plan start task part m r.0 in
      let on_after = begins F L W (sends_at F.words next then_m.counts) mid in
      let is : run F L W es w ≡ world_of (enters F.words next then_m).machine on_after r.1 =
      run_on F L W to (replies F L D W answer bus (run F L W to w)) w
      ∙ ap (λ (y : World F L). run F L W (replies F L D W answer bus y) y) there.1.is
      ∙ back.1.is
      ∙ ap (λ (a : Answered). let t = takes F.words a task part w.machine in world_of t.machine (begins F L W t.sends mid) r.1) told in
      let good = part_good F laws answer by_row plan start task part m b g.good in
      let place : HavePlace mid = each_bus (λ any. (D any).HasPlace (mid any)) bus back.1.place
      (λ other ne. subst (D other).HasPlace (sym (back.1.others other ne ∙ there.1.others other ne)) (g.ready.1 other ne)) in
      let more : length (request_on mid bus).taken ≡ length (request_on there.1.now bus).taken + 1 = ap (λ (l : List (List ℕ)). length l) back.1.taken.taken ∙ length_more (request_on there.1.now bus).taken reply in
      let exact : AreExact then_m.counts mid = each_bus (λ any. length (request_on mid any).taken ≡ count_of any (one_answered bus m.counts)) bus
      (more ∙ ap (λ (l : List (List ℕ)). length l + 1) there.1.taken ∙ ap (λ (n : ℕ). n + 1) (g.exact bus) ∙ sym (count_here bus m.counts))
      (λ other ne. ap (λ (y : (L other).State). length ((L other).requests y).taken) (back.1.others other ne ∙ there.1.others other ne) ∙ g.exact other ∙ sym (count_there bus other m.counts ne)) in
      let rests : Rests then_m.counts mid = record {
        held = each_bus (λ any. (lines any).Holds (mid any)) bus back.1.held (λ other ne. subst (lines other).Holds (sym (back.1.others other ne)) (holds_v.holds other));
        closed = each_bus (λ any. IsClosed (request_on mid any)) bus (closed_taken F W first bus (request_on there.1.now bus) (request_on mid bus) reply (holds_v.joined.orderly bus) back.1.taken)
            (λ other ne. subst (λ (y : (L other).State). IsClosed ((L other).requests y)) (sym (back.1.others other ne)) ((holds_v.joined.are_open other).1 ne));
        place = place;
        exact = exact;
      } in
      let ready = enters_ready next then_m mid r.1 (after_heeded F m.stopped m.plan r.0 task part) good rests in (
        may,
        record {
          stage = next;
          machine = then_m;
          now = on_after;
          board = r.1;
          same = one_part F laws answer by_row plan start task part m b;
          is = is;
          going = record { good = good; holds = subst Holds is (run_holds F laws L lines W first plan start es w g.holds may); ready = ready.0; exact = ready.1 };
        },
      )

  abbrev Exchanged : Stage F.words → Machine F.words → States L → F.Board → Type 0
  Exchanged stage m on b =
      let w = world_of (enters F.words stage m).machine on b in
      AllMay F L W (exchange F L D W answer stage w) w × Follows (one F answer (at_stage F laws answer by_row plan start stage m b)) (run F L W (exchange F L D W answer stage w) w)

  exchange_any : (stage : Stage F.words) (m : Machine F.words) (on : States L) (b : F.Board) → Going stage m on b → Exchanged stage m on b
  exchange_any (Opened true task part) m on b g = exchange_task task part m on b g
  exchange_any (Opened false task part) m on b g = absurd g.ready
  exchange_any AtStart m on b g = (tt, record { stage = AtStart; machine = m; now = on; board = b; same = refl; is = refl; going = g })
  exchange_any AtEnd m on b g = (tt, record { stage = AtEnd; machine = m; now = on; board = b; same = refl; is = refl; going = g })
  exchange_any (AtHalt k why) m on b g = (tt, record { stage = AtHalt k why; machine = m; now = on; board = b; same = refl; is = refl; going = g })
  exchange_any AtUndone m on b g = (tt, record { stage = AtUndone; machine = m; now = on; board = b; same = refl; is = refl; going = g })
  exchange_any (AtRefused k code) m on b g = (tt, record { stage = AtRefused k code; machine = m; now = on; board = b; same = refl; is = refl; going = g })

  -- ---- as many requests

  exchange_all : (n : ℕ) (stage : Stage F.words) (m : Machine F.words) (on : States L) (b : F.Board) → Going stage m on b
      → let w = world_of (enters F.words stage m).machine on b in
      AllMay F L W (exchanges F L D W answer n w) w × Follows (clean F answer n (at_stage F laws answer by_row plan start stage m b)) (run F L W (exchanges F L D W answer n w) w)
  exchange_all zero stage m on b g = (tt, record { stage = stage; machine = m; now = on; board = b; same = refl; is = refl; going = g })
  exchange_all (suc n) stage m on b g =
      let w = world_of (enters F.words stage m).machine on b in
      let es = exchange F L D W answer stage w in
      let e = exchange_any stage m on b g in
      let rest = exchange_all n e.1.stage e.1.machine e.1.now e.1.board e.1.going in (
        all_append F L W es (exchanges F L D W answer n (run F L W es w)) w e.0 (subst (λ (y : World F L). AllMay F L W (exchanges F L D W answer n y) y) (sym e.1.is) rest.0),
        record {
          stage = rest.1.stage;
          machine = rest.1.machine;
          now = rest.1.now;
          board = rest.1.board;
          same = ap (clean F answer n) e.1.same ∙ rest.1.same;
          is = run_on F L W es (exchanges F L D W answer n (run F L W es w)) w ∙ ap (λ (y : World F L). run F L W (exchanges F L D W answer n y) y) e.1.is ∙ rest.1.is;
          going = rest.1.going;
        },
      )

  -- ---- how it ends

  -- every request that was begun was answered
  begun_is : (on : States L) (m : Machine F.words) (stage : Stage F.words) (b : F.Board) → Going stage m on b → (bus : Bus) → IsClosed (request_on on bus) → length (request_on on bus).begun ≡ count_of bus m.counts
  begun_is on m stage b g bus closed =
      let order = g.holds.joined.orderly bus in
      let answered = order.answered in let below = order.below in let exact = g.exact bus in
      omega arith

  -- with no request open
  ended_so : (stage : Stage F.words) (m : Machine F.words) (on : States L) (b : F.Board) (phase : Phase) (n : ℕ) → Going stage m on b → ((bus : Bus) → IsClosed (request_on on bus)) → phase_at F.words stage ≡ phase
      → answered_in_all m.counts ≡ n → HasEnded F L D W answer (world_of (enters F.words stage m).machine on b) phase n
  ended_so stage m on b phase n g closed is count =
      let ipmb = begun_is on m stage b g Ipmb (closed Ipmb) in
      let smbus = begun_is on m stage b g Smbus (closed Smbus) in
      record { phase_is = is; closed = closed; count = omega arith }

  ended : (stage : Stage F.words) (m : Machine F.words) (on : States L) (b : F.Board) (phase : Phase) (n : ℕ) → Going stage m on b → IsAtRest F answer (at_stage F laws answer by_row plan start stage m b) phase n
      → HasEnded F L D W answer (world_of (enters F.words stage m).machine on b) phase n
  ended (Opened heeded task part) m on b phase n g r = absurd (none-some _ (sym r.rests))
  ended AtStart m on b phase n g r = ended_so AtStart m on b phase n g g.holds.joined.are_open r.phase_is r.count
  ended AtEnd m on b phase n g r = ended_so AtEnd m on b phase n g g.holds.joined.are_open r.phase_is r.count
  ended (AtHalt k why) m on b phase n g r = ended_so (AtHalt k why) m on b phase n g g.holds.joined.are_open r.phase_is r.count
  ended AtUndone m on b phase n g r = ended_so AtUndone m on b phase n g g.holds.joined.are_open r.phase_is r.count
  ended (AtRefused k code) m on b phase n g r = ended_so (AtRefused k code) m on b phase n g g.holds.joined.are_open r.phase_is r.count

  -- where it was followed to an end
  ends_there : (x : Moment F) (w : World F L) (phase : Phase) (n : ℕ) (P : F.Board → Type 0) → Follows x w → IsAtRest F answer x phase n × P x.board → HasEnded F L D W answer w phase n × P w.board
  ends_there x w phase n P f r =
      let here_too : IsAtRest F answer (at_stage F laws answer by_row plan start f.stage f.machine f.board) phase n × P f.board = subst (λ (y : Moment F). IsAtRest F answer y phase n × P y.board) f.same r in
      subst (λ (y : World F L). HasEnded F L D W answer y phase n × P y.board) (sym f.is) (ended f.stage f.machine f.now f.board phase n f.going here_too.0, here_too.1)

  -- ---- the undo

  abbrev IsTakenBack : List F.words.Series → Turn F.words → F.Board → ℕ → ℕ → Type 0
  IsTakenBack us t b k n = let y = clean F answer k (record { turn = t; board = b }) in IsAtRest F answer y Undone n × (F.records y.board ≡ start) × AnswersEach F answer us k b y.board

  abbrev TakesBack : World F L → ℕ → ℕ → Type 0
  TakesBack w k n =
      let es = Calls Undo ∷ exchanges F L D W answer k (happens F L W w (Calls Undo)) in
      let u = run F L W es w in
      AllMay F L W es w × HasEnded F L D W answer u Undone n × (F.records u.board ≡ start) × AnswersEach F answer w.machine.undo k w.board u.board

  undoing_so : (stage : Stage F.words) (m : Machine F.words) (on : States L) (b : F.Board) (k n j : ℕ) → Going stage m on b → ((bus : Bus) → IsClosed (request_on on bus)) → HavePlace on
      → CanUndo F plan start j m.undo (F.records b)
      → let from = (enters F.words stage m).machine in
      let t = enters F.words (undo_stage F.words m.undo) from in
      undo_of F.words from ≡ Some t → IsTakenBack m.undo t b k n → TakesBack (world_of from on b) k n
  undoing_so stage m on b k n j g closed place back taken r =
      let from = (enters F.words stage m).machine in
      let next = undo_stage F.words m.undo in
      let t = enters F.words next from in
      let w = world_of from on b in
      let now = begins F L W t.sends on in
      let becomes : happens F L W w (Calls Undo) ≡ world_of t.machine now b = ap (λ (o : Option (Turn F.words)). world.opens F L W o w) taken in
      let good : Good F laws answer by_row plan start next from b = record { sound = undo_good F laws plan start m.plan m.undo j m.stopped m.undo b back g.good.free; valid = g.good.valid; free = g.good.free } in
      let ready = enters_ready next from on b (undo_heeded F m.undo) good (record { held = g.holds.holds; closed = closed; place = place; exact = g.exact }) in
      let going : Going next from now b = record { good = good; holds = subst Holds becomes (happens_holds F laws L lines W first plan start w (Calls Undo) g.holds tt); ready = ready.0; exact = ready.1 } in
      let all = exchange_all k next from now b going in
      let ends = ends_there (clean F answer k (at_stage F laws answer by_row plan start next from b)) (run F L W (exchanges F L D W answer k (world_of t.machine now b)) (world_of t.machine now b)) Undone n (λ (c : F.Board). (F.records c ≡ start) × AnswersEach F answer m.undo k b c) all.1 (r.0, (r.1, r.2)) in
      subst (λ (y : World F L). (Unit {0} × AllMay F L W (exchanges F L D W answer k y) y) × HasEnded F L D W answer (run F L W (exchanges F L D W answer k y) y) Undone n × (F.records (run F L W (exchanges F L D W answer k y) y).board ≡ start) × AnswersEach F answer m.undo k b (run F L W (exchanges F L D W answer k y) y).board) (sym becomes)
      ((tt, all.0), ends.0, ends.1.0, ends.1.1)

  undoing : (stage : Stage F.words) (m : Machine F.words) (on : States L) (b : F.Board) (k n : ℕ) → Going stage m on b
      → let from = (enters F.words stage m).machine in
      IfSome (undo_of F.words from) (λ t. IsTakenBack m.undo t b k n) → (undo_of F.words from ≡ None → ⊥) → TakesBack (world_of from on b) k n
  undoing AtEnd m on b k n g r taken = undoing_so AtEnd m on b k n (length plan) g g.holds.joined.are_open g.ready g.good.sound refl r
  undoing (AtHalt j why) m on b k n g r taken = undoing_so (AtHalt j why) m on b k n j g g.holds.joined.are_open g.ready g.good.sound.0 refl r
  undoing AtStart m on b k n g r taken = absurd (taken refl)
  undoing (Opened heeded task part) m on b k n g r taken = absurd (taken refl)
  undoing AtUndone m on b k n g r taken = absurd (taken refl)
  undoing (AtRefused j code) m on b k n g r taken = absurd (taken refl)

  undoing_there : (x : Moment F) (w : World F L) (k n : ℕ) → Follows x w → IfSome (undo_of F.words x.turn.machine) (λ t. IsTakenBack x.turn.machine.undo t x.board k n) → (undo_of F.words x.turn.machine ≡ None → ⊥) → TakesBack w k n
  undoing_there x w k n f r taken =
      let here_too = subst (λ (y : Moment F). IfSome (undo_of F.words y.turn.machine) (λ t. IsTakenBack y.turn.machine.undo t y.board k n)) f.same r in
      let taken_too = subst (λ (y : Moment F). undo_of F.words y.turn.machine ≡ None → ⊥) f.same taken in
      subst (λ (y : World F L). TakesBack y k n) (sym f.is) (undoing f.stage f.machine f.now f.board k n f.going here_too taken_too)

  -- the list is the same
  undo_there : (x : Moment F) (w : World F L) (k : ℕ) → Follows x w → length x.turn.machine.undo ≡ k → length w.machine.undo ≡ k
  undo_there x w k f is =
      let here_too : length (enters F.words f.stage f.machine).machine.undo ≡ k = subst (λ (y : Moment F). length y.turn.machine.undo ≡ k) f.same is in
      subst (λ (y : World F L). length y.machine.undo ≡ k) (sym f.is) here_too

  -- ---- the start

  first_heeded : (o : Option F.words.Op) → IsHeeded F (first_stage F.words o)
  first_heeded None = tt
  first_heeded (Some op) = tt

  none_taken : (bus : Bus) (s : BusState) → NothingUnderWay s → length s.taken ≡ count_of bus (record { ipmb = 0; smbus = 0 })
  none_taken Ipmb s none = ap (λ (l : List (List ℕ)). length l) none.taken
  none_taken Smbus s none = ap (λ (l : List (List ℕ)). length l) none.taken

pub always_runs_through_buses : (F : Family) → IsFamily F → (L : Bus → Line) (lines : (bus : Bus) → IsLine (L bus)) (D : (bus : Bus) → Delivery (L bus)) → ((bus : Bus) → LosesNothing (L bus) (D bus) (lines bus))
    → (W : Wires F.words) → AreFinite F.words → (answer : F.Board → F.words.Asked → Answered × F.Board) → AnswersByRow F answer → AlwaysRunsThroughBuses F L D W answer
always_runs_through_buses F laws L lines D clean_lines W finite answer by_row can plan retries on board started place =
    let start = F.records board in
    let m = opened F.words plan retries in
    let w0 = opening F L plan retries on board in
    let stage = first_stage F.words (slice_get plan 0) in
    let now = begins F L W (sends_at F.words stage m.counts) on in
    let first : Bus → ℕ = (λ bus. 0) in
    let holds0 = opening_holds F laws L lines W plan retries on board started in
    let good : Good F laws answer by_row plan start stage m board = record { sound = first_good F laws plan start plan (slice_get plan 0) false [] board refl refl refl; valid = started.valid; free = started.ready } in
    let rests : Rests F laws L lines D clean_lines W answer by_row can plan start m.counts on = record {
      held = holds0.holds;
      closed = holds0.joined.are_open;
      place = place;
      exact = λ bus. none_taken F laws L lines D clean_lines W answer by_row can plan start bus ((L bus).requests (on bus)) ((lines bus).starts (on bus) (started.on_bus bus)).1;
    } in
    let ready = enters_ready F laws L lines D clean_lines W answer by_row can plan start stage m on board (first_heeded F laws L lines D clean_lines W answer by_row can plan start (slice_get plan 0)) good rests in
    let going : Going F laws L lines D clean_lines W answer by_row can plan start stage m now board = record { good = good; holds = happens_holds F laws L lines W first plan start w0 (Calls Start) holds0 tt; ready = ready.0; exact = ready.1 } in
    let r = always_runs_through F laws finite answer by_row plan retries board started.valid started.ready in
    let k = length r.steps in
    let n = r.requests + r.more in
    let all = exchange_all F laws L lines D clean_lines W answer by_row can plan start n stage m now board going in
    let x = clean F answer n (at_stage F laws answer by_row plan start stage m board) in
    let w = run F L W (Calls Start ∷ exchanges F L D W answer n (happens F L W w0 (Calls Start))) w0 in
    let back = undoing_there F laws L lines D clean_lines W answer by_row can plan start x w r.back (n + r.back) all.1 r.undo r.undo_is_taken in
    record {
      steps = r.steps;
      rest = r.rest;
      whole = r.whole;
      at = r.at;
      requests = r.requests;
      go = r.go;
      phase = r.phase;
      more = r.more;
      ends = r.ends;
      may_run = (tt, all.0);
      ran = ends_there F laws L lines D clean_lines W answer by_row can plan start x w r.phase n (λ (b : F.Board). IsAfter F plan start k (F.records b)) all.1 r.run;
      back = r.back;
      may_undo = back.0;
      undone = (back.1, back.2, back.3);
      undo_each = undo_there F laws L lines D clean_lines W answer by_row can plan start x w k all.1 r.undo_each;
    }

-- where each series is one request
module _ (F : Family) (L : Bus → Line) (D : (bus : Bus) → Delivery (L bus)) (W : Wires F.words) (single : AreSingle F.words) (answer : F.Board → F.words.Asked → Answered × F.Board) where
  abbrev Ran : World F L → ℕ → World F L
  Ran w n = run F L W (Calls Start ∷ exchanges F L D W answer n (happens F L W w (Calls Start))) w

  abbrev Undid : World F L → ℕ → World F L
  Undid w n = run F L W (Calls Undo ∷ exchanges F L D W answer n (happens F L W w (Calls Undo))) w

  runs_over : (plan : List F.words.Op) (w0 : World F L) → RunsThroughBuses F L D W answer plan w0 → RunsOverBuses F L D W answer plan w0
  runs_over plan w0 r =
      let k = length r.steps in
      let all = go_all F single answer r.steps r.requests w0.board r.at r.go in
      let n_is : r.requests + r.more ≡ k + k + r.more = ap (λ (n : ℕ). n + r.more) all.1 in
      let w = Ran w0 (r.requests + r.more) in
      let back_is : r.back ≡ k = each_one F single answer w.machine.undo r.back w.board (Undid w r.back).board r.undone.2 ∙ r.undo_each in
      record {
        steps = r.steps;
        rest = r.rest;
        whole = r.whole;
        at = r.at;
        go = all.0;
        phase = r.phase;
        more = r.more;
        ends = ends_so F single answer k r.rest r.at r.phase r.more r.ends;
        may_run = subst (λ (n : ℕ). AllMay F L W (Calls Start ∷ exchanges F L D W answer n (happens F L W w0 (Calls Start))) w0) n_is r.may_run;
        ran = subst (λ (n : ℕ). HasEnded F L D W answer (Ran w0 n) r.phase n × IsAfter F plan (F.records w0.board) k (F.records (Ran w0 n).board)) n_is r.ran;
        may_undo = subst (λ (n : ℕ). AllMay F L W (Calls Undo ∷ exchanges F L D W answer k (happens F L W (Ran w0 n) (Calls Undo))) (Ran w0 n)) n_is
            (subst (λ (j : ℕ). AllMay F L W (Calls Undo ∷ exchanges F L D W answer j (happens F L W w (Calls Undo))) w) back_is r.may_undo);
        undone = subst (λ (n : ℕ). HasEnded F L D W answer (Undid (Ran w0 n) k) Undone (n + k) × (F.records (Undid (Ran w0 n) k).board ≡ F.records w0.board)) n_is
            (subst (λ (j : ℕ). HasEnded F L D W answer (Undid w j) Undone (r.requests + r.more + j) × (F.records (Undid w j).board ≡ F.records w0.board)) back_is (r.undone.0, r.undone.1));
      }

pub always_runs_over_buses : (F : Family) → IsFamily F → (L : Bus → Line) (lines : (bus : Bus) → IsLine (L bus)) (D : (bus : Bus) → Delivery (L bus)) → ((bus : Bus) → LosesNothing (L bus) (D bus) (lines bus))
    → (W : Wires F.words) → AreSingle F.words → (answer : F.Board → F.words.Asked → Answered × F.Board) → AnswersByRow F answer → AlwaysRunsOverBuses F L D W answer
always_runs_over_buses F laws L lines D clean_lines W single answer by_row can plan retries on board started place =
    runs_over F L D W single answer plan (opening F L plan retries on board)
    (always_runs_through_buses F laws L lines D clean_lines W (are_finite F.words single) answer by_row can plan retries on board started place)
