-- Over a link that loses nothing a plan is done after the requests of its Gets and Sets, or halts, and is undone.
use Rattle.std.proofs.Common.{lit<, ◌≡◌, ℕ, zero, suc, ◌+◌, ◌*◌, ◌<◌, ◌≤◌, ◌++◌, Bool, true, false, cond, List, [], ◌∷◌, length, Option, Some, None, refl, sym, ◌∙◌, ap, subst, arith, length-append}
use Rattle.std.specs.Prelude.{slice_get, IfSome, ◌==◌, nat_le}
use Rattle.std.specs.Option.{option_map}
use Rattle.std.proofs.lemmas.Bool.{cond_both}
use Rattle.std.proofs.lemmas.Bool.Decides.{nat_tests}
use Rattle.std.proofs.lemmas.Option.{none-some, IfSome_then}
use Rattle.two_wire.specs.Codes.{success}
use Rattle.two_wire.specs.declared.Bus.{Bus}
use Rattle.two_wire.specs.declared.Bus.TheVariants.{Ipmb, Smbus}
use Rattle.mctp_net.specs.Assembly.{nothing}
use Rattle.record_base.specs.declared.op.Op.{Op}
use Rattle.record_base.specs.declared.message.Asked.{Asked}
use Rattle.record_base.specs.declared.message.Asked.TheVariants.{Ipmi, Pldm}
use Rattle.cfg_records.specs.declared.board_file.BoardFile.{BoardFile}
use Rattle.record_kinds.specs.Series.{Series}
use Rattle.record_kinds.specs.Sound.{AreSoundRecords}
use Rattle.record_kinds.proofs.Starts.{starts_sound}
use Rattle.bmc_board.specs.State.{State}
use Rattle.bmc_board.proofs.AnswerFacts.{stays_sound}
use Rattle.bmc_board.proofs.OneAnswer.{has_answer}
use Rattle.model_bus.specs.Answered.{Answered}
use Rattle.model_undo.specs.Words.{Words}
use Rattle.model_undo.specs.declared.phase.Phase.{Phase}
use Rattle.model_undo.specs.declared.phase.Phase.TheVariants.{Undone}
use Rattle.model_undo.specs.Plan.{IsAfter}
use Rattle.model_undo.specs.Wires.{IsMade}
use Rattle.model_undo.specs.Machine.{Counts, Task, Gets, Sets, Undoes, Part as TaskPart, Stage, AtStart, Opened, AtEnd, AtHalt, AtUndone, AtRefused, Machine, Turn, Sending, enters, sends_at, takes, series_of, bodies_with, next_asked, goes_on as task_goes_on, told_stage, finished, refused, set_stage, next_stage, undo_stage, first_stage, stage_after, undo_after, one_answered, bus_at, phase_of, open_bus, open_bus_at, undo_of, opened}
use Rattle.model_undo.specs.Clean.{Moment, answered_in_all, after_turn, one, clean, IsAtRest}
use Rattle.model_undo.specs.CleanSeries.{AnswersEach, RunsThrough}
use Rattle.model_undo.proofs.CleanSeries.{always_runs_through}
use Rattle.model_lab.specs.ManagerWords.{manager_words}
use Rattle.model_lab.specs.Family.{answer}
use Rattle.model_lab.proofs.IsFamily.{is_family}
use Rattle.model_lab.proofs.Board.{starts_valid, starts_ready}
use Rattle.model_lab.proofs.Finite.{are_finite}
use Rattle.undo_plans.specs.declared.names.Names.{Names}
use Rattle.model_undo.specs.declared.call.Call.{Call}
use Rattle.model_undo.specs.declared.call.Call.TheVariants.{Start as StartCall, Undo as UndoCall}
use Rattle.model_lab.specs.ManagerSteps.{addresses, ManagerState, Sent, sent_of, called, goes_on}
use Rattle.model_lab.specs.Lab.{Event, Calls, Lab, call_does, manager_does, step, run}
use Rattle.model_lab.specs.declared.fault.Fault.{Fault}
use Rattle.model_lab.specs.declared.fault.Fault.TheVariants.{Room}
use Rattle.model_lab.specs.Faults.{most_frames, begun_on, is_open_bus, fault_of, AllTaken}
use Rattle.model_lab.specs.Clean.{DeliversFrom, IsCleanRun, IsCleanUndo}
use Rattle.model_lab.proofs.Stepping.{runs_by}
use Rattle.model_headline.specs.Made.{AllSeries, StageMade}
use Rattle.model_headline.specs.Tied.{own_plans, own_family}
use Rattle.model_headline.specs.Theorem.{first, after}
use Rattle.model_headline.specs.CleanParts.{step_parts, back_parts}
use Rattle.model_headline.specs.CleanLink.{AreOfOne, count_at, HasEnded, RunsOnCleanLink}
use Rattle.model_headline.proofs.Made.{takes_made, undo_made, starts_made}
use Rattle.model_headline.proofs.CleanQueue.{Link, link_of, dues_of, settles, settles_more, Shows, settled, called_goes, all_sent}
use Rattle.model_headline.proofs.CleanFresh.{NoIdles, sends_newest, Fresh, Calm, calm_more, Goes, goes, called_fresh}
use Rattle.model_headline.proofs.CleanExchange.{Rest, link_at, IsClear, clear_idles, not_busy, part_of, Exchanged, ipmb_exchange}
use Rattle.model_headline.proofs.CleanSmbus.{smbus_exchange}
use Rattle.model_headline.proofs.CleanCounts.{steps_few, more_few, each_few}
use Rattle.model_headline.proofs.CleanBack.{steps_counted, backs_counted}
use Rattle.model_headline.proofs.CleanOnes.{split_of_one, steps_two, backs_one, more_one}

-- a board is the one that is left
left_at : (board then left begun : State) → board ≡ then → then.records ≡ begun.records → then ≡ left → (board.records ≡ begun.records) × (board ≡ left)
left_at board then left begun is records left_is = (ap (λ (b : State). b.records) is ∙ records, is ∙ left_is)

-- what is taken is there
taken_some : {X : Type 0} (Q : X → Type 0) (o : Option X) → IfSome o Q → (o ≡ None → ⊥) → (x : X) × (o ≡ Some x) × Q x
taken_some Q None all some = absurd (some refl)
taken_some Q (Some x) all some = (x, refl, all)

module _ (setup : BoardFile) (names : Names) where
  abbrev M : Words
  M = manager_words (addresses names)

  abbrev moment : Stage M → Machine M → State → Moment (own_family setup names)
  moment stage m b = record { turn = enters M stage m; board = b }

  -- a stage in which no open request is unsettled
  abbrev IsHeeded : Stage M → Type 0
  IsHeeded (Opened false task part) = ⊥
  IsHeeded _ = Unit {0}

  set_heeded : (stopped : Bool) (k : ℕ) (op : Op) (o : Option Op) → IsHeeded (set_stage M stopped k op o)
  set_heeded stopped k op None = tt
  set_heeded true k op (Some back) = tt
  set_heeded false k op (Some back) = tt

  next_heeded : (stopped : Bool) (k : ℕ) (o : Option Op) → IsHeeded (next_stage M stopped k o)
  next_heeded stopped k None = tt
  next_heeded true k (Some op) = tt
  next_heeded false k (Some op) = tt

  undo_heeded : (list : List Series) → IsHeeded (undo_stage M list)
  undo_heeded [] = tt
  undo_heeded (u ∷ us) = tt

  first_heeded : (o : Option Op) → IsHeeded (first_stage M o)
  first_heeded None = tt
  first_heeded (Some op) = tt

  finished_heeded : (stopped : Bool) (plan : List Op) (shown : List ℕ) (task : Task M) → IsHeeded (finished M stopped plan shown task)
  finished_heeded stopped plan shown (Gets k op) = set_heeded stopped k op (M.inverse op shown)
  finished_heeded stopped plan shown (Sets k op back) = next_heeded stopped (suc k) (slice_get plan (suc k))
  finished_heeded stopped plan shown (Undoes u us) = undo_heeded us

  refused_heeded : (code : ℕ) (task : Task M) → IsHeeded (refused M code task)
  refused_heeded code (Gets k op) = tt
  refused_heeded code (Sets k op back) = tt
  refused_heeded code (Undoes u us) = tt

  goes_on_heeded : (stopped : Bool) (task : Task M) (part : TaskPart M) → IsHeeded (task_goes_on M stopped task part)
  goes_on_heeded true (Gets k op) part = tt
  goes_on_heeded false (Gets k op) part = tt
  goes_on_heeded stopped (Sets k op back) part = tt
  goes_on_heeded stopped (Undoes u us) part = tt

  told_heeded : (stopped : Bool) (plan : List Op) (task : Task M) (bodies : List (List ℕ)) (o : Option Asked) → IsHeeded (told_stage M stopped plan task bodies o)
  told_heeded stopped plan task bodies None = finished_heeded stopped plan (M.joined (series_of M task) bodies) task
  told_heeded stopped plan task bodies (Some asked) = goes_on_heeded stopped task (record { asked = asked; before = bodies })

  after_heeded : (stopped : Bool) (plan : List Op) (a : Answered) (task : Task M) (part : TaskPart M) → IsHeeded (stage_after M stopped plan a task part)
  after_heeded stopped plan a task part =
      let bodies = bodies_with M a part in
      let o = next_asked M a task part in
      cond_both (a.code == success) (told_stage M stopped plan task bodies o) (refused M a.code task) IsHeeded (λ _. told_heeded stopped plan task bodies o) (λ _. refused_heeded a.code task)

  -- what holds where a request was just sent, or nothing
  record Going (stage : Stage M) (m : Machine M) (b : State) (r : Rest setup names) : Type 0 where
    heeded : IsHeeded stage
    made : StageMade (addresses names) stage
    undo : AllSeries (addresses names) m.undo
    clear : IsClear setup names m.counts r
    sound : AreSoundRecords setup b.records

  -- the link goes to one that shows what comes of the board's answers to so many requests
  record Follows (n : ℕ) (y : Moment (own_family setup names)) (l : Link (own_plans setup names)) : Type 0 where
    stage : Stage M
    machine : Machine M
    board : State
    rest : Rest setup names
    count : ℕ
    same : y ≡ moment stage machine board
    is : settles (own_plans setup names) setup count l ≡ link_at setup names (enters M stage machine) board rest
    going : Going stage machine board rest
    calm : Calm (own_plans setup names) setup count l
    few : count ≤ 8 * n

  stays : (n : ℕ) (stage : Stage M) (m : Machine M) (b : State) (r : Rest setup names) → Going stage m b r → Follows n (moment stage m b) (link_at setup names (enters M stage m) b r)
  stays n stage m b r g = record {
    stage = stage;
    machine = m;
    board = b;
    rest = r;
    count = 0;
    same = refl;
    is = refl;
    going = g;
    calm = clear_idles setup names m.counts (enters M stage m) b r g.clear;
    few = omega arith;
  }

  answered_one : (task : Task M) (asked : Asked) (before : List (List ℕ)) (m : Machine M) (b : State) (r : Rest setup names) → Going (Opened true task (part_of setup names asked before)) m b r
      → Exchanged setup names task (part_of setup names asked before) m b r
      → Follows 1 (one (own_family setup names) (answer setup) (moment (Opened true task (part_of setup names asked before)) m b)) (link_at setup names (enters M (Opened true task (part_of setup names asked before)) m) b r)
  answered_one task asked before m b r g e =
      let part = part_of setup names asked before in
      let opened_machine : Machine M = record m { stage = Opened true task part; resent = 0 } in
      let a = (answer setup b asked).0 in
      let next : Machine M = record opened_machine { undo = undo_after M a task part m.undo; counts = one_answered (bus_at M part) m.counts } in
      let kept = takes_made (addresses names) a task part opened_machine g.made.1 g.undo in
      record {
        stage = stage_after M m.stopped m.plan a task part;
        machine = next;
        board = (answer setup b asked).1;
        rest = e.rest;
        count = e.count;
        same = ap (λ (t : Bool). after_turn (own_family setup names) (answer setup) (cond t None (Some (takes M a task part opened_machine))) (answer setup b asked).1 (moment (Opened true task part) m b)) (not_busy setup names b asked);
        is = e.is;
        going = record { heeded = after_heeded m.stopped m.plan a task part; made = kept.stage; undo = kept.undo; clear = e.clear; sound = stays_sound setup b asked g.sound };
        calm = e.calm;
        few = e.few;
      }

  exchanged : (task : Task M) (asked : Asked) (before : List (List ℕ)) (m : Machine M) (b : State) (r : Rest setup names) → IsMade M asked → IsClear setup names m.counts r → AreSoundRecords setup b.records
      → Exchanged setup names task (part_of setup names asked before) m b r
  exchanged task (Ipmi from net_fn lun command body) before m b r made clear sound = ipmb_exchange setup names task from net_fn lun command body before m b r made clear
  exchanged task (Pldm from kind command body) before m b r made clear sound = smbus_exchange setup names task from kind command body before m b r made clear sound

  -- with the open request, if one is open
  exchange : (stage : Stage M) (m : Machine M) (b : State) (r : Rest setup names) → Going stage m b r → Follows 1 (one (own_family setup names) (answer setup) (moment stage m b)) (link_at setup names (enters M stage m) b r)
  exchange (Opened true task part) m b r g = answered_one task part.asked part.before m b r g (exchanged task part.asked part.before m b r g.made.0 g.clear g.sound)
  exchange (Opened false task part) m b r g = absurd g.heeded
  exchange AtStart m b r g = stays 1 AtStart m b r g
  exchange AtEnd m b r g = stays 1 AtEnd m b r g
  exchange (AtHalt k why) m b r g = stays 1 (AtHalt k why) m b r g
  exchange AtUndone m b r g = stays 1 AtUndone m b r g
  exchange (AtRefused k code) m b r g = stays 1 (AtRefused k code) m b r g

  -- with as many requests as this
  exchanges : (n : ℕ) (stage : Stage M) (m : Machine M) (b : State) (r : Rest setup names) → Going stage m b r → Follows n (clean (own_family setup names) (answer setup) n (moment stage m b)) (link_at setup names (enters M stage m) b r)
  exchanges zero stage m b r g = stays zero stage m b r g
  exchanges (suc n) stage m b r g =
      let e = exchange stage m b r g in
      let more = exchanges n e.stage e.machine e.board e.rest e.going in
      record {
        stage = more.stage;
        machine = more.machine;
        board = more.board;
        rest = more.rest;
        count = e.count + more.count;
        same = ap (clean (own_family setup names) (answer setup) n) e.same ∙ more.same;
        is = settles_more (own_plans setup names) setup e.count more.count (link_at setup names (enters M stage m) b r) ∙ ap (settles (own_plans setup names) setup more.count) e.is ∙ more.is;
        going = more.going;
        calm = calm_more (own_plans setup names) setup e.count more.count (link_at setup names (enters M stage m) b r) e.calm (subst (Calm (own_plans setup names) setup more.count) (sym e.is) more.calm);
        few = let one = e.few in let rest = more.few in omega (arith, one, rest);
      }

  -- ---- how it ends

  -- nothing is sent any more, so no request is open
  closed_at : (stage : Stage M) (c : Counts) → sends_at M stage c ≡ None → open_bus_at M stage ≡ None
  closed_at (Opened heeded task part) c none = absurd (none-some _ (sym none))
  closed_at AtStart c none = refl
  closed_at AtEnd c none = refl
  closed_at (AtHalt k why) c none = refl
  closed_at AtUndone c none = refl
  closed_at (AtRefused k code) c none = refl

  none_begun : (c : Counts) (n : ℕ) → answered_in_all c ≡ n → (c.ipmb + 0) + (c.smbus + 0) ≡ n
  none_begun c n e = omega arith

  -- the lab at the end of a clean schedule shows what comes of the answers
  record Ended (z : Lab (own_plans setup names)) (x : Moment (own_family setup names)) (phase : Phase) (n : ℕ) : Type 0 where
    stage : Stage M
    machine : Machine M
    board : State
    rest : Rest setup names
    same : x ≡ moment stage machine board
    is : link_of (own_plans setup names) z [] ≡ link_at setup names (enters M stage machine) board rest
    going : Going stage machine board rest
    number : ℕ
    shows : Shows (own_plans setup names) setup z number []
    closed : open_bus_at M stage ≡ None
    phase_is : phase_of M (enters M stage machine).machine ≡ phase
    count : answered_in_all machine.counts ≡ n

  -- where that is at rest, a clean schedule leads the lab there
  ends : (k : ℕ) (stage : Stage M) (m : Machine M) (b : State) (r : Rest setup names) (phase : Phase) (n : ℕ) → Going stage m b r
      → let x = clean (own_family setup names) (answer setup) k (moment stage m b) in
      IsAtRest (own_family setup names) (answer setup) x phase n
      → (es : List Event) (y : Lab (own_plans setup names)) (number : ℕ) → let l = link_at setup names (enters M stage m) b r in
      link_of (own_plans setup names) y l.queue ≡ l → Shows (own_plans setup names) setup y number l.queue → DeliversFrom (own_plans setup names) setup number es y
      → Ended (run (own_plans setup names) setup es y) x phase n
  ends k stage m b r phase n g rest es y number from shows d =
      let l = link_at setup names (enters M stage m) b r in
      let f = exchanges k stage m b r g in
      let at : IsAtRest (own_family setup names) (answer setup) (moment f.stage f.machine f.board) phase n = subst (λ (x : Moment (own_family setup names)). IsAtRest (own_family setup names) (answer setup) x phase n) f.same rest in
      let none : sends_at M f.stage f.machine.counts ≡ None = at.rests in
      let empty_there : (link_at setup names (enters M f.stage f.machine) f.board f.rest).queue ≡ [] = ap (λ (o : Option (Sending M)). dues_of (own_plans setup names) (option_map (sent_of (own_plans setup names) names) o)) none in
      let to : settles (own_plans setup names) setup f.count (link_of (own_plans setup names) y l.queue) ≡ link_at setup names (enters M f.stage f.machine) f.board f.rest = ap (settles (own_plans setup names) setup f.count) from ∙ f.is in
      let s = settled (own_plans setup names) setup f.count es y number l.queue shows d (ap (λ (x : Link (own_plans setup names)). x.queue) to ∙ empty_there) in
      record {
        stage = f.stage;
        machine = f.machine;
        board = f.board;
        rest = f.rest;
        same = f.same;
        is = s.is ∙ to;
        going = f.going;
        number = s.number;
        shows = s.shows;
        closed = closed_at f.stage f.machine.counts none;
        phase_is = at.phase_is;
        count = at.count;
      }

  -- all frames can be delivered, and each schedule that delivers them is taken
  delivered : (k : ℕ) (stage : Stage M) (m : Machine M) (b : State) (r : Rest setup names) (phase : Phase) (n : ℕ) → Going stage m b r
      → IsAtRest (own_family setup names) (answer setup) (clean (own_family setup names) (answer setup) k (moment stage m b)) phase n
      → (y : Lab (own_plans setup names)) (number : ℕ) → let l = link_at setup names (enters M stage m) b r in
      link_of (own_plans setup names) y l.queue ≡ l → Fresh (own_plans setup names) setup y number l.queue → number + 8 * k ≤ 65530 → Goes (own_plans setup names) setup y number (8 * k)
  delivered k stage m b r phase n g rest y number from fresh small =
      let l = link_at setup names (enters M stage m) b r in
      let f = exchanges k stage m b r g in
      let at : IsAtRest (own_family setup names) (answer setup) (moment f.stage f.machine f.board) phase n = subst (λ (x : Moment (own_family setup names)). IsAtRest (own_family setup names) (answer setup) x phase n) f.same rest in
      let none : sends_at M f.stage f.machine.counts ≡ None = at.rests in
      let empty_there : (link_at setup names (enters M f.stage f.machine) f.board f.rest).queue ≡ [] = ap (λ (o : Option (Sending M)). dues_of (own_plans setup names) (option_map (sent_of (own_plans setup names) names) o)) none in
      let to : settles (own_plans setup names) setup f.count (link_of (own_plans setup names) y l.queue) ≡ link_at setup names (enters M f.stage f.machine) f.board f.rest = ap (settles (own_plans setup names) setup f.count) from ∙ f.is in
      let most = f.few in
      let go = goes (own_plans setup names) setup f.count y number l.queue fresh (subst (Calm (own_plans setup names) setup f.count) (sym from) f.calm) (omega (arith, most, small)) (ap (λ (x : Link (own_plans setup names)). x.queue) to ∙ empty_there) in
      record { events = go.events; delivers = go.delivers; taken = go.taken; few = λ es d. let few = go.few es d in omega (arith, few, most) }

  -- ---- the undo

  -- the lab as the undo begins
  record Undoing (stage : Stage M) (m : Machine M) (b : State) (r : Rest setup names) (z : Lab (own_plans setup names)) (number : ℕ) : Type 0 where
    y : Lab (own_plans setup names)
    is : step (own_plans setup names) setup z (Calls UndoCall) ≡ y
    next : Rest setup names
    going : Going (undo_stage M m.undo) (enters M stage m).machine b next
    fresh : Fresh (own_plans setup names) setup y number (link_at setup names (enters M (undo_stage M m.undo) (enters M stage m).machine) b next).queue
    there : let l = link_at setup names (enters M (undo_stage M m.undo) (enters M stage m).machine) b next in link_of (own_plans setup names) y l.queue ≡ l

  undo_begins : (stage : Stage M) (m : Machine M) (b : State) (r : Rest setup names) (z : Lab (own_plans setup names)) (number : ℕ) → Going stage m b r → link_of (own_plans setup names) z [] ≡ link_at setup names (enters M stage m) b r
      → Shows (own_plans setup names) setup z number [] → undo_of M (enters M stage m).machine ≡ Some (enters M (undo_stage M m.undo) (enters M stage m).machine) → Undoing stage m b r z number
  unfolding step called
  undo_begins stage m b r z number g is shows taken =
      let from = (enters M stage m).machine in
      let t = enters M (undo_stage M m.undo) from in
      let manager : ManagerState (own_plans setup names) = record { machine = t.machine; names = names; listed = Some names; joined = nothing } in
      let before : ManagerState (own_plans setup names) = record { machine = from; names = names; listed = Some names; joined = r.joined } in
      let o = option_map (sent_of (own_plans setup names) names) t.sends in
      let manager_is : z.manager ≡ before = ap (λ (l : Link (own_plans setup names)). l.manager) is in
      let c = called_goes (own_plans setup names) setup z number shows manager o in
      let next : Rest setup names = record r { joined = nothing } in
      let quiet : NoIdles (own_plans setup names) (link_of (own_plans setup names) z []) = subst (NoIdles (own_plans setup names)) (sym is) (clear_idles setup names m.counts (enters M stage m) b r g.clear) in
      record {
        y = manager_does (own_plans setup names) (record { manager = manager; sent = o }) z;
        is = ap (λ (x : ManagerState (own_plans setup names)). call_does (own_plans setup names) (called (own_plans setup names) UndoCall x) z) manager_is
            ∙ ap (λ (u : Option (Turn M)). call_does (own_plans setup names) (option_map (goes_on (own_plans setup names) (record before { joined = nothing })) u) z) taken;
        next = next;
        going = record {
          heeded = undo_heeded m.undo;
          made = undo_made (addresses names) m.undo g.undo;
          undo = g.undo;
          clear = record { ipmb = g.clear.ipmb; smbus = g.clear.smbus; kept = g.clear.kept; joined = refl };
          sound = g.sound;
        };
        fresh = called_fresh (own_plans setup names) setup z number shows quiet manager o (sends_newest (own_plans setup names) (record before { joined = nothing }) (undo_stage M m.undo) from);
        there = c.1 ∙ ap (λ (l : Link (own_plans setup names)). record l { manager = manager; queue = dues_of (own_plans setup names) o }) is;
      }

  undoing_so : (stage : Stage M) (m : Machine M) (b : State) (r : Rest setup names) (z : Lab (own_plans setup names)) (number : ℕ) → Going stage m b r → link_of (own_plans setup names) z [] ≡ link_at setup names (enters M stage m) b r
      → Shows (own_plans setup names) setup z number [] → let from = (enters M stage m).machine in
      undo_of M from ≡ Some (enters M (undo_stage M m.undo) from) → (k n : ℕ) → let x = clean (own_family setup names) (answer setup) k (moment (undo_stage M m.undo) from b) in
      IsAtRest (own_family setup names) (answer setup) x Undone n
      → (es : List Event) → DeliversFrom (own_plans setup names) setup (length z.frames) es (step (own_plans setup names) setup z (Calls UndoCall)) → Ended (run (own_plans setup names) setup es (step (own_plans setup names) setup z (Calls UndoCall))) x Undone n
  undoing_so stage m b r z number g is shows taken k n rest es d =
      let from = (enters M stage m).machine in
      let u = undo_begins stage m b r z number g is shows taken in
      let delivers : DeliversFrom (own_plans setup names) setup number es u.y =
      subst (λ (x : Lab (own_plans setup names)). DeliversFrom (own_plans setup names) setup number es x) u.is
      (subst (λ (i : ℕ). DeliversFrom (own_plans setup names) setup i es (step (own_plans setup names) setup z (Calls UndoCall))) (sym (all_sent (own_plans setup names) setup z number shows)) d) in
      subst (λ (x : Lab (own_plans setup names)). Ended (run (own_plans setup names) setup es x) (clean (own_family setup names) (answer setup) k (moment (undo_stage M m.undo) from b)) Undone n) (sym u.is)
      (ends k (undo_stage M m.undo) from b u.next Undone n u.going rest es u.y number u.there u.fresh.shows delivers)

  -- the undo's frames can be delivered too
  undo_delivered : (stage : Stage M) (m : Machine M) (b : State) (r : Rest setup names) (z : Lab (own_plans setup names)) (number : ℕ) → Going stage m b r → link_of (own_plans setup names) z [] ≡ link_at setup names (enters M stage m) b r
      → Shows (own_plans setup names) setup z number [] → let from = (enters M stage m).machine in
      undo_of M from ≡ Some (enters M (undo_stage M m.undo) from) → (k n : ℕ) → IsAtRest (own_family setup names) (answer setup) (clean (own_family setup names) (answer setup) k (moment (undo_stage M m.undo) from b)) Undone n
      → number + 8 * k ≤ 65530 → Goes (own_plans setup names) setup (step (own_plans setup names) setup z (Calls UndoCall)) (length z.frames) (8 * k)
  undo_delivered stage m b r z number g is shows taken k n rest small =
      let from = (enters M stage m).machine in
      let u = undo_begins stage m b r z number g is shows taken in
      subst (λ (i : ℕ). Goes (own_plans setup names) setup (step (own_plans setup names) setup z (Calls UndoCall)) i (8 * k)) (all_sent (own_plans setup names) setup z number shows)
      (subst (λ (x : Lab (own_plans setup names)). Goes (own_plans setup names) setup x number (8 * k)) (sym u.is)
      (delivered k (undo_stage M m.undo) from b u.next Undone n u.going rest u.y number u.there u.fresh small))

  -- a schedule that undoes, and what the lab is after it; the board is `left` then
  abbrev TakesBack : Turn M → State → ℕ → ℕ → (start left : State) → Type 0
  TakesBack t b k n start left =
      let y = clean (own_family setup names) (answer setup) k (record { turn = t; board = b }) in IsAtRest (own_family setup names) (answer setup) y Undone n × (y.board.records ≡ start.records) × (y.board ≡ left)

  record IsBack (z : Lab (own_plans setup names)) (n : ℕ) (start left : State) : Type 0 where
    moment_then : Moment (own_family setup names)
    ended : Ended z moment_then Undone n
    back : moment_then.board.records ≡ start.records
    is_left : moment_then.board ≡ left

  undoing : (stage : Stage M) (m : Machine M) (b : State) (r : Rest setup names) (z : Lab (own_plans setup names)) (number : ℕ) → Going stage m b r → link_of (own_plans setup names) z [] ≡ link_at setup names (enters M stage m) b r
      → Shows (own_plans setup names) setup z number [] → (k n : ℕ) (start left : State) → IfSome (undo_of M (enters M stage m).machine) (λ t. TakesBack t b k n start left) → (undo_of M (enters M stage m).machine ≡ None → ⊥)
      → (es : List Event) → DeliversFrom (own_plans setup names) setup (length z.frames) es (step (own_plans setup names) setup z (Calls UndoCall)) → IsBack (run (own_plans setup names) setup es (step (own_plans setup names) setup z (Calls UndoCall))) n start left
  undoing AtEnd m b r z number g is shows k n start left back taken es d =
      record { moment_then = clean (own_family setup names) (answer setup) k (moment (undo_stage M m.undo) (enters M AtEnd m).machine b); ended = undoing_so AtEnd m b r z number g is shows refl k n back.0 es d; back = back.1; is_left = back.2 }
  undoing (AtHalt j why) m b r z number g is shows k n start left back taken es d =
      record { moment_then = clean (own_family setup names) (answer setup) k (moment (undo_stage M m.undo) (enters M (AtHalt j why) m).machine b); ended = undoing_so (AtHalt j why) m b r z number g is shows refl k n back.0 es d; back = back.1; is_left = back.2 }
  undoing AtStart m b r z number g is shows k n start left back taken es d = absurd (taken refl)
  undoing (Opened heeded task part) m b r z number g is shows k n start left back taken es d = absurd (taken refl)
  undoing AtUndone m b r z number g is shows k n start left back taken es d = absurd (taken refl)
  undoing (AtRefused j code) m b r z number g is shows k n start left back taken es d = absurd (taken refl)

  undoing_delivered : (stage : Stage M) (m : Machine M) (b : State) (r : Rest setup names) (z : Lab (own_plans setup names)) (number : ℕ) → Going stage m b r → link_of (own_plans setup names) z [] ≡ link_at setup names (enters M stage m) b r
      → Shows (own_plans setup names) setup z number [] → (k n : ℕ) (start left : State) → IfSome (undo_of M (enters M stage m).machine) (λ t. TakesBack t b k n start left) → (undo_of M (enters M stage m).machine ≡ None → ⊥)
      → number + 8 * k ≤ 65530 → Goes (own_plans setup names) setup (step (own_plans setup names) setup z (Calls UndoCall)) (length z.frames) (8 * k)
  undoing_delivered AtEnd m b r z number g is shows k n start left back taken small = undo_delivered AtEnd m b r z number g is shows refl k n back.0 small
  undoing_delivered (AtHalt j why) m b r z number g is shows k n start left back taken small = undo_delivered (AtHalt j why) m b r z number g is shows refl k n back.0 small
  undoing_delivered AtStart m b r z number g is shows k n start left back taken small = absurd (taken refl)
  undoing_delivered (Opened heeded task part) m b r z number g is shows k n start left back taken small = absurd (taken refl)
  undoing_delivered AtUndone m b r z number g is shows k n start left back taken small = absurd (taken refl)
  undoing_delivered (AtRefused j code) m b r z number g is shows k n start left back taken small = absurd (taken refl)

  -- ---- the schedule

  module _ (plan : List Op) (retries : ℕ) where
    abbrev x0 : Lab (own_plans setup names)
    x0 = first setup names plan retries

    abbrev m0 : Machine M
    m0 = opened M plan retries

    abbrev r0 : Rest setup names
    r0 = record { ipmb_log = []; smbus_log = []; kept = nothing; joined = nothing }

    abbrev stage0 : Stage M
    stage0 = first_stage M (slice_get plan 0)

    going0 : Going stage0 m0 x0.board r0
    going0 = record {
      heeded = first_heeded (slice_get plan 0);
      made = (starts_made (addresses names) AtStart m0 tt).stage;
      undo = tt;
      clear = record { ipmb = refl; smbus = refl; kept = refl; joined = refl };
      sound = starts_sound setup;
    }

    shows0 : Shows (own_plans setup names) setup x0 0 []
    shows0 = record { done = []; waiting = []; frames = refl; count = refl; are = refl }

    abbrev manager0 : ManagerState (own_plans setup names)
    manager0 = record { machine = (enters M stage0 m0).machine; names = names; listed = Some names; joined = nothing }

    abbrev sent0 : Option Sent
    sent0 = option_map (sent_of (own_plans setup names) names) (sends_at M stage0 m0.counts)

    started : step (own_plans setup names) setup x0 (Calls StartCall) ≡ manager_does (own_plans setup names) (record { manager = manager0; sent = sent0 }) x0
    unfolding step called
    started = refl

    ran_to : (es : List Event) (k : ℕ) (phase : Phase) (n : ℕ) → let x = clean (own_family setup names) (answer setup) k (moment stage0 m0 x0.board) in
        IsAtRest (own_family setup names) (answer setup) x phase n → IsCleanRun (own_plans setup names) setup es x0 → Ended (run (own_plans setup names) setup es x0) x phase n
    ran_to es k phase n rest c =
        let x = clean (own_family setup names) (answer setup) k (moment stage0 m0 x0.board) in
        let y = manager_does (own_plans setup names) (record { manager = manager0; sent = sent0 }) x0 in
        let g = called_goes (own_plans setup names) setup x0 0 shows0 manager0 sent0 in
        let d : DeliversFrom (own_plans setup names) setup 0 c.deliveries y = subst (λ (z : Lab (own_plans setup names)). DeliversFrom (own_plans setup names) setup 0 c.deliveries z) started c.delivered in
        let e : Ended (run (own_plans setup names) setup c.deliveries y) x phase n = ends k stage0 m0 x0.board r0 phase n going0 rest c.deliveries y 0 g.1 g.0 d in
        let same : run (own_plans setup names) setup c.deliveries y ≡ run (own_plans setup names) setup es x0 =
        ap (run (own_plans setup names) setup c.deliveries) (sym started) ∙ sym ((runs_by (own_plans setup names) setup).one (Calls StartCall) c.deliveries x0) ∙ ap (λ (l : List Event). run (own_plans setup names) setup l x0) (sym c.all) in
        subst (λ (z : Lab (own_plans setup names)). Ended z x phase n) same e

    -- a schedule of the plan delivers all frames, and each that does is taken
    fresh0 : Fresh (own_plans setup names) setup (manager_does (own_plans setup names) (record { manager = manager0; sent = sent0 }) x0) 0 (dues_of (own_plans setup names) sent0)
    fresh0 = called_fresh (own_plans setup names) setup x0 0 shows0 (λ q. (refl, refl)) manager0 sent0 (sends_newest (own_plans setup names) (let before : ManagerState (own_plans setup names) = record { machine = m0; names = names; listed = Some names; joined = nothing } in before) stage0 m0)

    start_goes : (k : ℕ) (phase : Phase) (n : ℕ) → IsAtRest (own_family setup names) (answer setup) (clean (own_family setup names) (answer setup) k (moment stage0 m0 x0.board)) phase n → 8 * k ≤ 65530
        → Goes (own_plans setup names) setup (step (own_plans setup names) setup x0 (Calls StartCall)) 0 (8 * k)
    start_goes k phase n rest small =
        subst (λ (y : Lab (own_plans setup names)). Goes (own_plans setup names) setup y 0 (8 * k)) (sym started)
        (delivered k stage0 m0 x0.board r0 phase n going0 rest (manager_does (own_plans setup names) (record { manager = manager0; sent = sent0 }) x0) 0 (called_goes (own_plans setup names) setup x0 0 shows0 manager0 sent0).1 fresh0 (omega (arith, small)))

    -- what holds of the schedules that only start
    record CanRun (k : ℕ) : Type 0 where
      events : List Event
      clean_run : IsCleanRun (own_plans setup names) setup events x0
      taken : (es : List Event) → IsCleanRun (own_plans setup names) setup es x0 → AllTaken (own_plans setup names) setup es x0
      few : (es : List Event) → IsCleanRun (own_plans setup names) setup es x0 → length (run (own_plans setup names) setup es x0).frames ≤ 8 * k

    call_taken : (y : Lab (own_plans setup names)) (call : Call) → length y.frames < most_frames → fault_of (own_plans setup names) y (Calls call) ≡ None
    call_taken y call small = by (length y.frames) small
      where
        by : (i : ℕ) → i < most_frames → cond (nat_le most_frames i) (Some Room) None ≡ None
        by i below = let no : nat_le most_frames i ≡ false = grind (arith, nat_tests) in ap (λ (t : Bool). let none : Option Fault = None in cond t (Some Room) none) no

    can_run : (k : ℕ) (phase : Phase) (n : ℕ) → IsAtRest (own_family setup names) (answer setup) (clean (own_family setup names) (answer setup) k (moment stage0 m0 x0.board)) phase n → 8 * k ≤ 65530 → CanRun k
    can_run k phase n rest small =
        let g = start_goes k phase n rest small in
        record {
          events = Calls StartCall ∷ g.events;
          clean_run = record { deliveries = g.events; delivered = g.delivers; all = refl };
          taken = λ es c. subst (λ (l : List Event). AllTaken (own_plans setup names) setup l x0) (sym c.all) (call_taken x0 StartCall (lit< tt), g.taken c.deliveries c.delivered);
          few = λ es c.
              let few = g.few c.deliveries c.delivered in
              let same : run (own_plans setup names) setup es x0 ≡ run (own_plans setup names) setup c.deliveries (step (own_plans setup names) setup x0 (Calls StartCall)) =
              ap (λ (l : List Event). run (own_plans setup names) setup l x0) c.all ∙ (runs_by (own_plans setup names) setup).one (Calls StartCall) c.deliveries x0 in
              subst (λ (y : Lab (own_plans setup names)). length y.frames ≤ 8 * k) (sym same) (omega (arith, few));
        }

    -- and of those that undo
    record CanUndo : Type 0 where
      events : List Event
      clean_undo : IsCleanUndo (own_plans setup names) setup events x0
      taken : (es : List Event) → IsCleanUndo (own_plans setup names) setup es x0 → AllTaken (own_plans setup names) setup es x0

    both_taken : (es later : List Event) (y : Lab (own_plans setup names)) → AllTaken (own_plans setup names) setup es y → AllTaken (own_plans setup names) setup later (run (own_plans setup names) setup es y) → AllTaken (own_plans setup names) setup (es ++ later) y
    unfolding run
    both_taken [] later y one two = two
    both_taken (e ∷ es) later y one two = (one.0, both_taken es later (step (own_plans setup names) setup y e) one.1 two)

    undo_goes : (es : List Event) (k j n q : ℕ) (left : State) (phase : Phase) → let x = clean (own_family setup names) (answer setup) k (moment stage0 m0 x0.board) in
        IsAtRest (own_family setup names) (answer setup) x phase n → IfSome (undo_of M x.turn.machine) (λ t. TakesBack t x.board j q x0.board left) → (undo_of M x.turn.machine ≡ None → ⊥)
        → 8 * k + 8 * j ≤ 65530 → CanRun k → IsCleanRun (own_plans setup names) setup es x0
        → let z = run (own_plans setup names) setup es x0 in Goes (own_plans setup names) setup (step (own_plans setup names) setup z (Calls UndoCall)) (length z.frames) (8 * j)
    undo_goes es k j n q left phase rest back taken small can c =
        let e = ran_to es k phase n rest c in
        let z = run (own_plans setup names) setup es x0 in
        let back_there = subst (λ (y : Moment (own_family setup names)). IfSome (undo_of M y.turn.machine) (λ t. TakesBack t y.board j q x0.board left)) e.same back in
        let taken_there = subst (λ (y : Moment (own_family setup names)). undo_of M y.turn.machine ≡ None → ⊥) e.same taken in
        let few = can.few es c in
        let sent = all_sent (own_plans setup names) setup z e.number e.shows in
        undoing_delivered e.stage e.machine e.board e.rest z e.number e.going e.is e.shows j q x0.board left back_there taken_there (omega (arith, few, sent, small))

    can_undo : (k j n q : ℕ) (left : State) (phase : Phase) → let x = clean (own_family setup names) (answer setup) k (moment stage0 m0 x0.board) in
        IsAtRest (own_family setup names) (answer setup) x phase n → IfSome (undo_of M x.turn.machine) (λ t. TakesBack t x.board j q x0.board left) → (undo_of M x.turn.machine ≡ None → ⊥)
        → 8 * k + 8 * j ≤ 65530 → CanRun k → CanUndo
    can_undo k j n q left phase rest back taken small can =
        let first_part = can.events in
        let g = undo_goes first_part k j n q left phase rest back taken small can can.clean_run in
        record {
          events = first_part ++ Calls UndoCall ∷ g.events;
          clean_undo = record { before = first_part; deliveries = g.events; ran = can.clean_run; delivered = g.delivers; all = refl };
          taken = λ es c.
              let z = run (own_plans setup names) setup c.before x0 in
              let more = undo_goes c.before k j n q left phase rest back taken small can c.ran in
              let few = can.few c.before c.ran in
              subst (λ (l : List Event). AllTaken (own_plans setup names) setup l x0) (sym c.all)
              (both_taken c.before (Calls UndoCall ∷ c.deliveries) x0 (can.taken c.before c.ran) (call_taken z UndoCall (omega (arith, few, small)), more.taken c.deliveries c.delivered));
        }

    undone_to : (es : List Event) (k j n q : ℕ) (left : State) (phase : Phase) → let x = clean (own_family setup names) (answer setup) k (moment stage0 m0 x0.board) in
        IsAtRest (own_family setup names) (answer setup) x phase n → IfSome (undo_of M x.turn.machine) (λ t. TakesBack t x.board j q x0.board left) → (undo_of M x.turn.machine ≡ None → ⊥)
        → IsCleanUndo (own_plans setup names) setup es x0 → IsBack (run (own_plans setup names) setup es x0) q x0.board left
    undone_to es k j n q left phase rest back taken c =
        let e = ran_to c.before k phase n rest c.ran in
        let z = run (own_plans setup names) setup c.before x0 in
        let back_there = subst (λ (y : Moment (own_family setup names)). IfSome (undo_of M y.turn.machine) (λ t. TakesBack t y.board j q x0.board left)) e.same back in
        let taken_there = subst (λ (y : Moment (own_family setup names)). undo_of M y.turn.machine ≡ None → ⊥) e.same taken in
        let u = undoing e.stage e.machine e.board e.rest z e.number e.going e.is e.shows j q x0.board left back_there taken_there c.deliveries c.delivered in
        let same : run (own_plans setup names) setup c.deliveries (step (own_plans setup names) setup z (Calls UndoCall)) ≡ run (own_plans setup names) setup es x0 =
        sym ((runs_by (own_plans setup names) setup).one (Calls UndoCall) c.deliveries z) ∙ sym ((runs_by (own_plans setup names) setup).more c.before (Calls UndoCall ∷ c.deliveries) x0) ∙ ap (λ (l : List Event). run (own_plans setup names) setup l x0) (sym c.all) in
        subst (λ (y : Lab (own_plans setup names)). IsBack y q x0.board left) same u

    has_ended : (es : List Event) (x : Moment (own_family setup names)) (phase : Phase) (n : ℕ) → Ended (run (own_plans setup names) setup es x0) x phase n
        → HasEnded setup names plan retries es phase n × ((after setup names plan retries es).board ≡ x.board) × ((after setup names plan retries es).manager.machine.undo ≡ x.turn.machine.undo)
    has_ended es x phase n e =
        let z = run (own_plans setup names) setup es x0 in
        let machine_is : z.manager.machine ≡ (enters M e.stage e.machine).machine = ap (λ (l : Link (own_plans setup names)). l.manager.machine) e.is in
        let c = e.machine.counts in (
          record {
            phase_is = ap (phase_of M) machine_is ∙ e.phase_is;
            begun = ap (λ (m : Machine M). begun_on M Ipmb m + begun_on M Smbus m) machine_is
                ∙ ap (λ (o : Option Bus). (c.ipmb + cond (is_open_bus Ipmb o) 1 0) + (c.smbus + cond (is_open_bus Smbus o) 1 0)) e.closed
                ∙ none_begun c n e.count;
            closed = ap (open_bus M) machine_is ∙ e.closed;
          },
          ap (λ (l : Link (own_plans setup names)). l.board) e.is ∙ sym (ap (λ (y : Moment (own_family setup names)). y.board) e.same),
          ap (λ (m : Machine M). m.undo) machine_is ∙ sym (ap (λ (y : Moment (own_family setup names)). y.turn.machine.undo) e.same),
        )

    -- ---- a plan of at most 256 steps takes few frames

    abbrev Runs : Type 0
    Runs = RunsThrough (own_family setup names) (answer setup) plan x0.board (moment stage0 m0 x0.board)

    -- where the plan is over
    abbrev over : Runs → Moment (own_family setup names)
    over r = clean (own_family setup names) (answer setup) (r.requests + r.more) (moment stage0 m0 x0.board)

    -- the undo that follows
    abbrev undone_by : Runs → Turn M → Moment (own_family setup names)
    undone_by r t = clean (own_family setup names) (answer setup) r.back (record { turn = t; board = (over r).board })

    record Undoes_so (r : Runs) (t : Turn M) : Type 0 where
      rest : IsAtRest (own_family setup names) (answer setup) (undone_by r t) Undone (r.requests + r.more + r.back)
      records : (undone_by r t).board.records ≡ x0.board.records
      answers : AnswersEach (own_family setup names) (answer setup) (over r).turn.machine.undo r.back (over r).board (undone_by r t).board

    -- the undo leaves a board
    record GoesBack (r : Runs) : Type 0 where
      left : State
      takes : IfSome (undo_of M (over r).turn.machine) (λ t. TakesBack t (over r).board r.back (r.requests + r.more + r.back) x0.board left)
      answers : AnswersEach (own_family setup names) (answer setup) (over r).turn.machine.undo r.back (over r).board left

    goes_back : (r : Runs) → GoesBack r
    goes_back r =
        let o = undo_of M (over r).turn.machine in
        let there = taken_some (Undoes_so r) o (IfSome_then o r.undo (λ t so. record { rest = so.0; records = so.1; answers = so.2 })) r.undo_is_taken in
        let left = (undone_by r there.0).board in
        record {
          left = left;
          takes = subst (λ (u : Option (Turn M)). IfSome u (λ t. TakesBack t (over r).board r.back (r.requests + r.more + r.back) x0.board left)) (sym there.1) (there.2.rest, there.2.records, refl);
          answers = there.2.answers;
        }

    few_steps : (r : Runs) → length plan ≤ 256 → length r.steps ≤ 256
    few_steps r few = let all = ap (λ (l : List Op). length l) r.whole ∙ length-append r.steps r.rest in omega (arith, few, all)

    few_run : (r : Runs) → length plan ≤ 256 → r.requests + r.more ≤ 3084
    few_run r few =
        let steps = few_steps r few in
        let all = steps_few setup (addresses names) r.steps r.requests x0.board r.at r.go in
        let more = more_few setup (addresses names) (length r.steps) r.rest r.at r.phase r.more r.ends in
        omega (arith, steps, all, more)

    few_back : (r : Runs) → length plan ≤ 256 → r.back ≤ 1536
    few_back r few =
        let steps = few_steps r few in
        let f = exchanges (r.requests + r.more) stage0 m0 x0.board r0 going0 in
        let made : AllSeries (addresses names) (over r).turn.machine.undo = subst (λ (y : Moment (own_family setup names)). AllSeries (addresses names) y.turn.machine.undo) (sym f.same) f.going.undo in
        let g = goes_back r in
        let all = each_few setup (addresses names) (over r).turn.machine.undo made r.back (over r).board g.left g.answers in
        let each = r.undo_each in
        omega (arith, steps, all, each)

    small_run : (r : Runs) → length plan ≤ 256 → CanRun (r.requests + r.more)
    small_run r few = let run = few_run r few in can_run (r.requests + r.more) r.phase (r.requests + r.more) r.run.0 (omega (arith, run))

    small_undo : (r : Runs) → length plan ≤ 256 → CanUndo
    small_undo r few =
        let run = few_run r few in
        let back = few_back r few in
        let g = goes_back r in
        can_undo (r.requests + r.more) r.back (r.requests + r.more) (r.requests + r.more + r.back) g.left r.phase r.run.0 g.takes r.undo_is_taken (omega (arith, run, back)) (small_run r few)

    by_parts : (r : Runs) → (r.requests ≡ step_parts setup names r.steps r.requests x0.board r.at r.go) × (r.back ≡ back_parts setup names plan x0.board.records (length r.steps) (over r).turn.machine.undo (over r).board.records r.leads_back)
    by_parts r =
        let g = goes_back r in (
          steps_counted setup names r.steps r.requests x0.board r.at r.go (starts_sound setup),
          backs_counted setup names plan x0.board.records (length r.steps) (over r).turn.machine.undo (over r).board.records r.leads_back r.back (over r).board g.left g.answers,
        )

    -- a plan of steps of one request each
    of_one : (r : Runs) → AreOfOne plan → (r.requests ≡ length r.steps + length r.steps) × (r.more ≡ count_at r.phase) × (r.back ≡ length r.steps)
    of_one r all =
        let split = split_of_one r.steps r.rest (subst AreOfOne r.whole all) in
        let parts = by_parts r in (
          parts.0 ∙ steps_two setup names r.steps r.requests x0.board r.at r.go split.0,
          more_one setup names (length r.steps) r.rest r.at r.phase r.more split.1 r.ends,
          parts.1 ∙ backs_one setup names plan x0.board.records (length r.steps) (over r).turn.machine.undo (over r).board.records r.leads_back all,
        )

    pub runs_on_clean_link : RunsOnCleanLink setup names plan retries
    runs_on_clean_link =
        let r : Runs =
        always_runs_through (own_family setup names) (is_family setup (addresses names)) (are_finite (addresses names)) (answer setup) (λ b asked. has_answer setup b asked) plan retries x0.board (starts_valid setup (addresses names)).opened_valid (starts_ready setup (addresses names)) in
        let n = r.requests + r.more in
        let x = over r in
        let g = goes_back r in
        record {
          steps = r.steps;
          rest = r.rest;
          whole = r.whole;
          at = r.at;
          requests = r.requests;
          go = r.go;
          phase = r.phase;
          more = r.more;
          ends = r.ends;
          undo = x.turn.machine.undo;
          rested = x.board;
          leads_back = r.leads_back;
          back = r.back;
          left = g.left;
          goes_back = g.answers;
          by_parts = by_parts r;
          of_one = of_one r;
          can_run = λ few. let can = small_run r few in (can.events, can.clean_run);
          can_undo = λ few. let can = small_undo r few in (can.events, can.clean_undo);
          run_taken = λ few. (small_run r few).taken;
          undo_taken = λ few. (small_undo r few).taken;
          ran = λ es c.
              let h = has_ended es x r.phase n (ran_to es n r.phase n r.run.0 c) in
              (h.0, subst (λ (b : State). IsAfter (own_family setup names) plan x0.board.records (length r.steps) b.records) (sym h.1) r.run.1, h.2, h.1);
          undone = λ es c.
              let u = undone_to es n r.back n (n + r.back) g.left r.phase r.run.0 g.takes r.undo_is_taken c in
              let h = has_ended es u.moment_then Undone (n + r.back) u.ended in
              let is = left_at (after setup names plan retries es).board u.moment_then.board g.left x0.board h.1 u.back u.is_left in
              (h.0, is.0, is.1);
        }
