-- On a link without loss a plan is done, or halts at the first step that doesn't go, and is undone, where each series has an end.
use Rattle.std.proofs.Common.{◌≡◌, ◌≢◌, ℕ, zero, suc, ◌+◌, ◌≤◌, Bool, true, false, List, [], ◌∷◌, ◌++◌, length, Option, Some, None, refl, sym, ◌∙◌, ap, subst, arith, append-nil, ◌⊎◌, inl, inr}
use Rattle.std.specs.Prelude.{slice_get, IfSome, if◌then◌else◌}
use Rattle.std.proofs.lemmas.Bool.{cases_eq, eq-eqb, ne_eqb}
use Rattle.std.proofs.lemmas.List.{append_assoc}
use Rattle.std.proofs.lemmas.Option.{none-some, slice_get_within}
use Rattle.two_wire.specs.Codes.{success}
use Rattle.model_bus.proofs.Lists.{length_more}
use Rattle.model_bus.specs.Answered.{Answered}
use Rattle.model_undo.specs.Words.{IsNext, AreAnswered}
use Rattle.model_undo.specs.Family.{Family, AllValid, IsReady, GaveAnswer}
use Rattle.model_undo.specs.IsFamily.{ShownRecord, IsFamily}
use Rattle.model_undo.specs.declared.phase.Why.{Why}
use Rattle.model_undo.specs.declared.phase.Why.TheVariants.{Refused, NotRestorable, GetRefused}
use Rattle.model_undo.specs.declared.phase.Phase.{Phase}
use Rattle.model_undo.specs.declared.phase.Phase.TheVariants.{Done, Halted, Undone}
use Rattle.model_undo.specs.Plan.{IsAfter}
use Rattle.model_undo.specs.Machine.{Task, Part, Gets, Sets, Undoes, Stage, AtStart, Opened, AtEnd, AtHalt, AtUndone, AtRefused, Machine, Turn, series_of, first_part, begun, bus_at, enters, first_stage, undo_stage, next_stage, set_stage, refused, goes_on, told_stage, finished, bodies_with, next_asked, stage_after, phase_at, undoes, undo_of, opened}
use Rattle.model_undo.specs.Clean.{Moment, answered_in_all, AnswersByRow, one, clean, IsAtRest}
use Rattle.model_undo.specs.CleanSeries.{AreFinite, SeriesAnswered, AnswersAll, RefusesOne, shown, CarriesSeries, GoAll, HaltsSeries, EndsIn, AnswersEach, AlwaysRunsThrough}
use Rattle.model_undo.specs.Undoable.{CanUndo}
use Rattle.model_undo.proofs.Undoable.{past_none, after_of, length_of}
use Rattle.model_undo.proofs.Series.{not_empty, is_of}
use Rattle.model_undo.proofs.StageSound.{series_made}
use Rattle.model_undo.proofs.Calls.{first_good, undo_good}
use Rattle.model_undo.proofs.CleanSteps.{one_more_answered, at_stage as at_stage_of, Good as GoodAt, replied as replied_by, one_part, part_good}

module _ (F : Family) (laws : IsFamily F) (finite : AreFinite F.words) (answer : F.Board → F.words.Asked → Answered × F.Board) (by_row : AnswersByRow F answer) (plan : List F.words.Op) (start : F.Records) where
  abbrev at_stage : Stage F.words → Machine F.words → F.Board → Moment F
  at_stage = at_stage_of F laws answer by_row plan start

  abbrev Good : Stage F.words → Machine F.words → F.Board → Type 0
  Good = GoodAt F laws answer by_row plan start

  -- so many requests, and then some more
  clean_more : (n more : ℕ) (x : Moment F) → clean F answer (n + more) x ≡ clean F answer more (clean F answer n x)
  clean_more zero more x = let e : 0 + more ≡ more = omega arith in ap (λ (k : ℕ). clean F answer k x) e
  clean_more (suc n) more x = let e : suc n + more ≡ suc (n + more) = omega arith in ap (λ (k : ℕ). clean F answer k x) e ∙ clean_more n more (one F answer x)

  -- ---- the requests of a task

  -- only a Get asks whether the plan is to stop
  abbrev IsFree : Task F.words → Bool → Type 0
  IsFree (Gets k op) stopped = stopped ≡ false
  IsFree (Sets k op back) stopped = Unit {0}
  IsFree (Undoes first rest) stopped = Unit {0}

  goes_free : (task : Task F.words) (stopped : Bool) (part : Part F.words) → IsFree task stopped → goes_on F.words stopped task part ≡ Opened true task part
  goes_free (Gets k op) stopped part is = ap (λ (c : Bool). goes_on F.words c (Gets k op) part) is
  goes_free (Sets k op back) stopped part is = refl
  goes_free (Undoes first rest) stopped part is = refl

  -- from a task's open request on, all its requests were answered
  record Went (task : Task F.words) (part : Part F.words) (m : Machine F.words) (b : F.Board) : Type 0 where
    bodies : List (List ℕ)
    all : List (List ℕ)
    all_are : all ≡ part.before ++ bodies
    at : F.Board
    next : Machine F.words
    replied : SeriesAnswered F answer (series_of F.words task) part.before bodies b at
    some : bodies ≢ []
    no_more : F.words.next (series_of F.words task) all ≡ None
    ends : clean F answer (length bodies) (at_stage (Opened true task part) m b) ≡ at_stage (finished F.words m.stopped m.plan (F.words.joined (series_of F.words task) all) task) next at
    good : Good (finished F.words m.stopped m.plan (F.words.joined (series_of F.words task) all) task) next at
    count : answered_in_all next.counts ≡ answered_in_all m.counts + length bodies
    same_plan : next.plan ≡ m.plan
    same_stop : next.stopped ≡ m.stopped

  -- one was refused
  record Failed (task : Task F.words) (part : Part F.words) (m : Machine F.words) (b : F.Board) : Type 0 where
    bodies : List (List ℕ)
    all : List (List ℕ)
    all_are : all ≡ part.before ++ bodies
    at : F.Board
    after : F.Board
    next : Machine F.words
    replied : SeriesAnswered F answer (series_of F.words task) part.before bodies b at
    asked : F.words.Asked
    is_next : IsNext F.words (series_of F.words task) all asked
    code : ℕ
    refused_is : (answer at asked).0.code ≡ code
    fault : code ≢ success
    ends : clean F answer (suc (length bodies)) (at_stage (Opened true task part) m b) ≡ at_stage (refused F.words code task) next after
    good : Good (refused F.words code task) next after
    count : answered_in_all next.counts ≡ answered_in_all m.counts + suc (length bodies)

  abbrev Task_ends : Task F.words → Part F.words → Machine F.words → F.Board → Type 0
  Task_ends task part m b = Went task part m b ⊎ Failed task part m b

  -- no request is next after so many replies
  abbrev Ends_by : Task F.words → ℕ → Type 0
  Ends_by task most = (bodies : List (List ℕ)) → most ≤ length bodies → F.words.next (series_of F.words task) bodies ≡ None

  -- the answer with 00h that the board gave
  done_is : (r : Answered) → r.code ≡ success → r ≡ record { code = success; body = r.body }
  done_is r e = λ i. record { code = e i; body = r.body }

  went_first : (task : Task F.words) (part : Part F.words) (m : Machine F.words) (b : F.Board) → Good (Opened true task part) m b → let r = answer b part.asked in r.0.code ≡ success → next_asked F.words r.0 task part ≡ None
      → Went task part m b
  went_first task part m b good e none =
      let r = answer b part.asked in
      let next = replied_by F laws answer by_row plan start task part m r.0 in
      let went = told_stage F.words m.stopped m.plan task (bodies_with F.words r.0 part) (next_asked F.words r.0 task part) in
      let stage_is : stage_after F.words m.stopped m.plan r.0 task part ≡ finished F.words m.stopped m.plan (F.words.joined (series_of F.words task) (bodies_with F.words r.0 part)) task =
      ap (λ (c : Bool). if c then went else refused F.words r.0.code task) (eq-eqb r.0.code success e) ∙ ap (told_stage F.words m.stopped m.plan task (bodies_with F.words r.0 part)) none in
      record {
        bodies = r.0.body ∷ [];
        all = bodies_with F.words r.0 part;
        all_are = refl;
        at = r.1;
        next = next;
        replied = (part.asked, good.sound.2, done_is r.0 e, refl);
        some = not_empty [] r.0.body;
        no_more = none;
        ends = one_part F laws answer by_row plan start task part m b ∙ ap (λ (s : Stage F.words). at_stage s next r.1) stage_is;
        good = subst (λ (s : Stage F.words). Good s next r.1) stage_is (part_good F laws answer by_row plan start task part m b good);
        count = one_more_answered (bus_at F.words part) m.counts;
        same_plan = refl;
        same_stop = refl;
      }

  failed_first : (task : Task F.words) (part : Part F.words) (m : Machine F.words) (b : F.Board) → Good (Opened true task part) m b → (answer b part.asked).0.code ≢ success → Failed task part m b
  failed_first task part m b good ne =
      let r = answer b part.asked in
      let next = replied_by F laws answer by_row plan start task part m r.0 in
      let went = told_stage F.words m.stopped m.plan task (bodies_with F.words r.0 part) (next_asked F.words r.0 task part) in
      let stage_is : stage_after F.words m.stopped m.plan r.0 task part ≡ refused F.words r.0.code task = ap (λ (c : Bool). if c then went else refused F.words r.0.code task) (ne_eqb r.0.code success ne) in
      record {
        bodies = [];
        all = part.before;
        all_are = sym (append-nil part.before);
        at = b;
        after = r.1;
        next = next;
        replied = refl;
        asked = part.asked;
        is_next = good.sound.2;
        code = r.0.code;
        refused_is = refl;
        fault = ne;
        ends = one_part F laws answer by_row plan start task part m b ∙ ap (λ (s : Stage F.words). at_stage s next r.1) stage_is;
        good = subst (λ (s : Stage F.words). Good s next r.1) stage_is (part_good F laws answer by_row plan start task part m b good);
        count = one_more_answered (bus_at F.words part) m.counts;
      }

  -- one was answered, and then the others
  then_ends : (task : Task F.words) (part : Part F.words) (m : Machine F.words) (b : F.Board) (asked : F.words.Asked) → Good (Opened true task part) m b → let r = answer b part.asked in r.0.code ≡ success
      → let later : Part F.words = record { asked = asked; before = bodies_with F.words r.0 part } in
      let next = replied_by F laws answer by_row plan start task part m r.0 in
      one F answer (at_stage (Opened true task part) m b) ≡ at_stage (Opened true task later) next r.1 → Task_ends task later next r.1 → Task_ends task part m b
  then_ends task part m b asked good e there (inl w) =
      let r = answer b part.asked in
      let count = w.count in
      let here = one_more_answered (bus_at F.words part) m.counts in
      inl (record {
        bodies = r.0.body ∷ w.bodies;
        all = w.all;
        all_are = w.all_are ∙ append_assoc part.before (r.0.body ∷ []) w.bodies;
        at = w.at;
        next = w.next;
        replied = (part.asked, good.sound.2, done_is r.0 e, w.replied);
        some = λ is. absurd (let n : suc (length w.bodies) ≡ 0 = ap (λ (l : List (List ℕ)). length l) is in omega arith);
        no_more = w.no_more;
        ends = ap (clean F answer (length w.bodies)) there ∙ w.ends;
        good = w.good;
        count = omega arith;
        same_plan = w.same_plan;
        same_stop = w.same_stop;
      })
  then_ends task part m b asked good e there (inr w) =
      let r = answer b part.asked in
      let count = w.count in
      let here = one_more_answered (bus_at F.words part) m.counts in
      inr (record {
        bodies = r.0.body ∷ w.bodies;
        all = w.all;
        all_are = w.all_are ∙ append_assoc part.before (r.0.body ∷ []) w.bodies;
        at = w.at;
        after = w.after;
        next = w.next;
        replied = (part.asked, good.sound.2, done_is r.0 e, w.replied);
        asked = w.asked;
        is_next = w.is_next;
        code = w.code;
        refused_is = w.refused_is;
        fault = w.fault;
        ends = ap (clean F answer (suc (length w.bodies))) there ∙ w.ends;
        good = w.good;
        count = omega arith;
      })

  -- what is known of a task's requests after the first
  abbrev Goes_later : Task F.words → ℕ → Type 0
  Goes_later task n = (part : Part F.words) (m : Machine F.words) (b : F.Board) → n ≤ length part.before → IsFree task m.stopped → Good (Opened true task part) m b → Task_ends task part m b

  goes_after : (task : Task F.words) (part : Part F.words) (m : Machine F.words) (b : F.Board) (o : Option F.words.Asked) → Goes_later task (length part.before + 1) → IsFree task m.stopped → Good (Opened true task part) m b
      → let r = answer b part.asked in r.0.code ≡ success → next_asked F.words r.0 task part ≡ o → Task_ends task part m b
  goes_after task part m b None later free good e is = inl (went_first task part m b good e is)
  goes_after task part m b (Some asked) later free good e is =
      let r = answer b part.asked in
      let next = replied_by F laws answer by_row plan start task part m r.0 in
      let more : Part F.words = record { asked = asked; before = bodies_with F.words r.0 part } in
      let went = told_stage F.words m.stopped m.plan task (bodies_with F.words r.0 part) (next_asked F.words r.0 task part) in
      let stage_is : stage_after F.words m.stopped m.plan r.0 task part ≡ Opened true task more =
      ap (λ (c : Bool). if c then went else refused F.words r.0.code task) (eq-eqb r.0.code success e) ∙ ap (told_stage F.words m.stopped m.plan task (bodies_with F.words r.0 part)) is ∙ goes_free task m.stopped more free in
      let there = one_part F laws answer by_row plan start task part m b ∙ ap (λ (s : Stage F.words). at_stage s next r.1) stage_is in
      let good_there = subst (λ (s : Stage F.words). Good s next r.1) stage_is (part_good F laws answer by_row plan start task part m b good) in
      let long = length_more part.before r.0.body in
      then_ends task part m b asked good e there (later more next r.1 (omega arith) free good_there)

  first_goes : (task : Task F.words) (part : Part F.words) (m : Machine F.words) (b : F.Board) → Good (Opened true task part) m b → ((answer b part.asked).0.code ≡ success → Task_ends task part m b) → Task_ends task part m b
  first_goes task part m b good goes =
      elim (cases_eq (answer b part.asked).0.code success) [
        | inl e ↦ goes e
        | inr ne ↦ inr (failed_first task part m b good ne)
      ]

  goes_from : (task : Task F.words) (most : ℕ) → Ends_by task most → (fuel n : ℕ) → most ≤ n + fuel → Goes_later task n
  goes_from task most limit zero n enough part m b long free good =
      let more = length_more part.before (answer b part.asked).0.body in
      first_goes task part m b good (λ e. inl (went_first task part m b good e (limit (bodies_with F.words (answer b part.asked).0 part) (omega arith))))
  goes_from task most limit (suc less) n enough part m b long free good =
      first_goes task part m b good (λ e. goes_after task part m b (next_asked F.words (answer b part.asked).0 task part) (goes_from task most limit less (length part.before + 1) (omega arith)) free good e refl)

  task_ends : (task : Task F.words) (m : Machine F.words) (b : F.Board) → IsFree task m.stopped → Good (begun F.words task) m b → Task_ends task (first_part F.words task) m b
  task_ends task m b free good =
      let end = finite (series_of F.words task) (series_made F plan start m.plan m.undo b task (first_part F.words task) good.sound.0) in
      goes_from task end.0 end.1 end.0 0 (omega arith) (first_part F.words task) m b (omega arith) free good

  -- in the words of the standard
  went_all : (task : Task F.words) (m : Machine F.words) (b : F.Board) (w : Went task (first_part F.words task) m b) → AnswersAll F answer (series_of F.words task) w.bodies b w.at
  went_all task m b w = record { replied = w.replied; some = w.some; no_more = subst (λ (l : List (List ℕ)). F.words.next (series_of F.words task) l ≡ None) w.all_are w.no_more }

  failed_one : (task : Task F.words) (m : Machine F.words) (b : F.Board) (w : Failed task (first_part F.words task) m b) → RefusesOne F answer (series_of F.words task) w.code (suc (length w.bodies)) b
  failed_one task m b w = record {
    bodies = w.bodies;
    mid = w.at;
    replied = w.replied;
    asked = w.asked;
    is_next = subst (λ (l : List (List ℕ)). IsNext F.words (series_of F.words task) l w.asked) w.all_are w.is_next;
    refused = w.refused_is;
    fault = w.fault;
    counted = omega arith;
  }

  -- ---- what a Get shows

  -- its requests change no record
  gave_all : (key : F.words.Key) (r : F.Records) (before bodies : List (List ℕ)) (b at : F.Board) → F.records b ≡ r → SeriesAnswered F answer (F.words.getting key) before bodies b at → AreAnswered F.words (GaveAnswer F r) (F.words.getting key) before bodies
  gave_all key r before [] b at same h = tt
  gave_all key r before (body ∷ bodies) b at same h =
      let next = (answer b h.0).1 in
      let row : F.Row b h.0 (record { code = success; body = body }) next = subst (λ (a : Answered). F.Row b h.0 a next) h.2 (by_row b h.0) in
      let kept : F.records next ≡ r = laws.parts_keep b next key h.0 (record { code = success; body = body }) (is_of F.words (F.words.getting key) before h.0 h.1) row ∙ same in
      (h.0, h.1, (b, next, same, row), gave_all key r (before ++ body ∷ []) bodies next at kept h.3)

  shows : (op : F.words.Op) (bodies : List (List ℕ)) (b at : F.Board) → AllValid F (F.records b) → AnswersAll F answer (F.words.getting (F.words.key_of op)) bodies b at → ShownRecord F (F.words.key_of op) (shown F answer op bodies) (F.records b)
  shows op bodies b at valid h =
      let key = F.words.key_of op in
      laws.parts_show (F.records b) key bodies valid (record { in_order = gave_all key (F.records b) [] bodies b at refl h.replied; some = h.some; no_more = h.no_more })

  restorable : (op back : F.words.Op) (bodies : List (List ℕ)) (b at : F.Board) → AllValid F (F.records b) → AnswersAll F answer (F.words.getting (F.words.key_of op)) bodies b at → F.words.inverse op (shown F answer op bodies) ≡ Some back
      → F.Restorable op (shown F answer op bodies)
  restorable op back bodies b at valid h is =
      let s = shows op bodies b at valid h in
      laws.kinds.restores op back s.value (shown F answer op bodies) (valid (F.words.key_of op) s.value s.found) s.shows is

  not_restorable : (op : F.words.Op) (bodies : List (List ℕ)) (b at : F.Board) → AllValid F (F.records b) → AnswersAll F answer (F.words.getting (F.words.key_of op)) bodies b at → F.words.inverse op (shown F answer op bodies) ≡ None
      → ¬ F.Restorable op (shown F answer op bodies)
  not_restorable op bodies b at valid h is =
      let s = shows op bodies b at valid h in
      laws.kinds.refuses op s.value (shown F answer op bodies) (valid (F.words.key_of op) s.value s.found) s.shows is

  -- ---- the undo

  record Reverts (us : List F.words.Series) (m : Machine F.words) (b : F.Board) : Type 0 where
    last : Machine F.words
    board : F.Board
    requests : ℕ
    each : AnswersEach F answer us requests b board
    ends : clean F answer requests (at_stage (undo_stage F.words us) m b) ≡ at_stage AtUndone last board
    good : Good AtUndone last board
    count : answered_in_all last.counts ≡ answered_in_all m.counts + requests

  reverts : (us : List F.words.Series) (m : Machine F.words) (b : F.Board) → Good (undo_stage F.words us) m b → Reverts us m b
  reverts [] m b h = record { last = m; board = b; requests = 0; each = (refl, refl); ends = refl; good = h; count = omega arith }
  reverts (u ∷ us) m b h =
      let task : Task F.words = Undoes u us in
      elim (task_ends task m b tt h) [
        | inl w ↦
            let rest = reverts us w.next w.at w.good in
            let more = rest.count in
            let here = w.count in
            record {
              last = rest.last;
              board = rest.board;
              requests = length w.bodies + rest.requests;
              each = (w.bodies, w.at, rest.requests, went_all task m b w, rest.each, refl);
              ends = clean_more (length w.bodies) rest.requests (at_stage (begun F.words task) m b) ∙ ap (clean F answer rest.requests) w.ends ∙ rest.ends;
              good = rest.good;
              count = omega arith;
            }
        | inr w ↦ absurd w.good.sound
      ]

  -- ---- the plan

  -- the phases in which a plan is over
  abbrev IsOver : Stage F.words → Type 0
  IsOver AtEnd = Unit {0}
  IsOver (AtHalt k why) = Unit {0}
  IsOver _ = ⊥

  record Runs (ops : List F.words.Op) (k : ℕ) (m : Machine F.words) (b : F.Board) (stage : Stage F.words) : Type 0 where
    steps : List F.words.Op
    rest : List F.words.Op
    whole : ops ≡ steps ++ rest
    at : F.Board
    requests : ℕ
    go : GoAll F answer steps requests b at
    phase : Phase
    more : ℕ
    ends_in : EndsIn F answer (k + length steps) rest at phase more
    last_stage : Stage F.words
    last : Machine F.words
    board : F.Board
    ends : clean F answer (requests + more) (at_stage stage m b) ≡ at_stage last_stage last board
    over : IsOver last_stage
    phase_is : phase_at F.words last_stage ≡ phase
    steps_done : CanUndo F plan start (k + length steps) last.undo (F.records board)
    valid : AllValid F (F.records board)
    free : IsReady F board
    count : answered_in_all last.counts ≡ answered_in_all m.counts + (requests + more)

  -- these steps are left, from k on
  record Before (ops : List F.words.Op) (k : ℕ) (m : Machine F.words) : Type 0 where
    going : m.stopped ≡ false
    same : m.plan ≡ plan
    within : k ≤ length plan
    here : (n : ℕ) → slice_get m.plan (k + n) ≡ slice_get ops n

  -- it sticks at the first of them
  sticks : (op : F.words.Op) (ops : List F.words.Op) (k : ℕ) (m : Machine F.words) (b : F.Board) (stage : Stage F.words) (why : Why) (more : ℕ) (last : Machine F.words) (board : F.Board) → HaltsSeries F answer b op why more
      → clean F answer more (at_stage stage m b) ≡ at_stage (AtHalt k why) last board → Good (AtHalt k why) last board → answered_in_all last.counts ≡ answered_in_all m.counts + more
      → Runs (op ∷ ops) k m b stage
  sticks op ops k m b stage why more last board stuck ends good count =
      let none : k ≡ k + 0 = omega arith in
      let all : more ≡ 0 + more = omega arith in
      record {
        steps = [];
        rest = op ∷ ops;
        whole = refl;
        at = b;
        requests = 0;
        go = (refl, refl);
        phase = Halted k why;
        more = more;
        ends_in = (why, stuck, ap (λ (n : ℕ). Halted n why) none);
        last_stage = AtHalt k why;
        last = last;
        board = board;
        ends = ap (λ (n : ℕ). clean F answer n (at_stage stage m b)) (sym all) ∙ ends;
        over = tt;
        phase_is = refl;
        steps_done = subst (λ (n : ℕ). CanUndo F plan start n last.undo (F.records board)) none good.sound.0;
        valid = good.valid;
        free = good.free;
        count = count ∙ ap (λ (n : ℕ). answered_in_all m.counts + n) all;
      }

  -- the first goes by so many requests, and then the others
  goes_first : (op : F.words.Op) (ops : List F.words.Op) (k : ℕ) (m : Machine F.words) (b : F.Board) (stage next_one : Stage F.words) (next : Machine F.words) (mid : F.Board) (n : ℕ) → CarriesSeries F answer b op n mid
      → clean F answer n (at_stage stage m b) ≡ at_stage next_one next mid → answered_in_all next.counts ≡ answered_in_all m.counts + n → Runs ops (suc k) next mid next_one → Runs (op ∷ ops) k m b stage
  goes_first op ops k m b stage next_one next mid n goes there sum r =
      let far : suc k + length r.steps ≡ k + suc (length r.steps) = omega arith in
      let all : n + r.requests + r.more ≡ n + (r.requests + r.more) = omega arith in
      let count = r.count in
      record {
        steps = op ∷ r.steps;
        rest = r.rest;
        whole = ap (λ (x : List F.words.Op). op ∷ x) r.whole;
        at = r.at;
        requests = n + r.requests;
        go = (mid, n, r.requests, goes, r.go, refl);
        phase = r.phase;
        more = r.more;
        ends_in = subst (λ (x : ℕ). EndsIn F answer x r.rest r.at r.phase r.more) far r.ends_in;
        last_stage = r.last_stage;
        last = r.last;
        board = r.board;
        ends = ap (λ (x : ℕ). clean F answer x (at_stage stage m b)) all ∙ clean_more n (r.requests + r.more) (at_stage stage m b) ∙ ap (clean F answer (r.requests + r.more)) there ∙ r.ends;
        over = r.over;
        phase_is = r.phase_is;
        steps_done = subst (λ (x : ℕ). CanUndo F plan start x r.last.undo (F.records r.board)) far r.steps_done;
        valid = r.valid;
        free = r.free;
        count = omega arith;
      }

  -- what is known of the steps after the first
  abbrev Goes_on : List F.words.Op → ℕ → Type 0
  Goes_on ops k = (m : Machine F.words) (b : F.Board) → Before ops k m → Good (next_stage F.words false k (slice_get ops 0)) m b → Runs ops k m b (next_stage F.words false k (slice_get ops 0))

  -- the steps that are left after one more
  one_less : (op : F.words.Op) (ops : List F.words.Op) (k : ℕ) (m next : Machine F.words) → next.plan ≡ m.plan → next.stopped ≡ m.stopped → Before (op ∷ ops) k m → Before ops (suc k) next
  one_less op ops k m next same_plan same_stop before =
      let zero_k : k + 0 ≡ k = omega arith in
      let this_step : slice_get plan k ≡ Some op = ap (λ (p : List F.words.Op). slice_get p k) (sym before.same) ∙ ap (slice_get m.plan) (sym zero_k) ∙ before.here 0 in
      let inside = slice_get_within plan k op this_step in
      record {
        going = same_stop ∙ before.going;
        same = same_plan ∙ before.same;
        within = omega arith;
        here = λ n. let far : suc k + n ≡ k + suc n = omega arith in ap (λ (p : List F.words.Op). slice_get p (suc k + n)) same_plan ∙ ap (slice_get m.plan) far ∙ before.here (suc n);
      }

  -- the Get of the first step was answered, and its Set is begun
  after_set : (op back : F.words.Op) (ops : List F.words.Op) (k : ℕ) (m : Machine F.words) (b : F.Board) (g : Went (Gets k op) (first_part F.words (Gets k op)) m b) → Goes_on ops (suc k) → Before (op ∷ ops) k m
      → F.Restorable op (shown F answer op g.bodies)
      → clean F answer (length g.bodies) (at_stage (begun F.words (Gets k op)) m b) ≡ at_stage (begun F.words (Sets k op back)) g.next g.at → Good (begun F.words (Sets k op back)) g.next g.at → Runs (op ∷ ops) k m b (begun F.words (Gets k op))
  after_set op back ops k m b g on before can first good1 =
      let get : Task F.words = Gets k op in
      let task : Task F.words = Sets k op back in
      let x = at_stage (begun F.words get) m b in
      let c1 = g.count in
      elim (task_ends task g.next g.at tt good1) [
        | inl w ↦
            let c2 = w.count in
            let n = length g.bodies + length w.bodies in
            let left = one_less op ops k m w.next (w.same_plan ∙ g.same_plan) (w.same_stop ∙ g.same_stop) before in
            let one_k : k + 1 ≡ suc k = omega arith in
            let step_is : slice_get g.next.plan (suc k) ≡ slice_get ops 0 = ap (λ (p : List F.words.Op). slice_get p (suc k)) g.same_plan ∙ ap (slice_get m.plan) (sym one_k) ∙ before.here 1 in
            let stage_is : next_stage F.words g.next.stopped (suc k) (slice_get g.next.plan (suc k)) ≡ next_stage F.words false (suc k) (slice_get ops 0) =
            ap (λ (c : Bool). next_stage F.words c (suc k) (slice_get g.next.plan (suc k))) (g.same_stop ∙ before.going) ∙ ap (next_stage F.words false (suc k)) step_is in
            let there = clean_more (length g.bodies) (length w.bodies) x ∙ ap (clean F answer (length w.bodies)) first ∙ w.ends in
            goes_first op ops k m b (begun F.words get) (next_stage F.words false (suc k) (slice_get ops 0)) w.next w.at n
            (record { got = g.bodies; mid = g.at; read = went_all get m b g; can_undo = can; put = w.bodies; done = went_all task g.next g.at w; counted = refl })
            (there ∙ ap (λ (s : Stage F.words). at_stage s w.next w.at) stage_is) (omega arith)
            (on w.next w.at left (subst (λ (s : Stage F.words). Good s w.next w.at) stage_is w.good))
        | inr w ↦
            let c2 = w.count in
            let n = suc (length w.bodies) in
            let there = clean_more (length g.bodies) n x ∙ ap (clean F answer n) first ∙ w.ends in
            sticks op ops k m b (begun F.words get) (Refused w.code) (length g.bodies + n) w.next w.after
            (record { got = g.bodies; mid = g.at; read = went_all get m b g; can_undo = can; sets = n; refuses = failed_one task g.next g.at w; counted = refl }) there w.good (omega arith)
      ]

  after_get : (op : F.words.Op) (ops : List F.words.Op) (k : ℕ) (m : Machine F.words) (b : F.Board) (g : Went (Gets k op) (first_part F.words (Gets k op)) m b) (o : Option F.words.Op) → Goes_on ops (suc k) → Before (op ∷ ops) k m → AllValid F (F.records b)
      → F.words.inverse op (shown F answer op g.bodies) ≡ o
      → clean F answer (length g.bodies) (at_stage (begun F.words (Gets k op)) m b) ≡ at_stage (set_stage F.words false k op o) g.next g.at → Good (set_stage F.words false k op o) g.next g.at → Runs (op ∷ ops) k m b (begun F.words (Gets k op))
  after_get op ops k m b g (Some back) on before valid inverse there good = after_set op back ops k m b g on before (restorable op back g.bodies b g.at valid (went_all (Gets k op) m b g) inverse) there good
  after_get op ops k m b g None on before valid inverse there good =
      let all = went_all (Gets k op) m b g in
      sticks op ops k m b (begun F.words (Gets k op)) NotRestorable (length g.bodies) g.next g.at (g.bodies, g.at, all, not_restorable op g.bodies b g.at valid all inverse, refl) there good g.count

  first_step : (op : F.words.Op) (ops : List F.words.Op) (k : ℕ) (m : Machine F.words) (b : F.Board) → Goes_on ops (suc k) → Before (op ∷ ops) k m → Good (begun F.words (Gets k op)) m b → Runs (op ∷ ops) k m b (begun F.words (Gets k op))
  first_step op ops k m b on before good0 =
      let task : Task F.words = Gets k op in
      elim (task_ends task m b before.going good0) [
        | inl g ↦
            let o = F.words.inverse op (shown F answer op g.bodies) in
            let stage_is : set_stage F.words m.stopped k op (F.words.inverse op (F.words.joined (F.words.getting (F.words.key_of op)) g.all)) ≡ set_stage F.words false k op o =
            ap (λ (c : Bool). set_stage F.words c k op (F.words.inverse op (F.words.joined (F.words.getting (F.words.key_of op)) g.all))) before.going
            ∙ ap (λ (l : List (List ℕ)). set_stage F.words false k op (F.words.inverse op (F.words.joined (F.words.getting (F.words.key_of op)) l))) g.all_are in
            after_get op ops k m b g o on before good0.valid refl (g.ends ∙ ap (λ (s : Stage F.words). at_stage s g.next g.at) stage_is) (subst (λ (s : Stage F.words). Good s g.next g.at) stage_is g.good)
        | inr w ↦ sticks op ops k m b (begun F.words task) (GetRefused w.code) (suc (length w.bodies)) w.next w.after (failed_one task m b w) w.ends w.good w.count
      ]

  runs_from : (ops : List F.words.Op) (k : ℕ) → Goes_on ops k
  runs_from [] k m b before good =
      let zero_k : k + 0 ≡ k = omega arith in
      let none : slice_get plan k ≡ None = ap (λ (p : List F.words.Op). slice_get p k) (sym before.same) ∙ ap (slice_get m.plan) (sym zero_k) ∙ before.here 0 in
      let past = past_none plan k none in
      let within = before.within in
      let all : length plan ≡ k + 0 = omega arith in
      record {
        steps = [];
        rest = [];
        whole = refl;
        at = b;
        requests = 0;
        go = (refl, refl);
        phase = Done;
        more = 0;
        ends_in = (refl, refl);
        last_stage = AtEnd;
        last = m;
        board = b;
        ends = refl;
        over = tt;
        phase_is = refl;
        steps_done = subst (λ (n : ℕ). CanUndo F plan start n m.undo (F.records b)) all good.sound;
        valid = good.valid;
        free = good.free;
        count = omega arith;
      }
  runs_from (op ∷ ops) k m b before good = first_step op ops k m b (runs_from ops (suc k)) before good

  -- ---- how it ends

  at_rest : (stage : Stage F.words) (m : Machine F.words) (b : F.Board) (phase : Phase) (n : ℕ) → IsOver stage → phase_at F.words stage ≡ phase → answered_in_all m.counts ≡ n → IsAtRest F answer (at_stage stage m b) phase n
  at_rest AtEnd m b phase n over is count = record { rests = refl; phase_is = is; count = count }
  at_rest (AtHalt k why) m b phase n over is count = record { rests = refl; phase_is = is; count = count }
  at_rest AtStart m b phase n over is count = absurd over
  at_rest (Opened heeded task part) m b phase n over is count = absurd over
  at_rest AtUndone m b phase n over is count = absurd over
  at_rest (AtRefused k code) m b phase n over is count = absurd over

  taken : (stage : Stage F.words) (m : Machine F.words) → IsOver stage → undoes F.words stage (record m { stage = stage; resent = 0 }) ≡ None → ⊥
  taken AtEnd m over e = none-some _ (sym e)
  taken (AtHalt k why) m over e = none-some _ (sym e)
  taken AtStart m over e = over
  taken (Opened heeded task part) m over e = over
  taken AtUndone m over e = over
  taken (AtRefused k code) m over e = over

  abbrev pub IsUndoneAfter : List F.words.Series → ℕ → ℕ → F.Board → Turn F.words → Type 0
  IsUndoneAfter us k n b t =
      let y = clean F answer k (record { turn = t; board = b }) in
      IsAtRest F answer y Undone (n + k) × (F.records y.board ≡ start) × AnswersEach F answer us k b y.board

  -- a halted or ended manager's undo
  revert : (stage : Stage F.words) (m : Machine F.words) (b : F.Board) (k : ℕ) → CanUndo F plan start k m.undo (F.records b) → AllValid F (F.records b) → IsReady F b → Reverts m.undo (record m { stage = stage; resent = 0 }) b
  revert stage m b k can valid free = reverts m.undo (record m { stage = stage; resent = 0 }) b (record { sound = undo_good F laws plan start m.plan m.undo k m.stopped m.undo b can free; valid = valid; free = free })

  undo_ends : (stage : Stage F.words) (m : Machine F.words) (b : F.Board) (n : ℕ) (r : Reverts m.undo (record m { stage = stage; resent = 0 }) b) → answered_in_all m.counts ≡ n
      → IsUndoneAfter m.undo r.requests n b (enters F.words (undo_stage F.words m.undo) (record m { stage = stage; resent = 0 }))
  undo_ends stage m b n r count =
      let answered = r.count in
      let sum : answered_in_all r.last.counts ≡ n + r.requests = answered ∙ ap (λ (x : ℕ). x + r.requests) count in
      subst (λ (y : Moment F). IsAtRest F answer y Undone (n + r.requests) × (F.records y.board ≡ start) × AnswersEach F answer m.undo r.requests b y.board) (sym r.ends)
      (record { rests = refl; phase_is = refl; count = sum }, r.good.sound, r.each)

  undone : (stage : Stage F.words) (m : Machine F.words) (b : F.Board) (n : ℕ) (r : Reverts m.undo (record m { stage = stage; resent = 0 }) b) → IsOver stage → answered_in_all m.counts ≡ n
      → IfSome (undoes F.words stage (record m { stage = stage; resent = 0 })) (IsUndoneAfter m.undo r.requests n b)
  undone AtEnd m b n r over count = undo_ends AtEnd m b n r count
  undone (AtHalt j why) m b n r over count = undo_ends (AtHalt j why) m b n r count
  undone AtStart m b n r over count = absurd over
  undone (Opened heeded task part) m b n r over count = absurd over
  undone AtUndone m b n r over count = absurd over
  undone (AtRefused j code) m b n r over count = absurd over

same_first : (F : Family) (o : Option F.words.Op) → first_stage F.words o ≡ next_stage F.words false 0 o
same_first F None = refl
same_first F (Some op) = refl

pub always_runs_through : (F : Family) → IsFamily F → AreFinite F.words → (answer : F.Board → F.words.Asked → Answered × F.Board) → AnswersByRow F answer → AlwaysRunsThrough F answer
always_runs_through F laws finite answer by_row plan retries board valid free =
    let m = opened F.words plan retries in
    let start = F.records board in
    let good : GoodAt F laws answer by_row plan start (first_stage F.words (slice_get plan 0)) m board =
    record { sound = first_good F laws plan start plan (slice_get plan 0) false [] board refl refl refl; valid = valid; free = free } in
    let same = same_first F (slice_get plan 0) in
    let r = runs_from F laws finite answer by_row plan start plan 0 m board
    (record { going = refl; same = refl; within = omega arith; here = λ n. let none : 0 + n ≡ n = omega arith in ap (slice_get plan) none })
    (subst (λ (s : Stage F.words). GoodAt F laws answer by_row plan start s m board) same good) in
    let begun : Moment F = record { turn = enters F.words (first_stage F.words (slice_get plan 0)) m; board = board } in
    let steps = length r.steps in
    let n = r.requests + r.more in
    let ends : clean F answer n begun ≡ record { turn = enters F.words r.last_stage r.last; board = r.board } =
    ap (λ (s : Stage F.words). clean F answer n (record { turn = enters F.words s m; board = board })) same ∙ r.ends in
    let none : 0 + steps ≡ steps = omega arith in
    let steps_done : CanUndo F plan start steps r.last.undo (F.records r.board) = subst (λ (x : ℕ). CanUndo F plan start x r.last.undo (F.records r.board)) none r.steps_done in
    let count = r.count in
    let sum : answered_in_all r.last.counts ≡ n = omega arith in
    let back = revert F laws finite answer by_row plan start r.last_stage r.last r.board steps steps_done r.valid r.free in
    record {
      steps = r.steps;
      rest = r.rest;
      whole = r.whole;
      at = r.at;
      requests = r.requests;
      go = r.go;
      phase = r.phase;
      more = r.more;
      ends = subst (λ (x : ℕ). EndsIn F answer x r.rest r.at r.phase r.more) none r.ends_in;
      run = subst (λ (x : Moment F). IsAtRest F answer x r.phase n × IsAfter F plan start steps (F.records x.board)) (sym ends)
          (at_rest F laws finite answer by_row plan start r.last_stage r.last r.board r.phase n r.over r.phase_is sum, after_of F plan start steps r.last.undo (F.records r.board) steps_done);
      back = back.requests;
      undo = subst (λ (x : Moment F). IfSome (undo_of F.words x.turn.machine) (λ t. let y = clean F answer back.requests (record { turn = t; board = x.board }) in IsAtRest F answer y Undone (n + back.requests) × (F.records y.board ≡ start) × AnswersEach F answer x.turn.machine.undo back.requests x.board y.board)) (sym ends)
          (undone F laws finite answer by_row plan start r.last_stage r.last r.board n back r.over sum);
      undo_is_taken = subst (λ (x : Moment F). undo_of F.words x.turn.machine ≡ None → ⊥) (sym ends) (taken F laws finite answer by_row plan start r.last_stage r.last r.over);
      undo_each = subst (λ (x : Moment F). length x.turn.machine.undo ≡ steps) (sym ends) (length_of F plan start steps r.last.undo (F.records r.board) steps_done);
      leads_back = subst (λ (x : Moment F). CanUndo F plan start steps x.turn.machine.undo (F.records x.board)) (sym ends) steps_done;
    }
