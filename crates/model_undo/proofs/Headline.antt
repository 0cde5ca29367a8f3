-- A plan and its undo at every moment, over any family and any two lines.
use Rattle.std.proofs.Common.{◌≡◌, ℕ, ◌+◌, Bool, true, false, List, [], ◌∷◌, ◌++◌, length, Option, Some, None, refl, sym, ◌∙◌, ap, subst, arith, ◌⊎◌, inl, inr}
use Rattle.std.specs.Prelude.{slice_get, IfSome, nat_lt}
use Rattle.std.proofs.lemmas.Bool.{false≢true, cond_both}
use Rattle.std.proofs.lemmas.Option.{none-some, same_Some}
use Rattle.two_wire.specs.declared.Bus.{Bus}
use Rattle.two_wire.specs.declared.Bus.TheVariants.{Ipmb, Smbus}
use Rattle.model_bus.specs.BusState.{BusState}
use Rattle.model_bus.specs.Start.{NothingUnderWay}
use Rattle.model_bus.specs.Answered.{Answered}
use Rattle.model_undo.specs.Words.{is_busy}
use Rattle.model_undo.specs.Family.{Family, AllValid}
use Rattle.model_undo.specs.IsFamily.{IsFamily}
use Rattle.model_undo.specs.declared.phase.Why.TheVariants.{Stop}
use Rattle.model_undo.specs.declared.phase.Phase.{Phase}
use Rattle.model_undo.specs.declared.phase.Phase.TheVariants.{Halted, Undone}
use Rattle.model_undo.specs.Plan.{PhaseMeans, HaltMeans}
use Rattle.model_undo.specs.Machine.{count_of, Gets, Sets, Undoes, Stage, AtStart, Opened, AtEnd, AtHalt, AtUndone, AtRefused, Machine, Turn, phase_at, phase_of, bus_at, sending, starts, undoes, quiets, agains, stops, replies, takes, reply_of, same_bus}
use Rattle.model_undo.specs.Restart.{restarts}
use Rattle.model_undo.specs.Wires.{number_of, Wires}
use Rattle.model_undo.specs.Joined.{IsClosed, Orderly}
use Rattle.model_undo.specs.Line.{Line}
use Rattle.model_undo.specs.World as world
use Rattle.model_undo.specs.declared.call.Call.TheVariants.{Start, Quiet, Stop as StopCall, Again, Undo}
use Rattle.model_undo.specs.World.{States, World, Happening, Calls, Resume, Restart, ToManager, OnBus, OnBench, happens, run, AllMay, opening}
use Rattle.model_undo.specs.Headline.{MakesStop, AnyMakesStop, ShowsSame, PartsShowSame, IsStart, AlwaysStands, UndoneForGood, StopsOnlyIfTold}
use Rattle.model_undo.proofs.LineLaws.{IsLine}
use Rattle.model_undo.proofs.Joined.{joined_stands, joined_halts}
use Rattle.model_undo.proofs.World.{WorldHolds, run_holds}

-- ---- phases

abbrev IsUndone : Phase → Type 0
IsUndone Undone = Unit {0}
IsUndone _ = ⊥

undone_stage : (F : Family) (stage : Stage F.words) → IsUndone (phase_at F.words stage) → stage ≡ AtUndone
undone_stage F AtUndone h = refl
undone_stage F AtStart h = absurd h
undone_stage F (Opened true (Gets k op) part) h = absurd h
undone_stage F (Opened true (Sets k op back) part) h = absurd h
undone_stage F (Opened true (Undoes u us) part) h = absurd h
undone_stage F (Opened false task part) h = absurd h
undone_stage F AtEnd h = absurd h
undone_stage F (AtHalt k why) h = absurd h
undone_stage F (AtRefused k code) h = absurd h

module _ (F : Family) (L : Bus → Line) (W : Wires F.words) where
  -- a prefix of what may happen may happen
  pub may_prefix : (events later : List (Happening F L)) (w : World F L) → AllMay F L W (events ++ later) w → AllMay F L W events w
  may_prefix [] later w may = tt
  may_prefix (e ∷ es) later w may = (may.0, may_prefix es later (happens F L W w e) may.1)

  pub run_on : (events later : List (Happening F L)) (w : World F L) → run F L W (events ++ later) w ≡ run F L W later (run F L W events w)
  run_on [] later w = refl
  run_on (e ∷ es) later w = run_on es later (happens F L W w e)

  -- ---- what is undone stays undone

  abbrev IsAtUndone : World F L → Type 0
  IsAtUndone w = w.machine.stage ≡ AtUndone

  undone_once : (w : World F L) (e : Happening F L) → IsAtUndone w → IsAtUndone (happens F L W w e)
  undone_once w (Calls Start) at = subst (λ (s : Stage F.words). IsAtUndone (world.opens F L W (starts F.words s w.machine) w)) (sym at) at
  undone_once w (Calls Quiet) at = subst (λ (s : Stage F.words). IsAtUndone (world.repeats F L W (quiets F.words s w.machine) w)) (sym at) at
  undone_once w (Calls StopCall) at = subst (λ (s : Stage F.words). IsAtUndone (world.opens F L W (stops F.words s w.machine) w)) (sym at) at
  undone_once w (Calls Again) at = subst (λ (s : Stage F.words). IsAtUndone (world.repeats F L W (agains F.words s w.machine) w)) (sym at) at
  undone_once w (Calls Undo) at = subst (λ (s : Stage F.words). IsAtUndone (world.opens F L W (undoes F.words s w.machine) w)) (sym at) at
  undone_once w (Resume retries) at = subst (λ (s : Stage F.words). IsAtUndone (world.resumes F L W retries s w)) (sym at) at
  undone_once w Restart at = subst (λ (s : Stage F.words). (restarts F.words s w.machine).stage ≡ AtUndone) (sym at) at
  undone_once w (ToManager bus e) at = subst (λ (s : Stage F.words). IsAtUndone (world.returns F L W bus e s w)) (sym at) at
  undone_once w (OnBus bus e after) at = at
  undone_once w (OnBench after) at = at

  undone_always : (events : List (Happening F L)) (w : World F L) → IsAtUndone w → IsAtUndone (run F L W events w)
  undone_always [] w at = at
  undone_always (e ∷ es) w at = undone_always es (happens F L W w e) (undone_once w e at)

  -- ---- only a stop makes a plan stop

  abbrev SameStop : World F L → World F L → Type 0
  SameStop w new = new.machine.stopped ≡ w.machine.stopped

  start_stop : (stage : Stage F.words) (w : World F L) → SameStop w (world.opens F L W (starts F.words stage w.machine) w)
  start_stop AtStart w = refl
  start_stop (Opened heeded task part) w = refl
  start_stop AtEnd w = refl
  start_stop (AtHalt k why) w = refl
  start_stop AtUndone w = refl
  start_stop (AtRefused k code) w = refl

  undo_stop : (stage : Stage F.words) (w : World F L) → SameStop w (world.opens F L W (undoes F.words stage w.machine) w)
  undo_stop AtStart w = refl
  undo_stop (Opened heeded task part) w = refl
  undo_stop AtEnd w = refl
  undo_stop (AtHalt k why) w = refl
  undo_stop AtUndone w = refl
  undo_stop (AtRefused k code) w = refl

  again_stop : (stage : Stage F.words) (w : World F L) → SameStop w (world.repeats F L W (agains F.words stage w.machine) w)
  again_stop AtStart w = refl
  again_stop (Opened true task part) w = refl
  again_stop (Opened false task part) w = refl
  again_stop AtEnd w = refl
  again_stop (AtHalt k why) w = refl
  again_stop AtUndone w = refl
  again_stop (AtRefused k code) w = refl

  quiet_stop : (stage : Stage F.words) (w : World F L) → SameStop w (world.repeats F L W (quiets F.words stage w.machine) w)
  quiet_stop (Opened true task part) w =
      cond_both (nat_lt w.machine.resent w.machine.retries)
      (Some (record { machine = record (w.machine) { resent = w.machine.resent + 1 }; sends = Some (sending F.words part w.machine.counts) }))
      (Some (record { machine = record (w.machine) { stage = Opened false task part }; sends = None }))
      (λ o. SameStop w (world.repeats F L W o w)) (λ _. refl) (λ _. refl)
  quiet_stop (Opened false task part) w = refl
  quiet_stop AtStart w = refl
  quiet_stop AtEnd w = refl
  quiet_stop (AtHalt k why) w = refl
  quiet_stop AtUndone w = refl
  quiet_stop (AtRefused k code) w = refl

  reply_stop : (stage : Stage F.words) (a : Answered) (m : Machine F.words) → IfSome (replies F.words a stage m) (λ t. t.machine.stopped ≡ m.stopped)
  reply_stop (Opened true task part) a m = cond_both (is_busy a.code) None (Some (takes F.words a task part m)) (λ o. IfSome o (λ t. t.machine.stopped ≡ m.stopped)) (λ _. tt) (λ _. refl)
  reply_stop (Opened false task part) a m = tt
  reply_stop AtStart a m = tt
  reply_stop AtEnd a m = tt
  reply_stop (AtHalt k why) a m = tt
  reply_stop AtUndone a m = tt
  reply_stop (AtRefused k code) a m = tt

  answered_stop : (bus : Bus) (e : (L bus).Event) (o : Option (Turn F.words)) (w : World F L) → IfSome o (λ t. t.machine.stopped ≡ w.machine.stopped) → SameStop w (world.answered F L W bus e o w)
  answered_stop bus e None w h = refl
  answered_stop bus e (Some t) w h = h

  brought_stop : (bus : Bus) (e : (L bus).Event) (o : Option (List ℕ)) (w : World F L) → SameStop w (world.brought F L W bus e o w)
  brought_stop bus e None w = refl
  brought_stop bus e (Some reply) w = answered_stop bus e (reply_of F.words (W.answered_from bus reply) w.machine) w (reply_stop w.machine.stage (W.answered_from bus reply) w.machine)

  looks_stop : (bus : Bus) (e : (L bus).Event) (b : Bool) (w : World F L) → SameStop w (world.looks F L W bus e b w)
  looks_stop bus e false w = refl
  looks_stop bus e true w = brought_stop bus e ((L bus).brings (w.on bus) e) w

  returns_stop : (bus : Bus) (e : (L bus).Event) (stage : Stage F.words) (w : World F L) → SameStop w (world.returns F L W bus e stage w)
  returns_stop bus e (Opened true task part) w = looks_stop bus e (same_bus bus (bus_at F.words part)) w
  returns_stop bus e (Opened false task part) w = refl
  returns_stop bus e AtStart w = refl
  returns_stop bus e AtEnd w = refl
  returns_stop bus e (AtHalt k why) w = refl
  returns_stop bus e AtUndone w = refl
  returns_stop bus e (AtRefused k code) w = refl

  one_stop : (w : World F L) (e : Happening F L) → SameStop w (happens F L W w e) ⊎ MakesStop F L e
  one_stop w (Calls Start) = inl (start_stop w.machine.stage w)
  one_stop w (Calls Quiet) = inl (quiet_stop w.machine.stage w)
  one_stop w (Calls StopCall) = inr tt
  one_stop w (Calls Again) = inl (again_stop w.machine.stage w)
  one_stop w (Calls Undo) = inl (undo_stop w.machine.stage w)
  one_stop w (Resume retries) = inr tt
  one_stop w Restart = inr tt
  one_stop w (ToManager bus e) = inl (returns_stop bus e w.machine.stage w)
  one_stop w (OnBus bus e after) = inl refl
  one_stop w (OnBench after) = inl refl

  any_stop : (events : List (Happening F L)) (w : World F L) → w.machine.stopped ≡ false → (run F L W events w).machine.stopped ≡ true → AnyMakesStop F L events
  any_stop [] w before after = absurd (false≢true (sym before ∙ after))
  any_stop (e ∷ es) w before after =
      elim (one_stop w e) [
        | inl same ↦ inr (any_stop es (happens F L W w e) (same ∙ before) after)
        | inr told ↦ inl told
      ]

-- ---- what Gets show

module _ (F : Family) (laws : IsFamily F) where
  -- two Gets where the records are the same
  pub shows_same : (b c : F.Board) → AllValid F (F.records b) → F.records c ≡ F.records b → ShowsSame F b c
  shows_same b c valid same key one other is_get is_get_too shown again b' c' row row_again =
      let alike : again.code ≡ shown.code = laws.gets_agree b b' c c' one other key shown again is_get is_get_too same row row_again in (
        alike,
        λ was_shown. laws.gets_steady b b' c c' one other key shown again is_get is_get_too same valid row row_again was_shown (alike ∙ was_shown),
      )

  -- two Gets of several requests
  pub parts_show_same : (b c : F.Board) → AllValid F (F.records b) → F.records c ≡ F.records b → PartsShowSame F b c
  parts_show_same b c valid same key shown again was_shown is_shown =
      let get = F.words.getting key in
      let before = laws.parts_show (F.records b) key shown valid was_shown in
      let after = laws.parts_show (F.records c) key again (subst (AllValid F) (sym same) valid) is_shown in
      let found : F.get (F.records b) key ≡ Some after.value = ap (λ (r : F.Records). F.get r key) (sym same) ∙ after.found in
      let one_value : after.value ≡ before.value = same_Some _ _ (sym found ∙ before.found) in
      laws.kinds.steady key before.value (F.words.joined get again) (F.words.joined get shown) (valid key before.value before.found)
      (subst (λ (v : F.Value). F.Shows key v (F.words.joined get again)) one_value after.shows) before.shows

module _ (F : Family) (laws : IsFamily F) (L : Bus → Line) (lines : (bus : Bus) → IsLine (L bus)) (W : Wires F.words) where
  abbrev first : Bus → ℕ
  first bus = 0

  abbrev Holds : List F.words.Op → F.Records → World F L → Type 0
  Holds plan start w = WorldHolds F laws L lines W first plan start w

  none_begun : (bus : Bus) (s : BusState) → NothingUnderWay s → Orderly F W first bus s
  none_begun bus s none =
      let b : length s.begun ≡ 0 = ap (λ (x : List (List ℕ)). length x) none.begun in
      let c : length s.carried ≡ 0 = ap (λ x. length x) none.carried in
      let t : length s.taken ≡ 0 = ap (λ (x : List (List ℕ)). length x) none.taken in
      record {
        answered = omega arith;
        below = omega arith;
        one_open = omega arith;
        written = λ n bytes e. absurd (none-some bytes (ap (λ (x : List (List ℕ)). slice_get x n) (sym none.begun) ∙ e));
        replied = λ n k e. absurd (none-some k (ap (λ x. slice_get x n) (sym none.carried) ∙ e));
      }

  closed_first : (s : BusState) → NothingUnderWay s → IsClosed s
  closed_first s none = let b : length s.begun ≡ 0 = ap (λ (x : List (List ℕ)). length x) none.begun in omega arith

  pub opening_holds : (plan : List F.words.Op) (retries : ℕ) (on : States L) (board : F.Board) → IsStart F L W on board → Holds plan (F.records board) (opening F L plan retries on board)
  opening_holds plan retries on board start =
      let none : (bus : Bus) → NothingUnderWay ((L bus).requests (on bus)) = (λ bus. ((lines bus).starts (on bus) (start.on_bus bus)).1) in
      record {
        joined = record {
          orderly = λ bus. none_begun bus ((L bus).requests (on bus)) (none bus);
          are_open = λ bus. closed_first ((L bus).requests (on bus)) (none bus);
          sound = (refl, refl);
          valid = start.valid;
          free = start.ready;
        };
        counted = λ bus. counts bus ((L bus).requests (on bus)) (none bus);
        holds = λ bus. ((lines bus).starts (on bus) (start.on_bus bus)).0;
      }
    where
      counts : (bus : Bus) (s : BusState) → NothingUnderWay s → number_of bus (0 + length s.taken) ≡ number_of bus (count_of bus (record { ipmb = 0; smbus = 0 }))
      counts Ipmb s none = ap (λ (x : List (List ℕ)). number_of Ipmb (0 + length x)) none.taken
      counts Smbus s none = ap (λ (x : List (List ℕ)). number_of Smbus (0 + length x)) none.taken

  holds_after : (plan : List F.words.Op) (retries : ℕ) (on : States L) (board : F.Board) → IsStart F L W on board → (events : List (Happening F L)) → AllMay F L W events (opening F L plan retries on board)
      → Holds plan (F.records board) (run F L W events (opening F L plan retries on board))
  holds_after plan retries on board start events may =
      run_holds F laws L lines W first plan (F.records board) events (opening F L plan retries on board) (opening_holds plan retries on board start) may

  pub stands_at : (plan : List F.words.Op) (start : F.Records) (w : World F L) → Holds plan start w → PhaseMeans F plan start (phase_of F.words w.machine) (F.records w.board)
  stands_at plan start w h = joined_stands F laws W first plan start w.machine.plan w.machine.stage w.machine.stopped w.machine.undo (λ bus. (L bus).requests (w.on bus)) w.board h.joined

  pub halts_at : (plan : List F.words.Op) (start : F.Records) (w : World F L) → Holds plan start w → HaltMeans F w.machine.stopped plan (phase_of F.words w.machine) (F.records w.board)
  halts_at plan start w h = joined_halts F laws W first plan start w.machine.plan w.machine.stage w.machine.stopped w.machine.undo (λ bus. (L bus).requests (w.on bus)) w.board h.joined

  pub always_stands : AlwaysStands F L W
  always_stands plan retries on board start events later may =
      let w = run F L W events (opening F L plan retries on board) in
      let h = holds_after plan retries on board start events (may_prefix F L W events later (opening F L plan retries on board) may) in
      (stands_at plan (F.records board) w h, halts_at plan (F.records board) w h)

  pub undone_for_good : UndoneForGood F L W
  undone_for_good plan retries on board start events later may undone =
      let w0 = opening F L plan retries on board in
      let at = undone_stage F (run F L W events w0).machine.stage (subst IsUndone (sym undone) tt) in
      let ends = undone_always F L W later (run F L W events w0) at in
      let still : (run F L W (events ++ later) w0).machine.stage ≡ AtUndone = ap (λ (w : World F L). w.machine.stage) (run_on F L W events later w0) ∙ ends in
      let h = holds_after plan retries on board start (events ++ later) may in
      let stands = stands_at plan (F.records board) (run F L W (events ++ later) w0) h in
      let same : F.records (run F L W (events ++ later) w0).board ≡ F.records board =
      subst (λ (s : Stage F.words). PhaseMeans F plan (F.records board) (phase_at F.words s) (F.records (run F L W (events ++ later) w0).board)) still stands in
      let w = run F L W (events ++ later) w0 in
      (same, shows_same F laws board w.board start.valid same, parts_show_same F laws board w.board start.valid same)

  pub stops_only_if_told : StopsOnlyIfTold F L W
  stops_only_if_told plan retries k on board start events may halted =
      let h = holds_after plan retries on board start events may in
      let w = run F L W events (opening F L plan retries on board) in
      let told : HaltMeans F w.machine.stopped plan (Halted k Stop) (F.records w.board) =
      subst (λ (p : Phase). HaltMeans F w.machine.stopped plan p (F.records w.board)) halted (halts_at plan (F.records board) w h) in
      any_stop F L W events (opening F L plan retries on board) refl told
