-- Periods, one after another.
use Rattle.std.proofs.Common.{◌≡◌, ◌≤◌, ◌+◌, ◌*◌, ◌++◌, ◌∙◌, refl, sym, ap, subst, ℕ, Bool, true, false, List, [], ◌∷◌, Option, length, arith}
use Rattle.std.specs.List.{flat_map}
use Rattle.std.proofs.lemmas.List.{append-nil, append_assoc}
use Rattle.std.proofs.lemmas.List.Sums.{sum_by_push}
use Rattle.cfg_records.specs.declared.board_file.BoardFile.{BoardFile}
use Rattle.bmc_board.specs.State.{State, state_of}
use Rattle.wire_links.specs.declared.link.Link.{Ghosts}
use Rattle.bmc_shared.specs.declared.event.Event.{Event}
use Rattle.bmc_shared.specs.declared.event.Call.{Call}
use Rattle.bmc_shared.specs.Replay.{calls_of}
use Rattle.bmc_ports.specs.declared.agenda.Agenda.{Agenda}
use Rattle.bmc_ports.specs.declared.lane.Lanes.{Lanes}
use Rattle.bmc_ports.specs.declared.timetable.Timed.{Timed}
use Rattle.bmc_ports.specs.Timing.{GainsCalls}
use Rattle.bmc_ports.proofs.Rounds.{turns_left}
use Rattle.bmc_ports.proofs.Timing.{gains_both, gains_none}
use Rattle.app_serve.specs.declared.periods.PeriodState.{PeriodState}
use Rattle.app_serve.specs.Served.{HistoriesLead, IsCount, most_events}
use Rattle.app_serve.specs.Periods.{IsPeriod, PeriodsFollow, RunsTo, GoesToNext}

-- a history's events beside those of so many others
pub more_events : (before more periods after : ℕ) → after ≡ before + more → more ≤ most_events → before ≤ most_events * periods → after ≤ most_events * (periods + 1)
more_events before more periods after is few within = omega (arith, is, few, within)

-- what one history more has of a seat stands behind what the others have
calls_more : (seat : ℕ) (histories : List (List Event)) (history : List Event) → flat_map (calls_of seat) (histories ++ history ∷ []) ≡ flat_map (calls_of seat) histories ++ calls_of seat history
calls_more seat [] history = append-nil (calls_of seat history)
calls_more seat (first ∷ later) history =
    ap (λ (calls : List Call). calls_of seat first ++ calls) (calls_more seat later history)
    ∙ sym (append_assoc (calls_of seat first) (flat_map (calls_of seat) later) (calls_of seat history))

-- what happened stands behind what happened before
gains_behind : (repeats : Bool) (list : List Timed) (from to : ℕ) (held calls : List Call) → GainsCalls repeats list from to [] calls → GainsCalls repeats list from to held (held ++ calls)
gains_behind repeats list from to held calls gains = record {
  gained = gains.gained;
  calls = ap (λ (later : List Call). held ++ later) gains.calls;
  far = gains.far;
  happened = gains.happened;
}

-- the events of a history more
plays_more : (repeats : Bool) (list : List Timed) (from mid to : ℕ) (histories : List (List Event)) (history : List Event)
    → GainsCalls repeats list from mid [] (flat_map (calls_of 2) histories)
    → GainsCalls repeats list mid to [] (calls_of 2 history) → GainsCalls repeats list from to [] (flat_map (calls_of 2) (histories ++ history ∷ []))
plays_more repeats list from mid to histories history begins then =
    let held : List Call = flat_map (calls_of 2) histories in
    let calls : List Call = calls_of 2 history in
    subst (λ (all : List Call). GainsCalls repeats list from to [] all) (sym (calls_more 2 histories history))
    (gains_both repeats list from mid to [] held (held ++ calls) begins (gains_behind repeats list mid to held calls then))

-- one history is as many as there are to be, and by periods so are any
pub count_one : (periods : Bool) → IsCount periods 1
count_one true = tt
count_one false = refl

pub count_any : (periods : Bool) (count : ℕ) → periods ≡ true → IsCount periods count
count_any true count is = tt
count_any false count is = cc is

module _ {A B : Type 0} (one : Ghosts A) (two : Ghosts B) (periods : Bool) (quiet : Option ℕ) where
  -- a period more
  pub follow_more : (setup : BoardFile) (repeats : Bool) (list : List Timed) (opening mid ending : State) (before lanes after : Lanes A B) (from place to : ℕ) (histories : List (List Event)) (history : List Event)
      → PeriodsFollow one two periods quiet setup repeats list opening before from histories mid lanes place
      → IsPeriod one two periods quiet setup mid ending lanes after repeats list place to history
      → PeriodsFollow one two periods quiet setup repeats list opening before from (histories ++ history ∷ []) ending after to
  follow_more setup repeats list opening mid ending before lanes after from place to [] history (same, lent, at) period = (
    ending,
    after,
    to,
    subst (λ (s : State). IsPeriod one two periods quiet setup s ending before after repeats list from to history) (sym same)
        (subst (λ (l : Lanes A B). IsPeriod one two periods quiet setup mid ending l after repeats list from to history) (sym lent)
        (subst (λ (n : ℕ). IsPeriod one two periods quiet setup mid ending lanes after repeats list n to history) (sym at) period)),
    (refl, refl, refl),
  )
  follow_more setup repeats list opening mid ending before lanes after from place to (first ∷ later) history (state, next, met, is, follow) period =
      (state, next, met, is, follow_more setup repeats list state mid ending next lanes after met place to later history follow period)

  -- the first period
  pub runs_one : (course next : PeriodState A B) → course.events ≡ 0 → GoesToNext one two periods quiet course next
      → RunsTo one two periods quiet course.board.setup (state_of course.board) course.lanes course.agenda next
  runs_one course next none goes = record {
    histories = goes.history ∷ [];
    count = count_one periods;
    follow = (state_of next.board, next.lanes, next.agenda.table.next, goes.period, (refl, refl, refl));
    plays = plays_more course.agenda.repeats course.agenda.table.list.now course.agenda.table.next course.agenda.table.next next.agenda.table.next [] goes.history
        (gains_none course.agenda.repeats course.agenda.table.list.now course.agenda.table.next []) goes.period.third;
    events = goes.events ∙ ap (λ (n : ℕ). n + length goes.history) none ∙ sym (sum_by_push length [] goes.history);
    setup_is = goes.setup_is;
    list_is = goes.list_is;
    repeats_is = goes.repeats_is;
  }

  -- the same, where what it begins with is the same
  pub runs_from : (setup other : BoardFile) (opening first : State) (before lanes : Lanes A B) (agenda that : Agenda) (course : PeriodState A B)
      → setup ≡ other → opening ≡ first → before ≡ lanes → agenda ≡ that
      → RunsTo one two periods quiet setup opening before agenda course → RunsTo one two periods quiet other first lanes that course
  runs_from setup other opening first before lanes agenda that course is begins lent same runs =
      subst (λ (s : BoardFile). RunsTo one two periods quiet s first lanes that course) is
      (subst (λ (o : State). RunsTo one two periods quiet setup o lanes that course) begins
      (subst (λ (l : Lanes A B). RunsTo one two periods quiet setup opening l that course) lent
      (subst (λ (a : Agenda). RunsTo one two periods quiet setup opening before a course) same runs)))

  -- the periods so far, and one more
  pub runs_more : (setup : BoardFile) (opening : State) (before : Lanes A B) (agenda : Agenda) (course next : PeriodState A B) → periods ≡ true
      → RunsTo one two periods quiet setup opening before agenda course → GoesToNext one two periods quiet course next
      → RunsTo one two periods quiet setup opening before agenda next
  runs_more setup opening before agenda course next several runs goes =
      let mid : State = state_of course.board in
      let ending : State = state_of next.board in
      let from : ℕ = agenda.table.next in
      let place : ℕ = course.agenda.table.next in
      let to : ℕ = next.agenda.table.next in
      let list : List Timed = agenda.table.list.now in
      let period : IsPeriod one two periods quiet setup mid ending course.lanes next.lanes agenda.repeats list place to goes.history =
      subst (λ (r : Bool). IsPeriod one two periods quiet setup mid ending course.lanes next.lanes r list place to goes.history) runs.repeats_is
      (subst (λ (l : List Timed). IsPeriod one two periods quiet setup mid ending course.lanes next.lanes course.agenda.repeats l place to goes.history) runs.list_is
      (subst (λ (s : BoardFile). IsPeriod one two periods quiet s mid ending course.lanes next.lanes course.agenda.repeats course.agenda.table.list.now place to goes.history) runs.setup_is goes.period)) in record {
        histories = runs.histories ++ goes.history ∷ [];
        count = count_any periods (length (runs.histories ++ goes.history ∷ [])) several;
        follow = follow_more setup agenda.repeats list opening mid ending before course.lanes next.lanes from place to runs.histories goes.history runs.follow period;
        plays = plays_more agenda.repeats list from place to runs.histories goes.history runs.plays period.third;
        events = goes.events ∙ ap (λ (n : ℕ). n + length goes.history) runs.events ∙ sym (sum_by_push length runs.histories goes.history);
        setup_is = goes.setup_is ∙ runs.setup_is;
        list_is = goes.list_is ∙ runs.list_is;
        repeats_is = goes.repeats_is ∙ runs.repeats_is;
      }

  -- periods lead from state to state
  pub follow_leads : (setup : BoardFile) (repeats : Bool) (list : List Timed) (opening ending : State) (before after : Lanes A B) (from to : ℕ) (histories : List (List Event))
      → PeriodsFollow one two periods quiet setup repeats list opening before from histories ending after to → HistoriesLead setup opening histories ending
  follow_leads setup repeats list opening ending before after from to [] (same, lent, at) = same
  follow_leads setup repeats list opening ending before after from to (history ∷ later) (mid, lanes, place, period, follow) =
      (mid, period.few, period.replays, follow_leads setup repeats list mid ending lanes after place to later follow)

-- the first period leaves no more turns than there were
pub turns_one : {A B : Type 0} (one : Ghosts A) (two : Ghosts B) (periods : Bool) (quiet : Option ℕ) (course next : PeriodState A B) (lanes : Lanes A B) → course.lanes ≡ lanes
    → GoesToNext one two periods quiet course next → turns_left next.lanes + 0 ≤ turns_left lanes
turns_one one two periods quiet course next lanes same goes =
    let first = goes.period.first.makes.turns in
    let second = goes.period.second.makes.turns in
    let within : turns_left next.lanes + 0 ≤ turns_left course.lanes = omega (arith, first, second) in
    subst (λ (l : Lanes _ _). turns_left next.lanes + 0 ≤ turns_left l) same within

-- and has no more events than there is room for
pub events_one : {A B : Type 0} (one : Ghosts A) (two : Ghosts B) (periods : Bool) (quiet : Option ℕ) (course next : PeriodState A B) → course.events ≡ 0
    → GoesToNext one two periods quiet course next → next.events ≤ 4096
events_one one two periods quiet course next none goes =
    let is = goes.events in
    let few = goes.period.few in omega (arith, none, is, few)
