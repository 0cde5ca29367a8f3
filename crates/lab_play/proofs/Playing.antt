-- What a play tells, of the lab after its events.
use Rattle.std.proofs.Common.{◌≡◌, ◌≤◌, ℕ, ◌-◌, List, length, take, Option, Some, None, Result, Ok, Err, refl, sym, ◌∙◌, ap, subst}
use Rattle.cfg_records.specs.declared.board_file.BoardFile.{BoardFile}
use Rattle.record_base.specs.declared.op.Op.{Op}
use Rattle.cfg_records.specs.Boards.{pairs_of}
use Rattle.cfg_records.specs.Records.{KeysDiffer, records_of}
use Rattle.model_lab.specs.Lab.{Lab as LabModel, opening}
use Rattle.text_lines.specs.declared.event.Event.{Event}
use Rattle.model_lab.specs.declared.fault.Fault.{Fault}
use Rattle.model_lab.specs.Meaning.{lab_names}
use Rattle.model_lab.specs.Played.{plans, Told, Whole, Stops, told_of, after, IsPlayed}
use Rattle.model_headline.proofs.Plays.{plays_stand}
use Rattle.model_headline.proofs.Promised.{keeps_promise}
use Rattle.model_headline.proofs.Stated.{plays_are_stated}
use Rattle.model_headline.proofs.CleanPlays.{ends_clean}
use Rattle.lab_run.specs.declared.lab_state.Lab.{Lab}
use Rattle.lab_play.specs.declared.played.Played.{Played}
use Rattle.lab_play.specs.declared.played.LabFault.TheVariants as fault
use Rattle.lab_play.specs.declared.run.Stopped.{Stopped}
use Rattle.lab_run.specs.Shown.{Represents}
use Rattle.lab_play.specs.Runs.{TakesEvents, StopsAt, RunsEvents}
use Rattle.model_headline.specs.Plays.{TellsPremise}
use Rattle.lab_play.specs.Watched.{WatchesRun}
use Rattle.lab_play.specs.Ends.{TellsPlay, BeginsPlay, PlayEnd, PlayResult, given}

module _ (file : BoardFile) (steps : List Op) (retries : ℕ) where
  -- the lab as it begins
  abbrev first : LabModel plans
  first = opening plans file lab_names steps retries

  -- what is told of the lab after events
  abbrev told_after : List Event → Told
  told_after events = told_of file first (after file events first)

  tells : (events : List Event) (played : Played) → played.start.items ≡ pairs_of file → KeysDiffer (pairs_of file)
      → Represents file played.lab.value (after file events first) → TellsPlay played (told_after events)
  tells events played start once shown = record {
    file = file;
    first = first;
    now = after file events first;
    shown = shown;
    once = subst KeysDiffer (sym start) once;
    start = ap records_of (sym start);
    is = refl;
  }

  -- all events were taken
  ends_whole : (events : List Event) (played : Played) (old : Lab) → played.start.items ≡ pairs_of file → KeysDiffer (pairs_of file)
      → Represents file old first → length steps ≤ 256 → TakesEvents events old played.lab.value → TellsPremise file events first played.watch.broken
      → PlayEnd file steps retries events (Ok played)
  ends_whole events played old start once shows few takes told =
      let at = takes file first shows in
      let is : IsPlayed file steps retries events (Whole (told_after events)) = (at.0, refl) in
      record {
        ending = Whole (told_after events);
        is = tells events played start once at.1;
        played = is;
        premise = told;
        stands = (plays_stand file steps retries events (Whole (told_after events)) is).0;
        unbroken = λ none. (plays_stand file steps retries events (Whole (told_after events)) is).0 (subst (TellsPremise file events first) none told);
        promise = λ none. keeps_promise file steps retries events (Whole (told_after events)) is (subst (TellsPremise file events first) none told);
        stated = λ none. plays_are_stated file steps retries events (Whole (told_after events)) is (subst (TellsPremise file events first) none told);
        clean = ends_clean file steps retries few events (Whole (told_after events)) is;
      }

  -- the event of a place has a fault
  ends_at : (events : List Event) (played : Played) (old : Lab) (why : Fault) (place : ℕ) → played.start.items ≡ pairs_of file → KeysDiffer (pairs_of file)
      → Represents file old first → length steps ≤ 256 → StopsAt events old played.lab.value (record { place = place; fault = why })
      → TellsPremise file (take (place - 1) events) first played.watch.broken → PlayEnd file steps retries events (Err (fault.Event why place played))
  ends_at events played old why place start once shows few stops premise =
      let at = stops.left file first shows in
      let told = told_after stops.before in
      let is : IsPlayed file steps retries events (Stops why place told) =
      (stops.before, stops.rest, stops.event, stops.all, stops.place, at.0, stops.refuses file first shows, refl) in
      record {
        ending = Stops why place told;
        is = (refl, refl, tells stops.before played start once at.1);
        played = is;
        premise = premise;
        stands = (plays_stand file steps retries events (Stops why place told) is).0;
        unbroken = λ none. (plays_stand file steps retries events (Stops why place told) is).0
            (subst (TellsPremise file (take (place - 1) events) first) none premise);
        promise = λ none. keeps_promise file steps retries events (Stops why place told) is
            (subst (TellsPremise file (take (place - 1) events) first) none premise);
        stated = λ none. plays_are_stated file steps retries events (Stops why place told) is
            (subst (TellsPremise file (take (place - 1) events) first) none premise);
        clean = ends_clean file steps retries few events (Stops why place told) is;
      }

  -- ---- what is given of a play, as its events ended

  pub plays_given : {E : Type 0} (events : List Event) (played new : Played) (old : Lab) (ended : Result (Option Stopped) E) → BeginsPlay file steps retries played
      → old ≡ played.lab.value → new.start.items ≡ played.start.items → RunsEvents events old ended new.lab.value → WatchesRun events old played.watch ended new.watch
      → PlayResult file steps retries events (given new ended)
  plays_given events played new old ended begins was same = by ended
    where
      shows : Represents file old first
      shows = subst (λ (lab : Lab). Represents file lab first) (sym was) begins.shows

      start : new.start.items ≡ pairs_of file
      start = same ∙ begins.start

      by : {E : Type 0} (ended : Result (Option Stopped) E) → RunsEvents events old ended new.lab.value → WatchesRun events old played.watch ended new.watch
          → PlayResult file steps retries events (given new ended)
      by (Ok None) takes watched = ends_whole events new old start begins.once shows begins.few takes (watched file first shows begins.watches).1
      by (Ok (Some stopped)) stops watched =
          ends_at events new old stopped.fault stopped.place start begins.once shows begins.few stops (watched file first shows begins.watches).1
      by (Err memory) stops watched = tt
