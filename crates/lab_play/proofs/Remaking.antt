-- What a play tells in which the manager is made again, of the lab after its turns.
use Rattle.std.proofs.Common.{◌≡◌, ℕ, ◌-◌, List, ◌∷◌, length, take, Option, Some, None, Result, Ok, Err, refl, sym, ◌∙◌, ap, subst, arith}
use Rattle.std.proofs.Math.Seq.{take-append_seam, take-length}
use Rattle.cfg_records.specs.declared.board_file.BoardFile.{BoardFile}
use Rattle.record_base.specs.declared.op.Op.{Op}
use Rattle.cfg_records.specs.Boards.{pairs_of}
use Rattle.cfg_records.specs.Records.{KeysDiffer, records_of}
use Rattle.model_lab.specs.Lab.{Lab as LabModel, opening}
use Rattle.text_lines.specs.declared.event.Event.{Event}
use Rattle.model_lab.specs.declared.fault.Fault.{Fault}
use Rattle.model_lab.specs.Meaning.{lab_names}
use Rattle.model_lab.specs.Played.{plans, Told, Whole, Stops, told_of}
use Rattle.lab_run.specs.declared.lab_state.Lab.{Lab}
use Rattle.lab_run.specs.Shown.{Represents}
use Rattle.lab_play.specs.declared.played.Played.{Played}
use Rattle.lab_play.specs.declared.played.LabFault.TheVariants as fault
use Rattle.lab_play.specs.declared.run.Stopped.{Stopped}
use Rattle.std.specs.List.{AllZip}
use Rattle.lab_run.specs.declared.note.Note.{Note}
use Rattle.lab_play.specs.Noted.{IsNote}
use Rattle.lab_play.specs.Ends.{TellsPlay, BeginsPlay, given}
use Rattle.lab_play.specs.Restarts.{turns_of, after, AllKeep, TellsKept, ToldStands, RestartedPlaysStand}
use Rattle.lab_play.specs.Restarting.{TakesTurns, StopsAtTurn, RunsTurns, WatchesRunTurns, RestartedEnd, RestartedResult, noted_from, NotesRunTurns, NotesTurns}

module _ (file : BoardFile) (steps : List Op) (retries : ℕ) (stand : RestartedPlaysStand file steps retries) (places : List ℕ) where
  -- the lab as it begins
  abbrev first : LabModel plans
  first = opening plans file lab_names steps retries

  -- what is told of the lab after the turns of events
  abbrev told_after : List Event → Told
  told_after events = told_of file first (after file (turns_of places events) first)

  tells : (events : List Event) (played : Played) → played.start.items ≡ pairs_of file → KeysDiffer (pairs_of file)
      → Represents file played.lab.value (after file (turns_of places events) first) → TellsPlay played (told_after events)
  tells events played start once shown = record {
    file = file;
    first = first;
    now = after file (turns_of places events) first;
    shown = shown;
    once = subst KeysDiffer (sym start) once;
    start = ap records_of (sym start);
    is = refl;
  }

  -- all events were taken
  ends_whole : (events : List Event) (played : Played) (old : Lab) → played.start.items ≡ pairs_of file → KeysDiffer (pairs_of file)
      → Represents file old first → TakesTurns (turns_of places events) old played.lab.value → TellsKept file places events first played.watch.broken
      → RestartedEnd file steps retries places events (Ok played)
  ends_whole events played old start once shows takes told =
      let at = takes file first shows in
      let stands : AllKeep file (turns_of places events) first → ToldStands file steps retries (turns_of places events) (told_after events) =
      stand (turns_of places events) at.0 in
      record {
        ending = Whole (told_after events);
        is = tells events played start once at.1;
        played = (at.0, refl);
        premise = told;
        stands = stands;
        unbroken = λ none. stands (subst (TellsKept file places events first) none told);
      }

  -- the event of a place has a fault
  ends_at : (events : List Event) (played : Played) (old : Lab) (why : Fault) (place : ℕ) → played.start.items ≡ pairs_of file → KeysDiffer (pairs_of file)
      → Represents file old first → StopsAtTurn places events old played.lab.value (record { place = place; fault = why })
      → TellsKept file places (take (place - 1) events) first played.watch.broken → RestartedEnd file steps retries places events (Err (fault.Event why place played))
  ends_at events played old why place start once shows stops premise =
      let before = stops.before in
      let at = stops.left file first shows in
      let told = told_after before in
      let count : place - 1 ≡ length before = (let is = stops.place in omega (arith, is)) in
      let first_ones : take (place - 1) events ≡ before =
      ap (λ (n : ℕ). take n events) count ∙ ap (take (length before)) stops.all ∙ take-append_seam before (stops.event ∷ stops.rest) in
      let taken : List Event = take (place - 1) events in
      let stands : AllKeep file (turns_of places taken) first → ToldStands file steps retries (turns_of places taken) told =
      subst (λ (es : List Event). AllKeep file (turns_of places es) first → ToldStands file steps retries (turns_of places es) told) (sym first_ones)
      (stand (turns_of places before) at.0) in
      record {
        ending = Stops why place told;
        is = (refl, refl, tells before played start once at.1);
        played = (before, stops.rest, stops.event, stops.all, stops.place, at.0, stops.refuses file first shows, refl);
        premise = premise;
        stands = stands;
        unbroken = λ none. stands (subst (TellsKept file places taken first) none premise);
      }

  -- ---- what is given of a play, as its events ended

  pub plays_given : {E : Type 0} (events : List Event) (played new : Played) (old : Lab) (ended : Result (Option Stopped) E) → BeginsPlay file steps retries played
      → old ≡ played.lab.value → new.start.items ≡ played.start.items → RunsTurns places events old ended new.lab.value
      → WatchesRunTurns places events old played.watch ended new.watch → RestartedResult file steps retries places events (given new ended)
  plays_given events played new old ended begins was same = by ended
    where
      shows : Represents file old first
      shows = subst (λ (lab : Lab). Represents file lab first) (sym was) begins.shows

      start : new.start.items ≡ pairs_of file
      start = same ∙ begins.start

      by : {E : Type 0} (ended : Result (Option Stopped) E) → RunsTurns places events old ended new.lab.value → WatchesRunTurns places events old played.watch ended new.watch
          → RestartedResult file steps retries places events (given new ended)
      by (Ok None) takes watched = ends_whole events new old start begins.once shows takes (watched file first shows begins.watches).1
      by (Ok (Some stopped)) stops watched = ends_at events new old stopped.fault stopped.place start begins.once shows stops (watched file first shows begins.watches).1
      by (Err memory) stops watched = tt

module _ (file : BoardFile) (steps : List Op) (retries : ℕ) (places : List ℕ) where
  -- what is noted of a play, as its events ended
  pub notes_given : {E : Type 0} (events : List Event) (notes : List Note) (played new : Played) (old : Lab) (ended : Result (Option Stopped) E) → BeginsPlay file steps retries played
      → old ≡ played.lab.value → NotesRunTurns places events old ended notes → NotesTurns file steps retries places events (given new ended) notes
  notes_given events notes played new old ended begins was = by ended
    where
      shows : Represents file old (opening plans file lab_names steps retries)
      shows = subst (λ (lab : Lab). Represents file lab (opening plans file lab_names steps retries)) (sym was) begins.shows

      by : {E : Type 0} (ended : Result (Option Stopped) E) → NotesRunTurns places events old ended notes → NotesTurns file steps retries places events (given new ended) notes
      by (Ok None) noted =
          let whole : take (length notes) events ≡ events = ap (λ (n : ℕ). take n events) noted.1 ∙ take-length events in
          (record { each = subst (λ (es : List Event). AllZip IsNote notes (noted_from file places 1 es (opening plans file lab_names steps retries))) (sym whole) (noted.0 file (opening plans file lab_names steps retries) shows) }, noted.1)
      by (Ok (Some stopped)) noted =
          let at = noted.1 in
          let count : stopped.place - 1 ≡ length notes = omega (arith, at) in
          (record { each = subst (λ (n : ℕ). AllZip IsNote notes (noted_from file places 1 (take n events) (opening plans file lab_names steps retries))) count (noted.0 file (opening plans file lab_names steps retries) shows) }, noted.1)
      by (Err memory) noted = tt
