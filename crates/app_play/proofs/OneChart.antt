-- Inputs have one chart.
use Rattle.std.proofs.Common.{◌≡◌, ◌∙◌, ℕ, ◌+◌, Bool, not, ◌||◌, List, [], ◌∷◌, ◌++◌, length, map, take, filter, Option, Some, None, codes, arith, ap, refl, subst, sym}
use Rattle.std.specs.List.{AllZip, flat_map, enumerate_from, range_with_len}
use Rattle.std.specs.Fmt.{decimal}
use Rattle.std.proofs.lemmas.List.{take-map}
use Rattle.text_lines.specs.Cuts.{ended}
use Rattle.cfg_records.specs.declared.board_file.BoardFile.{BoardFile}
use Rattle.record_base.specs.declared.op.Op.{Op}
use Rattle.model_undo.specs.PhaseNames.{phase_name}
use Rattle.text_lines.specs.declared.event.Event.{Event}
use Rattle.text_lines.specs.declared.event.Event.TheVariants as event
use Rattle.model_lab.specs.Lab.{opening}
use Rattle.model_lab.specs.Meaning.{lab_names}
use Rattle.model_lab.specs.Played.{plans, Ending, Whole, Stops}
use Rattle.lab_run.specs.declared.note.Delivery.{Delivery}
use Rattle.lab_run.specs.declared.note.Note.{Note}
use Rattle.app_play.specs.Columns.{at_most, in_column}
use Rattle.app_play.specs.Arrivals.{delivers, came_at, lost_from}
use Rattle.app_play.specs.Chart.{call_cell, comes_cell, count_of, sends_cell, done_cell, head_line, event_line, chart_of}
use Rattle.lab_play.specs.Noted.{NotedRun, IsNote, noted_from, AreNotes}
use Rattle.lab_play.specs.declared.run.Stopped.{Stopped}
use Rattle.app_play.specs.Lines.{ending}
use Rattle.app_play.specs.Account.{status_of}
use Rattle.app_play.specs.Determined.{OneText}
use Rattle.app_play.specs.Drawn.{EndsAt, DrawsChart, drawing}
use Rattle.app_play.proofs.AlikeEnds.{OneEnding, same_stop}
use Rattle.app_play.proofs.OneAccount.{same_made}

-- a note, wherever its event stands in memory
abbrev bare : Note → Note
bare note = record note { event = record { ref_ptr = (0, 0); now = note.event.now } }

-- ---- the chart of notes is that of the bare ones

came_bare : (notes : List Note) (number : ℕ) → came_at (map bare notes) number ≡ came_at notes number
came_bare [] number = refl
came_bare (note ∷ notes) number = ap (λ (came : Bool). delivers number note.event.now || came) (came_bare notes number)

comes_bare : (notes : List Note) (came : Option Delivery) (e : Event) → comes_cell (map bare notes) came e ≡ comes_cell notes came e
comes_bare notes came (event.ToBmc number) = rw (came_bare notes number) refl
comes_bare notes came (event.ToMgr number) = rw (came_bare notes number) refl
comes_bare notes came _ = refl

lost_bare : (notes : List Note) (number count : ℕ) → lost_from (map bare notes) number count ≡ lost_from notes number count
lost_bare notes number count = λ i. length (filter (λ n. not (came_bare notes n i)) (range_with_len number count))

sends_bare : (notes : List Note) (note : Note) (e : Event) → sends_cell (map bare notes) (bare note) e ≡ sends_cell notes note e
sends_bare notes note (event.Calls call) = rw (lost_bare notes note.before (count_of note)) refl
sends_bare notes note (event.ToMgr number) = rw (lost_bare notes note.before (count_of note)) refl
sends_bare notes note (event.ToBmc number) = rw (lost_bare notes note.before (count_of note)) refl
sends_bare notes note _ = refl

line_bare : (notes : List Note) (place : ℕ) (note : Note) → event_line (map bare notes) place (bare note) ≡ event_line notes place note
line_bare notes place note =
    let earlier : take place (map bare notes) ≡ map bare (take place notes) = take-map bare place notes in
    let comes : comes_cell (take place (map bare notes)) note.came note.event.now ≡ comes_cell (take place notes) note.came note.event.now =
    ap (λ (some : List Note). comes_cell some note.came note.event.now) earlier ∙ comes_bare (take place notes) note.came note.event.now in
    let sends : sends_cell (map bare notes) (bare note) note.event.now ≡ sends_cell notes note note.event.now = sends_bare notes note note.event.now in
    λ i.
    in_column 6 (decimal (place + 1))
    ++ (in_column 5 (call_cell note.event.now)
    ++ (codes "|"
    ++ (in_column 18 (comes i)
    ++ (in_column 17 (sends i)
    ++ (codes "|"
    ++ (in_column 8 (done_cell note.done)
    ++ at_most 24 (phase_name note.phase)))))))

rows_bare : (notes : List Note) (n : ℕ) (some : List Note)
    → map (λ p. event_line (map bare notes) p.0 p.1) (enumerate_from n (map bare some)) ≡ map (λ p. event_line notes p.0 p.1) (enumerate_from n some)
rows_bare notes n [] = refl
rows_bare notes n (note ∷ some) =
    let first = line_bare notes n note in
    let rest = rows_bare notes (n + 1) some in
    λ i. first i ∷ rest i

chart_bare : (notes : List Note) → chart_of (map bare notes) ≡ chart_of notes
chart_bare notes = ap (λ (rows : List (List ℕ)). flat_map ended (head_line ∷ rows)) (rows_bare notes 0 notes)

-- ---- notes of one play

-- what there is to note of an event is in its note
same_note : (note other : Note) (n : NotedRun) → IsNote note n → IsNote other n → bare note ≡ bare other
same_note note other n is also =
    let happened : note.event.now ≡ other.event.now = is.event ∙ sym also.event in
    let came : note.came ≡ other.came = is.came ∙ sym also.came in
    let done : note.done ≡ other.done = is.done ∙ sym also.done in
    let sends : note.sends ≡ other.sends = is.sends ∙ sym also.sends in
    let before : note.before ≡ other.before = is.before ∙ sym also.before in
    let after : note.after ≡ other.after = is.after ∙ sym also.after in
    let now : note.phase ≡ other.phase = is.phase ∙ sym also.phase in
    λ i. record {
      event = record { ref_ptr = (0, 0); now = happened i };
      came = came i;
      done = done i;
      sends = sends i;
      before = before i;
      after = after i;
      phase = now i;
    }

-- notes of as many events of a play have one chart
same_chart : (file : BoardFile) (steps : List Op) (retries : ℕ) (events : List Event) (notes others : List Note)
    → length others ≡ length notes → AreNotes file steps retries events notes → AreNotes file steps retries events others → chart_of notes ≡ chart_of others
same_chart file steps retries events notes others long are also =
    let noted : ℕ → List NotedRun = λ n. noted_from file (take n events) (opening plans file lab_names steps retries) in
    let each : AllZip IsNote others (noted (length notes)) = subst (λ (n : ℕ). AllZip IsNote others (noted n)) long also.each in
    sym (chart_bare notes) ∙ ap chart_of (same_made bare IsNote same_note notes others (noted (length notes)) are.each each) ∙ chart_bare others

-- plays that ended so were noted as far, and stopped alike
same_place : (events : List Event) (notes others : ℕ) (stopped other : Option Stopped) (ending : Ending) → EndsAt events notes stopped ending → EndsAt events others other ending
    → (others ≡ notes) × (stopped ≡ other)
same_place events notes others None None (Whole told) ends also = (also ∙ sym ends, refl)
same_place events notes others (Some stopped) (Some event) (Stops cause at told) (why, place, behind) (cause_is, at_is, after) =
    let same : stopped.place ≡ event.place = place ∙ sym at_is in
    (omega (arith, behind, after, same), ap Some (same_stop stopped event same (why ∙ sym cause_is)))
same_place events notes others None other (Stops cause at told) ends also = absurd ends
same_place events notes others (Some stopped) other (Whole told) ends also = absurd ends
same_place events notes others None (Some event) (Whole told) ends also = absurd also
same_place events notes others (Some stopped) None (Stops cause at told) ends also = absurd also

pub one_chart : OneEnding → OneText DrawsChart
one_chart one inputs text other_text status other_status drawn more =
    let same : more.play.ending ≡ drawn.play.ending =
    one inputs.file inputs.plan.steps inputs.plan.retries inputs.events more.play.ending drawn.play.ending more.play.played drawn.play.played in
    let ends : EndsAt inputs.events (length more.notes) more.stopped drawn.play.ending = subst (EndsAt inputs.events (length more.notes) more.stopped) same more.play.ends in
    let places = same_place inputs.events (length drawn.notes) (length more.notes) drawn.stopped more.stopped drawn.play.ending drawn.play.ends ends in
    let stopped : drawn.stopped ≡ more.stopped = places.1 in
    let chart : chart_of drawn.notes ≡ chart_of more.notes =
    same_chart inputs.file inputs.plan.steps inputs.plan.retries inputs.events drawn.notes more.notes places.0 drawn.play.are more.play.are in
    let drawings : drawing drawn.notes drawn.stopped ≡ drawing more.notes more.stopped = λ i. chart i ++ flat_map ended (ending (stopped i)) in
    (drawn.said ∙ drawings ∙ sym more.said, drawn.ended ∙ ap status_of stopped ∙ sym more.ended)
