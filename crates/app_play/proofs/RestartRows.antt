-- The lines of a chart with restarts, one after another.
use Rattle.std.proofs.Common.{◌≡◌, ℕ, ◌+◌, ◌<◌, Bool, List, [], ◌∷◌, ◌++◌, length, take, get_or, Result, Ok, Err, sym, ap, ◌∙◌, append-nil}
use Rattle.std.specs.Prelude.{OnOk}
use Rattle.std.proofs.lemmas.List.{append_assoc}
use Rattle.std.proofs.lemmas.Grind.{flat_map-append}
use Rattle.std.specs.List.{flat_map, enumerate_from}
use Rattle.text_lines.specs.Cuts.{ended}
use Rattle.lab_run.specs.declared.note.Note.{Note}
use Rattle.lab_play.specs.Restarts.{is_among, remade_phase}
use Rattle.app_play.specs.Chart.{event_line}
use Rattle.app_play.specs.Restarted.{restart_lines, turn_lines, turn_rows}
use Rattle.app_play.proofs.Rows.{numbered_more}

module _ (places : List ℕ) (notes : List Note) (i : ℕ) (note : Note) (within : i < length notes) (is : note ≡ get_or notes i note) where
  abbrev lines_at : ℕ × Note → List (List ℕ)
  lines_at p = turn_lines places notes p.0 p.1

  rows_more : turn_rows places notes (take (i + 1) notes) ≡ turn_rows places notes (take i notes) ++ turn_lines places notes i note
  rows_more =
      ap (flat_map lines_at) (numbered_more notes i note within is)
      ∙ flat_map-append lines_at (enumerate_from 0 (take i notes)) ((i, note) ∷ [])
      ∙ ap (λ (ls : List (List ℕ)). turn_rows places notes (take i notes) ++ ls) (append-nil (turn_lines places notes i note))

  -- the text with the lines of one event more
  pub text_more : (old now new : List ℕ) → now ≡ old ++ flat_map ended (turn_rows places notes (take i notes)) → new ≡ now ++ flat_map ended (turn_lines places notes i note)
      → new ≡ old ++ flat_map ended (turn_rows places notes (take (i + 1) notes))
  text_more old now new before lines =
      let first = turn_rows places notes (take i notes) in
      let more = turn_lines places notes i note in
      lines
      ∙ ap (λ (t : List ℕ). t ++ flat_map ended more) before
      ∙ append_assoc old (flat_map ended first) (flat_map ended more)
      ∙ ap (λ (t : List ℕ). old ++ t) (sym (flat_map-append ended first more) ∙ ap (flat_map ended) (sym rows_more))

-- the line of an event, and behind it that of the restart, are the lines of its turn
pub turn_added : {E : Type 0} (r : Result (Unit {0}) E) (places : List ℕ) (notes : List Note) (n place : ℕ) (note : Note) (made : Bool) (old now new : List ℕ) → place ≡ n + 1
    → made ≡ is_among places place → now ≡ old ++ ended (event_line notes n note)
    → OnOk r (new ≡ now ++ flat_map ended (restart_lines made (remade_phase note.phase))) → OnOk r (new ≡ old ++ flat_map ended (turn_lines places notes n note))
turn_added (Ok done) places notes n place note made old now new at is first second =
    let line = ended (event_line notes n note) in
    let phase = remade_phase note.phase in
    second
    ∙ ap (λ (t : List ℕ). t ++ flat_map ended (restart_lines made phase)) first
    ∙ append_assoc old line (flat_map ended (restart_lines made phase))
    ∙ ap (λ (b : Bool). old ++ (line ++ flat_map ended (restart_lines b phase))) (is ∙ ap (is_among places) at)
turn_added (Err e) places notes n place note made old now new at is first second = tt
