-- The lines of a chart, one after another.
use Rattle.std.proofs.Common.{◌≡◌, ℕ, ◌+◌, ◌<◌, arith, List, [], ◌∷◌, ◌++◌, length, map, take, get_or, sym, ap, ◌∙◌}
use Rattle.std.proofs.lemmas.List.{take_more, map-append, flat_map_more, length-take-le}
use Rattle.std.specs.List.{flat_map, enumerate_from}
use Rattle.text_lines.specs.Cuts.{ended}
use Rattle.lab_run.specs.declared.note.Note.{Note}
use Rattle.app_play.specs.Chart.{event_line}

-- one more element has the next number
enumerated_more : {X : Type 0} (n : ℕ) (xs : List X) (x : X) → enumerate_from n (xs ++ x ∷ []) ≡ enumerate_from n xs ++ (n + length xs, x) ∷ []
enumerated_more n [] x = ap (λ (m : ℕ). (m, x) ∷ []) (omega arith)
enumerated_more n (y ∷ ys) x =
    ap (λ l. (n, y) ∷ l) (enumerated_more (n + 1) ys x ∙ ap (λ (m : ℕ). enumerate_from (n + 1) ys ++ (m, x) ∷ []) (omega arith))

-- the lines of the first events
abbrev pub rows : List Note → List Note → List (List ℕ)
rows notes first = map (λ p. event_line notes p.0 p.1) (enumerate_from 0 first)

module _ (notes : List Note) (i : ℕ) (note : Note) (within : i < length notes) (is : note ≡ get_or notes i note) where
  -- the numbered notes of one event more
  pub numbered_more : enumerate_from 0 (take (i + 1) notes) ≡ enumerate_from 0 (take i notes) ++ (i, note) ∷ []
  numbered_more =
      let taken : length (take i notes) ≡ i = length-take-le i notes (omega (arith, within)) in
      let long : 0 + length (take i notes) ≡ i = omega (arith, taken) in
      let next : take (i + 1) notes ≡ take i notes ++ note ∷ [] = take_more notes i note within ∙ ap (λ (x : Note). take i notes ++ x ∷ []) (sym is) in
      ap (enumerate_from 0) next ∙ enumerated_more 0 (take i notes) note ∙ ap (λ (m : ℕ). enumerate_from 0 (take i notes) ++ (m, note) ∷ []) long

  row_more : rows notes (take (i + 1) notes) ≡ rows notes (take i notes) ++ event_line notes i note ∷ []
  row_more =
      ap (map (λ p. event_line notes p.0 p.1)) numbered_more ∙ map-append (λ p. event_line notes p.0 p.1) (enumerate_from 0 (take i notes)) ((i, note) ∷ [])

  -- the text with the line of one event more
  pub text_more : (old now new : List ℕ) → now ≡ old ++ flat_map ended (rows notes (take i notes)) → new ≡ now ++ ended (event_line notes i note)
      → new ≡ old ++ flat_map ended (rows notes (take (i + 1) notes))
  text_more old now new before line =
      line
      ∙ ap (λ (t : List ℕ). t ++ ended (event_line notes i note)) before
      ∙ flat_map_more ended old (rows notes (take i notes)) (event_line notes i note)
      ∙ ap (λ (ls : List (List ℕ)). old ++ flat_map ended ls) (sym row_more)
