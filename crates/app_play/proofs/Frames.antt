-- The lines of frames, one after another.
use Rattle.std.proofs.Common.{◌≡◌, ℕ, ◌+◌, ◌<◌, arith, List, [], ◌∷◌, ◌++◌, length, map, take, get_or, sym, ap, ◌∙◌}
use Rattle.std.proofs.lemmas.List.{take_more, map-append, flat_map_more, length-take-le}
use Rattle.std.specs.List.{flat_map, enumerate_from}
use Rattle.text_lines.specs.Cuts.{ended}
use Rattle.lab_run.specs.declared.frames.SentFrame.{SentFrame}
use Rattle.app_play.specs.Lines.{frame_line, frame_lines}

-- one more element has the next number
enumerated_more : {X : Type 0} (n : ℕ) (xs : List X) (x : X) → enumerate_from n (xs ++ x ∷ []) ≡ enumerate_from n xs ++ (n + length xs, x) ∷ []
enumerated_more n [] x = ap (λ (m : ℕ). (m, x) ∷ []) (omega arith)
enumerated_more n (y ∷ ys) x =
    ap (λ l. (n, y) ∷ l) (enumerated_more (n + 1) ys x ∙ ap (λ (m : ℕ). enumerate_from (n + 1) ys ++ (m, x) ∷ []) (omega arith))

module _ (frames : List SentFrame) (i : ℕ) (f : SentFrame) (within : i < length frames) (is : f ≡ get_or frames i f) where
  line_more : frame_lines (take (i + 1) frames) ≡ frame_lines (take i frames) ++ frame_line i f ∷ []
  line_more =
      let taken : length (take i frames) ≡ i = length-take-le i frames (omega (arith, within)) in
      let long : 0 + length (take i frames) ≡ i = omega (arith, taken) in
      let next : take (i + 1) frames ≡ take i frames ++ f ∷ [] = take_more frames i f within ∙ ap (λ x. take i frames ++ x ∷ []) (sym is) in
      let numbered : enumerate_from 0 (take (i + 1) frames) ≡ enumerate_from 0 (take i frames) ++ (i, f) ∷ [] =
      ap (enumerate_from 0) next ∙ enumerated_more 0 (take i frames) f ∙ ap (λ (m : ℕ). enumerate_from 0 (take i frames) ++ (m, f) ∷ []) long in
      ap (map (λ p. frame_line p.0 p.1)) numbered ∙ map-append (λ p. frame_line p.0 p.1) (enumerate_from 0 (take i frames)) ((i, f) ∷ [])

  -- the text with the line of one frame more
  pub text_more : (old now new : List ℕ) → now ≡ old ++ flat_map ended (frame_lines (take i frames)) → new ≡ now ++ ended (frame_line i f)
      → new ≡ old ++ flat_map ended (frame_lines (take (i + 1) frames))
  text_more old now new before line =
      line
      ∙ ap (λ t. t ++ ended (frame_line i f)) before
      ∙ flat_map_more ended old (frame_lines (take i frames)) (frame_line i f)
      ∙ ap (λ ls. old ++ flat_map ended ls) (sym line_more)
