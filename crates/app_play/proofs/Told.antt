-- The text of an account, by its parts.
use Rattle.std.proofs.Common.{◌≡◌, ℕ, Bool, List, [], ◌∷◌, ◌++◌, sym, ◌∙◌, ap}
use Rattle.std.specs.List.{flat_map}
use Rattle.std.proofs.lemmas.Grind.{flat_map-append}
use Rattle.std.proofs.lemmas.List.{append_assoc}
use Rattle.text_lines.specs.Cuts.{ended}
use Rattle.text_lines.specs.RecordsLine.{records_line}
use Rattle.model_undo.specs.PhaseNames.{phase_name}
use Rattle.std.specs.Prelude.{codes, length}
use Rattle.std.specs.Fmt.{decimal}
use Rattle.app_play.specs.declared.account.Account.{Account}
use Rattle.app_play.specs.Lines.{said, undo_lines, shown, premised, ending, start_lines, lines_of, text_of}
use Rattle.app_play.specs.Strict.{listed_text}

module _ (told : Account) (frames premises : Bool) where
  abbrev last : List (List ℕ)
  last = premised premises told.broken told.stopped ++ ending told.stopped

  abbrev rest : List (List ℕ)
  rest = shown frames told.frames.now ++ last

  lines_are : start_lines told ++ rest ≡ lines_of frames premises told
  lines_are = ap (λ (ls : List (List ℕ)). said (codes "phase") (phase_name told.phase) ∷ said (codes "frames") (decimal (length told.frames.now)) ∷ ls)
      (append_assoc (undo_lines told.undo.now.members) (records_line told.changed ∷ []) rest)

  pub told_so : (start mid all : List ℕ) → start ≡ flat_map ended (start_lines told) → mid ≡ start ++ flat_map ended (shown frames told.frames.now) → all ≡ mid ++ flat_map ended last
      → all ≡ text_of frames premises told
  told_so start mid all first second third =
      third
      ∙ ap (λ (l : List ℕ). l ++ flat_map ended last) second
      ∙ ap (λ (l : List ℕ). (l ++ flat_map ended (shown frames told.frames.now)) ++ flat_map ended last) first
      ∙ append_assoc (flat_map ended (start_lines told)) (flat_map ended (shown frames told.frames.now)) (flat_map ended last)
      ∙ ap (λ (l : List ℕ). flat_map ended (start_lines told) ++ l) (sym (flat_map-append ended (shown frames told.frames.now) last))
      ∙ sym (flat_map-append ended (start_lines told) rest)
      ∙ ap (flat_map ended) lines_are

  -- and with lines behind that of the records
  pub listed_so : (lines : List (List ℕ)) (start listed mid all : List ℕ) → start ≡ flat_map ended (start_lines told) → listed ≡ start ++ flat_map ended lines
      → mid ≡ listed ++ flat_map ended (shown frames told.frames.now) → all ≡ mid ++ flat_map ended last → all ≡ listed_text lines frames premises told
  listed_so lines start listed mid all first second third fourth =
      let begun = flat_map ended (start_lines told) in
      let told_lines = flat_map ended lines in
      let framed = flat_map ended (shown frames told.frames.now) in
      let end = flat_map ended last in
      fourth
      ∙ ap (λ (l : List ℕ). l ++ end) (third ∙ ap (λ (l : List ℕ). l ++ framed) (second ∙ ap (λ (l : List ℕ). l ++ told_lines) first))
      ∙ append_assoc (begun ++ told_lines) framed end
      ∙ append_assoc begun told_lines (framed ++ end)
      ∙ ap (λ (l : List ℕ). begun ++ (told_lines ++ l)) (sym (flat_map-append ended (shown frames told.frames.now) last))
      ∙ ap (λ (l : List ℕ). begun ++ l) (sym (flat_map-append ended lines rest))
      ∙ sym (flat_map-append ended (start_lines told) (lines ++ rest))
