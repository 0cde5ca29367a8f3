-- How wide the lines of a chart are.
use Rattle.std.proofs.Common.{◌≡◌, ℕ, ◌+◌, ◌-◌, ◌≤◌, nat_le, arith, Bool, true, false, cond, List, [], ◌∷◌, ◌++◌, length, map, take, replicate, codes, refl}
use Rattle.std.proofs.lemmas.Bool.Decides.{nat_tests}
use Rattle.std.proofs.lemmas.List.{length-append, length-replicate}
use Rattle.std.proofs.lemmas.List.Elements.{All-cons}
use Rattle.std.specs.List.{All, enumerate_from}
use Rattle.std.specs.Fmt.{decimal}
use Rattle.model_undo.specs.PhaseNames.{phase_name}
use Rattle.lab_run.specs.declared.note.Note.{Note}
use Rattle.app_play.specs.Columns.{at_most, in_column}
use Rattle.app_play.specs.Chart.{head_line, event_line, chart_lines, call_cell, comes_cell, sends_cell, done_cell}

column_by : (width : ℕ) (text : List ℕ) (b : Bool) → nat_le (length text) width ≡ b
    → length (cond b (text ++ replicate (width - length text) 32) (replicate width 42)) ≡ width
column_by width text true fits =
    let less : length text ≤ width = grind (arith, nat_tests) in
    let joined = length-append text (replicate (width - length text) 32) in
    let filled = length-replicate {A = ℕ} (width - length text) 32 in
    omega (arith, less, joined, filled)
column_by width text false long = length-replicate {A = ℕ} width 42

-- a column has its width
pub column_width : (width : ℕ) (text : List ℕ) → length (in_column width text) ≡ width
column_width width text = column_by width text (nat_le (length text) width) refl

most_by : (width : ℕ) (text : List ℕ) (b : Bool) → nat_le (length text) width ≡ b → length (cond b text (replicate width 42)) ≤ width
most_by width text true fits = grind (arith, nat_tests)
most_by width text false long = let filled = length-replicate {A = ℕ} width 42 in omega (arith, filled)

pub most_width : (width : ℕ) (text : List ℕ) → length (at_most width text) ≤ width
most_width width text = most_by width text (nat_le (length text) width) refl

-- eight parts
eight : (a b c d e f g h : List ℕ) → length (a ++ (b ++ (c ++ (d ++ (e ++ (f ++ (g ++ h)))))))
    ≡ length a + (length b + (length c + (length d + (length e + (length f + (length g + length h))))))
eight a b c d e f g h =
    let l1 = length-append a (b ++ (c ++ (d ++ (e ++ (f ++ (g ++ h)))))) in
    let l2 = length-append b (c ++ (d ++ (e ++ (f ++ (g ++ h))))) in
    let l3 = length-append c (d ++ (e ++ (f ++ (g ++ h)))) in
    let l4 = length-append d (e ++ (f ++ (g ++ h))) in
    let l5 = length-append e (f ++ (g ++ h)) in
    let l6 = length-append f (g ++ h) in
    let l7 = length-append g h in
    omega (arith, l1, l2, l3, l4, l5, l6, l7)

-- what columns of these widths hold
wide : (a b c d e f g h : List ℕ) → length a ≡ 6 → length b ≡ 5 → length c ≡ 1 → length d ≡ 18 → length e ≡ 17 → length f ≡ 1 → length g ≡ 8 → length h ≤ 24
    → length (a ++ (b ++ (c ++ (d ++ (e ++ (f ++ (g ++ h))))))) ≤ 80
wide a b c d e f g h wa wb wc wd we wf wg wh = let all = eight a b c d e f g h in omega (arith, all, wa, wb, wc, wd, we, wf, wg, wh)

pub line_fits : (notes : List Note) (place : ℕ) (note : Note) → length (event_line notes place note) ≤ 80
line_fits notes place note =
    let number = decimal (place + 1) in
    let call = call_cell note.event.now in
    let comes = comes_cell (take place notes) note.came note.event.now in
    let sends = sends_cell notes note note.event.now in
    let what = done_cell note.done in
    let phase = phase_name note.phase in
    wide (in_column 6 number) (in_column 5 call) (codes "|") (in_column 18 comes) (in_column 17 sends) (codes "|") (in_column 8 what) (at_most 24 phase)
    (column_width 6 number) (column_width 5 call) refl (column_width 18 comes) (column_width 17 sends) refl (column_width 8 what) (most_width 24 phase)

rows_fit : (notes : List Note) (n : ℕ) (some : List Note) → All (λ line. length line ≤ 80) (map (λ p. event_line notes p.0 p.1) (enumerate_from n some))
rows_fit notes n [] = λ k d less. absurd (omega (arith, less))
rows_fit notes n (x ∷ xs) = All-cons (λ (line : List ℕ). length line ≤ 80) (event_line notes n x) (map (λ p. event_line notes p.0 p.1) (enumerate_from (n + 1) xs)) (line_fits notes n x) (rows_fit notes (n + 1) xs)

pub lines_fit : (notes : List Note) → All (λ line. length line ≤ 80) (chart_lines notes)
lines_fit notes =
    let head : length head_line ≡ 61 = refl in
    All-cons (λ (line : List ℕ). length line ≤ 80) head_line (map (λ p. event_line notes p.0 p.1) (enumerate_from 0 notes)) (omega (arith, head)) (rows_fit notes 0 notes)
