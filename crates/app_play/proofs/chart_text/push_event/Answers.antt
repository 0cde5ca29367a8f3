use Rattle.std.proofs.Common.{◌≡◌, ◌++◌, ◌+◌, ℕ, List, take, string_bytes, codes, ap, ◌∙◌}
use Rattle.std.specs.Fmt.{decimal}
use Rattle.model_undo.specs.PhaseNames.{phase_name}
use Rattle.app_play.specs.Columns.{at_most, in_column}
use Rattle.app_play.specs.Chart.{call_cell, comes_cell, sends_cell, done_cell}
use Rattle.app_play.proofs.LineParts.{line_added}
use Rattle.app_play.proofs.chart_text.push_event.Goals as goal

pub returns : goal.returns
returns c notes n place earlier all =
    let note = c.args.note.now in
    let number : c.as_str.result.now ≡ decimal (n + 1) = c.as_str.ensures.value ∙ c.in_ok-number.ensures.ok ∙ ap decimal place in
    let comes : c.as_str-2.result.now ≡ comes_cell (take n notes) note.came note.event.now = c.as_str-2.ensures.value ∙ c.in_ok-comes.ensures (take n notes) earlier in
    let sends : c.as_str-3.result.now ≡ sends_cell notes note note.event.now = c.as_str-3.ensures.value ∙ c.in_ok-sends.ensures notes all in
    let phase : c.as_str-4.result.now ≡ phase_name note.phase = c.as_str-4.ensures.value ∙ c.in_ok-phase.ensures.ok in
    let t1 = string_bytes c.push_column.new.text in
    let t2 = string_bytes c.push_column-2.new.text in
    let t3 = string_bytes c.push_str.new.self in
    let t4 = string_bytes c.push_column-3.new.text in
    let t5 = string_bytes c.push_column-4.new.text in
    let t6 = string_bytes c.push_str-2.new.self in
    let t7 = string_bytes c.push_column-5.new.text in
    let t8 = string_bytes c.push_at_most.new.text in
    line_added (in_column 6 (decimal (n + 1))) (in_column 5 (call_cell note.event.now)) (codes "|") (in_column 18 (comes_cell (take n notes) note.came note.event.now))
    (in_column 17 (sends_cell notes note note.event.now)) (codes "|") (in_column 8 (done_cell note.done)) (at_most 24 (phase_name note.phase))
    (string_bytes c.args.text.now) t1 t2 t3 t4 t5 t6 t7 t8 (string_bytes c.push_str-3.new.self)
    (c.in_ok-push_column.ensures ∙ ap (λ (cell : List ℕ). string_bytes c.args.text.now ++ in_column 6 cell) number)
    (c.in_ok-push_column-2.ensures ∙ ap (λ (cell : List ℕ). t1 ++ in_column 5 cell) c.call_cell.ensures)
    c.in_ok-push_str.ensures.bytes
    (c.in_ok-push_column-3.ensures ∙ ap (λ (cell : List ℕ). t3 ++ in_column 18 cell) comes)
    (c.in_ok-push_column-4.ensures ∙ ap (λ (cell : List ℕ). t4 ++ in_column 17 cell) sends)
    c.in_ok-push_str-2.ensures.bytes
    (c.in_ok-push_column-5.ensures ∙ ap (λ (cell : List ℕ). t6 ++ in_column 8 cell) c.done_cell.ensures)
    (c.in_ok-push_at_most.ensures ∙ ap (λ (cell : List ℕ). t7 ++ at_most 24 cell) phase)
    c.in_ok-push_str-3.ensures.bytes
