use Rattle.std.proofs.Common.{◌≡◌, ◌++◌, [], ℕ, List, string_bytes, codes, ap, ◌∙◌}
use Rattle.model_undo.specs.PhaseNames.{phase_name}
use Rattle.app_play.specs.Columns.{at_most, in_column}
use Rattle.app_play.proofs.LineParts.{line_added}
use Rattle.app_play.proofs.restart_rows.push_restart.Goals as goal

pub returns : goal.returns
returns c =
    let phase : c.as_str.result.now ≡ phase_name c.args.phase = c.as_str.ensures.value ∙ c.in_ok-phase.ensures.ok in
    let t7 = string_bytes c.push_column-5.new.text in
    line_added (in_column 6 []) (in_column 5 (codes "dies")) (codes "|") (in_column 18 []) (in_column 17 []) (codes "|") (in_column 8 []) (at_most 24 (phase_name c.args.phase))
    (string_bytes c.args.text.now) (string_bytes c.push_column.new.text) (string_bytes c.push_column-2.new.text) (string_bytes c.push_str.new.self) (string_bytes c.push_column-3.new.text)
    (string_bytes c.push_column-4.new.text) (string_bytes c.push_str-2.new.self) t7 (string_bytes c.push_at_most.new.text) (string_bytes c.push_str-3.new.self)
    c.in_ok-push_column.ensures
    c.in_ok-push_column-2.ensures
    c.in_ok-push_str.ensures.bytes
    c.in_ok-push_column-3.ensures
    c.in_ok-push_column-4.ensures
    c.in_ok-push_str-2.ensures.bytes
    c.in_ok-push_column-5.ensures
    (c.in_ok-push_at_most.ensures ∙ ap (λ (cell : List ℕ). t7 ++ at_most 24 cell) phase)
    c.in_ok-push_str-3.ensures.bytes
