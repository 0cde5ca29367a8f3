use Rattle.std.proofs.Common.{codes, refl}
use Rattle.std.proofs.lemmas.Result.{IfOk-from_err}
use Rattle.clap.specs.Words.{found_of, rows_of}
use Rattle.app_base.proofs.Readings.{met, refuses_none, refuses_on}
use Rattle.bmcnet.proofs.Behind.{serve_behind, run_behind, undo_behind, pair_behind, apply_behind, revert_behind, preview_behind, show_behind, none_behind}
use Rattle.bmcnet.proofs.words.matched_words.Goals as goal

pub returns-in_err-run_words-clause-refused : goal.returns-in_err-run_words-clause-refused
returns-in_err-run_words-clause-refused c =
    let behind = met c.args.matches.now (codes "run") (rows_of (found_of c.in-Some-subcommand_matches.run'.now)) (c.in-Some-subcommand_matches.ensures.found.0 refl) c.in-Some-subcommand_matches.ensures.rows in
    refuses_on _ _ _ _ c.from_residual-in_err-run_words.ensures.1 (run_behind _ _ behind) c.in_err-run_words.ensures.refused

pub returns-in_err-undo_words-clause-refused : goal.returns-in_err-undo_words-clause-refused
returns-in_err-undo_words-clause-refused c =
    let behind = met c.args.matches.now (codes "undo") (rows_of (found_of c.in-Some-subcommand_matches-2.undo.now)) (c.in-Some-subcommand_matches-2.ensures.found.0 refl) c.in-Some-subcommand_matches-2.ensures.rows in
    refuses_on _ _ _ _ c.from_residual-in_err-undo_words.ensures.1 (undo_behind _ _ behind) c.in_err-undo_words.ensures.refused

pub returns-in_err-serve_words-clause-refused : goal.returns-in_err-serve_words-clause-refused
returns-in_err-serve_words-clause-refused c =
    let behind = met c.args.matches.now (codes "serve") (rows_of (found_of c.in-Some.serve.now)) (c.in-Some.ensures.found.0 refl) c.in-Some.ensures.rows in
    refuses_on _ _ _ _ c.from_residual.ensures.1 (serve_behind _ _ behind) c.in_err-serve_words.ensures.refused

pub returns-in_err-pair_words-clause-refused : goal.returns-in_err-pair_words-clause-refused
returns-in_err-pair_words-clause-refused c =
    let behind = met c.args.matches.now (codes "pair") (rows_of (found_of c.in-Some-subcommand_matches-3.pair.now)) (c.in-Some-subcommand_matches-3.ensures.found.0 refl) c.in-Some-subcommand_matches-3.ensures.rows in
    refuses_on _ _ _ _ c.from_residual-in_err-pair_words.ensures.1 (pair_behind _ _ behind) c.in_err-pair_words.ensures.refused

pub returns-in_default-subcommand_matches-8-clause-refused : goal.returns-in_default-subcommand_matches-8-clause-refused
returns-in_default-subcommand_matches-8-clause-refused c =
    refuses_none _ c.lacking.result
    (none_behind c.args.matches.now c.in_default.ensures.found.1 c.in_default-subcommand_matches.ensures.found.1 c.in_default-subcommand_matches-2.ensures.found.1 c.in_default-subcommand_matches-3.ensures.found.1
    c.in_default-subcommand_matches-4.ensures.found.1 c.in_default-subcommand_matches-5.ensures.found.1 c.in_default-subcommand_matches-6.ensures.found.1
    c.in_default-subcommand_matches-7.ensures.found.1 c.in_default-subcommand_matches-8.ensures.found.1)

pub returns-in-Some-clause-asked : goal.returns-in-Some-clause-asked
returns-in-Some-clause-asked c =
    let rows = rows_of (found_of c.in-Some.serve.now) in
    (rows, met c.args.matches.now (codes "serve") rows (c.in-Some.ensures.found.0 refl) c.in-Some.ensures.rows, c.in_ok-serve_words.ensures.asked)

pub returns-in-Some-subcommand_matches-clause-asked : goal.returns-in-Some-subcommand_matches-clause-asked
returns-in-Some-subcommand_matches-clause-asked c =
    let arm = c.in-Some-subcommand_matches in
    let rows = rows_of (found_of arm.run'.now) in
    (rows, met c.args.matches.now (codes "run") rows (arm.ensures.found.0 refl) arm.ensures.rows, c.in_ok-run_words.ensures.asked)

pub returns-in-Some-subcommand_matches-2-clause-asked : goal.returns-in-Some-subcommand_matches-2-clause-asked
returns-in-Some-subcommand_matches-2-clause-asked c =
    let arm = c.in-Some-subcommand_matches-2 in
    let rows = rows_of (found_of arm.undo.now) in
    (rows, met c.args.matches.now (codes "undo") rows (arm.ensures.found.0 refl) arm.ensures.rows, c.in_ok-undo_words.ensures.asked)

pub returns-in-Some-subcommand_matches-3-clause-asked : goal.returns-in-Some-subcommand_matches-3-clause-asked
returns-in-Some-subcommand_matches-3-clause-asked c =
    let arm = c.in-Some-subcommand_matches-3 in
    let rows = rows_of (found_of arm.pair.now) in
    (rows, met c.args.matches.now (codes "pair") rows (arm.ensures.found.0 refl) arm.ensures.rows, c.in_ok-pair_words.ensures.asked)

pub returns-clause-asked : goal.returns-clause-asked
returns-clause-asked c =
    let arm = c.in-Some-subcommand_matches-8 in
    let rows = rows_of (found_of arm._version.now) in
    (rows, met c.args.matches.now (codes "version") rows (arm.ensures.found.0 refl) arm.ensures.rows)

pub returns-in_err-serve_words-clause-asked : goal.returns-in_err-serve_words-clause-asked
returns-in_err-serve_words-clause-asked c = IfOk-from_err _ _ c.from_residual.ensures.0

pub returns-in_err-run_words-clause-asked : goal.returns-in_err-run_words-clause-asked
returns-in_err-run_words-clause-asked c = IfOk-from_err _ _ c.from_residual-in_err-run_words.ensures.0

pub returns-in_err-undo_words-clause-asked : goal.returns-in_err-undo_words-clause-asked
returns-in_err-undo_words-clause-asked c = IfOk-from_err _ _ c.from_residual-in_err-undo_words.ensures.0

pub returns-in_err-pair_words-clause-asked : goal.returns-in_err-pair_words-clause-asked
returns-in_err-pair_words-clause-asked c = IfOk-from_err _ _ c.from_residual-in_err-pair_words.ensures.0

pub returns-in_err-change_words-clause-refused : goal.returns-in_err-change_words-clause-refused
returns-in_err-change_words-clause-refused c =
    let behind = met c.args.matches.now (codes "apply") (rows_of (found_of c.in-Some-subcommand_matches-4.apply.now)) (c.in-Some-subcommand_matches-4.ensures.found.0 refl) c.in-Some-subcommand_matches-4.ensures.rows in
    refuses_on _ _ _ _ c.from_residual-in_err-change_words.ensures.1 (apply_behind _ _ behind) c.in_err-change_words.ensures.refused

pub returns-in-Some-subcommand_matches-4-clause-asked : goal.returns-in-Some-subcommand_matches-4-clause-asked
returns-in-Some-subcommand_matches-4-clause-asked c =
    let arm = c.in-Some-subcommand_matches-4 in
    let rows = rows_of (found_of arm.apply.now) in
    (rows, met c.args.matches.now (codes "apply") rows (arm.ensures.found.0 refl) arm.ensures.rows, c.in_ok-change_words.ensures.asked)

pub returns-in_err-change_words-clause-asked : goal.returns-in_err-change_words-clause-asked
returns-in_err-change_words-clause-asked c = IfOk-from_err _ _ c.from_residual-in_err-change_words.ensures.0

pub returns-in_err-back_words-clause-refused : goal.returns-in_err-back_words-clause-refused
returns-in_err-back_words-clause-refused c =
    let behind = met c.args.matches.now (codes "revert") (rows_of (found_of c.in-Some-subcommand_matches-5.revert.now)) (c.in-Some-subcommand_matches-5.ensures.found.0 refl) c.in-Some-subcommand_matches-5.ensures.rows in
    refuses_on _ _ _ _ c.from_residual-in_err-back_words.ensures.1 (revert_behind _ _ behind) c.in_err-back_words.ensures.refused

pub returns-in-Some-subcommand_matches-5-clause-asked : goal.returns-in-Some-subcommand_matches-5-clause-asked
returns-in-Some-subcommand_matches-5-clause-asked c =
    let arm = c.in-Some-subcommand_matches-5 in
    let rows = rows_of (found_of arm.revert.now) in
    (rows, met c.args.matches.now (codes "revert") rows (arm.ensures.found.0 refl) arm.ensures.rows, c.in_ok-back_words.ensures.asked)

pub returns-in_err-back_words-clause-asked : goal.returns-in_err-back_words-clause-asked
returns-in_err-back_words-clause-asked c = IfOk-from_err _ _ c.from_residual-in_err-back_words.ensures.0

pub returns-in_err-preview_words-clause-refused : goal.returns-in_err-preview_words-clause-refused
returns-in_err-preview_words-clause-refused c =
    let behind = met c.args.matches.now (codes "preview") (rows_of (found_of c.in-Some-subcommand_matches-6.preview.now)) (c.in-Some-subcommand_matches-6.ensures.found.0 refl) c.in-Some-subcommand_matches-6.ensures.rows in
    refuses_on _ _ _ _ c.from_residual-in_err-preview_words.ensures.1 (preview_behind _ _ behind) c.in_err-preview_words.ensures.refused

pub returns-in-Some-subcommand_matches-6-clause-asked : goal.returns-in-Some-subcommand_matches-6-clause-asked
returns-in-Some-subcommand_matches-6-clause-asked c =
    let arm = c.in-Some-subcommand_matches-6 in
    let rows = rows_of (found_of arm.preview.now) in
    (rows, met c.args.matches.now (codes "preview") rows (arm.ensures.found.0 refl) arm.ensures.rows, c.in_ok-preview_words.ensures.asked)

pub returns-in_err-preview_words-clause-asked : goal.returns-in_err-preview_words-clause-asked
returns-in_err-preview_words-clause-asked c = IfOk-from_err _ _ c.from_residual-in_err-preview_words.ensures.0

pub returns-in_err-show_words-clause-refused : goal.returns-in_err-show_words-clause-refused
returns-in_err-show_words-clause-refused c =
    let behind = met c.args.matches.now (codes "show") (rows_of (found_of c.in-Some-subcommand_matches-7.show.now)) (c.in-Some-subcommand_matches-7.ensures.found.0 refl) c.in-Some-subcommand_matches-7.ensures.rows in
    refuses_on _ _ _ _ c.from_residual-in_err-show_words.ensures.1 (show_behind _ _ behind) c.in_err-show_words.ensures.refused

pub returns-in-Some-subcommand_matches-7-clause-asked : goal.returns-in-Some-subcommand_matches-7-clause-asked
returns-in-Some-subcommand_matches-7-clause-asked c =
    let arm = c.in-Some-subcommand_matches-7 in
    let rows = rows_of (found_of arm.show.now) in
    (rows, met c.args.matches.now (codes "show") rows (arm.ensures.found.0 refl) arm.ensures.rows, c.in_ok-show_words.ensures.asked)

pub returns-in_err-show_words-clause-asked : goal.returns-in_err-show_words-clause-asked
returns-in_err-show_words-clause-asked c = IfOk-from_err _ _ c.from_residual-in_err-show_words.ensures.0
