use Rattle.std.proofs.Common.{codes, refl}
use Rattle.std.proofs.lemmas.Result.{IfOk-from_err}
use Rattle.clap.specs.Words.{found_of, rows_of}
use Rattle.app_base.proofs.Readings.{met, refuses_none, refuses_on}
use Rattle.app_bmclab.proofs.Readings.{frame_behind, ask_behind, play_behind, schedule_behind, check_behind, none_behind}
use Rattle.app_bmclab.proofs.words.matched_words.Goals as goal

pub returns-in_err-frame_words-clause-refused : goal.returns-in_err-frame_words-clause-refused
returns-in_err-frame_words-clause-refused c =
    let behind = met c.args.matches.now (codes "frame") (rows_of (found_of c.in-Some.frame.now)) (c.in-Some.ensures.found.0 refl) c.in-Some.ensures.rows in
    refuses_on _ _ _ _ c.from_residual.ensures.1 (frame_behind _ _ behind) c.in_err-frame_words.ensures.refused

pub returns-in_err-schedule_words-clause-refused : goal.returns-in_err-schedule_words-clause-refused
returns-in_err-schedule_words-clause-refused c =
    let behind = met c.args.matches.now (codes "schedule") (rows_of (found_of c.in-Some-subcommand_matches-3.schedule.now)) (c.in-Some-subcommand_matches-3.ensures.found.0 refl) c.in-Some-subcommand_matches-3.ensures.rows in
    refuses_on _ _ _ _ c.from_residual-in_err-schedule_words.ensures.1 (schedule_behind _ _ behind) c.in_err-schedule_words.ensures.refused

pub returns-in_err-play_words-clause-refused : goal.returns-in_err-play_words-clause-refused
returns-in_err-play_words-clause-refused c =
    let behind = met c.args.matches.now (codes "play") (rows_of (found_of c.in-Some-subcommand_matches-2.play.now)) (c.in-Some-subcommand_matches-2.ensures.found.0 refl) c.in-Some-subcommand_matches-2.ensures.rows in
    refuses_on _ _ _ _ c.from_residual-in_err-play_words.ensures.1 (play_behind _ _ behind) c.in_err-play_words.ensures.refused

pub returns-in_err-check_words-clause-refused : goal.returns-in_err-check_words-clause-refused
returns-in_err-check_words-clause-refused c =
    let behind = met c.args.matches.now (codes "check") (rows_of (found_of c.in-Some-subcommand_matches-4.check.now)) (c.in-Some-subcommand_matches-4.ensures.found.0 refl) c.in-Some-subcommand_matches-4.ensures.rows in
    refuses_on _ _ _ _ c.from_residual-in_err-check_words.ensures.1 (check_behind _ _ behind) c.in_err-check_words.ensures.refused

pub returns-in_default-subcommand_matches-5-clause-refused : goal.returns-in_default-subcommand_matches-5-clause-refused
returns-in_default-subcommand_matches-5-clause-refused c =
    refuses_none _ c.lacking.result
    (none_behind c.args.matches.now c.in_default.ensures.found.1 c.in_default-subcommand_matches.ensures.found.1 c.in_default-subcommand_matches-2.ensures.found.1 c.in_default-subcommand_matches-3.ensures.found.1 c.in_default-subcommand_matches-4.ensures.found.1
    c.in_default-subcommand_matches-5.ensures.found.1)

pub returns-in-Some-clause-asked : goal.returns-in-Some-clause-asked
returns-in-Some-clause-asked c =
    let arm = c.in-Some in
    let rows = rows_of (found_of arm.frame.now) in
    (rows, met c.args.matches.now (codes "frame") rows (arm.ensures.found.0 refl) arm.ensures.rows, c.in_ok-frame_words.ensures.asked)

pub returns-in_err-ask_words-clause-refused : goal.returns-in_err-ask_words-clause-refused
returns-in_err-ask_words-clause-refused c =
    let behind = met c.args.matches.now (codes "ask") (rows_of (found_of c.in-Some-subcommand_matches.ask.now)) (c.in-Some-subcommand_matches.ensures.found.0 refl) c.in-Some-subcommand_matches.ensures.rows in
    refuses_on _ _ _ _ c.from_residual-in_err-ask_words.ensures.1 (ask_behind _ _ behind) c.in_err-ask_words.ensures.refused

pub returns-in-Some-subcommand_matches-clause-asked : goal.returns-in-Some-subcommand_matches-clause-asked
returns-in-Some-subcommand_matches-clause-asked c =
    let arm = c.in-Some-subcommand_matches in
    let rows = rows_of (found_of arm.ask.now) in
    (rows, met c.args.matches.now (codes "ask") rows (arm.ensures.found.0 refl) arm.ensures.rows, c.in_ok-ask_words.ensures.asked)

pub returns-in_err-ask_words-clause-asked : goal.returns-in_err-ask_words-clause-asked
returns-in_err-ask_words-clause-asked c = IfOk-from_err _ _ c.from_residual-in_err-ask_words.ensures.0

pub returns-in-Some-subcommand_matches-2-clause-asked : goal.returns-in-Some-subcommand_matches-2-clause-asked
returns-in-Some-subcommand_matches-2-clause-asked c =
    let arm = c.in-Some-subcommand_matches-2 in
    let rows = rows_of (found_of arm.play.now) in
    (rows, met c.args.matches.now (codes "play") rows (arm.ensures.found.0 refl) arm.ensures.rows, c.in_ok-play_words.ensures.asked)

pub returns-in-Some-subcommand_matches-3-clause-asked : goal.returns-in-Some-subcommand_matches-3-clause-asked
returns-in-Some-subcommand_matches-3-clause-asked c =
    let arm = c.in-Some-subcommand_matches-3 in
    let rows = rows_of (found_of arm.schedule.now) in
    (rows, met c.args.matches.now (codes "schedule") rows (arm.ensures.found.0 refl) arm.ensures.rows, c.in_ok-schedule_words.ensures.asked)

pub returns-in-Some-subcommand_matches-4-clause-asked : goal.returns-in-Some-subcommand_matches-4-clause-asked
returns-in-Some-subcommand_matches-4-clause-asked c =
    let arm = c.in-Some-subcommand_matches-4 in
    let rows = rows_of (found_of arm.check.now) in
    (rows, met c.args.matches.now (codes "check") rows (arm.ensures.found.0 refl) arm.ensures.rows, c.in_ok-check_words.ensures.asked)

pub returns-clause-asked : goal.returns-clause-asked
returns-clause-asked c =
    let arm = c.in-Some-subcommand_matches-5 in
    let rows = rows_of (found_of arm._version.now) in
    (rows, met c.args.matches.now (codes "version") rows (arm.ensures.found.0 refl) arm.ensures.rows)

pub returns-in_err-frame_words-clause-asked : goal.returns-in_err-frame_words-clause-asked
returns-in_err-frame_words-clause-asked c = IfOk-from_err _ _ c.from_residual.ensures.0

pub returns-in_err-play_words-clause-asked : goal.returns-in_err-play_words-clause-asked
returns-in_err-play_words-clause-asked c = IfOk-from_err _ _ c.from_residual-in_err-play_words.ensures.0

pub returns-in_err-schedule_words-clause-asked : goal.returns-in_err-schedule_words-clause-asked
returns-in_err-schedule_words-clause-asked c = IfOk-from_err _ _ c.from_residual-in_err-schedule_words.ensures.0

pub returns-in_err-check_words-clause-asked : goal.returns-in_err-check_words-clause-asked
returns-in_err-check_words-clause-asked c = IfOk-from_err _ _ c.from_residual-in_err-check_words.ensures.0
