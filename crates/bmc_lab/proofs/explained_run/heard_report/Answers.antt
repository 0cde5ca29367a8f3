use Rattle.bmc_lab.proofs.Told.{is_fresh, as_opened}
use Rattle.bmc_lab.proofs.Telling.{explain_prints}
use Rattle.bmc_lab.proofs.explained_run.heard_report.Goals as goal

pub returns-clause-told : goal.returns-clause-told
returns-clause-told c board opens =
    explain_prints c.explained_report.result board c.args.bus c.args.bytes.now c.args.file _ c.on_frame.new.out _ _
    opens
    (is_fresh _ _ _ c.controller_place.ensures c.in_ok-port.ensures.bus c.in_ok-port.ensures.quiet)
    (as_opened _ _ c.args.file _ _ _ _ _ c.in_ok-board.ensures.setup c.in_ok-board.ensures.state c.on_frame.ensures.heard)
    c.explained_report.ensures.text c.explained_report.ensures.status
