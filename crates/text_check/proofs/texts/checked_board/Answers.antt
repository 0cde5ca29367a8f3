use Rattle.text_board.specs.declared.fault.FileFault.TheVariants.{Memory}
use Rattle.text_board.specs.Holds.{ReadsText}
use Rattle.text_check.proofs.Comes.{comes_board, is_read}
use Rattle.text_check.proofs.texts.checked_board.Goals as goal

pub returns-in_ok-told-in-Ok : goal.returns-in_ok-told-in-Ok
returns-in_ok-told-in-Ok c =
    let reads = is_read (ReadsText c.args.source.file.now) Memory c.read_board.result c.in-Ok.board c.read_board.ensures c.in-Ok.is in
    comes_board c.args.source.file.now c.in-Ok.board c.in_ok-told-in-Ok.told c.read_outcome.result reads c.in_ok-told-in-Ok.ensures c.read_outcome.ensures
