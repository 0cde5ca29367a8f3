use Rattle.text_journal.proofs.Lines.{no_bytes, bytes_begin, bytes_behind}
use Rattle.text_journal.proofs.line.first_bytes.Goals as goal

pub returns-in_default : goal.returns-in_default
returns-in_default c more bytes b = no_bytes c.args.words.now c.args.text.now more bytes c.in_default.ensures.none b

pub returns-in-Some-2 : goal.returns-in-Some-2
returns-in-Some-2 c =
    bytes_begin c.args.words.now c.in-Some.found.0.now c.args.text.now c.in-Some.found.1.now c.in-Some-2.bytes.items c.in-Some.ensures.some (rw c.in-Some-2.is at c.in_ok-bytes.ensures)

pub returns-in-None : goal.returns-in-None
returns-in-None c more bytes b =
    (rw c.in-None.is at c.in_ok-bytes.ensures) bytes (bytes_behind c.args.words.now c.in-Some.found.0.now c.args.text.now c.in-Some.found.1.now more bytes c.in-Some.ensures.some b)
