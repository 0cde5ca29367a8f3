use Rattle.std.proofs.Common.{◌≡◌, ◌++◌, List, OnOk, ℕ, codes, string_bytes, subst}
use Rattle.std.specs.Fmt.{decimal}
use Rattle.record_words.specs.RequestWords.{undo_words_of}
use Rattle.text_check.proofs.StageLines.{five_parts}
use Rattle.text_check.proofs.staged.push_if_set.Goals as goal

pub returns : goal.returns
returns c =
    subst (λ (l : List ℕ). OnOk c.writeln.result (string_bytes c.writeln.new.self ≡ string_bytes c.args.text.now ++ l))
    (five_parts c.args.name.now (codes ": undo of step ") (decimal c.args.step) (codes " if its Set was carried out: ") (undo_words_of c.args.words.now))
    c.writeln.ensures.bytes
