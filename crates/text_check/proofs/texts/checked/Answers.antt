use Rattle.std.proofs.Common.{string_bytes}
use Rattle.text_check.proofs.texts.checked.Goals as goal

pub returns-clause-words : goal.returns-clause-words
returns-clause-words c = record { front = string_bytes c.tell_mark.new.text; words = c.in_ok-tell_words.ensures }
