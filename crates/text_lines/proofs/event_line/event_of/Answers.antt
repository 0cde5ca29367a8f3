use Rattle.std.proofs.Common.{rules, [], inl, inr}
use Rattle.text_lines.proofs.Once.{four, other_length}
use Rattle.text_lines.proofs.event_line.event_of.Goals as goal
use Rattle.text_lines.proofs.event_line.event_of.Goals.{in_default-via-then-words-lt1, in_default-via-else-words-lt1+else-words-lt2+else-words-lt3+else-words-lt4+else-words-lt5}

pub returns-in-len4 : goal.returns-in-len4
returns-in-len4 c = rw (four c.args.words.now (record { ref_ptr = (0, 0); now = [] }) c.in-len4.len_at_least c.in-len4.len_below) c.four_words.ensures

pub returns-in_default : goal.returns-in_default
returns-in_default c = other_length c.args.words.now (elim c.in_default.branch [
  | in_default-via-then-words-lt1 w ↦ inl (search rules)
  | in_default-via-else-words-lt1+else-words-lt2+else-words-lt3+else-words-lt4+else-words-lt5 w ↦ inr (search rules)
])
