use Rattle.std.proofs.Common.{None, sym, ap, ◌∙◌}
use Rattle.record_words.specs.declared.parts.Way.TheVariants.{Back}
use Rattle.record_words.specs.OpWords.{op_words}
use Rattle.record_words.proofs.ReadBack.{one_op}
use Rattle.record_words.proofs.request.undo_in_words.Goals as goal

pub returns-in-Some : goal.returns-in-Some
returns-in-Some c = record {
  of_op = λ op e. c.op_in_words.ensures ∙ ap (λ any. op_words Back any None) (one_op c.in-Some.op op (c.in-Some.ensures.some ∙ sym e));
  of_none = λ none. absurd (none c.in-Some.op c.in-Some.ensures.some);
}
