use Rattle.record_words.proofs.ReadBack.{by_fields}
use Rattle.record_words.proofs.in_words.op_in_words.Goals as goal

pub returns : goal.returns
returns c = rw (c.key.ensures, c.of.ensures, c.as_slice.ensures.value, c.olds-was.ensures, c.fields_over-fields.ensures) (by_fields c.args.way c.args.op.now _ c.in_default.not-BiosAttribute)
