use Rattle.text_fields.proofs.Records.{no_record}
use Rattle.text_fields.proofs.range.record_in_text.Goals as goal

pub returns-then-size-gt-MOST_SDR_BYTES : goal.returns-then-size-gt-MOST_SDR_BYTES
returns-then-size-gt-MOST_SDR_BYTES c = no_record c.args.text.now c.if-size-gt-MOST_SDR_BYTES.true
