use Rattle.text_lines.proofs.Written.{message_by}
use Rattle.text_lines.proofs.schedule_writing.push_message.Goals as goal

pub returns-in_err-from-clause-stands : goal.returns-in_err-from-clause-stands
returns-in_err-from-clause-stands c = message_by c.args.message.now c.as_slice-body.result.now c.as_slice-body.ensures.value c.byte_digits-from.ensures.small c.digits_of-digits.ensures.small c.as_slice-body.ensures.some c.as_slice-body.ensures.fits

pub returns-in_err-digits-clause-stands : goal.returns-in_err-digits-clause-stands
returns-in_err-digits-clause-stands c = message_by c.args.message.now c.as_slice-body.result.now c.as_slice-body.ensures.value c.byte_digits-from.ensures.small c.digits_of-digits.ensures.small c.as_slice-body.ensures.some c.as_slice-body.ensures.fits

pub returns-clause-stands : goal.returns-clause-stands
returns-clause-stands c = message_by c.args.message.now c.as_slice-body.result.now c.as_slice-body.ensures.value c.byte_digits-from.ensures.small c.digits_of-digits.ensures.small c.as_slice-body.ensures.some c.as_slice-body.ensures.fits
