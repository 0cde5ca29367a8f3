use Rattle.std.proofs.Common.{◌∙◌}
use Rattle.text_lines.proofs.Written.{request_by}
use Rattle.text_lines.proofs.schedule_writing.push_request.Goals as goal

pub returns-in_err-from-clause-stands : goal.returns-in_err-from-clause-stands
returns-in_err-from-clause-stands c = request_by c.args.request.now c.byte.result c.as_slice.result.now c.byte.ensures.value c.byte_digits-from.ensures.small (c.as_slice.ensures.value ∙ c.bytes_of-bytes.ensures.value) c.digits_of-digits.ensures.small c.bytes_of-bytes.ensures.is

pub returns-in_err-digits-clause-stands : goal.returns-in_err-digits-clause-stands
returns-in_err-digits-clause-stands c = request_by c.args.request.now c.byte.result c.as_slice.result.now c.byte.ensures.value c.byte_digits-from.ensures.small (c.as_slice.ensures.value ∙ c.bytes_of-bytes.ensures.value) c.digits_of-digits.ensures.small c.bytes_of-bytes.ensures.is

pub returns-clause-stands : goal.returns-clause-stands
returns-clause-stands c = request_by c.args.request.now c.byte.result c.as_slice.result.now c.byte.ensures.value c.byte_digits-from.ensures.small (c.as_slice.ensures.value ∙ c.bytes_of-bytes.ensures.value) c.digits_of-digits.ensures.small c.bytes_of-bytes.ensures.is
