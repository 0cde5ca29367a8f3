use Rattle.text_lines.proofs.Written.{request_is}
use Rattle.text_lines.proofs.schedule_writing.bytes_of.Goals as goal

pub returns-clause-is : goal.returns-clause-is
returns-clause-is c =
    request_is c.args.request.now c.number.result c.number-2.result c.number-4.result c.as_slice-body.result.now c.byte.result
    c.number.ensures.value c.number-2.ensures.value c.number-4.ensures.value c.as_slice-body.ensures.value c.byte.ensures.value
    c.number.ensures.even c.number-2.ensures.below c.number-4.ensures.below c.as_slice-body.ensures.fits c.byte.ensures.even
