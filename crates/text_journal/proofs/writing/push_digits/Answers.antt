use Rattle.std.proofs.Common.{arith, refl, slice_index, string_bytes, subst}
use Rattle.std.specs.Fmt.{AppendsText, styled_digits_output}
use Rattle.text_journal.proofs.WrittenDigits.{adds_byte, digits_all, digits_more}
use Rattle.text_journal.proofs.writing.push_digits.Goals as goal

pub loop-place-init : goal.loop-place-init
loop-place-init c = refl

pub loop-place-preserved : goal.loop-place-preserved
loop-place-preserved c =
    let byte = slice_index c.args.bytes.now c.loop-place.place in
    let text = string_bytes c.loop-place.text in
    let new = string_bytes c.write.new.self in
    digits_more c.args.bytes.now c.loop-place.place byte (string_bytes c.args.text.now) text new (omega (arith, c.loop-place-test.true)) refl (omega arith)
    (adds_byte text new _ byte c.in_radix.ensures (subst (λ spec. AppendsText text new (styled_digits_output c.in_radix.result spec)) c.laid_out.ensures c.in_ok-write.ensures.bytes)) c.loop-place.invariant

pub returns : goal.returns
returns c = digits_all c.args.bytes.now c.loop-place.place (string_bytes c.args.text.now) (string_bytes c.loop-place.text) (omega (arith, c.loop-place-test.false)) c.loop-place.invariant
