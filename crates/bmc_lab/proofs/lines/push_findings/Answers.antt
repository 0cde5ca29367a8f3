use Rattle.std.proofs.Common.{◌≡◌, ◌<◌, Some, arith, length, refl, slice_get, string_bytes}
use Rattle.std.proofs.lemmas.Option.{slice_get_read}
use Rattle.bmc_lab.proofs.Turns.{one_at}
use Rattle.bmc_lab.proofs.FindingLines.{first_line, next_line}
use Rattle.bmc_lab.proofs.lines.push_findings.Goals as goal

pub loop-place-init : goal.loop-place-init
loop-place-init c = first_line (string_bytes c.args.text.now) c.args.names.now c.args.name.now c.args.steps.now

pub loop-place-preserved : goal.loop-place-preserved
loop-place-preserved c =
    let within : c.loop-place.place < length c.args.steps.now = omega (arith, c.loop-place-test.true, c.requires) in
    let here = one_at c.args.steps.now c.loop-place.place within in
    let finding = c.index-findings-place.result in
    let found : slice_get c.args.findings.now c.loop-place.place ≡ Some finding =
    slice_get_read c.args.findings.now (length c.args.findings.now) c.loop-place.place finding refl c.loop-place-test.true c.index-findings-place.is in
    next_line (string_bytes c.args.text.now) (string_bytes c.loop-place.text) (string_bytes c.push_line.new.text) c.args.names.now c.args.name.now c.args.steps.now c.args.findings.now
    c.loop-place.place here.0 finding here.1 found c.loop-place.invariant (c.in_ok-push_line.ensures here.0 here.1)
