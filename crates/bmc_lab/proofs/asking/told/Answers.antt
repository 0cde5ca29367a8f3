use Rattle.std.proofs.Common.{◌∙◌, ap, string_bytes}
use Rattle.bmc_lab.proofs.Telling.{ask_prints}
use Rattle.bmc_lab.proofs.asking.told.Goals as goal

pub returns-clause-told : goal.returns-clause-told
returns-clause-told c board opens =
    let said = c.in_ok-push_told.ensures in
    ask_prints board c.args.file c.args.asked.now c.bus_of-bus.result c.request_frames-frames.result.items c.as_slice.result.now c.as_slice-2.result.now c.as_slice-3.result.now c.in_ok-out.out
    (string_bytes c.new-text.result) (string_bytes c.push_exchange.new.text) (string_bytes c.output.result.text) said.0 c.output.result.status
    opens c.bus_of-bus.ensures c.request_frames-frames.ensures c.as_slice.ensures.value c.in_ok-out.ensures c.as_slice-2.ensures.value c.new-text.ensures.bytes
    c.in_ok-push_exchange.ensures c.as_slice-3.ensures said.1 (ap string_bytes c.output.ensures.text ∙ said.2) (c.output.ensures.status ∙ c.status_of.ensures)
