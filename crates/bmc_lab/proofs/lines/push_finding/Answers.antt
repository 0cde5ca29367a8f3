use Rattle.std.proofs.Common.{◌∙◌, sym, string_bytes}
use Rattle.bmc_lab.proofs.FindingLines.{same_there}
use Rattle.bmc_lab.proofs.FindingNames.{finding_named}
use Rattle.bmc_lab.proofs.lines.push_finding.Goals as goal

pub returns : goal.returns
returns c op got =
    let same = same_there c.unwrap-op.result op (sym (sym c.get.ensures ∙ c.unwrap-op.ensures) ∙ got) in
    finding_named c.push_named.result (string_bytes c.args.text.now) (string_bytes c.push_named.new.text) c.args.names.now c.unwrap-op.result op c.key-key.result c.args.finding.now
    _ (string_bytes c.new-told.result) (string_bytes c.push_told.new.text) c.as_str.result.now same c.key-key.ensures c.name_of.ensures
    c.new-told.ensures.bytes (c.in_ok-push_told.ensures op got) c.as_str.ensures.value c.push_named.ensures
