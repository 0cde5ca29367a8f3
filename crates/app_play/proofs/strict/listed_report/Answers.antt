use Rattle.std.proofs.Common.{◌∙◌, ap, string_bytes}
use Rattle.report_words.specs.Changes.{listed}
use Rattle.app_play.proofs.Strictly.{list_bytes}
use Rattle.app_play.proofs.strict.listed_report.Goals as goal

pub returns-clause-text : goal.returns-clause-text
returns-clause-text c told file tells is =
    ap string_bytes c.output.ensures.text ∙ c.in_ok-text.ensures (listed c.args.options.list file told.records)
    (c.as_str.ensures.value ∙ list_bytes c.args.options.list file _ told.records _ _ c.new-lines.ensures.bytes (c.in_ok-push.ensures c.args.options.list file is) (c.records.ensures told tells))
