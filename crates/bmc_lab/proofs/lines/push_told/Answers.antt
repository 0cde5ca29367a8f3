use Rattle.std.proofs.Common.{◌∙◌, ◌++◌, ℕ, List, ap, sym, string_bytes}
use Rattle.std.proofs.lemmas.Result.{on_ok_weaker}
use Rattle.bmc_lab.specs.FindingWords.{finding_told}
use Rattle.bmc_lab.proofs.FindingLines.{lacks_alike, refused_alike, same_there}
use Rattle.bmc_lab.proofs.lines.push_told.Goals as goal

pub returns-in-GetRefused : goal.returns-in-GetRefused
returns-in-GetRefused c op got =
    let same = same_there c.unwrap-op.result op (sym (sym c.get.ensures ∙ c.unwrap-op.ensures) ∙ got) in
    let words = lacks_alike c.unwrap-op.result op c.key-key.result c.in-GetRefused.code c.refusal-code.result.bus c.refusal-code.result.code same c.key-key.ensures c.refusal-code.ensures.bus c.refusal-code.ensures.code in
    on_ok_weaker c.write.result (λ said. said ∙ ap (λ (l : List ℕ). string_bytes c.args.text.now ++ l) (words ∙ ap (finding_told op) (sym c.in-GetRefused.is))) c.write.ensures.bytes

pub returns-in-Refused : goal.returns-in-Refused
returns-in-Refused c op got =
    let same = same_there c.unwrap-op.result op (sym (sym c.get.ensures ∙ c.unwrap-op.ensures) ∙ got) in
    let words = refused_alike c.unwrap-op.result op c.key-key.result c.op_in_words-words.result c.in-Refused.code c.refusal-code-in-Refused.result.bus c.refusal-code-in-Refused.result.code same c.key-key.ensures c.op_in_words-words.ensures
    c.refusal-code-in-Refused.ensures.bus c.refusal-code-in-Refused.ensures.code in
    on_ok_weaker c.write-in-Refused.result (λ said. said ∙ ap (λ (l : List ℕ). string_bytes c.args.text.now ++ l) (words ∙ ap (finding_told op) (sym c.in-Refused.is))) c.write-in-Refused.ensures.bytes
