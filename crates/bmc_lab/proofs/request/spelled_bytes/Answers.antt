use Rattle.std.proofs.Common.{List, ℕ}
use Rattle.bmc_lab.specs.Request.{SpellsPart}
use Rattle.bmc_lab.proofs.Found.{if_none, if_some}
use Rattle.bmc_lab.proofs.Spelling.{not_spelled, spelled_more}
use Rattle.bmc_lab.proofs.request.spelled_bytes.Goals as goal

pub returns-in_default-clause-none : goal.returns-in_default-clause-none
returns-in_default-clause-none c =
    not_spelled c.args.words.now c.loop-word.word-index c.word-item.result c.as_str.result.now c.loop-word-test.true c.word-item.is c.as_str.ensures.value
    (if_none ((part : List ℕ) → ¬ SpellsPart c.as_str.result.now part) c.in_ok-bytes.field-0 c.in_default.is c.in_ok-bytes.ensures.none)

pub loop-word-preserved : goal.loop-word-preserved
loop-word-preserved c =
    spelled_more c.args.words.now c.loop-word.word-index c.word-item.result c.as_str.result.now c.loop-word.all.items c.in-Some.bytes.items c.as_slice.result.now c.extend_from_slice.new.self.items
    c.loop-word-test.true c.word-item.is c.as_str.ensures.value c.loop-word.invariant
    (if_some (λ bytes. SpellsPart c.as_str.result.now bytes.items) c.in_ok-bytes.field-0 c.in-Some.bytes c.in-Some.is c.in_ok-bytes.ensures.some)
    c.as_slice.ensures.value c.in_ok-extend_from_slice.ensures.items
