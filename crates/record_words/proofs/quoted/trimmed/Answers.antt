use Rattle.std.proofs.Common.{sym, ◌∙◌, arith}
use Rattle.record_words.proofs.Trimming.{trimmed_end, trimmed_none, trimmed_step}
use Rattle.record_words.proofs.quoted.trimmed.Goals as goal
use Rattle.record_words.proofs.quoted.trimmed.Goals.{then-loop-end-test+else-bytes-end-eq0, else-loop-end-test}

pub loop-end-preserved : goal.loop-end-preserved
loop-end-preserved c =
    let kept = c.loop-end.invariant in
    (omega (arith, kept.0), trimmed_step c.args.bytes.now c.loop-end.end (omega (arith, c.loop-end-test.true)) kept.0 (omega (arith, c.if-bytes-end-eq0.true)) ∙ kept.1)

pub returns : goal.returns
returns c =
    let kept = c.loop-end.invariant in
    elim c.loop-end-test.branch [
      | then-loop-end-test+else-bytes-end-eq0 w ↦
          sym (trimmed_end c.args.bytes.now c.loop-end.end (omega (arith, w.loop-end-test.true)) kept.0 w.if-bytes-end-eq0.false) ∙ kept.1
      | else-loop-end-test w ↦ sym (trimmed_none c.args.bytes.now c.loop-end.end (omega (arith, w.loop-end-test.false))) ∙ kept.1
    ]
