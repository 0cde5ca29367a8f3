use Rattle.std.proofs.Common.{◌≡◌, ◌++◌, string_bytes, ap, ◌∙◌, subst, Option}
use Rattle.std.specs.Option.{option_map}
use Rattle.std.specs.List.{flat_map}
use Rattle.text_lines.specs.Cuts.{ended}
use Rattle.record_base.specs.declared.message.Asked.{Asked}
use Rattle.undo_plans.specs.Requests.{meant}
use Rattle.undo_plans.specs.Journals.{kept_of}
use Rattle.undo_plans.specs.KeptManager.{waiting_at}
use Rattle.text_journal.specs.Written.{text_of, lines_of, head_lines, step_lines, undo_lines, waiting_lines, state_lines, IsWaitingLine}
use Rattle.text_journal.proofs.WrittenBytes.{waits_so}
use Rattle.text_journal.proofs.WrittenLines.{lines_say}
use Rattle.text_journal.proofs.WholeTexts.{five_blocks, is_written}
use Rattle.text_journal.proofs.writing.write_journal_into.Goals.{In_ok-push_state}
use Rattle.text_journal.proofs.writing.write_journal_into.Goals as goal

-- what waits
waits : (c : In_ok-push_state) → option_map meant c.waiting.result ≡ waiting_at c.args.journal.now.stage c.args.journal.now.requests.now.waiting
waits c = waits_so c.waiting.result (waiting_at c.args.journal.now.stage c.args.journal.now.requests.now.waiting) c.waiting.ensures.there c.waiting.ensures.missing

the_text : (c : In_ok-push_state) → string_bytes c.push_state.new.text ≡ text_of (kept_of c.args.journal.now)
the_text c =
    let kept = kept_of c.args.journal.now in
    five_blocks (head_lines kept) (step_lines kept.plan) (undo_lines kept.members) (waiting_lines kept.waiting) (state_lines kept)
    (string_bytes c.clear.new.self) (string_bytes c.push_head.new.text) (string_bytes c.push_steps.new.text) (string_bytes c.push_undo.new.text) (string_bytes c.push_waiting.new.text) (string_bytes c.push_state.new.text)
    c.clear.ensures.bytes c.in_ok-push_head.ensures.text c.in_ok-push_steps.ensures.text c.in_ok-push_undo.ensures.text
    (c.in_ok-push_waiting.ensures.text ∙ ap (λ (w : Option Asked). string_bytes c.push_undo.new.text ++ flat_map ended (waiting_lines w)) (waits c))
    c.in_ok-push_state.ensures.text

pub returns-clause-text : goal.returns-clause-text
returns-clause-text c = the_text c

pub returns-clause-stands : goal.returns-clause-stands
returns-clause-stands c =
    let kept = kept_of c.args.journal.now in
    let lines = lines_of kept in
    record {
      lines = lines;
      spelt = the_text c;
      says = lines_say kept
          (is_written c.args.journal.now c.in_ok-push_head.ensures.lines c.in_ok-push_steps.ensures.lines c.in_ok-push_steps.ensures.few c.in_ok-push_undo.ensures.lines c.in_ok-push_undo.ensures.few
          (subst IsWaitingLine (waits c) c.in_ok-push_waiting.ensures.line) c.in_ok-push_state.ensures.lines);
    }
