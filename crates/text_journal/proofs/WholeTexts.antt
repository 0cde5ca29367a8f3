-- The blocks of a journal's text one behind another, and all that a journal's lines say.
use Rattle.std.proofs.Common.{◌≡◌, ◌≤◌, ℕ, List, [], ◌++◌, length, sym, ◌∙◌, ap, append_assoc}
use Rattle.std.specs.List.{AllByRecursion, flat_map}
use Rattle.std.proofs.lemmas.Grind.{flat_map-append}
use Rattle.text_lines.specs.Cuts.{ended}
use Rattle.undo_plans.specs.declared.journal_view.JournalView.{JournalView}
use Rattle.undo_plans.specs.Journals.{kept_of}
use Rattle.text_journal.specs.JournalLines.{IsRequestLine, IsStepLine}
use Rattle.text_journal.specs.Written.{request_line, step_line, IsWaitingLine, HasHead, HasState}
use Rattle.text_journal.proofs.WrittenLines.{IsWritten}
use Rattle.text_journal.proofs.WrittenJournals.{stands_so, alone_so, step_low, waiting_few}

-- lines behind lines
behind : (front lines : List (List ℕ)) (old new : List ℕ) → old ≡ flat_map ended front → new ≡ old ++ flat_map ended lines → new ≡ flat_map ended (front ++ lines)
behind front lines old new first next = next ∙ ap (λ (l : List ℕ). l ++ flat_map ended lines) first ∙ sym (flat_map-append ended front lines)

pub five_blocks : (a b c d e : List (List ℕ)) (begun one two three four text : List ℕ) → begun ≡ [] → one ≡ begun ++ flat_map ended a → two ≡ one ++ flat_map ended b → three ≡ two ++ flat_map ended c → four ≡ three ++ flat_map ended d
    → text ≡ four ++ flat_map ended e → text ≡ flat_map ended (a ++ (b ++ (c ++ (d ++ e))))
five_blocks a b c d e begun one two three four text none first second third fourth last =
    let head : one ≡ flat_map ended a = first ∙ ap (λ (l : List ℕ). l ++ flat_map ended a) none in
    behind (((a ++ b) ++ c) ++ d) e four text (behind ((a ++ b) ++ c) d three four (behind (a ++ b) c two three (behind a b one two head second) third) fourth) last
    ∙ ap (flat_map ended) (append_assoc ((a ++ b) ++ c) d e ∙ append_assoc (a ++ b) c (d ++ e) ∙ append_assoc a b (c ++ (d ++ e)))

-- a journal that lies somewhere is written
pub is_written : (view : JournalView) → HasHead (kept_of view) → AllByRecursion (λ op. IsStepLine (step_line op) op) view.steps.now → length view.steps.now ≤ 256
    → AllByRecursion (λ asked. IsRequestLine (request_line asked) asked) view.requests.now.members → length view.requests.now.members ≤ 256 → IsWaitingLine (kept_of view).waiting → HasState (kept_of view) → IsWritten (kept_of view)
is_written view head steps few members also waiting state = record {
  head = head;
  steps = steps;
  few_steps = few;
  members = members;
  few_members = also;
  waiting = waiting;
  few_waiting = waiting_few view.steps.now view.requests.now view.stage few also view.sound.stage;
  state = state;
  step = step_low view.steps.now view.requests.now view.stage few also view.sound.stage;
  fits = record { stands = stands_so view.steps.now view.requests.now view.stage view.sound.stage; alone = alone_so view.stage view.requests.now.waiting };
  told = view.sound.stopped;
  few = view.sound.counts;
  replies = view.sound.replies;
}
