use Rattle.std.proofs.Common.{◌≤◌, ◌+◌, length}
use denote.Text.{Utf8}
use denote.Shadow.{shadow}
use Rattle.text_journal.specs.JournalText.{said_in, IsOpen}
use Rattle.text_journal.proofs.Drafts.{Begun}
use Rattle.text_journal.proofs.reading.read_journal.Given as goal

abbrev pub invariant-loop-rest : goal.invariant-loop-rest
invariant-loop-rest l = shadow (Utf8 l.rest) × Begun l.text l.rest l.line (said_in l.draft) × IsOpen (said_in l.draft) × (l.line + length l.rest ≤ length l.text + 1)

abbrev pub decreases-loop-rest : goal.decreases-loop-rest
decreases-loop-rest l = length l.rest
