-- The line on a terminal that tells how far a manager is.
use Rattle.std.specs.Prelude.{◌≡◌, ◌≢◌, ◌⊎◌, ℕ, zero, suc, Bool, true, false, List, [], ◌∷◌, ◌++◌, Option, Some, None, IsSome, codes, slice_get}
use Rattle.std.specs.Fmt.{decimal}
use Rattle.std.specs.Io.KnownBytes.{Appends}
use Rattle.plan_file.specs.declared.kind.Kind.{Kind}
use Rattle.plan_file.specs.Kinds.{of_kind}
use Rattle.model_undo.specs.declared.phase.Phase.{Phase}
use Rattle.model_undo.specs.declared.phase.Phase.TheVariants.{Getting, Setting, Undoing, Unsettled}
use Rattle.app_run.specs.declared.progress.Snapshot.{Snapshot}
use Rattle.app_run.specs.declared.progress.Progress.{Progress}

-- ---- the line

-- what plans call a kind, if it is known
abbrev pub word_of : Option Kind → List ℕ
word_of (Some kind) = (of_kind kind).word
word_of None = []

-- what plans call the kind of this step
abbrev pub word_at : List Kind → ℕ → List ℕ
word_at kinds step = word_of (slice_get kinds step)

-- which step it is, of how many; the first one is step 1
abbrev pub step_of : (step steps : ℕ) → List ℕ
step_of step steps = codes "step " ++ (decimal (suc step) ++ (codes " of " ++ decimal steps))

-- a line tells of this phase
abbrev pub has_line : Phase → Bool
has_line (Getting step) = true
has_line (Setting step) = true
has_line (Undoing step) = true
has_line (Unsettled step) = true
has_line _ = false

-- what is asked in a phase
abbrev pub what_of : List Kind → (steps : ℕ) → Phase → List ℕ
what_of kinds steps (Getting step) = step_of step steps ++ (codes ": get " ++ word_at kinds step)
what_of kinds steps (Setting step) = step_of step steps ++ (codes ": set " ++ word_at kinds step)
what_of kinds steps (Undoing step) = codes "undoing " ++ step_of step steps
what_of kinds steps (Unsettled step) = step_of step steps ++ codes ": no reply"
what_of kinds steps _ = []

-- which time it is asked again, if it is
abbrev pub retry_of : ℕ → List ℕ
retry_of zero = []
retry_of (suc n) = codes ", retry " ++ decimal (suc n)

-- the line of a moment: behind a carriage return, and what was behind it there is erased
abbrev pub line_of : List Kind → (steps : ℕ) → Snapshot → List ℕ
line_of kinds steps now = codes "\r" ++ (what_of kinds steps now.phase ++ (retry_of now.resent ++ (27 ∷ codes "[K")))

-- ---- what is written

module _ {Writer : Type 0} (out : Writer → Option (List ℕ)) where
  -- the text is written, and the line says this; or a write failed, and nothing is written any more
  abbrev pub WritesProgress : (text : List ℕ) → Option Snapshot → (old new : Progress Writer) → Type 0
  WritesProgress text said old new =
      (new.said ≡ said) × ((new.on ≡ false) ⊎ ((new.on ≡ old.on) × Appends (out old.writer) (out new.writer) text))

  -- nothing is written; or the line of this moment is, where lines are written and the line says something else
  abbrev pub MayTell : List Kind → (steps : ℕ) → Snapshot → (old new : Progress Writer) → Type 0
  MayTell kinds steps now old new =
      (new ≡ old)
      ⊎ ((old.on ≡ true) × (has_line now.phase ≡ true) × (old.said ≢ Some now) × WritesProgress (line_of kinds steps now) (Some now) old new)

  -- a line that was written is ended by a line feed; where none was, nothing is written
  abbrev pub EndsLine : (old new : Progress Writer) → Type 0
  EndsLine old new =
      ((new ≡ old) × ((old.on ≡ false) ⊎ (old.said ≡ None)))
      ⊎ ((old.on ≡ true) × IsSome old.said × WritesProgress (codes "\n") None old new)
