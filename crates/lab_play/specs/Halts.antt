-- Where a plan halted, and how many of its steps were tried.
use Rattle.std.specs.Prelude.{◌≡◌, ℕ, suc, min, max, Bool, true, false, List, fold, position, slice_get, Option, Some}
use Rattle.model_undo.specs.declared.phase.Phase.{Phase}
use Rattle.model_undo.specs.declared.phase.Phase.TheVariants as phase
use Rattle.lab_run.specs.declared.note.Note.{Note}
use Rattle.lab_play.specs.declared.halt.Halt.{Halt}

-- the plan is halted in this phase
abbrev pub is_halted : Phase → Bool
is_halted (phase.Halted step why) = true
is_halted _ = false

-- the first event behind which it is, counted from 0
abbrev pub halted_at : List Note → Option ℕ
halted_at notes = position (λ note. is_halted note.phase) notes

-- The halt is that of the first event behind which the plan is halted, in that phase. Its place counts from 1.
pub record IsFirstHalt (notes : List Note) (halt : Halt) : Type 0 where
  pub before : ℕ
  pub first : halted_at notes ≡ Some before
  pub place : halt.place ≡ suc before
  pub note : Note
  pub is : slice_get notes before ≡ Some note
  pub phase : halt.phase ≡ note.phase

-- how many steps were tried where the manager is in this phase: those before the open one, and that, as far as a number of 64 bits goes
abbrev pub tried_in : Phase → ℕ
tried_in (phase.Getting step) = min (suc step) 0xFFFFFFFFFFFFFFFF
tried_in (phase.Setting step) = min (suc step) 0xFFFFFFFFFFFFFFFF
tried_in _ = 0

-- the most of them behind any event
abbrev pub tried_by : List Note → ℕ
tried_by notes = fold (λ most note. max most (tried_in note.phase)) 0 notes
