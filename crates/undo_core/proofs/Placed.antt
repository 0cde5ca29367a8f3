-- A stage's open request is its task's of its place.
use Rattle.std.proofs.Common.{◌≡◌, ℕ, ◌+◌, ◌*◌, Bool, if◌then◌else◌, List, Some, None, inl, inr, refl, sym, ◌∙◌, ap, add-one}
use Rattle.std.specs.Prelude.{slice_get, IsSome}
use Rattle.std.specs.Option.{option_and_then}
use Rattle.std.proofs.lemmas.Bool.{cases_Bool}
use Rattle.record_base.specs.declared.key.Key.{Key}
use Rattle.record_base.specs.declared.key.Key.TheVariants as key
use Rattle.record_base.specs.declared.op.Op.{Op}
use Rattle.record_base.specs.declared.message.Asked.{Asked}
use Rattle.pldm_base.specs.Parts.{part_length}
use Rattle.bios_attr.specs.EntryParts.{request_at, goes_on, get_part}
use Rattle.record_kinds.specs.Limits.{key_of}
use Rattle.record_kinds.specs.Series.{set_whole}
use Rattle.undo_plans.specs.Requests.{RequestList}
use Rattle.undo_plans.specs.Asking.{get_at}
use Rattle.undo_core.specs.Joining.{get_after_reply}
use Rattle.undo_core.specs.declared.stage.Task.TheVariants.{Gets, Sets, Undoes}
use Rattle.undo_core.specs.declared.stage.Stage.{Stage}
use Rattle.undo_core.specs.declared.stage.Stage.TheVariants.{AtStart, Opened, AtEnd, AtHalt, AtUndone, AtRefused}
use Rattle.undo_core.specs.Stages.{kept_stage}
use Rattle.undo_core.specs.Placed.{IsAskedAt, IsUnsent}

-- the request that follows a reply to a Get is the one of its place
pub next_at : (of : Key) (parts : ℕ) (body : List ℕ) (asked : Asked) → get_after_reply of (parts + 1) body ≡ Some asked → get_at of (parts + 1) ≡ Some asked
next_at (key.BiosAttribute handle) parts body asked is = elim (cases_Bool (goes_on (parts + 1) body)) [
  | inl goes ↦
      ap (get_at (key.BiosAttribute handle)) (add-one parts)
      ∙ ap (λ (n : ℕ). Some (get_part handle (part_length * n))) (sym (add-one parts))
      ∙ sym (ap (λ (b : Bool). if b then Some (get_part handle (part_length * (parts + 1))) else None) goes) ∙ is
  | inr ends ↦
      let both : None ≡ Some asked = sym (ap (λ (b : Bool). if b then Some (get_part handle (part_length * (parts + 1))) else None) ends) ∙ is in
      cc both
]
next_at _ parts body asked is = let both : None ≡ Some asked = is in cc both

pub got_placed : (plan : List Op) (any : RequestList) (step parts : ℕ) (op : Op) (asked : Asked) → slice_get plan step ≡ Some op → get_at (key_of op) parts ≡ Some asked
    → IsAskedAt plan any (Gets step) parts asked
got_placed plan any step parts op asked there asks = record { asks = ap (option_and_then (λ (o : Op). get_at (key_of o) parts)) there ∙ asks; waits = tt }

pub set_placed : (plan : List Op) (any : RequestList) (step parts : ℕ) (op : Op) (asked : Asked) → slice_get plan step ≡ Some op → request_at (set_whole op) parts ≡ Some asked
    → IsSome any.waiting → IsAskedAt plan any (Sets step) parts asked
set_placed plan any step parts op asked there asks waits =
    record { asks = ap (option_and_then (λ (o : Op). request_at (set_whole o) parts)) there ∙ asks; waits = waits }

pub undo_placed : (plan : List Op) (any : RequestList) (step parts : ℕ) (member asked : Asked) → slice_get any.members step ≡ Some member → request_at member parts ≡ Some asked
    → IsAskedAt plan any (Undoes step) parts asked
undo_placed plan any step parts member asked there asks = record { asks = ap (option_and_then (λ (a : Asked). request_at a parts)) there ∙ asks; waits = tt }

-- nothing was sent again as a stage is entered
pub unsent_at_first : (entered : Stage) → IsUnsent (kept_stage entered) 0
unsent_at_first AtStart = refl
unsent_at_first (Opened heeded task parts asked) = tt
unsent_at_first AtEnd = refl
unsent_at_first (AtHalt step why) = refl
unsent_at_first AtUndone = refl
unsent_at_first (AtRefused step code) = refl
