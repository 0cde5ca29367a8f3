-- The request that a task has open, by its place among the task's requests.
use Rattle.std.specs.Prelude.{ℕ, zero, suc, ◌*◌, List, slice_get, Option, Some}
use Rattle.std.specs.Option.{option_and_then}
use Rattle.pldm_base.specs.Parts.{part_length}
use Rattle.record_base.specs.declared.key.Key.{Key}
use Rattle.record_base.specs.declared.op.Op.{Op}
use Rattle.record_base.specs.declared.message.Asked.{Asked}
use Rattle.bios_attr.specs.EntryParts.{request_at}
use Rattle.record_kinds.specs.Limits.{key_of, get_asked}
use Rattle.record_kinds.specs.Series.{set_whole, get_next}
use Rattle.undo_plans.specs.declared.kept_stage.KeptTask.{KeptTask}
use Rattle.undo_plans.specs.declared.kept_stage.KeptTask.TheVariants.{Get, Set, Undo}

-- the request of this place, counted from 0, among those that get a record: the first asks for the record, and each behind it for a part
abbrev pub get_at : Key → (part : ℕ) → Option Asked
get_at key zero = Some (get_asked key)
get_at key (suc part) = get_next key (part_length * suc part)

-- the request of this place among those of the task, of a plan of these steps, with these requests that undo
abbrev pub asked_at : List Op → List Asked → KeptTask → (part : ℕ) → Option Asked
asked_at plan members (Get step) part = option_and_then (λ op. get_at (key_of op) part) (slice_get plan step)
asked_at plan members (Set step) part = option_and_then (λ op. request_at (set_whole op) part) (slice_get plan step)
asked_at plan members (Undo step) part = option_and_then (λ asked. request_at asked part) (slice_get members step)
