-- The steps of a plan that are kept, by what was found of their records before the first of them.
use Rattle.std.specs.Prelude.{ℕ, List, [], ◌∷◌, ◌++◌, Bool, true, ◌&&◌, ◌||◌, not, if◌then◌else◌}
use Rattle.std.specs.List.{list_any}
use Rattle.std.specs.Option.{is_some}
use Rattle.std.specs.Str.{bytes_eq}
use Rattle.record_base.specs.declared.key.Key.{Key}
use Rattle.record_base.specs.declared.op.Op.{Op}
use Rattle.record_base.specs.Keys.{same_key}
use Rattle.record_kinds.specs.Limits.{inverse, key_of}
use Rattle.shown_records.specs.After.{after_of}
use Rattle.app_look.specs.declared.records.Came.{Came}
use Rattle.app_look.specs.declared.records.Came.TheVariants as came
use Rattle.app_look.specs.declared.records.Found.{Found}

-- the operation can be taken back where the Get shows this, and leaves that
abbrev pub leaves : Op → (shown : List ℕ) → Bool
leaves op shown = is_some (inverse op shown) && bytes_eq (after_of op shown) shown

-- the operation doesn't leave what was found: it makes another of that, or can't be taken back, or the Get was refused
abbrev pub changes : Op → Came → Bool
changes op (came.Shown shown) = not (leaves op shown.items)
changes op (came.Refused code) = true

-- one of the steps is on this record
abbrev pub have_record : (steps : List Op) → Key → Bool
have_record steps key = list_any (λ op. same_key (key_of op) key) steps

-- A step is kept where an earlier one of its record is. Where none is, its record is still as it was found, and it is kept where it changes that.
abbrev pub with_step : (kept : List Op) → Op → Came → List Op
with_step kept op found = if have_record kept (key_of op) || changes op found then kept ++ op ∷ [] else kept

-- the steps that are kept behind others
abbrev pub kept_behind : (kept : List Op) → (steps : List Op) → List Found → List Op
kept_behind kept (op ∷ steps) (of ∷ found) = kept_behind (with_step kept op of.came) steps found
kept_behind kept (op ∷ steps) [] = kept
kept_behind kept [] found = kept

-- those of a plan
abbrev pub kept_of : (steps : List Op) → List Found → List Op
kept_of = kept_behind []
