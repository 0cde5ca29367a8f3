-- How many requests a Get and a Set are: as many as the entry of a long attribute has parts, and one where another record is got or set.
use Rattle.std.specs.Prelude.{◌≡◌, ℕ, zero, suc, ◌+◌, ◌-◌, ◌/◌, List, [], ◌∷◌, length, if◌then◌else◌, Option, Some}
use Rattle.record_base.specs.declared.key.Key.{Key}
use Rattle.record_base.specs.declared.op.Op.{Op}
use Rattle.record_base.specs.declared.message.Asked.{Asked}
use Rattle.cfg_records.specs.declared.board_file.BoardFile.{BoardFile}
use Rattle.cfg_records.specs.Records.{Records}
use Rattle.pldm_base.specs.Parts.{part_length, goes_whole}
use Rattle.bios_attr.specs.BiosAttribute.{attribute_view}
use Rattle.bios_attr.specs.EntryParts.{entry_in, entry_of, is_in_parts}
use Rattle.record_kinds.specs.declared.limits.Limits.{Limits}
use Rattle.record_kinds.specs.declared.limits.Limits.TheVariants as limits
use Rattle.record_kinds.specs.Limits.{key_of, limits_at}
use Rattle.record_kinds.specs.Series.{Series, Reads, set_whole, sends}
use Rattle.bmc_board.specs.State.{State}
use Rattle.model_undo.specs.Family.{AllValid}
use Rattle.model_undo.specs.Undoable.{CanUndo}
use Rattle.model_undo.specs.CleanSeries.{AnswersAll, GoAll}
use Rattle.model_lab.specs.Family.{answer}
use Rattle.undo_plans.specs.declared.names.Names.{Names}
use Rattle.model_headline.specs.Tied.{own_family}

-- how many parts an entry has: one, or its length divided by that of a part, rounded up
abbrev pub parts_of : List ℕ → ℕ
parts_of entry = if goes_whole entry then 1 else ((length entry + (part_length - 1)) / part_length)

-- how many requests carry this request out
abbrev pub set_count : Asked → ℕ
set_count asked = if is_in_parts asked then parts_of (entry_of asked) else 1

-- how many requests get a record with these limits and this value
abbrev pub get_count : Option Limits → Option (List ℕ) → ℕ
get_count (Some (limits.BiosAttribute own)) (Some value) = parts_of (entry_in (attribute_view own value))
get_count _ _ = 1

module _ (setup : BoardFile) (names : Names) where
  -- how many requests get the record of this name
  abbrev pub parts_at : Records → Key → ℕ
  parts_at records key = get_count (limits_at setup key) (records key)

  -- how many these steps take, from this board on: each gets what it finds, and sets its own
  abbrev pub step_parts : (steps : List Op) (requests : ℕ) (board after : State) → GoAll (own_family setup names) (answer setup) steps requests board after → ℕ
  step_parts [] requests board after go = 0
  step_parts (op ∷ ops) requests board after go = parts_at board.records (key_of op) + set_count (set_whole op) + step_parts ops go.2 go.0 after go.4

  -- how many these series take, the last step's first: each sets what its step found
  abbrev pub back_parts : (plan : List Op) (start : Records) (steps : ℕ) (undo : List Series) (records : Records) → CanUndo (own_family setup names) plan start steps undo records → ℕ
  back_parts plan start zero [] records can = 0
  back_parts plan start zero (series ∷ more) records can = absurd can
  back_parts plan start (suc step) [] records can = absurd can
  back_parts plan start (suc step) (series ∷ more) records can = parts_at can.0 (key_of can.2.op) + back_parts plan start step more can.0 can.1

-- where a board of valid records answers all requests of a Get or of a Set, they are so many
pub record TakesParts (setup : BoardFile) (names : Names) : Type 0 where
  pub gets : (key : Key) (bodies : List (List ℕ)) (board after : State) → AllValid (own_family setup names) board.records → AnswersAll (own_family setup names) (answer setup) (Reads key) bodies board after
      → length bodies ≡ get_count (limits_at setup key) (board.records key)
  pub sets : (op : Op) (bodies : List (List ℕ)) (board after : State) → AnswersAll (own_family setup names) (answer setup) (sends op) bodies board after → length bodies ≡ set_count (set_whole op)
