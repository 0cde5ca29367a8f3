-- What is so of each stage that a looker is at.
use Rattle.std.specs.Prelude.{◌≡◌, ℕ, zero, suc, ◌+◌, ◌*◌, Some}
use Rattle.std.proofs.Props.{props}
use Rattle.pldm_base.specs.Parts.{part_length}
use Rattle.bios_attr.specs.EntryParts.{before_part, most_entry}
use Rattle.undo_look.specs.Requests.{get_at}
use Rattle.undo_look.specs.declared.stage.Stage.{Stage}
use Rattle.undo_look.specs.declared.stage.Stage.TheVariants.{AtStart, Opened, Found, Refused}

-- the open request is the one of its place among those of its look
abbrev pub IsOpenGet : Stage → Type 0
IsOpenGet (Opened heeded target parts asked) = get_at target parts ≡ Some asked
IsOpenGet _ = Unit {0}

-- that holds in one way at most
pub IsOpenGet-prop : (stage : Stage) → IsProp (IsOpenGet stage)
IsOpenGet-prop AtStart = hlevel props
IsOpenGet-prop (Opened heeded target parts asked) = hlevel props
IsOpenGet-prop (Found target) = hlevel props
IsOpenGet-prop (Refused target code) = hlevel props

-- how many replies came to the open look
abbrev pub parts_at : Stage → ℕ
parts_at (Opened heeded target parts asked) = parts
parts_at _ = 0

-- how many bytes the data of so many replies have at most
abbrev pub most_joined : ℕ → ℕ
most_joined zero = before_part + most_entry
most_joined (suc parts) = before_part + part_length * suc parts
