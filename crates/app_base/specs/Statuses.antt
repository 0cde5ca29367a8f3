-- How a run ends strictly, whose status says what came of it.
use Rattle.std.specs.Prelude.{ℕ, zero, suc, Bool, true, false}
use Rattle.model_undo.specs.declared.phase.Phase.{Phase}
use Rattle.model_undo.specs.declared.phase.Phase.TheVariants as phase
use Rattle.app_base.specs.declared.status.Status.{Status}
use Rattle.app_base.specs.declared.status.Status.TheVariants as ended

-- How a run ends whose manager was called to run its plan or to undo it, and is in this phase at its end. It is well where the manager did so. A
-- manager that is still at a step waits for a reply, and so does one that began nothing, since its greeting was not answered.
abbrev pub strict_status : Phase → Status
strict_status phase.Done = ended.Success
strict_status phase.Undone = ended.Success
strict_status (phase.Halted step why) = ended.Halted
strict_status (phase.UndoRefused step code) = ended.UndoRefused
strict_status (phase.Unsettled step) = ended.Unsettled
strict_status (phase.Getting step) = ended.Unsettled
strict_status (phase.Setting step) = ended.Unsettled
strict_status (phase.Undoing step) = ended.Unsettled
strict_status phase.Fresh = ended.Unsettled

-- a plan halted in this phase
abbrev pub halts : Phase → Bool
halts (phase.Halted step why) = true
halts _ = false

-- how a run ends at whose end so many records have another value than they began with
abbrev pub records_status : (changed : ℕ) → Status
records_status zero = ended.Success
records_status (suc more) = ended.RecordsChanged

-- How a run ends that tells in which phase its manager is, and how many records have another value than they began with. Once all is undone, and
-- where no plan began, none has; and a plan that was undone is well where it was done before, and hadn't halted.
abbrev pub end_status : Phase → (halted : Bool) → (changed : ℕ) → Status
end_status phase.Undone halted (suc more) = ended.RecordsChanged
end_status phase.Undone true zero = ended.Halted
end_status phase.Undone false zero = ended.Success
end_status phase.Fresh halted changed = records_status changed
end_status other halted changed = strict_status other
