-- The texts of a backup's plans.
use Rattle.std.specs.Prelude.{ℕ, List, [], ◌∷◌, ◌++◌, String, string_bytes}
use Rattle.std.specs.declared.alloc.Global.{Global}
use Rattle.record_base.specs.declared.op.Op.{Op}
use Rattle.shown_records.specs.KeptText.{IsPlanText}
use Rattle.app_show.specs.declared.backup.Backup.{Backup}

-- the steps of each plan of a backup
abbrev pub plans_of : Backup → List (List Op)
plans_of backup = backup.full.items ++ backup.last ∷ []

-- each text is that of the plan at its place
abbrev pub ArePlans : List (String Global) → (plans : List (List Op)) → Type 0
ArePlans [] [] = Unit {0}
ArePlans (text ∷ texts) (steps ∷ later) = IsPlanText (string_bytes text) steps × ArePlans texts later
ArePlans _ _ = ⊥

-- the texts, one behind another
abbrev pub all_of : List (String Global) → List ℕ
all_of [] = []
all_of (text ∷ later) = string_bytes text ++ all_of later
