-- What faults are called.
use Rattle.std.specs.Prelude.{ℕ, List, codes}
use Rattle.model_lab.specs.declared.fault.Fault.{Fault}
use Rattle.model_lab.specs.declared.fault.Fault.TheVariants as fault

-- each by its name
abbrev pub fault_name : Fault → List ℕ
fault_name fault.NoFrame = codes "NoFrame"
fault_name fault.WrongWay = codes "WrongWay"
fault_name fault.Aged = codes "Aged"
fault_name fault.Changing = codes "Changing"
fault_name fault.Impersonates = codes "Impersonates"
fault_name fault.Forged = codes "Forged"
fault_name fault.StillOpen = codes "StillOpen"
fault_name fault.Room = codes "Room"
