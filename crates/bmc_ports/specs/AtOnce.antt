-- Works that are run at once.
use Rattle.std.specs.Prelude.{Result, IfOk}
use Rattle.bmc_ports.specs.declared.at_once.PairReturn.{PairReturn}
use Rattle.bmc_ports.specs.declared.at_once.TrioReturn.{TrioReturn}
use Rattle.bmc_ports.specs.declared.at_once.NoThread.{NoThread}

-- where both ran, each gave back what it may
abbrev pub BothGive : {T U : Type 0} → (first : T → Type 0) → (second : U → Type 0) → Result (PairReturn T U) NoThread → Type 0
BothGive first second result = IfOk result (λ both. first both.first × second both.second)

-- so it is of three
abbrev pub ThreeGive : {S T U : Type 0} → (scanner : S → Type 0) → (first : T → Type 0) → (second : U → Type 0) → Result (TrioReturn S T U) NoThread → Type 0
ThreeGive scanner first second result = IfOk result (λ three. scanner three.scanner × first three.first × second three.second)
