use Rattle.std.proofs.Common.{◌≤◌, ◌-◌, List, Bool, ◌++◌, length}
use Rattle.two_wire.specs.Polynomial.{zeros}
use Rattle.pldm_base.specs.Register.{ReducesTo, loaded}
use Rattle.pldm_base.proofs.crc.with_byte.Given as goal

abbrev pub invariant-loop : goal.invariant-loop
invariant-loop l = (rest : List Bool) → 32 ≤ length rest
    → ReducesTo (loaded l.initial.next (zeros 8 ++ rest)) (loaded l.next (zeros (8 - l.counter) ++ rest))
