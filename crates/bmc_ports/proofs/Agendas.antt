-- A timetable that is gone through once, and is served until that is over.
use Rattle.std.proofs.Common.{◌≡◌, ◌⊎◌, inl, inr, refl, subst, Bool, false}
use Rattle.bmc_ports.specs.declared.agenda.Agenda.{Agenda}
use Rattle.bmc_ports.specs.declared.timetable.Timetable.{Timetable}
use Rattle.bmc_ports.specs.Lending.{once_through}

-- an agenda of a timetable that isn't repeated is the timetable, gone through once
pub is_once : (agenda : Agenda) (table : Timetable) → agenda.table ≡ table → agenda.repeats ≡ false → agenda ≡ once_through table
is_once agenda table is how =
    let same : Agenda → Timetable → Bool → Type 0 = λ a t r. a ≡ record { table = t; repeats = r } in
    subst (λ (t : Timetable). same agenda t false) is (subst (λ (r : Bool). same agenda agenda.table r) how refl)

-- where the other way isn't open, it is the one
pub only_one : {A : Type 0} → A ⊎ ⊥ → A
only_one (inl a) = a
only_one (inr none) = absurd none
