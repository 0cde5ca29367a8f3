-- A reader gives the manager's requests back from their bytes, and an answer from the bytes of a reply.
use Rattle.std.proofs.Common.{◌≡◌, ℕ, ◌+◌, ◌*◌, ◌/◌, ◌%◌, List, Option, Some, None, refl, sym, subst, arith, inl, inr}
use Rattle.std.specs.Option.{option_map}
use Rattle.std.proofs.lemmas.Option.{none-some, same_Some}
use Rattle.two_wire.specs.declared.Bus.{Bus}
use Rattle.two_wire.specs.declared.Bus.TheVariants.{Ipmb, Smbus}
use Rattle.record_base.specs.declared.message.Asked.{Asked}
use Rattle.record_base.specs.declared.message.Asked.TheVariants.{Ipmi, Pldm}
use Rattle.record_kinds.specs.Series.{Series, first_of, next_after}
use Rattle.bmc_board.specs.Decode.{IsFromNobody}
use Rattle.bmc_board.specs.SeriesRead.{IsOfNobody, AreFromNobody}
use Rattle.bmc_board.proofs.Decoded.{sets_are_read}
use Rattle.bmc_board.proofs.SeriesFacts.{series_are_from_nobody}
use Rattle.model_bus.specs.Answered.{Answered}
use Rattle.model_bus.specs.Addresses.{Addresses}
use Rattle.model_undo.specs.Wires.{IsSeries, IsOneOf, IsMade}
use Rattle.bmc_core.specs.Wires.{bus_of, bytes_of, asked_from, reply_to, answered_from}
use Rattle.model_lab.specs.ManagerWords.{from_manager, manager_words}

-- the request is the manager's, to logical unit 0
abbrev pub IsManagers : (Bus → Addresses) → Asked → Type 0
IsManagers at (Ipmi from net_fn lun command body) = (from ≡ (at Ipmb).manager) × (lun ≡ 0)
IsManagers at (Pldm from kind command body) = from ≡ (at Smbus).manager

of_nobody : (at : Bus → Addresses) (asked : Asked) → IsFromNobody asked → IsManagers at (from_manager at asked)
of_nobody at (Ipmi from net_fn lun command body) is = (refl, is.1)
of_nobody at (Pldm from kind command body) is = refl

-- ---- each request of a series that the manager makes is the manager's, to logical unit 0

of_nobody_made : (at : Bus → Addresses) (series : Series) → IsSeries (manager_words at) series → IsOfNobody series
of_nobody_made at series (inl is) = subst IsOfNobody (sym is.1) tt
of_nobody_made at series (inr is) = subst IsOfNobody (sym is.1) (sets_are_read is.0).from_nobody

later_so : (at : Bus → Addresses) (next : Option Asked) (asked : Asked) → ((other : Asked) → next ≡ Some other → IsFromNobody other) → option_map (from_manager at) next ≡ Some asked → IsManagers at asked
later_so at None asked from is = absurd (none-some asked is)
later_so at (Some next) asked from is = subst (IsManagers at) (same_Some _ _ is) (of_nobody at next (from next refl))

one_of : (at : Bus → Addresses) (series : Series) (asked : Asked) → AreFromNobody series → IsOneOf (manager_words at) series asked → IsManagers at asked
one_of at series asked from (inl same) = subst (IsManagers at) (sym same) (of_nobody at (first_of series) from.first)
one_of at series asked from (inr another) = later_so at (next_after series another.0) asked (from.next another.0) another.1

pub managers : (at : Bus → Addresses) (asked : Asked) → IsMade (manager_words at) asked → IsManagers at asked
managers at asked made = one_of at made.0 asked (series_are_from_nobody made.0 (of_nobody_made at made.0 made.1)) made.2

pub upper : (n lun : ℕ) → lun ≡ 0 → (4 * n + lun) / 4 ≡ n
upper n lun zero = omega (arith, zero)

pub lower : (n lun : ℕ) → lun ≡ 0 → (4 * n + lun) % 4 ≡ lun
lower n lun zero = omega (arith, zero)

pub read_back : (at : Bus → Addresses) (number : ℕ) (asked : Asked) → IsManagers at asked → asked_from at (bus_of asked) (bytes_of number asked) ≡ asked
read_back at number (Ipmi from net_fn lun command body) is = λ i. Ipmi (sym is.0 i) (upper net_fn lun is.1 i) (lower net_fn lun is.1 i) command body
read_back at number (Pldm from kind command body) is = λ i. Pldm (sym is i) kind command body

pub reply_read : (bus : Bus) (bytes : List ℕ) (a : Answered) → answered_from bus (reply_to bus bytes a) ≡ a
reply_read Ipmb bytes a = refl
reply_read Smbus bytes a = refl
