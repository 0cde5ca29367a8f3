-- Data that fit a message are not too many.
use Rattle.std.proofs.Common.{ℕ, ◌+◌, ◌≤◌, Bool, true, false, List, length, if◌then◌else◌, arith}
use Rattle.two_wire.specs.Sizes.{most_pldm_request_data}
use Rattle.record_base.specs.declared.message.Asked.TheVariants.{Pldm}
use Rattle.bios_attr.specs.EntryParts.{before_part, most_entry, is_in_parts}
use Rattle.undo_plans.specs.Fitting.{FitsMessages}

pub short_fits : (from kind command : ℕ) (body : List ℕ) → length body ≤ most_pldm_request_data → FitsMessages (Pldm from kind command body)
short_fits from kind command body few = at (is_in_parts (Pldm from kind command body)) where
  at : (parts : Bool) → length body ≤ (if parts then before_part + most_entry else most_pldm_request_data)
  at true = omega (arith, few)
  at false = few
