use Rattle.std.proofs.Common.{◌≡◌, ◌/◌, ◌%◌, slice_index, Bool, true, false, not, refl}
use Rattle.record_base.specs.Masks.{has}
use Rattle.record_base.specs.MaskLaws.{all_below-at}
use Rattle.bmc_board.specs.Table.{is_pldm_type}
use Rattle.bmc_board.specs.Live.{pldm_types}
use Rattle.bmc_board.proofs.laws.pldm_types_law.Goals as goal

-- whether two tests agree
abbrev agree : Bool → Bool → Bool
agree true b = b
agree false b = not b

same : (a b : Bool) → agree a b ≡ true → a ≡ b
same true true h = refl
same true false h = cc
same false true h = cc
same false false h = refl

pub returns : goal.returns
returns c = λ kind below. same _ _ (all_below-at (λ k. agree (has (slice_index pldm_types (k / 8)) (k % 8)) (is_pldm_type k)) 64 refl kind below)
