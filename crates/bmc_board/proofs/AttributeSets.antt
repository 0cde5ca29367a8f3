-- What SetBIOSAttributeCurrentValue asks for, by the flag of its data.
use Rattle.std.proofs.Common.{◌≡◌, ◌≢◌, ℕ, List, refl}
use Rattle.std.proofs.lemmas.Bool.{ne_eqb}
use Rattle.record_base.specs.Requests.{byte_at}
use Rattle.bmc_board.specs.AttributeCommands.{attribute_set, whole_asked, part_asked}

module _ (from : ℕ) (body : List ℕ) (flag : ℕ) (same : flag ≡ byte_at body 4) where
  pub asks_whole : flag ≡ 5 → attribute_set from body ≡ whole_asked body
  asks_whole is = rw (← same, is) refl

  pub asks_part : flag ≢ 5 → attribute_set from body ≡ part_asked from body
  asks_part other = rw (← same, ne_eqb flag 5 other) refl
