-- A request has no more bytes of a value than the most.
use Rattle.std.proofs.Common.{◌≡◌, ℕ, ◌≤◌, List, length, take, subst, arith}
use Rattle.std.proofs.Props.{props}
use Rattle.std.proofs.lemmas.List.{length-take, take_all}
use Rattle.record_base.specs.declared.bios_attribute.SetBiosAttribute.{SetBiosAttribute}
use Rattle.record_base.specs.AttributeSizes.{most_sent}

pub few_sent : (bytes : List ℕ) → length (take most_sent bytes) ≤ most_sent
few_sent bytes = omega (arith, length-take most_sent bytes)

fits_prop : (bytes : List ℕ) → IsProp (length bytes ≤ most_sent)
fits_prop bytes = hlevel props

abbrev setting_to : (attribute code : ℕ) (bytes : List ℕ) → length bytes ≤ most_sent → SetBiosAttribute
setting_to attribute code bytes fits = record { attribute = attribute; attribute_type = code; value = bytes; fits = fits }

-- operations with the same bytes are the same
pub same_setting : (attribute code : ℕ) (a b : List ℕ) (p : length a ≤ most_sent) (q : length b ≤ most_sent) → a ≡ b → setting_to attribute code a p ≡ setting_to attribute code b q
same_setting attribute code a b p q same = subst (λ (bytes : List ℕ). (r : length bytes ≤ most_sent) → setting_to attribute code a p ≡ setting_to attribute code bytes r) same (λ r i. setting_to attribute code a (fits_prop a p r i)) q

-- a request has all bytes of a value that fits
pub sent_whole : (bytes : List ℕ) → length bytes ≤ most_sent → take most_sent bytes ≡ bytes
sent_whole bytes fits = take_all most_sent bytes fits
