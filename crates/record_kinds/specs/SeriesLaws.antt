-- What the first reply to a Get shows, of a record of any kind.
use Rattle.std.proofs.Common.{◌≡◌, ℕ, ◌≤◌, ap, sym, ◌∙◌, List, length, Bool, true, false, if◌then◌else◌, Some, None, refl, arith}
use Rattle.std.specs.Option.{option_map}
use Rattle.record_base.specs.declared.key.Key.{Key}
use Rattle.record_base.specs.declared.key.Key.TheVariants as key
use Rattle.record_base.specs.declared.op.Op.{Op}
use Rattle.record_base.specs.declared.op.Op.TheVariants as op
use Rattle.record_base.specs.declared.live.Live.{Live}
use Rattle.record_base.specs.declared.bios_attribute.SetBiosAttribute.{SetBiosAttribute}
use Rattle.record_base.specs.Meaning.{room_for}
use Rattle.bios_attr.specs.declared.bios_attribute.AttributeLimits.{AttributeLimits}
use Rattle.bios_attr.specs.BiosAttribute.{is_attribute_reply, undo_attribute}
use Rattle.bios_attr.specs.EntryParts.{first_part}
use Rattle.bios_attr.specs.EntryPartsLaws.{first_part_short, first_whole}
use Rattle.record_kinds.specs.declared.limits.Limits.{Limits}
use Rattle.record_kinds.specs.declared.limits.Limits.TheVariants as limits
use Rattle.record_kinds.specs.Limits.{key_of, inverse, is_of, valid, view, conf, get_asked}
use Rattle.record_kinds.specs.LimitsLaws.{record_laws}
use Rattle.record_kinds.specs.Series.{first_shown}

-- ---- of which records

-- the key is an attribute's
abbrev is_attribute : Key → Bool
is_attribute (key.BiosAttribute handle) = true
is_attribute _ = false

abbrev are_attribute : Limits → Bool
are_attribute (limits.BiosAttribute own) = true
are_attribute _ = false

no_attribute : (l : Limits) (handle : ℕ) → are_attribute l ≡ false → is_of l (key.BiosAttribute handle) → ⊥
no_attribute (limits.BiosAttribute own) handle other is = cc
no_attribute _ handle other is = absurd is

others_key : (l : Limits) (k : Key) → are_attribute l ≡ false → is_of l k → is_attribute k ≡ false
others_key l (key.BiosAttribute handle) other is = absurd (no_attribute l handle other is)
others_key l _ other is = refl

-- ---- how long it is

attribute_short : (own : AttributeLimits) (k : Key) (shown : List ℕ) → is_of (limits.BiosAttribute own) k → length (first_part shown) ≤ room_for (get_asked k)
attribute_short own (key.BiosAttribute handle) shown is = omega (arith, first_part_short shown)
attribute_short own _ shown is = absurd is

other_short : (l : Limits) (k : Key) (value : List ℕ) (live : Live) → is_of l k → valid l value → is_attribute k ≡ false → length (view l value live) ≤ room_for (get_asked k)
other_short l (key.BiosAttribute handle) value live is is_valid other = cc
other_short l k value live is is_valid other = (record_laws l).get_short k value live is is_valid

-- it fits the frame or message that carries it
pub first_short : (l : Limits) (k : Key) (value : List ℕ) (live : Live) → is_of l k → valid l value → length (first_shown l (view l value live)) ≤ room_for (get_asked k)
first_short (limits.BiosAttribute own) k value live is is_valid = attribute_short own k (view (limits.BiosAttribute own) value live) is
first_short l k value live is is_valid = other_short l k value live is is_valid (others_key l k refl is)

-- ---- its configuration

-- the activity doesn't change the configuration bytes of a first reply
pub first_steady : (l : Limits) (value : List ℕ) (live other : Live) → conf l (first_shown l (view l value live)) ≡ conf l (first_shown l (view l value other))
first_steady (limits.BiosAttribute own) value live other = refl
first_steady l value live other = (record_laws l).steady value live other

-- ---- what it is enough for

-- an operation is made of a whole reply
made_where : (b : Bool) (undo : SetBiosAttribute) (made : Op) → option_map op.BiosAttribute (if b then Some undo else None) ≡ Some made → b ≡ true
made_where true undo made at = refl
made_where false undo made at = cc

attribute_undoes : (own : AttributeLimits) (o : Op) (shown : List ℕ) (made : Op) → is_of (limits.BiosAttribute own) (key_of o) → inverse o (first_part shown) ≡ Some made → inverse o shown ≡ Some made
attribute_undoes own (op.BiosAttribute o) shown made is at =
    sym (ap (inverse (op.BiosAttribute o)) (first_whole shown (made_where (is_attribute_reply (first_part shown)) (undo_attribute (first_part shown)) made at))) ∙ at
attribute_undoes own _ shown made is at = absurd is

-- an operation that undoes another from the first reply undoes it from all data
pub undoes_whole : (l : Limits) (o : Op) (shown : List ℕ) (made : Op) → is_of l (key_of o) → inverse o (first_shown l shown) ≡ Some made → inverse o shown ≡ Some made
undoes_whole (limits.BiosAttribute own) o shown made is at = attribute_undoes own o shown made is at
undoes_whole _ o shown made is at = at
