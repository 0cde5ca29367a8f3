-- Which records a controller is asked for, in which order, by what it tells.
use Rattle.std.specs.Prelude.{◌≡◌, ◌⊎◌, ◌<◌, ℕ, suc, max, Bool, true, false, List, [], ◌∷◌, ◌++◌, map, Option, Some, None, is_none}
use Rattle.record_base.specs.declared.key.Key.{Key}
use Rattle.record_base.specs.declared.key.Key.TheVariants.{BiosAttribute}
use Rattle.record_base.specs.Numbers.{user_in}
use Rattle.app_show.specs.declared.keys.IdRange.{IdRange}
use Rattle.app_show.specs.Keys.{access_key, channels, effecter_keys, later_access_keys, name_keys, numbered_keys}

-- a record that was asked for, and the first byte that its Get showed, if it is there
pub record Told : Type 0 where
  pub key : Key
  pub first : Option ℕ

-- which records were asked for, and what was told of them
abbrev pub Asking : Type 1
Asking = List Told → Type 0

-- ---- kinds of asking

-- for each of these records
abbrev pub AsksEach : List Key → Asking
AsksEach keys told = map (λ (one : Told). one.key) told ≡ keys

-- for one, of which this was told
abbrev pub AsksOne : Key → (first : Option ℕ) → Asking
AsksOne key first told = told ≡ record { key = key; first = first } ∷ []

-- in one way, and then in another
abbrev pub AsksThen : (first second : Asking) → Asking
AsksThen first second told = (before behind : List Told) × (told ≡ before ++ behind) × first before × second behind

-- so, and no further: reading ended early
abbrev pub Begins : Asking → Asking
Begins asking told = (rest : List Told) × asking (told ++ rest)

-- so many in a row are so, with this one behind so many
abbrev pub with_next : (is_so : Bool) → (before : ℕ) → ℕ
with_next true before = suc before
with_next false before = 0

-- ---- on IPMB

-- how many users a channel has at most: bits 5:0 of the first byte of Get User Access (IPMI 2.0, 22.27), and none where that isn't answered
abbrev pub users_in : Option ℕ → ℕ
users_in (Some first) = (user_in first).number
users_in None = 0

-- for what the first user may do on a channel, and then, by how many users that tells of, the others
abbrev pub AsksAccesses : (channel users : ℕ) → Asking
AsksAccesses channel users [] = ⊥
AsksAccesses channel users (one ∷ later) =
    (one.key ≡ access_key channel 1) × (users ≡ users_in one.first) × AsksEach (later_access_keys channel users) later

abbrev pub AsksSomeAccesses : (channel : ℕ) → Asking
AsksSomeAccesses channel told = (users : ℕ) × AsksAccesses channel users told

-- on each channel; the most users of one are so many, with those that are known before
abbrev pub AsksUsers : List ℕ → (known most : ℕ) → Asking
AsksUsers [] known most told = (most ≡ known) × (told ≡ [])
AsksUsers (channel ∷ later) known most told = (users : ℕ) × AsksThen (AsksAccesses channel users) (AsksUsers later (max known users) most) told

abbrev pub AsksSomeUsers : List ℕ → Asking
AsksSomeUsers channels told = (most : ℕ) × AsksUsers channels 0 most told

-- and then for the names of so many
abbrev pub AsksPeople : Asking
AsksPeople told = (most : ℕ) × AsksThen (AsksUsers channels 0 most) (AsksEach (name_keys most)) told

abbrev pub AsksIpmb : Asking
AsksIpmb told = AsksThen (AsksEach numbered_keys) AsksPeople told

-- ---- on SMBus

-- so many handles in a row that show no attribute end the search for more
abbrev pub most_absent : ℕ
most_absent = 4

-- a handle has 16 bits (DSP0247)
abbrev pub handle_count : ℕ
handle_count = 65536

-- for attributes from a handle on, behind so many handles in a row that show none
abbrev pub AsksHandles : (handle absent : ℕ) → Asking
AsksHandles handle absent [] = (absent ≡ most_absent) ⊎ (handle ≡ handle_count)
AsksHandles handle absent (one ∷ later) = (absent < most_absent) × (handle < handle_count) × (one.key ≡ BiosAttribute handle)
    × AsksHandles (suc handle) (with_next (is_none one.first) absent) later

abbrev pub AsksSmbus : List IdRange → Asking
AsksSmbus effecters told = AsksThen (AsksHandles 0 0) (AsksEach (effecter_keys effecters)) told

-- ---- on both, or on IPMB alone
abbrev pub AsksAll : (smbus : Bool) → List IdRange → Asking
AsksAll false effecters told = AsksIpmb told
AsksAll true effecters told = AsksThen AsksIpmb (AsksSmbus effecters) told
