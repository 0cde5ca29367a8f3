-- Which events of a sensor are enabled (IPMI 2.0). A value has five bytes: the flags (bit 7 event messages, bit 6 scanning), the mask of
-- the enabled assertions, and the mask of the enabled deassertions, each the low byte first. Bit i of a mask stands for the
-- event of offset i.
use Rattle.std.specs.Prelude.{◌≡◌, ℕ, ◌+◌, ◌*◌, ◌/◌, ◌%◌, ◌<◌, List, [], ◌∷◌, length, slice_index, Bool, ◌||◌, not, IsTrue, if◌then◌else◌}
use Rattle.record_base.specs.Masks.{has, all_below}
use Rattle.record_base.specs.declared.event_enable.EventMasks.{EventMasks}

-- ---- sets of events

-- each event of a mask of sixteen is one of the others
abbrev pub AreWithin : ℕ → ℕ → Type 0
AreWithin events others = (offset : ℕ) → offset < 16 → IsTrue (has events offset) → IsTrue (has others offset)

-- a sensor can have these supported and these enabled events: each supported event belongs to a threshold (two events to each of six),
-- and each enabled event is supported
abbrev pub CanEnable : ℕ → EventMasks → Type 0
CanEnable supported enabled = (supported < 4096) × AreWithin enabled.assertions supported × AreWithin enabled.deassertions supported

-- the test that each event of a mask is one of the others
unfoldable pub are_within : ℕ → ℕ → Bool
are_within events others = all_below (λ offset. not (has events offset) || has others offset) 16

-- ---- the bytes of a value

-- the flags, in bits 7 and 6
abbrev pub flags_byte : Bool → Bool → ℕ
flags_byte messages scanning = (if messages then 128 else 0) + (if scanning then 64 else 0)

abbrev pub makes_messages : ℕ → Bool
makes_messages flags = has flags 7

abbrev pub is_scanning : ℕ → Bool
is_scanning flags = has flags 6

-- the value of these flags and events
abbrev pub event_value : Bool → Bool → EventMasks → List ℕ
event_value messages scanning enabled =
    flags_byte messages scanning
    ∷ enabled.assertions % 256 ∷ enabled.assertions / 256 % 256
    ∷ enabled.deassertions % 256 ∷ enabled.deassertions / 256 % 256 ∷ []

-- the events that a value enables
abbrev pub enabled_in : List ℕ → EventMasks
enabled_in value = record {
  assertions = slice_index value 1 + 256 * slice_index value 2;
  deassertions = slice_index value 3 + 256 * slice_index value 4;
}

-- five bytes, of which the first has no bits but the flags
pub record IsEventValue (value : List ℕ) : Type 0 where
  pub five : length value ≡ 5
  pub flags : slice_index value 0 ≡ flags_byte (makes_messages (slice_index value 0)) (is_scanning (slice_index value 0))
  pub bytes : (place : ℕ) → place < 5 → slice_index value place < 256

-- a value that a sensor can have: the events that it enables are supported
pub record IsEventEnable (supported : ℕ) (value : List ℕ) : Type 0 where
  pub is_value : IsEventValue value
  pub assertions : AreWithin (enabled_in value).assertions supported
  pub deassertions : AreWithin (enabled_in value).deassertions supported
