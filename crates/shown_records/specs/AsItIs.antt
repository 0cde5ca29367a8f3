-- The operation that sets a record to what its Get shows.
use Rattle.std.specs.Prelude.{◌≡◌, ℕ, List, ◌==◌, nat_le, slice_index, Option, Some, None, Result, Ok, Err, if◌then◌else◌}
use Rattle.record_base.specs.declared.key.Key.{Key}
use Rattle.record_base.specs.declared.key.Key.TheVariants as key
use Rattle.record_base.specs.declared.op.Op.{Op}
use Rattle.record_base.specs.declared.live.Live.{Live}
use Rattle.record_base.specs.Sensor.EventEnable.{AreWithin, enabled_in}
use Rattle.record_kinds.specs.declared.limits.Limits.{Limits}
use Rattle.record_kinds.specs.Limits.{conf, inverse, is_of, key_of, valid, view}
use Rattle.user_chan.specs.UserNames.{nameless}
use Rattle.shown_records.specs.declared.as_it_is.Unsaid.{Unsaid}
use Rattle.shown_records.specs.declared.as_it_is.Unsaid.TheVariants.{NoThreshold, FirstUser, ReadOnly, NotRestorable}
use Rattle.shown_records.specs.declared.meaning.Meaning.TheVariants.{Same}
use Rattle.shown_records.specs.Foresight.{Takes}
use Rattle.shown_records.specs.Meaning.{Means}
use Rattle.shown_records.specs.Probes.{probe}

-- why no request sets the record, by what its Get shows: no threshold can be read, the first user's name can't be set, and the type of an
-- attribute that can only be read has bit 7
abbrev pub unsaid_of : Key → List ℕ → Option Unsaid
unsaid_of (key.Thresholds sensor) shown = if slice_index shown 0 == 0 then Some NoThreshold else None
unsaid_of (key.UserName user) shown = if user.number == nameless then Some FirstUser else None
unsaid_of (key.BiosAttribute handle) shown = if nat_le 0x80 (slice_index shown 7) then Some ReadOnly else None
unsaid_of _ shown = None

abbrev pub said : Option Unsaid → Option Op → Result Op Unsaid
said (Some why) back = Err why
said None (Some op) = Ok op
said None None = Err NotRestorable

-- what takes an operation back that changes all that the Get shows
abbrev pub as_it_is : Key → List ℕ → Result Op Unsaid
as_it_is key shown = said (unsaid_of key shown) (inverse (probe key shown) shown)

-- ---- what it says of every board

-- a sensor has no other events enabled than it had at the first value
abbrev pub NoOthers : (value old : List ℕ) → Type 0
NoOthers value old =
    AreWithin (enabled_in old).assertions (enabled_in value).assertions
    × AreWithin (enabled_in old).deassertions (enabled_in value).deassertions

-- the operation sets the record whole: that of a sensor's events enables events, and leaves the others
abbrev pub IsWhole : Key → (value old : List ℕ) → Type 0
IsWhole (key.EventEnable sensor) value old = NoOthers value old
IsWhole _ value old = Unit {0}

-- The operation is on the record. Where the record accepts it, it sets the record from any other value to what shows the configuration again that
-- the Get showed, and has the meaning that it leaves the record as the Get showed it.
pub record SetsBack : Type 0 where
  pub same_record : (limits : Limits) (key : Key) (op : Op) (value : List ℕ) (live : Live) → is_of limits key → valid limits value
      → as_it_is key (view limits value live) ≡ Ok op → key_of op ≡ key
  pub shows_again : (limits : Limits) (key : Key) (op : Op) (value old new : List ℕ) (live other : Live) → is_of limits key → valid limits value
      → IsWhole key value old → as_it_is key (view limits value live) ≡ Ok op → Takes limits op old new
      → conf limits (view limits new other) ≡ conf limits (view limits value live)
  pub leaves : (limits : Limits) (key : Key) (op : Op) (value new : List ℕ) (live : Live) → is_of limits key
      → as_it_is key (view limits value live) ≡ Ok op → Takes limits op value new → Means op (view limits value live) Same
