-- The windows of a port, and the lists of what it did that leave them so.
use Rattle.std.specs.Prelude.{◌≡◌, ℕ, ◌<◌, ◌≤◌, ◌↔◌, true, length, List, [], ◌∷◌, Option, Some, None, slice_index_or, slice_get}
use Rattle.std.specs.Option.{option_map, option_and_then}
use Rattle.std.specs.Str.{bytes_eq}
use Rattle.model_bus.specs.Request.{requester_bytes, Kept, Entry}
use Rattle.model_bus.specs.Carried.{most_windows}
use Rattle.model_bus.specs.Window.{windows_of, AllOnCircle}
use Rattle.model_bus.specs.Slots.{AreSlots}
use Rattle.bmc_core.specs.Circle.{is_circle}
use Rattle.bmc_core.specs.Window.{WindowEntry, Room, pair_at}

-- `most_windows` windows: the window of each requester, the requester of each window, and what each window holds
pub record HeldWindows : Type 0 where
  pub slots : List (Option ℕ)
  pub owners : List (Option ℕ)
  pub rooms : List Room

-- any byte may have one of the windows; numbers go round one of the two circles, and a place's capacity fits
pub record AreSoundWindows (numbers capacity : ℕ) (held : HeldWindows) : Type 0 where
  pub bytes : length held.slots ≡ requester_bytes
  pub owners : length held.owners ≡ most_windows
  pub rooms : length held.rooms ≡ most_windows
  pub circle : is_circle numbers ≡ true
  pub fits : capacity ≤ 65535

-- how a port reads the bytes that it keeps, of a request and of a reply; it reads no two requests as the same
pub record Reading : Type 0 where
  pub request : List ℕ → List ℕ
  pub reply : List ℕ → List ℕ
  pub same : (one other : List ℕ) → bytes_eq (request one) (request other) ≡ bytes_eq one other

-- the window that a requester has
abbrev pub slot_of : HeldWindows → ℕ → Option ℕ
slot_of held requester = slice_index_or held.slots requester None

-- the requester that has a window
abbrev pub owner_of : HeldWindows → ℕ → Option ℕ
owner_of held slot = slice_index_or held.owners slot None

-- what a window has under a number
abbrev pub pair_in : HeldWindows → Option ℕ → ℕ → Option WindowEntry
pair_in held None number = None
pair_in held (Some slot) number = option_and_then (λ room. pair_at room number) (slice_get held.rooms slot)

-- the request and the reply that a pair says
abbrev pub kept_from : Reading → ℕ → ℕ → WindowEntry → Kept
kept_from reading requester number pair =
    record { request = record { requester = requester; number = number; bytes = reading.request pair.request }; reply = reading.reply pair.reply }

-- a requester's row under a number
abbrev pub row : Reading → HeldWindows → ℕ → ℕ → Option Kept
row reading held requester number = option_map (kept_from reading requester number) (pair_in held (slot_of held requester) number)

-- those that are there
abbrev pub somes : List (Option ℕ) → List ℕ
somes [] = []
somes (None ∷ options) = somes options
somes (Some requester ∷ options) = requester ∷ somes options

-- the windows are those that a log of what was carried out, and of idle requesters, leaves
pub record WindowsKeep (numbers : ℕ) (reading : Reading) (held : HeldWindows) (log : List Entry) : Type 0 where
  pub rows : (requester number : ℕ) → number < numbers → row reading held requester number ≡ windows_of numbers log requester number
  -- exactly the log's requesters have a window
  pub requesters : AreSlots (somes held.owners) log
  -- a requester has a window exactly where the window has that requester
  pub own : (requester slot : ℕ) → (slot_of held requester ≡ Some slot) ↔ (owner_of held slot ≡ Some requester)
  pub on_circle : AllOnCircle numbers log
