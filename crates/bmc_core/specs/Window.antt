-- One requester's window: under each number a request that was carried out, and its reply.
use Rattle.std.specs.Prelude.{◌≡◌, ℕ, ◌<◌, ◌==◌, List, Option, Some, None, slice_get, if◌then◌else◌}
use Rattle.std.specs.Int.{bit_at}
use Rattle.std.specs.Str.{bytes_eq}
use Rattle.model_bus.specs.Numbering.{is_next}

-- a request that was carried out and its reply, as the bytes that are kept
pub record WindowEntry : Type 0 where
  pub request : List ℕ
  pub reply : List ℕ

-- the places of a window, one for each number, and which of them are in use, a bit for each number
pub record Room : Type 0 where
  pub used : ℕ
  pub places : List WindowEntry

-- what the window has under a number
abbrev pub pair_at : Room → ℕ → Option WindowEntry
pair_at room number = if bit_at room.used number == 1 then slice_get room.places number else None

-- the reply, if the request is of these bytes
abbrev pub reply_to : List ℕ → Option WindowEntry → Option (List ℕ)
reply_to bytes None = None
reply_to bytes (Some pair) = if bytes_eq bytes pair.request then Some pair.reply else None

-- a request that is carried out is kept at its number, in place of what was there, and the next half of the circle is forgotten
abbrev pub KeepsAtNumber : (numbers number : ℕ) → WindowEntry → Room → Room → Type 0
KeepsAtNumber numbers number pair old new =
    (place : ℕ) → place < numbers → pair_at new place ≡ (if place == number then Some pair else if is_next numbers number place then None else pair_at old place)

-- nothing is kept
abbrev pub IsEmpty : ℕ → Room → Type 0
IsEmpty numbers room = (number : ℕ) → number < numbers → pair_at room number ≡ None
