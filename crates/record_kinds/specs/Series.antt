-- The requests by which a record is got and a request that sets one is carried out: a series, of which each is sent once the one before it was
-- answered. All but those of long attributes are one request.
use Rattle.std.specs.Prelude.{ℕ, List, [], ◌∷◌, length, Option, Some, None}
use Rattle.std.specs.Option.{unwrap_or}
use Rattle.record_base.specs.declared.key.Key.{Key}
use Rattle.record_base.specs.declared.key.Key.TheVariants as key
use Rattle.record_base.specs.declared.op.Op.{Op}
use Rattle.record_base.specs.declared.message.Asked.{Asked}
use Rattle.bios_attr.specs.EntryParts.{first_part, first_request, request_at, with_body, get_part, get_after}
use Rattle.record_kinds.specs.declared.limits.Limits.{Limits}
use Rattle.record_kinds.specs.declared.limits.Limits.TheVariants as limits
use Rattle.record_kinds.specs.Limits.{words, get_asked, set_asked}

pub data Series : Type 0 where
  -- they get the record
  Reads : Key → Series
  -- they carry this request out
  Sends : Asked → Series

-- the request that carries the operation out, with all its data, however many these are
abbrev pub set_whole : Op → Asked
set_whole op = with_body (set_asked op) (words.set_data op)

-- the series that carries the operation out
abbrev pub sends : Op → Series
sends op = Sends (set_whole op)

-- the first request
abbrev pub first_of : Series → Asked
first_of (Reads key) = get_asked key
first_of (Sends asked) = first_request asked

-- the request after replies with these data, none where that was the last
abbrev pub next_after : Series → List (List ℕ) → Option Asked
next_after (Reads (key.BiosAttribute handle)) bodies = get_after handle bodies
next_after (Reads _) bodies = None
next_after (Sends asked) bodies = request_at asked (length bodies)

-- the request that is open after replies with these data
abbrev pub request_after : Series → List (List ℕ) → Asked
request_after series [] = first_of series
request_after series (body ∷ bodies) = unwrap_or (next_after series (body ∷ bodies)) (first_of series)

-- what the first reply to a Get shows, of the data that show the record: all, or the first part of a long attribute's entry
abbrev pub first_shown : Limits → List ℕ → List ℕ
first_shown (limits.BiosAttribute own) reply = first_part reply
first_shown _ reply = reply

-- the request for the part of a record behind so many bytes: an attribute's goes in parts
abbrev pub get_next : Key → (transfer : ℕ) → Option Asked
get_next (key.BiosAttribute handle) transfer = Some (get_part handle transfer)
get_next _ transfer = None
