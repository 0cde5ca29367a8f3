-- What the replies to a record's Get show a manager.
use Rattle.std.specs.Prelude.{ℕ, List, [], ◌∷◌, Bool, ◌==◌, ◌&&◌, if◌then◌else◌}
use Rattle.record_base.specs.Requests.{byte_at}
use Rattle.record_base.specs.declared.key.Key.{Key}
use Rattle.record_base.specs.declared.key.Key.TheVariants as key
use Rattle.pldm_base.specs.Parts.{goes_whole}
use Rattle.bios_attr.specs.EntryParts.{start_and_end, transfer_handle, entry_in, joined}

-- the reply shows the whole of an attribute's entry as `entry_part` gives it: its next handle is 0, its flag 05h, and its entry goes whole
abbrev pub is_whole : List ℕ → Bool
is_whole body = (byte_at body 4 == start_and_end) && ((transfer_handle body == 0) && goes_whole (entry_in body))

-- what all replies to the Get show together: nothing of an attribute, where they aren't such a reply alone, or parts of which the last ends the entry
abbrev pub shown_by : Key → List (List ℕ) → List ℕ
shown_by (key.BiosAttribute handle) (body ∷ []) = if is_whole body then body else []
shown_by key bodies = joined bodies
