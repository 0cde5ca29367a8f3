-- What a field is, in words.
use Rattle.std.specs.Prelude.{ℕ, ◌/◌, ◌%◌, Bool, true, false, Option, Some, None, List, [], ◌∷◌, ◌++◌, codes}
use Rattle.std.specs.Fmt.{decimal}
use Rattle.record_words.specs.declared.shown.Shown.{Shown}
use Rattle.record_words.specs.declared.shown.Shown.TheVariants.{Kept, Raw, Bits, Events, Number, Switch, Means, Name, Address, Masked, Boot, Bytes, Sized, Chosen}
use Rattle.record_words.specs.Digits.{hex_of, spaced_of}
use Rattle.record_words.specs.Quotes.{quoted, trimmed}
use Rattle.record_words.specs.Meanings.{meaning_words}
use Rattle.record_words.specs.NumberWords.{sized_words}
use Rattle.record_words.specs.BootWords.{way_words}

-- a byte that doesn't count, and one that does
abbrev pub bits_of : ℕ → List ℕ
bits_of byte = hex_of byte ++ codes "h"

abbrev pub raw_of : ℕ → List ℕ
raw_of byte = decimal byte ++ (codes " (" ++ (hex_of byte ++ codes "h)"))

-- sixteen bits
abbrev pub events_of : ℕ → List ℕ
events_of events = hex_of (events / 256) ++ (hex_of (events % 256) ++ codes "h")

-- the bits that are set, of those of a mask
abbrev pub masked_of : (mask bits : ℕ) → List ℕ
masked_of mask bits = codes "bits " ++ (hex_of bits ++ (codes "h of " ++ (hex_of mask ++ codes "h")))

-- a state, and its choice
abbrev pub chosen_of : (choice state : ℕ) → List ℕ
chosen_of choice state = decimal state ++ (codes " (choice " ++ (hex_of choice ++ codes "h)"))

-- an address: its four bytes with points between them; of other lists nothing
abbrev pub address_of : List ℕ → List ℕ
address_of (first ∷ second ∷ third ∷ fourth ∷ []) =
    decimal first ++ (codes "." ++ (decimal second ++ (codes "." ++ (decimal third ++ (codes "." ++ decimal fourth)))))
address_of _ = []

-- on or off
abbrev pub switch_of : Bool → List ℕ
switch_of true = codes "on"
switch_of false = codes "off"

-- what a field is
abbrev pub shown_words : Shown → List ℕ
shown_words Kept = codes "as it is"
shown_words (Raw byte) = raw_of byte
shown_words (Bits byte) = bits_of byte
shown_words (Events events) = events_of events
shown_words (Number number) = decimal number
shown_words (Switch on) = switch_of on
shown_words (Means what) = meaning_words what
shown_words (Name name) = quoted (trimmed name)
shown_words (Address bytes) = address_of bytes
shown_words (Masked it) = masked_of it.mask it.bits
shown_words (Boot way) = way_words way
shown_words (Bytes bytes) = codes "bytes" ++ spaced_of bytes
shown_words (Sized number) = sized_words number
shown_words (Chosen it) = chosen_of it.choice it.state

-- the words of those that `write_bits` writes, and of those that `write_others` writes
abbrev pub bits_words : Shown → Option (List ℕ)
bits_words (Raw byte) = Some (raw_of byte)
bits_words (Bits byte) = Some (bits_of byte)
bits_words (Events events) = Some (events_of events)
bits_words (Masked it) = Some (masked_of it.mask it.bits)
bits_words (Chosen it) = Some (chosen_of it.choice it.state)
bits_words _ = None

abbrev pub other_words : Shown → Option (List ℕ)
other_words (Number number) = Some (decimal number)
other_words (Name name) = Some (quoted (trimmed name))
other_words (Address bytes) = Some (address_of bytes)
other_words (Bytes bytes) = Some (codes "bytes" ++ spaced_of bytes)
other_words _ = None
