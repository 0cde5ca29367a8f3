-- How a schedule is written: a line for each event, numbers in decimal and bytes in upper-case hexadecimal.
use Rattle.std.specs.Prelude.{◌≡◌, ℕ, Bool, true, false, List, [], ◌∷◌, ◌++◌, map, nat_lt, Result, OnOk, string_bytes}
use Rattle.std.specs.List.{flat_map}
use Rattle.std.specs.Fmt.{decimal}
use Rattle.std.proofs.Common.{String}
use Rattle.hex.specs.Hex.{encode_upper}
use Rattle.text_lines.specs.Cuts.{LacksByte, line_feed, ended}
use Rattle.text_lines.specs.declared.event.Event.{Event}
use Rattle.text_lines.specs.declared.event.Event.TheVariants.{ToBmc, ToMgr}
use Rattle.text_lines.specs.EventLine.{Word, Name, Number, Digits, words_for, IsLineOf}
use Rattle.text_lines.specs.Schedule.{is_skipped}

-- a line can say the event: the number of a frame has nine digits at most
abbrev pub has_line : Event → Bool
has_line (ToBmc number) = nat_lt number 1000000000
has_line (ToMgr number) = nat_lt number 1000000000
has_line _ = true

-- a word, and what stands behind it after a space
abbrev pub said : List ℕ → List ℕ → List ℕ
said word rest = word ++ 32 ∷ rest

-- one byte in two digits
abbrev pub byte_digits : ℕ → List ℕ
byte_digits byte = encode_upper (byte ∷ [])

-- a word as it is written: a number in decimal, bytes in upper-case hexadecimal
abbrev pub written : Word → List ℕ
written (Name name) = name
written (Number number) = decimal number
written (Digits bytes) = encode_upper bytes

-- words, with a space between two of them
abbrev pub spaced : Word → List Word → List ℕ
spaced word [] = written word
spaced word (next ∷ words) = said (written word) (spaced next words)

abbrev pub line_with : List Word → List ℕ
line_with [] = []
line_with (word ∷ words) = spaced word words

-- the line that is written for an event
abbrev pub line_of : Event → List ℕ
line_of event = line_with (words_for event)

-- the text that is written for events: their lines, each of which a line feed ends
abbrev pub text_of : List Event → List ℕ
text_of events = flat_map ended (map line_of events)

-- the line says the event, and isn't skipped, wherever it stands in a text
pub record IsEventLine (line : List ℕ) (event : Event) : Type 0 where
  pub says : IsLineOf line event
  pub spoken : is_skipped line ≡ false
  pub whole : LacksByte line_feed line

-- so it is of the line that is written for the event
abbrev pub IsSaid : Event → Type 0
IsSaid event = IsEventLine (line_of event) event

-- unless memory was refused, the text has the event's line behind what it had
abbrev pub AddsLine : {Z : Type 0} {A E : Type 0} → Event → Result A E → (old new : String Z) → Type 0
AddsLine event result old new = OnOk result (string_bytes new ≡ string_bytes old ++ ended (line_of event))
