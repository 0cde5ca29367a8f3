-- The lines of a schedule: how each event is written.
use Rattle.std.specs.Prelude.{◌≡◌, ℕ, ◌<◌, ◌≤◌, ◌%◌, List, [], ◌∷◌, length, codes}
use Rattle.std.specs.List.{AllZip}
use Rattle.two_wire.specs.declared.Bus.TheVariants.{Ipmb, Smbus}
use Rattle.two_wire.specs.Buses.{bus_name}
use Rattle.two_wire.specs.Sizes.{most_frame_bytes, most_ipmi_request_data, most_message_bytes}
use Rattle.ipmb_frame.specs.Grammar.{packed}
use Rattle.model_undo.specs.declared.call.Call.{Call as Called}
use Rattle.model_undo.specs.declared.call.Call.TheVariants.{Start, Quiet, Stop, Again, Undo}
use Rattle.text_lines.specs.declared.event.OtherRequest.{OtherRequest}
use Rattle.text_lines.specs.declared.event.BenchEvent.TheVariants.{Scan, Tick}
use Rattle.text_lines.specs.declared.event.Event.{Event}
use Rattle.text_lines.specs.declared.event.Event.TheVariants.{Calls, ToBmc, ToMgr, OtherIpmb, OtherSmbus, Noise, Idle, OnBench}
use Rattle.text_lines.specs.ScheduleText.{words_of, IsNumber, AreHexBytes}

-- a call's name
abbrev pub call_name : Called → List ℕ
call_name Start = codes "start"
call_name Quiet = codes "quiet"
call_name Stop = codes "stop"
call_name Again = codes "again"
call_name Undo = codes "undo"

-- ---- the words of a line

-- a word that is to be written: a name, the number of a frame, or bytes
pub data Word : Type 0 where
  Name : List ℕ → Word
  Number : ℕ → Word
  Digits : List ℕ → Word

-- one byte, in digits
abbrev pub Byte : ℕ → Word
Byte byte = Digits (byte ∷ [])

-- the bytes of a request without addresses and checksums: netFn with the responder's logical unit, rqSeq with the requester's, cmd, and the data
abbrev pub bytes_of : OtherRequest → List ℕ
bytes_of request = packed request.net_fn request.responder ∷ packed request.sequence request.requester.lun ∷ request.command ∷ request.body

-- the words of an event's line
abbrev pub words_for : Event → List Word
words_for (Calls call) = Name (call_name call) ∷ []
words_for (ToBmc number) = Name (codes "to-bmc") ∷ Number number ∷ []
words_for (ToMgr number) = Name (codes "to-mgr") ∷ Number number ∷ []
words_for (OtherIpmb request) = Name (codes "other") ∷ Name (bus_name Ipmb) ∷ Byte request.requester.address ∷ Digits (bytes_of request) ∷ []
words_for (OtherSmbus message) = Name (codes "other") ∷ Name (bus_name Smbus) ∷ Byte message.from ∷ Digits message.body ∷ []
words_for (Noise on bytes) = Name (codes "noise") ∷ Name (bus_name on) ∷ Digits bytes ∷ []
words_for (Idle on requester) = Name (codes "idle") ∷ Name (bus_name on) ∷ Byte requester ∷ []
words_for (OnBench (Scan sensor reading)) = Name (codes "scan") ∷ Byte sensor ∷ Byte reading ∷ []
words_for (OnBench Tick) = Name (codes "tick") ∷ []

-- the first word, where it is a name
abbrev pub name_in : List Word → List ℕ
name_in (Name name ∷ words) = name
name_in _ = []

-- the first word of an event's line
abbrev pub event_name : Event → List ℕ
event_name event = name_in (words_for event)

-- ---- what a line says

-- the text is the word: a name itself, a number in 1 to 9 decimal digits, bytes in hexadecimal
abbrev pub SpellsWord : List ℕ → Word → Type 0
SpellsWord text (Name name) = text ≡ name
SpellsWord text (Number number) = IsNumber 9 text number
SpellsWord text (Digits bytes) = AreHexBytes text bytes

-- noise has at most so many bytes, as many as a frame
abbrev pub most_noise : ℕ
most_noise = most_frame_bytes

-- so many bytes at most, and at least one
pub record AreSome (most : ℕ) (bytes : List ℕ) : Type 0 where
  pub some : 0 < length bytes
  pub few : length bytes ≤ most

-- The bytes are the request's: an even netFn, and 0 to `most_ipmi_request_data` bytes of data. It comes from an even address.
pub record IsOtherRequest (request : OtherRequest) (bytes : List ℕ) : Type 0 where
  pub all : bytes ≡ bytes_of request
  pub net_fn : request.net_fn % 2 ≡ 0
  pub responder : request.responder < 4
  pub requester : request.requester.lun < 4
  pub few : length request.body ≤ most_ipmi_request_data
  pub address : request.requester.address % 2 ≡ 0

-- what an event holds is of its kind: a request, or as many bytes as there may be
abbrev pub IsSoundEvent : Event → Type 0
IsSoundEvent (OtherIpmb request) = IsOtherRequest request (bytes_of request)
IsSoundEvent (OtherSmbus message) = AreSome most_message_bytes message.body
IsSoundEvent (Noise on bytes) = AreSome most_noise bytes
IsSoundEvent _ = Unit {0}

-- the words say the event
abbrev pub AreWordsOf : List (List ℕ) → Event → Type 0
AreWordsOf words event = AllZip SpellsWord words (words_for event) × IsSoundEvent event

-- the line says the event: its words, with a space between two of them, do
abbrev pub IsLineOf : List ℕ → Event → Type 0
IsLineOf line event = AreWordsOf (words_of line) event
