-- The undo text: what each of its lines says, the list that a text stands for, and the first bad line of one that stands for none.
use Rattle.std.specs.Prelude.{◌≡◌, ◌≢◌, ◌<◌, ◌≤◌, ◌+◌, ◌*◌, ◌%◌, ◌⊎◌, ℕ, List, [], ◌∷◌, ◌++◌, length, map, reverse, Option, Some, None, Ok, codes}
use Rattle.std.specs.List.{AllZip, flat_map}
use Rattle.std.specs.Fmt.{decimal}
use Rattle.hex.specs.Hex.{decode_of, encode_upper}
use Rattle.text_lines.specs.Cuts.{line_feed, space, ended}
use Rattle.record_base.specs.declared.message.Asked.{Asked}
use Rattle.record_base.specs.declared.message.Asked.TheVariants.{Ipmi, Pldm}
use Rattle.two_wire.specs.declared.Bus.{Bus}
use Rattle.two_wire.specs.declared.Bus.TheVariants.{Ipmb, Smbus}
use Rattle.two_wire.specs.Circles.{sequence_numbers, instances}
use Rattle.two_wire.specs.Sizes.{most_ipmi_request_data}
use Rattle.undo_plans.specs.Fitting.{most_of}
use Rattle.undo_plans.specs.Steps.{most_steps}
use Rattle.undo_plans.specs.declared.names.Names.{Names}
use Rattle.undo_plans.specs.declared.undo_list.NextNumbers.{NextNumbers}
use Rattle.undo_plans.specs.declared.undo_list.UndoList.{UndoList}
use Rattle.text_lines.specs.declared.undo_version.Version.{Version}
use Rattle.text_lines.specs.declared.undo_version.Version.TheVariants.{One, Two}
use Rattle.text_lines.specs.Versions.{version_line, head_length}

-- ---- the lines

-- the version is 2 where the list has names
abbrev pub version_of : Option Names → Version
version_of None = One
version_of (Some names) = Two

-- line 2 has the numbers of the next requests, in decimal digits without leading zeros
abbrev pub numbers_line : NextNumbers → List ℕ
numbers_line next = codes "next ipmb " ++ (decimal next.ipmb ++ (codes " smbus " ++ decimal next.smbus))

-- the line has these numbers: a sequence number of IPMB and an instance of PLDM
pub record IsNumbersLine (line : List ℕ) (next : NextNumbers) : Type 0 where
  pub spelt : line ≡ numbers_line next
  pub ipmb : next.ipmb < sequence_numbers
  pub smbus : next.smbus < instances

-- a number of the manager and that of the controller, of two hexadecimal digits of either case each
pub record IsPair (words : List ℕ) (own peer : ℕ) : Type 0 where
  pub own_digits : List ℕ
  pub peer_digits : List ℕ
  pub spelt : words ≡ own_digits ++ space ∷ peer_digits
  pub own_read : decode_of own_digits ≡ Ok (own ∷ [])
  pub peer_read : decode_of peer_digits ≡ Ok (peer ∷ [])

-- bit 0 of the manager's address and of the controller's is clear
abbrev pub AreEven : (own peer : ℕ) → Type 0
AreEven own peer = (own % 2 ≡ 0) × (peer % 2 ≡ 0)

-- line 3 of version 2 has the addresses on IPMB, those on SMBus and the endpoint identifiers
abbrev pub named_line : (ipmb smbus eid : List ℕ) → List ℕ
named_line ipmb smbus eid = codes "names ipmb " ++ (ipmb ++ (codes " smbus " ++ (smbus ++ (codes " eid " ++ eid))))

-- the line has these names
pub record IsNamesLine (line : List ℕ) (names : Names) : Type 0 where
  pub ipmb : List ℕ
  pub smbus : List ℕ
  pub eid : List ℕ
  pub spelt : line ≡ named_line ipmb smbus eid
  pub addresses : IsPair ipmb names.own_address names.peer_address
  pub wires : IsPair smbus names.own_wire names.peer_wire
  pub eids : IsPair eid names.own_eid names.peer_eid
  pub even_addresses : AreEven names.own_address names.peer_address
  pub even_wires : AreEven names.own_wire names.peer_wire

-- a bus's name, and the space behind it
abbrev pub name_of : Bus → List ℕ
name_of Ipmb = codes "ipmb "
name_of Smbus = codes "smbus "

-- the name of the bus that the request goes over
abbrev pub bus_of : Asked → List ℕ
bus_of (Ipmi from net_fn lun command body) = name_of Ipmb
bus_of (Pldm from kind command body) = name_of Smbus

-- what a line has of a request: the network function with logical unit 0, or the type, then the command and the data
abbrev pub bytes_of : Asked → List ℕ
bytes_of (Ipmi from net_fn lun command body) = net_fn * 4 ∷ command ∷ body
bytes_of (Pldm from kind command body) = kind ∷ command ∷ body

-- the request is from nobody, and to logical unit 0: a line has no place for more
abbrev pub IsPlain : Asked → Type 0
IsPlain (Ipmi from net_fn lun command body) = (from ≡ 0) × (lun ≡ 0)
IsPlain (Pldm from kind command body) = from ≡ 0

-- the request's network function or type is one, and its data fit a request: those that set an attribute whose entry goes in parts may be more
abbrev pub LineFits : Asked → Type 0
LineFits (Ipmi from net_fn lun command body) = (net_fn < 64) × (net_fn % 2 ≡ 0) × (length body ≤ most_ipmi_request_data)
LineFits (Pldm from kind command body) = (kind < 64) × (length body ≤ most_of (Pldm from kind command body))

-- the bytes are what a line of the bus of this name has of the request
pub record SpellsRequestOf (bus bytes : List ℕ) (asked : Asked) : Type 0 where
  pub plain : IsPlain asked
  pub fits : LineFits asked
  pub sent : bus_of asked ≡ bus
  pub spelt : bytes_of asked ≡ bytes

-- the line is the request's: the bus's name, and the bytes in hexadecimal digits of either case
pub record IsRequestLine (line : List ℕ) (asked : Asked) : Type 0 where
  pub digits : List ℕ
  pub spelt : line ≡ bus_of asked ++ digits
  pub bytes : List ℕ
  pub read : decode_of digits ≡ Ok bytes
  pub is : SpellsRequestOf (bus_of asked) bytes asked

-- the text begins with a line of this sort, and the rest stands behind its line feed
abbrev pub BeginsWith : (List ℕ → Type 0) → List ℕ → List ℕ → Type 0
BeginsWith Sort text rest = (line : List ℕ) × (text ≡ line ++ line_feed ∷ rest) × Sort line

-- ---- the text

-- the line of the names, where there are some, and else no line
abbrev pub AreNamesLines : List (List ℕ) → Option Names → Type 0
AreNamesLines [] None = Unit {0}
AreNamesLines (line ∷ []) (Some names) = IsNamesLine line names
AreNamesLines _ _ = ⊥

-- The text stands for the list: its lines, each of which a line feed ends, are the version, the numbers, that of the names where the list
-- has some, and a line for each of at most `most_steps` requests, in the order in which they are sent, that of the last step first.
pub record IsTextOf (text : List ℕ) (list : UndoList) : Type 0 where
  pub names : List (List ℕ)
  pub lines : List (List ℕ)
  pub spelt : text ≡ flat_map ended (version_line (version_of list.names) ∷ numbers_line list.next ∷ (names ++ lines))
  pub next : IsNumbersLine (numbers_line list.next) list.next
  pub named : AreNamesLines names list.names
  pub each : AllZip IsRequestLine lines (reverse list.requests.members)
  pub few : length lines ≤ most_steps

-- two lists say the same
pub record AreAlike (one other : UndoList) : Type 0 where
  pub requests : one.requests.members ≡ other.requests.members
  pub next : one.next ≡ other.next
  pub names : one.names ≡ other.names

-- a pair as it is written, in upper case
abbrev pub pair_of : (own peer : ℕ) → List ℕ
pair_of own peer = encode_upper (own ∷ []) ++ space ∷ encode_upper (peer ∷ [])

-- the line that is written for names, in upper case
abbrev pub names_line : Names → List ℕ
names_line names =
    named_line (pair_of names.own_address names.peer_address) (pair_of names.own_wire names.peer_wire) (pair_of names.own_eid names.peer_eid)

-- where there are some
abbrev pub names_lines : Option Names → List (List ℕ)
names_lines None = []
names_lines (Some names) = names_line names ∷ []

-- the line that is written for a request, in upper case
abbrev pub line_of : Asked → List ℕ
line_of asked = bus_of asked ++ encode_upper (bytes_of asked)

-- the text that is written for a list
abbrev pub text_of : UndoList → List ℕ
text_of list =
    flat_map ended (version_line (version_of list.names) ∷ numbers_line list.next ∷ (names_lines list.names ++ map line_of (reverse list.requests.members)))

-- ---- what is no undo text

-- A line behind the first can have this number in an undo text of this version, where lines are counted from 1. The numbers stand on line 2,
-- in version 2 the names on line 3, and at most `most_steps` requests behind them.
abbrev pub IsGood : Version → ℕ → List ℕ → Type 0
IsGood version number line =
    ((number ≡ 2) × ((next : NextNumbers) × IsNumbersLine line next))
    ⊎ (((version ≡ Two) × (number ≡ 3) × ((names : Names) × IsNamesLine line names))
    ⊎ ((head_length version < number) × (number ≤ head_length version + most_steps) × ((asked : Asked) × IsRequestLine line asked)))

-- each of the lines can have its number, where the first of them has this number
abbrev pub AllGood : Version → ℕ → List (List ℕ) → Type 0
AllGood version number [] = Unit {0}
AllGood version number (line ∷ lines) = IsGood version number line × AllGood version (number + 1) lines

-- The line of this number is the first bad line of a text whose first line has the number `first`. The lines before it are good, and the text
-- behind them begins with no good line of this number. Some text stands behind them, or every text must have the line.
pub record IsFirstBadFrom (version : Version) (first : ℕ) (text : List ℕ) (number : ℕ) : Type 0 where
  pub before : List (List ℕ)
  pub rest : List ℕ
  pub spelt : text ≡ flat_map ended before ++ rest
  pub place : number ≡ first + length before
  pub good : AllGood version first before
  pub bad : (more : List ℕ) → ¬ BeginsWith (IsGood version number) rest more
  pub wanted : (rest ≢ []) ⊎ (number ≤ head_length version)

-- The line of this number, counted from 1, is the text's first bad line: line 1, where it tells no version, and else a line behind it, by
-- that version.
abbrev pub IsFirstBad : List ℕ → ℕ → Type 0
IsFirstBad text number =
    ((number ≡ 1) × ((version : Version) (rest : List ℕ) → text ≢ ended (version_line version) ++ rest))
    ⊎ ((version : Version) × (rest : List ℕ) × (text ≡ ended (version_line version) ++ rest) × IsFirstBadFrom version 2 rest number)

-- the text is the lines of these requests, in their order
pub record AreLinesOf (text : List ℕ) (requests : List Asked) : Type 0 where
  pub lines : List (List ℕ)
  pub spelt : text ≡ flat_map ended lines
  pub each : AllZip IsRequestLine lines requests
