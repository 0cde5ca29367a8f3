-- Where the keys of a TOML text stand.
use Rattle.std.specs.Prelude.{◌≡◌, ◌==◌, ◌+◌, ◌≤◌, ◌||◌, ℕ, Bool, true, List, Option, Some, None, filter, length, take, drop, ⊤}
use Rattle.std.specs.List.{list_any}
use Rattle.std.specs.Borrow.{Bor}
use Rattle.std.specs.Str.{bytes_eq}
use Rattle.toml_parser.specs.Lexical.{line_feed}
use Rattle.toml_parser.specs.Strings.{Key, key}
use Rattle.toml_parser.specs.Reading.{key_view}
use Rattle.file_faults.specs.declared.expression.Expression.{Expression}
use Rattle.file_faults.specs.declared.place.Found.{Found}
use Rattle.file_faults.specs.declared.place.Found.TheVariants as found
use Rattle.file_faults.specs.declared.place.Wanted.{Wanted}
use Rattle.file_faults.specs.declared.search.Turn.{Turn}
use Rattle.file_faults.specs.declared.search.Turn.TheVariants as turn

-- how many line feeds there are
abbrev pub feeds : List ℕ → ℕ
feeds text = length (filter (λ byte. byte == line_feed) text)

-- the line of a place in a text, from 1: one more than the line feeds before it
abbrev pub line_at : (text : List ℕ) → (place : ℕ) → ℕ
line_at text place = feeds (take place text) + 1

-- the word is a part of the key
abbrev pub names : (word : List ℕ) → Key → Bool
names word parts = bytes_eq parts.1 word || list_any (λ part. bytes_eq part word) parts.0

-- TOML reads this key at the place of the text
abbrev pub IsKeyAt : (text : List ℕ) → (place : ℕ) → Key → Type 0
IsKeyAt text place parts = (rest : List ℕ) × (key (drop place text) ≡ Some (parts, rest))

-- the expression has the key that stands at its place of the text
abbrev pub IsExpressionIn : (text : List ℕ) → Expression → Type 0
IsExpressionIn text expression = (expression.place ≤ length text) × IsKeyAt text expression.place (key_view expression.key)

-- a key that has the word as a part stands in the line of the text
abbrev pub StandsIn : (text word : List ℕ) → (line : ℕ) → Type 0
StandsIn text word line = (place : ℕ) × (parts : Key) × IsKeyAt text place parts × (names word parts ≡ true) × (line ≡ line_at text place)

-- the key of the table is one, and has it as a part
abbrev pub IsHeadIn : Option (Bor (List ℕ)) → Key → Type 0
IsHeadIn (Some table) parts = names table.now parts ≡ true
IsHeadIn None parts = ⊥

-- the key of the table stands in the line of the text
abbrev pub HeadStandsIn : (text : List ℕ) → Option (Bor (List ℕ)) → (line : ℕ) → Type 0
HeadStandsIn text (Some table) line = StandsIn text table.now line
HeadStandsIn text None line = ⊥

-- In the line stands the wanted key, or that of the table or the array that has the item.
abbrev pub IsFound : (text : List ℕ) → Wanted → Found → Type 0
IsFound text wanted (found.Key line) = StandsIn text wanted.key.now line
IsFound text wanted (found.Head line) = HeadStandsIn text wanted.table line

-- an expression with this key has the wanted one, or is the item's head or has its array, as the search takes it
abbrev pub IsTurn : Wanted → Key → Turn → Type 0
IsTurn wanted parts turn.Key = names wanted.key.now parts ≡ true
IsTurn wanted parts turn.Head = IsHeadIn wanted.table parts
IsTurn wanted parts turn.Other = ⊤
