-- A family of kinds of record, and the board that keeps the records: all that an undo needs to know of kinds and board.
use Rattle.std.specs.Prelude.{◌≡◌, ℕ, List, [], Option, Some}
use Rattle.model_bus.specs.Answered.{Answered}
use Rattle.model_undo.specs.Words.{Words}

-- what a family says
pub record Family : Type 1 where
  -- the words of the manager that changes the records
  pub words : Words
  -- the values that records have
  pub Value : Type 0
  -- the records of a board, as a map
  pub Records : Type 0
  pub get : Records → words.Key → Option Value
  pub put : Records → words.Key → Value → Records
  -- the record can have the value
  pub Valid : words.Key → Value → Type 0
  -- the operation is accepted at the first value, and makes the second of it
  pub Sets : words.Op → Value → Value → Type 0
  -- a Get of the record replies these data at this value, for some state of what isn't configuration
  pub Shows : words.Key → Value → List ℕ → Type 0
  -- the configuration in the data of the record's Get
  pub conf : words.Key → List ℕ → List ℕ
  -- the operation can be undone from these data of its record's Get
  pub Restorable : words.Op → List ℕ → Type 0
  -- a board, and its records
  pub Board : Type 0
  pub records : Board → Records
  -- the board is ready for the next request of a series after replies with these data
  pub Ready : Board → words.Series → List (List ℕ) → Type 0
  -- the request, whoever asks it, is a Get of the whole record
  pub IsGet : words.Asked → words.Key → Type 0
  -- a board answers the request so, and becomes the other
  pub Row : Board → words.Asked → Answered → Board → Type 0

-- every record has a value that it can have
abbrev pub AllValid : (family : Family) → family.Records → Type 0
AllValid family records = (key : family.words.Key) (value : family.Value) → family.get records key ≡ Some value → family.Valid key value

-- the board is ready for the first request of each series
abbrev pub IsReady : (family : Family) → family.Board → Type 0
IsReady family board = (series : family.words.Series) → family.Ready board series []

-- no record changes, and the board stays ready for what it was ready for
abbrev pub KeepsRecords : (family : Family) → family.Board → family.Board → Type 0
KeepsRecords family board after = (family.records after ≡ family.records board)
    × ((series : family.words.Series) (bodies : List (List ℕ)) → family.Ready board series bodies → family.Ready after series bodies)

-- the board gave this reply to the request at these records
abbrev pub GaveAnswer : (family : Family) → family.Records → family.words.Asked → Answered → Type 0
GaveAnswer family records asked answered = (board : family.Board) × (after : family.Board) × (family.records board ≡ records) × family.Row board asked answered after

-- the operation is accepted at these records, and leaves those: it changes its own record, and no other
pub record SetsTo (family : Family) (op : family.words.Op) (old new : family.Records) : Type 0 where
  pub before : family.Value
  pub after : family.Value
  pub found : family.get old (family.words.key_of op) ≡ Some before
  pub sets : family.Sets op before after
  pub changed : new ≡ family.put old (family.words.key_of op) after
