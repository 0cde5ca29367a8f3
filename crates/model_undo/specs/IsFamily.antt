-- The laws of a family. The kinds of record and the command relation prove them of the records that there are.
use Rattle.std.specs.Prelude.{◌≡◌, ◌≢◌, List, [], ◌∷◌, ◌++◌, ℕ, Some, None, false}
use Rattle.two_wire.specs.Codes.{success}
use Rattle.model_bus.specs.Answered.{Answered}
use Rattle.model_undo.specs.Words.{is_busy, AreSingle, IsNext, IsOneOf, IsMade, AllAnswered, get_asked, set_asked}
use Rattle.model_undo.specs.Family.{Family, AllValid, IsReady, GaveAnswer, SetsTo}

-- what a Get that is carried out shows: the value that the record has
pub record ShownRecord (family : Family) (key : family.words.Key) (body : List ℕ) (records : family.Records) : Type 0 where
  pub value : family.Value
  pub found : family.get records key ≡ Some value
  pub shows : family.Shows key value body

-- a board that is ready for the next request of a Set, after replies with these data, answers it, and becomes the other
pub record AnswersSet (family : Family) (op : family.words.Op) (bodies : List (List ℕ)) (board : family.Board) (answered : Answered) (after : family.Board) : Type 0 where
  pub asked : family.words.Asked
  pub is_next : IsNext family.words (family.words.setting op) bodies asked
  pub ready : family.Ready board (family.words.setting op) bodies
  pub row : family.Row board asked answered after

-- the laws of the records and their kinds; beside each group, who proves it
pub record AreKinds (family : Family) : Type 0 where
  -- the map of records: a value that is put back leaves the map as it was, and a value that is put is found
  pub put_back : (records : family.Records) (key : family.words.Key) (value next : family.Value) → family.get records key ≡ Some value → family.put (family.put records key next) key value ≡ records
  pub get_put : (records : family.Records) (key : family.words.Key) (value next : family.Value) → family.get records key ≡ Some value → family.get (family.put records key next) key ≡ Some next
  -- the map of records: a valid value keeps it valid
  pub put_valid : (records : family.Records) (key : family.words.Key) (next : family.Value) → AllValid family records → family.Valid key next → AllValid family (family.put records key next)
  -- the kinds: an operation keeps a value valid, and makes one value
  pub sets_valid : (op : family.words.Op) (value next : family.Value) → family.Valid (family.words.key_of op) value → family.Sets op value next → family.Valid (family.words.key_of op) next
  pub sets_one : (op : family.words.Op) (value one other : family.Value) → family.Sets op value one → family.Sets op value other → one ≡ other
  -- the kinds: the operation that undoes another is on the same record, and brings the old value back
  pub same_key : (op back : family.words.Op) (value : family.Value) (body : List ℕ) → family.Valid (family.words.key_of op) value → family.Shows (family.words.key_of op) value body → family.words.inverse op body ≡ Some back
      → family.words.key_of back ≡ family.words.key_of op
  pub undoes : (op back : family.words.Op) (value next : family.Value) (body : List ℕ) → family.Valid (family.words.key_of op) value → family.Sets op value next → family.Shows (family.words.key_of op) value body
      → family.words.inverse op body ≡ Some back → family.Sets back next value
  -- the kinds: from the data of a Get an operation that undoes can be made exactly where the data are restorable
  pub restores : (op back : family.words.Op) (value : family.Value) (body : List ℕ) → family.Valid (family.words.key_of op) value → family.Shows (family.words.key_of op) value body → family.words.inverse op body ≡ Some back
      → family.Restorable op body
  pub refuses : (op : family.words.Op) (value : family.Value) (body : List ℕ) → family.Valid (family.words.key_of op) value → family.Shows (family.words.key_of op) value body → family.words.inverse op body ≡ None → ¬ family.Restorable op body
  -- the kinds: two Gets of a record show the same configuration where it has the same value
  pub steady : (key : family.words.Key) (value : family.Value) (body other : List ℕ) → family.Valid key value → family.Shows key value body → family.Shows key value other → family.conf key body ≡ family.conf key other

-- the laws of a family: those of its kinds, and of the command relation
pub record IsFamily (family : Family) : Type 0 where
  pub kinds : AreKinds family
  -- whoever asks, and whatever isn't configuration, a Get that is one request is answered with one code where the records are the same. It
  -- shows one configuration where it is carried out and the records are valid
  pub gets_steady : (board after other_board later : family.Board) (asked other : family.words.Asked) (key : family.words.Key) (answered other_answer : Answered)
      → family.IsGet asked key → family.IsGet other key → family.records other_board ≡ family.records board
      → AllValid family (family.records board) → family.Row board asked answered after → family.Row other_board other other_answer later → answered.code ≡ success → other_answer.code ≡ success
      → family.conf key other_answer.body ≡ family.conf key answered.body
  pub gets_agree : (board after other_board later : family.Board) (asked other : family.words.Asked) (key : family.words.Key) (answered other_answer : Answered)
      → family.IsGet asked key → family.IsGet other key → family.records other_board ≡ family.records board
      → family.Row board asked answered after → family.Row other_board other other_answer later → other_answer.code ≡ answered.code
  -- the manager's Get: none of its requests changes a record. Their replies show the value together, where each was answered with 00h and the
  -- records were the same, and valid
  pub parts_keep : (board after : family.Board) (key : family.words.Key) (asked : family.words.Asked) (answered : Answered) → IsOneOf family.words (family.words.getting key) asked
      → family.Row board asked answered after → family.records after ≡ family.records board
  pub parts_show : (records : family.Records) (key : family.words.Key) (bodies : List (List ℕ)) → AllValid family records
      → AllAnswered family.words (GaveAnswer family records) (family.words.getting key) bodies → ShownRecord family key (family.words.joined (family.words.getting key) bodies) records
  -- the manager's Set: a request that is carried out with another to come changes no record, and the board is ready for that other. The last
  -- one that is carried out does the operation
  pub sets_go_on : (board after : family.Board) (op : family.words.Op) (bodies : List (List ℕ)) (answered : Answered) (following : family.words.Asked) → AnswersSet family op bodies board answered after → answered.code ≡ success
      → family.words.next (family.words.setting op) (bodies ++ answered.body ∷ []) ≡ Some following → (family.records after ≡ family.records board) × family.Ready after (family.words.setting op) (bodies ++ answered.body ∷ [])
  pub sets_do : (board after : family.Board) (op : family.words.Op) (bodies : List (List ℕ)) (answered : Answered) → AnswersSet family op bodies board answered after → answered.code ≡ success
      → family.words.next (family.words.setting op) (bodies ++ answered.body ∷ []) ≡ None → SetsTo family op (family.records board) (family.records after)
  -- one that is refused changes no record, and the operation isn't accepted there
  pub refusals_keep : (board after : family.Board) (op : family.words.Op) (bodies : List (List ℕ)) (answered : Answered) → AnswersSet family op bodies board answered after → answered.code ≢ success → family.records after ≡ family.records board
  pub refusals_say : (board after : family.Board) (op : family.words.Op) (bodies : List (List ℕ)) (answered : Answered) → AnswersSet family op bodies board answered after → answered.code ≢ success → (records : family.Records)
      → ¬ SetsTo family op (family.records board) records
  -- the manager's requests leave the board ready for the first request of each series
  pub stays_ready : (board after : family.Board) (asked : family.words.Asked) (answered : Answered) → IsMade family.words asked → IsReady family board → family.Row board asked answered after → IsReady family after
  -- no answer is a code of a busy controller
  pub never_busy : (board after : family.Board) (asked : family.words.Asked) (answered : Answered) → family.Row board asked answered after → is_busy answered.code ≡ false

-- a family whose Gets and Sets are one request each meets the laws if it meets these
pub record IsSingleFamily (family : Family) : Type 0 where
  pub kinds : AreKinds family
  pub single : AreSingle family.words
  -- the board is ready for each request
  pub ready : (board : family.Board) (series : family.words.Series) (bodies : List (List ℕ)) → family.Ready board series bodies
  -- the command relation: the request with which a manager gets a record is a Get of it. Whoever asks, a Get changes no record, and
  -- shows the value where it is carried out
  pub gets_are : (key : family.words.Key) → family.IsGet (get_asked family.words key) key
  pub gets_keep : (board after : family.Board) (asked : family.words.Asked) (key : family.words.Key) (answered : Answered) → family.IsGet asked key → family.Row board asked answered after → family.records after ≡ family.records board
  pub gets_show : (board after : family.Board) (asked : family.words.Asked) (key : family.words.Key) (answered : Answered)
      → family.IsGet asked key → family.Row board asked answered after → answered.code ≡ success → ShownRecord family key answered.body (family.records board)
  -- the command relation: whoever asks, and whatever isn't configuration, a Get is answered with one code where the records are the same
  pub gets_agree : (board after other_board later : family.Board) (asked other : family.words.Asked) (key : family.words.Key) (answered other_answer : Answered)
      → family.IsGet asked key → family.IsGet other key → family.records other_board ≡ family.records board
      → family.Row board asked answered after → family.Row other_board other other_answer later → other_answer.code ≡ answered.code
  -- the command relation: a Set that is carried out does its operation; a Set that is refused changes no record, and its
  -- operation isn't accepted there
  pub sets_do : (board after : family.Board) (op : family.words.Op) (answered : Answered) → family.Row board (set_asked family.words op) answered after → answered.code ≡ success → SetsTo family op (family.records board) (family.records after)
  pub refusals_keep : (board after : family.Board) (op : family.words.Op) (answered : Answered) → family.Row board (set_asked family.words op) answered after → answered.code ≢ success → family.records after ≡ family.records board
  pub refusals_say : (board after : family.Board) (op : family.words.Op) (answered : Answered)
      → family.Row board (set_asked family.words op) answered after → answered.code ≢ success → (records : family.Records) → ¬ SetsTo family op (family.records board) records
  -- the command relation: no answer is a code of a busy controller
  pub never_busy : (board after : family.Board) (asked : family.words.Asked) (answered : Answered) → family.Row board asked answered after → is_busy answered.code ≡ false
