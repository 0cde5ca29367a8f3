-- The words of a kind of record for its keys K, its operations O and its values, and the laws of these words. Values and the data of
-- requests and replies are lists of bytes.
use Rattle.std.specs.Prelude.{◌≡◌, ◌≤◌, ◌↔◌, ℕ, List, Option, Some, Result, Err, IsTrue, length}
use Rattle.std.specs.Option.{IsSome}
use Rattle.record_base.specs.declared.key.Key.{Key}
use Rattle.record_base.specs.declared.live.Live.{Live}
use Rattle.record_base.specs.declared.message.Asked.{Asked}
use Rattle.record_base.specs.Keys.{is_length}
use Rattle.record_base.specs.Meaning.{DecidesValue, IsRefusal, room_for, most_shown}

-- the words for all records of the kind
pub record KindWords (K O : Type 0) : Type 1 where
  -- the record's name among those of all kinds
  pub name : K → Key
  -- the record that the operation changes
  pub key_of : O → K
  -- the request that gets the record
  pub get_asked : K → Asked
  -- the data of the request that carries out the operation
  pub set_data : O → List ℕ
  -- the request that carries out the operation
  pub set_asked : O → Asked
  -- the data of the reply to the Set that carries out the operation
  pub set_reply : O → List ℕ
  -- the state beside the configuration, after the operation
  pub next_live : O → Live → Live
  -- the data is a Get reply of the kind, for the operation's record
  pub is_reply : O → List ℕ → Type 0
  -- this Get reply is enough to undo the operation
  pub restorable : O → List ℕ → Type 0
  -- the operation that undoes the first one, by this Get reply
  pub inverse : O → List ℕ → Option O
  -- the operation has 0 in each bit that a controller ignores
  pub is_plain : O → Type 0

-- the words for one record, by its limits from the board file
pub record RecordWords (K O : Type 0) : Type 1 where
  -- a key that the record may have
  pub is_of : K → Type 0
  -- a value that the record can have
  pub valid : List ℕ → Type 0
  -- the record accepts the operation at the first value, and the operation makes it the second
  pub sets : O → List ℕ → List ℕ → Type 0
  -- the outcome of the operation: the new value, or the code that refuses the operation
  pub outcome : O → List ℕ → Result (List ℕ) ℕ
  -- the data of the Get reply
  pub view : List ℕ → Live → List ℕ
  -- the configuration bytes of a Get reply
  pub conf : List ℕ → List ℕ
  -- the part of a value that a Get can show
  pub shown : List ℕ → List ℕ

-- the laws of all records of the kind
pub record KindLaws {K O : Type 0} (words : KindWords K O) : Type 0 where
  -- a Set reply fits the frame or message that carries it
  pub set_short : (op : O) → length (words.set_reply op) ≤ room_for (words.set_asked op)
  -- an inverse exists exactly where the data are a Get reply of the kind, and the reply is enough to undo the operation
  pub invertible : (op : O) (reply : List ℕ) → IsSome (words.inverse op reply) ↔ (words.is_reply op reply × words.restorable op reply)
  -- an inverse has 0 in each bit that a controller ignores
  pub plain : (op made : O) (reply : List ℕ) → words.inverse op reply ≡ Some made → words.is_plain made

-- the laws of a record, by its limits
pub record RecordLaws {K O : Type 0} (words : KindWords K O) (record_words : RecordWords K O) : Type 0 where
  -- a value has at most one proof that it is valid
  pub one_proof : (value : List ℕ) → IsProp (record_words.valid value)
  -- the record accepts only operations on itself
  pub taken : (op : O) (old new : List ℕ) → record_words.sets op old new → record_words.is_of (words.key_of op)
  -- the outcome is a new value exactly where the record accepts the operation
  pub decides : (op : O) (value : List ℕ) → DecidesValue (record_words.outcome op value) (record_words.sets op value)
  -- a refusal has one of the codes of refusals
  pub refuses : (op : O) (value : List ℕ) (code : ℕ) → record_words.outcome op value ≡ Err code → IsRefusal code
  -- an operation makes at most one value
  pub determined : (op : O) (old new other : List ℕ) → record_words.sets op old new → record_words.sets op old other → new ≡ other
  -- an operation keeps a value valid
  pub keeps : (op : O) (old new : List ℕ) → record_words.valid old → record_words.sets op old new → record_words.valid new
  -- a new value has a length of the kind
  pub fits : (op : O) (old new : List ℕ) → record_words.sets op old new → IsTrue (is_length (words.name (words.key_of op)) (length new))
  -- a Get replies data of the kind
  pub replies : (op : O) (value : List ℕ) (live : Live) → record_words.is_of (words.key_of op) → record_words.valid value → words.is_reply op (record_words.view value live)
  -- a Get reply fits the frame or message that carries it. That of an attribute may go in parts.
  pub get_short : (key : K) (value : List ℕ) (live : Live) → record_words.is_of key → record_words.valid value → length (record_words.view value live) ≤ most_shown (words.name key) (words.get_asked key)
  -- the activity doesn't change the configuration bytes of a Get reply
  pub steady : (value : List ℕ) (live other : Live) → record_words.conf (record_words.view value live) ≡ record_words.conf (record_words.view value other)
  -- the configuration bytes of a Get reply determine the part of the value that a Get can show
  pub tells : (value other : List ℕ) (live : Live) → record_words.valid value → record_words.valid other → record_words.conf (record_words.view value live) ≡ record_words.conf (record_words.view other live) → record_words.shown value ≡ record_words.shown other
  -- the inverse from a Get reply is an operation on the same record
  pub same_record : (op made : O) (value : List ℕ) (live : Live) → record_words.is_of (words.key_of op) → record_words.valid value → words.inverse op (record_words.view value live) ≡ Some made → words.key_of made ≡ words.key_of op
  -- the inverse brings the old value back
  pub undoes : (op made : O) (old new : List ℕ) (live : Live) → record_words.valid old → record_words.sets op old new → words.inverse op (record_words.view old live) ≡ Some made → record_words.sets made new old

-- a kind whose records have limits L: its words and its laws
pub record Kind (K O L : Type 0) : Type 1 where
  pub words : KindWords K O
  pub record_words : L → RecordWords K O
  pub kind_laws : KindLaws words
  pub record_laws : (limits : L) → RecordLaws words (record_words limits)
