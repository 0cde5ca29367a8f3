-- The manager's words: what it knows of operations and of requests. It knows no board, no record and no value.
use Rattle.std.specs.Prelude.{◌≡◌, ◌≢◌, ℕ, List, [], ◌∷◌, ◌++◌, Option, Some, None, Bool, ◌==◌, ◌||◌, ◌⊎◌}
use Rattle.two_wire.specs.Codes.{success, node_busy, pldm_not_ready}
use Rattle.two_wire.specs.declared.Bus.{Bus}
use Rattle.model_bus.specs.Answered.{Answered}

-- the code says that a controller is busy; a manager takes a reply with it as none
abbrev pub is_busy : ℕ → Bool
is_busy code = (code == node_busy) || (code == pldm_not_ready)

-- what a manager says
pub record Words : Type 1 where
  -- the names of the records, and the operations that change them
  pub Key : Type 0
  pub Op : Type 0
  -- the record that the operation changes
  pub key_of : Op → Key
  -- the requests, and the bus on which each goes
  pub Asked : Type 0
  pub bus_of : Asked → Bus
  -- requests that are sent one after another, each once the one before it was answered: at least one
  pub Series : Type 0
  -- the series that gets a record, and the one that carries an operation out
  pub getting : Key → Series
  pub setting : Op → Series
  -- the first request of a series, and the next after replies with these data, none where that was the last
  pub first : Series → Asked
  pub next : Series → List (List ℕ) → Option Asked
  -- what the data of all its replies show together
  pub joined : Series → List (List ℕ) → List ℕ
  -- the operation that undoes another, from what the Get of that one's record shows
  pub inverse : Op → List ℕ → Option Op

-- the request that gets a record, and the one that carries an operation out: the first of each series
abbrev pub get_asked : (words : Words) → words.Key → words.Asked
get_asked words key = words.first (words.getting key)

abbrev pub set_asked : (words : Words) → words.Op → words.Asked
set_asked words op = words.first (words.setting op)

-- ---- the requests of a series

-- the request is the first of the series, or the next one after replies with these data
abbrev pub IsNext : (words : Words) → words.Series → List (List ℕ) → words.Asked → Type 0
IsNext words series [] asked = asked ≡ words.first series
IsNext words series (body ∷ bodies) asked = words.next series (body ∷ bodies) ≡ Some asked

-- the request is one of the series
abbrev pub IsOneOf : (words : Words) → words.Series → words.Asked → Type 0
IsOneOf words series asked = (asked ≡ words.first series) ⊎ ((bodies : List (List ℕ)) × (words.next series bodies ≡ Some asked))

-- a manager makes the series: it gets a record, or carries an operation out
abbrev pub IsSeries : (words : Words) → words.Series → Type 0
IsSeries words series = ((key : words.Key) × (series ≡ words.getting key)) ⊎ ((op : words.Op) × (series ≡ words.setting op))

-- a manager makes the request
abbrev pub IsMade : (words : Words) → words.Asked → Type 0
IsMade words asked = (series : words.Series) × IsSeries words series × IsOneOf words series asked

-- each series is one request, and shows what its reply shows
pub record AreSingle (words : Words) : Type 0 where
  pub none_next : (series : words.Series) (bodies : List (List ℕ)) → words.next series bodies ≡ None
  pub shows_it : (series : words.Series) (body : List ℕ) → words.joined series (body ∷ []) ≡ body

-- `Given` says which answers to which requests were given
module _ (words : Words) (Given : words.Asked → Answered → Type 0) (series : words.Series) where
  -- after replies with the data `before`, the requests of the series were answered in order, each with 00h and these data
  abbrev pub AreAnswered : (before bodies : List (List ℕ)) → Type 0
  AreAnswered before [] = Unit {0}
  AreAnswered before (body ∷ bodies) =
      (asked : words.Asked) × IsNext words series before asked × Given asked (record { code = success; body = body })
      × AreAnswered (before ++ body ∷ []) bodies

  -- the request is one of the series, and those before it were answered in order, each with 00h and these data
  pub record IsReached (bodies : List (List ℕ)) (asked : words.Asked) : Type 0 where
    pub in_order : AreAnswered [] bodies
    pub next : IsNext words series bodies asked

  -- all requests of the series were answered in order, each with 00h and these data
  pub record AllAnswered (bodies : List (List ℕ)) : Type 0 where
    pub in_order : AreAnswered [] bodies
    pub some : bodies ≢ []
    pub no_more : words.next series bodies ≡ None
