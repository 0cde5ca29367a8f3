-- The requests that get a record and that change one are read as that Get and that Set. The operation that undoes a change has 0 in
-- each bit that is ignored.
use Rattle.std.specs.Prelude.{◌≡◌, ℕ, List, Some, Result, Ok}
use Rattle.record_base.specs.declared.key.Key.{Key}
use Rattle.record_base.specs.declared.op.Op.{Op}
use Rattle.record_base.specs.declared.message.Asked.{Asked}
use Rattle.record_base.specs.declared.message.Asked.TheVariants.{Ipmi, Pldm}
use Rattle.record_kinds.specs.Limits.{get_asked, inverse, is_plain}
use Rattle.record_kinds.specs.Series.{set_whole}
use Rattle.bmc_board.specs.Request.{Request}
use Rattle.bmc_board.specs.Request.{Get, Set, PartOfSet}
use Rattle.bmc_board.specs.Request.{asked_by}

-- the same request, from another requester
abbrev pub sent_by : ℕ → Asked → Asked
sent_by from (Ipmi other net_fn lun number body) = Ipmi from net_fn lun number body
sent_by from (Pldm other kind number body) = Pldm from kind number body

-- the same, asked for by another requester: a part of a Set is its requester's
abbrev pub asked_from : ℕ → Result Request ℕ → Result Request ℕ
asked_from from (Ok (PartOfSet other part)) = Ok (PartOfSet from part)
asked_from from asked = asked

-- who asks makes no other difference
abbrev pub IsReadFromAll : Type 0
IsReadFromAll = (from : ℕ) (asked : Asked) → asked_by (sent_by from asked) ≡ asked_from from (asked_by asked)

-- nobody asks, and logical unit 0 is asked
abbrev pub IsFromNobody : Asked → Type 0
IsFromNobody (Ipmi from net_fn lun number body) = (from ≡ 0) × (lun ≡ 0)
IsFromNobody (Pldm from kind number body) = from ≡ 0

-- a controller reads this in the request
pub record AsksRequest (asked : Asked) (request : Request) : Type 0 where
  pub is_read : asked_by asked ≡ Ok request
  pub from_nobody : IsFromNobody asked

-- the request for a record is read as a Get of that record
abbrev pub GetsAreRead : Type 0
GetsAreRead = (key : Key) → AsksRequest (get_asked key) (Get key)

-- the request for an operation, with all its data, is read as that operation
abbrev pub SetsAreRead : Type 0
SetsAreRead = (op : Op) → AsksRequest (set_whole op) (Set op)

-- the operation that undoes another has 0 in each bit that a controller ignores
abbrev pub UndosArePlain : Type 0
UndosArePlain = (op made : Op) (reply : List ℕ) → inverse op reply ≡ Some made → is_plain made
