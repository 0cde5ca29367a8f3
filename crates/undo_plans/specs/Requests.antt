-- Requests that undo a plan, and the list of them as it lies.
use Rattle.std.specs.Prelude.{ℕ, ◌+◌, ◌≤◌, All, List, length, take, slice_range, Option}
use Rattle.record_base.specs.declared.message.Asked.{Asked}
use Rattle.record_base.specs.declared.message.Asked.TheVariants as asked
use Rattle.undo_plans.specs.Steps.{most_steps}
pub use Rattle.undo_plans.specs.Fitting.{data_of, from_nobody, most_undo_data, most_of, FitsMessages}
use Rattle.undo_plans.specs.declared.undo_request.UndoRequest.{UndoRequest}
use Rattle.undo_plans.specs.declared.undo_request.UndoRequest.TheVariants as request
use Rattle.undo_plans.specs.declared.undo_request.Head.{Head}
use Rattle.undo_plans.specs.declared.undo_request.Head.TheVariants.{IpmiHead, PldmHead}
use Rattle.undo_plans.specs.declared.undo_request.Mark.{Mark}

-- ---- a request

-- the request, from nobody
abbrev pub meant : UndoRequest → Asked
meant (request.Ipmi net_fn lun command body) = asked.Ipmi 0 net_fn lun command body
meant (request.Pldm of) = asked.Pldm 0 of.kind of.command of.body

-- ---- the list

-- requests that undo the steps of a plan
pub record RequestList : Type 0 where
  -- those that count, in the order of the steps
  pub members : List Asked
  -- the one that is written behind them, and doesn't count yet
  pub waiting : Option Asked
  -- for how many more there is a place
  pub places : ℕ
  -- for how many more bytes of data there is room
  pub room : ℕ

-- the request of this head and these data
abbrev pub request_of : Head → List ℕ → Asked
request_of (IpmiHead net_fn lun command) body = asked.Ipmi 0 net_fn lun command body
request_of (PldmHead kind command) body = asked.Pldm 0 kind command body

-- the request of a mark, whose data lie among these bytes
abbrev pub request_at : List ℕ → Mark → Asked
request_at bytes mark = request_of mark.head (slice_range bytes mark.start mark.end)

-- a mark's data lie among these bytes, and fit a request
pub record RequestLies (bytes : List ℕ) (mark : Mark) : Type 0 where
  pub rising : mark.start ≤ mark.end
  pub within : mark.end ≤ length bytes
  pub short : FitsMessages (request_at bytes mark)

-- The marks of a list, of which the first so many count, and one more at most waits; and the first so many of its bytes belong to those that count.
pub record AreLaid (marks : List Mark) (counted kept : ℕ) (bytes : List ℕ) : Type 0 where
  pub there : counted ≤ length marks
  pub one : length marks ≤ counted + 1
  pub few : length marks ≤ most_steps
  pub within : kept ≤ length bytes
  pub each : All (RequestLies (take kept bytes)) (take counted marks)
  pub all : All (RequestLies bytes) marks
