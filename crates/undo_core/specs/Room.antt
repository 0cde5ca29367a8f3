-- How much room the requests need that undo a plan.
use Rattle.std.specs.Prelude.{ℕ, ◌+◌, ◌≤◌, List, [], ◌∷◌, length, drop}
use Rattle.two_wire.specs.Sizes.{most_ipmi_request_data}
use Rattle.record_base.specs.AttributeSizes.{most_value}
use Rattle.record_base.specs.declared.op.Op.{Op}
use Rattle.record_base.specs.declared.op.Op.TheVariants.{BiosAttribute}
use Rattle.undo_plans.specs.Requests.{RequestList, most_undo_data}
use Rattle.undo_core.specs.declared.stage.Stage.{Stage}
use Rattle.undo_core.specs.Bounds.{steps_ahead}

-- the most bytes of data of a request that undoes an operation of this kind: an attribute's value may be long, and every other request is as short as
-- one that goes over IPMB
abbrev pub most_data : Op → ℕ
most_data (BiosAttribute own) = most_undo_data
most_data _ = most_ipmi_request_data

-- the value that an operation gives to an attribute is as short as one that an attribute can have
abbrev pub HasShortValue : Op → Type 0
HasShortValue (BiosAttribute own) = length own.value ≤ most_value
HasShortValue _ = Unit {0}

-- of all requests that undo these steps
abbrev pub data_for : List Op → ℕ
data_for [] = 0
data_for (op ∷ ops) = most_data op + data_for ops

-- the list has places and room for the requests that undo these steps
pub record HasRoom (steps : List Op) (requests : RequestList) : Type 0 where
  pub places : length steps ≤ requests.places
  pub room : data_for steps ≤ requests.room

-- each list that has room for the plan from this step on has room for what is ahead at the stage
abbrev pub NeedsNoMoreRoom : List Op → (step : ℕ) → Stage → Type 0
NeedsNoMoreRoom plan step stage = (any : RequestList) → HasRoom (drop step plan) any → HasRoom (steps_ahead plan stage) any

-- each list has room for what is ahead at the stage, whatever the plan is
abbrev pub NeedsNoRoom : Stage → Type 0
NeedsNoRoom stage = (plan : List Op) (any : RequestList) → HasRoom (steps_ahead plan stage) any
