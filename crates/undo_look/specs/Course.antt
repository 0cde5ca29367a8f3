-- What a look asks for and comes to, by all replies to its requests.
use Rattle.std.specs.Prelude.{◌≡◌, ℕ, true, ◌==◌, List, [], ◌∷◌, ◌++◌, length, Some, None, if◌then◌else◌}
use Rattle.std.specs.List.{flat_map}
use Rattle.record_base.specs.declared.message.Asked.{Asked}
use Rattle.record_kinds.specs.Series.{Reads, first_of, next_after}
use Rattle.bios_attr.specs.EntryParts.{entry_in, no_handle, start_and_end}
use Rattle.undo_plans.specs.Showing.{shown_by}
use Rattle.model_bus.specs.Answered.{Answered}
use Rattle.model_bus.specs.Bytes.{is_busy_code}
use Rattle.undo_look.specs.declared.stage.Stage.{Stage}
use Rattle.undo_look.specs.declared.stage.Stage.TheVariants.{AtStart, Opened, Found, Refused}
use Rattle.undo_look.specs.declared.target.Target.{Target}
use Rattle.undo_look.specs.declared.target.Target.TheVariants.{Record, Table}
use Rattle.undo_look.specs.Targets.{part_request}
use Rattle.undo_look.specs.Looks.{LookState, StepResult, again_at, begin_at, quiet_at, takes_at}

-- the request is the one behind replies with these data: of a record's Get, or the only one for a part of a table
abbrev pub IsBehind : Target → (bodies : List (List ℕ)) → Asked → Type 0
IsBehind (Record key) [] asked = asked ≡ first_of (Reads key)
IsBehind (Record key) (body ∷ bodies) asked = next_after (Reads key) (body ∷ bodies) ≡ Some asked
IsBehind (Table part) [] asked = asked ≡ part_request part
IsBehind (Table part) (body ∷ bodies) asked = ⊥

-- no request is behind them, and together they show these data: of a record what its Get shows, and of a part of a table all that its reply has
abbrev pub AreAll : Target → (shown : List ℕ) → (bodies : List (List ℕ)) → Type 0
AreAll (Record key) shown bodies = (next_after (Reads key) bodies ≡ None) × (shown ≡ shown_by key bodies)
AreAll (Table part) shown bodies = bodies ≡ shown ∷ []

-- these are the data of the parts that came: where none came, any
abbrev pub AreJoined : (shown : List ℕ) → (bodies : List (List ℕ)) → Type 0
AreJoined shown [] = Unit {0}
AreJoined shown (body ∷ bodies) = shown ≡ no_handle ++ start_and_end ∷ flat_map entry_in (body ∷ bodies)

-- Replies with these data came, in this order. The request behind them is open, or there is none, and what the replies show together is what the
-- look shows.
abbrev pub IsAfter : (shown : List ℕ) → (bodies : List (List ℕ)) → Stage → Type 0
IsAfter shown bodies (Opened heeded target parts asked) = (length bodies ≡ parts) × IsBehind target bodies asked × AreJoined shown bodies
IsAfter shown bodies (Found target) = AreAll target shown bodies
IsAfter shown bodies AtStart = Unit {0}
IsAfter shown bodies (Refused target code) = Unit {0}

abbrev pub HasCome : LookState → (bodies : List (List ℕ)) → Type 0
HasCome s bodies = IsAfter s.shown bodies s.stage

-- the replies, with this one, where it is taken and refuses nothing
abbrev pub bodies_with : Stage → Answered → List (List ℕ) → List (List ℕ)
bodies_with (Opened true target parts asked) answered bodies =
    if is_busy_code answered.code then bodies else (if answered.code == 0 then bodies ++ answered.body ∷ [] else bodies)
bodies_with _ answered bodies = bodies

-- Whatever comes, a look asks for what is asked for behind the replies that came, as its record's Get is, and shows what they show together.
pub record LooksFollowGets : Type 0 where
  -- behind no reply it asks for what is looked at
  pub begins : (s : LookState) (target : Target) (step : StepResult) → begin_at s target s.stage ≡ Some step → HasCome step.state []
  -- silence leaves the replies that came, and so does a call behind it
  pub quiet : (s : LookState) (bodies : List (List ℕ)) (step : StepResult) → HasCome s bodies → quiet_at s s.stage ≡ Some step → HasCome step.state bodies
  pub again : (s : LookState) (bodies : List (List ℕ)) (step : StepResult) → HasCome s bodies → again_at s s.stage ≡ Some step → HasCome step.state bodies
  -- a reply joins them
  pub takes : (s : LookState) (bodies : List (List ℕ)) (answered : Answered) → HasCome s bodies
      → HasCome (takes_at s answered s.stage).state (bodies_with s.stage answered bodies)
