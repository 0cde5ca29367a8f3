-- What a reply to the open request leads to, which came after so many others of the same look.
use Rattle.std.specs.Prelude.{ℕ, ◌+◌, ◌==◌, List, [], ◌∷◌, ◌++◌, Option, Some, None, true, if◌then◌else◌}
use Rattle.record_base.specs.declared.message.Asked.{Asked}
use Rattle.bios_attr.specs.EntryParts.{entry_in, no_handle, start_and_end, ends}
use Rattle.model_bus.specs.Answered.{Answered}
use Rattle.undo_look.specs.declared.stage.Stage.{Stage}
use Rattle.undo_look.specs.declared.stage.Stage.TheVariants.{Opened, Found, Refused}
use Rattle.undo_look.specs.declared.target.Target.{Target}
use Rattle.undo_look.specs.Targets.{shown_alone}
use Rattle.undo_look.specs.Requests.{next_behind}

-- the request behind it is open, if there is one
abbrev pub stage_with : Target → (parts : ℕ) → (following : Option Asked) → Stage
stage_with target parts (Some asked) = Opened true target (parts + 1) asked
stage_with target parts None = Found target

abbrev pub stage_behind : Target → (parts : ℕ) → Answered → Stage
stage_behind target parts answered =
    if answered.code == 0 then stage_with target parts (next_behind target (parts + 1) answered.body) else Refused target answered.code

-- the data, with the part of an entry that the reply shows
abbrev pub joined_with : (parts : ℕ) → (shown body : List ℕ) → List ℕ
joined_with parts shown body = (if parts == 0 then no_handle ++ start_and_end ∷ [] else shown) ++ entry_in body

-- the data, with those of the last reply: none, where it doesn't show the last part
abbrev pub ended_with : Target → (parts : ℕ) → (shown body : List ℕ) → List ℕ
ended_with target parts shown body =
    if parts == 0 then shown_alone target body else (if ends (parts + 1) body then shown ++ entry_in body else [])

abbrev pub shown_with : Target → (parts : ℕ) → (shown body : List ℕ) → (following : Option Asked) → List ℕ
shown_with target parts shown body (Some asked) = joined_with parts shown body
shown_with target parts shown body None = ended_with target parts shown body

abbrev pub shown_behind : Target → (parts : ℕ) → (shown : List ℕ) → Answered → List ℕ
shown_behind target parts shown answered =
    if answered.code == 0 then shown_with target parts shown answered.body (next_behind target (parts + 1) answered.body) else shown
