-- What a look asks for and comes to, by the replies that came.
use Rattle.std.proofs.Common.{◌≡◌, inl, inr, ℕ, suc, ◌+◌, ◌*◌, ◌==◌, nat_lt, Bool, true, false, if◌then◌else◌, List, [], ◌∷◌, ◌++◌, length, Option, Some, None, refl, sym, ◌∙◌, ap, subst, arith}
use Rattle.std.proofs.lemmas.Bool.{cases_Bool, eqb-true}
use Rattle.std.specs.List.{flat_map}
use Rattle.std.proofs.lemmas.List.{append-nil, length-append}
use Rattle.std.proofs.lemmas.List.Concat.{flat_map-append}
use Rattle.std.proofs.lemmas.Option.{same_Some}
use Rattle.pldm_base.specs.Parts.{part_length}
use Rattle.record_base.specs.declared.key.Key.{Key}
use Rattle.record_base.specs.declared.key.Key.TheVariants as key
use Rattle.record_base.specs.declared.message.Asked.{Asked}
use Rattle.bios_attr.specs.EntryParts.{entry_in, no_handle, start_and_end, ends, goes_on as part_goes_on, get_part, joined, last_of}
use Rattle.record_kinds.specs.Series.{Reads, next_after}
use Rattle.undo_plans.specs.Showing.{shown_by}
use Rattle.model_bus.specs.Answered.{Answered}
use Rattle.model_bus.specs.Bytes.{is_busy_code}
use Rattle.undo_look.specs.declared.stage.Stage.{Stage}
use Rattle.undo_look.specs.declared.stage.Stage.TheVariants.{AtStart, Opened, Found, Refused}
use Rattle.undo_look.specs.declared.target.Target.{Target}
use Rattle.undo_look.specs.declared.target.Target.TheVariants.{Record, Table}
use Rattle.undo_look.specs.Targets.{first_asked}
use Rattle.undo_look.specs.Requests.{bus_of, next_behind}
use Rattle.undo_look.specs.Replies.{ended_with, joined_with, shown_with, stage_with}
use Rattle.undo_look.specs.Looks.{LookState, StepResult, again_at, asks, begin_at, enters, goes_on, quiet_at, rests, sends_again, takes_at}
use Rattle.undo_look.specs.Course.{AreJoined, HasCome, IsAfter, IsBehind, LooksFollowGets, bodies_with}

-- ---- lists of replies

-- one reply more
one_more : (before : List (List ℕ)) (body : List ℕ) → length (before ++ body ∷ []) ≡ length before + 1
one_more before body = length-append before (body ∷ [])

-- the last of them
last_is : (before : List (List ℕ)) (body : List ℕ) → last_of (before ++ body ∷ []) ≡ body
last_is [] body = refl
last_is (first ∷ []) body = refl
last_is (first ∷ second ∷ before) body = last_is (second ∷ before) body

abbrev never : Bool → Option Asked
never b = if b then None else None

none_either : (b : Bool) → never b ≡ None
none_either true = refl
none_either false = refl

-- the request behind them
next_is : (of : Key) (before : List (List ℕ)) (body : List ℕ) → next_after (Reads of) (before ++ body ∷ []) ≡ next_behind (Record of) (length before + 1) body
next_is (key.BiosAttribute handle) before body =
    λ i. if part_goes_on (one_more before body i) (last_is before body i) then Some (get_part handle (part_length * one_more before body i)) else None
next_is _ before body = sym (none_either (part_goes_on (length before + 1) body))

behind : (of : Key) (before : List (List ℕ)) (body : List ℕ) (asked : Asked) → next_after (Reads of) (before ++ body ∷ []) ≡ Some asked → IsBehind (Record of) (before ++ body ∷ []) asked
behind of [] body asked is = is
behind of (first ∷ before) body asked is = is

-- ---- what they show

-- the data of the parts of an entry
abbrev whole_of : List (List ℕ) → List ℕ
whole_of bodies = no_handle ++ start_and_end ∷ flat_map entry_in bodies

not_zero : (n : ℕ) → (suc n == 0) ≡ false
not_zero n = elim (cases_Bool (suc n == 0)) [
  | inl t ↦ let no : ⊥ = omega (arith, eqb-true (suc n) 0 t) in absurd no
  | inr f ↦ f
]

-- the data with one part more
whole_more : (shown first : List ℕ) (before : List (List ℕ)) (body : List ℕ) → shown ≡ whole_of (first ∷ before) → shown ++ entry_in body ≡ whole_of ((first ∷ before) ++ body ∷ [])
whole_more shown first before body is =
    let parts : flat_map entry_in (first ∷ before) ++ entry_in body ≡ flat_map entry_in ((first ∷ before) ++ body ∷ []) =
    ap (λ (l : List ℕ). flat_map entry_in (first ∷ before) ++ l) (sym (append-nil (entry_in body))) ∙ sym (flat_map-append entry_in (first ∷ before) (body ∷ [])) in
    ap (λ (l : List ℕ). l ++ entry_in body) is ∙ ap (λ (l : List ℕ). no_handle ++ start_and_end ∷ l) parts

more_joined : (shown : List ℕ) (before : List (List ℕ)) (body : List ℕ) → AreJoined shown before → AreJoined (joined_with (length before) shown body) (before ++ body ∷ [])
more_joined shown [] body any = ap (λ (l : List ℕ). no_handle ++ start_and_end ∷ l) (sym (append-nil (entry_in body)))
more_joined shown (first ∷ before) body is =
    (λ i. (if not_zero (length before) i then no_handle ++ start_and_end ∷ [] else shown) ++ entry_in body) ∙ whole_more shown first before body is

-- several show the whole entry, where the last of them is its last part
joined_many : (first : List ℕ) (before : List (List ℕ)) (body : List ℕ)
    → joined ((first ∷ before) ++ body ∷ []) ≡ (if ends (length (first ∷ before) + 1) body then whole_of ((first ∷ before) ++ body ∷ []) else [])
joined_many first [] body = refl
joined_many first (second ∷ before) body =
    λ i. if ends (one_more (first ∷ second ∷ before) body i) (last_is (first ∷ second ∷ before) body i) then whole_of (first ∷ second ∷ (before ++ body ∷ [])) else []

several : (of : Key) (first : List ℕ) (before : List (List ℕ)) (body : List ℕ) → shown_by of ((first ∷ before) ++ body ∷ []) ≡ joined ((first ∷ before) ++ body ∷ [])
several (key.BiosAttribute handle) first [] body = refl
several (key.BiosAttribute handle) first (second ∷ before) body = refl
several _ first before body = refl

-- the data once the last came
all_shown : (of : Key) (shown : List ℕ) (before : List (List ℕ)) (body : List ℕ) → AreJoined shown before
    → ended_with (Record of) (length before) shown body ≡ shown_by of (before ++ body ∷ [])
all_shown of shown [] body any = refl
all_shown of shown (first ∷ before) body is =
    (λ i. if not_zero (length before) i then shown_by of (body ∷ []) else (if ends (length (first ∷ before) + 1) body then shown ++ entry_in body else []))
    ∙ (λ i. if ends (length (first ∷ before) + 1) body then whole_more shown first before body is i else [])
    ∙ sym (several of first before body ∙ joined_many first before body)

-- ---- a reply

-- the record's Get is where the replies with this one lead
after_get : (of : Key) (shown : List ℕ) (before : List (List ℕ)) (body : List ℕ) (next : Option Asked) → next_behind (Record of) (length before + 1) body ≡ next → AreJoined shown before
    → IsAfter (shown_with (Record of) (length before) shown body next) (before ++ body ∷ []) (stage_with (Record of) (length before) next)
after_get of shown before body (Some asked) is so = (one_more before body, behind of before body asked (next_is of before body ∙ is), more_joined shown before body so)
after_get of shown before body None is so = (next_is of before body ∙ is, all_shown of shown before body so)

-- and so is any look
after_part : (of : Target) (asked : Asked) (shown : List ℕ) (before : List (List ℕ)) (body : List ℕ) (next : Option Asked) → IsBehind of before asked
    → next_behind of (length before + 1) body ≡ next → AreJoined shown before
    → IsAfter (shown_with of (length before) shown body next) (before ++ body ∷ []) (stage_with of (length before) next)
after_part (Record of) asked shown before body next behind_is is so = after_get of shown before body next is so
after_part (Table part) asked shown [] body (Some other) behind_is is so =
    let both : None ≡ Some other = sym (none_either (part_goes_on 1 body)) ∙ is in cc both
after_part (Table part) asked shown [] body None behind_is is so = refl
after_part (Table part) asked shown (first ∷ before) body next behind_is is so = absurd behind_is

after_told : (of : Target) (asked : Asked) (shown : List ℕ) (bodies : List (List ℕ)) (parts : ℕ) (answered : Answered) (done : Bool) → IsBehind of bodies asked → length bodies ≡ parts
    → AreJoined shown bodies
    → IsAfter (if done then shown_with of parts shown answered.body (next_behind of (parts + 1) answered.body) else shown) (if done then bodies ++ answered.body ∷ [] else bodies)
    (if done then stage_with of parts (next_behind of (parts + 1) answered.body) else Refused of answered.code)
after_told of asked shown bodies parts answered true behind_is many so =
    subst (λ (n : ℕ). IsAfter (shown_with of n shown answered.body (next_behind of (n + 1) answered.body)) (bodies ++ answered.body ∷ []) (stage_with of n (next_behind of (n + 1) answered.body))) many
    (after_part of asked shown bodies answered.body (next_behind of (length bodies + 1) answered.body) behind_is refl so)
after_told of asked shown bodies parts answered false behind_is many so = tt

module _ (s : LookState) (bodies : List (List ℕ)) (answered : Answered) where
  taken : (of : Target) (parts : ℕ) (asked : Asked) (busy : Bool) → HasCome s bodies → IsAfter s.shown bodies (Opened true of parts asked)
      → HasCome (if busy then rests s else goes_on s of parts (bus_of asked) answered).state
      (if busy then bodies else (if answered.code == 0 then bodies ++ answered.body ∷ [] else bodies))
  taken of parts asked true came so = came
  taken of parts asked false came so = after_told of asked s.shown bodies parts answered (answered.code == 0) so.1 so.0 so.2

  takes_stage : (stage : Stage) → s.stage ≡ stage → HasCome s bodies → HasCome (takes_at s answered stage).state (bodies_with stage answered bodies)
  takes_stage AtStart is came = came
  takes_stage (Opened true of parts asked) is came = taken of parts asked (is_busy_code answered.code) came (subst (IsAfter s.shown bodies) is came)
  takes_stage (Opened false of parts asked) is came = came
  takes_stage (Found of) is came = came
  takes_stage (Refused of code) is came = came

-- ---- the calls

first_behind : (of : Target) → IsBehind of [] (first_asked of)
first_behind (Record of) = refl
first_behind (Table part) = refl

begun : (s : LookState) (of : Target) (step : StepResult) (stage : Stage) → begin_at s of stage ≡ Some step → HasCome step.state []
begun s of step (Opened true other parts asked) is = let both : None ≡ Some step = is in cc both
begun s of step (Opened false other parts asked) is = subst (λ (x : StepResult). HasCome x.state []) (same_Some _ step is) (refl, first_behind of, tt)
begun s of step AtStart is = subst (λ (x : StepResult). HasCome x.state []) (same_Some _ step is) (refl, first_behind of, tt)
begun s of step (Found other) is = subst (λ (x : StepResult). HasCome x.state []) (same_Some _ step is) (refl, first_behind of, tt)
begun s of step (Refused other code) is = subst (λ (x : StepResult). HasCome x.state []) (same_Some _ step is) (refl, first_behind of, tt)

module _ (s : LookState) (bodies : List (List ℕ)) (step : StepResult) where
  sent_again : (of : Target) (parts : ℕ) (asked : Asked) (less : Bool) → HasCome s bodies → IsAfter s.shown bodies (Opened true of parts asked)
      → HasCome (if less then asks (record s { resent = s.resent + 1 }) else rests (record s { stage = Opened false of parts asked })).state bodies
  sent_again of parts asked true came so = came
  sent_again of parts asked false came so = so

  kept_quiet : (stage : Stage) → s.stage ≡ stage → HasCome s bodies → quiet_at s stage ≡ Some step → HasCome step.state bodies
  kept_quiet AtStart at came is = let both : None ≡ Some step = is in cc both
  kept_quiet (Opened true of parts asked) at came is =
      subst (λ (x : StepResult). HasCome x.state bodies) (same_Some (sends_again s of parts asked) step is)
      (sent_again of parts asked (nat_lt s.resent s.retries) came (subst (IsAfter s.shown bodies) at came))
  kept_quiet (Opened false of parts asked) at came is = let both : None ≡ Some step = is in cc both
  kept_quiet (Found of) at came is = let both : None ≡ Some step = is in cc both
  kept_quiet (Refused of code) at came is = let both : None ≡ Some step = is in cc both

  kept_again : (stage : Stage) → s.stage ≡ stage → HasCome s bodies → again_at s stage ≡ Some step → HasCome step.state bodies
  kept_again AtStart at came is = let both : None ≡ Some step = is in cc both
  kept_again (Opened true of parts asked) at came is = let both : None ≡ Some step = is in cc both
  kept_again (Opened false of parts asked) at came is =
      subst (λ (x : StepResult). HasCome x.state bodies) (same_Some (enters s (Opened true of parts asked)) step is) (subst (IsAfter s.shown bodies) at came)
  kept_again (Found of) at came is = let both : None ≡ Some step = is in cc both
  kept_again (Refused of code) at came is = let both : None ≡ Some step = is in cc both

pub looks_follow_gets : LooksFollowGets
looks_follow_gets = record {
  begins = λ s of step is. begun s of step s.stage is;
  quiet = λ s bodies step came is. kept_quiet s bodies step s.stage refl came is;
  again = λ s bodies step came is. kept_again s bodies step s.stage refl came is;
  takes = λ s bodies answered came. takes_stage s bodies answered s.stage refl came;
}
