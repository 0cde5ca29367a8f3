-- What holds of a manager's stage is kept: where its request is carried out, where it takes the reply, and by each call.
use Rattle.std.proofs.Common.{◌≡◌, ℕ, zero, suc, ◌≤◌, Bool, true, false, eqb, List, [], ◌∷◌, ◌++◌, length, Option, Some, None, refl, sym, ap, subst, arith, ◌⊎◌, inl, inr}
use Rattle.std.specs.Prelude.{slice_get, if◌then◌else◌}
use Rattle.std.proofs.lemmas.Bool.{cases_eq, cond_both, eqb-true, eqb-false, eq-eqb, ne_eqb}
use Rattle.std.proofs.lemmas.Option.{slice_get_within}
use Rattle.two_wire.specs.Codes.{success}
use Rattle.model_bus.specs.Answered.{Answered}
use Rattle.model_undo.specs.Words.{IsNext, AllAnswered}
use Rattle.model_undo.specs.Family.{Family, AllValid, IsReady, GaveAnswer, SetsTo}
use Rattle.model_undo.specs.IsFamily.{AnswersSet, IsFamily}
use Rattle.model_undo.specs.declared.phase.Why.{Why}
use Rattle.model_undo.specs.declared.phase.Why.TheVariants.{Stop, Refused, NotRestorable, GetRefused}
use Rattle.model_undo.specs.Plan.{HaltCause}
use Rattle.model_undo.specs.Machine.{Task, Gets, Sets, Undoes, Stage, AtStart, Opened, AtEnd, AtHalt, AtUndone, AtRefused, Part, first_stage, undo_stage, next_stage, set_stage, goes_on, told_stage, bodies_with, next_asked, stage_after, undo_with, undo_after}
use Rattle.model_undo.specs.Undoable.{CanUndo}
use Rattle.model_undo.proofs.Undoable.{past_none, LeadsHome, length_of, sets_to_one, sets_to_valid, sets_back, ready}
use Rattle.model_undo.proofs.Series.{not_empty, is_of, is_next, one_more}
use Rattle.model_undo.proofs.StageSound.{OfPlan, Got, Put, SetSound, UndoSound, TaskSound, IsPart, StageSound, task_made}

module _ (F : Family) (laws : IsFamily F) where
  -- ---- a request of a Set is carried out

  -- what it does, where the next request is this one, or none is next
  abbrev Does : F.words.Op → List (List ℕ) → F.Board → F.Board → Option F.words.Asked → Type 0
  Does op bodies b after (Some asked) = (F.records after ≡ F.records b) × F.Ready after (F.words.setting op) bodies
  Does op bodies b after None = SetsTo F op (F.records b) (F.records after)

  does : (b after : F.Board) (op : F.words.Op) (bodies : List (List ℕ)) (a : Answered) → AnswersSet F op bodies b a after → a.code ≡ success → (o : Option F.words.Asked) → F.words.next (F.words.setting op) (bodies ++ a.body ∷ []) ≡ o
      → Does op (bodies ++ a.body ∷ []) b after o
  does b after op bodies a set e (Some asked) is = laws.sets_go_on b after op bodies a asked set e is
  does b after op bodies a set e None is = laws.sets_do b after op bodies a set e is

  -- the records are as they were, or the operation was done
  does_or_keeps : (b after : F.Board) (op : F.words.Op) (bodies : List (List ℕ)) (o : Option F.words.Asked) → Does op bodies b after o → (F.records after ≡ F.records b) ⊎ SetsTo F op (F.records b) (F.records after)
  does_or_keeps b after op bodies (Some asked) h = inl h.0
  does_or_keeps b after op bodies None h = inr h

  set_valid : (b after : F.Board) (a : Answered) (op : F.words.Op) (bodies : List (List ℕ)) → AllValid F (F.records b) → AnswersSet F op bodies b a after → AllValid F (F.records after)
  set_valid b after a op bodies valid set =
      elim (cases_eq a.code success) [
        | inl e ↦
            let all = bodies ++ a.body ∷ [] in
            elim (does_or_keeps b after op all (F.words.next (F.words.setting op) all) (does b after op bodies a set e (F.words.next (F.words.setting op) all) refl)) [
              | inl same ↦ subst (AllValid F) (sym same) valid
              | inr done ↦ sets_to_valid F laws op (F.records b) (F.records after) valid done
            ]
        | inr ne ↦ subst (AllValid F) (sym (laws.refusals_keep b after op bodies a set ne)) valid
      ]

  -- the request is one of the series that undoes a step
  undo_set : (b after : F.Board) (a : Answered) (u : F.words.Series) (back : F.words.Op) (part : Part F.words) → u ≡ F.words.setting back → IsNext F.words u part.before part.asked → F.Ready b u part.before → F.Row b part.asked a after
      → AnswersSet F back part.before b a after
  undo_set b after a u back part is next free row = record {
    asked = part.asked;
    is_next = subst (λ (s : F.words.Series). IsNext F.words s part.before part.asked) is next;
    ready = subst (λ (s : F.words.Series). F.Ready b s part.before) is free;
    row = row;
  }

module _ (F : Family) (laws : IsFamily F) (plan : List F.words.Op) (start : F.Records) (own : List F.words.Op) where
  abbrev pub Good : Stage F.words → Option Answered → Bool → List F.words.Series → F.Board → Type 0
  Good = StageSound F plan start own

  abbrev Sound : Task F.words → Part F.words → Option Answered → List F.words.Series → F.Board → Type 0
  Sound = TaskSound F plan start own

  -- ---- the open request is carried out

  got : (b after : F.Board) (a : Answered) (k : ℕ) (op : F.words.Op) (part : Part F.words) (undo : List F.words.Series) → Sound (Gets k op) part None undo b → IsPart F plan start (Gets k op) part → F.Row b part.asked a after
      → Sound (Gets k op) part (Some a) undo after
  got b after a k op part undo t is row =
      let key = F.words.key_of op in
      let same : F.records b ≡ F.records after = sym (laws.parts_keep b after key part.asked a (is_of F.words (F.words.getting key) part.before part.asked is) row) in
      (t.0, subst (CanUndo F plan start k undo) same t.1, subst (Got F plan start key part.before) same t.2, (b, after, same, row))

  set_so : (b after : F.Board) (k : ℕ) (op back : F.words.Op) (bodies before : List (List ℕ)) (undo : List F.words.Series) (o : Option F.words.Asked) → slice_get plan k ≡ Some op → SetSound F plan start k op back before undo b (Some (F.words.first (F.words.setting op)))
      → Put F plan start op bodies (F.records b) → Does F laws op bodies b after o → SetSound F plan start k op back bodies undo after o
  set_so b after k op back bodies before undo (Some asked) step t put d =
      let same : F.records b ≡ F.records after = sym d.0 in
      (subst (CanUndo F plan start k undo) same t.0, subst (LeadsHome F op back) same t.1, d.1, subst (Put F plan start op bodies) same put)
  set_so b after k op back bodies before undo None step t put d =
      (F.records b, t.0, record { op = op; back = back; step = step; same_key = t.1.same_key; done = d; undone = sets_back F laws op back (F.records b) (F.records after) t.1 d; series = refl })

  -- one more request of a Set was answered
  put_more : (b after : F.Board) (a : Answered) (op : F.words.Op) (part : Part F.words) → Put F plan start op part.before (F.records b) → IsNext F.words (F.words.setting op) part.before part.asked → F.Row b part.asked a after → a.code ≡ success
      → Put F plan start op (bodies_with F.words a part) (F.records b)
  put_more b after a op part put is row e =
      let gave : GaveAnswer F (F.records b) part.asked a = (b, after, refl, row) in
      let done : GaveAnswer F (F.records b) part.asked (record { code = success; body = a.body }) = subst (λ (c : ℕ). GaveAnswer F (F.records b) part.asked (record { code = c; body = a.body })) e gave in
      one_more F.words (F.words.setting op) (GaveAnswer F (F.records b)) [] part.before part.asked a.body put is done

  set : (b after : F.Board) (a : Answered) (k : ℕ) (op back : F.words.Op) (part : Part F.words) (undo : List F.words.Series) → Sound (Sets k op back) part None undo b → IsPart F plan start (Sets k op back) part → F.Row b part.asked a after
      → Sound (Sets k op back) part (Some a) undo after
  set b after a k op back part undo t is row =
      let answers : AnswersSet F op part.before b a after = record { asked = part.asked; is_next = is; ready = t.1.2; row = row } in
      let o = next_asked F.words a (Sets k op back) part in (
        t.0,
        (λ e. set_so b after k op back (bodies_with F.words a part) part.before undo o t.0.step t.1 (put_more b after a op part t.1.3 is row e) (does F laws b after op part.before a answers e o refl)),
        (λ ne.
            let same : F.records b ≡ F.records after = sym (laws.refusals_keep b after op part.before a answers ne) in
            (subst (CanUndo F plan start k undo) same t.1.0, (b, after, same, row), subst (Put F plan start op part.before) same t.1.3)),
      )

  undo_so : (b after : F.Board) (u : F.words.Series) (rest : List F.words.Series) (back : F.words.Op) (bodies before : List (List ℕ)) (o : Option F.words.Asked) → u ≡ F.words.setting back
      → (can : CanUndo F plan start (suc (length rest)) (u ∷ rest) (F.records b)) → SetsTo F back (F.records b) can.0 → Does F laws back bodies b after o → UndoSound F plan start u rest bodies after o
  undo_so b after u rest back bodies before (Some asked) is can home d =
      (subst (CanUndo F plan start (suc (length rest)) (u ∷ rest)) (sym d.0) can, subst (λ (s : F.words.Series). F.Ready after s bodies) (sym is) d.1)
  undo_so b after u rest back bodies before None is can home d =
      let same : can.0 ≡ F.records after = sets_to_one F laws back (F.records b) can.0 (F.records after) home d in
      subst (CanUndo F plan start (length rest) rest) same can.1

  undid : (b after : F.Board) (a : Answered) (first : F.words.Series) (rest : List F.words.Series) (part : Part F.words) (undo : List F.words.Series) → Sound (Undoes first rest) part None undo b → IsPart F plan start (Undoes first rest) part
      → F.Row b part.asked a after → Sound (Undoes first rest) part (Some a) undo after
  undid b after a first rest part undo t is row =
      let back = t.0.2 in
      let answers = undo_set F laws b after a first back.back part back.series is t.1 row in
      let o = next_asked F.words a (Undoes first rest) part in
      elim (cases_eq a.code success) [
        | inl e ↦
            let all = bodies_with F.words a part in
            let is_o : F.words.next (F.words.setting back.back) all ≡ o = ap (λ (s : F.words.Series). F.words.next s all) (sym back.series) in
            (e, undo_so b after first rest back.back all part.before o back.series t.0 back.undone (does F laws b after back.back part.before a answers e o is_o))
        | inr ne ↦ absurd (laws.refusals_say b after back.back part.before a answers ne t.0.0 back.undone)
      ]

  pub carried_sound : (b after : F.Board) (a : Answered) (task : Task F.words) (part : Part F.words) (undo : List F.words.Series) → Sound task part None undo b → IsPart F plan start task part → F.Row b part.asked a after
      → Sound task part (Some a) undo after
  carried_sound b after a (Gets k op) part undo t is row = got b after a k op part undo t is row
  carried_sound b after a (Sets k op back) part undo t is row = set b after a k op back part undo t is row
  carried_sound b after a (Undoes first rest) part undo t is row = undid b after a first rest part undo t is row

  -- a task's request keeps the records valid, and the board ready
  pub carried_valid : (b after : F.Board) (a : Answered) (task : Task F.words) (part : Part F.words) (undo : List F.words.Series) → Sound task part None undo b → IsPart F plan start task part → AllValid F (F.records b)
      → F.Row b part.asked a after → AllValid F (F.records after)
  carried_valid b after a (Gets k op) part undo t is valid row =
      let key = F.words.key_of op in
      subst (AllValid F) (sym (laws.parts_keep b after key part.asked a (is_of F.words (F.words.getting key) part.before part.asked is) row)) valid
  carried_valid b after a (Sets k op back) part undo t is valid row = set_valid F laws b after a op part.before valid (record { asked = part.asked; is_next = is; ready = t.1.2; row = row })
  carried_valid b after a (Undoes first rest) part undo t is valid row = set_valid F laws b after a t.0.2.back part.before valid (undo_set F laws b after a first t.0.2.back part t.0.2.series is t.1 row)

  pub carried_ready : (b after : F.Board) (a : Answered) (task : Task F.words) (part : Part F.words) (undo : List F.words.Series) → Sound task part None undo b → IsPart F plan start task part → IsReady F b
      → F.Row b part.asked a after → IsReady F after
  carried_ready b after a task part undo t is free row = laws.stays_ready b after part.asked a (task_made F plan start own undo b task part t is) free row

  -- ---- the stages that calls and replies enter

  pub first_good : (o : Option F.words.Op) (stopped : Bool) (undo : List F.words.Series) (b : F.Board) → slice_get own 0 ≡ o → own ≡ plan → CanUndo F plan start 0 undo (F.records b) → Good (first_stage F.words o) None stopped undo b
  first_good None stopped undo b e same h =
      let none : slice_get plan 0 ≡ None = subst (λ (p : List F.words.Op). slice_get p 0 ≡ None) same e in
      let empty = past_none plan 0 none in
      let ends : 0 ≡ length plan = omega arith in
      subst (λ (n : ℕ). CanUndo F plan start n undo (F.records b)) ends h
  first_good (Some op) stopped undo b e same h = ((record { same = same; step = subst (λ (p : List F.words.Op). slice_get p 0 ≡ Some op) same e }, h, tt), tt, refl)

  pub undo_good : (undo : List F.words.Series) (n : ℕ) (stopped : Bool) (list : List F.words.Series) (b : F.Board) → CanUndo F plan start n undo (F.records b) → IsReady F b → Good (undo_stage F.words undo) None stopped list b
  undo_good [] zero stopped list b h free = h
  undo_good [] (suc n) stopped list b h free = absurd h
  undo_good (u ∷ us) n stopped list b h free =
      ((subst (λ (n : ℕ). CanUndo F plan start n (u ∷ us) (F.records b)) (sym (length_of F plan start n (u ∷ us) (F.records b) h)) h, free u), tt, refl)

  -- all requests of a step's Get were answered
  abbrev AllGot : F.words.Op → List (List ℕ) → F.Records → Type 0
  AllGot op bodies r = AllAnswered F.words (GaveAnswer F r) (F.words.getting (F.words.key_of op)) bodies

  set_good : (stopped : Bool) (k : ℕ) (op : F.words.Op) (o : Option F.words.Op) (bodies : List (List ℕ)) (undo : List F.words.Series) (b : F.Board) → OfPlan F plan start own k op → CanUndo F plan start k undo (F.records b)
      → AllGot op bodies (F.records b) → AllValid F (F.records b) → IsReady F b → F.words.inverse op (F.words.joined (F.words.getting (F.words.key_of op)) bodies) ≡ o → Good (set_stage F.words stopped k op o) None stopped undo b
  set_good stopped k op None bodies undo b of can all valid free is =
      let key = F.words.key_of op in
      let shown_by = F.words.joined (F.words.getting key) bodies in
      let shown = laws.parts_show (F.records b) key bodies valid all in
      (can, (bodies, record { op = op; step = of.step; gave = all; not_restorable = laws.kinds.refuses op shown.value shown_by (valid key shown.value shown.found) shown.shows is }))
  set_good true k op (Some back) bodies undo b of can all valid free is = (can, refl)
  set_good false k op (Some back) bodies undo b of can all valid free is =
      let key = F.words.key_of op in
      ((of, (can, ready F laws op back (F.words.joined (F.words.getting key) bodies) (F.records b) valid (laws.parts_show (F.records b) key bodies valid all) is, free (F.words.setting op), tt)), tt, refl)

  next_good : (stopped : Bool) (k : ℕ) (o : Option F.words.Op) (undo : List F.words.Series) (b : F.Board) → k ≤ length plan → own ≡ plan → slice_get own k ≡ o → CanUndo F plan start k undo (F.records b)
      → Good (next_stage F.words stopped k o) None stopped undo b
  next_good stopped k None undo b le same e h =
      let none : slice_get plan k ≡ None = subst (λ (p : List F.words.Op). slice_get p k ≡ None) same e in
      let past = past_none plan k none in
      let all : k ≡ length plan = omega arith in
      subst (λ (n : ℕ). CanUndo F plan start n undo (F.records b)) all h
  next_good true k (Some op) undo b le same e h = (h, refl)
  next_good false k (Some op) undo b le same e h = ((record { same = same; step = subst (λ (p : List F.words.Op). slice_get p k ≡ Some op) same e }, h, tt), tt, refl)

  -- ---- the reply to the open request is taken

  -- one more request of a Get was answered
  got_more : (part : Part F.words) (a : Answered) (k : ℕ) (op : F.words.Op) (undo : List F.words.Series) (b : F.Board) → Sound (Gets k op) part (Some a) undo b → IsPart F plan start (Gets k op) part → a.code ≡ success
      → Got F plan start (F.words.key_of op) (bodies_with F.words a part) (F.records b)
  got_more part a k op undo b t is e =
      let gave : GaveAnswer F (F.records b) part.asked (record { code = success; body = a.body }) = subst (λ (c : ℕ). GaveAnswer F (F.records b) part.asked (record { code = c; body = a.body })) e t.3 in
      one_more F.words (F.words.getting (F.words.key_of op)) (GaveAnswer F (F.records b)) [] part.before part.asked a.body t.2 is gave

  -- a Get goes on, unless the plan is to stop
  get_goes_on : (stopped : Bool) (k : ℕ) (op : F.words.Op) (part : Part F.words) (undo : List F.words.Series) (b : F.Board) → Sound (Gets k op) part None undo b → IsPart F plan start (Gets k op) part
      → Good (goes_on F.words stopped (Gets k op) part) None stopped undo b
  get_goes_on true k op part undo b t is = (t.1, refl)
  get_goes_on false k op part undo b t is = (t, tt, is)

  get_told : (stopped : Bool) (k : ℕ) (op : F.words.Op) (part : Part F.words) (a : Answered) (undo : List F.words.Series) (b : F.Board) (o : Option F.words.Asked) → Sound (Gets k op) part (Some a) undo b → IsPart F plan start (Gets k op) part
      → AllValid F (F.records b) → IsReady F b → a.code ≡ success → next_asked F.words a (Gets k op) part ≡ o
      → Good (told_stage F.words stopped own (Gets k op) (bodies_with F.words a part) o) None stopped undo b
  get_told stopped k op part a undo b (Some asked) t is valid free e next =
      get_goes_on stopped k op (record { asked = asked; before = bodies_with F.words a part }) undo b (t.0, t.1, got_more part a k op undo b t is e) (is_next F.words (F.words.getting (F.words.key_of op)) part.before a.body asked next)
  get_told stopped k op part a undo b None t is valid free e next =
      set_good stopped k op (F.words.inverse op (F.words.joined (F.words.getting (F.words.key_of op)) (bodies_with F.words a part))) (bodies_with F.words a part) undo b t.0 t.1
      (record { in_order = got_more part a k op undo b t is e; some = not_empty part.before a.body; no_more = next }) valid free refl

  gets_good : (a : Answered) (k : ℕ) (op : F.words.Op) (part : Part F.words) (stopped : Bool) (undo : List F.words.Series) (b : F.Board) → Sound (Gets k op) part (Some a) undo b → IsPart F plan start (Gets k op) part → AllValid F (F.records b) → IsReady F b
      → Good (stage_after F.words stopped own a (Gets k op) part) None stopped undo b
  gets_good a k op part stopped undo b t is valid free =
      let o = next_asked F.words a (Gets k op) part in
      cond_both (eqb a.code success) (told_stage F.words stopped own (Gets k op) (bodies_with F.words a part) o) (AtHalt k (GetRefused a.code)) (λ s. Good s None stopped undo b)
      (λ e. get_told stopped k op part a undo b o t is valid free (eqb-true _ _ e) refl)
      (λ f. (t.1, (eqb-false _ _ f, a.body, record { op = op; step = t.0.step; bodies = part.before; asked = part.asked; reached = record { in_order = t.2; next = is }; gave = t.3 })))

  -- a Set goes on, or the step is done
  set_told : (stopped : Bool) (k : ℕ) (op back : F.words.Op) (part : Part F.words) (a : Answered) (undo : List F.words.Series) (b : F.Board) (o : Option F.words.Asked) → OfPlan F plan start own k op
      → SetSound F plan start k op back (bodies_with F.words a part) undo b o → next_asked F.words a (Sets k op back) part ≡ o
      → Good (told_stage F.words stopped own (Sets k op back) (bodies_with F.words a part) o) None stopped (undo_with F.words back o undo) b
  set_told stopped k op back part a undo b (Some asked) of s next = ((of, s), tt, is_next F.words (F.words.setting op) part.before a.body asked next)
  set_told stopped k op back part a undo b None of s next =
      next_good stopped (suc k) (slice_get own (suc k)) (F.words.setting back ∷ undo) b (slice_get_within plan k op of.step) of.same refl s

  sets_good : (a : Answered) (k : ℕ) (op back : F.words.Op) (part : Part F.words) (stopped : Bool) (undo : List F.words.Series) (b : F.Board) → Sound (Sets k op back) part (Some a) undo b → IsPart F plan start (Sets k op back) part
      → Good (stage_after F.words stopped own a (Sets k op back) part) None stopped (undo_after F.words a (Sets k op back) part undo) b
  sets_good a k op back part stopped undo b t is =
      let task : Task F.words = Sets k op back in
      let o = next_asked F.words a task part in
      let went = told_stage F.words stopped own task (bodies_with F.words a part) o in
      let kept = undo_with F.words back o undo in
      elim (cases_eq a.code success) [
        | inl e ↦ subst (λ (c : Bool). Good (if c then went else AtHalt k (Refused a.code)) None stopped (if c then kept else undo) b) (sym (eq-eqb a.code success e))
            (set_told stopped k op back part a undo b o t.0 (t.1 e) refl)
        | inr ne ↦ subst (λ (c : Bool). Good (if c then went else AtHalt k (Refused a.code)) None stopped (if c then kept else undo) b) (sym (ne_eqb a.code success ne))
            (let refused = t.2 ne in (refused.0, (ne, a.body, record { op = op; step = t.0.step; bodies = part.before; asked = part.asked; reached = record { in_order = refused.2; next = is }; gave = refused.1 })))
      ]

  -- an undo goes on, or the step is undone
  undo_told : (stopped : Bool) (first : F.words.Series) (rest : List F.words.Series) (part : Part F.words) (a : Answered) (undo : List F.words.Series) (b : F.Board) (o : Option F.words.Asked) → IsReady F b
      → UndoSound F plan start first rest (bodies_with F.words a part) b o → next_asked F.words a (Undoes first rest) part ≡ o
      → Good (told_stage F.words stopped own (Undoes first rest) (bodies_with F.words a part) o) None stopped undo b
  undo_told stopped first rest part a undo b (Some asked) free s next = (s, tt, is_next F.words first part.before a.body asked next)
  undo_told stopped first rest part a undo b None free s next = undo_good rest (length rest) stopped undo b s free

  undoes_good : (a : Answered) (first : F.words.Series) (rest : List F.words.Series) (part : Part F.words) (stopped : Bool) (undo : List F.words.Series) (b : F.Board) → Sound (Undoes first rest) part (Some a) undo b → IsReady F b
      → Good (stage_after F.words stopped own a (Undoes first rest) part) None stopped undo b
  undoes_good a first rest part stopped undo b t free =
      let o = next_asked F.words a (Undoes first rest) part in
      cond_both (eqb a.code success) (told_stage F.words stopped own (Undoes first rest) (bodies_with F.words a part) o) (AtRefused (length rest) a.code) (λ s. Good s None stopped undo b)
      (λ e. undo_told stopped first rest part a undo b o free t.1 refl)
      (λ f. absurd (eqb-false _ _ f t.0))

  pub taken_good : (a : Answered) (task : Task F.words) (part : Part F.words) (stopped : Bool) (undo : List F.words.Series) (b : F.Board) → IsPart F plan start task part
      → Sound task part (Some a) undo b → AllValid F (F.records b) → IsReady F b → Good (stage_after F.words stopped own a task part) None stopped (undo_after F.words a task part undo) b
  taken_good a (Gets k op) part stopped undo b is t valid free = gets_good a k op part stopped undo b t is valid free
  taken_good a (Sets k op back) part stopped undo b is t valid free = sets_good a k op back part stopped undo b t is
  taken_good a (Undoes first rest) part stopped undo b is t valid free = undoes_good a first rest part stopped undo b t free

  -- ---- it is to stop

  because_stopped : (stopped : Bool) (k : ℕ) (why : Why) (r : F.Records) → HaltCause F stopped plan k why r → HaltCause F true plan k why r
  because_stopped stopped k Stop r h = refl
  because_stopped stopped k (Refused code) r h = h
  because_stopped stopped k NotRestorable r h = h
  because_stopped stopped k (GetRefused code) r h = h

  pub stop_good : (stage : Stage F.words) (reply : Option Answered) (stopped : Bool) (undo : List F.words.Series) (b : F.Board) → Good stage reply stopped undo b → Good stage reply true undo b
  stop_good AtStart reply stopped undo b h = h
  stop_good (Opened heeded task part) reply stopped undo b h = h
  stop_good AtEnd reply stopped undo b h = h
  stop_good (AtHalt k why) reply stopped undo b h = (h.0, because_stopped stopped k why (F.records b) h.1)
  stop_good AtUndone reply stopped undo b h = h
  stop_good (AtRefused k code) reply stopped undo b h = h
