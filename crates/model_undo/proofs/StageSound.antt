-- What holds of a manager's stage and the records, and what the phase then says.
use Rattle.std.proofs.Common.{◌≡◌, ℕ, suc, refl, sym, ◌∙◌, subst, Bool, true, false, List, [], ◌∷◌, length, Option, Some, None, ◌⊎◌, inl, inr}
use Rattle.std.specs.Prelude.{slice_get, ◌≢◌, IfSome}
use Rattle.std.proofs.lemmas.Bool.{cases_eq}
use Rattle.two_wire.specs.Codes.{success}
use Rattle.model_bus.specs.Answered.{Answered}
use Rattle.model_undo.specs.Words.{is_busy, IsNext, IsSeries, IsMade, AreAnswered}
use Rattle.model_undo.specs.Family.{Family, KeepsRecords, GaveAnswer}
use Rattle.model_undo.specs.Plan.{IsAfter, PhaseMeans, HaltCause, HaltMeans}
use Rattle.model_undo.specs.Machine.{Task, Gets, Sets, Undoes, Stage, AtStart, Opened, AtEnd, AtHalt, AtUndone, AtRefused, Part, series_of, bodies_with, next_asked, phase_at}
use Rattle.model_undo.specs.Undoable.{CanUndo}
use Rattle.model_undo.proofs.Undoable.{after_of, LeadsHome}
use Rattle.model_undo.proofs.Series.{is_made}

-- `plan` is what the records are compared with, `own` what the manager goes through; the reply is the one that is kept for the
-- open request, if it was carried out
module _ (F : Family) (plan : List F.words.Op) (start : F.Records) where
  -- the step is the plan's
  pub record OfPlan (own : List F.words.Op) (k : ℕ) (op : F.words.Op) : Type 0 where
    pub same : own ≡ plan
    pub step : slice_get plan k ≡ Some op

  -- the board gave the replies to the requests of a record's Get so far, at the records that it has
  abbrev pub Got : F.words.Key → List (List ℕ) → F.Records → Type 0
  Got key bodies r = AreAnswered F.words (GaveAnswer F r) (F.words.getting key) [] bodies

  -- the same of a step's Set
  abbrev pub Put : F.words.Op → List (List ℕ) → F.Records → Type 0
  Put op bodies r = AreAnswered F.words (GaveAnswer F r) (F.words.setting op) [] bodies

  -- where the next request of a step's Set is this one, or none is next
  abbrev pub SetSound : ℕ → F.words.Op → F.words.Op → List (List ℕ) → List F.words.Series → F.Board → Option F.words.Asked → Type 0
  SetSound k op back bodies undo b (Some asked) = CanUndo F plan start k undo (F.records b) × LeadsHome F op back (F.records b) × F.Ready b (F.words.setting op) bodies × Put op bodies (F.records b)
  SetSound k op back bodies undo b None = CanUndo F plan start (suc k) (F.words.setting back ∷ undo) (F.records b)

  -- the same of what undoes a step
  abbrev pub UndoSound : F.words.Series → List F.words.Series → List (List ℕ) → F.Board → Option F.words.Asked → Type 0
  UndoSound first rest bodies b (Some asked) = CanUndo F plan start (suc (length rest)) (first ∷ rest) (F.records b) × F.Ready b first bodies
  UndoSound first rest bodies b None = CanUndo F plan start (length rest) rest (F.records b)

  abbrev pub TaskSound : List F.words.Op → Task F.words → Part F.words → Option Answered → List F.words.Series → F.Board → Type 0
  TaskSound own (Gets k op) part None undo b = OfPlan own k op × CanUndo F plan start k undo (F.records b) × Got (F.words.key_of op) part.before (F.records b)
  TaskSound own (Gets k op) part (Some a) undo b =
      OfPlan own k op × CanUndo F plan start k undo (F.records b) × Got (F.words.key_of op) part.before (F.records b) × GaveAnswer F (F.records b) part.asked a
  TaskSound own (Sets k op back) part None undo b = OfPlan own k op × SetSound k op back part.before undo b (Some part.asked)
  TaskSound own (Sets k op back) part (Some a) undo b =
      OfPlan own k op × (a.code ≡ success → SetSound k op back (bodies_with F.words a part) undo b (next_asked F.words a (Sets k op back) part))
      × (a.code ≢ success → CanUndo F plan start k undo (F.records b) × GaveAnswer F (F.records b) part.asked a × Put op part.before (F.records b))
  TaskSound own (Undoes first rest) part None undo b = UndoSound first rest part.before b (Some part.asked)
  TaskSound own (Undoes first rest) part (Some a) undo b = (a.code ≡ success) × UndoSound first rest (bodies_with F.words a part) b (next_asked F.words a (Undoes first rest) part)

  -- the part is the task's
  abbrev pub IsPart : Task F.words → Part F.words → Type 0
  IsPart task part = IsNext F.words (series_of F.words task) part.before part.asked

  abbrev pub StageSound : List F.words.Op → Stage F.words → Option Answered → Bool → List F.words.Series → F.Board → Type 0
  StageSound own AtStart reply stopped undo b = (own ≡ plan) × CanUndo F plan start 0 undo (F.records b)
  StageSound own (Opened heeded task part) reply stopped undo b = TaskSound own task part reply undo b × IfSome reply (λ a. is_busy a.code ≡ false) × IsPart task part
  StageSound own AtEnd reply stopped undo b = CanUndo F plan start (length plan) undo (F.records b)
  StageSound own (AtHalt k why) reply stopped undo b = CanUndo F plan start k undo (F.records b) × HaltCause F stopped plan k why (F.records b)
  StageSound own AtUndone reply stopped undo b = F.records b ≡ start
  StageSound own (AtRefused k code) reply stopped undo b = ⊥

  -- ---- what happens elsewhere changes nothing of it

  module _ (own : List F.words.Op) (undo : List F.words.Series) (b after : F.Board) (keeps : KeepsRecords F b after) where
    same : F.records b ≡ F.records after
    same = sym keeps.0

    set_kept : (k : ℕ) (op back : F.words.Op) (bodies : List (List ℕ)) (o : Option F.words.Asked) → SetSound k op back bodies undo b o → SetSound k op back bodies undo after o
    set_kept k op back bodies (Some asked) h = (subst (CanUndo F plan start k undo) same h.0, subst (LeadsHome F op back) same h.1, keeps.1 (F.words.setting op) bodies h.2, subst (Put op bodies) same h.3)
    set_kept k op back bodies None h = subst (CanUndo F plan start (suc k) (F.words.setting back ∷ undo)) same h

    undo_kept : (first : F.words.Series) (rest : List F.words.Series) (bodies : List (List ℕ)) (o : Option F.words.Asked) → UndoSound first rest bodies b o → UndoSound first rest bodies after o
    undo_kept first rest bodies (Some asked) h = (subst (CanUndo F plan start (suc (length rest)) (first ∷ rest)) same h.0, keeps.1 first bodies h.1)
    undo_kept first rest bodies None h = subst (CanUndo F plan start (length rest) rest) same h

    task_kept : (task : Task F.words) (part : Part F.words) (reply : Option Answered) → TaskSound own task part reply undo b → TaskSound own task part reply undo after
    task_kept (Gets k op) part None t = (t.0, subst (CanUndo F plan start k undo) same t.1, subst (Got (F.words.key_of op) part.before) same t.2)
    task_kept (Gets k op) part (Some a) t =
        (t.0, subst (CanUndo F plan start k undo) same t.1, subst (Got (F.words.key_of op) part.before) same t.2, subst (λ (r : F.Records). GaveAnswer F r part.asked a) same t.3)
    task_kept (Sets k op back) part None t = (t.0, set_kept k op back part.before (Some part.asked) t.1)
    task_kept (Sets k op back) part (Some a) t = (
      t.0,
      (λ e. set_kept k op back (bodies_with F.words a part) (next_asked F.words a (Sets k op back) part) (t.1 e)),
      (λ ne. let refused = t.2 ne in (subst (CanUndo F plan start k undo) same refused.0, subst (λ (r : F.Records). GaveAnswer F r part.asked a) same refused.1, subst (Put op part.before) same refused.2)),
    )
    task_kept (Undoes first rest) part None t = undo_kept first rest part.before (Some part.asked) t
    task_kept (Undoes first rest) part (Some a) t = (t.0, undo_kept first rest (bodies_with F.words a part) (next_asked F.words a (Undoes first rest) part) t.1)

    pub stage_kept : (stage : Stage F.words) (reply : Option Answered) (stopped : Bool) → StageSound own stage reply stopped undo b → StageSound own stage reply stopped undo after
    stage_kept AtStart reply stopped t = (t.0, subst (CanUndo F plan start 0 undo) same t.1)
    stage_kept (Opened heeded task part) reply stopped t = (task_kept task part reply t.0, t.1, t.2)
    stage_kept AtEnd reply stopped t = subst (CanUndo F plan start (length plan) undo) same t
    stage_kept (AtHalt k why) reply stopped t = (subst (CanUndo F plan start k undo) same t.0, subst (HaltCause F stopped plan k why) same t.1)
    stage_kept AtUndone reply stopped t = keeps.0 ∙ t
    stage_kept (AtRefused k code) reply stopped t = t

  -- ---- what the phase says

  module _ (own : List F.words.Op) (undo : List F.words.Series) (b : F.Board) where
    -- the request of a task is one that a manager makes
    pub series_made : (task : Task F.words) (part : Part F.words) → TaskSound own task part None undo b → IsSeries F.words (series_of F.words task)
    series_made (Gets k op) part t = inl (F.words.key_of op, refl)
    series_made (Sets k op back) part t = inr (op, refl)
    series_made (Undoes first rest) part t = inr (t.0.2.back, t.0.2.series)

    pub task_made : (task : Task F.words) (part : Part F.words) → TaskSound own task part None undo b → IsPart task part → IsMade F.words part.asked
    task_made task part t is = is_made F.words (series_of F.words task) part.before part.asked (series_made task part t) is

    abbrev OneOrMore : ℕ → Type 0
    OneOrMore k = IsAfter F plan start k (F.records b) ⊎ IsAfter F plan start (suc k) (F.records b)

    set_went : (k : ℕ) (op back : F.words.Op) (bodies : List (List ℕ)) (o : Option F.words.Asked) → SetSound k op back bodies undo b o → OneOrMore k
    set_went k op back bodies (Some asked) h = inl (after_of F plan start k undo (F.records b) h.0)
    set_went k op back bodies None h = inr (after_of F plan start (suc k) (F.words.setting back ∷ undo) (F.records b) h)

    put_after : (k : ℕ) (op back : F.words.Op) (part : Part F.words) (a : Answered) → TaskSound own (Sets k op back) part (Some a) undo b → OneOrMore k
    put_after k op back part a t = elim (cases_eq a.code success) [
      | inl e ↦ set_went k op back (bodies_with F.words a part) (next_asked F.words a (Sets k op back) part) (t.1 e)
      | inr ne ↦ inl (after_of F plan start k undo (F.records b) (t.2 ne).0)
    ]

    undo_went : (first : F.words.Series) (rest : List F.words.Series) (bodies : List (List ℕ)) (o : Option F.words.Asked) → UndoSound first rest bodies b o → OneOrMore (length rest)
    undo_went first rest bodies (Some asked) h = inr (after_of F plan start (suc (length rest)) (first ∷ rest) (F.records b) h.0)
    undo_went first rest bodies None h = inl (after_of F plan start (length rest) rest (F.records b) h)

    other_way : (k : ℕ) → OneOrMore k → IsAfter F plan start (suc k) (F.records b) ⊎ IsAfter F plan start k (F.records b)
    other_way k (inl h) = inr h
    other_way k (inr h) = inl h

    undo_after : (first : F.words.Series) (rest : List F.words.Series) (part : Part F.words) (reply : Option Answered) → TaskSound own (Undoes first rest) part reply undo b → OneOrMore (length rest)
    undo_after first rest part None t = undo_went first rest part.before (Some part.asked) t
    undo_after first rest part (Some a) t = undo_went first rest (bodies_with F.words a part) (next_asked F.words a (Undoes first rest) part) t.1

    task_after : (heeded : Bool) (task : Task F.words) (part : Part F.words) (reply : Option Answered) → TaskSound own task part reply undo b → PhaseMeans F plan start (phase_at F.words (Opened heeded task part)) (F.records b)
    task_after true (Gets k op) part None t = after_of F plan start k undo (F.records b) t.1
    task_after true (Gets k op) part (Some a) t = after_of F plan start k undo (F.records b) t.1
    task_after true (Sets k op back) part None t = set_went k op back part.before (Some part.asked) t.1
    task_after true (Sets k op back) part (Some a) t = put_after k op back part a t
    task_after true (Undoes first rest) part reply t = other_way (length rest) (undo_after first rest part reply t)
    task_after false (Gets k op) part None t = inl (after_of F plan start k undo (F.records b) t.1)
    task_after false (Gets k op) part (Some a) t = inl (after_of F plan start k undo (F.records b) t.1)
    task_after false (Sets k op back) part None t = set_went k op back part.before (Some part.asked) t.1
    task_after false (Sets k op back) part (Some a) t = put_after k op back part a t
    task_after false (Undoes first rest) part reply t = undo_after first rest part reply t

    -- the phase stands on the records
    pub stage_stands : (stage : Stage F.words) (reply : Option Answered) (stopped : Bool) → StageSound own stage reply stopped undo b → PhaseMeans F plan start (phase_at F.words stage) (F.records b)
    stage_stands AtStart reply stopped t = after_of F plan start 0 undo (F.records b) t.1
    stage_stands (Opened heeded task part) reply stopped t = task_after heeded task part reply t.0
    stage_stands AtEnd reply stopped t = after_of F plan start (length plan) undo (F.records b) t
    stage_stands (AtHalt k why) reply stopped t = after_of F plan start k undo (F.records b) t.0
    stage_stands AtUndone reply stopped t = t
    stage_stands (AtRefused k code) reply stopped t = t

    -- a halt has its cause
    pub stage_halts : (stage : Stage F.words) (reply : Option Answered) (stopped : Bool) → StageSound own stage reply stopped undo b → HaltMeans F stopped plan (phase_at F.words stage) (F.records b)
    stage_halts AtStart reply stopped t = tt
    stage_halts (Opened true (Gets k op) part) reply stopped t = tt
    stage_halts (Opened true (Sets k op back) part) reply stopped t = tt
    stage_halts (Opened true (Undoes first rest) part) reply stopped t = tt
    stage_halts (Opened false task part) reply stopped t = tt
    stage_halts AtEnd reply stopped t = tt
    stage_halts (AtHalt k why) reply stopped t = t.1
    stage_halts AtUndone reply stopped t = tt
    stage_halts (AtRefused k code) reply stopped t = tt
