-- Each request that a manager sends is one that it makes.
use Rattle.std.proofs.Common.{◌≡◌, ℕ, suc, Bool, true, false, List, [], ◌∷◌, Option, Some, None, refl, inl, inr}
use Rattle.std.specs.Prelude.{◌==◌, slice_get, IfSome}
use Rattle.std.proofs.lemmas.Bool.{cond_both}
use Rattle.two_wire.specs.Codes.{success}
use Rattle.two_wire.specs.declared.Bus.{Bus}
use Rattle.record_base.specs.declared.op.Op.{Op}
use Rattle.record_base.specs.declared.message.Asked.{Asked}
use Rattle.record_kinds.specs.Series.{Series}
use Rattle.model_bus.specs.Answered.{Answered}
use Rattle.model_undo.specs.Words.{Words}
use Rattle.model_undo.specs.Wires.{IsSeries, IsMade}
use Rattle.model_bus.specs.Addresses.{Addresses}
use Rattle.model_undo.specs.Machine.{Task, Gets, Sets, Undoes, Part, Stage, AtStart, Opened, AtEnd, AtHalt, AtUndone, AtRefused, begun, Machine, Turn, series_of, bodies_with, next_asked, takes, goes_on, told_stage, finished, refused, set_stage, next_stage, undo_stage, undo_with, undo_after, first_stage, starts}
use Rattle.model_lab.specs.ManagerWords.{manager_words}
use Rattle.model_headline.specs.Made as made

module _ (at : Bus → Addresses) where
  abbrev M : Words
  M = manager_words at

  abbrev AllSeries : List Series → Type 0
  AllSeries ss = made.AllSeries at ss

  abbrev TaskMade : Task M → Type 0
  TaskMade task = made.TaskMade at task

  abbrev StageMade : Stage M → Type 0
  StageMade stage = made.StageMade at stage

  abbrev MachineMade : Machine M → Type 0
  MachineMade m = made.MachineMade at m

  abbrev pub IfMade : Option (Turn M) → Type 0
  IfMade o = IfSome o (λ t. MachineMade t.machine)

  get_made : (k : ℕ) (op : Op) → StageMade (begun M (Gets k op))
  get_made k op = ((M.getting (M.key_of op), inl (M.key_of op, refl), inl refl), tt)

  set_made : (k : ℕ) (op back : Op) → StageMade (begun M (Sets k op back))
  set_made k op back = ((M.setting op, inr (op, refl), inl refl), tt)

  pub undo_made : (undo : List Series) → AllSeries undo → StageMade (undo_stage M undo)
  undo_made [] all = tt
  undo_made (first ∷ rest) all = ((first, all.0, inl refl), all)

  first_made : (o : Option Op) → StageMade (first_stage M o)
  first_made None = tt
  first_made (Some op) = get_made 0 op

  set_stage_made : (stopped : Bool) (k : ℕ) (op : Op) (back : Option Op) → StageMade (set_stage M stopped k op back)
  set_stage_made stopped k op None = tt
  set_stage_made true k op (Some back) = tt
  set_stage_made false k op (Some back) = set_made k op back

  next_made : (stopped : Bool) (k : ℕ) (o : Option Op) → StageMade (next_stage M stopped k o)
  next_made stopped k None = tt
  next_made true k (Some op) = tt
  next_made false k (Some op) = get_made k op

  finished_made : (stopped : Bool) (plan : List Op) (shown : List ℕ) (task : Task M) → TaskMade task → StageMade (finished M stopped plan shown task)
  finished_made stopped plan shown (Gets k op) made = set_stage_made stopped k op (M.inverse op shown)
  finished_made stopped plan shown (Sets k op back) made = next_made stopped (suc k) (slice_get plan (suc k))
  finished_made stopped plan shown (Undoes first rest) made = undo_made rest made.1

  refused_made : (code : ℕ) (task : Task M) → StageMade (refused M code task)
  refused_made code (Gets k op) = tt
  refused_made code (Sets k op back) = tt
  refused_made code (Undoes first rest) = tt

  -- the series of a task
  pub task_series : (task : Task M) → TaskMade task → IsSeries M (series_of M task)
  task_series (Gets k op) made = inl (M.key_of op, refl)
  task_series (Sets k op back) made = inr (op, refl)
  task_series (Undoes first rest) made = made.0

  goes_on_made : (stopped : Bool) (task : Task M) (part : Part M) → TaskMade task → IsMade M part.asked → StageMade (goes_on M stopped task part)
  goes_on_made true (Gets k op) part made is = tt
  goes_on_made false (Gets k op) part made is = (is, made)
  goes_on_made stopped (Sets k op back) part made is = (is, made)
  goes_on_made stopped (Undoes first rest) part made is = (is, made)

  -- the task goes on by its next request, or is done
  told_made : (stopped : Bool) (plan : List Op) (task : Task M) (bodies : List (List ℕ)) (o : Option Asked) → TaskMade task → M.next (series_of M task) bodies ≡ o → StageMade (told_stage M stopped plan task bodies o)
  told_made stopped plan task bodies None made e = finished_made stopped plan _ task made
  told_made stopped plan task bodies (Some asked) made e =
      goes_on_made stopped task (record { asked = asked; before = bodies }) made (series_of M task, task_series task made, inr (bodies, e))

  undo_with_made : (back : Op) (o : Option Asked) (undo : List Series) → AllSeries undo → AllSeries (undo_with M back o undo)
  undo_with_made back None undo all = (inr (back, refl), all)
  undo_with_made back (Some asked) undo all = all

  kept_made : (a : Answered) (task : Task M) (part : Part M) (undo : List Series) → AllSeries undo → AllSeries (undo_after M a task part undo)
  kept_made a (Gets k op) part undo all = all
  kept_made a (Sets k op back) part undo all =
      let o = next_asked M a (Sets k op back) part in
      cond_both (a.code == success) (undo_with M back o undo) undo AllSeries (λ _. undo_with_made back o undo all) (λ _. all)
  kept_made a (Undoes first rest) part undo all = all

  pub takes_made : (a : Answered) (task : Task M) (part : Part M) (m : Machine M) → TaskMade task → AllSeries m.undo → MachineMade (takes M a task part m).machine
  takes_made a task part m made all = record {
    stage = cond_both (a.code == success) (told_stage M m.stopped m.plan task (bodies_with M a part) (next_asked M a task part)) (refused M a.code task) StageMade
        (λ _. told_made m.stopped m.plan task (bodies_with M a part) (next_asked M a task part) made refl) (λ _. refused_made a.code task);
    undo = kept_made a task part m.undo all;
  }

  -- ---- calls and replies

  pub starts_made : (stage : Stage M) (m : Machine M) → AllSeries m.undo → IfMade (starts M stage m)
  starts_made AtStart m all = record { stage = first_made (slice_get m.plan 0); undo = all }
  starts_made (Opened heeded task part) m all = tt
  starts_made AtEnd m all = tt
  starts_made (AtHalt k why) m all = tt
  starts_made AtUndone m all = tt
  starts_made (AtRefused k code) m all = tt
