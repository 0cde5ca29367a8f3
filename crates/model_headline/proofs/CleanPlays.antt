-- A play of a clean schedule takes it whole, and tells how the plan runs on a clean link.
use Rattle.std.proofs.Common.{◌≡◌, ℕ, ◌+◌, ◌≤◌, List, [], ◌∷◌, ◌++◌, length, Option, Some, None, refl, sym, ◌∙◌, ap, subst}
use Rattle.std.specs.Prelude.{slice_get}
use Rattle.std.proofs.lemmas.Option.{none-some, same_Some}
use Rattle.two_wire.specs.declared.Bus.TheVariants.{Ipmb, Smbus}
use Rattle.record_base.specs.declared.op.Op.{Op}
use Rattle.cfg_records.specs.declared.board_file.BoardFile.{BoardFile}
use Rattle.model_undo.specs.declared.phase.Phase.TheVariants.{Undone}
use Rattle.model_undo.specs.Plan.{IsAfter}
use Rattle.model_undo.specs.Machine.{phase_of}
use Rattle.model_lab.specs.Lab as lab
use Rattle.model_lab.specs.declared.way.Way.{Way}
use Rattle.model_lab.specs.declared.way.Way.TheVariants.{ToPort, ToManager, ToOthers}
use Rattle.model_lab.specs.Lab.{LabFrame, Lab, step, run}
use Rattle.model_lab.specs.Clean.{delivery_of, delivery_in, DeliversFrom, IsCleanRun, IsCleanUndo}
use Rattle.model_lab.specs.Faults.{begun_on, AllTaken}
use Rattle.model_lab.proofs.Endings.{one_end}
use Rattle.model_undo.specs.declared.call.Call.TheVariants as called
use Rattle.text_lines.specs.declared.event.Event.{Event}
use Rattle.text_lines.specs.declared.event.Event.TheVariants as event
use Rattle.model_lab.specs.Meaning.{lab_names, event_of}
use Rattle.model_lab.specs.Played.{plans, Ending, Whole, happens, after, AreTaken, told_of, IsPlayed}
use Rattle.model_headline.specs.Tied.{own_family}
use Rattle.model_headline.specs.CleanLink.{RunsOnCleanLink}
use Rattle.model_headline.specs.CleanPlays.{events_from, first, EndsClean, PlaysRunClean}
use Rattle.model_headline.proofs.CleanLink.{runs_on_clean_link}

module _ (file : BoardFile) where
  runs_so : (es : List Event) (x : Lab plans) → run plans file (events_from file es x) x ≡ after file es x
  unfolding run
  runs_so [] x = refl
  runs_so (e ∷ es) x = runs_so es (happens file e x)

  taken_so : (es : List Event) (x : Lab plans) → AllTaken plans file (events_from file es x) x → AreTaken file es x
  taken_so [] x all = tt
  taken_so (e ∷ es) x all = (all.0, taken_so es (happens file e x) all.1)

  -- ---- a clean schedule of a lab is one that can be written

  -- these events of a schedule are those of the lab
  record Written (es : List lab.Event) (x : Lab plans) : Type 0 where
    events : List Event
    same : events_from file events x ≡ es

  one_more : (e : lab.Event) (es : List lab.Event) (x : Lab plans) (t : Event) → event_of lab_names file x.board t ≡ e → Written es (step plans file x e) → Written (e ∷ es) x
  one_more e es x t is rest =
      let there : Written es (happens file t x) = subst (λ (k : lab.Event). Written es (step plans file x k)) (sym is) rest in
      record { events = t ∷ there.events; same = λ i. is i ∷ there.same i }

  delivery_written : (number : ℕ) (e : lab.Event) (es : List lab.Event) (x : Lab plans) (o : Option LabFrame) → delivery_in number o ≡ Some e → Written es (step plans file x e) → Written (e ∷ es) x
  delivery_written number e es x None is rest = absurd (none-some e is)
  delivery_written number e es x (Some f) is rest = by f.way is
    where
      by : (way : Way) → delivery_of number way ≡ Some e → Written (e ∷ es) x
      by ToPort at = one_more e es x (event.ToBmc number) (same_Some (lab.ToBmc number) e at) rest
      by ToManager at = one_more e es x (event.ToMgr number) (same_Some (lab.ToMgr number) e at) rest
      by ToOthers at = absurd (none-some e at)

  deliveries_written : (es : List lab.Event) (number : ℕ) (x : Lab plans) → DeliversFrom plans file number es x → Written es x
  deliveries_written [] number x d = record { events = []; same = refl }
  deliveries_written (e ∷ es) number x d = delivery_written number e es x (slice_get x.frames number) d.0 (deliveries_written es (number + 1) (step plans file x e) d.1)

  then_more : (ts : List Event) (more : List lab.Event) (x : Lab plans) → Written more (after file ts x) → Written (events_from file ts x ++ more) x
  then_more [] more x rest = rest
  then_more (t ∷ ts) more x rest =
      let there = then_more ts more (happens file t x) rest in
      record { events = t ∷ there.events; same = ap (λ (l : List lab.Event). event_of lab_names file x.board t ∷ l) there.same }

  run_written : (es : List lab.Event) (x : Lab plans) → IsCleanRun plans file es x → Written es x
  run_written es x c = subst (λ (l : List lab.Event). Written l x) (sym c.all)
      (one_more (lab.Calls called.Start) c.deliveries x (event.Calls called.Start) refl (deliveries_written c.deliveries 0 (step plans file x (lab.Calls called.Start)) c.delivered))

  undo_written : (es : List lab.Event) (x : Lab plans) → IsCleanUndo plans file es x → Written es x
  undo_written es x c =
      let y = run plans file c.before x in
      let first_ones = run_written c.before x c.ran in
      let there : y ≡ after file first_ones.events x = ap (λ (l : List lab.Event). run plans file l x) (sym first_ones.same) ∙ runs_so first_ones.events x in
      let rest : Written (lab.Calls called.Undo ∷ c.deliveries) y =
      one_more (lab.Calls called.Undo) c.deliveries y (event.Calls called.Undo) refl (deliveries_written c.deliveries (length y.frames) (step plans file y (lab.Calls called.Undo)) c.delivered) in
      let all = then_more first_ones.events (lab.Calls called.Undo ∷ c.deliveries) x (subst (Written (lab.Calls called.Undo ∷ c.deliveries)) there rest) in
      subst (λ (l : List lab.Event). Written l x) (sym c.all)
      (subst (λ (l : List lab.Event). Written (l ++ lab.Calls called.Undo ∷ c.deliveries) x) first_ones.same all)

module _ (file : BoardFile) (plan : List Op) (retries : ℕ) where
  abbrev x0 : Lab plans
  x0 = first file plan retries

  abbrev law : RunsOnCleanLink file lab_names plan retries
  law = runs_on_clean_link file lab_names plan retries

  -- a play that could take all events did
  whole : (events : List Event) (ending : Ending) → IsPlayed file plan retries events ending → AllTaken plans file (events_from file events x0) x0
      → ending ≡ Whole (told_of file x0 (after file events x0))
  whole events ending played all =
      one_end file x0 events ending (Whole (told_of file x0 (after file events x0))) played (taken_so file events x0 all, refl)

  abbrev HasRun : Lab plans → Type 0
  HasRun y =
      (phase_of plans.words y.manager.machine ≡ law.phase) × (begun_on plans.words Ipmb y.manager.machine + begun_on plans.words Smbus y.manager.machine ≡ law.requests + law.more)
      × IsAfter (own_family file lab_names) plan x0.board.records (length law.steps) y.board.records

  abbrev HasUndone : Lab plans → Type 0
  HasUndone y =
      (phase_of plans.words y.manager.machine ≡ Undone) × (begun_on plans.words Ipmb y.manager.machine + begun_on plans.words Smbus y.manager.machine ≡ law.requests + law.more + law.back)
      × (y.board.records ≡ x0.board.records)

  pub ends_clean : length plan ≤ 256 → (events : List Event) (ending : Ending) → IsPlayed file plan retries events ending → EndsClean file plan retries events ending
  ends_clean few events ending played = record {
    runs = law;
    ran = λ c.
        let h = law.ran (events_from file events x0) c in
        let done = subst HasRun (runs_so file events x0) (h.0.phase_is, h.0.begun, h.1) in
        (told_of file x0 (after file events x0), whole events ending played (law.run_taken few (events_from file events x0) c), done.0, done.1, done.2);
    undone = λ c.
        let h = law.undone (events_from file events x0) c in
        let done = subst HasUndone (runs_so file events x0) (h.0.phase_is, h.0.begun, h.1) in
        (told_of file x0 (after file events x0), whole events ending played (law.undo_taken few (events_from file events x0) c), done.0, done.1, done.2);
  }

  pub plays_run_clean : length plan ≤ 256 → PlaysRunClean file plan retries
  plays_run_clean few =
      let run_there = law.can_run few in
      let undo_there = law.can_undo few in
      let runs = run_written file run_there.0 x0 run_there.1 in
      let undoes = undo_written file undo_there.0 x0 undo_there.1 in
      record {
        can_run = (runs.events, subst (λ (l : List lab.Event). IsCleanRun plans file l x0) (sym runs.same) run_there.1);
        can_undo = (undoes.events, subst (λ (l : List lab.Event). IsCleanUndo plans file l x0) (sym undoes.same) undo_there.1);
        ends = ends_clean few;
      }
