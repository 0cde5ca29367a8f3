-- A plan that is carried out cleanly, and its undo.
use Rattle.std.proofs.Common.{◌≡◌, ◌≤◌, ℕ, suc, Bool, true, false, List, [], ◌∷◌, ◌++◌, length, refl, sym, ◌∙◌, ap, subst, arith, append_assoc}
use Rattle.std.specs.Prelude.{Result, Ok, Err, OnOk}
use Rattle.std.specs.List.{AllZip}
use Rattle.record_base.specs.declared.op.Op.{Op}
use Rattle.cfg_records.specs.declared.board_file.BoardFile.{BoardFile}
use Rattle.model_undo.specs.declared.call.Call.{Call as Called}
use Rattle.model_undo.specs.declared.call.Call.TheVariants.{Start, Undo}
use Rattle.text_lines.specs.declared.event.Event.{Event}
use Rattle.text_lines.specs.declared.event.Event.TheVariants.{Calls}
use Rattle.model_lab.specs.Lab as lab
use Rattle.model_lab.specs.Lab.{LabFrame, Lab as LabModel, step, run, opening}
use Rattle.model_lab.specs.Faults.{most_frames, AllTaken}
use Rattle.model_lab.specs.Clean.{DeliversFrom}
use Rattle.model_lab.specs.Meaning.{lab_names}
use Rattle.model_lab.specs.Played.{plans, told_of, happens, after}
use Rattle.model_headline.specs.CleanPlays.{events_from, StartsClean, UndoesClean}
use Rattle.model_headline.specs.CleanLink.{RunsOnCleanLink}
use Rattle.model_headline.proofs.CleanLink.{runs_on_clean_link}
use Rattle.lab_run.specs.declared.frames.SentFrame.{SentFrame}
use Rattle.lab_run.specs.Shown.{IsSentFrame}
use Rattle.lab_play.proofs.Running.{after_more}
use Rattle.lab_play.specs.declared.schedule_drawing.Drawing.{Drawing}
use Rattle.lab_play.specs.declared.schedule_drawing.OfferResult.TheVariants.{Taken}
use Rattle.lab_play.specs.declared.schedule_making.Links.TheVariants as links
use Rattle.lab_play.specs.Drawn.{IsDrawnSchedule, OffersEvent, CanDeliver, DeliversAll, CanCarry, HasCarried, CarriesCall}
use Rattle.lab_play.specs.Made.{IsCleanFor, IsMade}
use Rattle.lab_play.proofs.CleanKeeps.{clean_keeps}
use Rattle.lab_play.proofs.Deliveries.{AreFrames}
use Rattle.lab_play.proofs.Cleanly.{runs_so, events_append, taken_behind, one_delivery, room_to_call}

-- ---- the call, and what is delivered after it

same_long : (sent : List SentFrame) (frames : List LabFrame) → AllZip IsSentFrame sent frames → length sent ≡ length frames
same_long [] [] all = refl
same_long [] (f ∷ fs) all = absurd all
same_long (s ∷ ss) [] all = absurd all
same_long (s ∷ ss) (f ∷ fs) all = ap suc (same_long ss fs all.1)

-- a lab with so many frames isn't called
pub carries_full : (call : Called) (old : Drawing) (sent : List SentFrame) → AreFrames sent old → most_frames ≤ length sent → CarriesCall call old old
carries_full call old sent are full file start drawn late can =
    let x = after file old.events.items start in
    let room = room_to_call x call can.taken.0 in
    let long = same_long sent x.frames (are file x drawn.shows) in
    absurd (omega (arith, room, long, full))

carries_all : (call : Called) (old mid new : Drawing) (sent : List SentFrame) (first : ℕ) → AreFrames sent old → first ≡ length sent → OffersEvent (Calls call) old Taken mid → DeliversAll first mid new
    → CarriesCall call old new
carries_all call old mid new sent first are is offered delivers file start drawn late can =
    let x = after file old.events.items start in
    let count : first ≡ length x.frames = is ∙ same_long sent x.frames (are file x drawn.shows) in
    let next : happens file (Calls call) x ≡ after file mid.events.items start =
    sym (after_more file old.events.items (Calls call) start) ∙ ap (λ (l : List Event). after file l start) (sym offered.0) in
    let there : CanDeliver file first (after file mid.events.items start) = subst (λ (n : ℕ). CanDeliver file n (after file mid.events.items start)) (sym count)
    (subst (λ (z : LabModel plans). CanDeliver file (length x.frames) z) next (record { events = can.events; delivered = can.delivered; taken = can.taken.1 })) in
    let went = delivers file start (offered.2 file start drawn) (offered.1 ∙ late) there in
    let has = went.2 in (
      went.0,
      went.1,
      record {
        done = has.done;
        all = has.all ∙ ap (λ (l : List Event). l ++ has.done) offered.0 ∙ append_assoc old.events.items (Calls call ∷ []) has.done;
        delivered = subst (λ (n : ℕ). DeliversFrom plans file n (events_from file has.done (happens file (Calls call) x)) (happens file (Calls call) x)) count
            (subst (λ (z : LabModel plans). DeliversFrom plans file first (events_from file has.done z) z) (sym next) has.delivered);
      },
    )

-- of what came of the deliveries, if memory wasn't refused
pub carries_on : {E : Type 0} (result : Result (Unit {0}) E) (call : Called) (old mid new : Drawing) (sent : List SentFrame) (first : ℕ) → AreFrames sent old → first ≡ length sent
    → OffersEvent (Calls call) old Taken mid → OnOk result (DeliversAll first mid new) → OnOk result (CarriesCall call old new)
carries_on (Ok did) call old mid new sent first are is offered delivers = carries_all call old mid new sent first are is offered delivers
carries_on (Err memory) call old mid new sent first are is offered delivers = tt

-- ---- the plan

module _ (file : BoardFile) (plan : List Op) (retries : ℕ) where
  abbrev x0 : LabModel plans
  x0 = opening plans file lab_names plan retries

  abbrev law : RunsOnCleanLink file lab_names plan retries
  law = runs_on_clean_link file lab_names plan retries

  -- a drawing in which nothing happened yet
  abbrev IsEmpty : Drawing → Type 0
  IsEmpty d = d.events.items ≡ []

  -- the plan can be carried out
  pub can_start : (d : Drawing) → IsEmpty d → length plan ≤ 256 → CanCarry file Start (after file d.events.items x0)
  can_start d empty few =
      let there = law.can_run few in
      let c = there.1 in
      let taken : AllTaken plans file (lab.Calls Start ∷ c.deliveries) x0 = subst (λ (l : List lab.Event). AllTaken plans file l x0) c.all (law.run_taken few there.0 c) in
      subst (λ (l : List Event). CanCarry file Start (after file l x0)) (sym empty) (record { events = c.deliveries; delivered = c.delivered; taken = taken })

  -- it was
  record HasStarted (d : Drawing) : Type 0 where
    done : List Event
    all : d.events.items ≡ Calls Start ∷ done
    delivered : DeliversFrom plans file 0 (events_from file done (happens file (Calls Start) x0)) (happens file (Calls Start) x0)

  started : (old new : Drawing) → IsEmpty old → HasCarried file Start (after file old.events.items x0) old new → HasStarted new
  started old new empty has = record {
    done = has.done;
    all = has.all ∙ ap (λ (l : List Event). l ++ Calls Start ∷ has.done) empty;
    delivered = by;
  }
    where
      by : DeliversFrom plans file 0 (events_from file has.done (happens file (Calls Start) x0)) (happens file (Calls Start) x0)
      by = subst (λ (l : List Event). let z = after file l x0 in
          DeliversFrom plans file (length z.frames) (events_from file has.done (happens file (Calls Start) z)) (happens file (Calls Start) z)) empty has.delivered

  starts_clean : (d : Drawing) → HasStarted d → StartsClean file plan retries d.events.items
  starts_clean d s = subst (λ (l : List Event). StartsClean file plan retries l) (sym s.all)
      (record { deliveries = events_from file s.done (happens file (Calls Start) x0); delivered = s.delivered; all = refl })

  -- and its undo can be
  can_undo : (d : Drawing) → HasStarted d → length plan ≤ 256 → CanCarry file Undo (after file d.events.items x0)
  can_undo d s few =
      let there = law.can_undo few in
      let c = there.1 in
      let mine = events_from file d.events.items x0 in
      let mine_is : mine ≡ lab.Calls Start ∷ events_from file s.done (happens file (Calls Start) x0) = ap (λ (l : List Event). events_from file l x0) s.all in
      let same : c.ran.deliveries ≡ events_from file s.done (happens file (Calls Start) x0) =
      one_delivery file c.ran.deliveries (events_from file s.done (happens file (Calls Start) x0)) 0 (happens file (Calls Start) x0) c.ran.delivered s.delivered in
      let before : c.before ≡ mine = c.ran.all ∙ ap (λ (l : List lab.Event). lab.Calls Start ∷ l) same ∙ sym mine_is in
      let y : run plans file c.before x0 ≡ after file d.events.items x0 = ap (λ (l : List lab.Event). run plans file l x0) before ∙ runs_so file d.events.items x0 in
      let taken : AllTaken plans file (lab.Calls Undo ∷ c.deliveries) (run plans file c.before x0) =
      taken_behind file c.before (lab.Calls Undo ∷ c.deliveries) x0 (subst (λ (l : List lab.Event). AllTaken plans file l x0) c.all (law.undo_taken few there.0 c)) in
      subst (λ (z : LabModel plans). CanCarry file Undo z) y (record { events = c.deliveries; delivered = c.delivered; taken = taken })

  undoes_clean : (d new : Drawing) → HasStarted d → HasCarried file Undo (after file d.events.items x0) d new → UndoesClean file plan retries new.events.items
  undoes_clean d new s has =
      let x1 = after file d.events.items x0 in
      let before = events_from file d.events.items x0 in
      let deliveries = events_from file has.done (happens file (Calls Undo) x1) in
      let y : run plans file before x0 ≡ x1 = runs_so file d.events.items x0 in
      record {
        before = before;
        deliveries = deliveries;
        ran = starts_clean d s;
        delivered = subst (λ (z : LabModel plans). DeliversFrom plans file (length z.frames) deliveries (step plans file z (lab.Calls Undo))) (sym y) has.delivered;
        all = ap (λ (l : List Event). events_from file l x0) has.all ∙ events_append file d.events.items (Calls Undo ∷ has.done) x0;
      }

  -- what is made
  made : (d : Drawing) (undo : Bool) → IsDrawnSchedule file x0 d → IsCleanFor file plan retries links.Clean undo d.events.items
      → IsMade file plan retries (record { links = links.Clean; undo = undo }) d.events.items
  made d undo drawn clean = record {
    told = told_of file x0 (after file d.events.items x0);
    played = (drawn.taken, refl);
    lines = drawn.lines;
    kept = λ never. clean_keeps file plan retries undo d.events.items clean drawn.taken;
    clean = clean;
  }

  pub started_made : (old new : Drawing) → IsEmpty old → old.late ≡ true → length plan ≤ 256 → IsDrawnSchedule file x0 old → CarriesCall Start old new
      → IsMade file plan retries (record { links = links.Clean; undo = false }) new.events.items
  started_made old new empty late few drawn carries =
      let went = carries file x0 drawn late (can_start old empty few) in
      made new false went.0 (starts_clean new (started old new empty went.2))

  pub undone_made : (old mid new : Drawing) → IsEmpty old → old.late ≡ true → length plan ≤ 256 → IsDrawnSchedule file x0 old → CarriesCall Start old mid → CarriesCall Undo mid new
      → IsMade file plan retries (record { links = links.Clean; undo = true }) new.events.items
  undone_made old mid new empty late few drawn carries undoes =
      let went = carries file x0 drawn late (can_start old empty few) in
      let s = started old mid empty went.2 in
      let back = undoes file x0 went.0 went.1 (can_undo mid s few) in
      made new true back.0 (undoes_clean mid new s back.2)
