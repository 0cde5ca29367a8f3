-- Frames that a lab delivers cleanly.
use Rattle.std.proofs.Common.{◌≡◌, ◌≤◌, ◌<◌, ◌+◌, ℕ, zero, suc, true, List, [], ◌∷◌, ◌++◌, length, Some, None, option_map, refl, sym, ◌∙◌, ap, subst, arith, append_assoc, append-nil}
use Rattle.std.specs.Prelude.{slice_get}
use Rattle.std.specs.List.{AllZip}
use Rattle.std.proofs.lemmas.Option.{none-some, same_Some}
use Rattle.cfg_records.specs.declared.board_file.BoardFile.{BoardFile}
use Rattle.bmc_board.specs.State.{State}
use Rattle.text_lines.specs.declared.event.Event.{Event}
use Rattle.model_lab.specs.Lab as lab
use Rattle.model_lab.specs.Lab.{LabFrame, Lab as LabModel, step}
use Rattle.model_lab.specs.Faults.{most_frames, AllTaken, fault_of}
use Rattle.model_lab.specs.Clean as clean
use Rattle.model_lab.specs.Clean.{delivery_in, DeliversFrom}
use Rattle.model_lab.specs.declared.way.Way.{Way}
use Rattle.model_lab.specs.declared.way.Way.TheVariants.{ToPort, ToManager, ToOthers}
use Rattle.model_lab.specs.declared.fault.Fault.{Fault}
use Rattle.model_lab.specs.Meaning.{lab_names, event_of}
use Rattle.model_lab.specs.Played.{plans, fault_at, happens, after}
use Rattle.model_headline.specs.CleanPlays.{events_from}
use Rattle.lab_run.specs.declared.frames.SentFrame.{SentFrame}
use Rattle.lab_run.specs.declared.lab_state.Lab.{Lab}
use Rattle.lab_run.specs.Shown.{Represents, ForRepresented, IsSentFrame}
use Rattle.lab_play.proofs.Running.{after_more}
use Rattle.lab_play.specs.declared.schedule_drawing.Drawing.{Drawing}
use Rattle.lab_play.specs.declared.schedule_drawing.OfferResult.TheVariants.{Taken, Faulty}
use Rattle.lab_play.specs.Drawn.{delivered_by, delivery_of, IsDrawnSchedule, HasFew, OffersEvent, CanDeliver, HasDelivered, DeliversAll}
use Rattle.lab_play.proofs.Cleanly.{room_to_deliver}

-- ---- an event that delivers a frame

by_way : (file : BoardFile) (b : State) (number : ℕ) (way : Way) → clean.delivery_of number way ≡ option_map (event_of lab_names file b) (delivered_by number way)
by_way file b number ToPort = refl
by_way file b number ToManager = refl
by_way file b number ToOthers = refl

-- the frame of the code is delivered by the event of the model
same_delivery : (file : BoardFile) (b : State) (number i : ℕ) (sent : List SentFrame) (frames : List LabFrame) → AllZip IsSentFrame sent frames
    → delivery_in number (slice_get frames i) ≡ option_map (event_of lab_names file b) (delivery_of number (slice_get sent i))
same_delivery file b number i [] [] all = refl
same_delivery file b number i [] (f ∷ fs) all = absurd all
same_delivery file b number i (s ∷ ss) [] all = absurd all
same_delivery file b number zero (s ∷ ss) (f ∷ fs) all = ap (clean.delivery_of number) all.0.is.way ∙ by_way file b number s.way
same_delivery file b number (suc i) (s ∷ ss) (f ∷ fs) all = same_delivery file b number i ss fs all.1

-- ---- the frames that were delivered so far

-- from the first number to this one
pub record Gone (file : BoardFile) (start : LabModel plans) (first number : ℕ) (old now : Drawing) : Type 0 where
  pub drawn : IsDrawnSchedule file start now
  pub late : now.late ≡ true
  pub done : List Event
  pub all : now.events.items ≡ old.events.items ++ done
  pub can : CanDeliver file number (after file now.events.items start)
  pub closes : (rest : List Event) → let y = after file now.events.items start in let x = after file old.events.items start in
      DeliversFrom plans file number (events_from file rest y) y → DeliversFrom plans file first (events_from file (done ++ rest) x) x

pub record Delivering (first number : ℕ) (old now : Drawing) : Type 0 where
  pub few : HasFew now
  pub short : length now.events.items + first ≤ length old.events.items + number
  pub within : length now.events.items ≤ length old.events.items + most_frames
  pub goes : (file : BoardFile) (start : LabModel plans) → IsDrawnSchedule file start old → old.late ≡ true → CanDeliver file first (after file old.events.items start)
      → Gone file start first number old now

-- the frames that the code has are those of the lab
abbrev pub AreFrames : List SentFrame → Drawing → Type 0
AreFrames sent now = (file : BoardFile) (x : LabModel plans) → Represents file now.lab.value x → AllZip IsSentFrame sent x.frames

-- the lab was read out of its memory
pub frames_are : (now : Drawing) (read : Lab) (sent : List SentFrame) → read ≡ now.lab.value → ForRepresented read (λ file x. AllZip IsSentFrame sent x.frames) → AreFrames sent now
frames_are now read sent is are = subst (λ (l : Lab). ForRepresented l (λ file x. AllZip IsSentFrame sent x.frames)) is are

module _ (file : BoardFile) (start : LabModel plans) (first number : ℕ) (old now : Drawing) (g : Gone file start first number old now) (sent : List SentFrame) (are : AreFrames sent now) where
  abbrev y : LabModel plans
  y = after file now.events.items start

  abbrev x : LabModel plans
  x = after file old.events.items start

  found : delivery_in number (slice_get y.frames number) ≡ option_map (event_of lab_names file y.board) (delivery_of number (slice_get sent number))
  found = same_delivery file y.board number number sent y.frames (are file y g.drawn.shows)

  -- no frame is left
  ends_by : (events : List lab.Event) → DeliversFrom plans file number events y → delivery_in number (slice_get y.frames number) ≡ None → slice_get y.frames number ≡ None
  ends_by [] d none = d
  ends_by (e ∷ es) d none = absurd (none-some e (sym none ∙ d.0))

  delivered_all : slice_get y.frames number ≡ None → HasDelivered file first x old now
  delivered_all none = record {
    done = g.done;
    all = g.all;
    delivered = subst (λ (l : List Event). DeliversFrom plans file first (events_from file l x) x) (append-nil g.done) (g.closes [] none);
  }

  ended : delivery_of number (slice_get sent number) ≡ None → IsDrawnSchedule file start now × (now.late ≡ true) × HasDelivered file first x old now
  ended none = (g.drawn, g.late, delivered_all (ends_by g.can.events g.can.delivered (found ∙ ap (option_map (event_of lab_names file y.board)) none)))

  -- ---- the next frame comes

  module _ (e : Event) (is : delivery_of number (slice_get sent number) ≡ Some e) where
    at : delivery_in number (slice_get y.frames number) ≡ Some (event_of lab_names file y.board e)
    at = found ∙ ap (option_map (event_of lab_names file y.board)) is

    -- what is left to deliver begins with it
    record Begins : Type 0 where
      rest : List lab.Event
      delivered : DeliversFrom plans file (number + 1) rest (happens file e y)
      none : fault_at file y e ≡ None
      taken : AllTaken plans file rest (happens file e y)

    begins_by : (events : List lab.Event) → DeliversFrom plans file number events y → AllTaken plans file events y → Begins
    begins_by [] d taken = absurd (none-some (event_of lab_names file y.board e) (sym (ap (delivery_in number) d) ∙ at))
    begins_by (f ∷ fs) d taken =
        let same : f ≡ event_of lab_names file y.board e = same_Some f (event_of lab_names file y.board e) (sym d.0 ∙ at) in
        record {
          rest = fs;
          delivered = subst (λ (k : lab.Event). DeliversFrom plans file (number + 1) fs (step plans file y k)) same d.1;
          none = subst (λ (k : lab.Event). fault_of plans y k ≡ None) same taken.0;
          taken = subst (λ (k : lab.Event). AllTaken plans file fs (step plans file y k)) same taken.1;
        }

    begins : Begins
    begins = begins_by g.can.events g.can.delivered g.can.taken

    no_fault : (new : Drawing) (fault : Fault) → OffersEvent e now (Faulty fault) new → ⊥
    no_fault new fault offered = none-some fault (sym begins.none ∙ offered.1 file start g.drawn)

    gone_more : (new : Drawing) → OffersEvent e now Taken new → Gone file start first (number + 1) old new
    gone_more new offered =
        let next : happens file e y ≡ after file new.events.items start = sym (after_more file now.events.items e start) ∙ ap (λ (l : List Event). after file l start) (sym offered.0) in
        let b = begins in
        record {
          drawn = offered.2 file start g.drawn;
          late = offered.1 ∙ g.late;
          done = g.done ++ e ∷ [];
          all = offered.0 ∙ ap (λ (l : List Event). l ++ e ∷ []) g.all ∙ append_assoc old.events.items g.done (e ∷ []);
          can = subst (λ (z : LabModel plans). CanDeliver file (number + 1) z) next (record { events = b.rest; delivered = b.delivered; taken = b.taken });
          closes = λ rest d.
              subst (λ (l : List Event). DeliversFrom plans file first (events_from file l x) x) (sym (append_assoc g.done (e ∷ []) rest))
              (g.closes (e ∷ rest) (at, subst (λ (z : LabModel plans). DeliversFrom plans file (number + 1) (events_from file rest z) z) (sym next) d));
        }

-- ---- for whatever lab of the model

pub delivers_ended : (first number : ℕ) (old now : Drawing) (sent : List SentFrame) → Delivering first number old now → AreFrames sent now
    → delivery_of number (slice_get sent number) ≡ None → DeliversAll first old now
delivers_ended first number old now sent d are none file start drawn late can =
    ended file start first number old now (d.goes file start drawn late can) sent are none

full_by : (file : BoardFile) (number : ℕ) (y : LabModel plans) (events : List lab.Event) → DeliversFrom plans file number events y → AllTaken plans file events y → most_frames ≤ number
    → slice_get y.frames number ≡ None
full_by file number y [] d taken full = d
full_by file number y (e ∷ es) d taken full =
    let room = room_to_deliver y number e (slice_get y.frames number) d.0 taken.0 in
    absurd (omega (arith, room, full))

pub delivers_full : (first number : ℕ) (old now : Drawing) → Delivering first number old now → most_frames ≤ number → DeliversAll first old now
delivers_full first number old now d full file start drawn late can =
    let g = d.goes file start drawn late can in
    let x = after file old.events.items start in
    let y = after file now.events.items start in (
      g.drawn,
      g.late,
      record {
        done = g.done;
        all = g.all;
        delivered = subst (λ (l : List Event). DeliversFrom plans file first (events_from file l x) x) (append-nil g.done)
            (g.closes [] (full_by file number y g.can.events g.can.delivered g.can.taken full));
      },
    )

pub delivers_more : (first number : ℕ) (old now new : Drawing) (sent : List SentFrame) (e : Event) → Delivering first number old now → AreFrames sent now
    → delivery_of number (slice_get sent number) ≡ Some e → number < most_frames → OffersEvent e now Taken new → HasFew new → length new.events.items ≤ suc (length now.events.items) → Delivering first (number + 1) old new
delivers_more first number old now new sent e d are is small offered few grown = record {
  few = few;
  short = let before = d.short in omega (arith, before, grown);
  within = let before = d.short in omega (arith, before, grown, small);
  goes = λ file start drawn late can. gone_more file start first number old now (d.goes file start drawn late can) sent are e is new offered;
}

pub delivers_faulty : (first number : ℕ) (old now new : Drawing) (sent : List SentFrame) (e : Event) (fault : Fault) → Delivering first number old now → AreFrames sent now
    → delivery_of number (slice_get sent number) ≡ Some e → OffersEvent e now (Faulty fault) new → DeliversAll first old new
delivers_faulty first number old now new sent e fault d are is offered file start drawn late can =
    absurd (no_fault file start first number old now (d.goes file start drawn late can) sent are e is new fault offered)
