-- The frames that were sent, in the code and in the lab's model.
use Rattle.std.proofs.Common.{◌≡◌, true, false, [], ◌∷◌, List, ℕ, zero, suc, Some, None, slice_get, length, nat_le, refl, ◌∙◌, ap}
use Rattle.std.specs.List.{AllZip}
use Rattle.std.proofs.lemmas.Slice.Zip.{AllZip-long}
use Rattle.undo_plans.specs.declared.names.Names.{Names}
use Rattle.model_lab.specs.ManagerSteps.{board_plans}
use Rattle.model_lab.specs.declared.way.Way.{Way as LabWay}
use Rattle.model_lab.specs.Lab.{LabFrame, Lab}
use Rattle.model_lab.specs.declared.fault.Fault.TheVariants.{NoFrame, WrongWay, Aged, Room}
use Rattle.model_lab.specs.Faults.{most_frames, check, first_of, same_way, delivery, is_live, is_full}
use Rattle.lab_run.specs.declared.frames.SentFrame.{SentFrame}
use Rattle.lab_run.specs.declared.fault.Ages.{Ages}
use Rattle.lab_run.specs.FramesShown.{IsFrame, ShowsFrames}

-- the frame of a number is the model's
pub frame_at : (sent : List SentFrame) (frames : List LabFrame) (n : ℕ) (s : SentFrame) → AllZip IsFrame sent frames → slice_get sent n ≡ Some s
    → (f : LabFrame) × (slice_get frames n ≡ Some f) × IsFrame s f
frame_at [] [] n s zip is = cc is
frame_at [] (f ∷ frames) n s zip is = absurd zip
frame_at (t ∷ sent) [] n s zip is = absurd zip
frame_at (t ∷ sent) (f ∷ frames) zero s zip is = let same : t ≡ s = cc is in (f, refl, rw (← same) zip.0)
frame_at (t ∷ sent) (f ∷ frames) (suc n) s zip is = frame_at sent frames n s zip.1 is

no_frame_at : (sent : List SentFrame) (frames : List LabFrame) (n : ℕ) → AllZip IsFrame sent frames → slice_get sent n ≡ None → slice_get frames n ≡ None
no_frame_at [] [] n zip is = refl
no_frame_at [] (f ∷ frames) n zip is = absurd zip
no_frame_at (t ∷ sent) [] n zip is = absurd zip
no_frame_at (t ∷ sent) (f ∷ frames) zero zip is = cc is
no_frame_at (t ∷ sent) (f ∷ frames) (suc n) zip is = no_frame_at sent frames n zip.1 is

module _ (names : Names) (sent : List SentFrame) (marks : Ages) (x : Lab (board_plans names)) (shows : ShowsFrames names sent marks x) where
  full_is : is_full (board_plans names) x ≡ nat_le most_frames (length sent)
  full_is = ap (nat_le most_frames) (AllZip-long IsFrame sent x.frames shows.frames)

  pub full_room : nat_le most_frames (length sent) ≡ true → Some Room ≡ first_of (check Room (is_full (board_plans names) x) ∷ [])
  full_room is = let e = full_is ∙ is in rw e refl

  pub free_room : nat_le most_frames (length sent) ≡ false → None ≡ first_of (check Room (is_full (board_plans names) x) ∷ [])
  free_room is = let e = full_is ∙ is in rw e refl

  module _ (way : LabWay) (n : ℕ) where
    pub no_frame : slice_get sent n ≡ None → Some NoFrame ≡ first_of (delivery (board_plans names) way x (slice_get x.frames n))
    no_frame is = rw (no_frame_at sent x.frames n shows.frames is) refl

    -- of a frame that was sent
    module _ (s : SentFrame) (f : LabFrame) (there : slice_get x.frames n ≡ Some f) (fits : IsFrame s f) where
      pub wrong_way : same_way s.way way ≡ false → Some WrongWay ≡ first_of (delivery (board_plans names) way x (slice_get x.frames n))
      wrong_way other = let e : same_way f.way way ≡ false = ap (λ w. same_way w way) fits.way ∙ other in rw (there, e) refl

      pub aged : same_way s.way way ≡ true → is_live (board_plans names) x f ≡ false → Some Aged ≡ first_of (delivery (board_plans names) way x (slice_get x.frames n))
      aged meant old = let e : same_way f.way way ≡ true = ap (λ w. same_way w way) fits.way ∙ meant in rw (there, e, old) refl

      pub left_room : same_way s.way way ≡ true → is_live (board_plans names) x f ≡ true
          → first_of (check Room (is_full (board_plans names) x) ∷ []) ≡ first_of (delivery (board_plans names) way x (slice_get x.frames n))
      left_room meant fresh = let e : same_way f.way way ≡ true = ap (λ w. same_way w way) fits.way ∙ meant in rw (there, e, fresh) refl
