-- Frames that are sent in a lab.
use Rattle.std.proofs.Common.{◌≡◌, ℕ, zero, suc, ◌<◌, List, [], ◌∷◌, ◌++◌, map, take, length, get_or, Some, None, Result, Ok, Err, OnOk, refl, sym, ◌∙◌, ap, subst, arith}
use Rattle.std.specs.Prelude.{slice_get}
use Rattle.std.specs.List.{AllZip}
use Rattle.two_wire.specs.declared.Bus.{Bus}
use Rattle.two_wire.specs.declared.Bus.TheVariants as bus
use Rattle.cfg_records.specs.declared.board_file.BoardFile.{BoardFile}
use Rattle.lab_run.specs.declared.ages.FrameAge.{FrameAge}
use Rattle.bmc_core.specs.Values.{Value, written, IsFrameOn}
use Rattle.model_lab.specs.Lab.{LabFrame, Lab as LabModel, frame_now, idles_on, with_frames}
use Rattle.lab_run.specs.Marks.{HasMark}
use Rattle.model_lab.specs.declared.way.Way.{Way}
use Rattle.lab_run.specs.FramesShown.{sent_as}
use Rattle.model_lab.specs.Played.{plans}
use Rattle.lab_run.specs.declared.lab_state.Lab.{Lab}
use Rattle.lab_run.specs.Shown.{Represents, IsSentFrame, idles_in}

-- what follows where there is no error
pub on_ok : {A E P Q : Type 0} (r : Result A E) → OnOk r P → (P → Q) → OnOk r Q
on_ok (Ok a) is then = then is
on_ok (Err e) is then = tt

pub on_any : {A E P : Type 0} (r : Result A E) → P → OnOk r P
on_any (Ok a) is = is
on_any (Err e) is = tt

-- ---- lists that are alike at each place

pub all_append : {A B : Type 0} (R : A → B → Type 0) (xs us : List A) (ys vs : List B) → AllZip R xs ys → AllZip R us vs → AllZip R (xs ++ us) (ys ++ vs)
all_append R [] us [] vs all more = more
all_append R [] us (y ∷ ys) vs all more = absurd all
all_append R (x ∷ xs) us [] vs all more = absurd all
all_append R (x ∷ xs) us (y ∷ ys) vs all more = (all.0, all_append R xs us ys vs all.1 more)

-- what stands beside the item of a number
pub beside : {A B : Type 0} (R : A → B → Type 0) (xs : List A) (ys : List B) (n : ℕ) (x : A) → AllZip R xs ys → slice_get xs n ≡ Some x
    → (y : B) × (slice_get ys n ≡ Some y) × R x y
beside R [] [] n x all is = cc is
beside R [] (z ∷ ys) n x all is = absurd all
beside R (w ∷ xs) [] n x all is = absurd all
beside R (w ∷ xs) (z ∷ ys) zero x all is = let same : w ≡ x = cc is in (z, refl, subst (λ u. R u z) same all.0)
beside R (w ∷ xs) (z ∷ ys) (suc n) x all is = beside R xs ys n x all.1 is

pub none_beside : {A B : Type 0} (R : A → B → Type 0) (xs : List A) (ys : List B) (n : ℕ) → AllZip R xs ys → slice_get xs n ≡ None → slice_get ys n ≡ None
none_beside R [] [] n all is = refl
none_beside R [] (z ∷ ys) n all is = absurd all
none_beside R (w ∷ xs) [] n all is = absurd all
none_beside R (w ∷ xs) (z ∷ ys) zero all is = cc is
none_beside R (w ∷ xs) (z ∷ ys) (suc n) all is = none_beside R xs ys n all.1 is

-- the item of a place, where the other list's is this one
pub at_place : {A B : Type 0} (R : A → B → Type 0) (xs : List A) (ys : List B) (n : ℕ) (y : B) → AllZip R xs ys → n < length ys → y ≡ get_or ys n y
    → (x : A) × R x y × (take (suc n) xs ≡ take n xs ++ x ∷ [])
at_place R [] [] n y all less is = absurd (omega (arith, less))
at_place R [] (z ∷ ys) n y all less is = absurd all
at_place R (x ∷ xs) [] n y all less is = absurd all
at_place R (x ∷ xs) (z ∷ ys) zero y all less is = (x, subst (R x) (sym is) all.0, refl)
at_place {A} R (x ∷ xs) (z ∷ ys) (suc n) y all less is =
    let more = at_place R xs ys n y all.1 (omega (arith, less)) is in
    (more.0, more.1, ap (λ (rest : List A). x ∷ rest) more.2)

-- ---- frames

module _ (on : Bus) (way : Way) (request idles : ℕ) (mark : FrameAge) (marked : mark ≡ record { on = on; request = request; idles = idles }) where
  abbrev frame_of : Value → LabFrame
  frame_of v = record { on = on; way = way; request = request; idles = idles; value = v }

  has_mark : (v : Value) → HasMark (frame_of v) mark
  has_mark v = record { on = ap (λ (m : FrameAge). m.on) (sym marked); request = ap (λ (m : FrameAge). m.request) (sym marked); idles = ap (λ (m : FrameAge). m.idles) (sym marked) }

  -- the values' frames are sent so
  pub frames_sent : (values : List Value) (frames : List (List ℕ)) → frames ≡ map written values → AllZip (IsFrameOn on) values frames
      → AllZip IsSentFrame (map (sent_as way mark) frames) (map frame_of values)
  frames_sent [] [] is read = tt
  frames_sent [] (f ∷ frames) is read = absurd read
  frames_sent (v ∷ values) [] is read = absurd read
  frames_sent (v ∷ values) (f ∷ frames) is read =
      let first : f ≡ written v = cc is in
      let rest : frames ≡ map written values = cc is in
      (record { is = record { way = refl; mark = has_mark v; bytes = first }; read = read.0 }, frames_sent values frames rest read.1)

-- values are sent in a lab
module _ (file : BoardFile) (lab : Lab) (x : LabModel plans) (on : Bus) (way : Way) (request : ℕ) (mark : FrameAge) (values : List Value) (frames : List (List ℕ)) where
  pub frames_shown : mark ≡ record { on = on; request = request; idles = idles_in on lab.idles } → Represents file lab x → frames ≡ map written values
      → AllZip (IsFrameOn on) values frames
      → Represents file (record lab { frames = lab.frames ++ map (sent_as way mark) frames }) (with_frames plans on way request values x)
  frames_shown marked shows is read =
      let now : mark ≡ record { on = on; request = request; idles = idles_on plans on x } = marked ∙ (λ i. record { on = on; request = request; idles = sym (shows.idles on) i }) in
      record {
        setup = shows.setup;
        board = shows.board;
        ipmb = shows.ipmb;
        smbus = shows.smbus;
        manager = shows.manager;
        named = shows.named;
        frames = all_append IsSentFrame lab.frames (map (sent_as way mark) frames) x.frames (map (frame_now plans on way request x) values) shows.frames
            (frames_sent on way request (idles_on plans on x) mark now values frames is read);
        idles = idles shows;
      }
    where
      idles : Represents file lab x → (b : Bus) → idles_on plans b (with_frames plans on way request values x) ≡ idles_in b lab.idles
      idles old bus.Ipmb = old.idles bus.Ipmb
      idles old bus.Smbus = old.idles bus.Smbus
