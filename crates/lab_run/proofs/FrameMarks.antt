-- The marks of replies.
use Rattle.std.proofs.Common.{◌≡◌, ℕ, ◌+◌, cond, ◌&&◌, suc, List, [], ◌∷◌, length, map, ◌++◌, Option, Some, None, refl, sym, ◌∙◌, ap, subst, arith}
use Rattle.std.specs.Prelude.{◌==◌, slice_get}
use Rattle.std.specs.Option.{option_map}
use Rattle.std.proofs.lemmas.Bool.{cond_both}
use Rattle.std.proofs.lemmas.Option.{slice_get-map}
use Rattle.two_wire.specs.declared.Bus.{Bus}
use Rattle.two_wire.specs.declared.Bus.TheVariants.{Ipmb, Smbus}
use Rattle.mctp_net.specs.Assembly.{is_ours}
use Rattle.cfg_records.specs.declared.board_file.BoardFile.{BoardFile}
use Rattle.lab_run.specs.declared.ages.FrameAge.{FrameAge}
use Rattle.bmc_core.specs.Values.{Value, Asks, Tells, Part}
use Rattle.bmc_core.specs.PortSteps.{PortState, StepResult, hears}
use Rattle.model_lab.specs.ManagerSteps.{Plans}
use Rattle.model_lab.specs.declared.way.Way.TheVariants.{ToManager}
use Rattle.model_lab.specs.Lab.{LabFrame, ToBmc, Lab, port_on, with_port, idles_on, frame_now, opens, port_does, delivered, step}
use Rattle.lab_run.specs.Marks.{HasMark, MarksReplies}

-- what stands behind a list
behind : (xs ys : List LabFrame) (k : ℕ) → slice_get (xs ++ ys) (length xs + k) ≡ slice_get ys k
behind [] ys k = let e : 0 + k ≡ k = omega arith in ap (slice_get ys) e
behind (x ∷ xs) ys k = let e : length (x ∷ xs) + k ≡ suc (length xs + k) = omega arith in ap (slice_get (x ∷ xs ++ ys)) e ∙ behind xs ys k

module _ (P : Plans) where
  -- what a packet opens sends nothing
  opens-frames : (v : Value) (n : ℕ) (x : Lab P) → (opens P v n x).frames ≡ x.frames
  opens-frames (Asks r) n x = refl
  opens-frames (Tells r) n x = refl
  opens-frames (Part p) n x =
      cond_both (p.start && is_ours x.smbus.eid p) (record x { opened = λ tag. cond (tag == p.envelope.tag) n (x.opened tag) }) x (λ y. y.frames ≡ x.frames) (λ _. refl) (λ _. refl)

  with-frames : (on : Bus) (port : PortState) (x : Lab P) → (with_port P on port x).frames ≡ x.frames
  with-frames Ipmb port x = refl
  with-frames Smbus port x = refl

  module _ (setup : BoardFile) (mark : FrameAge) (idles : ℕ) (x : Lab P) (number : ℕ) (f : LabFrame) (at : slice_get x.frames number ≡ Some f) (has : HasMark f mark)
      (forgotten : idles_on P f.on (step P setup x (ToBmc number)) ≡ idles) (place : ℕ) (reply : LabFrame)
      (sent : slice_get (step P setup x (ToBmc number)).frames (length x.frames + place) ≡ Some reply) where
    abbrev d : StepResult
    d = hears setup (port_on P f.on x) x.board f.value

    -- the lab, but for the frames that are sent
    abbrev y : Lab P
    y = with_port P f.on d.port (record (opens P f.value f.request x) { board = d.board })

    step-is : step P setup x (ToBmc number) ≡ port_does P f.on ToManager f.request d (opens P f.value f.request x)
    unfolding step
    step-is = ap (λ (o : Option LabFrame). delivered P setup o x) at

    same-frames : y.frames ≡ x.frames
    same-frames = with-frames f.on d.port (record (opens P f.value f.request x) { board = d.board }) ∙ opens-frames f.value f.request x

    found : option_map (frame_now P f.on ToManager f.request y) (slice_get d.sent place) ≡ Some reply
    found =
        sym (slice_get-map (frame_now P f.on ToManager f.request y) d.sent place)
        ∙ sym (behind x.frames (map (frame_now P f.on ToManager f.request y) d.sent) place)
        ∙ ap (λ (fs : List LabFrame). slice_get (fs ++ map (frame_now P f.on ToManager f.request y) d.sent) (length x.frames + place)) (sym same-frames)
        ∙ ap (λ (z : Lab P). slice_get z.frames (length x.frames + place)) (sym step-is)
        ∙ sent

    still : idles_on P f.on y ≡ idles
    still = idles-alike f.on ∙ ap (λ (z : Lab P). idles_on P f.on z) (sym step-is) ∙ forgotten
      where
        idles-alike : (on : Bus) → idles_on P on y ≡ idles_on P on (port_does P f.on ToManager f.request d (opens P f.value f.request x))
        idles-alike Ipmb = refl
        idles-alike Smbus = refl

    by_value : (o : Option Value) → option_map (frame_now P f.on ToManager f.request y) o ≡ Some reply → HasMark reply (record { on = mark.on; request = mark.request; idles = idles })
    by_value None e = absurd cc
    by_value (Some v) e =
        let is : frame_now P f.on ToManager f.request y v ≡ reply = cc in
        subst (λ (g : LabFrame). HasMark g (record { on = mark.on; request = mark.request; idles = idles })) is (record { on = has.on; request = has.request; idles = still })

    marked : HasMark reply (record { on = mark.on; request = mark.request; idles = idles })
    marked = by_value (slice_get d.sent place) found

  pub marks-replies : (setup : BoardFile) (mark : FrameAge) (idles : ℕ) → MarksReplies P setup mark idles (record { on = mark.on; request = mark.request; idles = idles })
  marks-replies setup mark idles x number f at has forgotten place reply sent = marked setup mark idles x number f at has forgotten place reply sent
