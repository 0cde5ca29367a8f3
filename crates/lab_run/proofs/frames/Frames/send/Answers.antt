use Rattle.std.proofs.Common.{◌++◌, ◌∷◌, [], map, ℕ, ◌+◌, List, sym, ◌∙◌, ap, arith, take}
use Rattle.std.proofs.lemmas.List.{take_more, append-nil}
use Rattle.std.proofs.Math.Seq.{take-length}
use Rattle.lab_run.specs.declared.frames.SentFrame.{SentFrame}
use Rattle.lab_run.specs.FramesShown.{sent_as}
use Rattle.lab_run.proofs.Sending.{one_more}
use Rattle.lab_run.proofs.frames.Frames.send.Goals as goal

pub loop-frame-init : goal.loop-frame-init
loop-frame-init c = sym (append-nil c.args.self.now)

pub loop-frame-preserved : goal.loop-frame-preserved
loop-frame-preserved c =
    let frames : List (List ℕ) = c.args.frames.now in
    let place : ℕ = c.loop-frame.frame-index in
    c.in_ok-push.ensures
    ∙ ap (λ (s : List SentFrame). s ++ sent_as c.args.way c.args.mark c.copy-bytes.result ∷ []) c.loop-frame.invariant
    ∙ one_more (sent_as c.args.way c.args.mark) c.args.self.now (take place frames) (take (place + 1) frames) c.copy-bytes.result
    (take_more frames place c.frame-item.result (omega arith) ∙ ap (λ (f : List ℕ). take place frames ++ f ∷ []) (sym c.frame-item.is ∙ sym c.copy-bytes.ensures))

pub returns : goal.returns
returns c =
    c.loop-frame.invariant
    ∙ ap (λ (n : ℕ). c.args.self.now ++ map (sent_as c.args.way c.args.mark) (take n c.args.frames.now)) (omega arith)
    ∙ ap (λ (fs : List (List ℕ)). c.args.self.now ++ map (sent_as c.args.way c.args.mark) fs) (take-length c.args.frames.now)
