use Rattle.std.proofs.Common.{◌≡◌, ◌++◌, List, ℕ, map, sym, ◌∙◌, ap, subst}
use Rattle.bmc_core.specs.Outs.{sent}
use Rattle.model_lab.specs.Lab.{with_frames}
use Rattle.lab_run.specs.declared.frames.SentFrame.{SentFrame}
use Rattle.lab_run.specs.FramesShown.{sent_as}
use Rattle.model_lab.specs.Played.{plans}
use Rattle.lab_run.specs.Shown.{Represents}
use Rattle.lab_run.proofs.Sent.{on_ok, frames_shown}
use Rattle.lab_run.proofs.lab_state.Lab.send_out.Goals as goal

pub returns-clause-sent : goal.returns-clause-sent
returns-clause-sent c = on_ok c.send.result c.send.ensures (λ added file x values shows has.
    let old = c.args.self.now in
    let mark = c.args.mark in
    let all : c.send.new.self ≡ old.frames ++ map (sent_as c.args.way mark) (sent old.out) =
    added ∙ ap (λ (fs : List (List ℕ)). old.frames ++ map (sent_as c.args.way mark) fs) c.as_slice.ensures in
    subst (λ (fs : List SentFrame). Represents file (record old { frames = fs }) (with_frames plans mark.on c.args.way mark.request values x)) (sym all)
    (frames_shown file old x mark.on c.args.way mark.request mark values (sent old.out) (λ i. record { on = mark.on; request = mark.request; idles = c.requires i }) shows has.frames has.read))
