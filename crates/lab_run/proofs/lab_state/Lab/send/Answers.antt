use Rattle.std.proofs.Common.{rules, ◌≡◌, ◌++◌, List, ℕ, map, Option, None, sym, ◌∙◌, ap, subst}
use Rattle.undo_core.specs.declared.sending.Sent.{Sent}
use Rattle.undo_core.specs.Shown.{IsSent}
use Rattle.lab_run.specs.declared.ages.FrameAge.{FrameAge}
use Rattle.model_lab.specs.Lab.{sends}
use Rattle.model_lab.specs.declared.way.Way.TheVariants as way
use Rattle.lab_run.specs.declared.frames.SentFrame.{SentFrame}
use Rattle.lab_run.specs.FramesShown.{sent_as}
use Rattle.model_lab.specs.Played.{plans}
use Rattle.lab_run.specs.Shown.{Represents}
use Rattle.lab_run.proofs.Sent.{on_ok}
use Rattle.lab_run.proofs.ManagerSide.{sends_none, sends_some}
use Rattle.lab_run.proofs.lab_state.Lab.send.Goals as goal

pub returns-in_default-clause-becomes : goal.returns-in_default-clause-becomes
returns-in_default-clause-becomes c file x s shows is =
    let none : c.args.sent ≡ None = search rules in
    subst (Represents file c.args.self.now) (sym (sends_none s x (subst (λ (o : Option Sent). IsSent o s) none is))) shows

pub returns-clause-becomes : goal.returns-clause-becomes
returns-clause-becomes c = on_ok c.send.result c.send.ensures (λ added file x s shows is.
    let old = c.args.self.now in
    let r = c.in-Some.sent in
    let mark : FrameAge = record { on = r.bus; request = c.from.result; idles = c.on.result } in
    let all : c.send.new.self ≡ old.frames ++ map (sent_as way.ToPort mark) r.frames.items = added ∙ ap (λ (fs : List (List ℕ)). old.frames ++ map (sent_as way.ToPort mark) fs) c.as_slice.ensures.value in
    subst (λ (fs : List SentFrame). Represents file (record old { frames = fs }) (sends plans s x)) (sym all)
    (sends_some file old x r s mark (λ i. record { on = r.bus; request = c.from.ensures i; idles = c.on.ensures i }) shows (subst (λ (o : Option Sent). IsSent o s) c.in-Some.is is)))
