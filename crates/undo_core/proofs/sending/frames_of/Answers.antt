use Rattle.std.proofs.Common.{◌≡◌, [], ◌∷◌, ◌++◌, List, ℕ, sym, ◌∙◌, ap, subst}
use Rattle.record_base.specs.declared.message.Asked.{Asked}
use Rattle.undo_core.specs.Counted.{AreFramesOf}
use Rattle.undo_core.proofs.sending.frames_of.Goals as goal

pub returns-in-Ipmi-clause-frames : goal.returns-in-Ipmi-clause-frames
returns-in-Ipmi-clause-frames c =
    let frames : c.push.new.self.items ≡ c.request_frame.result ∷ [] =
    c.push.ensures.items ∙ ap (λ (xs : List (List ℕ)). xs ++ c.request_frame.result ∷ []) c.new-frames.ensures in
    subst (λ (x : Asked × List (List ℕ)). AreFramesOf c.args.names.now c.args.counts x.0 x.1) (λ i. (sym c.in-Ipmi.is i, sym frames i)) (c.request_frame.ensures c.in-Ipmi.from)

pub returns-in-Pldm-clause-frames : goal.returns-in-Pldm-clause-frames
returns-in-Pldm-clause-frames c =
    subst (λ (a : Asked). AreFramesOf c.args.names.now c.args.counts a c.message_frames.result.items) (sym c.in-Pldm.is) (c.message_frames.ensures c.in-Pldm.from)
