use Rattle.std.proofs.Common.{Bool, if◌then◌else◌, sym, ◌∙◌, ap, subst}
use Rattle.std.specs.Prelude.{IsSome}
use Rattle.std.proofs.lemmas.Bool.{true≢false}
use Rattle.model_lab.specs.ManagerSteps.{board_plans, rests, joins}
use Rattle.undo_core.proofs.Heard.{heard_packet, no_packet}
use Rattle.undo_core.proofs.manager.Manager.joins.Goals as goal

pub returns-in_default : goal.returns-in_default
returns-in_default c names s shows =
    no_packet names c.args.self.now s c.args.packet.now shows (λ k parts asked was goes. true≢false (sym (subst IsSome c.in_default.is (c.heeded_on.ensures.none k parts asked was goes))))

pub returns : goal.returns
returns c names s shows =
    let is = c.in-Some.ensures.some in
    let p = c.args.packet.now in
    heard_packet names c.args.self.now s p is.0 is.1 c.in-Some.field-0.now shows is.2 is.3
    ∙ ap (λ (b : Bool). if b then joins (board_plans names) p s else rests (board_plans names) s) (sym c.is_part.ensures)
