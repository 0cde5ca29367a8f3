use Rattle.std.proofs.Common.{◌<◌, Bool, if◌then◌else◌, [], ◌∷◌, ◌++◌, length, sym, ◌∙◌, ap, arith}
use Rattle.undo_core.specs.Joining.{whole_of}
use Rattle.undo_core.proofs.JoinedBodies.{joined_many, whole_more}
use Rattle.undo_core.proofs.joining.JoinedReplies.end.Goals as goal

pub returns-then-ends : goal.returns-then-ends
returns-then-ends c before many is =
    let some : 0 < length before = omega (arith, many, c.requires.some) in
    c.add.ensures ∙ whole_more c.args.self.now before c.args.body.now some is
    ∙ sym (joined_many before c.args.body.now c.args.parts many c.requires.some
    ∙ ap (λ (b : Bool). if b then whole_of (before ++ c.args.body.now ∷ []) else []) (sym c.ends.ensures ∙ c.if-ends.true))

pub returns-else-ends : goal.returns-else-ends
returns-else-ends c before many is =
    c.clear.ensures.items
    ∙ sym (joined_many before c.args.body.now c.args.parts many c.requires.some
    ∙ ap (λ (b : Bool). if b then whole_of (before ++ c.args.body.now ∷ []) else []) (sym c.ends.ensures ∙ c.if-ends.false))
