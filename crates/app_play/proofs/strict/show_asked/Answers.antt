use Rattle.std.proofs.Common.{◌⊎◌, ◌≡◌, not, false, inl, inr}
use Rattle.app_play.proofs.Strictly.{plainly, strictly}
use Rattle.app_play.proofs.strict.show_asked.Goals as goal
use Rattle.app_play.proofs.strict.show_asked.Goals.{else-not-options-via-then-not-options+else-not-options-2, else-not-options-via-else-not-options}

pub returns-then-not-options-2 : goal.returns-then-not-options-2
returns-then-not-options-2 g c =
    plainly g.W.Write.contents g.E.Write.contents c.args.options c.args.shown c.args.places.now
    c.args.texts.board.text.now c.args.texts.plan.text.now c.args.texts.schedule.now
    c.args.console.now c.show.new.console c.show.result c.if-not-options.true c.if-not-options-2.true c.show.ensures

pub returns : goal.returns
returns g c =
    let asks : (not c.args.options.strict ≡ false) ⊎ (not c.args.options.list ≡ false) =
    elim c.else-not-options.branch [
      | else-not-options-via-then-not-options+else-not-options-2 w ↦ inr w.if-not-options-2.false
      | else-not-options-via-else-not-options w ↦ inl w.if-not-options.false
    ] in
    strictly g.W.Write.contents g.E.Write.contents c.args.options c.args.shown c.args.places.now
    c.args.texts.board.text.now c.args.texts.plan.text.now c.args.texts.schedule.now
    c.args.console.now c.strict_show.new.console c.strict_show.result asks c.strict_show.ensures
