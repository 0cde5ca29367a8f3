use Rattle.std.proofs.Common.{◌∙◌, inl, inr, sym}
use Rattle.app_run.specs.Ends.{PrintsNothing}
use Rattle.app_run.proofs.Telling.{says_memory}
use Rattle.app_change.proofs.changing.say_unlooked.Goals as goal

pub returns-in-Some : goal.returns-in-Some
returns-in-Some g c = inl (c.in-Some.status, sym c.status_unlooked.ensures ∙ c.in-Some.is, c.say_for.ensures)

pub returns-in-None : goal.returns-in-None
returns-in-None g c =
    inr (
      sym c.status_unlooked.ensures ∙ c.in-None.is,
      says_memory g.W.Write.contents g.E.Write.contents PrintsNothing c.args.console.now c.end_run.new.console c.end_run.result c.end_run.ensures,
    )
