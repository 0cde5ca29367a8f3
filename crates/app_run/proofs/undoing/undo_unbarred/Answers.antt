use Rattle.std.proofs.Common.{inl, inr, refl, subst}
use Rattle.app_journal.specs.Claiming.{StandsAt}
use Rattle.app_run.proofs.Listing.{may_not_go}
use Rattle.app_run.proofs.undoing.undo_unbarred.Goals as goal

pub returns-in-Nothing-clause-ends : goal.returns-in-Nothing-clause-ends
returns-in-Nothing-clause-ends g c =
    inl (
      subst (StandsAt (g.F.TextFiles.gives c.args.files.now) (g.F.WritesFiles.leads c.args.files.now) c.args.held.now c.args.text.now) c.in-Nothing.is c.in-Ok.ensures,
      c.undo_made.ensures.ends,
    )

pub returns-in_default-clause-ends : goal.returns-in_default-clause-ends
returns-in_default-clause-ends g c =
    inr (inl (c.in-Ok.standing, c.in-Ok.ensures, may_not_go c.in-Ok.standing c.in_default.not-Nothing, refl, refl))
