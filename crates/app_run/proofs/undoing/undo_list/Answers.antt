use Rattle.std.proofs.Common.{inl}
use Rattle.app_run.proofs.Listing.{no_others}
use Rattle.app_run.proofs.Ways.{told_of_names}
use Rattle.app_run.proofs.undoing.undo_list.Goals as goal

pub returns-in-Ok-clause-ends : goal.returns-in-Ok-clause-ends
returns-in-Ok-clause-ends g c =
    inl (c.in-Ok.resumed, no_others c.args.list c.resume.result c.in-Ok.resumed c.in-Ok.is c.resume.ensures.others, c.in-Ok.ensures.resumed, c.undo_unbarred.ensures.ends)

pub returns-in-Ok-clause-told : goal.returns-in-Ok-clause-told
returns-in-Ok-clause-told g c =
    told_of_names g.P.Write.contents c.args.list c.args.words.now.greet c.in-Ok.resumed c.args.progress.now c.undo_unbarred.new.progress
    (no_others c.args.list c.resume.result c.in-Ok.resumed c.in-Ok.is c.resume.ensures.others) c.in-Ok.ensures.resumed c.undo_unbarred.ensures.told
