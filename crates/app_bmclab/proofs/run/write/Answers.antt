use Rattle.std.proofs.Common.{ℕ, List, [], ◌∷◌, subst}
use Rattle.app_base.specs.Ending.{RunEnds}
use Rattle.app_bmclab.specs.ScheduledFiles.{PrintsScheduleOfFiles}
use Rattle.app_bmclab.proofs.run.write.Goals as goal

pub returns : goal.returns
returns g c =
    subst (λ (words : List (List ℕ)). RunEnds g.W.Write.contents g.E.Write.contents (PrintsScheduleOfFiles (g.F.TextFiles.gives c.args.files.now) c.args.words.now.wanted words) c.args.console.now c.schedule_of_files.new.console c.schedule_of_files.result)
    (λ i. c.as_str.ensures.value i ∷ c.as_str-2.ensures.value i ∷ [])
    c.schedule_of_files.ensures
