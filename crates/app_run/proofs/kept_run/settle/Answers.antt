use Rattle.std.proofs.Common.{ap, inr, string_bytes}
use Rattle.model_lab.specs.Meaning.{lab_names}
use Rattle.bmc_ports.specs.Conversation.{links}
use Rattle.app_journal.proofs.LookedAt.{keeps_looks, stays_same}
use Rattle.app_run.specs.Told.{LooksOn}
use Rattle.app_run.proofs.Ways.{seen_as}
use Rattle.app_run.proofs.kept_run.settle.Goals as goal

pub returns-clause-settles : goal.returns-clause-settles
returns-clause-settles g c =
    let run = c.settle_watched-end.ensures.seen in (
      c.in-Ok.manager,
      c.in-Ok.ensures.made,
      record {
        end = c.settle_watched-end.result;
        left = links c.settle_watched-end.new.ipmb c.settle_watched-end.new.smbus;
        has = string_bytes c.settle_watched-end.new.watch.keeper.texts.now.last;
        goes = c.settle_watched-end.ensures.goes;
        looks = run.looks;
        way = λ s shows. run.course lab_names s shows;
        keeps = keeps_looks g.F.WritesFiles.takes g.F.WritesFiles.renames (λ watch. watch.keeper.beside.now) (λ watch. string_bytes watch.keeper.texts.now.last) (λ watch. watch.keeper.files.now) _
            (λ old m allowed new saw. record { keeps = saw.0; same = ap (λ beside. beside.now) saw.1 }) run.looks c.args.watch.now c.settle_watched-end.new.watch run.seen;
        phase_is = λ s shows. c.phase-phase.ensures lab_names s shows;
      },
    )

pub returns-clause-told : goal.returns-clause-told
returns-clause-told g c =
    let run = c.settle_watched-end.ensures.seen in
    inr (
      run.looks,
      record {
        text = string_bytes c.args.watch.now.keeper.texts.now.last;
        revived = c.in-Ok.manager;
        made = c.in-Ok.ensures.made;
        way = λ s shows. (
          c.settle_watched-end.new.manager,
          c.settle_watched-end.result,
          links c.args.ipmb.now c.args.smbus.now,
          links c.settle_watched-end.new.ipmb c.settle_watched-end.new.smbus,
          run.course lab_names s shows,
        );
      },
      seen_as _ (λ watch. watch.teller.course) (λ watch. watch.teller.progress.now) (λ course. LooksOn g.P.Write.contents course.kinds.now course.steps)
          (λ old m allowed new saw. (saw.2, saw.3)) run.looks c.args.watch.now c.settle_watched-end.new.watch run.seen,
    )

pub returns-clause-same_files : goal.returns-clause-same_files
returns-clause-same_files g c =
    let run = c.settle_watched-end.ensures.seen in
    stays_same _ (λ watch. watch.keeper.files.ghost_name) (λ old m allowed new saw. saw.4) run.looks c.args.watch.now c.settle_watched-end.new.watch run.seen

pub returns-clause-same_line : goal.returns-clause-same_line
returns-clause-same_line g c =
    let run = c.settle_watched-end.ensures.seen in
    stays_same _ (λ watch. watch.teller.progress.ghost_name) (λ old m allowed new saw. saw.5) run.looks c.args.watch.now c.settle_watched-end.new.watch run.seen
