use Rattle.std.proofs.Common.{ap, refl, string_bytes, subst}
use Rattle.bmc_ports.specs.Conversation.{links}
use Rattle.bmc_ports.specs.Driving.{Links, both}
use Rattle.model_lab.specs.Meaning.{lab_names}
use Rattle.app_journal.proofs.LookedAt.{keeps_looks, stays_same}
use Rattle.app_run.specs.Driven.{GoesAgain}
use Rattle.app_run.specs.Reverting.{call_for}
use Rattle.app_run.specs.Told.{LooksOn}
use Rattle.app_run.proofs.Driving.{fresh}
use Rattle.app_run.proofs.Ways.{seen_as}
use Rattle.app_run.proofs.reverting.recall_over.Goals as goal

pub returns-clause-runs : goal.returns-clause-runs
returns-clause-runs g c before shows =
    let seen = c.recall_watched.ensures.seen in
    record {
      counts = both c.recall_watched.new.ipmb.counts c.recall_watched.new.smbus.counts;
      goes = subst (λ (over : Links). GoesAgain 0 (call_for c.args.recall) c.args.turns before c.recall_watched.new.manager c.recall_watched.result over
          (both c.recall_watched.new.ipmb.counts c.recall_watched.new.smbus.counts)) (fresh _ _ c.requires.ipmb c.requires.smbus) (c.recall_watched.ensures.goes before shows);
      looks = seen.looks;
      way = record {
        links = links c.args.ends.ipmb c.args.ends.smbus;
        left = links c.recall_watched.new.ipmb c.recall_watched.new.smbus;
        fresh = fresh _ _ c.requires.ipmb c.requires.smbus;
        counted = refl;
        way = seen.course lab_names before shows;
      };
      kept = keeps_looks g.F.WritesFiles.takes g.F.WritesFiles.renames (λ watch. watch.keeper.beside.now) (λ watch. string_bytes watch.keeper.texts.now.last) (λ watch. watch.keeper.files.now) _
          (λ old m allowed new saw. record { keeps = saw.0; same = ap (λ beside. beside.now) saw.1 }) seen.looks c.args.watch.now c.recall_watched.new.watch seen.seen;
    }

pub returns-clause-told : goal.returns-clause-told
returns-clause-told g c =
    let seen = c.recall_watched.ensures.seen in
    record {
      end = c.recall_watched.result;
      counts = both c.recall_watched.new.ipmb.counts c.recall_watched.new.smbus.counts;
      looks = seen.looks;
      way = λ before shows. record {
        links = links c.args.ends.ipmb c.args.ends.smbus;
        left = links c.recall_watched.new.ipmb c.recall_watched.new.smbus;
        fresh = fresh _ _ c.requires.ipmb c.requires.smbus;
        counted = refl;
        way = seen.course lab_names before shows;
      };
      tells = seen_as _ (λ watch. watch.teller.course) (λ watch. watch.teller.progress.now) (λ course. LooksOn g.P.Write.contents course.kinds.now course.steps)
          (λ old m allowed new saw. (saw.2, saw.3)) seen.looks c.args.watch.now c.recall_watched.new.watch seen.seen;
    }

pub returns-clause-same_words : goal.returns-clause-same_words
returns-clause-same_words g c =
    let seen = c.recall_watched.ensures.seen in
    stays_same _ (λ watch. watch.keeper.beside) (λ old m allowed new saw. saw.1) seen.looks c.args.watch.now c.recall_watched.new.watch seen.seen

pub returns-clause-same_course : goal.returns-clause-same_course
returns-clause-same_course g c =
    let seen = c.recall_watched.ensures.seen in
    stays_same _ (λ watch. watch.teller.course) (λ old m allowed new saw. saw.3) seen.looks c.args.watch.now c.recall_watched.new.watch seen.seen

pub returns-clause-same_files : goal.returns-clause-same_files
returns-clause-same_files g c =
    let seen = c.recall_watched.ensures.seen in
    stays_same _ (λ watch. watch.keeper.files.ghost_name) (λ old m allowed new saw. saw.4) seen.looks c.args.watch.now c.recall_watched.new.watch seen.seen

pub returns-clause-same_line : goal.returns-clause-same_line
returns-clause-same_line g c =
    let seen = c.recall_watched.ensures.seen in
    stays_same _ (λ watch. watch.teller.progress.ghost_name) (λ old m allowed new saw. saw.5) seen.looks c.args.watch.now c.recall_watched.new.watch seen.seen
