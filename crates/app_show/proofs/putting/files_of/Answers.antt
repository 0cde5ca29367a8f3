use Rattle.std.proofs.Common.{List, subst, sym, arith}
use Rattle.app_journal.specs.declared.undo_files.UndoFiles.{UndoFiles}
use Rattle.app_show.specs.Putting.{AreFilesFrom}
use Rattle.app_show.proofs.Files.{files_more, longer_by_one}
use Rattle.app_show.proofs.putting.files_of.Goals as goal

pub loop-place-preserved : goal.loop-place-preserved
loop-place-preserved c = record {
  named = subst (λ (files : List UndoFiles). AreFilesFrom c.stem_of-stem.result.now c.args.count 0 files) (sym c.in_ok-push.ensures.items)
      (files_more c.stem_of-stem.result.now c.args.count 0 _ c.loop-place.all.items c.in_ok-file.file c.loop-place.invariant.named (grind (arith, c.loop-place.invariant.many)) c.in_ok-file.ensures);
  many = longer_by_one c.loop-place.all.items c.push.new.self.items c.in_ok-file.file c.loop-place.place c.in_ok-push.ensures.items c.loop-place.invariant.many;
}
