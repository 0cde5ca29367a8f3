use Rattle.std.proofs.Common.{Option, Ok, inl, subst}
use Rattle.std.specs.declared.alloc.AllocError.{AllocError}
use Rattle.app_journal.specs.declared.undo_files.UndoFiles.{UndoFiles}
use Rattle.app_journal.specs.Claiming.{HoldsFiles}
use Rattle.app_journal.proofs.claiming.claim_files.Goals as goal

pub returns-in-Some : goal.returns-in-Some
returns-in-Some g c =
    inl (
      c.in-Some.beside,
      c.hold_files.new.files,
      subst (λ (found : Option UndoFiles). HoldsFiles {Refused = AllocError} g.F.WritesFiles c.args.word.now (Ok found) c.args.files.now c.hold_files.new.files) c.in-Some.is
          c.in_ok-beside.ensures,
      c.claim_held.ensures,
    )
