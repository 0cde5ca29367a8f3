use Rattle.std.proofs.Common.{sym, ap, ◌∙◌, subst}
use Rattle.cfg_records.specs.declared.board_file.BoardFile.{BoardFile}
use Rattle.cfg_records.specs.Records.{Records, records_of}
use Rattle.cfg_records.specs.Boards.{pairs_of}
use Rattle.record_kinds.specs.Sound.{AreSoundRecords}
use Rattle.record_kinds.proofs.Starts.{starts_sound}
use Rattle.bmc_board.specs.ToldTables.{TellsAttributes}
use Rattle.bmc_board.proofs.BiosTableFacts.{opened_tell}
use Rattle.bmc_board.proofs.board.Board.open.Goals as goal

pub invariant_of-result : goal.invariant_of-result
invariant_of-result g c = record {
  sound = subst (λ (r : Records). AreSoundRecords c.in-Ok-new.setup r) (sym (ap g.S.Store.records c.over.ensures ∙ c.requires))
      (subst (λ (f : BoardFile). AreSoundRecords f (records_of (pairs_of c.args.file))) (sym c.in-Ok-new.ensures) (starts_sound c.args.file));
  tell = subst (λ (f : BoardFile). TellsAttributes f.attributes.items c.in-Ok.parts.tables) (sym c.in-Ok-new.ensures) (opened_tell c.args.file.attributes.items c.in-Ok.parts.tables c.in-Ok.ensures.tables);
  is_kept = tt;
}
