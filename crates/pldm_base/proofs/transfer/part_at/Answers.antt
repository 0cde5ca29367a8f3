use Rattle.std.proofs.Common.{◌≡◌, ◌+◌, ◌-◌, ap, arith, length, ◌∙◌, eqb}
use Rattle.std.proofs.lemmas.Bool.Decides.{nat_tests}
use Rattle.pldm_base.specs.Parts.{flag_of}
use Rattle.pldm_base.proofs.Tables.{last_here, last_bytes}
use Rattle.pldm_base.proofs.transfer.part_at.Goals as goal

pub returns-then-is_last-clause-part : goal.returns-then-is_last-clause-part
returns-then-is_last-clause-part c = record {
  bytes = last_bytes c.args.table.now c.args.offset (omega arith);
  next = grind (arith, nat_tests);
  flag = c.flag_of_part-flag.ensures ∙ ap (flag_of (eqb c.args.offset 0)) (last_here (length c.args.table.now) c.args.offset c.requires.within);
}

pub returns-else-is_last-clause-part : goal.returns-else-is_last-clause-part
returns-else-is_last-clause-part c = record {
  bytes = let whole : c.args.offset + 192 - c.args.offset ≡ 192 = omega arith in rw whole;
  next = grind (arith, nat_tests);
  flag = c.flag_of_part-flag.ensures ∙ ap (flag_of (eqb c.args.offset 0)) (last_here (length c.args.table.now) c.args.offset c.requires.within);
}
