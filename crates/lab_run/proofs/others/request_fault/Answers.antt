use Rattle.std.proofs.Common.{sym, ◌∙◌, ap}
use Rattle.bmc_board.specs.Table.{is_changing}
use Rattle.two_wire.specs.declared.Bus.TheVariants.{Ipmb}
use Rattle.model_lab.specs.Faults.{is_own}
use Rattle.lab_run.proofs.FirstFaults.{by_changing, by_own, by_none}
use Rattle.lab_run.proofs.others.request_fault.Goals as goal

pub returns-then-is_changing : goal.returns-then-is_changing
returns-then-is_changing c = by_changing _ _ (ap is_changing (sym (c.asked.ensures c.args.names.now)) ∙ (sym c.is_changing.ensures ∙ c.if-is_changing.true))

pub returns-then-is_own : goal.returns-then-is_own
returns-then-is_own c = by_own _ _ (ap is_changing (sym (c.asked.ensures c.args.names.now)) ∙ (sym c.is_changing.ensures ∙ c.if-is_changing.false)) (ap (is_own Ipmb c.args.names.now) (sym c.byte.ensures.value) ∙ (sym c.is_own.ensures ∙ c.if-is_own.true))

pub returns : goal.returns
returns c = by_none _ _ (ap is_changing (sym (c.asked.ensures c.args.names.now)) ∙ (sym c.is_changing.ensures ∙ c.if-is_changing.false)) (ap (is_own Ipmb c.args.names.now) (sym c.byte.ensures.value) ∙ (sym c.is_own.ensures ∙ c.if-is_own.false))
