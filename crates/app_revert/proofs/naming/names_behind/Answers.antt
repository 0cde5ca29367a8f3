use Rattle.std.proofs.Common.{◌∙◌, inl, inr, sym}
use Rattle.app_revert.proofs.naming.names_behind.Goals as goal

pub returns-then-asks_names : goal.returns-then-asks_names
returns-then-asks_names c = inl (sym c.asks_names.ensures ∙ c.if-asks_names.true, c.read_over.ensures)

pub returns-else-asks_names : goal.returns-else-asks_names
returns-else-asks_names c = inr (sym c.asks_names.ensures ∙ c.if-asks_names.false, c.new.ensures.none)
