use Rattle.std.proofs.Common.{◌∙◌, inl, inr, refl, sym}
use Rattle.app_change.proofs.changing.change_others.Goals as goal

pub returns-then-first-from-clause-ends : goal.returns-then-first-from-clause-ends
returns-then-first-from-clause-ends g c = (
  c.say_for-first.new.console,
  c.say_for-first.result,
  c.say_for-first.ensures,
  inr ((λ done. c.if-first-from.true (done ∙ sym c.from.ensures)), refl, refl, refl),
)

pub returns-clause-ends : goal.returns-clause-ends
returns-clause-ends g c = (
  c.say_for-first.new.console,
  c.say_for-first.result,
  c.say_for-first.ensures,
  inl (c.if-first-from.false ∙ c.from.ensures, c.change_to.ensures.ends),
)
