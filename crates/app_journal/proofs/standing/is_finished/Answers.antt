use Rattle.std.proofs.Common.{◌∙◌, ℕ, List, inl, inr, subst, sym}
use Rattle.model_lab.specs.Meaning.{lab_names}
use Rattle.app_journal.specs.Standing.{IsSameAs}
use Rattle.app_journal.proofs.StandingFacts.{finished_as}
use Rattle.app_journal.proofs.standing.is_finished.Goals as goal

pub returns-then-not-has_ended : goal.returns-then-not-has_ended
returns-then-not-has_ended c = inr (c.in-Ok.manager, c.in-Ok.ensures.made, inl (sym c.has_ended.ensures ∙ c.if-not-has_ended.true))

pub returns : goal.returns
returns c =
    finished_as c.args.text.now c.args.undo.now c.in-Ok.manager c.undo_list.result.now c.is_same.result c.in-Ok.ensures.made (sym c.has_ended.ensures ∙ c.if-not-has_ended.false)
    (λ s shows. c.undo_list.ensures lab_names s shows)
    (subst (λ (t : List ℕ). IsSameAs c.args.undo.now t c.is_same.result) (c.as_str.ensures.value ∙ c.in_ok-list.ensures.text) c.is_same.ensures)
