use Rattle.std.proofs.Common.{◌∙◌, ap, option_map, sym}
use Rattle.app_base.proofs.Readings.{refuses_none}
use Rattle.bmcnet.proofs.IdRanges.{given_ids, no_ids, none_asked}
use Rattle.bmcnet.proofs.words.effecters.Goals as goal

pub returns-in_default-clause-ids : goal.returns-in_default-clause-ids
returns-in_default-clause-ids c =
    none_asked _ c.new.result.items (sym c.word_of.ensures ∙ ap (option_map (λ s. s.now)) c.in_default.is) c.new.ensures.items

pub returns-in-Ok-Some-clause-ids : goal.returns-in-Ok-Some-clause-ids
returns-in-Ok-Some-clause-ids c =
    given_ids _ c.in-Some.word.now c.in-Ok-Some.ids.items (sym c.word_of.ensures ∙ ap (option_map (λ s. s.now)) c.in-Some.is)
    (rw c.in-Ok-Some.field-0-is at c.in-Ok-Some.ensures)

pub returns-in-Ok-None-clause-refused : goal.returns-in-Ok-None-clause-refused
returns-in-Ok-None-clause-refused c =
    refuses_none _ c.value_refusal.result
    (no_ids _ c.in-Some.word.now (sym c.word_of.ensures ∙ ap (option_map (λ s. s.now)) c.in-Some.is) (rw c.in-Ok-None.field-0-is at c.in-Ok-None.ensures))
