use Rattle.std.proofs.Common.{◌≡◌, ℕ, zero, suc, ◌+◌, List, [], ◌∷◌, ◌++◌, length, refl, ◌∙◌, ap, arith}
use Rattle.record_base.specs.declared.field_changes.FieldChange.{FieldChange}
use Rattle.effecter_recs.specs.FieldChanges.{set_to}
use Rattle.shown_records.specs.ProbeLaws.{set_fields, as_many_set}
use Rattle.shown_records.proofs.probes.probe_fields.Goals as goal

-- one more at the end is one more
set_last : (count : ℕ) → set_fields count ++ (set_to 0 ∷ []) ≡ set_fields (suc count)
set_last zero = refl
set_last (suc count) = ap (λ (changes : List FieldChange). set_to 0 ∷ changes) (set_last count)

pub push-requires : goal.push-requires
push-requires c =
    let many : length c.loop-field.changes ≡ c.loop-field._field = ap length c.loop-field.invariant ∙ as_many_set c.loop-field._field in
    omega (arith, many, c.loop-field-test.true, c.min-count.ensures)

pub loop-field-preserved : goal.loop-field-preserved
loop-field-preserved c =
    let more : suc c.loop-field._field ≡ c.loop-field._field + 1 = omega arith in
    c.push.ensures ∙ ap (λ (changes : List FieldChange). changes ++ (set_to 0 ∷ [])) c.loop-field.invariant ∙ set_last c.loop-field._field ∙ ap set_fields more
