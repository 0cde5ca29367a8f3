use Rattle.std.proofs.Common.{◌∙◌, ℕ, List, Ok, ap, inl, inr, refl, string_bytes, subst}
use Rattle.app_journal.specs.declared.files.Place.{Place}
use Rattle.app_journal.specs.Beside.{IsOwn}
use Rattle.app_apply.proofs.guarding.own_files.Goals as goal

pub returns-in_ok-of_journal-in-Ok-Free : goal.returns-in_ok-of_journal-in-Ok-Free
returns-in_ok-of_journal-in-Ok-Free g c = (
  string_bytes c.in-Ok-Free.path,
  (
    c.in-Ok-Free.path,
    refl,
    inl (subst (λ answer. g.F.WritesFiles.leads c.args.files.now c.args.word.now answer) (c.in-Ok-Free.is ∙ ap (λ (p : Place). Ok p) c.in-Ok-Free.field-0-is) c.place.ensures),
  ),
  subst (λ (w : List ℕ). IsOwn w c.in_ok-of_journal-in-Ok-Free.field-0) c.as_str.ensures.value c.in_ok-of_journal-in-Ok-Free.ensures,
)

pub returns-in_ok-of_journal-in-Ok-File : goal.returns-in_ok-of_journal-in-Ok-File
returns-in_ok-of_journal-in-Ok-File g c = (
  string_bytes c.in-Ok-File.path,
  (
    c.in-Ok-File.path,
    refl,
    inr (subst (λ answer. g.F.WritesFiles.leads c.args.files.now c.args.word.now answer) (c.in-Ok-File.is ∙ ap (λ (p : Place). Ok p) c.in-Ok-File.field-0-is) c.place.ensures),
  ),
  subst (λ (w : List ℕ). IsOwn w c.in_ok-of_journal-in-Ok-File.field-0) c.as_str-in-Ok-File.ensures.value c.in_ok-of_journal-in-Ok-File.ensures,
)
