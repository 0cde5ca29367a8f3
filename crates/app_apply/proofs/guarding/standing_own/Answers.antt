use Rattle.std.proofs.Common.{◌∙◌, Ok, Err, ap, inl, inr, refl, subst}
use Rattle.std.proofs.lemmas.Result.{IfOk-weaker}
use Rattle.app_journal.specs.declared.files.Place.{Place}
use Rattle.app_journal.specs.declared.files.PlaceFault.{PlaceFault}
use Rattle.app_apply.proofs.guarding.standing_own.Goals as goal

pub returns-in-Ok-Free : goal.returns-in-Ok-Free
returns-in-Ok-Free g c =
    inl (
      c.in-Ok-Free.field-0-0,
      subst (λ answer. g.F.WritesFiles.leads c.args.files.now c.args.word.now answer) (c.in-Ok-Free.is ∙ ap (λ (p : Place). Ok p) c.in-Ok-Free.field-0-is) c.place.ensures,
      refl,
    )

pub returns-in-Ok-File : goal.returns-in-Ok-File
returns-in-Ok-File g c =
    IfOk-weaker c.standing_within.result _ _
    (λ standing stands. inr (inl (
      c.in-Ok-File.field-0-0,
      subst (λ answer. g.F.WritesFiles.leads c.args.files.now c.args.word.now answer) (c.in-Ok-File.is ∙ ap (λ (p : Place). Ok p) c.in-Ok-File.field-0-is) c.place.ensures,
      stands,
    ))) c.standing_within.ensures

pub returns-in-Ok-Stream : goal.returns-in-Ok-Stream
returns-in-Ok-Stream g c =
    inr (inr (
      inl (subst (λ answer. g.F.WritesFiles.leads c.args.files.now c.args.word.now answer) (c.in-Ok-Stream.is ∙ ap (λ (p : Place). Ok p) c.in-Ok-Stream.field-0-is) c.place.ensures),
      refl,
    ))

pub returns-in-Err-NoPlace : goal.returns-in-Err-NoPlace
returns-in-Err-NoPlace g c =
    inr (inr (
      inr (subst (λ answer. g.F.WritesFiles.leads c.args.files.now c.args.word.now answer) (c.in-Err-NoPlace.is ∙ ap (λ (p : PlaceFault). Err p) c.in-Err-NoPlace.field-0-is)
          c.place.ensures),
      refl,
    ))
