use Rattle.std.proofs.Common.{◌≡◌, ◌∙◌, ℕ, List, Ok, Err, Result, ap, inl, inr, refl, string_bytes, subst}
use Rattle.std.proofs.lemmas.Result.{IfOk-weaker}
use Rattle.app_journal.specs.declared.files.Place.{Place}
use Rattle.app_journal.specs.declared.files.Place.TheVariants.{Free, File, Stream}
use Rattle.app_journal.specs.declared.files.PlaceFault.{PlaceFault}
use Rattle.app_journal.specs.declared.files.PlaceFault.TheVariants.{NoPlace}
use Rattle.app_journal.specs.Claiming.{Places, StandsIn}
use Rattle.app_journal.proofs.undo_files.UndoFiles.standing.Goals as goal

-- the answer at a word is that at another, which is the same
seen : (leads : Places) (part word : List ℕ) (answer given : Result Place PlaceFault) → leads word answer → word ≡ part → answer ≡ given → leads part given
seen leads part word answer given led same is = subst (λ (a : Result Place PlaceFault). leads part a) is (subst (λ (w : List ℕ). leads w answer) same led)

pub returns-in-Ok-Free : goal.returns-in-Ok-Free
returns-in-Ok-Free g c =
    inr (
      c.if-self.false,
      inl (
        c.in-Ok-Free.field-0-0,
        seen (g.F.WritesFiles.leads c.args.files.now) (string_bytes c.args.self.now.part) c.as_str-part.result.now c.place.result (Ok (Free c.in-Ok-Free.field-0-0)) c.place.ensures
            c.as_str-part.ensures.value (c.in-Ok-Free.is ∙ ap (λ (p : Place). Ok p) c.in-Ok-Free.field-0-is),
        refl,
      ),
    )

pub returns-in-Ok-File : goal.returns-in-Ok-File
returns-in-Ok-File g c =
    IfOk-weaker c.standing_of.result _ _
    (λ standing stands. inr (
      c.if-self.false,
      inr (inl (
        c.in-Ok-File.field-0-0,
        seen (g.F.WritesFiles.leads c.args.files.now) (string_bytes c.args.self.now.part) c.as_str-part.result.now c.place.result (Ok (File c.in-Ok-File.field-0-0)) c.place.ensures
            c.as_str-part.ensures.value (c.in-Ok-File.is ∙ ap (λ (p : Place). Ok p) c.in-Ok-File.field-0-is),
        subst (λ (w : List ℕ). StandsIn (g.F.TextFiles.gives c.args.files.now) w c.args.undo.now standing) c.as_str-part.ensures.value stands,
      )),
    )) c.standing_of.ensures

pub returns-in-Ok-Stream : goal.returns-in-Ok-Stream
returns-in-Ok-Stream g c =
    inr (
      c.if-self.false,
      inr (inr (
        inl (seen (g.F.WritesFiles.leads c.args.files.now) (string_bytes c.args.self.now.part) c.as_str-part.result.now c.place.result (Ok Stream) c.place.ensures
            c.as_str-part.ensures.value (c.in-Ok-Stream.is ∙ ap (λ (p : Place). Ok p) c.in-Ok-Stream.field-0-is)),
        refl,
      )),
    )

pub returns-in-Err-NoPlace : goal.returns-in-Err-NoPlace
returns-in-Err-NoPlace g c =
    inr (
      c.if-self.false,
      inr (inr (
        inr (seen (g.F.WritesFiles.leads c.args.files.now) (string_bytes c.args.self.now.part) c.as_str-part.result.now c.place.result (Err NoPlace) c.place.ensures
            c.as_str-part.ensures.value (c.in-Err-NoPlace.is ∙ ap (λ (p : PlaceFault). Err p) c.in-Err-NoPlace.field-0-is)),
        refl,
      )),
    )
