use Rattle.std.proofs.Common.{ℕ, List, Ok, Err, inl, inr, refl, string_bytes, subst}
use Rattle.app_journal.proofs.ClaimingFacts.{first_free, none_free}
use Rattle.app_journal.proofs.claiming.put_aside.Goals as goal

pub returns-in_default : goal.returns-in_default
returns-in_default g c =
    inl (
      none_free (g.F.WritesFiles.leads c.args.files.now) c.as_str.result.now (string_bytes c.args.beside.part) c.in_ok-name.field-0 c.as_str.ensures.value c.in_default.not-Some
          c.in_ok-name.ensures,
      refl,
    )

pub returns-in-Ok : goal.returns-in-Ok
returns-in-Ok g c = (
  c.in-Some.name,
  refl,
  first_free (g.F.WritesFiles.leads c.args.files.now) c.as_str.result.now (string_bytes c.args.beside.part) c.in_ok-name.field-0 c.in-Some.name c.as_str.ensures.value c.in-Some.is
      c.in_ok-name.ensures,
  subst (λ (to : List ℕ). g.F.WritesFiles.renames c.args.files.now (string_bytes c.args.beside.part) to (Ok tt) c.rename.new.self) c.as_str-3.ensures.value
      (subst (λ (from : List ℕ). g.F.WritesFiles.renames c.args.files.now from c.as_str-3.result.now (Ok tt) c.rename.new.self) c.as_str-2.ensures.value c.in-Ok.ensures),
)

pub returns-in-Err : goal.returns-in-Err
returns-in-Err g c =
    inr (
      c.in-Some.name,
      c.in-Err.field-0,
      first_free (g.F.WritesFiles.leads c.args.files.now) c.as_str.result.now (string_bytes c.args.beside.part) c.in_ok-name.field-0 c.in-Some.name c.as_str.ensures.value c.in-Some.is
          c.in_ok-name.ensures,
      subst (λ (to : List ℕ). g.F.WritesFiles.renames c.args.files.now (string_bytes c.args.beside.part) to (Err c.in-Err.field-0) c.rename.new.self) c.as_str-3.ensures.value
          (subst (λ (from : List ℕ). g.F.WritesFiles.renames c.args.files.now from c.as_str-3.result.now (Err c.in-Err.field-0) c.rename.new.self) c.as_str-2.ensures.value
          c.in-Err.ensures),
    )
