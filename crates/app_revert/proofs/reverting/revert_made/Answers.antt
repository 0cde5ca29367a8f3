use Rattle.std.proofs.Common.{ℕ, List, Ok, Err, inl, inr, refl, string_bytes, subst}
use Rattle.app_journal.specs.Beside.{PutsPart}
use Rattle.app_revert.proofs.reverting.revert_made.Goals as goal

pub returns-in-Ok-clause-reverts : goal.returns-in-Ok-clause-reverts
returns-in-Ok-clause-reverts g c =
    inl (
      string_bytes c.in_ok-texts.texts.last,
      c.put.new.files,
      c.in_ok-texts.ensures,
      subst (λ (put : List ℕ). PutsPart g.F.WritesFiles.takes g.F.WritesFiles.renames c.args.beside.now put c.args.files.now (Ok tt) c.put.new.files) c.as_str.ensures.value
          c.in-Ok.ensures,
      c.revert_kept.ensures.reverts,
    )

pub returns-clause-reverts : goal.returns-clause-reverts
returns-clause-reverts g c =
    inr (inl (
      string_bytes c.in_ok-texts.texts.last,
      c.in-Err.field-0,
      c.in_ok-texts.ensures,
      subst (λ (put : List ℕ). PutsPart g.F.WritesFiles.takes g.F.WritesFiles.renames c.args.beside.now put c.args.files.now (Err c.in-Err.field-0) c.put.new.files)
          c.as_str.ensures.value c.in-Err.ensures,
      refl,
      refl,
    ))
