use Rattle.std.proofs.Common.{List, ℕ, Ok, Err, inl, inr, refl, string_bytes, subst}
use Rattle.app_journal.specs.Beside.{PutsPart}
use Rattle.app_run.proofs.preparing.made.Goals as goal

pub returns-in-Ok-put-clause-made : goal.returns-in-Ok-put-clause-made
returns-in-Ok-put-clause-made g c = record {
  same = refl;
  shown = c.in-Ok.ensures.manager;
  kinds = c.in-Ok.ensures.kinds;
  greetings = c.in-Ok.ensures.greetings;
  makes = (
    c.in-Ok.ready.manager,
    c.in-Ok.ensures.manager,
    c.in-Ok.ensures.text,
    subst (λ (put : List ℕ). PutsPart g.F.WritesFiles.takes g.F.WritesFiles.renames c.args.beside put c.args.files.now (Ok tt) c.put.new.files) c.as_str.ensures.value c.in-Ok-put.ensures,
  );
}

pub returns-in-Err-clause-unmade : goal.returns-in-Err-clause-unmade
returns-in-Err-clause-unmade g c =
    inr (inl (
      string_bytes c.in-Ok.ready.texts.last,
      c.in-Err.field-0,
      refl,
      (
        c.in-Ok.ready.manager,
        c.in-Ok.ensures.manager,
        c.in-Ok.ensures.text,
        subst (λ (put : List ℕ). PutsPart g.F.WritesFiles.takes g.F.WritesFiles.renames c.args.beside put c.args.files.now (Err c.in-Err.field-0) c.put.new.files)
            c.as_str.ensures.value c.in-Err.ensures,
      ),
    ))

pub returns-in_default-clause-unmade : goal.returns-in_default-clause-unmade
returns-in_default-clause-unmade g c = inr (inr (refl, refl))
