use Rattle.std.specs.Prelude.{Result}
use Rattle.std.proofs.Common.{List, ℕ, length, refl, subst, string_bytes, arith}
use Rattle.std.proofs.lemmas.Option.{slice_get_read}
use Rattle.app_journal.specs.declared.files.WriteFault.{WriteFault}
use Rattle.app_journal.specs.Beside.{PutsPart}
use Rattle.app_show.proofs.Files.{puts_to}
use Rattle.app_show.proofs.putting.put_all.Goals as goal

pub returns-in-Err-clause-stopped : goal.returns-in-Err-clause-stopped
returns-in-Err-clause-stopped g c = record {
  mid = c.loop-place.files;
  before = c.loop-place.invariant;
  file = c.index-all-place.result;
  at = slice_get_read c.args.all.now (length c.args.all.now) c.loop-place.place c.index-all-place.result refl (omega arith) c.index-all-place.is;
  text = c.index-texts-place.result;
  its_text = slice_get_read c.args.texts.now (length c.args.texts.now) c.loop-place.place c.index-texts-place.result refl (omega (arith, c.requires)) c.index-texts-place.is;
  fault = c.in-Err.field-0;
  fails = subst (λ (answer : Result (Unit {0}) WriteFault). PutsPart g.F.WritesFiles.takes g.F.WritesFiles.renames c.index-all-place.result (string_bytes c.index-texts-place.result) c.loop-place.files answer c.put.new.files)
      c.in-Err.is
      (subst (λ (text : List ℕ). PutsPart g.F.WritesFiles.takes g.F.WritesFiles.renames c.index-all-place.result text c.loop-place.files c.put.result c.put.new.files) c.as_str-text.ensures.value c.put.ensures);
}

pub loop-place-preserved : goal.loop-place-preserved
loop-place-preserved g c =
    puts_to g.F.WritesFiles c.args.all.now c.args.texts.now c.loop-place.place c.index-all-place.result c.index-texts-place.result c.args.files.now c.loop-place.files c.put.new.files
    (omega arith) (omega (arith, c.requires)) c.index-all-place.is c.index-texts-place.is c.loop-place.invariant
    (subst (λ (answer : Result (Unit {0}) WriteFault). PutsPart g.F.WritesFiles.takes g.F.WritesFiles.renames c.index-all-place.result (string_bytes c.index-texts-place.result) c.loop-place.files answer c.put.new.files)
    c.in_default.is
    (subst (λ (text : List ℕ). PutsPart g.F.WritesFiles.takes g.F.WritesFiles.renames c.index-all-place.result text c.loop-place.files c.put.result c.put.new.files) c.as_str-text.ensures.value c.put.ensures))
