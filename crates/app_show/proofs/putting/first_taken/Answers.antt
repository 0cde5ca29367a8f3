use Rattle.std.proofs.Common.{Bool, length, refl, subst, string_bytes, arith}
use Rattle.std.proofs.lemmas.Option.{slice_get_read}
use Rattle.app_journal.specs.Claiming.{IsFreeAt}
use Rattle.app_show.proofs.Files.{free_to}
use Rattle.app_show.proofs.putting.first_taken.Goals as goal

pub returns-then-not-branch : goal.returns-then-not-branch
returns-then-not-branch g c = (
  c.index-all-place.result,
  slice_get_read c.args.all.now (length c.args.all.now) c.loop-place.place c.index-all-place.result refl (omega arith) c.index-all-place.is,
  subst (λ (free : Bool). IsFreeAt (g.F.WritesFiles.leads c.args.files.now) (string_bytes c.index-all-place.result.part) free) c.if-not-branch.true c.in_ok-is_absent.ensures,
  c.loop-place.invariant,
)

pub loop-place-preserved : goal.loop-place-preserved
loop-place-preserved g c =
    free_to (g.F.WritesFiles.leads c.args.files.now) c.args.all.now c.loop-place.place c.index-all-place.result (omega arith) c.index-all-place.is c.loop-place.invariant
    (subst (λ (free : Bool). IsFreeAt (g.F.WritesFiles.leads c.args.files.now) (string_bytes c.index-all-place.result.part) free) c.if-not-branch.false c.in_ok-is_absent.ensures)
