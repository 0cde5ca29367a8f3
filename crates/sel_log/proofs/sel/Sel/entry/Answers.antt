use Rattle.std.specs.Prelude.{slice_get}
use Rattle.std.proofs.Common.{◌≡◌, ℕ, true, ltb, List, length, get_or, Some, sym, ◌∙◌, ap}
use Rattle.std.proofs.lemmas.Bool.{ltb-true}
use Rattle.std.proofs.lemmas.Option.{slice_get-get_or}
use Rattle.sel_log.specs.LogRecord.{id_of}
use Rattle.sel_log.specs.Log.{asked_for, id_behind}
use Rattle.sel_log.proofs.sel.Sel.entry.Goals as goal

-- the record that was read stands at its place
stands : (records looked : List (List ℕ)) (place : ℕ) (r : List ℕ) → records ≡ looked → true ≡ ltb place (length looked) → r ≡ get_or looked place r → slice_get records place ≡ Some r
stands records looked place r same within is =
    ap (λ (rs : List (List ℕ)). slice_get rs place) same ∙ slice_get-get_or looked place r (ltb-true place (length looked) (sym within)) ∙ ap Some (sym is)

pub returns : goal.returns
returns c =
    let inside : c.self.inside.records.items ≡ c.args.self.now.records = ap (λ k. k.records) c.self.view_is in
    let found = c.in-Some.ensures.lookup in
    record {
      kept = ap (λ (rs : List (List ℕ)). asked_for rs c.args.number) (sym (c.as_slice.ensures.value ∙ inside)) ∙ c.place_of-place.ensures
          ∙ stands c.as_slice.result.now c.deref.result.now c.place_of-place.result c.in-Some.kept.now (c.as_slice.ensures.value ∙ sym c.deref.ensures.value) found.0 found.1;
      next = c.id_behind-next.ensures c.in-Some.kept.now
          (stands c.as_slice-2.result.now c.deref.result.now c.place_of-place.result c.in-Some.kept.now (c.as_slice-2.ensures.value ∙ sym c.deref.ensures.value) found.0 found.1)
          ∙ ap (λ (rs : List (List ℕ)). id_behind rs (id_of c.in-Some.kept.now)) (c.as_slice-2.ensures.value ∙ inside);
      missing = tt;
    }
