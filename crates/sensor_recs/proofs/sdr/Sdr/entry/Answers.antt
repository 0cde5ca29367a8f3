use Rattle.std.specs.Prelude.{slice_get}
use Rattle.std.proofs.Common.{◌≡◌, ◌+◌, ℕ, true, ltb, List, length, get_or, Some, sym, ◌∙◌, ap}
use Rattle.std.proofs.lemmas.Bool.{ltb-true}
use Rattle.std.proofs.lemmas.Option.{slice_get-get_or}
use Rattle.sensor_recs.specs.Sdr.{place_for, id_or_none}
use Rattle.sensor_recs.proofs.sdr.Sdr.entry.Goals as goal

-- the record that was read stands at the place that the number asks for
stands : (records : List (List ℕ)) (number place : ℕ) (r : List ℕ) → place ≡ place_for records number → true ≡ ltb place (length records) → r ≡ get_or records place r → slice_get records (place_for records number) ≡ Some r
stands records number place r asked within is =
    ap (slice_get records) (sym asked) ∙ slice_get-get_or records place r (ltb-true place (length records) (sym within)) ∙ ap Some (sym is)

pub returns : goal.returns
returns c =
    let inside : c.as_slice-records.result.now ≡ c.args.self.now.records = c.as_slice-records.ensures.value ∙ ap (λ k. k.records) c.self.view_is in
    let found = c.in-Some.ensures.lookup in
    record {
      kept = ap (λ (rs : List (List ℕ)). slice_get rs (place_for rs c.args.number)) (sym inside)
          ∙ stands c.as_slice-records.result.now c.args.number c.place_for-place.result c.in-Some.kept.now c.place_for-place.ensures found.0 found.1;
      next = c.id_at-next.ensures
          ∙ ap (λ (place : ℕ). id_or_none (slice_get c.as_slice-records.result.now (place + 1))) c.place_for-place.ensures
          ∙ ap (λ (rs : List (List ℕ)). id_or_none (slice_get rs (place_for rs c.args.number + 1))) inside;
      missing = tt;
    }
