use Rattle.std.proofs.Common.{◌≡◌, ◌==◌, List, ℕ, length, get_or, [], true, sym, ◌∙◌, ap, arith}
use Rattle.std.proofs.lemmas.Bool.Decides.{nat_tests}
use Rattle.std.proofs.lemmas.List.{get_or_default}
use Rattle.std.proofs.lemmas.List.Sums.{position_or_len_is}
use Rattle.record_base.specs.Sdr.{sdr_id}
use Rattle.sensor_recs.proofs.sdr.place_of_id.Goals as goal

equal_test : (a b : ℕ) → a ≡ b → (a == b) ≡ true
equal_test a b same = grind (arith, nat_tests)

pub returns-then-number-id : goal.returns-then-number-id
returns-then-number-id c =
    let records : List (List ℕ) = c.args.records.now in
    let place = c.loop-place.place in
    let item : List ℕ = c.index-records-place.result in
    let here : get_or records place [] ≡ item = get_or_default records place [] item c.loop-place-test.true ∙ sym c.index-records-place.is in
    let same : sdr_id item ≡ c.args.id = sym c.number.ensures ∙ c.if-number-id.true in
    sym (position_or_len_is (λ (bytes : List ℕ). sdr_id bytes == c.args.id) records place [] (omega (arith, c.loop-place-test.true)) c.loop-place.invariant
    (λ within. equal_test _ _ (ap (λ (bytes : List ℕ). sdr_id bytes) here ∙ same)))

pub returns : goal.returns
returns c =
    let records : List (List ℕ) = c.args.records.now in
    sym (position_or_len_is (λ (bytes : List ℕ). sdr_id bytes == c.args.id) records (length records) [] (omega arith) (λ k lt. c.loop-place.invariant k (omega (arith, lt, c.loop-place-test.false))) (λ within. absurd (omega (arith, within))))
