use Rattle.std.proofs.Common.{◌≡◌, true}
use Rattle.shown_records.specs.KeptText.{IsAlike}
use Rattle.shown_records.proofs.Alike.{same_data, same_request}
use Rattle.shown_records.proofs.plan_kept.are_alike.Goals as goal

pub returns-then-are_on_one_record : goal.returns-then-are_on_one_record
returns-then-are_on_one_record c =
    let first = c.args.first.now in
    let second = c.args.second.now in (
      (λ (same : c.have_same_data.result ≡ true). same_request first second (c.are_on_one_record.ensures.0 c.if-are_on_one_record.true) (c.have_same_data.ensures.0 same)),
      (λ (alike : IsAlike first second). c.have_same_data.ensures.1 (same_data first second alike)),
    )
