use Rattle.std.proofs.Common.{◌≤◌, ℕ, List, length, ap, length-append, arith}
use Rattle.record_base.specs.BoardSizes.{most_state_fields}
use Rattle.effecter_recs.specs.Requests.{operational_state}
use Rattle.effecter_recs.specs.ChangeLaws.{three_each}
use Rattle.effecter_recs.specs.StateLaws.{counted}
use Rattle.effecter_recs.proofs.state.StateLimitsRecordKind.get_data.Goals as goal

pub overflow_cast-value : goal.overflow_cast-value
overflow_cast-value g c =
    let few : length c.args.value.now ≤ most_state_fields = (counted c.args.self.now c.args.value.now c.requires.is_valid).1 in
    omega arith

pub show_fields-requires : goal.show_fields-requires
show_fields-requires g c =
    let pushed = ap (λ (xs : List ℕ). length xs) c.push.ensures in
    omega (arith, pushed, c.requires.room, three_each (operational_state c.args.self.now.enabled) c.args.value.now, length-append {A = ℕ})
