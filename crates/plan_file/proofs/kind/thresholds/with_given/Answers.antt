use Rattle.std.proofs.Common.{◌≡◌, ◌<◌, ◌||◌, ◌&&◌, ◌==◌, true, ap, sym, ◌∙◌, rules, arith, w8, bit_or, ◌^◌, ◌*◌, ◌%◌}
use Rattle.std.proofs.lemmas.Nat.Bits.{bit_at_set_same, bit_at_set_other}
use Rattle.record_base.specs.Masks.{has}
use Rattle.toml.specs.View.{table_view}
use Rattle.plan_file.specs.Kinds.Thresholds.{is_given}
use Rattle.plan_file.proofs.Changes.{one_more, and_true}
use Rattle.plan_file.proofs.kind.thresholds.with_given.Goals as goal

pub returns-then-is_some : goal.returns-then-is_some
returns-then-is_some c = λ other.
    let mask = c.args.mask in
    let place = c.args.place in
    let within : place < 8 = omega arith in
    let is : is_given (table_view c.args.step.now) place ≡ true = search rules in
    one_more (bit_or mask (1 * 2 ^ place % 256)) mask place other (bit_at_set_same w8 mask place within) (bit_at_set_other w8 mask place within)
    ∙ ap (λ b. has mask other || b) (sym (ap (λ b. (place == other) && b) is ∙ and_true (place == other)))
