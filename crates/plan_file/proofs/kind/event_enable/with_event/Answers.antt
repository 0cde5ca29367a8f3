use Rattle.std.proofs.Common.{◌≡◌, ◌<◌, ◌≤◌, ◌||◌, ◌==◌, Some, Option, ℕ, ap, sym, ◌∙◌, arith, w16, bit_or, ◌^◌, ◌*◌, ◌%◌}
use Rattle.std.proofs.lemmas.Nat.Bits.{bit_at_set_same, bit_at_set_other}
use Rattle.record_base.specs.Masks.{has}
use Rattle.toml.specs.View.{view}
use Rattle.text_fields.specs.Trees.{natural}
use Rattle.text_fields.specs.Ranges.{passes}
use Rattle.plan_file.proofs.Changes.{one_more, offset_small}
use Rattle.plan_file.proofs.kind.event_enable.with_event.Goals as goal

pub returns : goal.returns
returns c = λ other.
    let mask = c.args.mask in
    let n = c.unwrap.result in
    let found : natural (view c.args.offset.now) ≡ Some n = sym c.natural.ensures ∙ c.unwrap.ensures in
    let small : n ≤ 11 = offset_small (view c.args.offset.now) n c.requires found in
    let within : n < 16 = omega arith in
    one_more (bit_or mask (1 * 2 ^ n % 65536)) mask n other (bit_at_set_same w16 mask n within) (bit_at_set_other w16 mask n within)
    ∙ ap (λ (o : Option ℕ). has mask other || passes (λ m. m == other) o) (sym found)
