use Rattle.std.proofs.Common.{◌∙◌, inl, inr}
use Rattle.bmc_core.proofs.Circles.{circles, turned_64, turned_32}
use Rattle.bmc_core.proofs.circle.next_half.Goals as goal

pub returns-then-this-eq-SEQUENCE_NUMBERS : goal.returns-then-this-eq-SEQUENCE_NUMBERS
returns-then-this-eq-SEQUENCE_NUMBERS g c n on =
    turned_64 g.row.NUMBERS c.args.number n c.rotate_left.result c.from-places.result c.if-this-eq-SEQUENCE_NUMBERS.true c.rotate_left.ensures c.from-places.ensures c.requires.on on

pub returns-else-this-eq-SEQUENCE_NUMBERS : goal.returns-else-this-eq-SEQUENCE_NUMBERS
returns-else-this-eq-SEQUENCE_NUMBERS g c n on =
    elim (circles g.row.NUMBERS c.requires.circle) [
      | inl same ↦ absurd (c.if-this-eq-SEQUENCE_NUMBERS.false same)
      | inr size ↦ turned_32 g.row.NUMBERS c.args.number n c.from.result c.from-places.result size (c.from.ensures ∙ c.rotate_left-else-this-eq-SEQUENCE_NUMBERS.ensures) c.from-places.ensures c.requires.on on
    ]
