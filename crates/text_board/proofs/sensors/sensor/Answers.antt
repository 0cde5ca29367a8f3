use Rattle.std.proofs.Common.{Some, refl, sym, ap, ◌∙◌}
use Rattle.toml.specs.View.{view, table_view}
use Rattle.text_board.proofs.Events.{thresholds_held}
use Rattle.text_board.proofs.sensors.sensor.Goals as goal

pub byte-requires : goal.byte-requires
byte-requires c = rw c.requires refl

pub byte-requires-2 : goal.byte-requires-2
byte-requires-2 c = rw c.requires refl

pub value-requires : goal.value-requires
value-requires c = rw c.requires refl

pub unwrap-requires : goal.unwrap-requires
unwrap-requires c = c.thresholds.ensures.made ∙ rw c.requires at c.value.ensures.within

pub pair-requires-clause-always : goal.pair-requires-clause-always
pair-requires-clause-always c = rw c.requires refl

pub pair-requires-clause-pair : goal.pair-requires-clause-pair
pair-requires-clause-pair c = rw c.requires refl

pub returns : goal.returns
returns c =
    let thresholds = c.unwrap.ensures in
    record {
      numbered = c.byte.ensures.held;
      measures = c.byte-2.ensures.held;
      readable = rw thresholds at c.thresholds.ensures.readable;
      settable = rw thresholds at c.thresholds.ensures.settable;
      values = thresholds_held (table_view c.args.item.now.table.now) (view c.value.result.now) c.unwrap.result.values c.value.ensures.found c.unwrap.result.valid.six (rw thresholds at c.thresholds.ensures.values);
      hysteresis = c.pair.ensures ∙ ap Some (sym c.into.ensures);
      events = c.events.ensures;
    }
