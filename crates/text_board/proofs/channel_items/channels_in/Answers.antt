use Rattle.std.proofs.Common.{map, ap}
use Rattle.toml.specs.View.{view}
use Rattle.record_base.specs.Numbers.{ChannelNumber}
use Rattle.text_fields.specs.Ranges.{or_zero}
use Rattle.text_board.specs.Holds.{IsNumberIn, channel_of}
use Rattle.text_board.proofs.ChannelLists.{differ_back}
use Rattle.text_board.proofs.channel_items.channels_in.Goals as goal

pub split-requires-clause-differ : goal.split-requires-clause-differ
split-requires-clause-differ c =
    differ_back IsNumberIn channel_of (λ (channel : ChannelNumber). channel.number) (λ d channel holds. ap or_zero holds) (map view c.args.values.now) c.in_ok-_numbers._numbers.items c.in_ok-_numbers.ensures.held c.in_ok-_numbers.ensures.differ
