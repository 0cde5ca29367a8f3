use Rattle.toml.specs.View.{table_view}
use Rattle.text_board.proofs.ChannelFields.{number_below}
use Rattle.text_board.proofs.channel_items.ChannelReaderArrayReader.read.Goals as goal

pub channel_in-requires : goal.channel_in-requires
channel_in-requires c = number_below c.args.self.now.users (table_view c.args.table.now) c.in_ok-check_channel.ensures.ok
