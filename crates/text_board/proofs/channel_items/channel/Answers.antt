use Rattle.toml.specs.View.{table_view}
use Rattle.text_board.specs.Faults.{session_rows}
use Rattle.text_fields.proofs.Rows.{all_sound}
use Rattle.text_board.proofs.ChannelFields.{channel_below}
use Rattle.text_board.proofs.channel_items.channel.Goals as goal

pub channel_in-requires : goal.channel_in-requires
channel_in-requires c = channel_below (table_view c.args.table.now) (all_sound (session_rows c.args.users) (table_view c.args.table.now) c.requires).0
