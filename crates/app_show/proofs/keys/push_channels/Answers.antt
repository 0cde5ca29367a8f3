use Rattle.std.proofs.Common.{arith}
use Rattle.app_show.specs.Keys.{channel_keys}
use Rattle.app_show.proofs.Pushed.{keys_to}
use Rattle.app_show.proofs.keys.push_channels.Goals as goal

pub loop-place-preserved : goal.loop-place-preserved
loop-place-preserved c =
    keys_to channel_keys c.args.keys.now.items c.loop-place.keys.items c.push_channel.new.keys.items c.args.numbers.now c.loop-place.place _ (omega arith) c.loop-place.invariant
    c.in_ok-push_channel.ensures
