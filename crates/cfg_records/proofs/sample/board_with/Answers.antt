use Rattle.std.proofs.Common.{◌≡◌, [], rules}
use Rattle.cfg_records.specs.BoardChannels.{channel_numbers}
use Rattle.cfg_records.proofs.SampleChannels.{sample_apart, sample_few, sample_known, sample_listed, sample_each}
use Rattle.cfg_records.proofs.sample.board_with.Goals as goal

pub invariant_of-result-4 : goal.invariant_of-result-4
invariant_of-result-4 c =
    let accounts = c.args.accounts in
    let is = c.requires in
    let sessionless = c.no_items-3.result.items in
    let lans = c.no_items-4.result.items in
    let none : sessionless ≡ [] = search rules in
    let no_lans : lans ≡ [] = search rules in
    record {
      apart = sample_apart accounts.channels.items sessionless is.channels none;
      few = sample_few accounts.channels.items sessionless is.channels none;
      known = sample_known accounts.channels.items sessionless is.channels none;
      listed = sample_listed (channel_numbers accounts.channels.items sessionless) lans no_lans;
      each = sample_each accounts.users.items accounts.channels.items accounts.user_accesses.items is.users is.channels is.accesses;
    }
