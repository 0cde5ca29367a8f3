use Rattle.std.proofs.Common.{◌≡◌, ◌≢◌, ◌≤◌, map, length, not, ap, arith}
use Rattle.std.proofs.lemmas.List.{length-map}
use Rattle.std.proofs.lemmas.List.Kept.{AllPairs-filter}
use Rattle.std.proofs.lemmas.Slice.Zip.{AllZip-long}
use Rattle.std.specs.List.{AllZip}
use Rattle.toml.specs.Data.{Data}
use Rattle.toml.specs.View.{view}
use Rattle.record_base.specs.declared.channel.Channel.{Channel}
use Rattle.record_base.specs.Numbers.{ChannelNumber}
use Rattle.text_fields.specs.Ranges.{or_zero}
use Rattle.text_board.specs.Holds.{IsChannelIn, IsNumberIn, serves, with_sessions, without_sessions, channel_of}
use Rattle.text_board.proofs.ChannelLists.{differ_zip, filter_few, accesses_differ, accesses_few}
use Rattle.text_board.proofs.ChannelFields.{each_sound, few_users}
use Rattle.text_board.proofs.BoardChannels.{numbers_apart, numbers_long}
use Rattle.text_board.proofs.channel_items.split.Goals as goal

pub unwrap-requires : goal.unwrap-requires
unwrap-requires c =
    let ds = map view c.args.values.now in
    let channels = c.in_ok-channels.channels.items in
    let kept = AllPairs-filter (λ (a b : Data). channel_of a ≢ channel_of b) serves ds c.requires.differ in
    let differ = differ_zip IsChannelIn channel_of (λ (channel : Channel). channel.number.number) (λ d channel holds. ap or_zero holds.numbered) (with_sessions ds) channels c.in_ok-channels.ensures.held kept in
    let long = AllZip-long IsChannelIn (with_sessions ds) channels c.in_ok-channels.ensures.held in
    let few = filter_few serves ds in
    let all = length-map c.args.values.now view in
    c.new.ensures.made.1 (differ, omega (arith, long, few, all, c.requires.most))

pub unwrap-requires-2 : goal.unwrap-requires-2
unwrap-requires-2 c =
    let ds = map view c.args.values.now in
    let lacks = λ (d : Data). not (serves d) in
    let channels = c.in_ok-sessionless.sessionless.items in
    let kept = AllPairs-filter (λ (a b : Data). channel_of a ≢ channel_of b) lacks ds c.requires.differ in
    let differ = differ_zip IsNumberIn channel_of (λ (channel : ChannelNumber). channel.number) (λ d channel holds. ap or_zero holds) (without_sessions ds) channels c.in_ok-sessionless.ensures.held kept in
    let long = AllZip-long IsNumberIn (without_sessions ds) channels c.in_ok-sessionless.ensures.held in
    let few = filter_few lacks ds in
    let all = length-map c.args.values.now view in
    c.new-2.ensures.made.1 (differ, omega (arith, long, few, all, c.requires.most))

pub unwrap-requires-3 : goal.unwrap-requires-3
unwrap-requires-3 c =
    let ds = map view c.args.values.now in
    let accesses = c.in_ok-accesses.accesses.items in
    let told = c.in_ok-accesses.ensures.held in
    let users = few_users c.args.users ds c.requires.few (each_sound c.args.users ds c.requires.sound) in
    let kept = AllPairs-filter (λ (a b : Data). channel_of a ≢ channel_of b) serves ds c.requires.differ in
    let few = filter_few serves ds in
    let all = length-map c.args.values.now view in
    let most : length (with_sessions ds) ≤ 8 = omega (arith, few, all, c.requires.most) in
    c.new-3.ensures.made.1 (accesses_differ (with_sessions ds) accesses users kept told, accesses_few (with_sessions ds) accesses users most told)

pub invariant_of-result : goal.invariant_of-result
invariant_of-result c =
    let ds = map view c.args.values.now in
    let channels : c.unwrap.result.items ≡ c.in_ok-channels.channels.items = rw c.unwrap.ensures at c.new.ensures.items in
    let others : c.unwrap-2.result.items ≡ c.in_ok-sessionless.sessionless.items = rw c.unwrap-2.ensures at c.new-2.ensures.items in
    let with : AllZip IsChannelIn (with_sessions ds) c.unwrap.result.items = rw channels c.in_ok-channels.ensures.held in
    let without : AllZip IsNumberIn (without_sessions ds) c.unwrap-2.result.items = rw others c.in_ok-sessionless.ensures.held in
    let long = numbers_long ds c.unwrap.result.items c.unwrap-2.result.items with without in
    let all = length-map c.args.values.now view in
    record {
      apart = numbers_apart ds c.unwrap.result.items c.unwrap-2.result.items with without c.requires.differ;
      few = omega (arith, long, all, c.requires.most);
    }
