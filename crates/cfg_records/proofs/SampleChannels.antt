-- The channels of the sample board, and what its users may do on them.
use Rattle.std.proofs.Common.{◌≡◌, ℕ, ◌≤◌, ◌&&◌, true, List, [], ◌∷◌, length, map, lit≤, refl, ap, arith}
use Rattle.std.specs.List.{list_all}
use Rattle.record_base.specs.BoardSizes.{most_channels}
use Rattle.record_base.specs.Distinct.{NamesDiffer}
use Rattle.record_base.specs.declared.channel.Channel.{Channel}
use Rattle.record_base.specs.Numbers.{ChannelNumber}
use Rattle.record_base.specs.declared.lan.Lan.{Lan}
use Rattle.record_base.specs.declared.user.User.{User}
use Rattle.record_base.specs.declared.user.UserAccess.{UserAccess}
use Rattle.cfg_records.specs.BoardChannels.{channel_numbers, is_channel, are_listed, on_numbers, each_user_on}
use Rattle.cfg_records.specs.Sample.{AreSampleUsers, AreSampleChannels, AreSampleAccesses}

-- one channel alone has a number that no other has
pub sample_apart : (channels : List Channel) (sessionless : List ChannelNumber) → AreSampleChannels channels → sessionless ≡ []
    → NamesDiffer (λ (number : ℕ). number) (channel_numbers channels sessionless)
sample_apart (c ∷ []) [] is none = λ i j d below within. absurd (omega (arith, below, within))
sample_apart (c ∷ []) (s ∷ sessionless) is none = absurd cc
sample_apart [] sessionless is none = absurd is
sample_apart (c ∷ e ∷ channels) sessionless is none = absurd is

pub sample_few : (channels : List Channel) (sessionless : List ChannelNumber) → AreSampleChannels channels → sessionless ≡ []
    → length (channel_numbers channels sessionless) ≤ most_channels
sample_few (c ∷ []) [] is none = lit≤ tt
sample_few (c ∷ []) (s ∷ sessionless) is none = absurd cc
sample_few [] sessionless is none = absurd is
sample_few (c ∷ e ∷ channels) sessionless is none = absurd is

-- its number is one that a channel can have
pub sample_known : (channels : List Channel) (sessionless : List ChannelNumber) → AreSampleChannels channels → sessionless ≡ []
    → list_all is_channel (channel_numbers channels sessionless) ≡ true
sample_known (c ∷ []) [] is none = ap (λ (n : ℕ). is_channel n && true) is.numbered
sample_known (c ∷ []) (s ∷ sessionless) is none = absurd cc
sample_known [] sessionless is none = absurd is
sample_known (c ∷ e ∷ channels) sessionless is none = absurd is

-- no LAN parameters are of another channel
pub sample_listed : (numbers : List ℕ) (lans : List Lan) → lans ≡ [] → are_listed numbers lans ≡ true
sample_listed numbers [] none = refl
sample_listed numbers (l ∷ lans) none = absurd cc

-- both users on the one channel
pub sample_each : (users : List User) (channels : List Channel) (accesses : List UserAccess) → AreSampleUsers users → AreSampleChannels channels → AreSampleAccesses accesses
    → map on_numbers accesses ≡ each_user_on channels users
sample_each (u ∷ v ∷ []) (c ∷ []) (a ∷ b ∷ []) users channels accesses =
    let u_is = users.0.numbered in
    let v_is = users.1.numbered in
    let c_is = channels.numbered in
    let a_on = accesses.0.channel in
    let a_of = accesses.0.numbered in
    let b_on = accesses.1.channel in
    let b_of = accesses.1.numbered in
    cc
sample_each [] channels accesses users _ _ = absurd users
sample_each (u ∷ []) channels accesses users _ _ = absurd users
sample_each (u ∷ v ∷ w ∷ more) channels accesses users _ _ = absurd users
sample_each (u ∷ v ∷ []) [] accesses _ channels _ = absurd channels
sample_each (u ∷ v ∷ []) (c ∷ e ∷ more) accesses _ channels _ = absurd channels
sample_each (u ∷ v ∷ []) (c ∷ []) [] _ _ accesses = absurd accesses
sample_each (u ∷ v ∷ []) (c ∷ []) (a ∷ []) _ _ accesses = absurd accesses
sample_each (u ∷ v ∷ []) (c ∷ []) (a ∷ b ∷ f ∷ more) _ _ accesses = absurd accesses
