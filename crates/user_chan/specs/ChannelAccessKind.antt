-- The kind ChannelAccess, and its place among all kinds.
use Rattle.record_base.specs.declared.channel.StoredAccess.{StoredAccess}
use Rattle.record_base.specs.declared.channel.SetChannelAccess.{SetChannelAccess}
use Rattle.record_base.specs.Kind.{Kind}
use Rattle.record_base.specs.Member.{Member}
use Rattle.user_chan.specs.declared.channel_access.ChannelAccessLimits.{ChannelAccessLimits}
use Rattle.user_chan.specs.ChannelAccess.{words, record_words, place}
use Rattle.user_chan.specs.ChannelAccessLaws.{kind_laws, record_laws}

-- the words and the laws of the kind
abbrev pub kind : Kind StoredAccess SetChannelAccess ChannelAccessLimits
kind = record { words = words; record_words = λ limits. record_words; kind_laws = kind_laws; record_laws = λ limits. record_laws }

-- the kind, and its place among all kinds
abbrev pub member : Member StoredAccess SetChannelAccess ChannelAccessLimits
member = record { kind = kind; place = place }
