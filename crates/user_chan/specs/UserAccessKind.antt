-- The kind UserAccess, and its place among all kinds.
use Rattle.record_base.specs.declared.user.UserOnChannel.{UserOnChannel}
use Rattle.record_base.specs.declared.user.SetUserAccess.{SetUserAccess}
use Rattle.record_base.specs.Kind.{Kind}
use Rattle.record_base.specs.Member.{Member}
use Rattle.record_base.specs.Reader.{Reader}
use Rattle.record_base.specs.Requests.{byte_at}
use Rattle.record_base.specs.Numbers.{user_on}
use Rattle.user_chan.specs.declared.user_access.UserAccessLimits.{UserAccessLimits}
use Rattle.user_chan.specs.UserAccess.{access_in, words, record_words, place}
use Rattle.user_chan.specs.UserAccessLaws.{kind_laws, record_laws}

-- the words and the laws of the kind
abbrev pub kind : Kind UserOnChannel SetUserAccess UserAccessLimits
kind = record { words = words; record_words = record_words; kind_laws = kind_laws; record_laws = record_laws }

-- the kind, and its place among all kinds
abbrev pub member : Member UserOnChannel SetUserAccess UserAccessLimits
member = record { kind = kind; place = place }

-- the record and the operation that the data of the commands name
abbrev pub reader : Reader
reader = record { key_in = λ body. words.name (user_on (byte_at body 0) (byte_at body 1)); op_in = λ body. place.op (access_in body) }
