-- The kind UserName, and its place among all kinds.
use Rattle.record_base.specs.declared.user.SetUserName.{SetUserName}
use Rattle.record_base.specs.Kind.{Kind}
use Rattle.record_base.specs.Member.{Member}
use Rattle.record_base.specs.Reader.{Reader}
use Rattle.record_base.specs.Requests.{byte_at}
use Rattle.record_base.specs.Numbers.{UserNumber, user_in}
use Rattle.user_chan.specs.declared.user_name.UserNameLimits.{UserNameLimits}
use Rattle.user_chan.specs.UserNames.{name_in, words, record_words, place}
use Rattle.user_chan.specs.UserNamesLaws.{kind_laws, record_laws}

-- the words and the laws of the kind
abbrev pub kind : Kind UserNumber SetUserName UserNameLimits
kind = record { words = words; record_words = λ limits. record_words; kind_laws = kind_laws; record_laws = λ limits. record_laws }

-- the kind, and its place among all kinds
abbrev pub member : Member UserNumber SetUserName UserNameLimits
member = record { kind = kind; place = place }

-- the record and the operation that the data of the commands name
abbrev pub reader : Reader
reader = record { key_in = λ body. words.name (user_in (byte_at body 0)); op_in = λ body. place.op (name_in body) }
