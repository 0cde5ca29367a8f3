-- The kind PowerPolicy, and its place among all kinds.
use Rattle.record_base.specs.declared.power_policy.SetPowerPolicy.{SetPowerPolicy}
use Rattle.record_base.specs.Kind.{Kind}
use Rattle.record_base.specs.Member.{Member}
use Rattle.record_base.specs.Reader.{Reader}
use Rattle.watch_boot.specs.declared.power_policy.PowerPolicyLimits.{PowerPolicyLimits}
use Rattle.watch_boot.specs.PowerPolicy.{policy_in, words, record_words, place}
use Rattle.watch_boot.specs.PowerPolicyLaws.{kind_laws, record_laws}

-- the words and the laws of the kind
abbrev pub kind : Kind (Unit {0}) SetPowerPolicy PowerPolicyLimits
kind = record { words = words; record_words = λ limits. record_words; kind_laws = kind_laws; record_laws = λ limits. record_laws }

-- the kind, and its place among all kinds
abbrev pub member : Member (Unit {0}) SetPowerPolicy PowerPolicyLimits
member = record { kind = kind; place = place }

-- the record and the operation that the data of the commands name
abbrev pub reader : Reader
reader = record { key_in = λ body. words.name tt; op_in = λ body. place.op (policy_in body) }
