-- The kind Watchdog, and its place among all kinds.
use Rattle.record_base.specs.declared.watchdog.SetWatchdog.{SetWatchdog}
use Rattle.record_base.specs.Kind.{Kind}
use Rattle.record_base.specs.Member.{Member}
use Rattle.record_base.specs.Reader.{Reader}
use Rattle.watch_boot.specs.declared.watchdog.WatchdogLimits.{WatchdogLimits}
use Rattle.watch_boot.specs.Watchdog.{watchdog_in, words, record_words, place}
use Rattle.watch_boot.specs.WatchdogLaws.{kind_laws, record_laws}

-- the words and the laws of the kind
abbrev pub kind : Kind (Unit {0}) SetWatchdog WatchdogLimits
kind = record { words = words; record_words = λ limits. record_words; kind_laws = kind_laws; record_laws = λ limits. record_laws }

-- the kind, and its place among all kinds
abbrev pub member : Member (Unit {0}) SetWatchdog WatchdogLimits
member = record { kind = kind; place = place }

-- the record and the operation that the data of the commands name
abbrev pub reader : Reader
reader = record { key_in = λ body. words.name tt; op_in = λ body. place.op (watchdog_in body) }
