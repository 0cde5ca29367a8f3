-- The kind to which every record belongs.
use Rattle.record_base.specs.declared.key.Key.{Key}
use Rattle.record_base.specs.declared.op.Op.{Op}
use Rattle.record_base.specs.Kind.{Kind}
use Rattle.record_kinds.specs.declared.limits.Limits.{Limits}
use Rattle.record_kinds.specs.Limits.{words, record_words}
use Rattle.record_kinds.specs.LimitsLaws.{kind_laws, record_laws}

-- the words and the laws of the kind
abbrev pub kind : Kind Key Op Limits
kind = record { words = words; record_words = record_words; kind_laws = kind_laws; record_laws = record_laws }
