-- What an operation makes of the data that a Get of its record shows.
use Rattle.std.specs.Prelude.{◌≡◌, ◌≢◌, ℕ, List, None}
use Rattle.record_base.specs.declared.op.Op.{Op}
use Rattle.record_kinds.specs.Limits.{inverse}
use Rattle.shown_records.specs.declared.meaning.Meaning.{Meaning}
use Rattle.shown_records.specs.declared.meaning.Meaning.TheVariants.{NotRestorable, Same, Changes}
use Rattle.shown_records.specs.After.{after_of}

-- no operation brings back what the Get shows, or one does, and behind the operation the Get shows the same data, or others
abbrev pub Means : Op → List ℕ → Meaning → Type 0
Means op shown NotRestorable = inverse op shown ≡ None
Means op shown Same = (inverse op shown ≢ None) × (after_of op shown ≡ shown)
Means op shown Changes = (inverse op shown ≢ None) × (after_of op shown ≢ shown)
