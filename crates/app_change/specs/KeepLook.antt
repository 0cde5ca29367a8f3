-- The look by which it is known which steps of a plan are kept.
use Rattle.std.specs.Prelude.{◌≡◌, List, Result, map}
use Rattle.std.specs.declared.alloc.AllocError.{AllocError}
use Rattle.record_base.specs.declared.key.Key.{Key}
use Rattle.record_base.specs.declared.op.Op.{Op}
use Rattle.record_kinds.specs.Limits.{key_of}
use Rattle.report_words.specs.declared.table_names.Names.{Names}
use Rattle.app_look.specs.declared.records.Found.{Found}
use Rattle.app_look.specs.declared.records.LookFault.{LookFault}
use Rattle.app_look.specs.declared.session.Way.{Way}
use Rattle.app_look.specs.Findings.{FailsOver}
use Rattle.app_look.specs.Reading.{FindsWithNames}
use Rattle.app_change.specs.Kept.{kept_of}

-- the records of the steps, one for each step
abbrev pub records_of : (steps : List Op) → List Key
records_of = map key_of

-- The controller was greeted, and the record of each step was looked at; behind that these names were read. Those steps are kept that are, by what was
-- found.
abbrev pub KeptByLook : Way → (steps kept : List Op) → Result Names AllocError → Type 0
KeptByLook way steps kept names = (found : List Found) × FindsWithNames way (records_of steps) found names × (kept ≡ kept_of steps found)

-- or not each was
abbrev pub FailsFor : Way → (steps : List Op) → LookFault → Type 0
FailsFor way steps = FailsOver way (records_of steps)
