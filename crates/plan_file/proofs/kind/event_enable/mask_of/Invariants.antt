use Rattle.std.proofs.Common.{◌≡◌, ℕ, take}
use Rattle.std.specs.List.{list_any}
use Rattle.record_base.specs.Masks.{has}
use Rattle.toml.specs.View.{view}
use Rattle.text_fields.specs.Ranges.{is_number}
use Rattle.plan_file.proofs.kind.event_enable.mask_of.Given as goal

abbrev pub invariant-loop-offset : goal.invariant-loop-offset
invariant-loop-offset l = (offset : ℕ) → has l.mask offset ≡ list_any (λ value. is_number offset (view value)) (take l.offset-index l.offsets)
