-- A table holds one step that sets a boot parameter, at most.
use Rattle.std.proofs.Common.{◌≡◌, ◌∙◌, ℕ, List, Option, Some, None, refl, sym, ap}
use Rattle.std.proofs.lemmas.Option.{same_Some}
use Rattle.toml.specs.Data.{Data, Members}
use Rattle.record_base.specs.BootParam.{selector, parameter_at, parameter_of, change_bytes}
use Rattle.record_base.specs.declared.op.Op.TheVariants as op
use Rattle.record_base.specs.declared.boot_param.BootParameter.{BootParameter}
use Rattle.record_base.specs.declared.boot_param.BootParameter.TheVariants as parameter
use Rattle.record_base.specs.declared.boot_param.BootChange.{BootChange}
use Rattle.record_base.specs.declared.boot_param.BootChange.TheVariants as boot
use Rattle.record_base.specs.declared.boot_param.SetBootParam.{SetBootParam}
use Rattle.text_fields.specs.declared.field.Field.TheVariants as field
use Rattle.text_fields.specs.Trees.{in_field, flag_in}
use Rattle.plan_file.specs.Kinds.BootParam.{IsGivenData, HoldsBootChange, HoldsBootParam, HoldsOp}
use Rattle.text_fields.proofs.Unique.{one_found, one_number, one_bytes, same_flags}
use Rattle.plan_file.specs.StepKind.{IsOne}

one_given : (found : Option Data) (ms ns : List ℕ) → IsGivenData found ms → IsGivenData found ns → ms ≡ ns
one_given None ms ns p q = p ∙ sym q
one_given (Some d) ms ns p q = one_bytes d ms ns p q

selected : (named : BootParameter) → parameter_at (selector named) ≡ Some named
selected parameter.ValidBitClearing = refl
selected parameter.InfoAcknowledge = refl
selected parameter.Flags = refl

one_selected : (a b : BootParameter) → selector a ≡ selector b → a ≡ b
one_selected a b e = same_Some a b (sym (selected a) ∙ ap parameter_at e ∙ selected b)

one_bytes_of : (a b : BootChange) → parameter_of a ≡ parameter_of b → change_bytes a ≡ change_bytes b → a ≡ b
one_bytes_of (boot.MarkAlone m) (boot.MarkAlone n) p q = ap boot.MarkAlone p
one_bytes_of (boot.MarkAlone m) (boot.ValidBitClearing b) p q = cc
one_bytes_of (boot.MarkAlone m) (boot.InfoAcknowledge b) p q = cc
one_bytes_of (boot.MarkAlone m) (boot.Flags b) p q = cc
one_bytes_of (boot.ValidBitClearing a) (boot.MarkAlone n) p q = cc
one_bytes_of (boot.ValidBitClearing a) (boot.ValidBitClearing b) p q = let same : a ≡ b = cc q in ap boot.ValidBitClearing same
one_bytes_of (boot.ValidBitClearing a) (boot.InfoAcknowledge b) p q = cc
one_bytes_of (boot.ValidBitClearing a) (boot.Flags b) p q = cc
one_bytes_of (boot.InfoAcknowledge a) (boot.MarkAlone n) p q = cc
one_bytes_of (boot.InfoAcknowledge a) (boot.ValidBitClearing b) p q = cc
one_bytes_of (boot.InfoAcknowledge a) (boot.InfoAcknowledge b) p q =
    let mask : a.mask ≡ b.mask = cc q in
    let bits : a.bits ≡ b.bits = cc q in
    λ i. boot.InfoAcknowledge (record { mask = mask i; bits = bits i })
one_bytes_of (boot.InfoAcknowledge a) (boot.Flags b) p q = cc
one_bytes_of (boot.Flags a) (boot.MarkAlone n) p q = cc
one_bytes_of (boot.Flags a) (boot.ValidBitClearing b) p q = cc
one_bytes_of (boot.Flags a) (boot.InfoAcknowledge b) p q = cc
one_bytes_of (boot.Flags a) (boot.Flags b) p q = ap boot.Flags (same_flags a b q)

one_boot_change : (tree : Members) (a b : BootChange) → HoldsBootChange tree a → HoldsBootChange tree b → a ≡ b
one_boot_change tree a b p q =
    let named = one_number field.Param tree (selector (parameter_of a)) (selector (parameter_of b)) p.named q.named in
    one_bytes_of a b (one_selected (parameter_of a) (parameter_of b) named) (one_given (in_field field.BootData tree) (change_bytes a) (change_bytes b) p.given q.given)

one : (tree : Members) (a b : SetBootParam) → HoldsBootParam tree a → HoldsBootParam tree b → a ≡ b
one tree a b p q =
    let invalid = one_found (flag_in field.Invalid tree) a.invalid b.invalid p.invalid q.invalid in
    let change = one_boot_change tree a.change b.change p.change q.change in
    λ i. record { invalid = invalid i; change = change i }

-- the operation that such a step holds is one
pub only : IsOne HoldsOp
only tree = elim [ op.BootParam a ↦ elim [ op.BootParam b ↦ λ p q. ap op.BootParam (one tree a b p q) | _ ↦ λ p q. absurd q ] | _ ↦ λ b p. absurd p ]
