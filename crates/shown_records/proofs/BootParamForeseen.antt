-- What is foreseen of a boot parameter.
use Rattle.std.proofs.Common.{◌≡◌, ℕ, List, ◌∷◌, ◌++◌, ◌==◌, Bool, true, false, refl, ◌∙◌, ap, subst}
use Rattle.two_wire.specs.Codes.{invalid_data_field}
use Rattle.record_base.specs.declared.boot_param.BootParameter.{BootParameter}
use Rattle.record_base.specs.declared.boot_param.BootParameter.TheVariants as parameter
use Rattle.record_base.specs.declared.boot_param.BootChange.{BootChange}
use Rattle.record_base.specs.declared.boot_param.BootChange.TheVariants.{MarkAlone, ValidBitClearing, InfoAcknowledge, Flags}
use Rattle.record_base.specs.declared.boot_param.SetBootParam.{SetBootParam}
use Rattle.record_base.specs.BootParam.{parameter_of}
use Rattle.watch_boot.specs.BootParam.{same_parameter, mark_of, body_of, before_body, body_after, marked, boot_view, SetsBootParam, words, record_words}
use Rattle.watch_boot.specs.BootParamLaws.{exact_parameter, record_laws}
use Rattle.shown_records.specs.Settings.{after_boot_param, boot_data_after}
use Rattle.shown_records.proofs.Foreseen.{IsForeseen, made_only, whole_foreseen}

new_is : (p : BootParameter) (op : SetBootParam) (old new : List ℕ) → SetsBootParam p op old new → new ≡ mark_of op.invalid ∷ body_after op.change old
new_is p op old new done =
    made_only (same_parameter (parameter_of op.change) p) (mark_of op.invalid ∷ body_after op.change old) invalid_data_field (SetsBootParam p op old) new
    ((record_laws p).decides op old) ((record_laws p).determined op old) done

same_mark : (invalid : Bool) (p : BootParameter) → marked (mark_of invalid == 1) p ≡ marked invalid p
same_mark true p = refl
same_mark false p = refl

-- the data behind the selector, of the parameter that the change changes
same_data : (change : BootChange) (mark : ℕ) (old : List ℕ)
    → before_body (parameter_of change) ++ body_of (parameter_of change) (mark ∷ body_after change old) ≡ boot_data_after change (boot_view (parameter_of change) old)
same_data (MarkAlone parameter.ValidBitClearing) mark old = refl
same_data (MarkAlone parameter.InfoAcknowledge) mark old = refl
same_data (MarkAlone parameter.Flags) mark old = refl
same_data (ValidBitClearing byte) mark old = refl
same_data (InfoAcknowledge masked) mark old = refl
same_data (Flags flags) mark old = refl

same_parts : (a b c : ℕ) (xs ys : List ℕ) → b ≡ c → xs ≡ ys → a ∷ b ∷ xs ≡ a ∷ c ∷ ys
same_parts a b c xs ys p q i = a ∷ p i ∷ q i

made_view : (op : SetBootParam) (old : List ℕ) → boot_view (parameter_of op.change) (mark_of op.invalid ∷ body_after op.change old) ≡ after_boot_param op (boot_view (parameter_of op.change) old)
made_view op old = same_parts 1 _ _ _ _ (same_mark op.invalid (parameter_of op.change)) (same_data op.change (mark_of op.invalid) old)

foresees : (p : BootParameter) (op : SetBootParam) (old new : List ℕ) → SetsBootParam p op old new → boot_view p new ≡ after_boot_param op (boot_view p old)
foresees p op old new done =
    ap (boot_view p) (new_is p op old new done)
    ∙ subst (λ (q : BootParameter). boot_view q (mark_of op.invalid ∷ body_after op.change old) ≡ after_boot_param op (boot_view q old)) (exact_parameter (parameter_of op.change) p done.of_it) (made_view op old)

pub foreseen : (p : BootParameter) → IsForeseen words (record_words p) after_boot_param
foreseen p = whole_foreseen words (record_words p) after_boot_param (record_laws p) (λ value. refl) (λ op old new live is_valid done. foresees p op old new done)
