-- What sets a boot parameter to what its Get shows.
use Rattle.std.proofs.Common.{◌≡◌, ℕ, zero, suc, ◌<◌, List, length, ◌==◌, true, false, Some, None, if◌then◌else◌, refl, ap, arith}
use Rattle.record_base.specs.declared.boot_param.BootParameter.{BootParameter}
use Rattle.record_base.specs.declared.boot_param.BootParameter.TheVariants as parameter
use Rattle.record_base.specs.BootParam.{parameter_of}
use Rattle.record_base.specs.Masks.{has}
use Rattle.watch_boot.specs.BootParam.{SetsBootParam, reply_length, undo_boot, words, record_words}
use Rattle.watch_boot.specs.BootParamLaws.{record_laws}
use Rattle.shown_records.specs.Probes.{probe_boot, probe_boot_change}
use Rattle.shown_records.proofs.SetBack.{IsSetBack, any_values, set_back_by}

-- FFh has each place of a byte
all_places : (place : ℕ) → place < 8 → has 0xFF place ≡ false → ⊥
all_places zero lt gone = cc
all_places (suc zero) lt gone = cc
all_places (suc (suc zero)) lt gone = cc
all_places (suc (suc (suc zero))) lt gone = cc
all_places (suc (suc (suc (suc zero)))) lt gone = cc
all_places (suc (suc (suc (suc (suc zero))))) lt gone = cc
all_places (suc (suc (suc (suc (suc (suc zero)))))) lt gone = cc
all_places (suc (suc (suc (suc (suc (suc (suc zero))))))) lt gone = cc
all_places (suc (suc (suc (suc (suc (suc (suc (suc place)))))))) lt gone = omega arith

-- what takes the change of all data back takes itself back
again : (asked : BootParameter) (reply : List ℕ) → (length reply == reply_length (parameter_of (probe_boot_change asked))) ≡ true
    → words.inverse (undo_boot (probe_boot asked) reply) reply ≡ Some (undo_boot (probe_boot asked) reply)
again parameter.ValidBitClearing reply holds = ap (λ b. if b then Some (undo_boot (probe_boot parameter.ValidBitClearing) reply) else None) holds
again parameter.InfoAcknowledge reply holds = ap (λ b. if b then Some (undo_boot (probe_boot parameter.InfoAcknowledge) reply) else None) holds
again parameter.Flags reply holds = ap (λ b. if b then Some (undo_boot (probe_boot parameter.Flags) reply) else None) holds

-- and makes the same whatever the old data are
moves : (p asked : BootParameter) (reply one other made : List ℕ) → SetsBootParam p (undo_boot (probe_boot asked) reply) one made → SetsBootParam p (undo_boot (probe_boot asked) reply) other made
moves p parameter.ValidBitClearing reply one other made done = record { of_it = done.of_it; body = done.body; all = done.all; changed = done.changed }
moves p parameter.InfoAcknowledge reply one other made done = record {
  of_it = done.of_it;
  body = done.body;
  all = done.all;
  changed = (
    done.changed.0,
    record { byte = done.changed.1.byte; written = done.changed.1.written; others = λ place lt gone. absurd (all_places place lt gone) },
  );
}
moves p parameter.Flags reply one other made done = record { of_it = done.of_it; body = done.body; all = done.all; changed = done.changed }

pub set_back : (p : BootParameter) → IsSetBack words (record_words p) (λ asked shown. probe_boot asked) any_values
set_back p =
    set_back_by words (record_words p) (record_laws p) _ (λ asked reply. length reply == reply_length (parameter_of (probe_boot_change asked))) (λ asked reply. undo_boot (probe_boot asked) reply) (λ asked reply. refl)
    again (λ asked reply one other made holds. moves p asked reply one other made)
