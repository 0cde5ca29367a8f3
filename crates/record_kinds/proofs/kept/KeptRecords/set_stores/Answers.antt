use Rattle.std.proofs.Common.{◌≡◌, List, ℕ, Some, refl, ap, sym, ◌∙◌, subst}
use Rattle.cfg_records.specs.Records.{Records, with_record}
use Rattle.record_base.specs.declared.op.Op.{Op}
use Rattle.record_base.specs.declared.op.Op.TheVariants as of_kind
use Rattle.record_kinds.specs.Limits.{key_of}
use Rattle.record_kinds.specs.Sound.{AreSoundRecords}
use Rattle.record_kinds.specs.SoundLaws.{sound_with}
use Rattle.record_kinds.proofs.Written.{IsWritten, written}
use Rattle.record_kinds.proofs.kept.KeptRecords.set_stores.Goals as goal

-- both new values are ones that their records' limits allow
pub returns-clause-still : goal.returns-clause-still
returns-clause-still g c =
    let setup = c.args.setup.now in
    let sound : AreSoundRecords setup (g.S.Store.records c.args.self.now.store) = c.requires.sound in
    let first : Op = of_kind.ChannelAccess c.args.first.now in
    let second : Op = of_kind.ChannelAccess c.args.second.now in
    let x : List ℕ = c.try_set.new.made in
    let y : List ℕ = c.try_set-2.new.made in
    let records : Records = g.S.Store.records c.args.self.now.store in
    let one : IsWritten setup first x = written setup records _ _ _ first x refl refl sound (sym c.in_ok-place.ensures.made) in
    let two : IsWritten setup second y = written setup records _ _ _ second y refl refl sound (sym c.in_ok-other.ensures.made) in
    let other_at : g.S.Store.places c.write.new.self (key_of second) ≡ Some c.in_ok-other.other = ap (λ p. p (key_of second)) c.write.ensures.places ∙ c.in_ok-other.ensures.place in
    let made : c.as_slice-2.result.now ≡ x = c.as_slice-2.ensures.value ∙ c.from_slice-made.ensures ∙ c.as_slice.ensures.value in
    let wrote : g.S.Store.records c.write.new.self ≡ with_record records (key_of first) x = c.write.ensures.records (key_of first) c.in_ok-place.ensures.place ∙ ap (with_record records (key_of first)) made in
    let wrote_both : g.S.Store.records c.write-2.new.self ≡ with_record (with_record records (key_of first) x) (key_of second) y =
    c.write-2.ensures.records (key_of second) other_at ∙ (λ i. with_record (wrote i) (key_of second) (c.as_slice-3.ensures.value i)) in
    let is_sound : AreSoundRecords setup (with_record (with_record records (key_of first) x) (key_of second) y) =
    sound_with setup (with_record records (key_of first) x) (key_of second) two.limits y (sound_with setup records (key_of first) one.limits x sound one.at one.is_valid) two.at two.is_valid in
    subst (AreSoundRecords setup) (sym wrote_both) is_sound
