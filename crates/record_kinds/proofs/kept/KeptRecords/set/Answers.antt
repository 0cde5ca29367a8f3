use Rattle.std.proofs.Common.{◌≡◌, List, ℕ, length, refl, sym, ◌∙◌, ap, subst}
use Rattle.std.specs.Bool.{IsTrue}
use Rattle.record_base.specs.Keys.{is_length}
use Rattle.record_base.specs.declared.op.Op.{Op}
use Rattle.cfg_records.specs.Records.{Records, with_record}
use Rattle.record_kinds.specs.Limits.{key_of}
use Rattle.record_kinds.specs.LimitsLaws as laws
use Rattle.record_kinds.specs.Sound.{AreSoundRecords}
use Rattle.record_kinds.specs.SoundLaws.{sound_with}
use Rattle.record_kinds.proofs.Written.{IsWritten, written}
use Rattle.record_kinds.proofs.kept.KeptRecords.set.Goals as goal

pub write-requires : goal.write-requires
write-requires g c =
    let setup = c.args.setup.now in
    let op : Op = c.args.op.now in
    let new : List ℕ = c.try_set.new.made in
    let is : IsWritten setup op new = written setup (g.S.Store.records c.args.self.now.store) _ _ _ op new refl refl c.requires.sound (sym c.in_ok-place.ensures.made) in
    let fits : IsTrue (is_length (key_of op) (length new)) = (laws.record_laws is.limits).fits op is.old new is.is_set in
    (key_of op, c.in_ok-place.ensures.place, subst (λ (v : List ℕ). IsTrue (is_length (key_of op) (length v))) (sym c.as_slice.ensures.value) fits)

-- the new value is one that its record's limits allow
pub returns-clause-still : goal.returns-clause-still
returns-clause-still g c =
    let setup = c.args.setup.now in
    let op : Op = c.args.op.now in
    let new : List ℕ = c.try_set.new.made in
    let records : Records = g.S.Store.records c.args.self.now.store in
    let is : IsWritten setup op new = written setup records _ _ _ op new refl refl c.requires.sound (sym c.in_ok-place.ensures.made) in
    let wrote : g.S.Store.records c.write.new.self ≡ with_record records (key_of op) new = c.write.ensures.records (key_of op) c.in_ok-place.ensures.place ∙ ap (with_record records (key_of op)) c.as_slice.ensures.value in
    let is_sound : AreSoundRecords setup (with_record records (key_of op) new) = sound_with setup records (key_of op) is.limits new c.requires.sound is.at is.is_valid in
    subst (AreSoundRecords setup) (sym wrote) is_sound
