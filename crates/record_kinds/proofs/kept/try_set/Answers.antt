use Rattle.std.proofs.Common.{◌≡◌, Some, sym, ◌∙◌, subst}
use Rattle.record_base.specs.declared.key.Key.{Key}
use Rattle.record_kinds.specs.Limits.{key_of, is_of, valid, limits_at}
use Rattle.record_kinds.specs.SoundLaws.{valid_at}
use Rattle.record_kinds.proofs.LimitsOf.{limits_are_of}
use Rattle.record_kinds.proofs.kept.try_set.Goals as goal

pub apply-requires : goal.apply-requires
apply-requires g c =
    let file = c.args.setup.now in
    let key : Key = c.key-key.result in
    let limits = c.in-Some.limits in
    let at : limits_at file key ≡ Some limits = sym c.limits.ensures ∙ c.in-Some.is in
    let had : g.S.Store.records c.args.store.now key ≡ Some c.value.result.now = c.value.ensures key (sym c.find.ensures.place ∙ c.in-Some-find.is) in
    let of_record : is_of limits (key_of c.args.op.now) = subst (λ (k : Key). is_of limits k) c.key-key.ensures (limits_are_of file key limits at) in
    let is_valid : valid limits c.value.result.now = valid_at _ _ limits c.value.result.now at had (c.requires key) in
    record { of_record = of_record; is_valid = is_valid }
