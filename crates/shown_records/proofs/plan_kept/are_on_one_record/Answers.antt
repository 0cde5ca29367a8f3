use Rattle.std.proofs.Common.{◌≡◌, ◌∙◌, true, sym, subst}
use Rattle.record_base.specs.declared.key.Key.{Key}
use Rattle.record_base.specs.Keys.{same_key}
use Rattle.record_base.specs.KeyLaws.{exact_key, same_key_self}
use Rattle.record_kinds.specs.Limits.{key_of}
use Rattle.shown_records.proofs.plan_kept.are_on_one_record.Goals as goal

pub returns : goal.returns
returns c =
    let is : c.is_same_record.result ≡ same_key (key_of c.args.first.now) (key_of c.args.second.now) =
    c.is_same_record.ensures ∙ (λ i. same_key (c.key-one.ensures i) (c.key-other.ensures i)) in (
      (λ (yes : c.is_same_record.result ≡ true). exact_key _ _ (sym is ∙ yes)),
      (λ (one : key_of c.args.first.now ≡ key_of c.args.second.now).
          is ∙ subst (λ (key : Key). same_key (key_of c.args.first.now) key ≡ true) one (same_key_self (key_of c.args.first.now))),
    )
