use Rattle.std.proofs.Common.{◌≡◌, ◌∙◌, ◌+◌, ◌++◌, [], ◌∷◌, ℕ, map, sym, ap, subst, add-one, arith}
use Rattle.std.specs.List.{range_with_len}
use Rattle.record_base.specs.declared.key.Key.TheVariants.{UserName}
use Rattle.record_base.specs.Numbers.{UserNumber}
use Rattle.app_show.specs.Keys.{user_key}
use Rattle.app_show.proofs.Pushed.{key_more}
use Rattle.app_show.proofs.keys.name_keys.Goals as goal

pub loop-before-preserved : goal.loop-before-preserved
loop-before-preserved c =
    subst (λ (n : ℕ). c.push.new.self.items ≡ map user_key (range_with_len 1 n)) (sym (add-one c.loop-before.before))
    (key_more user_key c.loop-before.keys.items c.push.new.self.items 1 c.loop-before.before (c.loop-before.before + 1) c.loop-before.invariant
    (c.in_ok-push.ensures.items ∙ ap (λ (user : UserNumber). c.loop-before.keys.items ++ UserName user ∷ []) c.of.ensures) (omega arith))
