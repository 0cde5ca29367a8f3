use Rattle.std.proofs.Common.{◌≡◌, ◌∙◌, ◌+◌, ◌++◌, [], ◌∷◌, ℕ, map, sym, ap, subst, add-one, arith}
use Rattle.std.specs.List.{range_with_len}
use Rattle.record_base.specs.declared.key.Key.{Key}
use Rattle.app_show.specs.Keys.{access_key}
use Rattle.app_show.proofs.Pushed.{key_more}
use Rattle.app_show.proofs.keys.later_access_keys.Goals as goal

pub loop-before-preserved : goal.loop-before-preserved
loop-before-preserved c =
    subst (λ (n : ℕ). c.push.new.self.items ≡ map (access_key c.args.channel) (range_with_len 2 n)) (sym (add-one c.loop-before.before))
    (key_more (access_key c.args.channel) c.loop-before.keys.items c.push.new.self.items 2 c.loop-before.before (c.loop-before.before + 2) c.loop-before.invariant
    (c.in_ok-push.ensures.items ∙ ap (λ (key : Key). c.loop-before.keys.items ++ key ∷ []) c.access_key.ensures) (omega arith))
