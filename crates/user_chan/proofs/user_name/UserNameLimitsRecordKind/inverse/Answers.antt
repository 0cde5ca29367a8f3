use Rattle.std.proofs.Common.{◌≡◌, List, ℕ, length, Some, None, if◌then◌else◌, ap, sym, ◌∙◌}
use Rattle.record_base.specs.InverseLaws.{same_tested}
use Rattle.record_base.specs.UserSizes.{user_name_size}
use Rattle.user_chan.specs.UserNames.{undo_name}
use Rattle.user_chan.proofs.user_name.UserNameLimitsRecordKind.inverse.Goals as goal

pub returns : goal.returns
returns c =
    let op = c.args.op.now in
    let reply : List ℕ = c.args.get_data.now in
    let long : length reply ≡ user_name_size = c.if-get_data-ne-USER_NAME_SIZE.false in
    ap Some c.undo_name.ensures ∙ sym (ap (λ b. if b then Some (undo_name op reply) else None) (same_tested (length reply) user_name_size long))
