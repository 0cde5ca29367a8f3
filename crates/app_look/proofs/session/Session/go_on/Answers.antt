use Rattle.std.proofs.Common.{ℕ, add-one, sym, subst}
use Rattle.app_look.specs.declared.look_driver.LookEnd.{LookEnd}
use Rattle.app_look.specs.Looking.{CallsAgain}
use Rattle.app_look.proofs.session.Session.go_on.Goals as goal

pub loop-preserved : goal.loop-preserved
loop-preserved c =
    let before = subst (λ (e : LookEnd). CallsAgain c.loop.counter c.args.first c.args.self.now e c.loop.self) c.in-Silent.is c.loop.invariant in
    subst (λ (n : ℕ). CallsAgain n c.args.first c.args.self.now c.send_again-end.result c.send_again-end.new.self) (sym (add-one c.loop.counter))
    (c.loop.self, before, record { over = c.send_again-end.ensures.over; same_again = c.send_again-end.ensures.same_again })
