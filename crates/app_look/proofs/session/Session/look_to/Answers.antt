use Rattle.std.proofs.Common.{◌≡◌, ◌∙◌, None, inl, sym}
use Rattle.undo_look.specs.Looks.{awaited_on}
use Rattle.app_look.specs.Looking.{CallsOnce, GoesOn, begins}
use Rattle.app_look.proofs.Keys.{looked_at}
use Rattle.app_look.proofs.session.Session.look_to.Goals as goal

pub returns : goal.returns
returns c =
    let old = c.args.self.now in
    let target = c.args.target.now in
    let none : awaited_on old.looker.stage ≡ None = sym c.awaits.ensures ∙ c.in-None.is in
    let once : CallsOnce (begins old target) old c.begin-first.result c.begin-first.new.self = record { over = c.begin-first.ensures.over; same_again = c.begin-first.ensures.same_again } in
    let on : GoesOn c.begin-first.result c.begin-first.new.self c.go_on.result c.go_on.new.self =
    record { count = c.go_on.ensures.count; few = c.go_on.ensures.few; calls = c.go_on.ensures.calls; ended = c.go_on.ensures.ended } in
    inl (
      none,
      record {
        first = c.begin-first.result;
        begun = c.begin-first.new.self;
        begins_get = once;
        goes_on = on;
        at = looked_at target old c.begin-first.result c.begin-first.new.self c.go_on.result c.go_on.new.self none once on;
      },
    )
