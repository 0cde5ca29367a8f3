use Rattle.std.proofs.Common.{◌+◌, ℕ, List, [], get_or, sym, ◌∙◌, subst, map, take}
use Rattle.std.specs.Borrow.{Bor}
use Rattle.text_lines.specs.EventLine.{IsLineOf}
use Rattle.text_lines.specs.Schedule.{AreLinesOf}
use Rattle.text_lines.proofs.TextLines.{pushed, refused, next_said, bad_first}
use Rattle.text_lines.proofs.schedule.events_of.Goals as goal

-- what stands where there is no line
none : Bor (List ℕ)
none = record { ref_ptr = (0, 0); now = [] }

pub returns-in-Err-Bad : goal.returns-in-Err-Bad
unfolding none
returns-in-Err-Bad c =
    let lines = c.args.lines.now in
    let place = c.loop-place.place in
    bad_first lines place none c.loop-place-test.true c.loop-place.events.items c.loop-place.invariant (record {
      spoken = sym c.is_skipped.ensures ∙ c.if-is_skipped.false;
      nothing = refused (IsLineOf (get_or lines place none).now) c.read_line.result c.in-Err-Bad.field-0 c.read_line.ensures c.in-Err-Bad.is c.in-Err-Bad.field-0-is;
    })

pub loop-place-preserved : goal.loop-place-preserved
unfolding none
loop-place-preserved c =
    let lines = c.args.lines.now in
    let place = c.loop-place.place in
    let events = c.loop-place.events.items in
    let put = pushed c.push.result c.push.new.self.items events c.in-Ok.event c.push.ensures.items c.if-is_err.ensures.value in
    let spoke = sym c.is_skipped.ensures ∙ c.if-is_skipped.false in
    subst (AreLinesOf (map (λ x. x.now) (take (place + 1) lines))) (sym put) (next_said lines place none c.loop-place-test.true events c.in-Ok.event c.loop-place.invariant spoke c.in-Ok.ensures)
