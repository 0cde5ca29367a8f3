use Rattle.std.proofs.Common.{sym, ◌∙◌, subst, true, false}
use Rattle.model_lab.specs.ManagerSteps.{board_plans}
use Rattle.lab_run.specs.Marks.{IsKnown}
use Rattle.lab_run.proofs.Deliveries.{frame_at, no_frame, wrong_way, aged, left_room}
use Rattle.lab_run.proofs.frames.Frames.delivery_fault.Goals as goal

pub returns-in_default : goal.returns-in_default
returns-in_default c names x shows = no_frame names c.args.self.now c.args.marks x shows c.args.way c.args.number c.in_default.ensures.none

pub returns-then-not-is : goal.returns-then-not-is
returns-then-not-is c names x shows =
    let s = c.in-Some.frame.now in
    let at = frame_at c.args.self.now x.frames c.args.number s shows.frames c.in-Some.ensures.some in
    wrong_way names c.args.self.now c.args.marks x shows c.args.way c.args.number s at.0 at.1 at.2 (sym c.is.ensures ∙ c.if-not-is.true)

pub returns-then-not-is_live : goal.returns-then-not-is_live
returns-then-not-is_live c names x shows =
    let s = c.in-Some.frame.now in
    let at = frame_at c.args.self.now x.frames c.args.number s shows.frames c.in-Some.ensures.some in
    let known : IsKnown (board_plans names) x s.mark.on c.on.result = subst (IsKnown (board_plans names) x s.mark.on) (sym c.on.ensures) (shows.known s.mark.on) in
    let live = c.is_live.ensures names x at.0 at.2.mark known in
    aged names c.args.self.now c.args.marks x shows c.args.way c.args.number s at.0 at.1 at.2 (sym c.is.ensures ∙ c.if-not-is.false) (live ∙ c.if-not-is_live.true)

pub returns : goal.returns
returns c names x shows =
    let s = c.in-Some.frame.now in
    let at = frame_at c.args.self.now x.frames c.args.number s shows.frames c.in-Some.ensures.some in
    let known : IsKnown (board_plans names) x s.mark.on c.on.result = subst (IsKnown (board_plans names) x s.mark.on) (sym c.on.ensures) (shows.known s.mark.on) in
    let live = c.is_live.ensures names x at.0 at.2.mark known in
    c.room_fault.ensures names c.args.marks x shows
    ∙ left_room names c.args.self.now c.args.marks x shows c.args.way c.args.number s at.0 at.1 at.2 (sym c.is.ensures ∙ c.if-not-is.false) (live ∙ c.if-not-is_live.false)
