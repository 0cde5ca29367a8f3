use Rattle.std.proofs.Common.{ℕ, ◌∙◌, ap}
use Rattle.app_play.specs.Strict.{ended_by}
use Rattle.app_play.proofs.Strictly.{notes_end}
use Rattle.app_play.proofs.strict.noted_ending.Goals as goal

pub returns-in-Ok : goal.returns-in-Ok
returns-in-Ok c =
    let account = c.account_of.result in
    notes_end c.args.strict c.args.file c.args.plan.steps c.args.plan.retries c.args.events.now c.played_by.new.notes.items c.played_by.result c.in-Ok.ended.played account
    c.account_of.ensures.told c.ending_of-status.result
    (c.ending_of-status.ensures ∙ ap (λ (steps : ℕ). ended_by c.args.strict steps account account.stopped) c.len-steps.ensures.value)
    c.args.places.now c.in-Ok.ended.stopped c.in-Ok.ensures c.played_by.ensures.plays c.played_by.ensures.noted c.account_of.ensures.stopped
