use Rattle.text_journal.specs.declared.draft.Place.TheVariants as at
use Rattle.text_journal.specs.JournalText.{said_in}
use Rattle.text_journal.proofs.FirstLines.{ok_so, answered_so}
use Rattle.text_journal.proofs.Steering.{answered, lacks_at, takes_at}
use Rattle.text_journal.proofs.draft.Draft.take.Goals as goal

pub returns-in-Version : goal.returns-in-Version
returns-in-Version c =
    answered_so c.version.result _ _ _ _ (answered c.version.result _ _ c.version.ensures.some c.version.ensures.none) (lacks_at (said_in c.args.self.now) at.Version c.in-Version.is c.args.text.now)
    (λ rest t. takes_at (said_in c.args.self.now) at.Version c.in-Version.is c.args.text.now rest.now _ t)

pub returns-in-Retries : goal.returns-in-Retries
returns-in-Retries c =
    answered_so c.retries.result _ _ _ _ (answered c.retries.result _ _ c.retries.ensures.some c.retries.ensures.none) (lacks_at (said_in c.args.self.now) at.Retries c.in-Retries.is c.args.text.now)
    (λ rest t. takes_at (said_in c.args.self.now) at.Retries c.in-Retries.is c.args.text.now rest.now _ t)

pub returns-in-Names : goal.returns-in-Names
returns-in-Names c =
    ok_so c.names.result _ _ c.names.ensures
    (λ found m. answered_so found _ _ _ _ m (lacks_at (said_in c.args.self.now) at.Names c.in-Names.is c.args.text.now) (λ rest t. takes_at (said_in c.args.self.now) at.Names c.in-Names.is c.args.text.now rest.now _ t))

pub returns-in-Listed : goal.returns-in-Listed
returns-in-Listed c =
    ok_so c.listed.result _ _ c.listed.ensures
    (λ found m. answered_so found _ _ _ _ m (lacks_at (said_in c.args.self.now) at.Listed c.in-Listed.is c.args.text.now) (λ rest t. takes_at (said_in c.args.self.now) at.Listed c.in-Listed.is c.args.text.now rest.now _ t))

pub returns-in-Count : goal.returns-in-Count
returns-in-Count c =
    answered_so c.count.result _ _ _ _ (answered c.count.result _ _ c.count.ensures.some c.count.ensures.none) (lacks_at (said_in c.args.self.now) at.Count c.in-Count.is c.args.text.now)
    (λ rest t. takes_at (said_in c.args.self.now) at.Count c.in-Count.is c.args.text.now rest.now _ t)

pub returns-in-Step : goal.returns-in-Step
returns-in-Step c =
    ok_so c.step_line.result _ _ c.step_line.ensures
    (λ found m. answered_so found _ _ _ _ m (lacks_at (said_in c.args.self.now) at.Step c.in-Step.is c.args.text.now) (λ rest t. takes_at (said_in c.args.self.now) at.Step c.in-Step.is c.args.text.now rest.now _ t))

pub returns-in-Request : goal.returns-in-Request
returns-in-Request c =
    ok_so c.request_line.result _ _ c.request_line.ensures
    (λ found m. answered_so found _ _ _ _ m (lacks_at (said_in c.args.self.now) at.Request c.in-Request.is c.args.text.now) (λ rest t. takes_at (said_in c.args.self.now) at.Request c.in-Request.is c.args.text.now rest.now _ t))

pub returns-in-Waiting : goal.returns-in-Waiting
returns-in-Waiting c =
    ok_so c.waiting_line.result _ _ c.waiting_line.ensures
    (λ found m. answered_so found _ _ _ _ m (lacks_at (said_in c.args.self.now) at.Waiting c.in-Waiting.is c.args.text.now) (λ rest t. takes_at (said_in c.args.self.now) at.Waiting c.in-Waiting.is c.args.text.now rest.now _ t))

pub returns-in-Told : goal.returns-in-Told
returns-in-Told c =
    answered_so c.told.result _ _ _ _ (answered c.told.result _ _ c.told.ensures.some c.told.ensures.none) (lacks_at (said_in c.args.self.now) at.Told c.in-Told.is c.args.text.now)
    (λ rest t. takes_at (said_in c.args.self.now) at.Told c.in-Told.is c.args.text.now rest.now _ t)

pub returns-in-Counts : goal.returns-in-Counts
returns-in-Counts c =
    answered_so c.counts.result _ _ _ _ (answered c.counts.result _ _ c.counts.ensures.some c.counts.ensures.none) (lacks_at (said_in c.args.self.now) at.Counts c.in-Counts.is c.args.text.now)
    (λ rest t. takes_at (said_in c.args.self.now) at.Counts c.in-Counts.is c.args.text.now rest.now _ t)

pub returns-in-Replies : goal.returns-in-Replies
returns-in-Replies c =
    ok_so c.replies.result _ _ c.replies.ensures
    (λ found m. answered_so found _ _ _ _ m (lacks_at (said_in c.args.self.now) at.Replies c.in-Replies.is c.args.text.now) (λ rest t. takes_at (said_in c.args.self.now) at.Replies c.in-Replies.is c.args.text.now rest.now _ t))
