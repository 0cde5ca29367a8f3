use Rattle.std.proofs.Common.{Err, inr, refl, subst}
use Rattle.app_base.specs.declared.ending.ReportFault.TheVariants.{Stopped}
use Rattle.app_run.specs.Prepared.{EndsUnclaimed}
use Rattle.app_run.specs.Run.{TellsAside}
use Rattle.app_run.proofs.Readied.{ends_ready, ends_so, planless, unclaimed}
use Rattle.app_run.proofs.preparing.prepare.Goals as goal

pub returns-in-Err-clause-ends : goal.returns-in-Err-clause-ends
returns-in-Err-clause-ends g c =
    planless g.W.Write.contents g.E.Write.contents g.F.TextFiles g.F.WritesFiles c.args.words.now c.args.files.now c.args.console.now c.plan_in.new.console c.in-Err.status c.in-Err.ensures.planless

pub returns-in-Err-claimed-clause-ends : goal.returns-in-Err-claimed-clause-ends
returns-in-Err-claimed-clause-ends g c =
    unclaimed g.W.Write.contents g.E.Write.contents g.F.TextFiles g.F.WritesFiles c.args.words.now c.args.files.now c.args.console.now c.in-Ok.plan c.claimed.new.files
    c.claimed.new.console c.in-Err-claimed.status c.in-Ok.ensures.has
    (subst (λ old. EndsUnclaimed g.W.Write.contents g.E.Write.contents g.F.TextFiles g.F.WritesFiles c.args.words.now c.args.files.now c.claimed.new.files old c.claimed.new.console c.in-Err-claimed.status)
    c.in-Ok.ensures.untold c.in-Err-claimed.ensures.unclaimed)

pub returns-in-Err-made-clause-ends : goal.returns-in-Err-made-clause-ends
returns-in-Err-made-clause-ends g c =
    ends_so g.W.Write.contents g.E.Write.contents g.F.TextFiles g.F.WritesFiles c.args.words.now c.args.files.now c.args.console.now c.in-Ok.plan c.in-Ok-claimed.taken c.claimed.new.files
    c.made.new.files c.claimed.new.console c.say_outcome.new.console c.in-Err-made.outcome c.say_outcome.result c.in-Ok.ensures.has c.in-Ok-claimed.ensures.claims
    (subst (λ old. TellsAside g.W.Write.contents g.E.Write.contents c.in-Ok-claimed.taken.aside old c.claimed.new.console) c.in-Ok.ensures.untold c.in-Ok-claimed.ensures.told)
    c.in-Err-made.ensures.unmade
    c.say_outcome.ensures

pub returns-then-not-wait_first-clause-ends : goal.returns-then-not-wait_first-clause-ends
returns-then-not-wait_first-clause-ends g c =
    ends_ready g.W.Write.contents g.E.Write.contents g.F.TextFiles g.F.WritesFiles c.args.words.now c.args.files.now c.args.console.now c.in-Ok-made.prepared c.made.new.files
    c.made.new.files c.claimed.new.console c.say_outcome-then-not-wait_first.new.console (Err Stopped) c.say_outcome-then-not-wait_first.result
    (record {
      plan = c.in-Ok.plan;
      has = c.in-Ok.ensures.has;
      taken = c.in-Ok-claimed.taken;
      held = c.claimed.new.files;
      claims = c.in-Ok-claimed.ensures.claims;
      told = subst (λ old. TellsAside g.W.Write.contents g.E.Write.contents c.in-Ok-claimed.taken.aside old c.claimed.new.console) c.in-Ok.ensures.untold c.in-Ok-claimed.ensures.told;
      made = c.in-Ok-made.ensures.made;
    })
    (λ before shows. inr (inr (refl, refl)))
    c.say_outcome-then-not-wait_first.ensures

pub returns-clause-prepared : goal.returns-clause-prepared
returns-clause-prepared g c = record {
  plan = c.in-Ok.plan;
  has = c.in-Ok.ensures.has;
  taken = c.in-Ok-claimed.taken;
  held = c.claimed.new.files;
  claims = c.in-Ok-claimed.ensures.claims;
  told = subst (λ old. TellsAside g.W.Write.contents g.E.Write.contents c.in-Ok-claimed.taken.aside old c.claimed.new.console) c.in-Ok.ensures.untold c.in-Ok-claimed.ensures.told;
  made = c.in-Ok-made.ensures.made;
}
