use Rattle.std.proofs.Common.{◌+◌, ◌∷◌, ◌++◌, [], List, length, take, drop, sym, ◌∙◌, ap, subst, arith}
use Rattle.std.proofs.lemmas.List.{take_more, take_all, length-take, take-append-drop, drop_more}
use Rattle.text_lines.specs.declared.event.Event.{Event}
use Rattle.lab_play.specs.Runs.{TakesEvents}
use Rattle.lab_play.specs.Watched.{WatchesAll}
use Rattle.lab_play.proofs.Running.{takes_one_more, stops_at}
use Rattle.lab_play.proofs.Watching.{watches_more, watches_none, watches_before}
use Rattle.lab_play.proofs.run.run.Goals as goal

pub returns-in-Err-clause-runs : goal.returns-in-Err-clause-runs
returns-in-Err-clause-runs c =
    let events = c.args.events.now in
    let place = c.loop-place.place in
    let event = c.index-events-place.result in
    let within = c.loop-place-test.true in
    let long = length-take place events in
    stops_at events place event c.args.lab.now c.loop-place.lab c.step_watched.new.lab c.in-Err.why c.stopped_at.result
    (sym (take-append-drop place events) ∙ ap (λ (es : List Event). take place events ++ es) (drop_more events place event within ∙ ap (λ (e : Event). e ∷ drop (place + 1) events) (sym c.index-events-place.is)))
    (omega (arith, long, within))
    c.loop-place.invariant.0
    c.in-Err.ensures.steps
    c.stopped_at.ensures

pub loop-place-preserved : goal.loop-place-preserved
loop-place-preserved c =
    let events = c.args.events.now in
    let place = c.loop-place.place in
    let event = c.index-events-place.result in
    let next = ap (λ (e : Event). take place events ++ e ∷ []) c.index-events-place.is ∙ sym (take_more events place event c.loop-place-test.true) in (
      subst (λ (es : List Event). TakesEvents es c.args.lab.now c.step_watched.new.lab) next
          (takes_one_more (take place events) event c.args.lab.now c.loop-place.lab c.step_watched.new.lab c.loop-place.invariant.0 c.in_default.ensures.steps),
      λ on. let one = c.in_default.ensures.few on in let before = c.loop-place.invariant.1 on in omega (arith, one, before),
      subst (λ (es : List Event). WatchesAll es c.args.lab.now c.args.watch.now c.step_watched.new.watch) next
          (watches_more (take place events) event (place + 1) c.args.lab.now c.loop-place.lab c.args.watch.now c.loop-place.watch c.step_watched.new.watch
          (let long = length-take place events in let within = c.loop-place-test.true in omega (arith, long, within))
          c.loop-place.invariant.0 c.loop-place.invariant.2 c.in_default.ensures.watched),
    )

pub returns-clause-runs : goal.returns-clause-runs
returns-clause-runs c =
    subst (λ (es : List Event). TakesEvents es c.args.lab.now c.loop-place.lab) (take_all c.loop-place.place c.args.events.now c.loop-place-test.false) c.loop-place.invariant.0

pub returns-in-Err-clause-watched : goal.returns-in-Err-clause-watched
returns-in-Err-clause-watched c =
    watches_before c.args.events.now c.args.lab.now c.index-events-place.result c.loop-place.place c.loop-place.lab c.args.watch.now c.loop-place.watch c.step_watched.new.watch c.in-Err.why c.stopped_at.result c.loop-place.invariant.2 c.in-Err.ensures.watched c.stopped_at.ensures

pub returns-clause-watched : goal.returns-clause-watched
returns-clause-watched c =
    subst (λ (es : List Event). WatchesAll es c.args.lab.now c.args.watch.now c.loop-place.watch) (take_all c.loop-place.place c.args.events.now c.loop-place-test.false) c.loop-place.invariant.2

pub loop-place-init : goal.loop-place-init
loop-place-init c = (
  λ file x shows. (tt, shows),
  λ on. let none = c.requires.idles on in omega (arith, none),
  watches_none c.args.lab.now c.args.watch.now c.requires.unbroken,
)
