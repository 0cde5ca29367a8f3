use Rattle.std.proofs.Common.{◌+◌, ◌∷◌, ◌++◌, [], List, length, take, drop, sym, ◌∙◌, ap, subst, arith}
use Rattle.std.proofs.lemmas.List.{take_more, take_all, length-take, take-append-drop, drop_more}
use Rattle.text_lines.specs.declared.event.Event.{Event}
use Rattle.lab_play.specs.Runs.{TakesEvents}
use Rattle.std.specs.List.{AllZip}
use Rattle.lab_run.specs.declared.note.Note.{Note}
use Rattle.lab_play.specs.Noted.{IsNote, NotesEvents}
use Rattle.lab_play.specs.Watched.{WatchesAll}
use Rattle.lab_play.proofs.Watching.{watches_more, watches_none, watches_before}
use Rattle.lab_play.proofs.Running.{takes_one_more, stops_at}
use Rattle.lab_play.proofs.Noting.{noted_step, one_longer, noted_before}
use Rattle.lab_play.proofs.noted.run_noted.Goals as goal

pub returns-in-Err-clause-runs : goal.returns-in-Err-clause-runs
returns-in-Err-clause-runs c =
    let events = c.args.events.now in
    let place = c.loop-place.place in
    let event = c.index-events-place.result in
    let within = c.loop-place-test.true in
    let long = length-take place events in
    stops_at events place event c.args.lab.now c.loop-place.lab c.step_noted.new.lab c.in-Err.why c.stopped_at.result
    (sym (take-append-drop place events) ∙ ap (λ (es : List Event). take place events ++ es) (drop_more events place event within ∙ ap (λ (e : Event). e ∷ drop (place + 1) events) (sym c.index-events-place.is)))
    (omega (arith, long, within))
    c.loop-place.invariant.0
    c.in-Err.ensures.steps
    c.stopped_at.ensures

pub returns-clause-runs : goal.returns-clause-runs
returns-clause-runs c =
    subst (λ (es : List Event). TakesEvents es c.args.lab.now c.loop-place.lab) (take_all c.loop-place.place c.args.events.now c.loop-place-test.false) c.loop-place.invariant.0

pub returns-in-Err-clause-noted : goal.returns-in-Err-clause-noted
returns-in-Err-clause-noted c =
    noted_before c.args.events.now c.args.lab.now c.loop-place.lab c.index-events-place.result c.loop-place.place c.in-Err.why c.loop-place.notes.items c.step_noted.new.notes.items
    c.stopped_at.result c.loop-place.invariant.2 c.loop-place.invariant.3 c.in-Err.ensures.noted c.stopped_at.ensures

pub returns-clause-noted : goal.returns-clause-noted
returns-clause-noted c =
    let whole = take_all c.loop-place.place c.args.events.now c.loop-place-test.false in
    let over = c.loop-place-test.false in
    let long = c.loop-place.invariant.3 in
    let within = c.loop-place.invariant.4 in (
      subst (λ (es : List Event). NotesEvents es c.args.lab.now c.loop-place.notes.items) whole c.loop-place.invariant.2,
      omega (arith, over, long, within),
    )

pub loop-place-preserved : goal.loop-place-preserved
loop-place-preserved c =
    let events = c.args.events.now in
    let place = c.loop-place.place in
    let event = c.index-events-place.result in
    let stepped = c.in_default.ensures in
    let next = ap (λ (e : Event). take place events ++ e ∷ []) c.index-events-place.is ∙ sym (take_more events place event c.loop-place-test.true) in
    let longer = one_longer event c.loop-place.lab c.loop-place.notes.items c.step_noted.new.notes.items stepped.noted in
    let long = c.loop-place.invariant.3 in
    let within = c.loop-place-test.true in (
      subst (λ (es : List Event). TakesEvents es c.args.lab.now c.step_noted.new.lab) next
          (takes_one_more (take place events) event c.args.lab.now c.loop-place.lab c.step_noted.new.lab c.loop-place.invariant.0 stepped.steps),
      λ on. let one = stepped.few on in let before = c.loop-place.invariant.1 on in omega (arith, one, before),
      subst (λ (es : List Event). NotesEvents es c.args.lab.now c.step_noted.new.notes.items) next
          (noted_step (take place events) event c.args.lab.now c.loop-place.lab c.loop-place.notes.items c.step_noted.new.notes.items c.loop-place.invariant.0 c.loop-place.invariant.2 stepped.noted),
      omega (arith, longer, long),
      omega (arith, within),
      subst (λ (es : List Event). WatchesAll es c.args.lab.now c.args.watch.now c.step_noted.new.watch) next
          (watches_more (take place events) event (place + 1) c.args.lab.now c.loop-place.lab c.args.watch.now c.loop-place.watch c.step_noted.new.watch
          (let short = length-take place events in omega (arith, short, within)) c.loop-place.invariant.0 c.loop-place.invariant.5 stepped.watched),
    )

pub returns-in-Err-clause-watched : goal.returns-in-Err-clause-watched
returns-in-Err-clause-watched c =
    watches_before c.args.events.now c.args.lab.now c.index-events-place.result c.loop-place.place c.loop-place.lab c.args.watch.now c.loop-place.watch c.step_noted.new.watch c.in-Err.why c.stopped_at.result c.loop-place.invariant.5 c.in-Err.ensures.watched c.stopped_at.ensures

pub returns-clause-watched : goal.returns-clause-watched
returns-clause-watched c =
    subst (λ (es : List Event). WatchesAll es c.args.lab.now c.args.watch.now c.loop-place.watch) (take_all c.loop-place.place c.args.events.now c.loop-place-test.false) c.loop-place.invariant.5

pub loop-place-init : goal.loop-place-init
loop-place-init c = (
  λ file x shows. (tt, shows),
  λ on. let none = c.requires.idles on in omega (arith, none),
  λ file x shows. subst (λ (notes : List Note). AllZip IsNote notes []) (sym c.requires.empty) tt,
  ap length c.requires.empty,
  omega arith,
  watches_none c.args.lab.now c.args.watch.now c.requires.unbroken,
)
