use Rattle.std.proofs.Common.{◌+◌, ◌∷◌, ◌++◌, [], List, length, take, drop, sym, ◌∙◌, ap, subst, arith}
use Rattle.std.proofs.lemmas.List.{take_more, take_all, length-take, take-append-drop, drop_more}
use Rattle.text_lines.specs.declared.event.Event.{Event}
use Rattle.lab_play.specs.Restarts.{turns_of}
use Rattle.lab_play.specs.Restarting.{TakesTurns, WatchesTurns, NotesTurnsOf}
use Rattle.lab_play.proofs.Turns.{takes_one_more, stops_at, watches_more, watches_none, watches_before, noted_step, noted_before}
use Rattle.lab_play.proofs.Noting.{one_longer}
use Rattle.std.specs.List.{AllZip}
use Rattle.lab_run.specs.declared.note.Note.{Note}
use Rattle.lab_play.specs.Noted.{IsNote}
use Rattle.lab_play.proofs.restarting.run_restarting.Goals as goal

pub returns-in-Err-clause-runs : goal.returns-in-Err-clause-runs
returns-in-Err-clause-runs c =
    let events = c.args.events.now in
    let place = c.loop-place.place in
    let event = c.index-events-place.result in
    let within = c.loop-place-test.true in
    let long = length-take place events in
    stops_at c.args.places.now events place event c.args.lab.now c.loop-place.lab c.step_restarting.new.lab c.in-Err.why c.stopped_at.result
    (sym (take-append-drop place events) ∙ ap (λ (es : List Event). take place events ++ es) (drop_more events place event within ∙ ap (λ (e : Event). e ∷ drop (place + 1) events) (sym c.index-events-place.is)))
    (omega (arith, long, within))
    c.loop-place.invariant.0
    c.in-Err.ensures.steps
    c.stopped_at.ensures

pub loop-place-preserved : goal.loop-place-preserved
loop-place-preserved c =
    let events = c.args.events.now in
    let places = c.args.places.now in
    let place = c.loop-place.place in
    let event = c.index-events-place.result in
    let within = c.loop-place-test.true in
    let long = length-take place events in
    let next = ap (λ (e : Event). take place events ++ e ∷ []) c.index-events-place.is ∙ sym (take_more events place event within) in (
      subst (λ (es : List Event). TakesTurns (turns_of places es) c.args.lab.now c.step_restarting.new.lab) next
          (takes_one_more places (take place events) event (place + 1) c.args.lab.now c.loop-place.lab c.step_restarting.new.lab (omega (arith, long, within)) c.loop-place.invariant.0 c.in_default.ensures.steps),
      λ on. let one = c.in_default.ensures.few on in let before = c.loop-place.invariant.1 on in omega (arith, one, before),
      subst (λ (es : List Event). WatchesTurns places es c.args.lab.now c.args.watch.now c.step_restarting.new.watch) next
          (watches_more places (take place events) event (place + 1) c.args.lab.now c.loop-place.lab c.args.watch.now c.loop-place.watch c.step_restarting.new.watch
          (omega (arith, long, within)) c.loop-place.invariant.0 c.loop-place.invariant.2 c.in_default.ensures.watched),
      subst (λ (es : List Event). NotesTurnsOf places es c.args.lab.now c.step_restarting.new.notes.items) next
          (noted_step places (take place events) event c.args.lab.now c.loop-place.lab c.loop-place.notes.items c.step_restarting.new.notes.items c.loop-place.invariant.0 c.loop-place.invariant.3 c.in_default.ensures.noted),
      (let longer = one_longer event c.loop-place.lab c.loop-place.notes.items c.step_restarting.new.notes.items c.in_default.ensures.noted in let many = c.loop-place.invariant.4 in omega (arith, longer, many)),
      omega (arith, within),
    )

pub returns-clause-runs : goal.returns-clause-runs
returns-clause-runs c =
    subst (λ (es : List Event). TakesTurns (turns_of c.args.places.now es) c.args.lab.now c.loop-place.lab) (take_all c.loop-place.place c.args.events.now c.loop-place-test.false) c.loop-place.invariant.0

pub returns-in-Err-clause-watched : goal.returns-in-Err-clause-watched
returns-in-Err-clause-watched c =
    watches_before c.args.places.now c.args.events.now c.args.lab.now c.index-events-place.result c.loop-place.place c.loop-place.lab c.args.watch.now c.loop-place.watch c.step_restarting.new.watch c.in-Err.why c.stopped_at.result c.loop-place.invariant.2 c.in-Err.ensures.watched c.stopped_at.ensures

pub returns-clause-watched : goal.returns-clause-watched
returns-clause-watched c =
    subst (λ (es : List Event). WatchesTurns c.args.places.now es c.args.lab.now c.args.watch.now c.loop-place.watch) (take_all c.loop-place.place c.args.events.now c.loop-place-test.false) c.loop-place.invariant.2

pub loop-place-init : goal.loop-place-init
loop-place-init c = (
  λ file x shows. (tt, shows),
  λ on. let none = c.requires.idles on in omega (arith, none),
  watches_none c.args.places.now c.args.lab.now c.args.watch.now c.requires.unbroken,
  λ file x shows. subst (λ (notes : List Note). AllZip IsNote notes []) (sym c.requires.empty) tt,
  ap length c.requires.empty,
  omega arith,
)

pub returns-in-Err-clause-noted : goal.returns-in-Err-clause-noted
returns-in-Err-clause-noted c =
    noted_before c.args.places.now c.args.events.now c.args.lab.now c.loop-place.lab c.index-events-place.result c.loop-place.place c.in-Err.why c.loop-place.notes.items c.step_restarting.new.notes.items
    c.stopped_at.result c.loop-place.invariant.3 c.loop-place.invariant.4 c.in-Err.ensures.noted c.stopped_at.ensures

pub returns-clause-noted : goal.returns-clause-noted
returns-clause-noted c =
    let whole = take_all c.loop-place.place c.args.events.now c.loop-place-test.false in
    let over = c.loop-place-test.false in
    let long = c.loop-place.invariant.4 in
    let within = c.loop-place.invariant.5 in (
      subst (λ (es : List Event). NotesTurnsOf c.args.places.now es c.args.lab.now c.loop-place.notes.items) whole c.loop-place.invariant.3,
      omega (arith, over, long, within),
    )
