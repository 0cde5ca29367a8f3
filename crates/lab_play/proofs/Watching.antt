-- What is watched of the premise on packets, event by event.
use Rattle.std.proofs.Common.{◌≡◌, ◌+◌, ◌-◌, ℕ, List, [], ◌∷◌, ◌++◌, length, Option, Some, None, Result, Ok, Err, true≢false, take, refl, sym, ◌∙◌, ap, subst, arith}
use Rattle.cfg_records.specs.declared.board_file.BoardFile.{BoardFile}
use Rattle.model_lab.specs.Lab.{Lab as LabModel}
use Rattle.model_lab.specs.Played.{plans, happens, after}
use Rattle.model_headline.specs.Plays.{KeepsPremise, AllKeepPremise, TellsPremise}
use Rattle.text_lines.specs.declared.event.Event.{Event}
use Rattle.lab_run.specs.declared.lab_state.Lab.{Lab}
use Rattle.lab_play.specs.declared.run.Stopped.{Stopped}
use Rattle.lab_play.specs.declared.watch.Watch.{Watch}
use Rattle.lab_play.specs.Runs.{TakesEvents, IsStop}
use Rattle.lab_run.specs.declared.step.Refused.{Refused}
use Rattle.lab_run.specs.declared.step.Refused.TheVariants as refused
use Rattle.lab_play.specs.Watched.{WatchRepresents, TellsNext, WatchesStep, WatchesAll, WatchesRun}
use Rattle.lab_play.proofs.Running.{after_more}

module _ (file : BoardFile) where
  keep_more : (es : List Event) (e : Event) (x : LabModel plans) → AllKeepPremise file es x → KeepsPremise file (after file es x) e → AllKeepPremise file (es ++ e ∷ []) x
  keep_more [] e x all one = (one, tt)
  keep_more (d ∷ es) e x all one = (all.0, keep_more es e (happens file d x) all.1 one)

  append_more : (es fs gs : List Event) (e : Event) → es ≡ fs ++ gs → es ++ e ∷ [] ≡ fs ++ (gs ++ e ∷ [])
  append_more es [] gs e is = ap (λ (l : List Event). l ++ e ∷ []) is
  append_more es (f ∷ fs) gs e is = ap (λ (l : List Event). l ++ e ∷ []) is ∙ ap (λ (l : List Event). f ∷ l) (append_more (fs ++ gs) fs gs e refl)

  -- what is told after one event more
  tells_more : (es : List Event) (e : Event) (x : LabModel plans) (old new : Option ℕ) → TellsPremise file es x old
      → TellsNext old new (length es + 1) (KeepsPremise file (after file es x) e) → TellsPremise file (es ++ e ∷ []) x new
  tells_more es e x (Some first) new told next =
      subst (TellsPremise file (es ++ e ∷ []) x) (sym next)
      (told.0, told.1 ++ e ∷ [], told.2, append_more es told.0 (told.2 ∷ told.1) e told.3, told.4, told.5, told.6)
  tells_more es e x None None told next = keep_more es e x told next
  tells_more es e x None (Some first) told next = (es, [], e, refl, next.0, told, next.1)

-- one event more
pub watches_more : (es : List Event) (e : Event) (place : ℕ) (old mid : Lab) (first now new : Watch) → place ≡ length es + 1 → TakesEvents es old mid → WatchesAll es old first now → WatchesStep e place mid now (Ok tt) new
    → WatchesAll (es ++ e ∷ []) old first new
watches_more es e place old mid first now new at took watched step file x shows opens =
    let y = after file es x in
    let before = watched file x shows opens in
    let next = step file y (took file x shows).1 before.0 in (
      subst (WatchRepresents new) (sym (after_more file es e x)) next.0,
      tells_more file es e x now.broken new.broken before.1 (subst (λ (n : ℕ). TellsNext now.broken new.broken n (KeepsPremise file y e)) at next.1),
    )

pub watches_none : (old : Lab) (first : Watch) → first.broken ≡ None → WatchesAll [] old first first
watches_none old first none file x shows opens = (opens, subst (TellsPremise file [] x) (sym none) tt)

-- those before the event of a place, which isn't taken
pub watches_before : {E : Type 0} (events : List Event) (old : Lab) (e : Event) (place : ℕ) (mid : Lab) (first now new : Watch) (why : Refused) (given : Result (Option Stopped) E)
    → WatchesAll (take place events) old first now → WatchesStep e (place + 1) mid now (Err why) new → IsStop (place + 1) why given → WatchesRun events old first given new
watches_before events old e place mid first now new (refused.Fault why) given watched same is =
    let back : place ≡ place + 1 - 1 = omega arith in
    subst (λ g. WatchesRun events old first g new) (sym is)
    (subst (λ (w : Watch). WatchesAll (take (place + 1 - 1) events) old first w) (sym same) (subst (λ (n : ℕ). WatchesAll (take n events) old first now) back watched))
watches_before events old e place mid first now new refused.Memory (Ok stopped) watched same is = absurd (true≢false is)
watches_before events old e place mid first now new refused.Memory (Err memory) watched same is = tt
