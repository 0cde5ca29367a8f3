-- Turns, one after another.
use Rattle.std.proofs.Common.{◌≡◌, ◌+◌, ◌-◌, ℕ, Bool, true, false, List, [], ◌∷◌, ◌++◌, length, take, drop, Option, Some, None, Result, Ok, Err, refl, sym, ◌∙◌, ap, subst, arith, true≢false, append-nil}
use Rattle.cfg_records.specs.declared.board_file.BoardFile.{BoardFile}
use Rattle.model_lab.specs.Lab.{Lab as LabModel}
use Rattle.model_lab.specs.Played.{plans, fault_at, happens}
use Rattle.model_headline.specs.Plays.{KeepsPremise}
use Rattle.text_lines.specs.declared.event.Event.{Event}
use Rattle.lab_run.specs.Shown.{Represents}
use Rattle.lab_run.specs.declared.lab_state.Lab.{Lab}
use Rattle.lab_run.specs.declared.step.Refused.{Refused}
use Rattle.lab_run.specs.declared.step.Refused.TheVariants as refused
use Rattle.lab_play.specs.declared.run.Stopped.{Stopped}
use Rattle.lab_play.specs.declared.watch.Watch.{Watch}
use Rattle.lab_play.specs.Runs.{IsStop}
use Rattle.std.specs.List.{AllZip}
use Rattle.lab_run.specs.declared.note.Note.{Note}
use Rattle.lab_play.specs.Noted.{IsNote, noted_at, NotesStep}
use Rattle.lab_run.proofs.Sent.{all_append}
use Rattle.lab_play.specs.Watched.{WatchRepresents, TellsNext}
use Rattle.lab_play.specs.Restarts.{Turn, is_among, remade_if, turns_at, turns_from, turns_of, does, after, AreTaken, AllKeep, TellsKept}
use Rattle.lab_play.specs.Restarting.{TakesTurns, TurnStep, RunsTurns, WatchesTurn, WatchesTurns, WatchesRunTurns, noted_from, NotesTurnsOf, NotesRunTurns}

-- the turns of one event more
more_from : (places : List ℕ) (place last : ℕ) (es : List Event) (e : Event) → last ≡ place + length es
    → turns_from places place (es ++ e ∷ []) ≡ turns_from places place es ++ turns_at places last e
more_from places place last [] e is =
    let here : last ≡ place = omega (arith, is) in
    append-nil (turns_at places place e) ∙ ap (λ (n : ℕ). turns_at places n e) (sym here)
more_from places place last (d ∷ es) e is =
    ap (λ (ts : List Turn). turns_at places place d ++ ts) (more_from places (place + 1) last es e (omega (arith, is)))
    ∙ sym (both_lists (turns_at places place d) (turns_from places (place + 1) es) (turns_at places last e))
  where
    both_lists : (ts us vs : List Turn) → (ts ++ us) ++ vs ≡ ts ++ (us ++ vs)
    both_lists [] us vs = refl
    both_lists (t ∷ ts) us vs = ap (λ (rest : List Turn). t ∷ rest) (both_lists ts us vs)

pub more_turns : (places : List ℕ) (es : List Event) (e : Event) → turns_of places (es ++ e ∷ []) ≡ turns_of places es ++ turns_at places (length es + 1) e
more_turns places es e = more_from places 1 (length es + 1) es e (omega arith)

module _ (file : BoardFile) where
  pub after_both : (ts us : List Turn) (x : LabModel plans) → after file (ts ++ us) x ≡ after file us (after file ts x)
  after_both [] us x = refl
  after_both (t ∷ ts) us x = after_both ts us (does file t x)

  taken_both : (ts us : List Turn) (x : LabModel plans) → AreTaken file ts x → AreTaken file us (after file ts x) → AreTaken file (ts ++ us) x
  taken_both [] us x one two = two
  taken_both (t ∷ ts) us x one two = (one.0, taken_both ts us (does file t x) one.1 two)

  keep_both : (ts us : List Turn) (x : LabModel plans) → AllKeep file ts x → AllKeep file us (after file ts x) → AllKeep file (ts ++ us) x
  keep_both [] us x one two = two
  keep_both (t ∷ ts) us x one two = (one.0, keep_both ts us (does file t x) one.1 two)

  -- a restart keeps the premise, and may come at any moment
  remade_taken : (made : Bool) (x : LabModel plans) → AreTaken file (remade_if made) x
  remade_taken true x = (tt, tt)
  remade_taken false x = tt

  remade_keeps : (made : Bool) (x : LabModel plans) → AllKeep file (remade_if made) x
  remade_keeps true x = (tt, tt)
  remade_keeps false x = tt

-- ---- what a schedule makes of a lab

module _ (places : List ℕ) where
  -- a lab that took turns takes one event more
  pub takes_one_more : (es : List Event) (e : Event) (place : ℕ) (old mid new : Lab) → place ≡ length es + 1 → TakesTurns (turns_of places es) old mid → TurnStep places place e mid (Ok tt) new
      → TakesTurns (turns_of places (es ++ e ∷ [])) old new
  takes_one_more es e place old mid new at took stepped file x shows =
      let ts = turns_of places es in
      let us = turns_at places (length es + 1) e in
      let y = after file ts x in
      let before = took file x shows in
      let now = subst (λ (n : ℕ). (fault_at file y e ≡ None) × Represents file new (after file (turns_at places n e) y)) at (stepped file y before.1) in
      let next : AreTaken file us y = (now.0, remade_taken file (is_among places (length es + 1)) (happens file e y)) in
      subst (λ (all : List Turn). AreTaken file all x × Represents file new (after file all x)) (sym (more_turns places es e))
      (taken_both file ts us x before.0 next, subst (Represents file new) (sym (after_both file ts us x)) now.1)

  -- an event isn't taken by a lab that took those before it
  pub stops_at : {E : Type 0} (events : List Event) (place : ℕ) (e : Event) (old mid new : Lab) (why : Refused) (given : Result (Option Stopped) E)
      → events ≡ take place events ++ e ∷ drop (place + 1) events → length (take place events) ≡ place → TakesTurns (turns_of places (take place events)) old mid
      → TurnStep places (place + 1) e mid (Err why) new → IsStop (place + 1) why given → RunsTurns places events old given new
  stops_at events place e old mid new (refused.Fault fault) given all before took stepped is = subst (λ g. RunsTurns places events old g new) (sym is) (record {
    before = take place events;
    event = e;
    rest = drop (place + 1) events;
    all = all;
    place = ap (λ (n : ℕ). n + 1) (sym before);
    refuses = λ file x shows. stepped.1 file (after file (turns_of places (take place events)) x) (took file x shows).1;
    left = subst (TakesTurns (turns_of places (take place events)) old) (sym stepped.0) took;
  })
  stops_at events place e old mid new refused.Memory (Ok stopped) all before took stepped is = absurd (true≢false is)
  stops_at events place e old mid new refused.Memory (Err memory) all before took stepped is = tt

-- ---- what is watched

append_more : (es fs gs : List Event) (e : Event) → es ≡ fs ++ gs → es ++ e ∷ [] ≡ fs ++ (gs ++ e ∷ [])
append_more es [] gs e is = ap (λ (l : List Event). l ++ e ∷ []) is
append_more es (f ∷ fs) gs e is = ap (λ (l : List Event). l ++ e ∷ []) is ∙ ap (λ (l : List Event). f ∷ l) (append_more (fs ++ gs) fs gs e refl)

module _ (file : BoardFile) (places : List ℕ) where
  -- what is told after one event more
  tells_more : (es : List Event) (e : Event) (x : LabModel plans) (old new : Option ℕ) → TellsKept file places es x old
      → TellsNext old new (length es + 1) (KeepsPremise file (after file (turns_of places es) x) e) → TellsKept file places (es ++ e ∷ []) x new
  tells_more es e x (Some first) new told next =
      subst (TellsKept file places (es ++ e ∷ []) x) (sym next)
      (told.0, told.1 ++ e ∷ [], told.2, append_more es told.0 (told.2 ∷ told.1) e told.3, told.4, told.5, told.6)
  tells_more es e x None None told next =
      let us = turns_at places (length es + 1) e in
      let y = after file (turns_of places es) x in
      let one : AllKeep file us y = (next, remade_keeps file (is_among places (length es + 1)) (happens file e y)) in
      subst (λ (all : List Turn). AllKeep file all x) (sym (more_turns places es e)) (keep_both file (turns_of places es) us x told one)
  tells_more es e x None (Some first) told next = (es, [], e, refl, next.0, told, next.1)

module _ (places : List ℕ) where
  -- one event more
  pub watches_more : (es : List Event) (e : Event) (place : ℕ) (old mid : Lab) (first now new : Watch) → place ≡ length es + 1 → TakesTurns (turns_of places es) old mid
      → WatchesTurns places es old first now → WatchesTurn places place e mid now (Ok tt) new → WatchesTurns places (es ++ e ∷ []) old first new
  watches_more es e place old mid first now new at took watched step file x shows opens =
      let ts = turns_of places es in
      let us = turns_at places (length es + 1) e in
      let y = after file ts x in
      let before = watched file x shows opens in
      let next = subst (λ (n : ℕ). WatchRepresents new (after file (turns_at places n e) y) × TellsNext now.broken new.broken n (KeepsPremise file y e)) at
      (step file y (took file x shows).1 before.0) in
      let reaches : after file (turns_of places (es ++ e ∷ [])) x ≡ after file us y = ap (λ (all : List Turn). after file all x) (more_turns places es e) ∙ after_both file ts us x in (
        subst (WatchRepresents new) (sym reaches) next.0,
        tells_more file places es e x now.broken new.broken before.1 next.1,
      )

  pub watches_none : (old : Lab) (first : Watch) → first.broken ≡ None → WatchesTurns places [] old first first
  watches_none old first none file x shows opens = (opens, subst (TellsKept file places [] x) (sym none) tt)

  -- those before the event of a place, which isn't taken
  pub watches_before : {E : Type 0} (events : List Event) (old : Lab) (e : Event) (place : ℕ) (mid : Lab) (first now new : Watch) (why : Refused) (given : Result (Option Stopped) E)
      → WatchesTurns places (take place events) old first now → WatchesTurn places (place + 1) e mid now (Err why) new → IsStop (place + 1) why given
      → WatchesRunTurns places events old first given new
  watches_before events old e place mid first now new (refused.Fault why) given watched same is =
      let back : place ≡ place + 1 - 1 = omega arith in
      subst (λ g. WatchesRunTurns places events old first g new) (sym is)
      (subst (λ (w : Watch). WatchesTurns places (take (place + 1 - 1) events) old first w) (sym same) (subst (λ (n : ℕ). WatchesTurns places (take n events) old first now) back watched))
  watches_before events old e place mid first now new refused.Memory (Ok stopped) watched same is = absurd (true≢false is)
  watches_before events old e place mid first now new refused.Memory (Err memory) watched same is = tt

-- ---- what is noted

module _ (file : BoardFile) (places : List ℕ) where
  -- what there is to note of one event more, of which this is the place
  noted_more : (place : ℕ) (es : List Event) (e : Event) (x : LabModel plans)
      → noted_from file places place (es ++ e ∷ []) x ≡ noted_from file places place es x ++ noted_at file (after file (turns_from places place es) x) e ∷ []
  noted_more place [] e x = refl
  noted_more place (d ∷ es) e x =
      let y = after file (turns_at places place d) x in
      let last = after file (turns_from places (place + 1) es) y in
      let reaches : after file (turns_at places place d ++ turns_from places (place + 1) es) x ≡ last = after_both file (turns_at places place d) (turns_from places (place + 1) es) x in
      ap (λ ns. noted_at file x d ∷ ns) (noted_more (place + 1) es e y)
      ∙ ap (λ (z : LabModel plans). noted_at file x d ∷ (noted_from file places (place + 1) es y ++ noted_at file z e ∷ [])) (sym reaches)

module _ (places : List ℕ) where
  -- one event more was noted
  pub noted_step : (es : List Event) (e : Event) (old mid : Lab) (before after : List Note) → TakesTurns (turns_of places es) old mid → NotesTurnsOf places es old before
      → NotesStep e mid (Ok tt) before after → NotesTurnsOf places (es ++ e ∷ []) old after
  noted_step es e old mid before after took noted (note, is, says) file x shows =
      subst (λ (ns : List Note). AllZip IsNote ns (noted_from file places 1 (es ++ e ∷ []) x)) (sym is)
      (subst (λ ns. AllZip IsNote (before ++ note ∷ []) ns) (sym (noted_more file places 1 es e x))
      (all_append IsNote before (note ∷ []) _ _ (noted file x shows) (says file _ (took file x shows).1, tt)))

  -- those before the one that isn't taken were noted
  pub noted_before : {E : Type 0} (events : List Event) (old mid : Lab) (e : Event) (place : ℕ) (why : Refused) (before after : List Note) (given : Result (Option Stopped) E)
      → NotesTurnsOf places (take place events) old before → length before ≡ place → NotesStep e mid (Err why) before after → IsStop (place + 1) why given
      → NotesRunTurns places events old given after
  noted_before events old mid e place (refused.Fault fault) before after given noted long same is =
      let back : place ≡ place + 1 - 1 = omega arith in
      subst (λ g. NotesRunTurns places events old g after) (sym is) (
        subst (λ (ns : List Note). NotesTurnsOf places (take (place + 1 - 1) events) old ns) (sym same) (subst (λ (n : ℕ). NotesTurnsOf places (take n events) old before) back noted),
        ap (λ (n : ℕ). n + 1) (sym long) ∙ ap (λ (ns : List Note). length ns + 1) (sym same),
      )
  noted_before events old mid e place refused.Memory before after (Ok stopped) noted long same is = absurd (true≢false is)
  noted_before events old mid e place refused.Memory before after (Err memory) noted long same is = tt
