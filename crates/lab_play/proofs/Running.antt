-- Schedules, event by event.
use Rattle.std.proofs.Common.{◌≡◌, ◌+◌, ℕ, List, [], ◌∷◌, ◌++◌, length, take, drop, Option, None, Result, Ok, Err, refl, sym, ap, subst, true≢false}
use Rattle.cfg_records.specs.declared.board_file.BoardFile.{BoardFile}
use Rattle.model_lab.specs.Lab.{Lab as LabModel}
use Rattle.text_lines.specs.declared.event.Event.{Event}
use Rattle.model_lab.specs.Played.{plans, fault_at, happens, after, AreTaken}
use Rattle.lab_run.specs.Shown.{Represents, EventStep}
use Rattle.lab_play.specs.Runs.{TakesEvents, IsStop, RunsEvents}
use Rattle.lab_run.specs.declared.step.Refused.{Refused}
use Rattle.lab_run.specs.declared.step.Refused.TheVariants as refused
use Rattle.lab_run.specs.declared.lab_state.Lab.{Lab}
use Rattle.lab_play.specs.declared.run.Stopped.{Stopped}

module _ (file : BoardFile) where
  -- one event more is taken
  taken_more : (es : List Event) (e : Event) (x : LabModel plans) → AreTaken file es x → fault_at file (after file es x) e ≡ None → AreTaken file (es ++ e ∷ []) x
  taken_more [] e x taken none = (none, tt)
  taken_more (d ∷ es) e x taken none = (taken.0, taken_more es e (happens file d x) taken.1 none)

  -- the lab after one event more
  pub after_more : (es : List Event) (e : Event) (x : LabModel plans) → after file (es ++ e ∷ []) x ≡ happens file e (after file es x)
  after_more [] e x = refl
  after_more (d ∷ es) e x = after_more es e (happens file d x)

-- a lab that took events takes one more
pub takes_one_more : (es : List Event) (e : Event) (old mid new : Lab) → TakesEvents es old mid → EventStep e mid (Ok tt) new → TakesEvents (es ++ e ∷ []) old new
takes_one_more es e old mid new took stepped file x shows =
    let before = took file x shows in
    let now = stepped file (after file es x) before.1 in
    (taken_more file es e x before.0 now.0, subst (Represents file new) (sym (after_more file es e x)) now.1)

-- an event isn't taken by a lab that took those before it
pub stops_at : {E : Type 0} (events : List Event) (place : ℕ) (e : Event) (old mid new : Lab) (why : Refused) (given : Result (Option Stopped) E)
    → events ≡ take place events ++ e ∷ drop (place + 1) events → length (take place events) ≡ place → TakesEvents (take place events) old mid → EventStep e mid (Err why) new
    → IsStop (place + 1) why given → RunsEvents events old given new
stops_at events place e old mid new (refused.Fault fault) given all before took stepped is = subst (λ g. RunsEvents events old g new) (sym is) (record {
  before = take place events;
  event = e;
  rest = drop (place + 1) events;
  all = all;
  place = ap (λ (n : ℕ). n + 1) (sym before);
  refuses = λ file x shows. stepped.1 file (after file (take place events) x) (took file x shows).1;
  left = subst (TakesEvents (take place events) old) (sym stepped.0) took;
})
stops_at events place e old mid new refused.Memory (Ok stopped) all before took stepped is = absurd (true≢false is)
stops_at events place e old mid new refused.Memory (Err memory) all before took stepped is = tt
