-- An event that is offered to a lab.
use Rattle.std.proofs.Common.{◌≡◌, ◌<◌, ℕ, Bool, true, false, not, ◌&&◌, cond, List, [], ◌∷◌, ◌++◌, Option, Some, None, Result, Ok, Err, IfOk, true≢false, refl, sym, ◌∙◌, ap, subst}
use Rattle.std.specs.List.{AllByRecursion}
use Rattle.std.specs.Box.{with_value}
use Rattle.two_wire.specs.declared.Bus.TheVariants.{Smbus}
use Rattle.cfg_records.specs.declared.board_file.BoardFile.{BoardFile}
use Rattle.text_lines.specs.declared.event.Event.{Event}
use Rattle.text_lines.specs.Written.{has_line}
use Rattle.model_lab.specs.Lab.{Lab as LabModel}
use Rattle.model_lab.specs.Faults.{begun_on}
use Rattle.model_lab.specs.Played.{plans, fault_at, happens, after, AreTaken}
use Rattle.model_headline.specs.Plays.{KeepsPremise, AllKeepPremise}
use Rattle.lab_run.specs.declared.lab_state.Lab.{Lab}
use Rattle.lab_run.specs.declared.part.ManagerPart.{ManagerPart}
use Rattle.lab_run.specs.declared.step.Refused.{Refused}
use Rattle.lab_run.specs.declared.step.Refused.TheVariants as refused
use Rattle.lab_run.specs.Shown.{Represents, EventStep}
use Rattle.lab_run.specs.Parts.{part_at}
use Rattle.lab_run.specs.Coming.{done_at}
use Rattle.lab_play.specs.declared.watch.Watch.{Watch}
use Rattle.lab_play.specs.Watched.{took_by, waits_long, opened_in, broken_at, WatchRepresents, TellsNext, WatchesStep}
use Rattle.lab_play.proofs.Running.{after_more}
use Rattle.lab_play.proofs.Watches.{no_packet, a_packet}
use Rattle.lab_play.specs.declared.schedule_drawing.Drawing.{Drawing}
use Rattle.lab_play.specs.declared.schedule_drawing.OfferResult.{OfferResult}
use Rattle.lab_play.specs.Drawn.{IsDrawnSchedule, NotTaken, OffersEvent}

-- ---- the premise on packets

-- a packet that starts its message, or that doesn't wait long, breaks nothing
unbroken : (start taken waits : Bool) → (not start && waits) ≡ false → cond {A = Option ℕ} (true && not start && taken && waits) (Some 0) None ≡ None
unbroken true taken waits guard = refl
unbroken false false waits guard = refl
unbroken false true false guard = refl
unbroken false true true guard = cc guard

-- a watch of which nothing was told
abbrev fresh : Watch → Watch
fresh watch = record watch { broken = None }

keeps_by : (next : Option ℕ) (Keeps : Type 0) → next ≡ None → TellsNext None next 0 Keeps → Keeps
keeps_by next Keeps none told = subst (λ (o : Option ℕ). TellsNext None o 0 Keeps) none told

module _ (file : BoardFile) (lab : Lab) (x : LabModel plans) (shows : Represents file lab x) (watch : Watch) (opens : WatchRepresents watch x) (e : Event) where
  pub no_part_keeps : part_at x e ≡ None → KeepsPremise file x e
  no_part_keeps none = (no_packet file lab x shows (fresh watch) opens e 0 none).1

  pub part_keeps : (part : ManagerPart) (begun : ℕ) → part.tag < 8 → part_at x e ≡ Some part → begun ≡ begun_on plans.words Smbus x.manager.machine
      → (not part.start && waits_long watch.opened part.tag begun) ≡ false → KeepsPremise file x e
  part_keeps part begun low there same guard =
      let taken = took_by (done_at x e) in
      let next : Watch = record { opened = opened_in part watch.opened; broken = broken_at (fresh watch) part begun taken 0 } in
      let told = (a_packet file lab x shows (fresh watch) opens e 0 part begun taken next low there same refl refl refl).1 in
      keeps_by next.broken (KeepsPremise file x e) (unbroken part.start taken (waits_long watch.opened part.tag begun) guard) told

-- ---- one event more

module _ (file : BoardFile) where
  taken_more : (es : List Event) (e : Event) (x : LabModel plans) → AreTaken file es x → fault_at file (after file es x) e ≡ None → AreTaken file (es ++ e ∷ []) x
  taken_more [] e x taken none = (none, tt)
  taken_more (d ∷ es) e x taken none = (taken.0, taken_more es e (happens file d x) taken.1 none)

  keep_more : (es : List Event) (e : Event) (x : LabModel plans) → AllKeepPremise file es x → KeepsPremise file (after file es x) e → AllKeepPremise file (es ++ e ∷ []) x
  keep_more [] e x all one = (one, tt)
  keep_more (d ∷ es) e x all one = (all.0, keep_more es e (happens file d x) all.1 one)

lines_more : (es : List Event) (e : Event) → AllByRecursion (λ d. has_line d ≡ true) es → has_line e ≡ true → AllByRecursion (λ d. has_line d ≡ true) (es ++ e ∷ [])
lines_more [] e all one = (one, tt)
lines_more (d ∷ es) e all one = (all.0, lines_more es e all.1 one)

-- the lab took it
pub drawn_more : (file : BoardFile) (first : LabModel plans) (old new : Drawing) (lab : Lab) (e : Event) (place : ℕ) → lab ≡ old.lab.value → IsDrawnSchedule file first old
    → EventStep e lab (Ok tt) new.lab.value → WatchesStep e place lab old.watch (Ok tt) new.watch → new.events.items ≡ old.events.items ++ e ∷ [] → new.late ≡ old.late → has_line e ≡ true
    → (old.late ≡ false → KeepsPremise file (after file old.events.items first) e) → IsDrawnSchedule file first new
drawn_more file first old new lab e place was drawn stepped watched more same line keeps =
    let es = old.events.items in
    let x = after file es first in
    let shows : Represents file lab x = subst (λ (l : Lab). Represents file l x) (sym was) drawn.shows in
    let now = stepped file x shows in
    let next : happens file e x ≡ after file new.events.items first = sym (after_more file es e first) ∙ ap (λ (l : List Event). after file l first) (sym more) in
    record {
      shows = subst (Represents file new.lab.value) next now.1;
      taken = subst (λ (l : List Event). AreTaken file l first) (sym more) (taken_more file es e first drawn.taken now.0);
      watches = subst (WatchRepresents new.watch) next (watched file x shows drawn.watches).0;
      kept = λ late. let before = sym same ∙ late in
          subst (λ (l : List Event). AllKeepPremise file l first) (sym more) (keep_more file es e first (drawn.kept before) (keeps before));
      lines = subst (λ (l : List Event). AllByRecursion (λ d. has_line d ≡ true) l) (sym more) (lines_more es e drawn.lines line);
    }

-- the lab didn't take it
pub not_taken : {E : Type 0} (old : Drawing) (lab now : Lab) (watch : Watch) (e : Event) (place : ℕ) (why : Refused) (given : Result OfferResult E) → lab ≡ old.lab.value
    → EventStep e lab (Err why) now → WatchesStep e place lab old.watch (Err why) watch → NotTaken why given
    → IfOk given (λ offer. OffersEvent e old offer (record old { lab = with_value old.lab now; watch = watch }))
not_taken old lab now watch e place (refused.Fault fault) given was stepped watched is =
    let new : Drawing = record old { lab = with_value old.lab now; watch = watch } in
    subst (λ g. IfOk g (λ offer. OffersEvent e old offer new)) (sym is) (
      ap (λ (l : Lab). record old { lab = with_value old.lab l; watch = watch }) (stepped.0 ∙ was) ∙ ap (λ (w : Watch). record old { watch = w }) watched,
      λ file first drawn. let x = after file old.events.items first in stepped.1 file x (subst (λ (l : Lab). Represents file l x) (sym was) drawn.shows),
    )
not_taken old lab now watch e place refused.Memory (Ok offer) was stepped watched is = absurd (true≢false is)
not_taken old lab now watch e place refused.Memory (Err memory) was stepped watched is = tt
