-- Notes of events, one after another.
use Rattle.std.proofs.Common.{◌≡◌, ℕ, ◌+◌, ◌-◌, List, [], ◌∷◌, ◌++◌, length, take, Option, Some, None, Result, Ok, Err, true≢false, refl, sym, ◌∙◌, ap, subst, arith, option_map}
use Rattle.std.specs.Prelude.{slice_get}
use Rattle.std.proofs.lemmas.List.{length-append}
use Rattle.std.proofs.Math.Seq.{take-length}
use Rattle.std.specs.List.{AllZip}
use Rattle.cfg_records.specs.declared.board_file.BoardFile.{BoardFile}
use Rattle.record_base.specs.declared.op.Op.{Op}
use Rattle.model_lab.specs.Lab.{LabFrame, Lab as LabModel, opening}
use Rattle.text_lines.specs.declared.event.Event.{Event}
use Rattle.model_lab.specs.Meaning.{lab_names}
use Rattle.model_lab.specs.Played.{plans, happens, after}
use Rattle.lab_run.specs.declared.note.Note.{Note}
use Rattle.lab_run.specs.declared.lab_state.Lab.{Lab}
use Rattle.lab_play.specs.declared.played.Played.{Played}
use Rattle.lab_play.specs.declared.run.Stopped.{Stopped}
use Rattle.lab_run.specs.declared.step.Refused.{Refused}
use Rattle.lab_run.specs.declared.step.Refused.TheVariants as refused
use Rattle.lab_run.specs.Shown.{Represents}
use Rattle.model_undo.specs.Machine.{phase_of}
use Rattle.model_lab.specs.Played.{fault_at}
use Rattle.lab_run.specs.Hearing.{EventResult}
use Rattle.lab_run.specs.Coming.{comes_at, done_in}
use Rattle.lab_play.specs.Noted.{IsNote, noted_at, noted_from, AreNotes, NotesStep, NotesEvents, NotesRun, NotesPlay}
use Rattle.lab_play.specs.Ends.{BeginsPlay, given}
use Rattle.lab_play.specs.Runs.{TakesEvents, IsStop}
use Rattle.lab_run.proofs.Sent.{all_append}
use Rattle.lab_run.proofs.Coming.{done_is}

module _ (file : BoardFile) where
  -- what there is to note of one event more
  noted_more : (es : List Event) (e : Event) (x : LabModel plans) → noted_from file (es ++ e ∷ []) x ≡ noted_from file es x ++ noted_at file (after file es x) e ∷ []
  noted_more [] e x = refl
  noted_more (d ∷ es) e x = ap (λ ns. noted_at file x d ∷ ns) (noted_more es e (happens file d x))

-- one event more was noted
pub notes_one_more : (es : List Event) (e : Event) (old mid : Lab) (notes : List Note) (note : Note) → TakesEvents es old mid → NotesEvents es old notes
    → ((file : BoardFile) (x : LabModel plans) → Represents file mid x → IsNote note (noted_at file x e)) → NotesEvents (es ++ e ∷ []) old (notes ++ note ∷ [])
notes_one_more es e old mid notes note took noted one file x shows =
    let last = noted_at file (after file es x) e in
    subst (λ ns. AllZip IsNote (notes ++ note ∷ []) ns) (sym (noted_more file es e x))
    (all_append IsNote notes (note ∷ []) (noted_from file es x) (last ∷ []) (noted file x shows) (one file (after file es x) (took file x shows).1, tt))

-- ---- the note of an event that happened

-- what is noted is what there is to note
pub is_noted : (e : Event) (old new : Lab) (note : Note) (file : BoardFile) (x : LabModel plans) → Represents file old x
    → (fault_at file x e ≡ None) × Represents file new (happens file e x) → EventResult e old new
    → note.event.now ≡ e → note.came ≡ comes_at x e → note.done ≡ done_in e new
    → ((y : LabModel plans) → Represents file new y → note.sends ≡ option_map (λ f. f.on) (slice_get y.frames note.before))
    → note.before ≡ length x.frames → ((y : LabModel plans) → Represents file new y → note.after ≡ length y.frames)
    → ((y : LabModel plans) → Represents file new y → note.phase ≡ phase_of plans.words y.manager.machine)
    → IsNote note (noted_at file x e)
is_noted e old new note file x shows stepped did named came done sends before after phase =
    let y = happens file e x in
    record {
      event = named;
      came = came;
      done = done ∙ done_is file old new x shows e stepped.0 did;
      sends = sends y stepped.1 ∙ ap (λ (n : ℕ). option_map (λ (f : LabFrame). f.on) (slice_get y.frames n)) before;
      before = before;
      after = after y stepped.1;
      phase = phase y stepped.1;
    }

-- ---- events, one after another

pub noted_step : (es : List Event) (e : Event) (old mid : Lab) (before after : List Note) → TakesEvents es old mid → NotesEvents es old before → NotesStep e mid (Ok tt) before after
    → NotesEvents (es ++ e ∷ []) old after
noted_step es e old mid before after took noted (note, is, says) =
    subst (λ (ns : List Note). NotesEvents (es ++ e ∷ []) old ns) (sym is) (notes_one_more es e old mid before note took noted says)

pub one_longer : (e : Event) (mid : Lab) (before after : List Note) → NotesStep e mid (Ok tt) before after → length after ≡ length before + 1
one_longer e mid before after (note, is, says) = ap length is ∙ length-append before (note ∷ [])

-- those before the one that isn't taken were noted
pub noted_before : {E : Type 0} (events : List Event) (old mid : Lab) (e : Event) (place : ℕ) (why : Refused) (before after : List Note) (given : Result (Option Stopped) E)
    → NotesEvents (take place events) old before → length before ≡ place → NotesStep e mid (Err why) before after → IsStop (place + 1) why given → NotesRun events old given after
noted_before events old mid e place (refused.Fault fault) before after given noted long same is =
    let back : place ≡ place + 1 - 1 = omega arith in
    subst (λ g. NotesRun events old g after) (sym is) (
      subst (λ (ns : List Note). NotesEvents (take (place + 1 - 1) events) old ns) (sym same) (subst (λ (n : ℕ). NotesEvents (take n events) old before) back noted),
      ap (λ (n : ℕ). n + 1) (sym long) ∙ ap (λ (ns : List Note). length ns + 1) (sym same),
    )
noted_before events old mid e place refused.Memory before after (Ok stopped) noted long same is = absurd (true≢false is)
noted_before events old mid e place refused.Memory before after (Err memory) noted long same is = tt

-- ---- plays

module _ (file : BoardFile) (steps : List Op) (retries : ℕ) (events : List Event) (notes : List Note) where
  -- the lab as it begins
  abbrev first : LabModel plans
  first = opening plans file lab_names steps retries

  -- all events of a play were noted
  all_noted : (old : Lab) → Represents file old first → NotesEvents events old notes → length notes ≡ length events → AreNotes file steps retries events notes
  all_noted old shows noted long =
      let whole : take (length notes) events ≡ events = ap (λ (n : ℕ). take n events) long ∙ take-length events in
      record { each = subst (λ (es : List Event). AllZip IsNote notes (noted_from file es first)) (sym whole) (noted file first shows) }

  -- those before the one of this place were
  some_noted : (old : Lab) → Represents file old first → (place : ℕ) → NotesEvents (take (place - 1) events) old notes → place ≡ length notes + 1
      → AreNotes file steps retries events notes
  some_noted old shows place noted at =
      let count : place - 1 ≡ length notes = omega (arith, at) in
      record { each = subst (λ (n : ℕ). AllZip IsNote notes (noted_from file (take n events) first)) count (noted file first shows) }

  -- what is noted of a play, as its events ended
  pub notes_given : {E : Type 0} (played new : Played) (old : Lab) (ended : Result (Option Stopped) E) → BeginsPlay file steps retries played → old ≡ played.lab.value
      → NotesRun events old ended notes → NotesPlay file steps retries events (given new ended) notes
  notes_given played new old ended begins was = by ended
    where
      shows : Represents file old first
      shows = subst (λ (lab : Lab). Represents file lab first) (sym was) begins.shows

      by : {E : Type 0} (ended : Result (Option Stopped) E) → NotesRun events old ended notes → NotesPlay file steps retries events (given new ended) notes
      by (Ok None) noted = (all_noted old shows noted.0 noted.1, noted.1)
      by (Ok (Some stopped)) noted = (some_noted old shows stopped.place noted.0 noted.1, noted.1)
      by (Err memory) noted = tt
