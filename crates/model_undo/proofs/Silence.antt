-- A restart is a stop and a silence: by the stage, and at every moment of a schedule.
use Rattle.std.proofs.Common.{◌≡◌, ℕ, zero, suc, ◌+◌, ◌≤◌, Bool, true, false, List, [], ◌∷◌, Option, Some, None, replicate, refl, sym, ◌∙◌, ap, arith}
use Rattle.std.specs.Prelude.{nat_lt, IfSome}
use Rattle.std.proofs.lemmas.Bool.{ltb-true, ltb-false, cond_both}
use Rattle.two_wire.specs.declared.Bus.{Bus}
use Rattle.model_bus.specs.Answered.{Answered}
use Rattle.model_undo.specs.declared.call.Call.TheVariants as manager_call
use Rattle.model_undo.specs.declared.phase.Phase.TheVariants.{Getting, Setting, Unsettled}
use Rattle.model_undo.specs.Words.{is_busy, Words}
use Rattle.model_undo.specs.Machine.{Task, Part, Gets, Sets, Undoes, Stage, AtStart, Opened, AtEnd, AtHalt, AtUndone, AtRefused, Machine, Turn, phase_at, bus_at, sending, starts, undoes, quiets, agains, stops, replies, takes, reply_of, same_bus}
use Rattle.model_undo.specs.Resume.{Input, Called, after}
use Rattle.model_undo.specs.Unsettled.{run as after_calls}
use Rattle.model_undo.specs.Restart.{restarts}
use Rattle.model_undo.specs.Silence.{IsSilence, RestartsAreSilences}
use Rattle.model_undo.proofs.Restart.{as_stage}
use Rattle.model_undo.specs.Family.{Family}
use Rattle.model_undo.specs.Wires.{Wires}
use Rattle.model_undo.specs.Line.{Line}
use Rattle.model_undo.specs.declared.call.Call.TheVariants.{Start, Quiet, Stop, Again, Undo}
use Rattle.model_undo.specs.World as world
use Rattle.model_undo.specs.World.{World, Happening, Calls, Resume, Restart, ToManager, OnBus, OnBench, happens, run, opening}

module _ (M : Words) where
  abbrev quiet_calls : ℕ → List Input
  quiet_calls n = replicate n (Called manager_call.Quiet)

  -- the request is awaited, or it is unsettled, and was sent again so often
  abbrev awaited : Task M → Part M → ℕ → Machine M → Machine M
  awaited task part times m = record m { stage = Opened true task part; resent = times }

  abbrev unsettled : Task M → Part M → ℕ → Machine M → Machine M
  unsettled task part times m = record m { stage = Opened false task part; resent = times }

  -- nothing comes of a further `quiet`
  settles_no_more : (n : ℕ) (task : Task M) (part : Part M) (times : ℕ) (m : Machine M) → after_calls M (quiet_calls n) (unsettled task part times m) ≡ unsettled task part times m
  settles_no_more zero task part times m = refl
  settles_no_more (suc n) task part times m = settles_no_more n task part times m

  -- what `quiet` leaves of a request that is awaited
  abbrev once_more : Task M → Part M → ℕ → Machine M → Option (Turn M)
  once_more task part times m = Some (record { machine = awaited task part (times + 1) m; sends = Some (sending M part m.counts) })

  abbrev no_more : Task M → Part M → ℕ → Machine M → Option (Turn M)
  no_more task part times m = Some (record { machine = unsettled task part times m; sends = None })

  -- `quiet` often enough, and once more
  gives_up : (n times : ℕ) (task : Task M) (part : Part M) (m : Machine M) → times ≤ m.retries → m.retries ≤ times + n
      → after_calls M (quiet_calls (suc n)) (awaited task part times m) ≡ unsettled task part m.retries m
  gives_up zero times task part m few enough =
      cond_both (nat_lt times m.retries) (once_more task part times m) (no_more task part times m) (λ o. after M o (awaited task part times m) ≡ unsettled task part m.retries m)
      (λ less. let below = ltb-true times m.retries less in absurd (omega (arith, below, enough)))
      (λ more. let above = ltb-false times m.retries more in ap (λ (k : ℕ). unsettled task part k m) (omega (arith, above, few)))
  gives_up (suc n) times task part m few enough =
      cond_both (nat_lt times m.retries) (once_more task part times m) (no_more task part times m)
      (λ o. after_calls M (quiet_calls (suc n)) (after M o (awaited task part times m)) ≡ unsettled task part m.retries m)
      (λ less. let below = ltb-true times m.retries less in gives_up n (times + 1) task part m (omega (arith, below)) (omega (arith, enough)))
      (λ more. let above = ltb-false times m.retries more in
      let all : times ≡ m.retries = omega (arith, above, few) in
      settles_no_more (suc n) task part times m ∙ ap (λ (k : ℕ). unsettled task part k m) all)

  -- a request may be sent again so often
  abbrev IsWithin : Machine M → Type 0
  IsWithin m = m.resent ≤ m.retries

  silence_at : (stage : Stage M) (m : Machine M) → m.stage ≡ stage → IsWithin m → IsSilence M m (phase_at M stage)
  silence_at (Opened true (Gets k op) part) m at within =
      as_stage M _ m at (λ x. IsSilence M x (Getting k)) (sym (gives_up m.retries m.resent (Gets k op) part (record m { stopped = true }) within (omega arith)))
  silence_at (Opened true (Sets k op back) part) m at within =
      as_stage M _ m at (λ x. IsSilence M x (Setting k)) (sym (gives_up m.retries m.resent (Sets k op back) part (record m { stopped = true }) within (omega arith)))
  silence_at (Opened true (Undoes u us) part) m at within =
      as_stage M _ m at (λ x. IsSilence M x (phase_at M (Opened true (Undoes u us) part))) (sym (gives_up m.retries m.resent (Undoes u us) part m within (omega arith)))
  silence_at (Opened false (Gets k op) part) m at within =
      as_stage M _ m at (λ x. IsSilence M x (Unsettled k)) (sym (gives_up m.retries 0 (Gets k op) part (record m { stopped = true }) (omega arith) (omega arith)))
  silence_at (Opened false (Sets k op back) part) m at within =
      as_stage M _ m at (λ x. IsSilence M x (Unsettled k)) (sym (gives_up m.retries 0 (Sets k op back) part (record m { stopped = true }) (omega arith) (omega arith)))
  silence_at (Opened false (Undoes u us) part) m at within =
      as_stage M _ m at (λ x. IsSilence M x (phase_at M (Opened false (Undoes u us) part))) (sym (gives_up m.retries 0 (Undoes u us) part m (omega arith) (omega arith)))
  silence_at AtStart m at within = ap (λ (s : Stage M). restarts M s m) at
  silence_at AtEnd m at within = ap (λ (s : Stage M). restarts M s m) at
  silence_at (AtHalt k why) m at within = ap (λ (s : Stage M). restarts M s m) at
  silence_at AtUndone m at within = ap (λ (s : Stage M). restarts M s m) at
  silence_at (AtRefused k code) m at within = ap (λ (s : Stage M). restarts M s m) at

  -- ---- no request is sent again more often than is allowed

  abbrev StaysWithin : Option (Turn M) → Type 0
  StaysWithin o = IfSome o (λ t. IsWithin t.machine)

  start_within : (stage : Stage M) (m : Machine M) → StaysWithin (starts M stage m)
  start_within AtStart m = omega arith
  start_within (Opened heeded task part) m = tt
  start_within AtEnd m = tt
  start_within (AtHalt k why) m = tt
  start_within AtUndone m = tt
  start_within (AtRefused k code) m = tt

  undo_within : (stage : Stage M) (m : Machine M) → StaysWithin (undoes M stage m)
  undo_within AtEnd m = omega arith
  undo_within (AtHalt k why) m = omega arith
  undo_within AtStart m = tt
  undo_within (Opened heeded task part) m = tt
  undo_within AtUndone m = tt
  undo_within (AtRefused k code) m = tt

  quiet_within : (stage : Stage M) (m : Machine M) → IsWithin m → StaysWithin (quiets M stage m)
  quiet_within (Opened true task part) m within =
      cond_both (nat_lt m.resent m.retries) (Some (record { machine = record m { resent = m.resent + 1 }; sends = Some (sending M part m.counts) })) (Some (record { machine = record m { stage = Opened false task part }; sends = None })) StaysWithin
      (λ less. let below = ltb-true m.resent m.retries less in omega (arith, below)) (λ _. within)
  quiet_within (Opened false task part) m within = tt
  quiet_within AtStart m within = tt
  quiet_within AtEnd m within = tt
  quiet_within (AtHalt k why) m within = tt
  quiet_within AtUndone m within = tt
  quiet_within (AtRefused k code) m within = tt

  again_within : (stage : Stage M) (m : Machine M) → StaysWithin (agains M stage m)
  again_within (Opened false task part) m = omega arith
  again_within (Opened true task part) m = tt
  again_within AtStart m = tt
  again_within AtEnd m = tt
  again_within (AtHalt k why) m = tt
  again_within AtUndone m = tt
  again_within (AtRefused k code) m = tt

  stop_within : (stage : Stage M) (m : Machine M) → IsWithin m → StaysWithin (stops M stage m)
  stop_within (Opened true (Gets k op) part) m within = within
  stop_within (Opened true (Sets k op back) part) m within = within
  stop_within (Opened true (Undoes u us) part) m within = tt
  stop_within (Opened false task part) m within = tt
  stop_within AtStart m within = tt
  stop_within AtEnd m within = tt
  stop_within (AtHalt k why) m within = tt
  stop_within AtUndone m within = tt
  stop_within (AtRefused k code) m within = tt

  reply_within : (stage : Stage M) (a : Answered) (m : Machine M) → StaysWithin (replies M a stage m)
  reply_within (Opened true task part) a m = cond_both (is_busy a.code) None (Some (takes M a task part m)) StaysWithin (λ _. tt) (λ _. omega arith)
  reply_within (Opened false task part) a m = tt
  reply_within AtStart a m = tt
  reply_within AtEnd a m = tt
  reply_within (AtHalt k why) a m = tt
  reply_within AtUndone a m = tt
  reply_within (AtRefused k code) a m = tt

  restart_within : (stage : Stage M) (m : Machine M) → IsWithin m → IsWithin (restarts M stage m)
  restart_within (Opened heeded task part) m within = omega arith
  restart_within AtStart m within = within
  restart_within AtEnd m within = within
  restart_within (AtHalt k why) m within = within
  restart_within AtUndone m within = within
  restart_within (AtRefused k code) m within = within

module _ (F : Family) (L : Bus → Line) (W : Wires F.words) where
  abbrev WorldWithin : World F L → Type 0
  WorldWithin w = IsWithin F.words w.machine

  opens_within : (o : Option (Turn F.words)) (w : World F L) → WorldWithin w → StaysWithin F.words o → WorldWithin (world.opens F L W o w)
  opens_within None w within o = within
  opens_within (Some t) w within o = o

  repeats_within : (o : Option (Turn F.words)) (w : World F L) → WorldWithin w → StaysWithin F.words o → WorldWithin (world.repeats F L W o w)
  repeats_within None w within o = within
  repeats_within (Some t) w within o = o

  resumes_within : (retries : ℕ) (stage : Stage F.words) (w : World F L) → WorldWithin w → WorldWithin (world.resumes F L W retries stage w)
  resumes_within retries AtEnd w within = omega arith
  resumes_within retries (AtHalt k why) w within = omega arith
  resumes_within retries AtStart w within = within
  resumes_within retries (Opened heeded task part) w within = within
  resumes_within retries AtUndone w within = within
  resumes_within retries (AtRefused k code) w within = within

  answered_within : (bus : Bus) (e : (L bus).Event) (o : Option (Turn F.words)) (w : World F L) → WorldWithin w → StaysWithin F.words o → WorldWithin (world.answered F L W bus e o w)
  answered_within bus e None w within o = within
  answered_within bus e (Some t) w within o = o

  brought_within : (bus : Bus) (e : (L bus).Event) (o : Option (List ℕ)) (w : World F L) → WorldWithin w → WorldWithin (world.brought F L W bus e o w)
  brought_within bus e None w within = within
  brought_within bus e (Some reply) w within = answered_within bus e (reply_of F.words (W.answered_from bus reply) w.machine) w within (reply_within F.words w.machine.stage (W.answered_from bus reply) w.machine)

  looks_within : (bus : Bus) (e : (L bus).Event) (b : Bool) (w : World F L) → WorldWithin w → WorldWithin (world.looks F L W bus e b w)
  looks_within bus e false w within = within
  looks_within bus e true w within = brought_within bus e ((L bus).brings (w.on bus) e) w within

  returns_within : (bus : Bus) (e : (L bus).Event) (stage : Stage F.words) (w : World F L) → WorldWithin w → WorldWithin (world.returns F L W bus e stage w)
  returns_within bus e (Opened true task part) w within = looks_within bus e (same_bus bus (bus_at F.words part)) w within
  returns_within bus e (Opened false task part) w within = within
  returns_within bus e AtStart w within = within
  returns_within bus e AtEnd w within = within
  returns_within bus e (AtHalt k why) w within = within
  returns_within bus e AtUndone w within = within
  returns_within bus e (AtRefused k code) w within = within

  happens_within : (w : World F L) (e : Happening F L) → WorldWithin w → WorldWithin (happens F L W w e)
  happens_within w (Calls Start) within = opens_within _ w within (start_within F.words w.machine.stage w.machine)
  happens_within w (Calls Quiet) within = repeats_within _ w within (quiet_within F.words w.machine.stage w.machine within)
  happens_within w (Calls Stop) within = opens_within _ w within (stop_within F.words w.machine.stage w.machine within)
  happens_within w (Calls Again) within = repeats_within _ w within (again_within F.words w.machine.stage w.machine)
  happens_within w (Calls Undo) within = opens_within _ w within (undo_within F.words w.machine.stage w.machine)
  happens_within w (Resume retries) within = resumes_within retries w.machine.stage w within
  happens_within w Restart within = restart_within F.words w.machine.stage w.machine within
  happens_within w (ToManager bus e) within = returns_within bus e w.machine.stage w within
  happens_within w (OnBus bus e after) within = within
  happens_within w (OnBench after) within = within

  run_within : (events : List (Happening F L)) (w : World F L) → WorldWithin w → WorldWithin (run F L W events w)
  run_within [] w within = within
  run_within (e ∷ es) w within = run_within es (happens F L W w e) (happens_within w e within)

  pub restarts_are_silences : RestartsAreSilences F L W
  restarts_are_silences plan retries on board events =
      let w = run F L W events (opening F L plan retries on board) in
      silence_at F.words w.machine.stage w.machine refl (run_within events (opening F L plan retries on board) (omega arith))
