-- The calls of a manager are the machine's.
use Rattle.std.proofs.Common.{◌≡◌, ℕ, ◌+◌, Bool, true, false, nat_lt, List, length, Option, Some, None, Ok, Err, if◌then◌else◌, ◌⊎◌, inl, inr, refl, sym, ◌∙◌, ap, subst}
use Rattle.std.specs.Option.{option_map}
use Rattle.std.specs.Prelude.{slice_get}
use Rattle.record_base.specs.declared.op.Op.{Op}
use Rattle.record_base.specs.declared.message.Asked.{Asked}
use Rattle.undo_plans.specs.declared.names.Names.{Names}
use Rattle.undo_plans.specs.Requests.{RequestList}
use Rattle.model_undo.specs.Machine as machine
use Rattle.model_undo.specs.declared.call.Call.{Call}
use Rattle.model_lab.specs.ManagerSteps.{board_plans, ManagerState, waits_after, called, goes_on, sent_of}
use Rattle.undo_core.specs.declared.stage.Task.{Task}
use Rattle.undo_core.specs.declared.stage.Stage.{Stage}
use Rattle.undo_core.specs.declared.stage.Stage.TheVariants as stage
use Rattle.undo_core.specs.declared.phase.WrongPhase.{WrongPhase}
use Rattle.undo_core.specs.declared.sending.Sent.{Sent}
use Rattle.undo_core.specs.declared.manager.Manager.{Manager}
use Rattle.undo_core.specs.Shown.{words_of, own, IsTask, IsGot, IsStage, Represents, IsSent, IsStepResult, IsCalled}
use Rattle.undo_core.specs.Counted.{counts_of}
use Rattle.model_undo.specs.declared.phase.Why.{Why}
use Rattle.model_undo.specs.declared.phase.Phase.{Phase}
use Rattle.model_undo.specs.declared.phase.Phase.TheVariants as phase

module _ (names : Names) (plan : List Op) (requests : RequestList) (replies : List ℕ) where
  -- which stage of a manager shows a stage of the machine
  pub is_start : (r : Stage) → IsStage names plan requests replies r machine.AtStart → r ≡ stage.AtStart
  is_start stage.AtStart is = refl
  is_start (stage.Opened heeded task parts asked) is = absurd is
  is_start stage.AtEnd is = absurd is
  is_start (stage.AtHalt k why) is = absurd is
  is_start stage.AtUndone is = absurd is
  is_start (stage.AtRefused k code) is = absurd is

  pub is_end : (r : Stage) → IsStage names plan requests replies r machine.AtEnd → r ≡ stage.AtEnd
  is_end stage.AtStart is = absurd is
  is_end (stage.Opened heeded task parts asked) is = absurd is
  is_end stage.AtEnd is = refl
  is_end (stage.AtHalt k why) is = absurd is
  is_end stage.AtUndone is = absurd is
  is_end (stage.AtRefused k code) is = absurd is

  -- which stage of the machine a stage of a manager shows
  pub shows_start : (t : machine.Stage (words_of names)) → IsStage names plan requests replies stage.AtStart t → t ≡ machine.AtStart
  shows_start machine.AtStart is = refl
  shows_start (machine.Opened heeded task part) is = absurd is
  shows_start machine.AtEnd is = absurd is
  shows_start (machine.AtHalt k why) is = absurd is
  shows_start machine.AtUndone is = absurd is
  shows_start (machine.AtRefused k code) is = absurd is

  -- the machine's task, and its part, where a request is open
  pub record IsOpened (heeded : Bool) (task : Task) (parts : ℕ) (asked : Asked) (t : machine.Stage (words_of names)) : Type 0 where
    pub of : machine.Task (words_of names)
    pub part : machine.Part (words_of names)
    pub is : t ≡ machine.Opened heeded of part
    pub task_is : IsTask names plan requests task of
    pub counted : length part.before ≡ parts
    pub got : IsGot task replies part.before
    pub asked_is : own names asked ≡ part.asked

  pub shows_opened : (heeded : Bool) (task : Task) (parts : ℕ) (asked : Asked) (t : machine.Stage (words_of names)) → IsStage names plan requests replies (stage.Opened heeded task parts asked) t
      → IsOpened heeded task parts asked t
  shows_opened heeded task parts asked machine.AtStart is = absurd is
  shows_opened heeded task parts asked (machine.Opened heeds of part) is =
      record { of = of; part = part; is = ap (λ (h : Bool). machine.Opened h of part) is.0; task_is = is.1; counted = is.2; got = is.3; asked_is = is.4 }
  shows_opened heeded task parts asked machine.AtEnd is = absurd is
  shows_opened heeded task parts asked (machine.AtHalt k why) is = absurd is
  shows_opened heeded task parts asked machine.AtUndone is = absurd is
  shows_opened heeded task parts asked (machine.AtRefused k code) is = absurd is

  -- a request is open at the manager where one is at the machine
  pub is_opened : (r : Stage) (heeds : Bool) (of : machine.Task (words_of names)) (part : machine.Part (words_of names)) → IsStage names plan requests replies r (machine.Opened heeds of part)
      → (task : Task) × (parts : ℕ) × (asked : Asked) × (r ≡ stage.Opened heeds task parts asked) × IsTask names plan requests task of
  is_opened stage.AtStart heeds of part is = absurd is
  is_opened (stage.Opened heeded task parts asked) heeds of part is = (task, parts, asked, ap (λ (h : Bool). stage.Opened h task parts asked) (sym is.0), is.1)
  is_opened stage.AtEnd heeds of part is = absurd is
  is_opened (stage.AtHalt k why) heeds of part is = absurd is
  is_opened stage.AtUndone heeds of part is = absurd is
  is_opened (stage.AtRefused k code) heeds of part is = absurd is

-- a stage is entered, and its request is sent
pub enters_does : (names : Names) (m : Manager) (s : ManagerState (board_plans names)) (t : machine.Stage (words_of names)) (sent : Option Sent)
    → Represents names m (record s { machine = record s.machine { stage = t; resent = 0 } })
    → IsSent sent (option_map (sent_of (board_plans names) names) (machine.sends_at (words_of names) t (counts_of m.counts)))
    → IsStepResult names m sent (goes_on (board_plans names) s (machine.enters (words_of names) t s.machine))
enters_does names m s t sent shows is =
    (shows, subst (IsSent sent) (λ i. option_map (sent_of (board_plans names) (sym shows.is_named i)) (machine.sends_at (words_of names) t (sym shows.counts i))) is)

-- the open request is sent again, as so many times
pub resends_does : (names : Names) (m : Manager) (s : ManagerState (board_plans names)) (times : ℕ) (sent : Option Sent)
    → Represents names m (record s { machine = record s.machine { resent = times } })
    → IsSent sent (option_map (sent_of (board_plans names) names) (machine.sends_at (words_of names) s.machine.stage (counts_of m.counts)))
    → IsStepResult names m sent (goes_on (board_plans names) s (record { machine = record s.machine { resent = times }; sends = machine.sends_at (words_of names) s.machine.stage s.machine.counts }))
resends_does names m s times sent shows is =
    (shows, subst (IsSent sent) (λ i. option_map (sent_of (board_plans names) (sym shows.is_named i)) (machine.sends_at (words_of names) s.machine.stage (sym shows.counts i))) is)

-- nothing is sent
pub rests_does : (names : Names) (m : Manager) (s : ManagerState (board_plans names)) (after : machine.Machine (words_of names)) → Represents names m (record s { machine = after })
    → IsStepResult names m None (goes_on (board_plans names) s (machine.rests (words_of names) after))
rests_does names m s after shows = (shows, tt)

-- a call for which the machine has no turn is refused
pub refused : (names : Names) (call : Call) (m : Manager) (s : ManagerState (board_plans names)) (wrong : WrongPhase) → Represents names m s
    → machine.call_of (words_of names) call s.machine ≡ None → IsCalled names s m (Err wrong) (called (board_plans names) call s)
unfolding called
refused names call m s wrong shows none =
    subst (IsCalled names s m (Err wrong)) (sym (ap (option_map (goes_on (board_plans names) (record s { joined = waits_after (board_plans names) call s.joined }))) none)) shows

-- one for which it has a turn is made
pub made : (names : Names) (call : Call) (m : Manager) (s : ManagerState (board_plans names)) (sent : Option Sent) (t : machine.Turn (words_of names))
    → machine.call_of (words_of names) call s.machine ≡ Some t
    → IsCalled names s m (Ok sent) (Some (goes_on (board_plans names) (record s { joined = waits_after (board_plans names) call s.joined }) t))
    → IsCalled names s m (Ok sent) (called (board_plans names) call s)
unfolding called
made names call m s sent t turn does =
    subst (IsCalled names s m (Ok sent)) (sym (ap (option_map (goes_on (board_plans names) (record s { joined = waits_after (board_plans names) call s.joined }))) turn)) does

-- ---- start

pub no_start : (names : Names) (m : Manager) (s : ManagerState (board_plans names)) → Represents names m s → (m.stage ≡ stage.AtStart → ⊥) → machine.start_of (words_of names) s.machine ≡ None
no_start names m s shows other = at s.machine.stage shows.stage where
  at : (t : machine.Stage (words_of names)) → IsStage names m.steps m.undo.requests m.replies m.stage t → machine.starts (words_of names) t s.machine ≡ None
  at machine.AtStart is = absurd (other (is_start names m.steps m.undo.requests m.replies m.stage is))
  at (machine.Opened heeded task part) is = refl
  at machine.AtEnd is = refl
  at (machine.AtHalt k why) is = refl
  at machine.AtUndone is = refl
  at (machine.AtRefused k code) is = refl

pub first_is_next : (names : Names) (o : Option Op) → machine.next_stage (words_of names) false 0 o ≡ machine.first_stage (words_of names) o
first_is_next names None = refl
first_is_next names (Some op) = refl

pub start_turn : (names : Names) (m : machine.Machine (words_of names)) → m.stage ≡ machine.AtStart
    → machine.start_of (words_of names) m ≡ Some (machine.enters (words_of names) (machine.first_stage (words_of names) (slice_get m.plan 0)) m)
start_turn names m is = ap (λ (t : machine.Stage (words_of names)). machine.starts (words_of names) t m) is

-- ---- quiet

pub no_quiet : (names : Names) (m : Manager) (s : ManagerState (board_plans names)) → Represents names m s → ((task : Task) (parts : ℕ) (asked : Asked) → m.stage ≡ stage.Opened true task parts asked → ⊥)
    → machine.quiet_of (words_of names) s.machine ≡ None
no_quiet names m s shows other = at s.machine.stage shows.stage where
  at : (t : machine.Stage (words_of names)) → IsStage names m.steps m.undo.requests m.replies m.stage t → machine.quiets (words_of names) t s.machine ≡ None
  at machine.AtStart is = refl
  at (machine.Opened true task part) is =
      let o = is_opened names m.steps m.undo.requests m.replies m.stage true task part is in
      absurd (other o.0 o.1 o.2 o.3)
  at (machine.Opened false task part) is = refl
  at machine.AtEnd is = refl
  at (machine.AtHalt k why) is = refl
  at machine.AtUndone is = refl
  at (machine.AtRefused k code) is = refl

pub quiet_resends : (names : Names) (m : machine.Machine (words_of names)) (of : machine.Task (words_of names)) (part : machine.Part (words_of names)) → m.stage ≡ machine.Opened true of part
    → nat_lt m.resent m.retries ≡ true
    → machine.quiet_of (words_of names) m ≡ Some (record { machine = record m { resent = m.resent + 1 }; sends = machine.sends_at (words_of names) m.stage m.counts })
quiet_resends names m of part is less =
    ap (λ (t : machine.Stage (words_of names)). machine.quiets (words_of names) t m) is
    ∙ ap (λ (b : Bool). if b
    then Some (record { machine = record m { resent = m.resent + 1 }; sends = Some (machine.sending (words_of names) part m.counts) })
    else Some (machine.rests (words_of names) (record m { stage = machine.Opened false of part }))) less
    ∙ ap (λ (t : machine.Stage (words_of names)). Some (record { machine = record m { resent = m.resent + 1 }; sends = machine.sends_at (words_of names) t m.counts })) (sym is)

pub quiet_unsettles : (names : Names) (m : machine.Machine (words_of names)) (of : machine.Task (words_of names)) (part : machine.Part (words_of names)) → m.stage ≡ machine.Opened true of part
    → nat_lt m.resent m.retries ≡ false
    → machine.quiet_of (words_of names) m ≡ Some (machine.rests (words_of names) (record m { stage = machine.Opened false of part }))
quiet_unsettles names m of part is enough =
    ap (λ (t : machine.Stage (words_of names)). machine.quiets (words_of names) t m) is
    ∙ ap (λ (b : Bool). if b
    then Some (record { machine = record m { resent = m.resent + 1 }; sends = Some (machine.sending (words_of names) part m.counts) })
    else Some (machine.rests (words_of names) (record m { stage = machine.Opened false of part }))) enough

-- ---- again

pub no_again : (names : Names) (m : Manager) (s : ManagerState (board_plans names)) → Represents names m s → ((task : Task) (parts : ℕ) (asked : Asked) → m.stage ≡ stage.Opened false task parts asked → ⊥)
    → machine.again_of (words_of names) s.machine ≡ None
no_again names m s shows other = at s.machine.stage shows.stage where
  at : (t : machine.Stage (words_of names)) → IsStage names m.steps m.undo.requests m.replies m.stage t → machine.agains (words_of names) t s.machine ≡ None
  at machine.AtStart is = refl
  at (machine.Opened true task part) is = refl
  at (machine.Opened false task part) is =
      let o = is_opened names m.steps m.undo.requests m.replies m.stage false task part is in
      absurd (other o.0 o.1 o.2 o.3)
  at machine.AtEnd is = refl
  at (machine.AtHalt k why) is = refl
  at machine.AtUndone is = refl
  at (machine.AtRefused k code) is = refl

pub again_turn : (names : Names) (m : machine.Machine (words_of names)) (of : machine.Task (words_of names)) (part : machine.Part (words_of names)) → m.stage ≡ machine.Opened false of part
    → machine.again_of (words_of names) m ≡ Some (machine.enters (words_of names) (machine.Opened true of part) m)
again_turn names m of part is = ap (λ (t : machine.Stage (words_of names)). machine.agains (words_of names) t m) is

-- ---- stop

pub no_stop : (names : Names) (m : machine.Machine (words_of names)) (p : Phase) → p ≡ machine.phase_of (words_of names) m → ((k : ℕ) → p ≡ phase.Getting k → ⊥) → ((k : ℕ) → p ≡ phase.Setting k → ⊥)
    → machine.stop_of (words_of names) m ≡ None
no_stop names m p shown no_get no_set = at m.stage shown where
  at : (t : machine.Stage (words_of names)) → p ≡ machine.phase_at (words_of names) t → machine.stops (words_of names) t m ≡ None
  at machine.AtStart is = refl
  at (machine.Opened true (machine.Gets k op) part) is = absurd (no_get k is)
  at (machine.Opened true (machine.Sets k op back) part) is = absurd (no_set k is)
  at (machine.Opened true (machine.Undoes first rest) part) is = refl
  at (machine.Opened false task part) is = refl
  at machine.AtEnd is = refl
  at (machine.AtHalt k why) is = refl
  at machine.AtUndone is = refl
  at (machine.AtRefused k code) is = refl

getting_stops : (names : Names) (m : machine.Machine (words_of names)) (k : ℕ) (t : machine.Stage (words_of names)) → machine.phase_at (words_of names) t ≡ phase.Getting k
    → machine.stops (words_of names) t m ≡ Some (machine.rests (words_of names) (record m { stopped = true }))
getting_stops names m k machine.AtStart is = absurd (cc)
getting_stops names m k (machine.Opened true (machine.Gets j op) part) is = refl
getting_stops names m k (machine.Opened true (machine.Sets j op back) part) is = refl
getting_stops names m k (machine.Opened true (machine.Undoes first rest) part) is = absurd (cc)
getting_stops names m k (machine.Opened false task part) is = absurd (cc)
getting_stops names m k machine.AtEnd is = absurd (cc)
getting_stops names m k (machine.AtHalt j why) is = absurd (cc)
getting_stops names m k machine.AtUndone is = absurd (cc)
getting_stops names m k (machine.AtRefused j code) is = absurd (cc)

setting_stops : (names : Names) (m : machine.Machine (words_of names)) (k : ℕ) (t : machine.Stage (words_of names)) → machine.phase_at (words_of names) t ≡ phase.Setting k
    → machine.stops (words_of names) t m ≡ Some (machine.rests (words_of names) (record m { stopped = true }))
setting_stops names m k machine.AtStart is = absurd (cc)
setting_stops names m k (machine.Opened true (machine.Gets j op) part) is = refl
setting_stops names m k (machine.Opened true (machine.Sets j op back) part) is = refl
setting_stops names m k (machine.Opened true (machine.Undoes first rest) part) is = absurd (cc)
setting_stops names m k (machine.Opened false task part) is = absurd (cc)
setting_stops names m k machine.AtEnd is = absurd (cc)
setting_stops names m k (machine.AtHalt j why) is = absurd (cc)
setting_stops names m k machine.AtUndone is = absurd (cc)
setting_stops names m k (machine.AtRefused j code) is = absurd (cc)

pub stop_turn : (names : Names) (m : machine.Machine (words_of names)) (p : Phase) → p ≡ machine.phase_of (words_of names) m → ((k : ℕ) × (p ≡ phase.Getting k)) ⊎ ((k : ℕ) × (p ≡ phase.Setting k))
    → machine.stop_of (words_of names) m ≡ Some (machine.rests (words_of names) (record m { stopped = true }))
stop_turn names m p shown (inl w) = getting_stops names m w.0 m.stage (sym shown ∙ w.1)
stop_turn names m p shown (inr w) = setting_stops names m w.0 m.stage (sym shown ∙ w.1)

-- ---- undo

is_halt : (names : Names) (plan : List Op) (requests : RequestList) (replies : List ℕ) (r : Stage) (k : ℕ) (why : Why) → IsStage names plan requests replies r (machine.AtHalt k why) → (j : ℕ) × (cause : Why) × (r ≡ stage.AtHalt j cause)
is_halt names plan requests replies stage.AtStart k why is = absurd is
is_halt names plan requests replies (stage.Opened heeded task parts asked) k why is = absurd is
is_halt names plan requests replies stage.AtEnd k why is = absurd is
is_halt names plan requests replies (stage.AtHalt j cause) k why is = (j, cause, refl)
is_halt names plan requests replies stage.AtUndone k why is = absurd is
is_halt names plan requests replies (stage.AtRefused j code) k why is = absurd is

pub no_undo : (names : Names) (m : Manager) (s : ManagerState (board_plans names)) → Represents names m s → (m.stage ≡ stage.AtEnd → ⊥) → ((k : ℕ) (why : Why) → m.stage ≡ stage.AtHalt k why → ⊥)
    → machine.undo_of (words_of names) s.machine ≡ None
no_undo names m s shows no_end no_halt = at s.machine.stage shows.stage where
  at : (t : machine.Stage (words_of names)) → IsStage names m.steps m.undo.requests m.replies m.stage t → machine.undoes (words_of names) t s.machine ≡ None
  at machine.AtStart is = refl
  at (machine.Opened heeded task part) is = refl
  at machine.AtEnd is = absurd (no_end (is_end names m.steps m.undo.requests m.replies m.stage is))
  at (machine.AtHalt k why) is =
      let h = is_halt names m.steps m.undo.requests m.replies m.stage k why is in
      absurd (no_halt h.0 h.1 h.2)
  at machine.AtUndone is = refl
  at (machine.AtRefused k code) is = refl

end_undoes : (names : Names) (plan : List Op) (requests : RequestList) (replies : List ℕ) (m : machine.Machine (words_of names)) (t : machine.Stage (words_of names)) → IsStage names plan requests replies stage.AtEnd t
    → machine.undoes (words_of names) t m ≡ Some (machine.enters (words_of names) (machine.undo_stage (words_of names) m.undo) m)
end_undoes names plan requests replies m machine.AtStart is = absurd is
end_undoes names plan requests replies m (machine.Opened heeded task part) is = absurd is
end_undoes names plan requests replies m machine.AtEnd is = refl
end_undoes names plan requests replies m (machine.AtHalt k why) is = absurd is
end_undoes names plan requests replies m machine.AtUndone is = absurd is
end_undoes names plan requests replies m (machine.AtRefused k code) is = absurd is

halt_undoes : (names : Names) (plan : List Op) (requests : RequestList) (replies : List ℕ) (m : machine.Machine (words_of names)) (j : ℕ) (cause : Why) (t : machine.Stage (words_of names))
    → IsStage names plan requests replies (stage.AtHalt j cause) t → machine.undoes (words_of names) t m ≡ Some (machine.enters (words_of names) (machine.undo_stage (words_of names) m.undo) m)
halt_undoes names plan requests replies m j cause machine.AtStart is = absurd is
halt_undoes names plan requests replies m j cause (machine.Opened heeded task part) is = absurd is
halt_undoes names plan requests replies m j cause machine.AtEnd is = absurd is
halt_undoes names plan requests replies m j cause (machine.AtHalt k why) is = refl
halt_undoes names plan requests replies m j cause machine.AtUndone is = absurd is
halt_undoes names plan requests replies m j cause (machine.AtRefused k code) is = absurd is

pub undo_turn : (names : Names) (m : Manager) (s : ManagerState (board_plans names)) → Represents names m s → (m.stage ≡ stage.AtEnd) ⊎ ((k : ℕ) × (why : Why) × (m.stage ≡ stage.AtHalt k why))
    → machine.undo_of (words_of names) s.machine ≡ Some (machine.enters (words_of names) (machine.undo_stage (words_of names) s.machine.undo) s.machine)
undo_turn names m s shows (inl ended) =
    end_undoes names m.steps m.undo.requests m.replies s.machine s.machine.stage (subst (λ (r : Stage). IsStage names m.steps m.undo.requests m.replies r s.machine.stage) ended shows.stage)
undo_turn names m s shows (inr halted) =
    halt_undoes names m.steps m.undo.requests m.replies s.machine halted.0 halted.1 s.machine.stage (subst (λ (r : Stage). IsStage names m.steps m.undo.requests m.replies r s.machine.stage) halted.2 shows.stage)
