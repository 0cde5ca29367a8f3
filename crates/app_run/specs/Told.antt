-- What a run and an undo tell on a terminal of how far they are.
use Rattle.std.specs.Prelude.{◌≡◌, ◌⊎◌, ℕ, List, [], ◌∷◌, Option, Some, Ok, length, map}
use Rattle.record_base.specs.declared.op.Op.{Op}
use Rattle.record_base.specs.declared.message.Asked.{Asked}
use Rattle.undo_plans.specs.declared.plan.Plan.{Plan}
use Rattle.undo_plans.specs.declared.undo_list.UndoList.{UndoList}
use Rattle.plan_file.specs.declared.kind.Kind.{Kind}
use Rattle.plan_file.specs.Kinds.{kind_of}
use Rattle.plan_file.specs.PlanHolds.{ReadsPlan}
use Rattle.text_lines.specs.UndoText.{IsTextOf}
use Rattle.undo_plans.specs.KeptManager.{Kept}
use Rattle.undo_core.specs.Journals.{kept_by}
use Rattle.model_undo.specs.declared.call.Call.{Call}
use Rattle.model_undo.specs.declared.call.Call.TheVariants.{Start, Undo, Again}
use Rattle.model_undo.specs.Machine.{phase_of}
use Rattle.model_lab.specs.Meaning.{lab_names}
use Rattle.undo_core.specs.declared.manager.Manager.{Manager}
use Rattle.undo_core.specs.Shown.{words_of, AreOthers, Represents}
use Rattle.bmc_ports.specs.Driving.{Links}
use Rattle.bmc_ports.specs.Conversation.{BothLinks}
use Rattle.bmc_ports.specs.Observing.{Look, SeesAll, permit_at}
use Rattle.wire_links.specs.declared.udp_link.UdpLink.{UdpLink}
use Rattle.wire_links.specs.contracts.udp_link.UdpLinkLink.TheImpl as udp
use Rattle.app_journal.specs.Reviving.{IsMadeOf}
use Rattle.app_journal.specs.declared.files.WritesFiles.{Ghosts}
use Rattle.app_journal.specs.declared.undo_files.UndoFiles.{UndoFiles}
use Rattle.app_journal.specs.Claiming.{HoldsFiles}
use Rattle.app_base.specs.declared.files.TextFiles as texts
use Rattle.std.specs.declared.alloc.AllocError.{AllocError}
use Rattle.app_base.specs.Files.{Readings}
use Rattle.app_run.specs.declared.progress.Snapshot.{Snapshot}
use Rattle.app_run.specs.declared.progress.Progress.{Progress}
use Rattle.app_run.specs.Driven.{DriveEnd, DrivenState, opened_with, resumed_from}
use Rattle.app_run.specs.Course.{CallWay, OwnWay}
use Rattle.app_run.specs.Progress.{EndsLine, MayTell}

-- the manager is there
pub record IsAt (manager : Manager) (now : Snapshot) : Type 0 where
  pub phase : (state : DrivenState) → Represents lab_names manager state → now.phase ≡ phase_of (words_of lab_names) state.machine
  pub resent : (state : DrivenState) → Represents lab_names manager state → now.resent ≡ state.machine.resent

-- These are the looks at a manager that was made of a text, was called to try again and was driven over links.
pub record IsSettling (looks : List Look) : Type 0 where
  pub text : List ℕ
  pub revived : Manager
  pub made : IsMadeOf text revived
  pub way : (state : DrivenState) → Represents lab_names revived state
      → (last : Manager) × (end : DriveEnd) × (links : BothLinks UdpLink UdpLink) × (left : BothLinks UdpLink UdpLink)
      × CallWay udp.ghosts udp.ghosts lab_names Again state looks last links left (permit_at end)

-- how many steps are told of a manager of this journal: those of its plan, or the requests of its list where it goes on from one
abbrev pub steps_among : List Op → List Asked → ℕ
steps_among [] members = length members
steps_among (op ∷ plan) members = length (op ∷ plan)

abbrev pub steps_of : Kept → ℕ
steps_of kept = steps_among kept.plan kept.members

module _ {Writer : Type 0} (out : Writer → Option (List ℕ)) where
  -- a look at a manager, whose moment may be told
  abbrev pub LooksOn : List Kind → (steps : ℕ) → (old : Progress Writer) → Manager → (new : Progress Writer) → Type 0
  LooksOn kinds steps old manager new = (now : Snapshot) × IsAt manager now × MayTell out kinds steps now old new

  -- at each of these looks, in their order, the moment may be told, whatever the look answered
  abbrev pub TellsLooks : List Kind → (steps : ℕ) → List Look → (old new : Progress Writer) → Type 0
  TellsLooks kinds steps = SeesAll (λ old manager allowed. LooksOn kinds steps old manager)

  -- ---- a run

  -- a manager was told to start and went its way over links of its own, and the moment of each look of that may be told
  pub record LooksOnWay (kinds : List Kind) (steps : ℕ) (before : DrivenState) (manager : Manager) (old new : Progress Writer) : Type 0 where
    pub end : DriveEnd
    pub counts : Links
    pub looks : List Look
    pub way : OwnWay Start before looks manager end counts
    pub tells : TellsLooks kinds steps looks old new

  -- so may the moments of one that settles what was open when frames were kept back; or nothing is told
  abbrev pub TellsSettling : List Kind → (steps : ℕ) → (old new : Progress Writer) → Type 0
  TellsSettling kinds steps old new = (new ≡ old) ⊎ ((looks : List Look) × IsSettling looks × TellsLooks kinds steps looks old new)

  -- both, one after the other
  abbrev pub LooksOnRun : List Kind → (steps : ℕ) → (before : DrivenState) → (old new : Progress Writer) → Type 0
  LooksOnRun kinds steps before old new = (manager : Manager) × (mid : Progress Writer) × LooksOnWay kinds steps before manager old mid × TellsSettling kinds steps mid new

  -- and then the line is ended
  abbrev pub TellsWay : List Kind → (steps : ℕ) → (before : DrivenState) → (old new : Progress Writer) → Type 0
  TellsWay kinds steps before old new = (mid : Progress Writer) × LooksOnRun kinds steps before old mid × EndsLine out mid new

  -- the same, whatever machine the manager showed before; or nothing is told
  abbrev pub MayTellWay : List Kind → (manager : Manager) → (old new : Progress Writer) → Type 0
  MayTellWay kinds manager old new = (before : DrivenState) → Represents lab_names manager before → (new ≡ old) ⊎ TellsWay kinds (length kinds) before old new

  -- the way of a manager that runs this plan is told, or nothing is
  abbrev pub TellsPlan : Plan → (old new : Progress Writer) → Type 0
  TellsPlan plan old new = (new ≡ old) ⊎ TellsWay (map kind_of plan.steps) (length (map kind_of plan.steps)) (opened_with plan) old new

  -- so a run of a plan's text tells, and of the file of one
  abbrev pub TellsText : (text : List ℕ) → (old new : Progress Writer) → Type 0
  TellsText text old new = (new ≡ old) ⊎ ((plan : Plan) × ReadsPlan text (Ok plan) × TellsPlan plan old new)

  abbrev pub TellsFile : Readings → (named : List ℕ) → (old new : Progress Writer) → Type 0
  TellsFile gives named old new = (new ≡ old) ⊎ ((text : List ℕ) × gives named (Ok text) × TellsText text old new)

  -- ---- an undo

  -- A manager was called so, and the moment of each of these looks may be told. Whatever machine it showed, it went its way over links of its own, with these looks.
  pub record LooksOnRecall (kinds : List Kind) (steps : ℕ) (call : Call) (manager reached : Manager) (old new : Progress Writer) : Type 0 where
    pub end : DriveEnd
    pub counts : Links
    pub looks : List Look
    pub way : (before : DrivenState) → Represents lab_names manager before → OwnWay call before looks reached end counts
    pub tells : TellsLooks kinds steps looks old new

  -- or nothing is told
  abbrev pub MayLookOn : List Kind → (steps : ℕ) → Call → Manager → (old new : Progress Writer) → Type 0
  MayLookOn kinds steps call manager old new = (new ≡ old) ⊎ ((reached : Manager) × LooksOnRecall kinds steps call manager reached old new)

  -- and then the line is ended
  abbrev pub TellsResumed : List Kind → (steps : ℕ) → Manager → (old new : Progress Writer) → Type 0
  TellsResumed kinds steps manager old new = (mid : Progress Writer) × MayLookOn kinds steps Undo manager old mid × EndsLine out mid new

  -- or nothing is told
  abbrev pub MayTellResumed : List Kind → (steps : ℕ) → Manager → (old new : Progress Writer) → Type 0
  MayTellResumed kinds steps manager old new = (new ≡ old) ⊎ TellsResumed kinds steps manager old new

  -- a manager that goes on from the list was told to undo, went its way over links of its own, and the moment of each look of that may be told
  pub record LooksOnUndo (list : UndoList) (old new : Progress Writer) : Type 0 where
    pub last : Manager
    pub end : DriveEnd
    pub counts : Links
    pub looks : List Look
    pub way : OwnWay Undo (resumed_from list) looks last end counts
    pub tells : TellsLooks [] (length list.requests.members) looks old new

  -- that may be told, and then the line is ended
  abbrev pub TellsUndo : UndoList → (old new : Progress Writer) → Type 0
  TellsUndo list old new = (mid : Progress Writer) × ((mid ≡ old) ⊎ LooksOnUndo list old mid) × EndsLine out mid new

  -- the same of a list that has no other names; of one that has some nothing is told
  abbrev pub TellsOfNames : UndoList → (old new : Progress Writer) → Type 0
  TellsOfNames list old new = (new ≡ old) ⊎ ((¬ AreOthers lab_names list.names) × TellsUndo list old new)

  -- of a manager that was made of a journal the settling is told, and then the undo
  abbrev pub LooksOnRevert : List Kind → (steps : ℕ) → Manager → (old new : Progress Writer) → Type 0
  LooksOnRevert kinds steps manager old new =
      (new ≡ old)
      ⊎ ((settled : Manager) × (mid : Progress Writer) × LooksOnRecall kinds steps Again manager settled old mid × MayLookOn kinds steps Undo settled mid new)

  -- and then the line is ended
  abbrev pub TellsRevert : List Kind → (steps : ℕ) → Manager → (old new : Progress Writer) → Type 0
  TellsRevert kinds steps manager old new = (mid : Progress Writer) × LooksOnRevert kinds steps manager old mid × EndsLine out mid new

  -- by the kinds of its plan's steps; or nothing is told
  abbrev pub MayTellRevert : Manager → (old new : Progress Writer) → Type 0
  MayTellRevert manager old new = (new ≡ old) ⊎ TellsRevert (map kind_of (kept_by manager).plan) (steps_of (kept_by manager)) manager old new

  -- so an undo of a journal tells
  abbrev pub TellsJournal : (text : List ℕ) → (old new : Progress Writer) → Type 0
  TellsJournal text old new = (new ≡ old) ⊎ ((manager : Manager) × IsMadeOf text manager × MayTellRevert manager old new)

  -- so one of an undo text, and of the file of either
  abbrev pub TellsUndoText : (text : List ℕ) → (old new : Progress Writer) → Type 0
  TellsUndoText text old new =
      (new ≡ old) ⊎ (((list : UndoList) × IsTextOf text list × TellsOfNames list old new) ⊎ ((manager : Manager) × IsMadeOf text manager × MayTellRevert manager old new))

  abbrev pub TellsUndoFile : Readings → (named : List ℕ) → (old new : Progress Writer) → Type 0
  TellsUndoFile gives named old new = (new ≡ old) ⊎ ((text : List ℕ) × gives named (Ok text) × TellsUndoText text old new)

  -- so one of a word tells, whose file is held first
  abbrev pub TellsUndoOf : {Files : Type 0} → texts.Ghosts Files → Ghosts Files → (word : List ℕ) → (before : Files) → (old new : Progress Writer) → Type 0
  TellsUndoOf {Files} read files word before old new =
      (new ≡ old)
      ⊎ ((held : UndoFiles) × (mid : Files) × HoldsFiles {Refused = AllocError} files word (Ok (Some held)) before mid × TellsUndoFile (read.gives mid) word old new)
