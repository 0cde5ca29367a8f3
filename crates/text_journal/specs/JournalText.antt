-- The text of a journal: what each of its lines may say by what the lines above it say, the journal that a text stands for, and the first bad
-- line of one that stands for none.
use Rattle.std.specs.Prelude.{◌≡◌, ◌≢◌, ◌<◌, ◌≤◌, ◌+◌, ◌⊎◌, ℕ, zero, suc, List, [], ◌∷◌, ◌++◌, length, Bool, true, false, Some, None, codes, ◌^◌}
use Rattle.std.specs.List.{flat_map}
use Rattle.text_lines.specs.Cuts.{ended}
use Rattle.record_base.specs.declared.op.Op.{Op}
use Rattle.record_base.specs.declared.message.Asked.{Asked}
use Rattle.undo_plans.specs.Steps.{most_steps}
use Rattle.undo_plans.specs.Requests.{RequestList}
use Rattle.undo_plans.specs.declared.names.Names.{Names}
use Rattle.undo_plans.specs.declared.journal.Contents.{Contents}
use Rattle.undo_plans.specs.declared.kept_stage.Counts.{Counts}
use Rattle.undo_plans.specs.declared.kept_stage.KeptStage.{KeptStage}
use Rattle.undo_plans.specs.declared.kept_stage.KeptStage.TheVariants.{Fresh}
use Rattle.undo_plans.specs.Bounds.{most_kept}
use Rattle.undo_plans.specs.KeptManager.{Kept, IsStageOf, IsToldToStop, AreFew, waiting_at}
use Rattle.text_lines.specs.UndoText.{BeginsWith}
use Rattle.text_journal.specs.declared.draft.Place.{Place}
use Rattle.text_journal.specs.declared.draft.Place.TheVariants as at
use Rattle.text_journal.specs.declared.draft.Draft.{Draft}
use Rattle.text_journal.specs.JournalLines.{number_line, numbers_line, IsBytesLine, IsNamesLine, IsRequestLine, IsStepLine, stage_line, IsSpelt}

-- ---- what the lines so far say

-- what the next line has to say, how many lines are still to come of the list that it is in, and what is kept so far
pub record Said : Type 0 where
  pub place : Place
  pub left : ℕ
  pub kept : Kept

abbrev pub then : Place → (left : ℕ) → Kept → Said
then place left kept = record { place = place; left = left; kept = kept }

-- in front of the first line nothing is kept: all numbers are 0, and all lists are empty
abbrev pub no_names : Names
no_names = record { own_address = 0; peer_address = 0; own_wire = 0; peer_wire = 0; own_eid = 0; peer_eid = 0 }

abbrev pub nothing : Kept
nothing = record {
  plan = [];
  retries = 0;
  names = no_names;
  listed = None;
  stage = Fresh;
  stopped = false;
  members = [];
  waiting = None;
  counts = record { ipmb = 0; smbus = 0 };
  replies = [];
}

abbrev pub start : Said
start = then at.Version 0 nothing

-- ---- the lines, in their order

-- the version
abbrev pub IsVersion : Kept → (line : List ℕ) → Said → Type 0
IsVersion kept line next = (line ≡ codes "journal 1") × (next ≡ then at.Retries 0 kept)

-- how often the frames of a request may be sent again
abbrev pub IsRetries : Kept → (line : List ℕ) → Said → Type 0
IsRetries kept line next = (n : ℕ) × (line ≡ number_line (codes "retries ") n) × (n < 256) × (next ≡ then at.Names 0 (record kept { retries = n }))

-- the names of the manager and of its controller
abbrev pub AreNames : Kept → (line : List ℕ) → Said → Type 0
AreNames kept line next = (names : Names) × IsNamesLine (codes "names ") line names × (next ≡ then at.Listed 0 (record kept { names = names }))

-- the names in its list of requests that undo, or that the list tells none
abbrev pub AreListed : Kept → (line : List ℕ) → Said → Type 0
AreListed kept line next =
    ((line ≡ codes "unlisted") × (next ≡ then at.Count 0 (record kept { listed = None })))
    ⊎ ((names : Names) × IsNamesLine (codes "listed ") line names × (next ≡ then at.Count 0 (record kept { listed = Some names })))

-- how many steps there are
abbrev pub IsCount : Kept → (line : List ℕ) → Said → Type 0
IsCount kept line next = (n : ℕ) × (line ≡ number_line (codes "steps ") n) × (n ≤ most_steps) × (next ≡ then at.Step n kept)

-- a step, and behind the last how many requests undo
abbrev pub IsStep : (left : ℕ) → Kept → (line : List ℕ) → Said → Type 0
IsStep (suc left) kept line next = (op : Op) × IsStepLine line op × (next ≡ then at.Step left (record kept { plan = kept.plan ++ op ∷ [] }))
IsStep zero kept line next = (n : ℕ) × (line ≡ number_line (codes "undo ") n) × (n ≤ most_steps) × (next ≡ then at.Request n kept)

-- a request that undoes a step, in the order of the steps, and behind the last how many wait: one or none, and no more than a list has
abbrev pub IsUndo : (left : ℕ) → Kept → (line : List ℕ) → Said → Type 0
IsUndo (suc left) kept line next = (asked : Asked) × IsRequestLine line asked × (next ≡ then at.Request left (record kept { members = kept.members ++ asked ∷ [] }))
IsUndo zero kept line next =
    (n : ℕ) × (line ≡ number_line (codes "waiting ") n) × (n ≤ 1) × (n + length kept.members ≤ most_steps) × (next ≡ then at.Waiting n kept)

-- the requests that undo, as a list that has no room
abbrev pub listed_in : Kept → RequestList
listed_in kept = record { members = kept.members; waiting = kept.waiting; places = 0; room = 0 }

-- a manager with these steps and these requests can be at this stage, and a request waits where a Set is open alone
pub record Fits (kept : Kept) (stage : KeptStage) : Type 0 where
  pub stands : IsStageOf kept.plan (listed_in kept) stage
  pub alone : kept.waiting ≡ waiting_at stage kept.waiting

-- the request that waits, and behind it the stage, at which a manager can be with what the lines above say
abbrev pub IsWaiting : (left : ℕ) → Kept → (line : List ℕ) → Said → Type 0
IsWaiting (suc left) kept line next = (asked : Asked) × IsRequestLine line asked × (next ≡ then at.Waiting left (record kept { waiting = Some asked }))
IsWaiting zero kept line next =
    (stage : KeptStage) × (line ≡ stage_line stage) × IsSpelt stage × Fits kept stage × (next ≡ then at.Told 0 (record kept { stage = stage }))

-- whether the plan is to stop: it is where one of its requests is open
abbrev pub told_line : (stopped : Bool) → List ℕ
told_line true = codes "stop"
told_line false = codes "go"

abbrev pub IsTold : Kept → (line : List ℕ) → Said → Type 0
IsTold kept line next =
    (stopped : Bool) × (line ≡ told_line stopped) × IsToldToStop kept.stage stopped × (next ≡ then at.Counts 0 (record kept { stopped = stopped }))

-- how many requests were answered on IPMB and on SMBus: no more than a manager has by this stage
abbrev pub AreCounts : Kept → (line : List ℕ) → Said → Type 0
AreCounts kept line next =
    (counts : Counts) × (line ≡ numbers_line (codes "counts ") counts.ipmb counts.smbus) × (counts.ipmb < 2 ^ 16) × (counts.smbus < 2 ^ 16)
    × AreFew (length kept.plan) (length kept.members) kept.stage counts × (next ≡ then at.Replies 0 (record kept { counts = counts }))

-- what the replies to the open Get show so far, no more than they can
abbrev pub IsShown : Kept → (line : List ℕ) → Said → Type 0
IsShown kept line next =
    (shown : List ℕ) × IsBytesLine (codes "replies ") line shown × (shown ≢ []) × (length shown ≤ most_kept kept.stage)
    × (next ≡ then at.End 0 (record kept { replies = shown }))

-- or that they show nothing
abbrev pub AreReplies : Kept → (line : List ℕ) → Said → Type 0
AreReplies kept line next = ((line ≡ codes "no replies") × (next ≡ then at.End 0 (record kept { replies = [] }))) ⊎ IsShown kept line next

-- the line of this place, where so many lines of its list are still to come; there is none behind the end
abbrev pub IsLine : Place → (left : ℕ) → Kept → (line : List ℕ) → Said → Type 0
IsLine at.Version left = IsVersion
IsLine at.Retries left = IsRetries
IsLine at.Names left = AreNames
IsLine at.Listed left = AreListed
IsLine at.Count left = IsCount
IsLine at.Step left = IsStep left
IsLine at.Request left = IsUndo left
IsLine at.Waiting left = IsWaiting left
IsLine at.Told left = IsTold
IsLine at.Counts left = AreCounts
IsLine at.Replies left = AreReplies
IsLine at.End left = λ kept line next. ⊥

-- ---- the text

-- the line may stand behind lines that say the first, and with it they say the second
abbrev pub Leads : Said → (line : List ℕ) → Said → Type 0
Leads said line next = IsLine said.place said.left said.kept line next

-- the lines lead from what was said in front of them to this
abbrev pub Says : Said → List (List ℕ) → Said → Type 0
Says said [] last = said ≡ last
Says said (line ∷ lines) last = (next : Said) × Leads said line next × Says next lines last

-- the text is lines, each of which a line feed ends, and these say what is kept
pub record IsTextOf (text : List ℕ) (kept : Kept) : Type 0 where
  pub lines : List (List ℕ)
  pub spelt : text ≡ flat_map ended lines
  pub says : Says start lines (then at.End 0 kept)

-- The line of this number, counted from 1, is the text's first bad line: the lines before it are lines of a journal, what stands behind them
-- begins with no line that may come next, and there is something behind them, or a line has to come.
pub record IsFirstBad (text : List ℕ) (number : ℕ) : Type 0 where
  pub before : List (List ℕ)
  pub rest : List ℕ
  pub said : Said
  pub spelt : text ≡ flat_map ended before ++ rest
  pub says : Says start before said
  pub place : number ≡ length before + 1
  pub bad : (more : List ℕ) (next : Said) → ¬ BeginsWith (λ line. Leads said line next) rest more
  pub wanted : (rest ≢ []) ⊎ (said.place ≢ at.End)

-- ---- drafts

-- what the contents keep, as far as they were read
abbrev pub kept_so_far : Contents → Kept
kept_so_far contents = record {
  plan = contents.steps;
  retries = contents.retries;
  names = contents.names;
  listed = contents.listed;
  stage = contents.stage;
  stopped = contents.stopped;
  members = contents.requests.members;
  waiting = contents.requests.waiting;
  counts = contents.counts;
  replies = contents.replies.items;
}

-- what the lines said of which a draft was made
abbrev pub said_in : Draft → Said
said_in draft = then draft.place draft.left (kept_so_far draft.contents)

-- the text begins with a line of this sort, with which the lines say this
abbrev pub Takes : (Sort : List ℕ → Said → Type 0) → (text rest : List ℕ) → Said → Type 0
Takes Sort text rest next = BeginsWith (λ line. Sort line next) text rest

-- it begins with none
abbrev pub Lacks : (Sort : List ℕ → Said → Type 0) → (text : List ℕ) → Type 0
Lacks Sort text = (more : List ℕ) (next : Said) → ¬ Takes Sort text more next

-- What was said so far leaves room for what comes, and is of one manager.
abbrev pub IsOpenAt : Place → (left : ℕ) → Kept → Type 0
IsOpenAt at.Step left kept = (left + length kept.plan ≤ most_steps) × (kept.members ≡ []) × (kept.waiting ≡ None)
IsOpenAt at.Request left kept = (left + length kept.members ≤ most_steps) × (kept.waiting ≡ None)
IsOpenAt at.Waiting left kept = left + length kept.members ≤ most_steps
IsOpenAt at.Told left kept = Fits kept kept.stage
IsOpenAt at.Counts left kept = Fits kept kept.stage × IsToldToStop kept.stage kept.stopped
IsOpenAt at.Replies left kept =
    Fits kept kept.stage × IsToldToStop kept.stage kept.stopped × AreFew (length kept.plan) (length kept.members) kept.stage kept.counts
IsOpenAt at.End left kept =
    Fits kept kept.stage × IsToldToStop kept.stage kept.stopped × AreFew (length kept.plan) (length kept.members) kept.stage kept.counts
    × (length kept.replies ≤ most_kept kept.stage) × (left ≡ 0)
IsOpenAt _ left kept = (kept.plan ≡ []) × (kept.members ≡ []) × (kept.waiting ≡ None)

abbrev pub IsOpen : Said → Type 0
IsOpen said = IsOpenAt said.place said.left said.kept
