-- What a journal says, and what is no journal.
use Rattle.std.specs.Prelude.{◌≤◌, length}
use Rattle.undo_plans.specs.declared.journal.Contents.{Contents}
use Rattle.undo_plans.specs.declared.journal_view.JournalView.{JournalView}
use Rattle.undo_plans.specs.declared.journal.JournalFault.{JournalFault}
use Rattle.undo_plans.specs.declared.journal.JournalFault.TheVariants as fault
use Rattle.undo_plans.specs.Bounds.{most_kept}
use Rattle.undo_plans.specs.KeptManager.{IsStageOf, IsToldToStop, AreFew, Kept, waiting_at}

-- what the contents say
abbrev pub kept_in : Contents → Kept
kept_in contents = record {
  plan = contents.steps;
  retries = contents.retries;
  names = contents.names;
  listed = contents.listed;
  stage = contents.stage;
  stopped = contents.stopped;
  members = contents.requests.members;
  waiting = waiting_at contents.stage contents.requests.waiting;
  counts = contents.counts;
  replies = contents.replies.items;
}

-- what a journal says where it lies
abbrev pub kept_of : JournalView → Kept
kept_of view = record {
  plan = view.steps.now;
  retries = view.retries;
  names = view.names.now;
  listed = view.listed.now;
  stage = view.stage;
  stopped = view.stopped;
  members = view.requests.now.members;
  waiting = waiting_at view.stage view.requests.now.waiting;
  counts = view.counts;
  replies = view.replies.now;
}

-- ---- what is no journal

-- with these steps and these requests that undo a manager can be at this stage
abbrev pub StageFits : Contents → Type 0
StageFits contents = IsStageOf contents.steps contents.requests contents.stage

-- a plan that has a request open is to stop
abbrev pub StopFits : Contents → Type 0
StopFits contents = IsToldToStop contents.stage contents.stopped

-- no more requests were answered than a manager has by this stage
abbrev pub CountsFit : Contents → Type 0
CountsFit contents = AreFew (length contents.steps) (length contents.requests.members) contents.stage contents.counts

-- there are no more data than the replies to the open Get show
abbrev pub RepliesFit : Contents → Type 0
RepliesFit contents = length contents.replies.items ≤ most_kept contents.stage

-- this is the first of these that doesn't hold
abbrev pub IsFault : JournalFault → Contents → Type 0
IsFault fault.Stage contents = ¬ StageFits contents
IsFault fault.Stopped contents = StageFits contents × ¬ StopFits contents
IsFault fault.Counts contents = StageFits contents × StopFits contents × ¬ CountsFit contents
IsFault fault.Replies contents = StageFits contents × StopFits contents × CountsFit contents × ¬ RepliesFit contents
