-- The replies that a manager takes are the machine's.
use Rattle.std.proofs.Common.{◌≡◌, ℕ, suc, ◌+◌, ◌%◌, ◌≤◌, ◌==◌, Bool, true, false, List, ◌∷◌, ◌++◌, length, take, if◌then◌else◌, Option, Some, None, refl, sym, ◌∙◌, ap, subst, arith}
use Rattle.std.specs.Option.{option_map, option_to_list}
use Rattle.std.specs.Prelude.{get_or, reverse, drop, slice_get}
use Rattle.std.proofs.lemmas.List.{length-map, length-reverse, length-take-le}
use Rattle.std.proofs.lemmas.Option.{slice_get_within}
use Rattle.two_wire.specs.Codes.{success}
use Rattle.two_wire.specs.declared.Bus.{Bus}
use Rattle.record_base.specs.declared.op.Op.{Op}
use Rattle.record_base.specs.declared.message.Asked.{Asked}
use Rattle.record_base.specs.declared.message.Asked.TheVariants.{Ipmi, Pldm}
use Rattle.mctp_net.specs.Places.{seen}
use Rattle.bios_attr.specs.EntryParts.{request_at}
use Rattle.record_kinds.specs.Series.{Series, Sends, set_whole}
use Rattle.undo_plans.specs.declared.names.Names.{Names}
use Rattle.undo_plans.specs.Requests.{RequestList}
use Rattle.bmc_core.specs.Wires.{bus_of}
use Rattle.model_bus.specs.Answered.{Answered}
use Rattle.model_undo.specs.Words.{is_busy}
use Rattle.model_undo.specs.Machine as machine
use Rattle.model_lab.specs.ManagerSteps.{board_plans, ManagerState, sent_of, taken_or, goes_on}
use Rattle.undo_core.specs.declared.stage.Task.{Task}
use Rattle.undo_core.specs.declared.stage.Task.TheVariants as task
use Rattle.undo_core.specs.declared.stage.Stage.{Stage}
use Rattle.undo_core.specs.declared.stage.Stage.TheVariants as stage
use Rattle.undo_core.specs.declared.sending.Sent.{Sent}
use Rattle.undo_core.specs.declared.manager.Manager.{Manager}
use Rattle.undo_core.specs.Counted.{counts_of}
use Rattle.undo_core.specs.Shown.{words_of, own, backs, IsTask, IsGot, IsStage, Represents, IsSent, IsStepResult}
use Rattle.undo_core.proofs.Backs.{backs_push, backs_take}
use Rattle.undo_core.proofs.Going.{one_more, next_sent, more_stage, last_stage, refused_stage}
use Rattle.undo_core.proofs.Calling.{enters_does}

-- ---- what a list that undoes has left

-- after its first series there are the rest, as many as the place says
pub undone_rest : (requests : List Asked) (k : ℕ) (member : Asked) (first : Series) (rest : List Series) → slice_get requests k ≡ Some member → backs (take (suc k) requests) ≡ first ∷ rest
    → (Sends member ≡ first) × (backs (take k requests) ≡ rest) × (k ≡ length rest)
undone_rest requests k member first rest there is =
    let both : Sends member ∷ backs (take k requests) ≡ first ∷ rest = sym (backs_take requests k member there) ∙ is in
    let same : backs (take k requests) ≡ rest = ap (λ (l : List Series). drop 1 l) both in
    let short : k ≤ length requests = omega (arith, slice_get_within requests k member there) in (
      ap (λ (l : List Series). get_or l 0 first) both,
      same,
      sym (length-map (reverse (take k requests)) Sends ∙ length-reverse (take k requests) ∙ length-take-le k requests short) ∙ ap (λ (l : List Series). length l) same,
    )

-- ---- what a reply to a request that undoes leads to

module _ (names : Names) (plan : List Op) (stopped : Bool) (requests : RequestList) (replies : List ℕ) (k parts : ℕ) (a : Answered) where
  -- to the next request of the series
  pub undo_goes_on : (member asked : Asked) (first : Series) (rest : List Series) (part : machine.Part (words_of names)) → slice_get requests.members k ≡ Some member
      → IsTask names plan requests (task.Undoes k) (machine.Undoes first rest) → length part.before ≡ parts → a.code ≡ 0 → request_at member (parts + 1) ≡ Some asked
      → IsStage names plan requests replies (stage.Opened true (task.Undoes k) (parts + 1) asked) (machine.stage_after (words_of names) stopped plan a (machine.Undoes first rest) part)
  undo_goes_on member asked first rest part there is many done made =
      let left = undone_rest requests.members k member first rest there is.1 in
      let next : machine.next_asked (words_of names) a (machine.Undoes first rest) part ≡ option_map (own names) (request_at member (parts + 1)) =
      ap (λ (s : Series). (words_of names).next s (machine.bodies_with (words_of names) a part)) (sym left.0) ∙ next_sent names member part.before a.body parts many in
      subst (IsStage names plan requests replies (stage.Opened true (task.Undoes k) (parts + 1) asked))
      (sym (more_stage names stopped plan a (machine.Undoes first rest) part asked (request_at member (parts + 1)) done next made))
      (refl, is, one_more part.before a.body parts many, tt, refl)

  -- to the next series
  pub undo_ends : (member : Asked) (r : Stage) (first : Series) (rest : List Series) (part : machine.Part (words_of names)) → slice_get requests.members k ≡ Some member
      → IsTask names plan requests (task.Undoes k) (machine.Undoes first rest) → length part.before ≡ parts → a.code ≡ 0 → request_at member (parts + 1) ≡ None
      → IsStage names plan requests replies r (machine.undo_stage (words_of names) (backs (take k requests.members)))
      → IsStage names plan requests replies r (machine.stage_after (words_of names) stopped plan a (machine.Undoes first rest) part)
  undo_ends member r first rest part there is many done made at =
      let left = undone_rest requests.members k member first rest there is.1 in
      let next : machine.next_asked (words_of names) a (machine.Undoes first rest) part ≡ option_map (own names) (request_at member (parts + 1)) =
      ap (λ (s : Series). (words_of names).next s (machine.bodies_with (words_of names) a part)) (sym left.0) ∙ next_sent names member part.before a.body parts many in
      subst (IsStage names plan requests replies r)
      (ap (machine.undo_stage (words_of names)) left.1 ∙ sym (last_stage names stopped plan a (machine.Undoes first rest) part (request_at member (parts + 1)) done next made)) at

  -- to the end, where it was refused
  pub undo_refused : (member : Asked) (code : ℕ) (first : Series) (rest : List Series) (part : machine.Part (words_of names)) → slice_get requests.members k ≡ Some member
      → IsTask names plan requests (task.Undoes k) (machine.Undoes first rest) → a.code ≡ code → (a.code == success) ≡ false
      → IsStage names plan requests replies (stage.AtRefused k code) (machine.stage_after (words_of names) stopped plan a (machine.Undoes first rest) part)
  undo_refused member code first rest part there is same fails =
      let left = undone_rest requests.members k member first rest there is.1 in
      subst (IsStage names plan requests replies (stage.AtRefused k code)) (sym (refused_stage names stopped plan a (machine.Undoes first rest) part fails)) (sym left.2, same)

  -- ---- what a reply to a Set leads to

  -- to the next request of the step
  pub set_goes_on : (op back : Op) (asked : Asked) (part : machine.Part (words_of names)) → slice_get plan k ≡ Some op → requests.waiting ≡ Some (set_whole back) → length part.before ≡ parts
      → a.code ≡ 0 → request_at (set_whole op) (parts + 1) ≡ Some asked
      → IsStage names plan requests replies (stage.Opened true (task.Sets k) (parts + 1) asked) (machine.stage_after (words_of names) stopped plan a (machine.Sets k op back) part)
  set_goes_on op back asked part there waits many done made =
      subst (IsStage names plan requests replies (stage.Opened true (task.Sets k) (parts + 1) asked))
      (sym (more_stage names stopped plan a (machine.Sets k op back) part asked (request_at (set_whole op) (parts + 1)) done (next_sent names (set_whole op) part.before a.body parts many) made))
      (refl, (refl, there, waits), one_more part.before a.body parts many, tt, refl)

  -- to the next step
  pub set_ends : (op back : Op) (r : Stage) (part : machine.Part (words_of names)) → length part.before ≡ parts → a.code ≡ 0 → request_at (set_whole op) (parts + 1) ≡ None
      → IsStage names plan requests replies r (machine.next_stage (words_of names) stopped (suc k) (slice_get plan (suc k)))
      → IsStage names plan requests replies r (machine.stage_after (words_of names) stopped plan a (machine.Sets k op back) part)
  set_ends op back r part many done made at =
      subst (IsStage names plan requests replies r)
      (sym (last_stage names stopped plan a (machine.Sets k op back) part (request_at (set_whole op) (parts + 1)) done (next_sent names (set_whole op) part.before a.body parts many) made)) at

-- ---- a reply is taken

-- a request keeps its bus
pub own_bus : (names : Names) (asked : Asked) → bus_of (own names asked) ≡ bus_of asked
own_bus names (Ipmi from net_fn lun command body) = refl
own_bus names (Pldm from kind command body) = refl

-- the request that waits comes first once it counts
pub waited : (members : List Asked) (waiting : Option Asked) (back : Asked) → waiting ≡ Some back → Sends back ∷ backs members ≡ backs (members ++ option_to_list waiting)
waited members waiting back is = sym (ap (λ (w : Option Asked). backs (members ++ option_to_list w)) is ∙ backs_push members back)

-- a manager took the reply to a task's request
pub record TookReply (names : Names) (a : Answered) (old new : Manager) (sent : Option Sent) (r : Task) (parts : ℕ) (asked : Asked) : Type 0 where
  pub was : old.stage ≡ stage.Opened true r parts asked
  pub free : is_busy a.code ≡ false
  pub named : new.names ≡ old.names
  pub listed : new.undo.names ≡ old.undo.names
  pub plan : new.steps ≡ old.steps
  pub retries : new.retries ≡ old.retries
  pub stopped : new.stopped ≡ old.stopped
  pub resent : new.resent ≡ 0
  pub joined : new.joined ≡ old.joined
  pub undo : (of : machine.Task (words_of names)) (part : machine.Part (words_of names)) → IsTask names old.steps old.undo.requests r of → length part.before ≡ parts
      → machine.undo_after (words_of names) a of part (backs old.undo.requests.members) ≡ backs new.undo.requests.members
  pub counts : counts_of new.counts ≡ machine.one_answered (bus_of asked) (counts_of old.counts)
  pub sequence : new.undo.next.ipmb ≡ new.counts.ipmb % 64
  pub instance : new.undo.next.smbus ≡ new.counts.smbus % 32
  pub stage : (of : machine.Task (words_of names)) (part : machine.Part (words_of names)) → IsTask names old.steps old.undo.requests r of → length part.before ≡ parts
      → IsGot r old.replies part.before
      → IsStage names old.steps new.undo.requests new.replies new.stage (machine.stage_after (words_of names) old.stopped old.steps a of part)
  pub sends : (at : machine.Stage (words_of names)) → new.names ≡ names → IsStage names new.steps new.undo.requests new.replies new.stage at
      → IsSent sent (option_map (sent_of (board_plans names) names) (machine.sends_at (words_of names) at (counts_of new.counts)))

-- the machine takes the reply likewise
took_task : (names : Names) (s : ManagerState (board_plans names)) (a : Answered) (old new : Manager) (sent : Option Sent) (r : Task) (parts : ℕ) (asked : Asked) → Represents names old s
    → TookReply names a old new sent r parts asked → (of : machine.Task (words_of names)) (part : machine.Part (words_of names)) → IsTask names old.steps old.undo.requests r of
    → length part.before ≡ parts → IsGot r old.replies part.before → own names asked ≡ part.asked
    → IsStepResult names new sent (goes_on (board_plans names) s (machine.takes (words_of names) a of part s.machine))
took_task names s a old new sent r parts asked shows took of part is many got asks =
    let M = words_of names in
    let counted : machine.one_answered (machine.bus_at M part) s.machine.counts ≡ counts_of new.counts =
    (λ i. machine.one_answered (bus_of (sym asks i)) (shows.counts i)) ∙ ap (λ (b : Bus). machine.one_answered b (counts_of old.counts)) (own_bus names asked) ∙ sym took.counts in
    let kept : machine.undo_after M a of part s.machine.undo ≡ backs new.undo.requests.members =
    ap (machine.undo_after M a of part) shows.undo ∙ took.undo of part is many in
    let next = machine.stage_after M s.machine.stopped s.machine.plan a of part in
    let at : IsStage names new.steps new.undo.requests new.replies new.stage next =
    subst (λ (x : List Op × machine.Stage M). IsStage names x.0 new.undo.requests new.replies new.stage x.1)
    (λ i. (sym took.plan i, machine.stage_after M (sym shows.stopped i) (sym shows.plan i) a of part)) (took.stage of part is many got) in
    enters_does names new (record s { machine = record s.machine { undo = machine.undo_after M a of part s.machine.undo; counts = machine.one_answered (machine.bus_at M part) s.machine.counts } }) next sent
    (record {
      named = took.named ∙ shows.named;
      is_named = shows.is_named;
      listed = shows.listed ∙ sym took.listed;
      plan = shows.plan ∙ sym took.plan;
      retries = shows.retries ∙ sym took.retries;
      stage = at;
      stopped = shows.stopped ∙ sym took.stopped;
      resent = sym took.resent;
      undo = kept;
      counts = counted;
      sequence = took.sequence;
      instance = took.instance;
      joined = shows.joined ∙ ap seen (sym took.joined);
    })
    (took.sends next (took.named ∙ shows.named) at)

took_stage : (names : Names) (s : ManagerState (board_plans names)) (a : Answered) (old new : Manager) (sent : Option Sent) (r : Task) (parts : ℕ) (asked : Asked) → Represents names old s
    → TookReply names a old new sent r parts asked → (t : machine.Stage (words_of names)) → IsStage names old.steps old.undo.requests old.replies (stage.Opened true r parts asked) t
    → IsStepResult names new sent (taken_or (board_plans names) s (machine.replies (words_of names) a t s.machine))
took_stage names s a old new sent r parts asked shows took machine.AtStart is = absurd is
took_stage names s a old new sent r parts asked shows took (machine.Opened heeds of part) is =
    let M = words_of names in
    subst (λ (h : Bool). IsStepResult names new sent (taken_or (board_plans names) s (machine.replies M a (machine.Opened h of part) s.machine))) (sym is.0)
    (subst (λ (b : Bool). IsStepResult names new sent (taken_or (board_plans names) s (if b then None else Some (machine.takes M a of part s.machine)))) (sym took.free)
    (took_task names s a old new sent r parts asked shows took of part is.1 is.2 is.3 is.4))
took_stage names s a old new sent r parts asked shows took machine.AtEnd is = absurd is
took_stage names s a old new sent r parts asked shows took (machine.AtHalt k why) is = absurd is
took_stage names s a old new sent r parts asked shows took machine.AtUndone is = absurd is
took_stage names s a old new sent r parts asked shows took (machine.AtRefused k code) is = absurd is

pub took_reply : (names : Names) (s : ManagerState (board_plans names)) (a : Answered) (old new : Manager) (sent : Option Sent) (r : Task) (parts : ℕ) (asked : Asked) → Represents names old s
    → TookReply names a old new sent r parts asked → IsStepResult names new sent (taken_or (board_plans names) s (machine.reply_of (words_of names) a s.machine))
took_reply names s a old new sent r parts asked shows took =
    took_stage names s a old new sent r parts asked shows took s.machine.stage (subst (λ (x : Stage). IsStage names old.steps old.undo.requests old.replies x s.machine.stage) took.was shows.stage)
