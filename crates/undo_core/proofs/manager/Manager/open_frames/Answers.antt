use Rattle.std.proofs.Common.{◌≡◌, ℕ, Bool, List, Some, sym, ◌∙◌, ap, subst, refl}
use Rattle.std.specs.Option.{option_map}
use Rattle.record_base.specs.declared.op.Op.{Op}
use Rattle.record_base.specs.declared.message.Asked.{Asked}
use Rattle.record_base.specs.declared.message.Asked.TheVariants.{Ipmi, Pldm}
use Rattle.undo_plans.specs.declared.names.Names.{Names}
use Rattle.undo_plans.specs.Requests.{RequestList}
use Rattle.bmc_core.specs.Wires.{bus_of}
use Rattle.model_undo.specs.Machine as machine
use Rattle.model_undo.specs.Machine.{Counts, count_of}
use Rattle.model_lab.specs.ManagerSteps.{board_plans, values_of, Sent as AllSent, sent_of}
use Rattle.undo_core.specs.declared.stage.Task.{Task}
use Rattle.undo_core.specs.declared.stage.Stage.{Stage}
use Rattle.undo_core.specs.declared.stage.Stage.TheVariants as stage
use Rattle.undo_core.specs.declared.sending.Sent.{Sent}
use Rattle.undo_core.specs.Counted.{counts_of}
use Rattle.undo_core.specs.Shown.{words_of, own, IsStage, IsSent}
use Rattle.undo_core.proofs.Calling.{shows_opened}
use Rattle.undo_core.proofs.manager.Manager.open_frames.Goals as goal

-- what is sent of a request of these counts
abbrev sent_with : Names → Counts → Asked → AllSent
sent_with names counts a = record { on = bus_of a; request = count_of (bus_of a) counts; values = values_of names (count_of (bus_of a) counts) a }

-- it's the same, whoever asks
own_sent : (names : Names) (counts : Counts) (a : Asked) → sent_with names counts (own names a) ≡ sent_with names counts a
own_sent names counts (Ipmi from net_fn lun command body) = refl
own_sent names counts (Pldm from kind command body) = refl

open_sent : (names : Names) (plan : List Op) (requests : RequestList) (replies : List ℕ) (counts : Counts) (r : Sent) (heeded : Bool) (task : Task) (parts : ℕ) (asked : Asked) (at : machine.Stage (words_of names))
    → IsStage names plan requests replies (stage.Opened heeded task parts asked) at → IsSent (Some r) (Some (sent_with names counts asked))
    → IsSent (Some r) (option_map (sent_of (board_plans names) names) (machine.sends_at (words_of names) at counts))
open_sent names plan requests replies counts r heeded task parts asked at is sent =
    let o = shows_opened names plan requests replies heeded task parts asked at is in
    let same : sent_with names counts asked ≡ sent_with names counts o.part.asked = sym (own_sent names counts asked) ∙ ap (sent_with names counts) o.asked_is in
    subst (λ (t : machine.Stage (words_of names)). IsSent (Some r) (option_map (sent_of (board_plans names) names) (machine.sends_at (words_of names) t counts))) (sym o.is)
    (subst (λ (s : AllSent). IsSent (Some r) (Some s)) same sent)

pub returns : goal.returns
returns c names plan requests replies at named is =
    let asked = c.in_ok-asked.asked.now in
    let counts = counts_of c.args.self.now.counts in
    let opened = c.in_ok-asked.ensures.some in
    let sent = c.frames_of.ensures in
    let frames = sent.frames in
    let all : IsSent (Some c.frames_of.result) (Some (sent_with names counts asked)) =
    subst (λ (n : Names). IsSent (Some c.frames_of.result) (Some (sent_with n counts asked))) named (sent.bus, sent.request, frames.written_as, frames.read) in
    open_sent names plan requests replies counts c.frames_of.result opened.0 opened.1 opened.2 asked at (subst (λ (r : Stage). IsStage names plan requests replies r at) opened.3 is) all
