-- What a port does with a request is the lab's deed.
use Rattle.std.proofs.Common.{◌≡◌, ℕ, Bool, true, false, [], ◌∷◌, List, Some, None, Result, Ok, Err, refl, sym, ap, subst}
use Rattle.std.proofs.lemmas.Bool.{true≢false}
use Rattle.ipmb_frame.specs.declared.message.Request.{Request}
use Rattle.record_base.specs.declared.message.Answered.{Answered}
use Rattle.cfg_records.specs.declared.board_file.BoardFile.{BoardFile}
use Rattle.two_wire.specs.declared.Bus.TheVariants.{Ipmb}
use Rattle.model_bus.specs.Numbering.{is_above}
use Rattle.model_bus.specs.Carried.{Outcome, Repeats, IsBusy, IsNew, log_after, reply_after}
use Rattle.bmc_board.specs.State.{State}
use Rattle.bmc_core.specs.Bytes.{heard_in}
use Rattle.bmc_core.specs.PortSteps.{PortState, StepResult, Turn, spelled, asked_in, response_after, hears_request}
use Rattle.bmc_core.specs.Values.{Value, written}
use Rattle.bmc_core.proofs.Turning.{turns_by}
use Rattle.bmc_core.specs.declared.out.Out.{Out}
use Rattle.bmc_core.specs.declared.out.Reason.{Reason}
use Rattle.bmc_core.specs.declared.step.Step.TheVariants as step
use Rattle.bmc_core.specs.declared.ipmb_port.IpmbPort.{IpmbPort}
use Rattle.bmc_core.specs.Outs.{sends, done_by, ReadBack}
use Rattle.bmc_core.proofs.OwnBytes.{none_read}
use Rattle.bmc_core.specs.IpmbShown.{Represents, IsStepResult, IsSettled, next_of, AskingStep, step_result_of, done_of, outcome_at, after, out_after, response_at, carries, kept_of, first_answer, first_response}

-- what comes of a request after this turn
abbrev deed_by : PortState → Request → Turn → StepResult
deed_by p r t = record { port = record p { log = t.log }; board = t.left; sent = response_after r t.replied ∷ [] }

module _ (setup : BoardFile) (p : PortState) (before : State) (r : Request) where
  repeat_deed : (reply : List ℕ) → outcome_at p r ≡ Repeats reply → hears_request setup p before r ≡ record { port = p; board = before; sent = response_after r (Some reply) ∷ [] }
  unfolding hears_request
  repeat_deed reply is = ap (deed_by p r) ((turns_by (is_above 64) (heard_in r) (spelled Ipmb (heard_in r)) setup (asked_in r) p.log before).repeats reply is)

  busy_deed : outcome_at p r ≡ IsBusy → hears_request setup p before r ≡ record { port = p; board = before; sent = response_after r None ∷ [] }
  unfolding hears_request
  busy_deed is = ap (deed_by p r) ((turns_by (is_above 64) (heard_in r) (spelled Ipmb (heard_in r)) setup (asked_in r) p.log before).busy is)

  settled : (port : IpmbPort) (out : Out) (o : Outcome) → outcome_at p r ≡ o → IsSettled r o out true → Represents port p → IsStepResult (hears_request setup p before r) (done_by o) port before out
  settled port out (Repeats reply) is settles shows =
      subst (λ (d : StepResult). IsStepResult d (done_by (Repeats reply)) port before out) (sym (repeat_deed reply is)) (record { shows = shows; left = refl; sent = settles.1.0; read = settles.1.1 })
  settled port out IsBusy is settles shows =
      subst (λ (d : StepResult). IsStepResult d (done_by IsBusy) port before out) (sym (busy_deed is)) (record { shows = shows; left = refl; sent = settles.1.0; read = settles.1.1 })
  settled port out IsNew is settles shows = absurd (true≢false settles)

  -- a request that isn't new
  pub settled_does : (port : IpmbPort) (out : Out) → IsSettled r (outcome_at p r) out true → Represents port p → IsStepResult (hears_request setup p before r) (done_by (outcome_at p r)) port before out
  settled_does port out settles shows = settled port out (outcome_at p r) refl settles shows

-- what is new is new by the rule
pub is_new : (r : Request) (o : Outcome) (out : Out) → IsSettled r o out false → o ≡ IsNew
is_new r (Repeats reply) out settles = absurd (true≢false (sym settles.0))
is_new r IsBusy out settles = absurd (true≢false (sym settles.0))
is_new r IsNew out settles = refl

-- a request that is to be carried out is what was heard, and is new
new_by : (p : PortState) (r q : Request) (out : Out) (settled : Bool) → IsSettled r (outcome_at p r) out settled → step.Ask q ≡ next_of settled r
    → ((let x : Result Request Reason = Ok r in x) ≡ Ok q) × (outcome_at p q ≡ IsNew)
new_by p r q out true settles given = let no : step.Ask q ≡ step.Done = given in absurd cc
new_by p r q out false settles given =
    let yes : step.Ask q ≡ step.Ask r = given in
    let same : r ≡ q = cc in
    (ap Ok same, subst (λ (x : Request). outcome_at p x ≡ IsNew) same (is_new r (outcome_at p r) out settles))

pub step_new : (p : PortState) (heard : Result Request Reason) (q : Request) (out : Out) → AskingStep p heard (step.Ask q) out → (heard ≡ Ok q) × (outcome_at p q ≡ IsNew)
step_new p (Ok r) q out is = new_by p r q out is.0 is.1 is.2
step_new p (Err why) q out is = let no : step.Ask q ≡ step.Done = is.0 in absurd cc

-- ---- what is settled as it is heard

module _ (setup : BoardFile) (before : State) where
  settled_request : (p : PortState) (r : Request) (next : IpmbPort) (out : Out) (was : Bool) → IsSettled r (outcome_at p r) out was
      → step.Done ≡ next_of was r → Represents next p → IsStepResult (hears_request setup p before r) (done_by (outcome_at p r)) next before out
  settled_request p r next out true settles given shows = settled_does setup p before r next out settles shows
  settled_request p r next out false settles given shows = let no : step.Done ≡ step.Ask r = given in absurd cc

  pub settled_heard : (p : PortState) (heard : Result Request Reason) (next : IpmbPort) (out : Out) → AskingStep p heard step.Done out → Represents next p
      → IsStepResult (step_result_of setup p before heard) (done_of p heard) next before out
  settled_heard p (Ok r) next out is shows = settled_request p r next out is.0 is.1 is.2 shows
  settled_heard p (Err why) next out is shows = record { shows = shows; left = refl; sent = is.1; read = none_read Ipmb }

-- ---- an answer that a port gets

module _ (p : PortState) (r : Request) (a : Answered) where
  -- the rule, where this is done with the request
  abbrev after_by : Outcome → PortState
  after_by o = record p { log = log_after o (kept_of r a) p.log }

  abbrev response_by : Outcome → Value
  response_by o = response_after r (reply_after o (kept_of r a))

  abbrev answers_by : Outcome → Out
  answers_by o = sends (written (response_by o) ∷ []) (done_by o)

  -- the port goes on by the rule, and sends what that says, which is read as itself
  abbrev IsAnsweredSo : IpmbPort → Out → Outcome → Type 0
  IsAnsweredSo port out o = Represents port (after_by o) × (out ≡ answers_by o) × ReadBack Ipmb (response_by o ∷ [])

  settled_answered : (port : IpmbPort) (out : Out) (o : Outcome) → IsSettled r o out true → Represents port p → IsAnsweredSo port out o
  settled_answered port out (Repeats reply) settles shows = (shows, settles.1.0, settles.1.1)
  settled_answered port out IsBusy settles shows = (shows, settles.1.0, settles.1.1)
  settled_answered port out IsNew settles shows = absurd (true≢false settles)

  -- to a request that isn't new any more
  pub answered_settled : (port : IpmbPort) (out : Out) → IsSettled r (outcome_at p r) out true → Represents port p
      → Represents port (after p r a) × (out ≡ out_after p r a) × ReadBack Ipmb (response_at p r a ∷ [])
  answered_settled port out settles shows = settled_answered port out (outcome_at p r) settles shows

  -- to a new one
  pub answered_new : (next : IpmbPort) (out : Out) → outcome_at p r ≡ IsNew → Represents next (carries p r a) → out ≡ first_answer r a → ReadBack Ipmb (first_response r a ∷ [])
      → Represents next (after p r a) × (out ≡ out_after p r a) × ReadBack Ipmb (response_at p r a ∷ [])
  answered_new next out is shows sent read = subst (IsAnsweredSo next out) (sym is) (shows, sent, read)
