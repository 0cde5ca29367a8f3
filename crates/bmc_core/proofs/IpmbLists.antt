-- What holds of lists of what comes to a port on IPMB.
use Rattle.std.proofs.Common.{◌≡◌, ℕ, ◌≢◌, List, [], ◌∷◌, ◌++◌, map, Some, None, Ok, Err, refl, ◌∙◌, ap}
use Rattle.ipmb_frame.specs.declared.message.Request.{Request}
use Rattle.cfg_records.specs.declared.board_file.BoardFile.{BoardFile}
use Rattle.model_bus.specs.Request.{Kept}
use Rattle.model_bus.specs.Numbering.{is_above}
use Rattle.model_bus.specs.Carried.{Outcome, Repeats, IsBusy, IsNew, log_after, reply_after, outcomes}
use Rattle.bmc_board.specs.State.{State}
use Rattle.bmc_board.specs.Answer.{answer_of}
use Rattle.bmc_core.specs.Values.{written}
use Rattle.bmc_core.specs.PortSteps.{PortState, StepResult, left_by, asked_in, response_after, hears_request, turn}
use Rattle.bmc_core.specs.Rule.{logs_with, replies}
use Rattle.bmc_core.specs.IpmbShown.{outcome_at, kept_of}
use Rattle.bmc_core.specs.IpmbRuns.{IsHeardThenAnswered, Arrival, Comes, Answers, IsIdle, port_after, ports_after, brought, done_with_answered, ReplyMade, response_of, settled_then, replied, sent_when_heard, all_sent, KeepsTheRule, PortEvent, Hears, Idles, Others, PortAndBoard, ends_after, all_after, heard_in_all, done_in_all, requests_in, responses, sent_in_all, CarriesTheRule}

-- ---- one request

-- the deed of a request with this outcome, which keeps this of a new request, and leaves this board
abbrev deed_by : PortState → Request → Outcome → Kept → State → State → StepResult
deed_by p r o k new before = record { port = record p { log = log_after o k p.log }; board = left_by o new before; sent = response_after r (reply_after o k) ∷ [] }

module _ (setup : BoardFile) (p : PortState) (before : State) (r : Request) where
  deed_is : let given = answer_of setup before (asked_in r) in hears_request setup p before r ≡ deed_by p r (outcome_at p r) (kept_of r given.0) given.1 before
  unfolding hears_request turn
  deed_is = refl

  -- of a request that isn't new comes the same, whatever the answer
  none_new : (o : Outcome) (j k : Kept) (new : State) → o ≢ IsNew
      → deed_by p r o j new before ≡ record { port = record p { log = log_after o k p.log }; board = before; sent = response_after r (reply_after o k) ∷ [] }
  none_new (Repeats reply) j k new apart = refl
  none_new IsBusy j k new apart = refl
  none_new IsNew j k new apart = absurd (apart refl)

  pub heard_then_answered : IsHeardThenAnswered setup p before r
  heard_then_answered =
      let given = answer_of setup before (asked_in r) in
      record {
        answered = λ is. deed_is ∙ ap (λ (o : Outcome). let d : StepResult = record { port = record p { log = log_after (outcome_at p r) (kept_of r given.0) p.log }; board = left_by o given.1 before; sent = response_after r (reply_after (outcome_at p r) (kept_of r given.0)) ∷ [] } in d) is;
        settled = λ apart a. deed_is ∙ none_new (outcome_at p r) (kept_of r given.0) (kept_of r a) given.1 apart;
      }

-- ---- lists with no board in them

answered_log : (p : PortState) (cs : List Arrival) → (ports_after p cs).log ≡ logs_with (is_above 64) (brought cs) p.log
answered_log p [] = refl
answered_log p (Comes heard ∷ cs) = answered_log p cs
answered_log p (Answers r a ∷ cs) = answered_log (port_after p (Answers r a)) cs
answered_log p (IsIdle requester ∷ cs) = answered_log (port_after p (IsIdle requester)) cs

answered_done : (p : PortState) (cs : List Arrival) → done_with_answered p cs ≡ outcomes (is_above 64) p.log (brought cs)
answered_done p [] = refl
answered_done p (Comes heard ∷ cs) = answered_done p cs
answered_done p (Answers r a ∷ cs) = ap (λ (os : List Outcome). outcome_at p r ∷ os) (answered_done (port_after p (Answers r a)) cs)
answered_done p (IsIdle requester ∷ cs) = answered_done (port_after p (IsIdle requester)) cs

settled_sent : (r : Request) (o : Outcome) (frames : List (List ℕ)) (rest : List ReplyMade) → frames ≡ map response_of rest
    → sent_when_heard r o ++ frames ≡ map response_of (settled_then r o rest)
settled_sent r (Repeats reply) frames rest same = ap (λ (fs : List (List ℕ)). written (response_after r (Some reply)) ∷ fs) same
settled_sent r IsBusy frames rest same = ap (λ (fs : List (List ℕ)). written (response_after r None) ∷ fs) same
settled_sent r IsNew frames rest same = same

answered_sent : (p : PortState) (cs : List Arrival) → all_sent p cs ≡ map response_of (replied p.log cs)
answered_sent p [] = refl
answered_sent p (Comes (Ok r) ∷ cs) = settled_sent r (outcome_at p r) (all_sent p cs) (replied p.log cs) (answered_sent p cs)
answered_sent p (Comes (Err why) ∷ cs) = answered_sent p cs
answered_sent p (Answers r a ∷ cs) =
    ap (λ (fs : List (List ℕ)). written (response_after r (reply_after (outcome_at p r) (kept_of r a))) ∷ fs) (answered_sent (port_after p (Answers r a)) cs)
answered_sent p (IsIdle requester ∷ cs) = answered_sent (port_after p (IsIdle requester)) cs

pub keeps_the_rule : (p : PortState) (cs : List Arrival) → KeepsTheRule p cs
keeps_the_rule p cs = record { log = answered_log p cs; done = answered_done p cs; sent = answered_sent p cs }

-- ---- lists at a board

module _ (setup : BoardFile) where
  all_log : (x : PortAndBoard) (es : List PortEvent) → (all_after setup x es).port.log ≡ logs_with (is_above 64) (heard_in_all setup x es) x.port.log
  all_log x [] = refl
  all_log x (Hears (Ok r) ∷ es) =
      let next = ends_after setup x (Hears (Ok r)) in
      all_log next es ∙ ap (λ (d : StepResult). logs_with (is_above 64) (heard_in_all setup next es) d.port.log) (deed_is setup x.port x.board r)
  all_log x (Hears (Err why) ∷ es) = all_log x es
  all_log x (Idles requester ∷ es) = all_log (ends_after setup x (Idles requester)) es
  all_log x (Others board ∷ es) = all_log (ends_after setup x (Others board)) es

  all_done : (x : PortAndBoard) (es : List PortEvent) → done_in_all setup x es ≡ outcomes (is_above 64) x.port.log (heard_in_all setup x es)
  all_done x [] = refl
  all_done x (Hears (Ok r) ∷ es) =
      let next = ends_after setup x (Hears (Ok r)) in
      ap (λ (os : List Outcome). outcome_at x.port r ∷ os)
      (all_done next es ∙ ap (λ (d : StepResult). outcomes (is_above 64) d.port.log (heard_in_all setup next es)) (deed_is setup x.port x.board r))
  all_done x (Hears (Err why) ∷ es) = all_done x es
  all_done x (Idles requester ∷ es) = all_done (ends_after setup x (Idles requester)) es
  all_done x (Others board ∷ es) = all_done (ends_after setup x (Others board)) es

  frames_sent : (x : PortAndBoard) (es : List PortEvent) → sent_in_all setup x es ≡ responses (requests_in es) (replies (is_above 64) x.port.log (heard_in_all setup x es))
  frames_sent x [] = refl
  frames_sent x (Hears (Ok r) ∷ es) =
      let next = ends_after setup x (Hears (Ok r)) in
      let k : Kept = kept_of r (answer_of setup x.board (asked_in r)).0 in
      ap (λ (d : StepResult). map written d.sent ++ sent_in_all setup next es) (deed_is setup x.port x.board r)
      ∙ ap (λ (fs : List (List ℕ)). written (response_after r (reply_after (outcome_at x.port r) k)) ∷ fs)
      (frames_sent next es
      ∙ ap (λ (d : StepResult). responses (requests_in es) (replies (is_above 64) d.port.log (heard_in_all setup next es))) (deed_is setup x.port x.board r))
  frames_sent x (Hears (Err why) ∷ es) = frames_sent x es
  frames_sent x (Idles requester ∷ es) = frames_sent (ends_after setup x (Idles requester)) es
  frames_sent x (Others board ∷ es) = frames_sent (ends_after setup x (Others board)) es

  pub carries_the_rule : (x : PortAndBoard) (es : List PortEvent) → CarriesTheRule setup x es
  carries_the_rule x es = record { log = all_log x es; done = all_done x es; sent = frames_sent x es }
