-- What holds of lists of what comes to a port on the System Management Bus.
use Rattle.std.proofs.Common.{◌≡◌, ℕ, List, [], ◌∷◌, ◌++◌, map, Option, Some, None, refl, sym, ◌∙◌, ap}
use Rattle.mctp_net.specs.declared.packet.Packet.{Packet}
use Rattle.mctp_net.specs.declared.message.Message.{Message}
use Rattle.mctp_net.specs.Control.{reply_to as control_reply_to, eid_after}
use Rattle.record_base.specs.declared.message.Answered.{Answered}
use Rattle.cfg_records.specs.declared.board_file.BoardFile.{BoardFile}
use Rattle.model_bus.specs.Request.{Kept, Entry}
use Rattle.model_bus.specs.Numbering.{is_above}
use Rattle.model_bus.specs.Carried.{Outcome, Repeats, IsBusy, IsNew, Heard as Brought, log_after, reply_after, outcomes}
use Rattle.bmc_board.specs.State.{State}
use Rattle.bmc_board.specs.Answer.{answer_of}
use Rattle.bmc_core.specs.Values.{written, Part, parts_of}
use Rattle.bmc_core.specs.PortSteps.{PortState, StepResult, left_by}
use Rattle.bmc_core.specs.SmbusHeard.{InMessage, HeardMessage, Ignored, Waiting, Control, Asks, taken, heard_in, asked_of, asks_of, found, asks, kept_with, asks_effect, effect}
use Rattle.bmc_core.specs.Rule.{logs_with}
use Rattle.bmc_core.specs.SmbusRuns.{with_board, IsHeardThenAnswered, Arrival, Comes, Answers, IsIdle, once_heard, port_after, ports_after, brought, done_with_answered, reply_of, reply_saying, all_frames, settled_then, replied_then, replied, sent_once_heard, all_sent, KeepsTheRule, PortEvent, Hears, Idles, Others, PortAndBoard, ends_after, all_after, heard_then, heard_in_all, done_then, done_in_all, answered_then, answered_in_all, sent_in_all, CarriesTheRule}
use Rattle.bmc_core.proofs.SmbusPorts.{deed_of, packet_deed}

-- ---- one packet

-- a request that is asked is the one that was heard, and is new
pub new_one : (n m : InMessage) (o : Outcome) → asks_of n o ≡ Some m → (o ≡ IsNew) × (n ≡ m)
new_one n m (Repeats reply) is = absurd cc
new_one n m IsBusy is = absurd cc
new_one n m IsNew is = (refl, cc)

asked_deed : (setup : BoardFile) (before : State) (port : PortState) (h : HeardMessage) (m : InMessage) → asks port h ≡ Some m
    → deed_of setup before port h ≡ with_board (answer_of setup before (asked_of m)).1 (effect port (Asks m) (answer_of setup before (asked_of m)).0)
asked_deed setup before port (Ignored why) m is = absurd cc
asked_deed setup before port Waiting m is = absurd cc
asked_deed setup before port (Control e r) m is = absurd cc
asked_deed setup before port (Asks n) m is =
    let so = new_one n m (found port n) is in
    let given = answer_of setup before (asked_of n) in
    ap (λ (o : Outcome). with_board (left_by o given.1 before) (effect port (Asks n) given.0)) so.0
    ∙ ap (λ (x : InMessage). with_board (answer_of setup before (asked_of x)).1 (effect port (Asks x) (answer_of setup before (asked_of x)).0)) so.1

-- of a request that isn't new comes the same, whatever the answer
none_new : (before after : State) (port : PortState) (m : InMessage) (o : Outcome) (j k : Kept) → asks_of m o ≡ None
    → with_board (left_by o after before) (asks_effect port m o j) ≡ with_board before (asks_effect port m o k)
none_new before after port m (Repeats reply) j k is = refl
none_new before after port m IsBusy j k is = refl
none_new before after port m IsNew j k is = absurd cc

settled_deed : (setup : BoardFile) (before : State) (port : PortState) (h : HeardMessage) (a : Answered) → asks port h ≡ None
    → deed_of setup before port h ≡ with_board before (effect port h a)
settled_deed setup before port (Ignored why) a is = refl
settled_deed setup before port Waiting a is = refl
settled_deed setup before port (Control e r) a is = refl
settled_deed setup before port (Asks m) a is =
    none_new before (answer_of setup before (asked_of m)).1 port m (found port m) (kept_with m (answer_of setup before (asked_of m)).0) (kept_with m a) is

pub heard_then_answered : (setup : BoardFile) (port : PortState) (before : State) (p : Packet) → IsHeardThenAnswered setup port before p
heard_then_answered setup port before p = record {
  answered = λ m is. packet_deed setup before port p ∙ asked_deed setup before (taken port p) (heard_in port p) m is;
  settled = λ is a. packet_deed setup before port p ∙ settled_deed setup before (taken port p) (heard_in port p) a is;
}

-- ---- lists with no board in them

log_stays : (m : InMessage) (o : Outcome) (k : Kept) (log : List Entry) → asks_of m o ≡ None → log_after o k log ≡ log
log_stays m (Repeats reply) k log is = refl
log_stays m IsBusy k log is = refl
log_stays m IsNew k log is = absurd cc

-- a request that is heard and not answered changes no log
heard_log : (port : PortState) (h : HeardMessage) (o : Option InMessage) → asks port h ≡ o → (once_heard port h o).log ≡ port.log
heard_log port h (Some m) is = refl
heard_log port (Ignored why) None is = refl
heard_log port Waiting None is = refl
heard_log port (Control e r) None is = refl
heard_log port (Asks m) None is = log_stays m (found port m) (kept_with m (record { code = 0; body = [] })) port.log is

packet_log : (port : PortState) (p : Packet) → (port_after port (Comes p)).log ≡ port.log
packet_log port p = heard_log (taken port p) (heard_in port p) (asks (taken port p) (heard_in port p)) refl

answered_log : (port : PortState) (cs : List Arrival) → (ports_after port cs).log ≡ logs_with (is_above 32) (brought cs) port.log
answered_log port [] = refl
answered_log port (Comes p ∷ cs) = answered_log (port_after port (Comes p)) cs ∙ ap (logs_with (is_above 32) (brought cs)) (packet_log port p)
answered_log port (Answers m a ∷ cs) = answered_log (port_after port (Answers m a)) cs
answered_log port (IsIdle requester ∷ cs) = answered_log (port_after port (IsIdle requester)) cs

answered_done : (port : PortState) (cs : List Arrival) → done_with_answered port cs ≡ outcomes (is_above 32) port.log (brought cs)
answered_done port [] = refl
answered_done port (Comes p ∷ cs) =
    answered_done (port_after port (Comes p)) cs ∙ ap (λ (log : List Entry). outcomes (is_above 32) log (brought cs)) (packet_log port p)
answered_done port (Answers m a ∷ cs) = ap (λ (os : List Outcome). found port m ∷ os) (answered_done (port_after port (Answers m a)) cs)
answered_done port (IsIdle requester ∷ cs) = answered_done (port_after port (IsIdle requester)) cs

-- one message's frames before others
with_frames : (m : Message) (frames : List (List ℕ)) (ms : List Message) → frames ≡ all_frames ms → map written (map (λ p. Part p) (parts_of m)) ++ frames ≡ all_frames (m ∷ ms)
with_frames m frames ms same = ap (λ (fs : List (List ℕ)). map written (map (λ p. Part p) (parts_of m)) ++ fs) same

settled_sent : (port : PortState) (m : InMessage) (o : Outcome) (k : Kept) (frames : List (List ℕ)) (ms : List Message) → asks_of m o ≡ None → frames ≡ all_frames ms
    → map written (asks_effect port m o k).sent ++ frames ≡ all_frames (settled_then port m o ms)
settled_sent port m (Repeats reply) k frames ms is same = with_frames (reply_saying port m (Some reply)) frames ms same
settled_sent port m IsBusy k frames ms is same = with_frames (reply_saying port m None) frames ms same
settled_sent port m IsNew k frames ms is same = absurd cc

heard_sent : (port : PortState) (h : HeardMessage) (o : Option InMessage) (frames : List (List ℕ)) (ms : List Message) → asks port h ≡ o → frames ≡ all_frames ms
    → sent_once_heard port h o ++ frames ≡ all_frames (replied_then port h ms)
heard_sent port (Ignored why) (Some m) frames ms is same = absurd cc
heard_sent port Waiting (Some m) frames ms is same = absurd cc
heard_sent port (Control e r) (Some m) frames ms is same = absurd cc
heard_sent port (Asks n) (Some m) frames ms is same = same ∙ ap (λ (o : Outcome). all_frames (settled_then port n o ms)) (sym (new_one n m (found port n) is).0)
heard_sent port (Ignored why) None frames ms is same = same
heard_sent port Waiting None frames ms is same = same
heard_sent port (Control e r) None frames ms is same =
    with_frames (reply_of (record port { eid = eid_after port.eid r.command r.content }) e (control_reply_to port.eid r)) frames ms same
heard_sent port (Asks m) None frames ms is same = settled_sent port m (found port m) (kept_with m (record { code = 0; body = [] })) frames ms is same

answered_sent : (port : PortState) (cs : List Arrival) → all_sent port cs ≡ all_frames (replied port cs)
answered_sent port [] = refl
answered_sent port (Comes p ∷ cs) =
    let next = port_after port (Comes p) in
    heard_sent (taken port p) (heard_in port p) (asks (taken port p) (heard_in port p)) (all_sent next cs) (replied next cs) refl (answered_sent next cs)
answered_sent port (Answers m a ∷ cs) =
    let next = port_after port (Answers m a) in
    with_frames (reply_saying port m (reply_after (found port m) (kept_with m a))) (all_sent next cs) (replied next cs) (answered_sent next cs)
answered_sent port (IsIdle requester ∷ cs) = answered_sent (port_after port (IsIdle requester)) cs

pub keeps_the_rule : (port : PortState) (cs : List Arrival) → KeepsTheRule port cs
keeps_the_rule port cs = record { log = answered_log port cs; done = answered_done port cs; sent = answered_sent port cs }

-- ---- lists at a board

one_log : (setup : BoardFile) (before : State) (port : PortState) (h : HeardMessage) (rest : List Brought)
    → logs_with (is_above 32) rest (deed_of setup before port h).port.log ≡ logs_with (is_above 32) (heard_then setup before h rest) port.log
one_log setup before port (Ignored why) rest = refl
one_log setup before port Waiting rest = refl
one_log setup before port (Control e r) rest = refl
one_log setup before port (Asks m) rest = refl

one_done : (setup : BoardFile) (before : State) (port : PortState) (h : HeardMessage) (rest : List Brought)
    → done_then port h (outcomes (is_above 32) (deed_of setup before port h).port.log rest) ≡ outcomes (is_above 32) port.log (heard_then setup before h rest)
one_done setup before port (Ignored why) rest = refl
one_done setup before port Waiting rest = refl
one_done setup before port (Control e r) rest = refl
one_done setup before port (Asks m) rest = refl

one_sent : (setup : BoardFile) (before : State) (port : PortState) (h : HeardMessage) (frames : List (List ℕ)) (ms : List Message) → frames ≡ all_frames ms
    → map written (deed_of setup before port h).sent ++ frames ≡ all_frames (answered_then setup before port h ms)
one_sent setup before port (Ignored why) frames ms same = same
one_sent setup before port Waiting frames ms same = same
one_sent setup before port (Control e r) frames ms same =
    with_frames (reply_of (record port { eid = eid_after port.eid r.command r.content }) e (control_reply_to port.eid r)) frames ms same
one_sent setup before port (Asks m) frames ms same =
    with_frames (reply_saying port m (reply_after (found port m) (kept_with m (answer_of setup before (asked_of m)).0))) frames ms same

module _ (setup : BoardFile) where
  all_log : (x : PortAndBoard) (es : List PortEvent) → (all_after setup x es).port.log ≡ logs_with (is_above 32) (heard_in_all setup x es) x.port.log
  all_log x [] = refl
  all_log x (Hears p ∷ es) =
      let next = ends_after setup x (Hears p) in
      all_log next es
      ∙ ap (λ (d : StepResult). logs_with (is_above 32) (heard_in_all setup next es) d.port.log) (packet_deed setup x.board x.port p)
      ∙ one_log setup x.board (taken x.port p) (heard_in x.port p) (heard_in_all setup next es)
  all_log x (Idles requester ∷ es) = all_log (ends_after setup x (Idles requester)) es
  all_log x (Others board ∷ es) = all_log (ends_after setup x (Others board)) es

  all_done : (x : PortAndBoard) (es : List PortEvent) → done_in_all setup x es ≡ outcomes (is_above 32) x.port.log (heard_in_all setup x es)
  all_done x [] = refl
  all_done x (Hears p ∷ es) =
      let next = ends_after setup x (Hears p) in
      ap (done_then (taken x.port p) (heard_in x.port p))
      (all_done next es ∙ ap (λ (d : StepResult). outcomes (is_above 32) d.port.log (heard_in_all setup next es)) (packet_deed setup x.board x.port p))
      ∙ one_done setup x.board (taken x.port p) (heard_in x.port p) (heard_in_all setup next es)
  all_done x (Idles requester ∷ es) = all_done (ends_after setup x (Idles requester)) es
  all_done x (Others board ∷ es) = all_done (ends_after setup x (Others board)) es

  frames_sent : (x : PortAndBoard) (es : List PortEvent) → sent_in_all setup x es ≡ all_frames (answered_in_all setup x es)
  frames_sent x [] = refl
  frames_sent x (Hears p ∷ es) =
      let next = ends_after setup x (Hears p) in
      ap (λ (d : StepResult). map written d.sent ++ sent_in_all setup next es) (packet_deed setup x.board x.port p)
      ∙ one_sent setup x.board (taken x.port p) (heard_in x.port p) (sent_in_all setup next es) (answered_in_all setup next es) (frames_sent next es)
  frames_sent x (Idles requester ∷ es) = frames_sent (ends_after setup x (Idles requester)) es
  frames_sent x (Others board ∷ es) = frames_sent (ends_after setup x (Others board)) es

  pub carries_the_rule : (x : PortAndBoard) (es : List PortEvent) → CarriesTheRule setup x es
  carries_the_rule x es = record { log = all_log x es; done = all_done x es; sent = frames_sent x es }
