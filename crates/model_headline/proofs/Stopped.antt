-- Only a call of `stop` makes a lab's manager stop.
use Rattle.std.proofs.Common.{◌≡◌, ℕ, Bool, true, false, cond, ◌&&◌, List, [], ◌∷◌, Option, Some, None, refl, sym, ◌∙◌, ap, ◌+◌, ◌⊎◌, inl, inr}
use Rattle.std.specs.Prelude.{slice_get, IfSome, nat_lt, ◌==◌}
use Rattle.std.specs.Option.{option_map}
use Rattle.std.proofs.lemmas.Bool.{false≢true}
use Rattle.two_wire.specs.declared.Bus.{Bus}
use Rattle.two_wire.specs.declared.Bus.TheVariants.{Ipmb, Smbus}
use Rattle.ipmb_frame.specs.declared.message.Response.{Response}
use Rattle.mctp_net.specs.declared.packet.Packet.{Packet}
use Rattle.mctp_net.specs.declared.taken.DropCause.{DropCause}
use Rattle.mctp_net.specs.Assembly.{is_ours, drop_cause, after as kept_after, message_of}
use Rattle.cfg_records.specs.declared.board_file.BoardFile.{BoardFile}
use Rattle.model_bus.specs.Repeat.{In}
use Rattle.model_bus.specs.Bytes.{answers}
use Rattle.model_bus.specs.Answered.{Answered}
use Rattle.model_undo.specs.Words.{is_busy, Words}
use Rattle.model_undo.specs.Machine.{Stage, AtStart, Opened, AtEnd, AtHalt, AtUndone, AtRefused, Machine, Part as TaskPart, Turn, sending, rests as machine_rests, starts, undoes, quiets, agains, replies, takes, call_of, reply_of}
use Rattle.bmc_core.specs.Wires.{answered_from}
use Rattle.bmc_core.specs.Values.{Value, Asks, Tells, Part}
use Rattle.bmc_core.specs.Bytes.{response_bytes}
use Rattle.bmc_core.specs.PortSteps.{PortState, StepResult, hears, hears_all, idles}
use Rattle.model_undo.specs.declared.call.Call.{Call}
use Rattle.model_undo.specs.declared.call.Call.TheVariants.{Start, Quiet, Stop, Again, Undo}
use Rattle.model_lab.specs.ManagerSteps.{Plans, ManagerState, ManagerStepResult, Sent, rests, goes_on, waits_after, called, heeded_on, open_bytes, taken_or, tested, hears_reply, hears_response, ends_reply, joins, joins_for, hears_packet, manager_hears, is_answer, is_part, open_count}
use Rattle.model_lab.specs.declared.way.Way.{Way}
use Rattle.model_lab.specs.declared.way.Way.TheVariants.{ToManager, ToOthers}
use Rattle.model_lab.specs.Lab.{LabFrame, Event, Calls, ToBmc, ToMgr, OtherIpmb, OtherSmbus, Noise, Idles, OnBench, Lab, step, run, sends, manager_does, call_does, port_does, with_port, port_on, opens, delivered, returned}

-- ---- a machine

module _ (M : Words) where
  abbrev Keeps : Machine M → Option (Turn M) → Type 0
  Keeps m o = IfSome o (λ t. t.machine.stopped ≡ m.stopped)

  start_keeps : (stage : Stage M) (m : Machine M) → Keeps m (starts M stage m)
  start_keeps AtStart m = refl
  start_keeps (Opened heeded task part) m = tt
  start_keeps AtEnd m = tt
  start_keeps (AtHalt k why) m = tt
  start_keeps AtUndone m = tt
  start_keeps (AtRefused k code) m = tt

  undo_keeps : (stage : Stage M) (m : Machine M) → Keeps m (undoes M stage m)
  undo_keeps AtStart m = tt
  undo_keeps (Opened heeded task part) m = tt
  undo_keeps AtEnd m = refl
  undo_keeps (AtHalt k why) m = refl
  undo_keeps AtUndone m = tt
  undo_keeps (AtRefused k code) m = tt

  again_keeps : (stage : Stage M) (m : Machine M) → Keeps m (agains M stage m)
  again_keeps AtStart m = tt
  again_keeps (Opened true task part) m = tt
  again_keeps (Opened false task part) m = refl
  again_keeps AtEnd m = tt
  again_keeps (AtHalt k why) m = tt
  again_keeps AtUndone m = tt
  again_keeps (AtRefused k code) m = tt

  quiet_keeps : (stage : Stage M) (m : Machine M) → Keeps m (quiets M stage m)
  quiet_keeps (Opened true task part) m = by (nat_lt m.resent m.retries)
    where
      by : (t : Bool) → Keeps m (cond t (Some (let u : Turn M = record { machine = record m { resent = m.resent + 1 }; sends = Some (sending M part m.counts) } in u)) (Some (machine_rests M (record m { stage = Opened false task part }))))
      by true = refl
      by false = refl
  quiet_keeps (Opened false task part) m = tt
  quiet_keeps AtStart m = tt
  quiet_keeps AtEnd m = tt
  quiet_keeps (AtHalt k why) m = tt
  quiet_keeps AtUndone m = tt
  quiet_keeps (AtRefused k code) m = tt

  reply_keeps : (stage : Stage M) (a : Answered) (m : Machine M) → Keeps m (replies M a stage m)
  reply_keeps (Opened true task part) a m = by (is_busy a.code)
    where
      by : (t : Bool) → Keeps m (cond t None (Some (takes M a task part m)))
      by true = tt
      by false = refl
  reply_keeps (Opened false task part) a m = tt
  reply_keeps AtStart a m = tt
  reply_keeps AtEnd a m = tt
  reply_keeps (AtHalt k why) a m = tt
  reply_keeps AtUndone a m = tt
  reply_keeps (AtRefused k code) a m = tt

-- ---- a manager

module _ (P : Plans) where
  abbrev Same : ManagerState P → ManagerStepResult P → Type 0
  Same m d = d.manager.machine.stopped ≡ m.machine.stopped

  taken_same : (m : ManagerState P) (o : Option (Turn P.words)) → Keeps P.words m.machine o → Same m (taken_or P m o)
  taken_same m None keeps = refl
  taken_same m (Some t) keeps = keeps

  tested_same : (on : Bus) (reply : List ℕ) (m : ManagerState P) (o : Option (TaskPart P.words)) → Same m (tested P on reply m o)
  tested_same on reply m None = refl
  tested_same on reply m (Some part) = by (answers on (open_bytes P on m part) reply)
    where
      by : (t : Bool) → Same m (cond t (taken_or P m (reply_of P.words (answered_from on reply) m.machine)) (rests P m))
      by true = taken_same m (reply_of P.words (answered_from on reply) m.machine) (reply_keeps P.words m.machine.stage (answered_from on reply) m.machine)
      by false = refl

  response_same : (r : Response) (m : ManagerState P) → Same m (hears_response P r m)
  unfolding hears_response
  response_same r m = by (is_answer m.names r)
    where
      by : (t : Bool) → Same m (cond t (hears_reply P Ipmb (response_bytes r) m) (rests P m))
      by true = tested_same Ipmb (response_bytes r) m (heeded_on P Ipmb m.machine.stage)
      by false = refl

  ends_same : (p : Packet) (c : Option DropCause) (m : ManagerState P) → Same m (ends_reply P p c m)
  ends_same p (Some cause) m = refl
  ends_same p None m = by p.end
    where
      by : (t : Bool) → Same m (cond t (hears_reply P Smbus (message_of m.joined p).body m) (rests P m))
      by true = tested_same Smbus (message_of m.joined p).body m (heeded_on P Smbus m.machine.stage)
      by false = refl

  joins_same : (p : Packet) (m : ManagerState P) (o : Option (TaskPart P.words)) → Same m (joins_for P p m o)
  joins_same p m None = refl
  joins_same p m (Some part) = by (is_part m.names (open_count P Smbus m) p)
    where
      by : (t : Bool) → Same m (cond t (joins P p m) (rests P m))
      by true = ends_same p (drop_cause m.names.own_eid m.joined p) (record m { joined = kept_after m.names.own_eid m.joined p })
      by false = refl

  packet_same : (p : Packet) (m : ManagerState P) → Same m (hears_packet P p m)
  unfolding hears_packet
  packet_same p m = joins_same p m (heeded_on P Smbus m.machine.stage)

  hears_same : (v : Value) (m : ManagerState P) → Same m (manager_hears P v m)
  hears_same (Asks r) m = refl
  hears_same (Tells r) m = response_same r m
  hears_same (Part p) m = packet_same p m

  -- ---- a lab

  abbrev Unstopped : Lab P → Lab P → Type 0
  Unstopped x y = y.manager.machine.stopped ≡ x.manager.machine.stopped

  sends_same : (o : Option Sent) (x : Lab P) → Unstopped x (sends P o x)
  sends_same None x = refl
  sends_same (Some s) x = refl

  does_same : (d : ManagerStepResult P) (x : Lab P) → Same x.manager d → Unstopped x (manager_does P d x)
  does_same d x same = sends_same d.sent (record x { manager = d.manager }) ∙ same

  port_same : (on : Bus) (port : PortState) (x : Lab P) → Unstopped x (with_port P on port x)
  port_same Ipmb port x = refl
  port_same Smbus port x = refl

  opens_same : (v : Value) (request : ℕ) (x : Lab P) → Unstopped x (opens P v request x)
  opens_same (Asks r) request x = refl
  opens_same (Tells r) request x = refl
  opens_same (Part p) request x = by (p.start && is_ours x.smbus.eid p)
    where
      by : (t : Bool) → Unstopped x (cond t (record x { opened = λ tag. cond (tag == p.envelope.tag) request (x.opened tag) }) x)
      by true = refl
      by false = refl

  deed_same : (on : Bus) (way : Way) (request : ℕ) (d : StepResult) (x : Lab P) → Unstopped x (port_does P on way request d x)
  deed_same on way request d x = port_same on d.port (record x { board = d.board })

  -- a call but `stop`
  turn_same : (call : Call) (x : Lab P) (o : Option (Turn P.words)) → Keeps P.words x.manager.machine o
      → Unstopped x (call_does P (option_map (goes_on P (let m : ManagerState P = record (x.manager) { joined = waits_after P call x.manager.joined } in m)) o) x)
  turn_same call x None keeps = refl
  turn_same call x (Some t) keeps = does_same (goes_on P (record (x.manager) { joined = waits_after P call x.manager.joined }) t) x keeps

  call_same : (call : Call) (x : Lab P) → Unstopped x (call_does P (called P call x.manager) x) ⊎ (call ≡ Stop)
  unfolding called
  call_same Start x = inl (turn_same Start x (call_of P.words Start x.manager.machine) (start_keeps P.words x.manager.machine.stage x.manager.machine))
  call_same Quiet x = inl (turn_same Quiet x (call_of P.words Quiet x.manager.machine) (quiet_keeps P.words x.manager.machine.stage x.manager.machine))
  call_same Stop x = inr refl
  call_same Again x = inl (turn_same Again x (call_of P.words Again x.manager.machine) (again_keeps P.words x.manager.machine.stage x.manager.machine))
  call_same Undo x = inl (turn_same Undo x (call_of P.words Undo x.manager.machine) (undo_keeps P.words x.manager.machine.stage x.manager.machine))

  module _ (setup : BoardFile) where
    delivered_same : (o : Option LabFrame) (x : Lab P) → Unstopped x (delivered P setup o x)
    delivered_same None x = refl
    delivered_same (Some f) x = deed_same f.on ToManager f.request (hears setup (port_on P f.on x) x.board f.value) (opens P f.value f.request x) ∙ opens_same f.value f.request x

    returned_same : (o : Option LabFrame) (x : Lab P) → Unstopped x (returned P setup o x)
    returned_same None x = refl
    returned_same (Some f) x = does_same (manager_hears P f.value x.manager) x (hears_same f.value x.manager)

    pub step_same : (e : Event) (x : Lab P) → Unstopped x (step P setup x e) ⊎ (e ≡ Calls Stop)
    unfolding step
    step_same (Calls call) x = elim (call_same call x) [ inl same ↦ inl same | inr told ↦ inr (ap Calls told) ]
    step_same (ToBmc number) x = inl (delivered_same (slice_get x.frames number) x)
    step_same (ToMgr number) x = inl (returned_same (slice_get x.frames number) x)
    step_same (OtherIpmb r) x = inl (deed_same Ipmb ToOthers 0 (hears setup x.ipmb x.board (Asks r)) x)
    step_same (OtherSmbus m) x = inl (deed_same Smbus ToOthers 0 (hears_all setup x.smbus x.board m) x)
    step_same (Noise on bytes) x = inl refl
    step_same (Idles on requester) x = inl (port_same on (idles requester (port_on P on x)) x)
    step_same (OnBench activity) x = inl refl

    -- where the manager is to stop after events, and wasn't before, it was told to
    pub told_to_stop : (events : List Event) (x : Lab P) → x.manager.machine.stopped ≡ false → (run P setup events x).manager.machine.stopped ≡ true → In (Calls Stop) events
    unfolding run
    told_to_stop [] x before after = absurd (false≢true (sym before ∙ after))
    told_to_stop (e ∷ es) x before after = elim (step_same e x) [
      | inl same ↦ inr (told_to_stop es (step P setup x e) (same ∙ before) after)
      | inr told ↦ inl told
    ]
