-- What a lab does at an honest event is what the model's does.
use Rattle.std.proofs.Common.{◌≡◌, ℕ, ◌+◌, ◌%◌, Bool, true, false, not, ◌&&◌, cond, List, [], ◌∷◌, ◌++◌, map, Option, Some, None, refl, sym, ◌∙◌, ap, subst, arith}
use Rattle.std.specs.Prelude.{◌==◌, nat_lt, slice_get}
use Rattle.std.specs.Option.{option_map}
use Rattle.std.proofs.lemmas.Option.{slice_get-map}
use Rattle.two_wire.specs.Codes.{success}
use Rattle.two_wire.specs.declared.Bus.{Bus}
use Rattle.two_wire.specs.declared.Bus.TheVariants.{Ipmb, Smbus}
use Rattle.mctp_net.specs.declared.packet.Packet.{Packet}
use Rattle.mctp_net.specs.declared.message.Message.{Message}
use Rattle.record_base.specs.declared.message.Asked.{Asked}
use Rattle.record_base.specs.declared.message.Asked.TheVariants.{Ipmi, Pldm}
use Rattle.record_base.specs.declared.message.Answered.{Answered}
use Rattle.cfg_records.specs.declared.board_file.BoardFile.{BoardFile}
use Rattle.undo_plans.specs.declared.names.Names.{Names}
use Rattle.pldm_base.specs.Message.{request_bytes}
use Rattle.model_lab.specs.WireLaws.{IsManagers, managers}
use Rattle.bmc_core.specs.Values as values
use Rattle.model_lab.specs.ManagerSteps.{addresses}
use Rattle.bmc_core.specs.PortSteps as port
use Rattle.model_lab.specs.ManagerSteps as manager
use Rattle.model_lab.specs.Lab as lab
use Rattle.model_headline.specs.Each.{Each}
use Rattle.model_headline.proofs.Each.{each_at, each_append, each_map}
use Rattle.model_headline.specs.Frames.{Value, Asks, Tells, Part, circle, envelope, packets_of, is_meant, is_taken, waits_after, whole}
use Rattle.model_headline.specs.Manager.{Call, Start, Quiet, Stop, Again, Undo, Task, Gets, Sets, Undoes, Phase, Fresh, Open, Done, Halted, Undone, UndoRefused, Manager, Turn, rests, called, bus_of, series_of, next_after, asked_for, open_in, frames_of, carried_out, refused, answered_by, answer_in, is_part, read_in}
use Rattle.model_headline.specs.Manager as the_manager
use Rattle.model_headline.specs.Lab.{StepResult, stays, hears, hears_packets, Way, ToPort, ToManager, ToOthers, Frame, Event, Calls, ToBmc, ToMgr, OtherIpmb, OtherSmbus, Noise, Idles, OnBench, Lab, port_on, idles_on, with_frames, sends, goes_on, port_does, opens, delivered, returned, hears_all, step}
use Rattle.model_headline.specs.Claim.{ours, IsDelivered, IsHonest}
use Rattle.model_headline.proofs.Packets.{is_kept}
use Rattle.model_headline.proofs.Cuts.{cuts_alike}
use Rattle.model_headline.proofs.Answers.{is_busy}
use Rattle.model_headline.proofs.Sends.{frames_alike, IsSeen, call_lands}
use Rattle.model_headline.proofs.ClaimSeries.{task_made}
use Rattle.model_headline.proofs.ClaimReturns.{LowValue, comes}
use Rattle.model_headline.proofs.Ports.{Does, MayCome, parts_suit, packets_do, does}
use Rattle.model_headline.specs.Seen.{seen_plans, seen_value, seen_way, seen_frame, seen_event, seen_call, seen_port, seen_manager, seen_lab, SeenManager}
use Rattle.model_headline.proofs.Holds.{IsOrderly, Suits, IsSound, Holds}
use Rattle.model_lab.specs.declared.way.Way.TheVariants as lab_way

-- ---- what waits at the manager

pub none_orderly : IsOrderly []
none_orderly n = refl

picks : (b : Bool) (s t : Turn) → IsOrderly s.manager.waits → IsOrderly t.manager.waits → IsOrderly (cond b s t).manager.waits
picks true s t left right = left
picks false s t left right = right

call_orderly : (call : Call) (phase : Phase) (m : Manager) → IsOrderly m.waits → IsOrderly (called call phase m).manager.waits
call_orderly Start Fresh m h = h
call_orderly Start (Open heeded task bodies) m h = h
call_orderly Start Done m h = h
call_orderly Start (Halted k why) m h = h
call_orderly Start Undone m h = h
call_orderly Start (UndoRefused k code) m h = h
call_orderly Quiet Fresh m h = h
call_orderly Quiet (Open true task bodies) m h =
    picks (nat_lt m.resent m.retries) (let t : Turn = record { manager = record m { resent = m.resent + 1 }; sends = true } in t) (rests (record m { phase = Open false task bodies })) h h
call_orderly Quiet (Open false task bodies) m h = h
call_orderly Quiet Done m h = h
call_orderly Quiet (Halted k why) m h = h
call_orderly Quiet Undone m h = h
call_orderly Quiet (UndoRefused k code) m h = h
call_orderly Stop Fresh m h = h
call_orderly Stop (Open true (Gets k op) bodies) m h = h
call_orderly Stop (Open true (Sets k op back) bodies) m h = h
call_orderly Stop (Open true (Undoes back rest) bodies) m h = h
call_orderly Stop (Open false task bodies) m h = h
call_orderly Stop Done m h = h
call_orderly Stop (Halted k why) m h = h
call_orderly Stop Undone m h = h
call_orderly Stop (UndoRefused k code) m h = h
call_orderly Again Fresh m h = h
call_orderly Again (Open true task bodies) m h = h
call_orderly Again (Open false task bodies) m h = h
call_orderly Again Done m h = h
call_orderly Again (Halted k why) m h = h
call_orderly Again Undone m h = h
call_orderly Again (UndoRefused k code) m h = h
call_orderly Undo Fresh m h = h
call_orderly Undo (Open heeded task bodies) m h = h
call_orderly Undo Done m h = none_orderly
call_orderly Undo (Halted k why) m h = none_orderly
call_orderly Undo Undone m h = h
call_orderly Undo (UndoRefused k code) m h = h

carried_orderly : (another : Option Asked) (task : Task) (bodies : List (List ℕ)) (m : Manager) → IsOrderly m.waits → IsOrderly (carried_out another task bodies m).manager.waits
carried_orderly (Some asked) (Gets k op) bodies m h = h
carried_orderly (Some asked) (Sets k op back) bodies m h = h
carried_orderly (Some asked) (Undoes back rest) bodies m h = h
carried_orderly None (Gets k op) bodies m h = h
carried_orderly None (Sets k op back) bodies m h = h
carried_orderly None (Undoes back rest) bodies m h = h

refused_orderly : (task : Task) (code : ℕ) (m : Manager) → IsOrderly m.waits → IsOrderly (refused task code m).manager.waits
refused_orderly (Gets k op) code m h = h
refused_orderly (Sets k op back) code m h = h
refused_orderly (Undoes back rest) code m h = h

told_orderly : (names : Names) (task : Task) (bodies : List (List ℕ)) (o : Option Answered) (m : Manager) → IsOrderly m.waits → IsOrderly (answered_by names task bodies o m).manager.waits
told_orderly names task bodies None m h = h
told_orderly names task bodies (Some a) m h =
    let next : Manager = record m { answered = the_manager.one_more (bus_of (asked_for names task bodies)) m.answered } in
    let with_it = bodies ++ a.body ∷ [] in
    let done = carried_out (next_after (series_of task) with_it) task with_it next in
    picks (is_busy a.code) (rests m) (cond (a.code == success) done (refused task a.code next)) h
    (picks (a.code == success) done (refused task a.code next) (carried_orderly (next_after (series_of task) with_it) task with_it next h) (refused_orderly task a.code next h))

hears_orderly : (names : Names) (v : Value) (phase : Phase) (m : Manager) → IsOrderly m.waits → IsOrderly (the_manager.hears names v phase m).manager.waits
hears_orderly names (Asks r) phase m h = h
hears_orderly names (Tells r) Fresh m h = h
hears_orderly names (Tells r) (Open true task bodies) m h =
    picks ((r.header.requester.address == names.own_address && r.header.responder.address == names.peer_address)) (answered_by names task bodies (answer_in (m.answered Ipmb) (asked_for names task bodies) r) m) (rests m) (told_orderly names task bodies (answer_in (m.answered Ipmb) (asked_for names task bodies) r) m h) h
hears_orderly names (Tells r) (Open false task bodies) m h = h
hears_orderly names (Tells r) Done m h = h
hears_orderly names (Tells r) (Halted k why) m h = h
hears_orderly names (Tells r) Undone m h = h
hears_orderly names (Tells r) (UndoRefused k code) m h = h
hears_orderly names (Part p) Fresh m h = h
hears_orderly names (Part p) (Open true task bodies) m h =
    let next : Manager = record m { waits = waits_after names.own_eid p m.waits } in
    let message = read_in (m.answered Smbus) (asked_for names task bodies) (whole p m.waits) in
    let more = (is_kept p m.waits [] h names.own_eid).orderly_then in
    picks (not (is_part names (m.answered Smbus) (asked_for names task bodies) p)) (rests m) (cond (is_taken names.own_eid p m.waits && p.end) (answered_by names task bodies message next) (rests next)) h
    (picks (is_taken names.own_eid p m.waits && p.end) (answered_by names task bodies message next) (rests next) (told_orderly names task bodies message next more) more)
hears_orderly names (Part p) (Open false task bodies) m h = h
hears_orderly names (Part p) Done m h = h
hears_orderly names (Part p) (Halted k why) m h = h
hears_orderly names (Part p) Undone m h = h
hears_orderly names (Part p) (UndoRefused k code) m h = h

module _ (setup : BoardFile) (names : Names) where
  -- ---- frames that are sent

  frames_sound : (on : Bus) (way : Way) (request : ℕ) (vs : List Value) (x : Lab) → Each (IsSound names) x.frames → Each (Suits names on way) vs → Each (IsSound names) (with_frames names on way request vs x).frames
  frames_sound on way request vs x all suit =
      each_append (IsSound names) x.frames (map (λ (v : Value). let f : Frame = record { on = on; way = way; request = request; idles = idles_on names on x; value = v } in f) vs) all
      (each_map (λ (v : Value). let f : Frame = record { on = on; way = way; request = request; idles = idles_on names on x; value = v } in f) (IsSound names) vs suit)

  asked_suits : (n : ℕ) (asked : Asked) → IsManagers (addresses names) asked → Each (Suits names (bus_of asked) ToPort) (frames_of names n asked)
  asked_suits n (Ipmi from net_fn lun command body) is = (record { requester = omega arith; responder = omega (arith, is.1) }, tt)
  asked_suits n (Pldm from kind command body) is =
      parts_suit names setup ToPort (packets_of (envelope names.peer_wire names.own_wire names.peer_eid names.own_eid true (n % 8)) (1 ∷ request_bytes (record { header = record { instance = n % circle Smbus; pldm_type = kind; command = command }; body = body })))

  task_managers : (task : Task) (bodies : List (List ℕ)) → IsManagers (addresses names) (asked_for names task bodies)
  task_managers task bodies = managers (addresses names) (asked_for names task bodies) (task_made names task bodies)

  turn_holds : (t : Turn) (x : Lab) → Holds names x → IsOrderly t.manager.waits → Holds names (goes_on names t x)
  turn_holds t x h orderly = at t.sends t.manager.phase
    where
      there : Holds names (record x { manager = t.manager })
      there = record {
        ipmb_orderly = h.ipmb_orderly;
        smbus_orderly = h.smbus_orderly;
        manager_orderly = orderly;
        ipmb_reads = h.ipmb_reads;
        smbus_reads = h.smbus_reads;
        frames = h.frames;
      }

      sent : (task : Task) (bodies : List (List ℕ)) → Holds names (sends names (Some (asked_for names task bodies)) (record x { manager = t.manager }))
      sent task bodies =
          let asked = asked_for names task bodies in
          let n = t.manager.answered (bus_of asked) in
          record {
            ipmb_orderly = h.ipmb_orderly;
            smbus_orderly = h.smbus_orderly;
            manager_orderly = orderly;
            ipmb_reads = h.ipmb_reads;
            smbus_reads = h.smbus_reads;
            frames = frames_sound (bus_of asked) ToPort n (frames_of names n asked) (record x { manager = t.manager }) h.frames (asked_suits n asked (task_managers task bodies));
          }

      at : (b : Bool) (phase : Phase) → Holds names (cond b (sends names (open_in names phase) (record x { manager = t.manager })) (record x { manager = t.manager }))
      at false phase = there
      at true Fresh = there
      at true (Open heeded task bodies) = sent task bodies
      at true Done = there
      at true (Halted k why) = there
      at true Undone = there
      at true (UndoRefused k code) = there

  -- ---- one event

  -- the model's lab is this one, and what holds still holds
  pub record Steps (y : lab.Lab (seen_plans names)) (x : Lab) : Type 0 where
    pub made : SeenManager
    pub is : y ≡ seen_lab names made x
    pub holds : Holds names x

  turn_steps : (y : lab.Lab (seen_plans names)) (t : Turn) (x : Lab) → Holds names x → IsOrderly t.manager.waits → IsSeen names y (goes_on names t x) → Steps y (goes_on names t x)
  turn_steps y t x h orderly seen = record { made = seen.made; is = seen.is; holds = turn_holds t x h orderly }

  port_steps : (on : Bus) (way : Way) (request : ℕ) (made : SeenManager) (x : Lab) (d : port.StepResult) (t : StepResult) → Does names setup on way d t → Holds names x
      → Steps (lab.port_does (seen_plans names) on (seen_way way) request d (seen_lab names made x)) (port_does names on way request t x)
  port_steps Ipmb way request made x d t did h =
      let then : SeenManager = record made { ipmb = did.made } in
      let next : Lab = record x { board = t.board; ipmb = t.port } in
      record {
        made = then;
        is = ap (λ (d : port.StepResult). lab.port_does (seen_plans names) Ipmb (seen_way way) request d (seen_lab names made x)) did.is ∙ frames_alike names Ipmb way request t.sent then next;
        holds = record {
          ipmb_orderly = did.orderly;
          smbus_orderly = h.smbus_orderly;
          manager_orderly = h.manager_orderly;
          ipmb_reads = did.reads;
          smbus_reads = h.smbus_reads;
          frames = frames_sound Ipmb way request t.sent next h.frames did.sent;
        };
      }
  port_steps Smbus way request made x d t did h =
      let then : SeenManager = record made { smbus = did.made } in
      let next : Lab = record x { board = t.board; smbus = t.port } in
      record {
        made = then;
        is = ap (λ (d : port.StepResult). lab.port_does (seen_plans names) Smbus (seen_way way) request d (seen_lab names made x)) did.is ∙ frames_alike names Smbus way request t.sent then next;
        holds = record {
          ipmb_orderly = h.ipmb_orderly;
          smbus_orderly = did.orderly;
          manager_orderly = h.manager_orderly;
          ipmb_reads = h.ipmb_reads;
          smbus_reads = did.reads;
          frames = frames_sound Smbus way request t.sent next h.frames did.sent;
        };
      }

  -- ---- the manager's frames at the port

  opens_alike : (v : Value) (request : ℕ) (made : SeenManager) (x : Lab) → lab.opens (seen_plans names) (seen_value v) request (seen_lab names made x) ≡ seen_lab names made (opens v request x)
  opens_alike (Asks r) request made x = refl
  opens_alike (Tells r) request made x = refl
  opens_alike (Part p) request made x = at (p.start && is_meant x.smbus.eid p)
    where
      opened : Lab
      opened = record x { opened = λ tag. cond (tag == p.envelope.tag) request (x.opened tag) }

      at : (b : Bool) → cond b (seen_lab names made opened) (seen_lab names made x) ≡ seen_lab names made (cond b opened x)
      at true = refl
      at false = refl

  opens_hold : (v : Value) (request : ℕ) (x : Lab) → Holds names x → Holds names (opens v request x)
  opens_hold (Asks r) request x h = h
  opens_hold (Tells r) request x h = h
  opens_hold (Part p) request x h = at (p.start && is_meant x.smbus.eid p)
    where
      at : (b : Bool) → Holds names (cond b (record x { opened = λ tag. cond (tag == p.envelope.tag) request (x.opened tag) }) x)
      at true = record {
        ipmb_orderly = h.ipmb_orderly;
        smbus_orderly = h.smbus_orderly;
        manager_orderly = h.manager_orderly;
        ipmb_reads = h.ipmb_reads;
        smbus_reads = h.smbus_reads;
        frames = h.frames;
      }
      at false = h

  may_come : (on : Bus) (v : Value) → Suits names on ToPort v → MayCome names setup on ToManager v
  may_come Ipmb (Asks r) low = (λ own. low.responder, λ code body. record { requester = low.requester; responder = low.responder })
  may_come Ipmb (Tells r) low = absurd low
  may_come Ipmb (Part p) low = absurd low
  may_come Smbus (Asks r) low = absurd low
  may_come Smbus (Tells r) low = absurd low
  may_come Smbus (Part p) low = tt

  delivered_on : (on : Bus) (v : Value) (request : ℕ) (made : SeenManager) (x : Lab) → Holds names x → MayCome names setup on ToManager v
      → Steps (lab.port_does (seen_plans names) on lab_way.ToManager request (port.hears setup (lab.port_on (seen_plans names) on (seen_lab names made x)) x.board (seen_value v)) (lab.opens (seen_plans names) (seen_value v) request (seen_lab names made x)))
      (port_does names on ToManager request (hears (ours setup) (port_on on x) x.board v) (opens v request x))
  delivered_on Ipmb v request made x h may =
      subst (λ (y : lab.Lab (seen_plans names)). Steps (lab.port_does (seen_plans names) Ipmb lab_way.ToManager request (port.hears setup (seen_port Ipmb made.ipmb x.ipmb) x.board (seen_value v)) y) (port_does names Ipmb ToManager request (hears (ours setup) x.ipmb x.board v) (opens v request x)))
      (sym (opens_alike v request made x))
      (port_steps Ipmb ToManager request made (opens v request x) (port.hears setup (seen_port Ipmb made.ipmb x.ipmb) x.board (seen_value v)) (hears (ours setup) x.ipmb x.board v)
      (does names setup Ipmb ToManager made.ipmb x.ipmb x.board v h.ipmb_orderly h.ipmb_reads may) (opens_hold v request x h))
  delivered_on Smbus v request made x h may =
      subst (λ (y : lab.Lab (seen_plans names)). Steps (lab.port_does (seen_plans names) Smbus lab_way.ToManager request (port.hears setup (seen_port Smbus made.smbus x.smbus) x.board (seen_value v)) y) (port_does names Smbus ToManager request (hears (ours setup) x.smbus x.board v) (opens v request x)))
      (sym (opens_alike v request made x))
      (port_steps Smbus ToManager request made (opens v request x) (port.hears setup (seen_port Smbus made.smbus x.smbus) x.board (seen_value v)) (hears (ours setup) x.smbus x.board v)
      (does names setup Smbus ToManager made.smbus x.smbus x.board v h.smbus_orderly h.smbus_reads may) (opens_hold v request x h))

  -- a frame that was sent is there in the model
  pub there : (x : Lab) (place : ℕ) (f : Frame) → slice_get x.frames place ≡ Some f → slice_get (map seen_frame x.frames) place ≡ Some (seen_frame f)
  there x place f e = slice_get-map seen_frame x.frames place ∙ ap (option_map seen_frame) e

  sound_way : (f : Frame) (way : Way) → IsSound names f → f.way ≡ way → Suits names f.on way f.value
  sound_way f way sound e = subst (λ (w : Way). Suits names f.on w f.value) e sound

  low_value : (x : Lab) (made : SeenManager) (on : Bus) (v : Value) → Suits names on ToManager v → LowValue names x made v
  low_value x made Ipmb (Asks r) low = absurd low
  low_value x made Ipmb (Tells r) low = low
  low_value x made Ipmb (Part p) low = absurd low
  low_value x made Smbus (Asks r) low = absurd low
  low_value x made Smbus (Tells r) low = absurd low
  low_value x made Smbus (Part p) low = tt

  -- ---- each event

  module _ (made : SeenManager) (x : Lab) (h : Holds names x) where
    to_port : (place : ℕ) → IsDelivered names ToPort x place → Steps (lab.delivered (seen_plans names) setup (slice_get (map seen_frame x.frames) place) (seen_lab names made x)) (delivered (ours setup) names (slice_get x.frames place) x)
    to_port place is =
        let f = is.frame in
        let sound = each_at (IsSound names) x.frames place f h.frames is.sent in
        subst (λ (o : Option lab.LabFrame). Steps (lab.delivered (seen_plans names) setup o (seen_lab names made x)) (delivered (ours setup) names (slice_get x.frames place) x)) (sym (there x place f is.sent))
        (subst (λ (o : Option Frame). Steps (lab.delivered (seen_plans names) setup (Some (seen_frame f)) (seen_lab names made x)) (delivered (ours setup) names o x)) (sym is.sent)
        (delivered_on f.on f.value f.request made x h (may_come f.on f.value (sound_way f ToPort sound is.meant))))

    to_manager : (place : ℕ) → IsDelivered names ToManager x place → Steps (lab.returned (seen_plans names) setup (slice_get (map seen_frame x.frames) place) (seen_lab names made x)) (returned (ours setup) names (slice_get x.frames place) x)
    to_manager place is =
        let f = is.frame in
        let sound = each_at (IsSound names) x.frames place f h.frames is.sent in
        let t = the_manager.hears names f.value x.manager.phase x.manager in
        subst (λ (o : Option lab.LabFrame). Steps (lab.returned (seen_plans names) setup o (seen_lab names made x)) (returned (ours setup) names (slice_get x.frames place) x)) (sym (there x place f is.sent))
        (subst (λ (o : Option Frame). Steps (lab.returned (seen_plans names) setup (Some (seen_frame f)) (seen_lab names made x)) (returned (ours setup) names o x)) (sym is.sent)
        (turn_steps (lab.returned (seen_plans names) setup (Some (seen_frame f)) (seen_lab names made x)) t x h (hears_orderly names f.value x.manager.phase x.manager h.manager_orderly)
        (comes names x made x.manager h.manager_orderly f.value (low_value x made f.on f.value (sound_way f ToManager sound is.meant)) x.manager.phase)))

    all_come : (m : Message) → Does names setup Smbus ToOthers (port.hears_all setup (seen_port Smbus made.smbus x.smbus) x.board m) (hears_all (ours setup) names m x.smbus x.board)
    all_come m = at (m.envelope.destination == x.smbus.wire)
      where
        packets : Does names setup Smbus ToOthers (port.hears_parts setup (seen_port Smbus made.smbus x.smbus) x.board (values.parts_of m)) (hears_packets (ours setup) x.smbus x.board (packets_of m.envelope m.body))
        packets = subst (λ (ps : List Packet). Does names setup Smbus ToOthers (port.hears_parts setup (seen_port Smbus made.smbus x.smbus) x.board ps) (hears_packets (ours setup) x.smbus x.board (packets_of m.envelope m.body)))
            (sym (cuts_alike m.envelope m.body)) (packets_do names setup ToOthers (packets_of m.envelope m.body) made.smbus x.smbus x.board h.smbus_orderly h.smbus_reads)

        at : (b : Bool) → Does names setup Smbus ToOthers (cond b (port.hears_parts setup (seen_port Smbus made.smbus x.smbus) x.board (values.parts_of m)) (port.stays (seen_port Smbus made.smbus x.smbus) x.board))
            (cond b (hears_packets (ours setup) x.smbus x.board (packets_of m.envelope m.body)) (stays x.smbus x.board))
        at true = packets
        at false = record { made = made.smbus; is = refl; orderly = h.smbus_orderly; reads = h.smbus_reads; sent = tt }

    pub step_so : (e : Event) → IsHonest (ours setup) names x e → Steps (lab.step (seen_plans names) setup (seen_lab names made x) (seen_event e)) (step (ours setup) names x e)
    unfolding lab.step step
    step_so (Calls call) honest = turn_steps (lab.call_does (seen_plans names) (manager.called (seen_plans names) (seen_call call) (seen_manager names made.manager x.manager)) (seen_lab names made x)) (called call x.manager.phase x.manager) x h (call_orderly call x.manager.phase x.manager h.manager_orderly) (call_lands names call made x)
    step_so (ToBmc place) honest = to_port place honest.0
    step_so (ToMgr place) honest = to_manager place honest
    step_so (OtherIpmb r) honest =
        port_steps Ipmb ToOthers 0 made x (port.hears setup (seen_port Ipmb made.ipmb x.ipmb) x.board (values.Asks r)) (hears (ours setup) x.ipmb x.board (Asks r))
        (does names setup Ipmb ToOthers made.ipmb x.ipmb x.board (Asks r) h.ipmb_orderly h.ipmb_reads (λ own. absurd (honest.1.0 own), λ code body. tt)) h
    step_so (OtherSmbus m) honest = port_steps Smbus ToOthers 0 made x (port.hears_all setup (seen_port Smbus made.smbus x.smbus) x.board m) (hears_all (ours setup) names m x.smbus x.board) (all_come m) h
    step_so (Noise on bytes) honest = record { made = made; is = refl; holds = h }
    step_so (Idles Ipmb requester) honest = record {
      made = made;
      is = refl;
      holds = record {
        ipmb_orderly = h.ipmb_orderly;
        smbus_orderly = h.smbus_orderly;
        manager_orderly = h.manager_orderly;
        ipmb_reads = (tt, h.ipmb_reads);
        smbus_reads = h.smbus_reads;
        frames = h.frames;
      };
    }
    step_so (Idles Smbus requester) honest = record {
      made = made;
      is = refl;
      holds = record {
        ipmb_orderly = h.ipmb_orderly;
        smbus_orderly = h.smbus_orderly;
        manager_orderly = h.manager_orderly;
        ipmb_reads = h.ipmb_reads;
        smbus_reads = (tt, h.smbus_reads);
        frames = h.frames;
      };
    }
    step_so (OnBench activity) honest = record {
      made = made;
      is = refl;
      holds = record {
        ipmb_orderly = h.ipmb_orderly;
        smbus_orderly = h.smbus_orderly;
        manager_orderly = h.manager_orderly;
        ipmb_reads = h.ipmb_reads;
        smbus_reads = h.smbus_reads;
        frames = h.frames;
      };
    }
