-- A clean schedule keeps the premise on packets: a packet that is joined to others comes right behind the one before it, so the start of its own
-- request came last under its tag; and its request is live.
use Rattle.std.proofs.Common.{◌≡◌, ◌≤◌, ℕ, zero, suc, ◌+◌, ◌%◌, Bool, true, false, not, ◌&&◌, ◌||◌, cond, List, [], ◌∷◌, ◌++◌, length, map, Option, Some, None, refl, sym, ◌∙◌, ap, subst, arith, append_assoc, ◌⊎◌, inl, inr}
use Rattle.std.specs.Prelude.{slice_get, IfSome, nat_le, ◌==◌, take, drop}
use Rattle.std.specs.Option.{option_map}
use Rattle.std.proofs.lemmas.Bool.{false≢true, eq-eqb}
use Rattle.std.proofs.lemmas.Bool.Decides.{nat_tests}
use Rattle.std.proofs.lemmas.Option.{none-some, same_Some}
use Rattle.two_wire.specs.Sizes.{most_message_bytes}
use Rattle.two_wire.specs.declared.Bus.{Bus}
use Rattle.two_wire.specs.declared.Bus.TheVariants.{Ipmb, Smbus}
use Rattle.ipmb_frame.specs.declared.message.Response.{Response}
use Rattle.mctp_net.specs.declared.packet.Packet.{Packet}
use Rattle.mctp_net.specs.declared.packet.Envelope.{Envelope}
use Rattle.mctp_net.specs.declared.taken.DropCause.{DropCause}
use Rattle.mctp_net.specs.Assembly.{is_ours, drop_cause, after as kept_after, message_of}
use Rattle.mctp_net.proofs.Causes.{passes}
use Rattle.record_base.specs.declared.op.Op.{Op}
use Rattle.record_base.specs.declared.message.Asked.{Asked}
use Rattle.record_base.specs.declared.message.Asked.TheVariants.{Ipmi, Pldm}
use Rattle.cfg_records.specs.declared.board_file.BoardFile.{BoardFile}
use Rattle.bmc_board.specs.State.{State}
use Rattle.undo_plans.specs.declared.names.Names.{Names}
use Rattle.model_bus.specs.Answered.{Answered}
use Rattle.model_bus.specs.Bytes.{answers}
use Rattle.model_bus.specs.Circle.{span_of}
use Rattle.model_bus.specs.Packet.{Packet as Piece, packets_from, packets_of, unit_size}
use Rattle.model_undo.specs.Words.{is_busy}
use Rattle.model_undo.specs.Machine.{Stage, AtStart, Opened, AtEnd, AtHalt, AtUndone, AtRefused, Machine, Part as TaskPart, Turn, Sending, bus_at, enters, first_stage, starts, undo_stage, undoes, stage_after, undo_after, one_answered, replies, takes, reply_of}
use Rattle.bmc_core.specs.Wires.{bus_of, bytes_of, answered_from}
use Rattle.model_undo.specs.Wires.{number_of}
use Rattle.bmc_core.specs.Values.{Value, Asks, Tells, Part}
use Rattle.bmc_core.specs.Bytes.{response_bytes}
use Rattle.bmc_core.specs.PortSteps.{PortState, stays, hears, hears_message, hears_part, ends_message}
use Rattle.model_undo.specs.declared.call.Call.TheVariants.{Start, Undo}
use Rattle.text_lines.specs.declared.event.Event.{Event}
use Rattle.model_lab.specs.ManagerSteps.{ManagerState, Sent, values_of, sent_of, rests, goes_on, waits_after, called, heeded_on, open_bytes, taken_or, tested, hears_reply, hears_response, ends_reply, joins, joins_for, hears_packet, manager_hears, is_answer, is_part, open_count}
use Rattle.model_lab.specs.declared.way.Way.{Way}
use Rattle.model_lab.specs.declared.way.Way.TheVariants.{ToPort, ToManager, ToOthers}
use Rattle.model_lab.specs.declared.fault.Fault.TheVariants.{WrongWay, Aged, Room}
use Rattle.model_lab.specs.Lab as lab
use Rattle.model_lab.specs.Lab.{LabFrame, Lab as LabModel, frame_now, port_on, opens, port_does, manager_does, call_does, sends, delivered, returned, step, run, opening}
use Rattle.model_lab.specs.Faults.{begun_on, same_way, is_live, is_full, check, delivery, first_of, fault_of, AllTaken}
use Rattle.model_lab.specs.Clean.{delivery_of, delivery_in, DeliversFrom, IsCleanRun, IsCleanUndo}
use Rattle.model_lab.specs.Joins.{JoinsLive, IsJoinLive, AllJoinLive}
use Rattle.model_lab.specs.Meaning.{lab_names}
use Rattle.model_lab.specs.Played.{plans, happens, AreTaken}
use Rattle.model_headline.specs.Plays.{AllKeepPremise}
use Rattle.model_headline.specs.CleanPlays.{events_from}
use Rattle.model_headline.proofs.CleanQueue.{opens_same}
use Rattle.lab_play.specs.declared.schedule_making.Links.TheVariants as links
use Rattle.lab_play.specs.Made.{IsCleanFor}
use Rattle.lab_play.proofs.Cleanly.{no_check, taken_behind}

-- ---- packets of a message, one behind the other

-- the frame before is of the same request and message, and isn't its end
record Behind (g : LabFrame) (p : Packet) (own : ℕ) : Type 0 where
  packet : Packet
  value : g.value ≡ Part packet
  way : g.way ≡ ToPort
  envelope : packet.envelope ≡ p.envelope
  more : packet.end ≡ false
  request : g.request ≡ own

-- what goes to the port is on SMBus where it's a packet, and stands behind another of its message where it's no start
record Continues (before : Option LabFrame) (f : LabFrame) (p : Packet) : Type 0 where
  on : f.on ≡ Smbus
  joined : p.start ≡ false → (g : LabFrame) × (before ≡ Some g) × Behind g p f.request

abbrev MayFollow : Option LabFrame → LabFrame → Type 0
MayFollow before f = (p : Packet) → f.way ≡ ToPort → f.value ≡ Part p → Continues before f p

abbrev Follow : Option LabFrame → List LabFrame → Type 0
Follow before [] = Unit {0}
Follow before (f ∷ fs) = MayFollow before f × Follow (Some f) fs

follow_more : (before : Option LabFrame) (fs gs : List LabFrame) → Follow before fs → ((b : Option LabFrame) → Follow b gs) → Follow before (fs ++ gs)
follow_more before [] gs follow more = more before
follow_more before (f ∷ fs) gs follow more = (follow.0, follow_more (Some f) fs gs follow.1 more)

no_manager : ToManager ≡ ToPort → ⊥
no_manager same = cc same

part_same : (p q : Packet) → Part p ≡ Part q → p ≡ q
part_same p q same = cc same

-- what the port sends is nothing to it
replies_follow : (on : Bus) (request : ℕ) (x : LabModel plans) (values : List Value) (before : Option LabFrame) → Follow before (map (frame_now plans on ToManager request x) values)
replies_follow on request x [] before = tt
replies_follow on request x (v ∷ vs) before =
    ((λ p way value. absurd (no_manager way)), replies_follow on request x vs (Some (frame_now plans on ToManager request x v)))

-- ---- a request of the manager

module _ (e : Envelope) (request : ℕ) (x : LabModel plans) where
  abbrev part_for : Piece → Packet
  part_for q = record { envelope = e; start = q.first; end = q.last; sequence = q.sequence; payload = q.payload }

  abbrev frame_for : Piece → LabFrame
  frame_for q = frame_now plans Smbus ToPort request x (Part (part_for q))

  -- a packet of it that isn't its end comes before, or this is the first place
  abbrev Goes : (place : ℕ) → Option LabFrame → Type 0
  Goes place before = ((place == 0) ≡ true) ⊎ ((q : Piece) × (before ≡ Some (frame_for q)) × (q.last ≡ false))

  one_follows : (place : ℕ) (q : Piece) (before : Option LabFrame) → q.first ≡ (place == 0) → Goes place before → MayFollow before (frame_for q)
  one_follows place q before first goes p way value = record {
    on = refl;
    joined = λ more. by more goes;
  }
    where
      same : part_for q ≡ p
      same = part_same (part_for q) p value

      by : p.start ≡ false → Goes place before → (g : LabFrame) × (before ≡ Some g) × Behind g p request
      by more (inl zero_place) = absurd (false≢true (sym more ∙ ap (λ (r : Packet). r.start) (sym same) ∙ first ∙ zero_place))
      by more (inr (last, is, unended)) = (
        frame_for last,
        is,
        record { packet = part_for last; value = refl; way = refl; envelope = ap (λ (r : Packet). r.envelope) same; more = unended; request = refl },
      )

  abbrev frames_for : List Piece → List LabFrame
  frames_for qs = map (frame_now plans Smbus ToPort request x) (map Part (map part_for qs))

  abbrev last_piece : (place : ℕ) (bytes : List ℕ) → Piece
  last_piece place bytes = record { first = place == 0; last = true; sequence = place; payload = bytes }

  abbrev next_piece : (place : ℕ) (bytes : List ℕ) → Piece
  next_piece place bytes = record { first = place == 0; last = false; sequence = place; payload = take unit_size bytes }

  run_follows : (left place : ℕ) (bytes : List ℕ) (before : Option LabFrame) → Goes place before → Follow before (frames_for (packets_from left place bytes))
  run_follows zero place bytes before goes = tt
  run_follows (suc left) place bytes before goes =
      by (nat_le (length bytes) unit_size) (run_follows left (suc place) (drop unit_size bytes) (Some (frame_for (next_piece place bytes))) (inr (next_piece place bytes, refl, refl)))
    where
      by : (t : Bool) → Follow (Some (frame_for (next_piece place bytes))) (frames_for (packets_from left (suc place) (drop unit_size bytes)))
          → Follow before (frames_for (cond t (last_piece place bytes ∷ []) (next_piece place bytes ∷ packets_from left (suc place) (drop unit_size bytes))))
      by true rest = (one_follows place (last_piece place bytes) before refl goes, tt)
      by false rest = (one_follows place (next_piece place bytes) before refl goes, rest)

  message_follows : (bytes : List ℕ) (before : Option LabFrame) → Follow before (frames_for (packets_of bytes))
  message_follows bytes before = by (nat_le (length bytes) most_message_bytes)
    where
      by : (t : Bool) → Follow before (frames_for (cond t (packets_from 4 0 bytes) []))
      by true = run_follows 4 0 bytes before (inl refl)
      by false = tt

no_asks : (r : _) (p : Packet) → Asks r ≡ Part p → ⊥
no_asks r p same = cc same

-- the frames of a request that is sent on its bus
request_follows : (names : Names) (count request : ℕ) (asked : Asked) (x : LabModel plans) (before : Option LabFrame)
    → Follow before (map (frame_now plans (bus_of asked) ToPort request x) (values_of names count asked))
request_follows names count request (Ipmi from net_fn lun command body) x before = ((λ p way value. absurd (no_asks _ p value)), tt)
request_follows names count request (Pldm from kind command body) x before =
    message_follows (record { destination = names.peer_wire; source = names.own_wire; destination_eid = names.peer_eid; source_eid = names.own_eid; tag_owner = true; tag = count % 8 }) request x
    (bytes_of (number_of Smbus count) (Pldm from kind command body)) before

-- ---- what the manager sends

-- the frames that are sent follow whatever was sent before
abbrev Sends : Option Sent → Type 0
Sends o = IfSome o (λ s. (x : LabModel plans) (before : Option LabFrame) → Follow before (map (frame_now plans s.on ToPort s.request x) s.values))

-- it sends a request on its bus
abbrev OnItsBus : Option (Turn plans.words) → Type 0
OnItsBus o = IfSome o (λ t. IfSome t.sends (λ s. s.bus ≡ bus_of s.asked))

enters_so : (stage : Stage plans.words) (m : Machine plans.words) → IfSome (enters plans.words stage m).sends (λ s. s.bus ≡ bus_of s.asked)
enters_so AtStart m = tt
enters_so (Opened heeded task part) m = refl
enters_so AtEnd m = tt
enters_so (AtHalt k why) m = tt
enters_so AtUndone m = tt
enters_so (AtRefused k code) m = tt

start_so : (stage : Stage plans.words) (m : Machine plans.words) → OnItsBus (starts plans.words stage m)
start_so AtStart m = enters_so (first_stage plans.words (slice_get m.plan 0)) m
start_so (Opened heeded task part) m = tt
start_so AtEnd m = tt
start_so (AtHalt k why) m = tt
start_so AtUndone m = tt
start_so (AtRefused k code) m = tt

undo_so : (stage : Stage plans.words) (m : Machine plans.words) → OnItsBus (undoes plans.words stage m)
undo_so AtStart m = tt
undo_so (Opened heeded task part) m = tt
undo_so AtEnd m = enters_so (undo_stage plans.words m.undo) m
undo_so (AtHalt k why) m = enters_so (undo_stage plans.words m.undo) m
undo_so AtUndone m = tt
undo_so (AtRefused k code) m = tt

reply_so : (stage : Stage plans.words) (a : Answered) (m : Machine plans.words) → OnItsBus (replies plans.words a stage m)
reply_so (Opened true task part) a m = by (is_busy a.code)
  where
    by : (t : Bool) → OnItsBus (cond t None (Some (takes plans.words a task part m)))
    by true = tt
    by false = enters_so (stage_after plans.words m.stopped m.plan a task part) (record m { undo = undo_after plans.words a task part m.undo; counts = one_answered (bus_at plans.words part) m.counts })
reply_so (Opened false task part) a m = tt
reply_so AtStart a m = tt
reply_so AtEnd a m = tt
reply_so (AtHalt k why) a m = tt
reply_so AtUndone a m = tt
reply_so (AtRefused k code) a m = tt

goes_so : (m : ManagerState plans) (sends : Option (Sending plans.words)) → IfSome sends (λ s. s.bus ≡ bus_of s.asked) → Sends (option_map (sent_of plans m.names) sends)
goes_so m None is = tt
goes_so m (Some s) is = λ x before.
    subst (λ (on : Bus). Follow before (map (frame_now plans on ToPort s.count x) (values_of m.names s.count s.asked))) (sym is)
    (request_follows m.names s.count s.count s.asked x before)

taken_so : (m : ManagerState plans) (o : Option (Turn plans.words)) → OnItsBus o → Sends (taken_or plans m o).sent
taken_so m None is = tt
taken_so m (Some t) is = goes_so m t.sends is

tested_so : (on : Bus) (reply : List ℕ) (m : ManagerState plans) (o : Option (TaskPart plans.words)) → Sends (tested plans on reply m o).sent
tested_so on reply m None = tt
tested_so on reply m (Some part) = by (answers on (open_bytes plans on m part) reply)
  where
    by : (t : Bool) → Sends (cond t (taken_or plans m (reply_of plans.words (answered_from on reply) m.machine)) (rests plans m)).sent
    by true = taken_so m (reply_of plans.words (answered_from on reply) m.machine) (reply_so m.machine.stage (answered_from on reply) m.machine)
    by false = tt

response_so : (r : Response) (m : ManagerState plans) → Sends (hears_response plans r m).sent
unfolding hears_response
response_so r m = by (is_answer m.names r)
  where
    by : (t : Bool) → Sends (cond t (hears_reply plans Ipmb (response_bytes r) m) (rests plans m)).sent
    by true = tested_so Ipmb (response_bytes r) m (heeded_on plans Ipmb m.machine.stage)
    by false = tt

ends_so : (p : Packet) (c : Option DropCause) (m : ManagerState plans) → Sends (ends_reply plans p c m).sent
ends_so p (Some cause) m = tt
ends_so p None m = by p.end
  where
    by : (t : Bool) → Sends (cond t (hears_reply plans Smbus (message_of m.joined p).body m) (rests plans m)).sent
    by true = tested_so Smbus (message_of m.joined p).body m (heeded_on plans Smbus m.machine.stage)
    by false = tt

joins_so : (p : Packet) (m : ManagerState plans) (o : Option (TaskPart plans.words)) → Sends (joins_for plans p m o).sent
joins_so p m None = tt
joins_so p m (Some part) = by (is_part m.names (open_count plans Smbus m) p)
  where
    by : (t : Bool) → Sends (cond t (joins plans p m) (rests plans m)).sent
    by true = ends_so p (drop_cause m.names.own_eid m.joined p) (record m { joined = kept_after m.names.own_eid m.joined p })
    by false = tt

packet_so : (p : Packet) (m : ManagerState plans) → Sends (hears_packet plans p m).sent
unfolding hears_packet
packet_so p m = joins_so p m (heeded_on plans Smbus m.machine.stage)

hears_so : (v : Value) (m : ManagerState plans) → Sends (manager_hears plans v m).sent
hears_so (Asks r) m = tt
hears_so (Tells r) m = response_so r m
hears_so (Part p) m = packet_so p m

-- ---- a lab whose frames from one on weren't delivered yet

-- the packet that came last, where it is no end and went to the port's endpoint, opened its tag for its request or a later one
abbrev HasOpened : LabModel plans → LabFrame → Type 0
HasOpened x g = (q : Packet) → g.way ≡ ToPort → g.value ≡ Part q → q.end ≡ false → is_ours x.smbus.eid q ≡ true → g.request ≤ x.opened q.envelope.tag

record Ordered (x : LabModel plans) (number : ℕ) : Type 0 where
  done : List LabFrame
  waiting : List LabFrame
  frames : x.frames ≡ done ++ waiting
  count : length done ≡ number
  last : Option LabFrame
  follow : Follow last waiting
  opened : IfSome last (HasOpened x)

at_seam : {X : Type 0} (xs : List X) (y : X) (ys : List X) → slice_get (xs ++ y ∷ ys) (length xs) ≡ Some y
at_seam [] y ys = refl
at_seam (x ∷ xs) y ys = at_seam xs y ys

past_end : {X : Type 0} (xs : List X) → slice_get (xs ++ []) (length xs) ≡ None
past_end [] = refl
past_end (x ∷ xs) = past_end xs

one_longer : {X : Type 0} (xs : List X) (y : X) → length (xs ++ y ∷ []) ≡ length xs + 1
one_longer [] y = refl
one_longer (x ∷ xs) y = let r = one_longer xs y in omega arith

append_none : {X : Type 0} (xs : List X) → xs ++ [] ≡ xs
append_none [] = refl
append_none (x ∷ xs) = ap (λ l. x ∷ l) (append_none xs)

-- the frame in front
front : (x : LabModel plans) (number : ℕ) (done waiting : List LabFrame) → x.frames ≡ done ++ waiting → length done ≡ number → (o : Option LabFrame) → slice_get (done ++ waiting) (length done) ≡ o → slice_get x.frames number ≡ o
front x number done waiting frames count o there =
    ap (λ (n : ℕ). slice_get x.frames n) (sym count) ∙ ap (λ (l : List LabFrame). slice_get l (length done)) frames ∙ there

-- it was delivered, and others were sent
gone : (x y : LabModel plans) (number : ℕ) (f : LabFrame) (rest more : List LabFrame) (o : Ordered x number) → o.waiting ≡ f ∷ rest → y.frames ≡ x.frames ++ more
    → Follow (Some f) rest → ((b : Option LabFrame) → Follow b more) → HasOpened y f → Ordered y (number + 1)
gone x y number f rest more o is sent follow others opened = record {
  done = o.done ++ f ∷ [];
  waiting = rest ++ more;
  frames = sent ∙ ap (λ (l : List LabFrame). l ++ more) (o.frames ∙ ap (λ (l : List LabFrame). o.done ++ l) is) ∙ append_assoc o.done (f ∷ rest) more
      ∙ sym (append_assoc o.done (f ∷ []) (rest ++ more));
  count = one_longer o.done f ∙ ap (λ (n : ℕ). n + 1) o.count;
  last = Some f;
  follow = follow_more (Some f) rest more follow others;
  opened = opened;
}

-- a test of two that passes
first_passes : (a b : Bool) → not (a && b) ≡ false → a ≡ true
first_passes true b test = refl
first_passes false b test = absurd (false≢true (sym test))

at_most : (n m : ℕ) → nat_le n m ≡ true → n ≤ m
at_most n m test = grind (arith, nat_tests)

module _ (file : BoardFile) (x : LabModel plans) (number : ℕ) (o : Ordered x number) (f : LabFrame) (rest : List LabFrame) (is : o.waiting ≡ f ∷ rest) where
  there : slice_get x.frames number ≡ Some f
  there = front x number o.done o.waiting o.frames o.count (Some f) (ap (λ (l : List LabFrame). slice_get (o.done ++ l) (length o.done)) is ∙ at_seam o.done f rest)

  follow : MayFollow o.last f × Follow (Some f) rest
  follow = subst (Follow o.last) is o.follow

  -- ---- it comes to the port

  -- its request is live where the lab takes it
  recent : f.on ≡ Smbus → fault_of plans x (lab.ToBmc number) ≡ None → begun_on plans.words Smbus x.manager.machine ≤ f.request + 8
  recent on none =
      let at : first_of (delivery plans ToPort x (Some f)) ≡ None = subst (λ (g : Option LabFrame). first_of (delivery plans ToPort x g) ≡ None) there none in
      let one = no_check WrongWay (not (same_way f.way ToPort)) (first_of (check Aged (not (is_live plans x f)) ∷ check Room (is_full plans x) ∷ [])) at in
      let two = no_check Aged (not (is_live plans x f)) (first_of (check Room (is_full plans x) ∷ [])) one.1 in
      let low : begun_on plans.words f.on x.manager.machine ≤ f.request + span_of f.on = at_most _ _ (first_passes _ _ two.0) in
      subst (λ (bus : Bus). begun_on plans.words bus x.manager.machine ≤ f.request + span_of bus) on low

  -- what it stands behind was joined under its tag for its own request
  abbrev HasOwn : Packet → Type 0
  HasOwn p = p.start ≡ false → is_ours x.smbus.eid p ≡ true → f.request ≤ x.opened p.envelope.tag

  own : (p : Packet) → f.way ≡ ToPort → f.value ≡ Part p → HasOwn p
  own p way value more ours =
      let behind = (follow.0 p way value).joined more in
      let g = behind.0 in
      let b = behind.2 in
      let opened : HasOpened x g = subst (λ (l : Option LabFrame). IfSome l (HasOpened x)) behind.1 o.opened in
      let mine : is_ours x.smbus.eid b.packet ≡ true = ap (λ (e : Envelope). e.destination_eid == x.smbus.eid || e.destination_eid == 0) b.envelope ∙ ours in
      let low = opened b.packet b.way b.value b.more mine in
      subst (λ (n : ℕ). n ≤ x.opened p.envelope.tag) b.request (subst (λ (e : Envelope). g.request ≤ x.opened e.tag) b.envelope low)

  keeps_at : (v : Value) → f.way ≡ ToPort → f.value ≡ v → fault_of plans x (lab.ToBmc number) ≡ None → JoinsLive plans x v
  keeps_at (Asks r) way value none = tt
  keeps_at (Tells r) way value none = tt
  keeps_at (Part p) way value none = λ more to_port dropped.
      let ours = (passes x.smbus.eid x.smbus.kept p dropped).0 in
      let low = own p way value more ours in
      let late = recent (follow.0 p way value).on none in
      omega (arith, low, late)

  keeps : f.way ≡ ToPort → fault_of plans x (lab.ToBmc number) ≡ None → IsJoinLive plans x (lab.ToBmc number)
  keeps way none = subst (λ (g : Option LabFrame). IfSome g (λ h. JoinsLive plans x h.value)) (sym there) (keeps_at f.value way refl none)

  -- the port keeps its endpoint where the packet ends no message
  part_eid : (port : PortState) (b : State) (p : Packet) → p.end ≡ false → (hears file port b (Part p)).port.eid ≡ port.eid
  unfolding hears_part
  part_eid port b p more = by (p.envelope.destination == port.wire)
    where
      ended : (next : PortState) (c : Option DropCause) → (ends_message file next b p c).port.eid ≡ next.eid
      ended next (Some cause) = refl
      ended next None = ap (λ (t : Bool). (cond t (hears_message file next b (message_of next.kept p)) (stays next b)).port.eid) more

      by : (t : Bool) → (cond t (hears_part file port b p) (stays port b)).port.eid ≡ port.eid
      by true = ended (record port { kept = kept_after port.eid port.kept p }) (drop_cause port.eid port.kept p)
      by false = refl

  -- the tag is opened by it, or was before
  opens_own : (y : LabModel plans) (p : Packet) → f.way ≡ ToPort → f.value ≡ Part p → y.opened ≡ (opens plans (Part p) f.request x).opened → y.smbus.eid ≡ x.smbus.eid
      → is_ours y.smbus.eid p ≡ true → f.request ≤ y.opened p.envelope.tag
  opens_own y p way value same eid ours =
      let mine : is_ours x.smbus.eid p ≡ true = ap (λ (own : ℕ). is_ours own p) (sym eid) ∙ ours in
      subst (λ (o : ℕ → ℕ). f.request ≤ o p.envelope.tag) (sym same) (by p.start (is_ours x.smbus.eid p) refl mine)
    where
      by : (s w : Bool) → p.start ≡ s → w ≡ true
          → f.request ≤ (cond (s && w) (record x { opened = λ (tag : ℕ). cond (tag == p.envelope.tag) f.request (x.opened tag) }) x).opened p.envelope.tag
      by true true begins sure = subst (λ (t : Bool). f.request ≤ cond t f.request (x.opened p.envelope.tag)) (sym (eq-eqb p.envelope.tag p.envelope.tag refl)) (omega arith)
      by true false begins sure = absurd (false≢true sure)
      by false true begins sure = own p way value begins (ap (λ (own : ℕ). is_ours own p) (sym eid) ∙ ours)
      by false false begins sure = own p way value begins (ap (λ (own : ℕ). is_ours own p) (sym eid) ∙ ours)

  abbrev does_on : Bus → LabModel plans
  does_on bus = port_does plans bus ToManager f.request (hears file (port_on plans bus x) x.board f.value) (opens plans f.value f.request x)

  does_so : (bus : Bus) → Ordered (does_on bus) (number + 1)
  does_so Ipmb =
      let s = opens_same plans f.value f.request x in
      let y0 : LabModel plans = record x { opened = s.0 } in
      let d = hears file x.ipmb x.board f.value in
      let y = port_does plans Ipmb ToManager f.request d y0 in
      let unsent : LabModel plans = record y0 { board = d.board; ipmb = d.port } in
      let opened : HasOpened y f = λ p way value more ours.
      opens_own y p way value (sym (ap (λ (z : LabModel plans). z.opened) s.1) ∙ ap (λ (v : Value). (opens plans v f.request x).opened) value) refl ours in
      subst (λ (z : LabModel plans). Ordered (port_does plans Ipmb ToManager f.request d z) (number + 1)) (sym s.1)
      (gone x y number f rest (map (frame_now plans Ipmb ToManager f.request unsent) d.sent) o is refl follow.1 (replies_follow Ipmb f.request unsent d.sent) opened)
  does_so Smbus =
      let s = opens_same plans f.value f.request x in
      let y0 : LabModel plans = record x { opened = s.0 } in
      let d = hears file x.smbus x.board f.value in
      let y = port_does plans Smbus ToManager f.request d y0 in
      let unsent : LabModel plans = record y0 { board = d.board; smbus = d.port } in
      let opened : HasOpened y f = λ p way value more ours.
      opens_own y p way value (sym (ap (λ (z : LabModel plans). z.opened) s.1) ∙ ap (λ (v : Value). (opens plans v f.request x).opened) value)
      (ap (λ (v : Value). (hears file x.smbus x.board v).port.eid) value ∙ part_eid x.smbus x.board p more) ours in
      subst (λ (z : LabModel plans). Ordered (port_does plans Smbus ToManager f.request d z) (number + 1)) (sym s.1)
      (gone x y number f rest (map (frame_now plans Smbus ToManager f.request unsent) d.sent) o is refl follow.1 (replies_follow Smbus f.request unsent d.sent) opened)

  to_port : Ordered (step plans file x (lab.ToBmc number)) (number + 1)
  unfolding step
  to_port = subst (λ (g : Option LabFrame). Ordered (delivered plans file g x) (number + 1)) (sym there) (does_so f.on)

  -- ---- it comes to the manager

  went : f.way ≡ ToManager → (m : ManagerState plans) (s : Option Sent) → Sends s → Ordered (manager_does plans (record { manager = m; sent = s }) x) (number + 1)
  went way m None sent =
      let y : LabModel plans = record x { manager = m } in
      gone x y number f rest [] o is (sym (append_none x.frames)) follow.1 (λ b. tt) (λ p to value more ours. absurd (no_manager (sym way ∙ to)))
  went way m (Some s) sent =
      let y : LabModel plans = record x { manager = m } in
      gone x (manager_does plans (record { manager = m; sent = Some s }) x) number f rest (map (frame_now plans s.on ToPort s.request y) s.values) o is refl follow.1 (sent y)
      (λ p to value more ours. absurd (no_manager (sym way ∙ to)))

  to_manager : f.way ≡ ToManager → Ordered (step plans file x (lab.ToMgr number)) (number + 1)
  unfolding step
  to_manager way = subst (λ (g : Option LabFrame). Ordered (returned plans file g x) (number + 1)) (sym there)
      (went way (manager_hears plans f.value x.manager).manager (manager_hears plans f.value x.manager).sent (hears_so f.value x.manager))

  -- ---- the event that delivers it

  record Delivers (e : lab.Event) : Type 0 where
    live : fault_of plans x e ≡ None → IsJoinLive plans x e
    next : Ordered (step plans file x e) (number + 1)

  by_way : (e : lab.Event) (way : Way) → f.way ≡ way → delivery_of number way ≡ Some e → Delivers e
  by_way e ToPort way at = subst Delivers (same_Some (lab.ToBmc number) e at) (record { live = keeps way; next = to_port })
  by_way e ToManager way at = subst Delivers (same_Some (lab.ToMgr number) e at) (record { live = λ none. tt; next = to_manager way })
  by_way e ToOthers way at = absurd (none-some e at)

  event_goes : (e : lab.Event) → delivery_in number (slice_get x.frames number) ≡ Some e → Delivers e
  event_goes e at = by_way e f.way refl (sym (ap (delivery_in number) there) ∙ at)

-- ---- all frames are delivered

module _ (file : BoardFile) where
  goes_at : (x : LabModel plans) (number : ℕ) (o : Ordered x number) (waiting : List LabFrame) → o.waiting ≡ waiting → (e : lab.Event) → delivery_in number (slice_get x.frames number) ≡ Some e
      → (fault_of plans x e ≡ None → IsJoinLive plans x e) × Ordered (step plans file x e) (number + 1)
  goes_at x number o [] is e at =
      let none : slice_get x.frames number ≡ None =
      front x number o.done o.waiting o.frames o.count None (ap (λ (l : List LabFrame). slice_get (o.done ++ l) (length o.done)) is ∙ past_end o.done) in
      absurd (none-some e (sym (ap (delivery_in number) none) ∙ at))
  goes_at x number o (f ∷ rest) is e at = let g = event_goes file x number o f rest is e at in (g.live, g.next)

  deliveries_keep : (es : List lab.Event) (x : LabModel plans) (number : ℕ) → Ordered x number → DeliversFrom plans file number es x → AllTaken plans file es x → AllJoinLive plans file es x
  deliveries_keep [] x number o d taken = tt
  deliveries_keep (e ∷ es) x number o d taken =
      let g = goes_at x number o o.waiting refl e d.0 in
      (g.0 taken.0, deliveries_keep es (step plans file x e) (number + 1) g.1 d.1 taken.1)

  -- ---- the manager is called

  sent_ordered : (x : LabModel plans) (m : ManagerState plans) (s : Option Sent) → Sends s → Ordered (manager_does plans (record { manager = m; sent = s }) x) (length x.frames)
  sent_ordered x m None sent = record { done = x.frames; waiting = []; frames = sym (append_none x.frames); count = refl; last = None; follow = tt; opened = tt }
  sent_ordered x m (Some s) sent =
      let y : LabModel plans = record x { manager = m } in
      record {
        done = x.frames;
        waiting = map (frame_now plans s.on ToPort s.request y) s.values;
        frames = refl;
        count = refl;
        last = None;
        follow = sent y None;
        opened = tt;
      }

  turn_ordered : (x : LabModel plans) (m : ManagerState plans) (t : Option (Turn plans.words)) → OnItsBus t → Ordered (call_does plans (option_map (goes_on plans m) t) x) (length x.frames)
  turn_ordered x m None is = record { done = x.frames; waiting = []; frames = sym (append_none x.frames); count = refl; last = None; follow = tt; opened = tt }
  turn_ordered x m (Some t) is = sent_ordered x (record m { machine = t.machine }) (option_map (sent_of plans m.names) t.sends) (goes_so m t.sends is)

  start_ordered : (x : LabModel plans) → Ordered (step plans file x (lab.Calls Start)) (length x.frames)
  unfolding step called
  start_ordered x =
      let m : ManagerState plans = record (x.manager) { joined = waits_after plans Start x.manager.joined } in
      turn_ordered x m (starts plans.words x.manager.machine.stage x.manager.machine) (start_so x.manager.machine.stage x.manager.machine)

  undo_ordered : (x : LabModel plans) → Ordered (step plans file x (lab.Calls Undo)) (length x.frames)
  unfolding step called
  undo_ordered x =
      let m : ManagerState plans = record (x.manager) { joined = waits_after plans Undo x.manager.joined } in
      turn_ordered x m (undoes plans.words x.manager.machine.stage x.manager.machine) (undo_so x.manager.machine.stage x.manager.machine)

  -- ---- a clean schedule

  taken_before : (es fs : List lab.Event) (x : LabModel plans) → AllTaken plans file (es ++ fs) x → AllTaken plans file es x
  taken_before [] fs x taken = tt
  taken_before (e ∷ es) fs x taken = (taken.0, taken_before es fs (step plans file x e) taken.1)

  live_append : (es fs : List lab.Event) (x : LabModel plans) → AllJoinLive plans file es x → AllJoinLive plans file fs (run plans file es x) → AllJoinLive plans file (es ++ fs) x
  unfolding run
  live_append [] fs x live more = more
  live_append (e ∷ es) fs x live more = (live.0, live_append es fs (step plans file x e) live.1 more)

  run_keeps : (es : List lab.Event) (x : LabModel plans) → length x.frames ≡ 0 → IsCleanRun plans file es x → AllTaken plans file es x → AllJoinLive plans file es x
  run_keeps es x none c taken =
      let all : AllTaken plans file (lab.Calls Start ∷ c.deliveries) x = subst (λ (l : List lab.Event). AllTaken plans file l x) c.all taken in
      let begun : Ordered (step plans file x (lab.Calls Start)) 0 = subst (Ordered (step plans file x (lab.Calls Start))) none (start_ordered x) in
      subst (λ (l : List lab.Event). AllJoinLive plans file l x) (sym c.all) (tt, deliveries_keep c.deliveries (step plans file x (lab.Calls Start)) 0 begun c.delivered all.1)

  undo_keeps : (es : List lab.Event) (x : LabModel plans) → length x.frames ≡ 0 → IsCleanUndo plans file es x → AllTaken plans file es x → AllJoinLive plans file es x
  undo_keeps es x none c taken =
      let y = run plans file c.before x in
      let rest : List lab.Event = lab.Calls Undo ∷ c.deliveries in
      let all : AllTaken plans file (c.before ++ rest) x = subst (λ (l : List lab.Event). AllTaken plans file l x) c.all taken in
      let behind = taken_behind file c.before rest x all in
      subst (λ (l : List lab.Event). AllJoinLive plans file l x) (sym c.all)
      (live_append c.before rest x (run_keeps c.before x none c.ran (taken_before c.before rest x all))
      (tt, deliveries_keep c.deliveries (step plans file y (lab.Calls Undo)) (length y.frames) (undo_ordered y) c.delivered behind.1))

  -- ---- as a schedule says it

  all_taken : (es : List Event) (x : LabModel plans) → AreTaken file es x → AllTaken plans file (events_from file es x) x
  all_taken [] x taken = tt
  all_taken (e ∷ es) x taken = (taken.0, all_taken es (happens file e x) taken.1)

  premise_kept : (es : List Event) (x : LabModel plans) → AllJoinLive plans file (events_from file es x) x → AllKeepPremise file es x
  premise_kept [] x live = tt
  premise_kept (e ∷ es) x live = (live.0, premise_kept es (happens file e x) live.1)

-- a clean schedule that a lab takes keeps the premise
pub clean_keeps : (file : BoardFile) (plan : List Op) (retries : ℕ) (undo : Bool) (events : List Event) → let x = opening plans file lab_names plan retries in
    IsCleanFor file plan retries links.Clean undo events → AreTaken file events x → AllKeepPremise file events x
clean_keeps file plan retries false events clean taken =
    let x = opening plans file lab_names plan retries in
    premise_kept file events x (run_keeps file (events_from file events x) x refl clean (all_taken file events x taken))
clean_keeps file plan retries true events clean taken =
    let x = opening plans file lab_names plan retries in
    premise_kept file events x (undo_keeps file (events_from file events x) x refl clean (all_taken file events x taken))
