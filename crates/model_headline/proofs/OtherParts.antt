-- What all packets of another's message do at the port on SMBus in a lab, they do in the model's world.
use Rattle.std.proofs.Common.{◌≡◌, ◌≢◌, ℕ, ◌<◌, ◌≤◌, Bool, true, false, cond, ◌&&◌, leb, List, [], ◌∷◌, length, map, Option, Some, None, refl, sym, ◌∙◌, ap, subst, arith}
use Rattle.std.specs.Prelude.{◌==◌, not}
use Rattle.std.proofs.lemmas.Bool.{eqb-true, leb-true}
use Rattle.two_wire.specs.declared.Bus.{Bus}
use Rattle.two_wire.specs.declared.Bus.TheVariants.{Ipmb, Smbus}
use Rattle.mctp_net.specs.declared.packet.Packet.{Packet}
use Rattle.mctp_net.specs.declared.packet.Envelope.{Envelope}
use Rattle.mctp_net.specs.declared.message.Message.{Message}
use Rattle.mctp_net.specs.declared.taken.DropCause.{DropCause}
use Rattle.mctp_net.specs.declared.taken.DropCause.TheVariants.{NotOurs, NoStart, TooLong, OutOfSequence, UnitSize, NoSlot}
use Rattle.mctp_net.specs.Sizes.{unit_size}
use Rattle.mctp_net.specs.Cut.{piece}
use Rattle.mctp_net.specs.Assembly.{drop_cause, after as kept_after, message_of}
use Rattle.mctp_net.specs.Control.{Request as ControlRequest, request_of as control_request_of}
use Rattle.pldm_base.specs.declared.message.PldmRequest.{PldmRequest}
use Rattle.pldm_base.specs.Message.{request_in as pldm_request_in}
use Rattle.pldm_base.proofs.InBytes.{request-in}
use Rattle.cfg_records.specs.declared.board_file.BoardFile.{BoardFile}
use Rattle.bmc_board.specs.State.{State}
use Rattle.bmc_board.specs.Table.{is_changing}
use Rattle.bmc_board.specs.Answer.{answer_of}
use Rattle.bmc_board.proofs.OneAnswer.{has_answer}
use Rattle.bmc_board.proofs.Quiet.{keeps_records, keeps_stagings}
use Rattle.model_bus.specs.Repeat.{In}
use Rattle.model_bus.specs.Request.{Request as Heard, Kept, Entry}
use Rattle.model_bus.specs.Numbering.{is_above}
use Rattle.model_bus.specs.Carried.{Outcome, Repeats, IsBusy, IsNew, outcome, log_after}
use Rattle.model_bus.specs.Packet.{packets_of, packets_from, Packet as ModelPacket}
use Rattle.model_bus.specs.Assembly.{is_name, SentPacket, Step, takes}
use Rattle.model_bus.specs.BusState.{BusState}
use Rattle.model_bus.specs.Answering.{AreWritten}
use Rattle.model_bus.specs.PacketBus.{PacketBus, BusEnds, PacketEvent, OtherPacket, Closes, request_name, set_at, other_request, hears_other, packet_happens}
use Rattle.model_bus.proofs.Lists.{Grows}
use Rattle.model_undo.specs.Machine.{count_of}
use Rattle.model_undo.specs.World.{States, OnBus, OnBench, update}
use Rattle.bmc_core.specs.Wires.{family_answer}
use Rattle.bmc_core.specs.Seen.{seen, WaitsAlike}
use Rattle.model_lab.proofs.Board.{kept_by}
use Rattle.undo_plans.specs.declared.names.Names.{Names}
use Rattle.bmc_core.specs.Values.{parts_of}
use Rattle.bmc_core.specs.Bytes.{pldm_heard_in}
use Rattle.bmc_core.specs.PortSteps.{PortState, StepResult, turn, spelled, left_by, pldm_asked, stays, hears_control, hears_pldm, hears_typed, hears_message, hears_part, hears_parts, ends_message, hears_all}
use Rattle.bmc_core.specs.PortEvents.{name_in, part_answer_to, event_by, happens_if, IsPortOf}
use Rattle.model_lab.specs.ManagerSteps.{addresses}
use Rattle.model_lab.specs.Honest.{IsAnother, ChangesNothing}
use Rattle.model_lab.specs.declared.way.Way.TheVariants.{ToOthers}
use Rattle.model_lab.specs.Lab.{Lab, frame_now, with_port, port_does}
use Rattle.bmc_core.specs.Cuts.{is_for, has_slot, kept_with_parts}
use Rattle.bmc_core.proofs.PortEvents.{parts_leave_log}
use Rattle.bmc_core.proofs.Parts.{parts_are_heard}
use Rattle.model_headline.specs.Each.{Each}
use Rattle.model_headline.specs.Tied.{own_plans, own_lines, smbus_bus, rules_on, requests, IsHeld, IsAnswer, EntryAnswers, IsTied, WorldFollows}
use Rattle.model_headline.proofs.Each.{each_append, each_map, each_by_place}
use Rattle.model_headline.proofs.Frames.{all_held}
use Rattle.model_headline.proofs.Sending.{part_envelope, small_part}
use Rattle.model_headline.proofs.Goes.{Quietly, quiet_there, quietly_on, goes_quietly}

-- ---- what a port keeps, and its wire

module _ (setup : BoardFile) (names : Names) (before : State) where
  abbrev Answers : List Entry → Type 0
  Answers log = Each (EntryAnswers setup names Smbus) log

  -- the port stays at its wire, and each reply that it keeps is one
  pub record Fits (port : PortState) (d : StepResult) : Type 0 where
    pub wire : d.port.wire ≡ port.wire
    pub answered : Answers d.port.log

  log_answers : (o : Outcome) (k : Kept) (log : List Entry) → IsAnswer setup names Smbus k → Answers log → Answers (log_after o k log)
  log_answers (Repeats reply) k log is all = all
  log_answers IsBusy k log is all = all
  log_answers IsNew k log is all = (is, all)

  stays_fit : (port : PortState) → Answers port.log → Fits port (stays port before)
  stays_fit port all = record { wire = refl; answered = all }

  control_fits : (port : PortState) (m : Message) (o : Option ControlRequest) → Answers port.log → Fits port (hears_control port before m o)
  control_fits port m None all = record { wire = refl; answered = all }
  control_fits port m (Some r) all = record { wire = refl; answered = all }

  pldm_fits : (port : PortState) (m : Message) (o : Option PldmRequest) → Answers port.log → Fits port (hears_pldm setup port before m o)
  unfolding turn
  pldm_fits port m None all = record { wire = refl; answered = all }
  pldm_fits port m (Some r) all =
      let s = pldm_heard_in m.envelope.source_eid r in
      let given = answer_of setup before (pldm_asked m.envelope.source_eid r) in
      let k : Kept = record { request = s; reply = spelled Smbus s given.0 } in
      record { wire = refl; answered = log_answers (outcome (is_above 32) s port.log) k port.log (family_answer given.0, refl) all }

  typed_fits : (port : PortState) (m : Message) (body : List ℕ) → Answers port.log → Fits port (hears_typed setup port before m body)
  typed_fits port m [] all = stays_fit port all
  typed_fits port m (kind ∷ rest) all = by (kind == 0) (kind == 1)
    where
      by : (zero one : Bool) → Fits port (cond zero (hears_control port before m (control_request_of m.body)) (cond one (hears_pldm setup port before m (pldm_request_in rest)) (stays port before)))
      by true one = control_fits port m (control_request_of m.body) all
      by false true = pldm_fits port m (pldm_request_in rest) all
      by false false = stays_fit port all

  message_fits : (port : PortState) (m : Message) → Answers port.log → Fits port (hears_message setup port before m)
  unfolding hears_message
  message_fits port m all = by m.envelope.tag_owner
    where
      by : (t : Bool) → Fits port (cond t (hears_typed setup port before m m.body) (stays port before))
      by true = typed_fits port m m.body all
      by false = stays_fit port all

  ends_fits : (port : PortState) (p : Packet) (c : Option DropCause) → Answers port.log → Fits port (ends_message setup port before p c)
  ends_fits port p (Some cause) all = stays_fit port all
  ends_fits port p None all = by p.end
    where
      by : (t : Bool) → Fits port (cond t (hears_message setup port before (message_of port.kept p)) (stays port before))
      by true = message_fits port (message_of port.kept p) all
      by false = stays_fit port all

  pub part_fits : (port : PortState) (p : Packet) → Answers port.log → Fits port (hears_part setup port before p)
  unfolding hears_part
  part_fits port p all =
      let fits = ends_fits (record port { kept = kept_after port.eid port.kept p }) p (drop_cause port.eid port.kept p) all in
      record { wire = fits.wire; answered = fits.answered }

-- ---- a message that sets no configuration leaves the records and what is staged

module _ (setup : BoardFile) (before : State) where
  -- no record changes, and nothing of what is staged
  abbrev Leaves : State → Type 0
  Leaves after = (after.records ≡ before.records) × (after.activity.stagings ≡ before.activity.stagings)

  abbrev Keeps : StepResult → Type 0
  Keeps d = Leaves d.board

  turn_leaves : (o : Outcome) (after : State) → Leaves after → Leaves (left_by o after before)
  turn_leaves (Repeats reply) after same = (refl, refl)
  turn_leaves IsBusy after same = (refl, refl)
  turn_leaves IsNew after same = same

  pldm_keeps : (port : PortState) (m : Message) (o : Option PldmRequest) → ((r : PldmRequest) → o ≡ Some r → is_changing (pldm_asked m.envelope.source_eid r) ≡ false) → Keeps (hears_pldm setup port before m o)
  unfolding turn
  pldm_keeps port m None quiet = (refl, refl)
  pldm_keeps port m (Some r) quiet =
      let s = pldm_heard_in m.envelope.source_eid r in
      let asked = pldm_asked m.envelope.source_eid r in
      let given = answer_of setup before asked in
      let row = has_answer setup before asked in
      turn_leaves (outcome (is_above 32) s port.log) given.1 (keeps_records setup before asked given.0 given.1 (quiet r refl) row, keeps_stagings setup before asked given.0 given.1 (quiet r refl) row)

  control_keeps : (port : PortState) (m : Message) (o : Option ControlRequest) → Keeps (hears_control port before m o)
  control_keeps port m None = (refl, refl)
  control_keeps port m (Some r) = (refl, refl)

  typed_keeps : (port : PortState) (m : Message) (body : List ℕ) → ChangesNothing m.envelope.source_eid body → Keeps (hears_typed setup port before m body)
  typed_keeps port m [] quiet = (refl, refl)
  typed_keeps port m (kind ∷ rest) quiet = by (kind == 0) (kind == 1) refl
    where
      by : (zero one : Bool) → (kind == 1) ≡ one → Keeps (cond zero (hears_control port before m (control_request_of m.body)) (cond one (hears_pldm setup port before m (pldm_request_in rest)) (stays port before)))
      by true one e = control_keeps port m (control_request_of m.body)
      by false true e = pldm_keeps port m (pldm_request_in rest) (λ r read. quiet rest r (ap (λ (k : ℕ). k ∷ rest) (eqb-true _ _ e)) (request-in r rest read))
      by false false e = (refl, refl)

  message_keeps : (port : PortState) (m : Message) → ChangesNothing m.envelope.source_eid m.body → Keeps (hears_message setup port before m)
  unfolding hears_message
  message_keeps port m quiet = by m.envelope.tag_owner
    where
      by : (t : Bool) → Keeps (cond t (hears_typed setup port before m m.body) (stays port before))
      by true = typed_keeps port m m.body quiet
      by false = (refl, refl)

  -- a packet of no bytes that is all of its message
  abbrev empty_part : Envelope → Packet
  empty_part e = record { envelope = e; start = true; end = true; sequence = 0; payload = [] }

  empty_ends : (port : PortState) (e : Envelope) (c : Option DropCause) → Keeps (ends_message setup port before (empty_part e) c)
  empty_ends port e (Some cause) = (refl, refl)
  empty_ends port e None = message_keeps port (message_of port.kept (empty_part e)) (λ rest r is. absurd cc)

  parts_empty : (port : PortState) (e : Envelope) → Keeps (hears_parts setup port before (empty_part e ∷ []))
  unfolding hears_parts hears_part
  parts_empty port e = empty_ends (record port { kept = kept_after port.eid port.kept (empty_part e) }) e (drop_cause port.eid port.kept (empty_part e))

  no_parts : (port : PortState) → Keeps (hears_parts setup port before [])
  unfolding hears_parts
  no_parts port = (refl, refl)

  heard_keeps : (port : PortState) (m : Message) → ChangesNothing m.envelope.source_eid m.body → (t : Bool)
      → Keeps (cond t (hears_message setup (kept_with_parts port m) before m) (stays (kept_with_parts port m) before))
  heard_keeps port m quiet true = message_keeps (kept_with_parts port m) m quiet
  heard_keeps port m quiet false = (refl, refl)

  -- the packets of bytes in an envelope
  abbrev parts_at : Envelope → List ModelPacket → List Packet
  parts_at e qs = map (λ (q : ModelPacket). let r : Packet = record { envelope = e; start = q.first; end = q.last; sequence = q.sequence; payload = q.payload } in r) qs

  by_length : (port : PortState) (m : Message) (body : List ℕ) → m.body ≡ body → ChangesNothing m.envelope.source_eid m.body → (t : Bool) → leb (length body) 256 ≡ t
      → Keeps (hears_parts setup port before (parts_at m.envelope (cond t (packets_from 4 0 body) [])))
  by_length port m [] e quiet true t = parts_empty port m.envelope
  by_length port m (kind ∷ rest) e quiet true t =
      let most : length (kind ∷ rest) ≤ 256 = leb-true _ _ t in
      let heard = parts_are_heard setup port before m (subst (λ (b : List ℕ). 0 < length b) (sym e) (omega arith)) (subst (λ (b : List ℕ). length b ≤ 256) (sym e) most) in
      subst (λ (ps : List Packet). Keeps (hears_parts setup port before ps))
      (ap (λ (b : List ℕ). parts_at m.envelope (packets_of b)) e ∙ ap (λ (u : Bool). parts_at m.envelope (cond u (packets_from 4 0 (kind ∷ rest)) [])) t)
      (subst Keeps (sym heard) (heard_keeps port m quiet (is_for port m && has_slot port m)))
  by_length port m body e quiet false t = no_parts port

  pub parts_keep : (port : PortState) (m : Message) → ChangesNothing m.envelope.source_eid m.body → Keeps (hears_parts setup port before (parts_of m))
  parts_keep port m quiet = by_length port m m.body refl quiet (leb (length m.body) 256) refl

-- ---- one packet of another

module _ (setup : BoardFile) (names : Names) where
  module _ (x : Lab (own_plans setup names)) (on : States (own_lines setup names)) (tied : IsTied setup names x on) (before : State) (p : Packet) (small : length p.payload ≤ unit_size) (another : p.envelope.source_eid ≢ names.own_eid) where
    abbrev b : PacketBus
    b = smbus_bus setup names

    abbrev ends : BusEnds
    ends = on Smbus

    abbrev answer : List ℕ
    answer = part_answer_to setup x.smbus before p

    abbrev event : PacketEvent
    event = OtherPacket (name_in p) (seen (piece p)) answer

    abbrev cause : Option DropCause
    cause = drop_cause x.smbus.eid x.smbus.kept p

    abbrev port : PortState
    port = (hears_part setup x.smbus before p).port

    abbrev left_lab : Lab (own_plans setup names)
    left_lab = record x { smbus = port }

    fits : Fits setup names before x.smbus (hears_part setup x.smbus before p)
    fits = part_fits setup names before x.smbus p (subst (Each (EntryAnswers setup names Smbus)) tied.smbus_port.log (tied.answered Smbus))

    -- it is none of the manager's
    not_mine : (n : ℕ) → is_name (request_name b n) (name_in p) ≡ false
    not_mine n = ap (λ (t : Bool). (t && cond true p.envelope.tag_owner (not p.envelope.tag_owner)) && ((request_name b n).tag == p.envelope.tag)) (by (names.own_eid == p.envelope.source_eid) refl)
      where
        by : (t : Bool) → (names.own_eid == p.envelope.source_eid) ≡ t → (names.own_eid == p.envelope.source_eid) ≡ false
        by true e = absurd (another (sym (eqb-true _ _ e)))
        by false e = e

    -- these ends hold what the manager had
    record Stays (e : BusEnds) : Type 0 where
      manager : e.manager ≡ ends.manager
      taken : e.bus.taken ≡ ends.bus.taken
      written : AreWritten Smbus (rules_on setup names Smbus) e.bus
      more : Grows ends.bus.frames e.bus.frames
      mine : (n : ℕ) → e.port (request_name b n) ≡ ends.port (request_name b n)

    tied_at : (e : BusEnds) → IsPortOf e port → Stays e → IsTied setup names left_lab (update (own_lines setup names) Smbus e on)
    tied_at e is s = record {
      named = tied.named;
      ipmb_wire = tied.ipmb_wire;
      smbus_wire = fits.wire ∙ tied.smbus_wire;
      ipmb_log = tied.ipmb_log;
      smbus_port = is;
      waits = subst (λ w. WaitsAlike w x.manager.joined) (sym s.manager) tied.waits;
      alone = tied.alone;
      counted = by (λ any c. count_of any x.manager.machine.counts ≡ length c.taken) tied.counted (tied.counted Smbus ∙ ap (λ (t : List (List ℕ)). length t) (sym s.taken));
      written = by (λ any c. AreWritten any (rules_on setup names any) c) tied.written s.written;
      answered = by (λ any c. Each (EntryAnswers setup names any) c.log) tied.answered (subst (Each (EntryAnswers setup names Smbus)) (sym is.log) fits.answered);
      made = tied.made;
      frames = all_held setup names on (update (own_lines setup names) Smbus e on) x.frames (by (λ any c. Grows (requests setup names on any).frames c.frames) (λ any n f at. at) s.more) tied.frames;
      opened = λ n t at. tied.opened n t (subst (λ (ss : List SentPacket). In t ss) (s.mine n) at);
    }
      where
        by : (Q : Bus → BusState → Type 0) → ((any : Bus) → Q any (requests setup names on any)) → Q Smbus e.bus → (any : Bus) → Q any (requests setup names (update (own_lines setup names) Smbus e on) any)
        by Q all here Ipmb = all Ipmb
        by Q all here Smbus = here

    set_beside : (ss : List SentPacket) (n : ℕ) → set_at (name_in p) ss ends.port (request_name b n) ≡ ends.port (request_name b n)
    set_beside ss n = ap (λ (t : Bool). cond t ss (ends.port (request_name b n))) (not_mine n)

    asks_stays : (o : Option Heard) (ss : List SentPacket) → Stays (record ends { bus = hears_other (rules_on setup names Smbus) answer o ends.bus; port = set_at (name_in p) ss ends.port })
    asks_stays None ss = record {
      manager = refl;
      taken = refl;
      written = tied.written Smbus;
      more = λ n f at. at;
      mine = set_beside ss;
    }
    asks_stays (Some r) ss = record {
      manager = refl;
      taken = refl;
      written = record { requests = (tied.written Smbus).requests; replies = (tied.written Smbus).replies };
      more = λ n f at. at;
      mine = set_beside ss;
    }

    abbrev taken : Step × List SentPacket
    taken = takes (ends.port (name_in p)) (let s : SentPacket = record { request = 0; idles = 0; packet = seen (piece p) } in s)

    is_taken : IsPortOf (packet_happens b ends event) port → Quietly setup names x on left_lab
    is_taken is = record {
      went = record {
        happenings = OnBus Smbus event x.board ∷ [];
        left = update (own_lines setup names) Smbus (packet_happens b ends event) on;
        may = (((tt, another), refl, (refl, λ series bodies ready. ready)), tt);
        reaches = refl;
        tied = tied_at (packet_happens b ends event) is (asks_stays (other_request (name_in p) taken.0) taken.1);
      };
      none = refl;
    }

    is_closed : IsPortOf (packet_happens b ends (Closes (name_in p))) port → Quietly setup names x on left_lab
    is_closed is = record {
      went = record {
        happenings = OnBus Smbus (Closes (name_in p)) x.board ∷ [];
        left = update (own_lines setup names) Smbus (packet_happens b ends (Closes (name_in p))) on;
        may = (((tt, tt), refl, (refl, λ series bodies ready. ready)), tt);
        reaches = refl;
        tied = tied_at (packet_happens b ends (Closes (name_in p))) is (record { manager = refl; taken = refl; written = tied.written Smbus; more = λ n f at. at; mine = set_beside [] });
      };
      none = refl;
    }

    is_nothing : IsPortOf ends port → Quietly setup names x on left_lab
    is_nothing is = record {
      went = record {
        happenings = [];
        left = on;
        may = tt;
        reaches = refl;
        tied = record {
          named = tied.named;
          ipmb_wire = tied.ipmb_wire;
          smbus_wire = fits.wire ∙ tied.smbus_wire;
          ipmb_log = tied.ipmb_log;
          smbus_port = is;
          waits = tied.waits;
          alone = tied.alone;
          counted = tied.counted;
          written = tied.written;
          answered = tied.answered;
          made = tied.made;
          frames = tied.frames;
          opened = tied.opened;
        };
      };
      none = refl;
    }

    by_cause : (c : Option DropCause) → IsPortOf (happens_if b (event_by c (name_in p) event) ends) port → Quietly setup names x on left_lab
    by_cause (Some NotOurs) is = is_nothing is
    by_cause (Some NoSlot) is = is_closed is
    by_cause (Some NoStart) is = is_taken is
    by_cause (Some TooLong) is = is_taken is
    by_cause (Some OutOfSequence) is = is_taken is
    by_cause (Some UnitSize) is = is_taken is
    by_cause None is = is_taken is

    -- another's packet comes to the port; the frames that are sent come with the last
    pub part_goes : Quietly setup names x on left_lab
    part_goes = by_cause cause (parts_leave_log setup x.smbus before p b ends small tied.smbus_port).others

  -- ---- all packets of a message

  -- a packet of at most 64 bytes that isn't the manager's
  abbrev IsOthers : Packet → Type 0
  IsOthers p = (length p.payload ≤ unit_size) × (p.envelope.source_eid ≢ names.own_eid)

  parts_go : (ps : List Packet) → Each IsOthers ps → (x : Lab (own_plans setup names)) (on : States (own_lines setup names)) → IsTied setup names x on → (before : State)
      → Quietly setup names x on (record x { smbus = (hears_parts setup x.smbus before ps).port })
  unfolding hears_parts
  parts_go [] all x on tied before = quiet_there setup names x on tied
  parts_go (p ∷ ps) all x on tied before =
      let d = hears_part setup x.smbus before p in
      let next : Lab (own_plans setup names) = record x { smbus = d.port } in
      let first = part_goes x on tied before p all.0.0 all.0.1 in
      quietly_on setup names x next (record next { smbus = (hears_parts setup d.port d.board ps).port }) on first (parts_go ps all.1 next first.went.left first.went.tied d.board)

  all_others : (m : Message) → m.envelope.source_eid ≢ names.own_eid → Each IsOthers (parts_of m)
  all_others m another = each_by_place IsOthers (parts_of m) (λ n p at. (small_part m n p at, λ same. another (ap (λ (e : Envelope). e.source_eid) (sym (part_envelope m n p at)) ∙ same)))

  module _ (x : Lab (own_plans setup names)) (on : States (own_lines setup names)) (tied : IsTied setup names x on) where
    -- the lab after the deed, before its frames are sent
    abbrev unsent : StepResult → Lab (own_plans setup names)
    unsent d = with_port (own_plans setup names) Smbus d.port (record x { board = d.board })

    held : (now : States (own_lines setup names)) (d : StepResult) → Each (IsHeld setup names now) (map (frame_now (own_plans setup names) Smbus ToOthers 0 (unsent d)) d.sent)
    held now d = each_map (frame_now (own_plans setup names) Smbus ToOthers 0 (unsent d)) (IsHeld setup names now) d.sent (each_by_place _ d.sent (λ n v at. tt))

    ends_so : (d : StepResult) → Keeps setup x.board d → Quietly setup names x on (record x { smbus = d.port }) → WorldFollows setup names x on (port_does (own_plans setup names) Smbus ToOthers 0 d x)
    ends_so d leaves first =
        let now = first.went.left in
        let t = first.went.tied in
        goes_quietly setup names x (port_does (own_plans setup names) Smbus ToOthers 0 d x) on (quietly_on setup names x (record x { smbus = d.port }) (port_does (own_plans setup names) Smbus ToOthers 0 d x) on first (record {
          went = record {
            happenings = OnBench d.board ∷ [];
            left = now;
            may = (kept_by setup (addresses names) x.board d.board leaves.0 leaves.1, tt);
            reaches = refl;
            tied = record {
              named = t.named;
              ipmb_wire = t.ipmb_wire;
              smbus_wire = t.smbus_wire;
              ipmb_log = t.ipmb_log;
              smbus_port = t.smbus_port;
              waits = t.waits;
              alone = t.alone;
              counted = t.counted;
              written = t.written;
              answered = t.answered;
              made = t.made;
              frames = each_append (IsHeld setup names now) x.frames (map (frame_now (own_plans setup names) Smbus ToOthers 0 (unsent d)) d.sent) t.frames (held now d);
              opened = t.opened;
            };
          };
          none = refl;
        }))

    -- a message of another comes, if it goes to the port's address
    pub message_goes : (m : Message) → ChangesNothing m.envelope.source_eid m.body → IsAnother Smbus x.manager.names m.envelope.source_eid
        → WorldFollows setup names x on (port_does (own_plans setup names) Smbus ToOthers 0 (hears_all setup x.smbus x.board m) x)
    message_goes m quiet another = by (m.envelope.destination == x.smbus.wire)
      where
        there : m.envelope.source_eid ≢ names.own_eid
        there e = another.0 (e ∙ ap (λ n. n.own_eid) (sym tied.named))

        by : (t : Bool) → WorldFollows setup names x on (port_does (own_plans setup names) Smbus ToOthers 0 (cond t (hears_parts setup x.smbus x.board (parts_of m)) (stays x.smbus x.board)) x)
        by true = ends_so (hears_parts setup x.smbus x.board (parts_of m)) (parts_keep setup x.board x.smbus m quiet) (parts_go (parts_of m) (all_others m there) x on tied x.board)
        by false = ends_so (stays x.smbus x.board) (refl, refl) (quiet_there setup names x on tied)
