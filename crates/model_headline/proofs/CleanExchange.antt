-- On a clean link the open request is carried out, its reply is taken, and the manager goes on.
use Rattle.std.proofs.Common.{◌≡◌, ℕ, suc, ◌+◌, ◌*◌, ◌%◌, Bool, true, false, cond, List, [], ◌∷◌, Some, None, refl, sym, ◌∙◌, ap, subst, arith, ◌≤◌, inr}
use Rattle.std.specs.Prelude.{◌==◌}
use Rattle.std.specs.Option.{option_map}
use Rattle.std.proofs.lemmas.Bool.{and_from, eq-eqb}
use Rattle.two_wire.specs.declared.Bus.TheVariants.{Ipmb, Smbus}
use Rattle.ipmb_frame.specs.declared.message.Request.{Request}
use Rattle.mctp_net.specs.Assembly.{Assemblies, nothing}
use Rattle.record_base.specs.declared.message.Asked.{Asked}
use Rattle.record_base.specs.declared.message.Asked.TheVariants.{Ipmi}
use Rattle.cfg_records.specs.declared.board_file.BoardFile.{BoardFile}
use Rattle.bmc_board.specs.State.{State}
use Rattle.bmc_board.proofs.OneAnswer.{has_answer}
use Rattle.model_bus.specs.Request.{Request as Heard, Entry, Carried}
use Rattle.model_bus.specs.Carried.{IsNew, outcome}
use Rattle.model_bus.specs.Numbering.{is_above}
use Rattle.model_bus.specs.BusState.{request_of}
use Rattle.model_bus.specs.Bytes.{answers}
use Rattle.model_bus.proofs.NumberLaws.{ipmb_numbers}
use Rattle.model_bus.specs.Answered.{Answered}
use Rattle.model_undo.specs.Words.{is_busy}
use Rattle.model_undo.specs.Wires.{number_of, IsMade}
use Rattle.model_undo.specs.Machine.{Counts, Task, Part as TaskPart, Stage, Opened, Machine, Turn, enters, takes, reply_of, stage_after, undo_after, one_answered}
use Rattle.model_undo.specs.Clean.{Moment}
use Rattle.model_lab.specs.Family.{answer}
use Rattle.bmc_core.specs.Wires.{bytes_of, reply_to}
use Rattle.model_lab.specs.WireLaws.{managers, upper, lower}
use Rattle.model_lab.proofs.Spelled.{are_spelled}
use Rattle.model_lab.proofs.IsFamily.{is_family}
use Rattle.undo_plans.specs.declared.names.Names.{Names}
use Rattle.bmc_core.specs.Values.{Asks, Tells}
use Rattle.bmc_core.specs.Bytes.{heard_in, response_bytes, response_to}
use Rattle.bmc_core.specs.PortSteps.{PortState, StepResult, Turn as PortTurn, hears, hears_request, request_turn, response_after, spelled, asked_in, stays}
use Rattle.model_lab.specs.ManagerSteps.{addresses, ManagerState, ManagerStepResult, sent_of, goes_on, rests, taken_or, hears_reply, hears_response}
use Rattle.model_lab.specs.declared.way.Way.TheVariants.{ToManager}
use Rattle.bmc_core.proofs.Turning.{turns_by}
use Rattle.model_headline.specs.Tied.{own_plans, own_family, rules_on, ipmb_bus}
use Rattle.model_headline.proofs.Sending.{from_zero}
use Rattle.model_headline.proofs.CleanQueue.{due, Link, dues_of, port_goes, manager_goes, settles}
use Rattle.model_headline.proofs.CleanTest.{accepts}
use Rattle.model_headline.proofs.CleanLog.{IsLogOf, none_idle, next_is_new}
use Rattle.model_headline.proofs.CleanFresh.{NoIdles, SendsNewest, sends_newest, Calm}

module _ (setup : BoardFile) (names : Names) where
  -- what stands in a lab at a moment beside the manager's machine and the board
  pub record Rest : Type 0 where
    pub ipmb_log : List Entry
    pub smbus_log : List Entry
    pub kept : Assemblies
    pub joined : Assemblies

  abbrev pub ipmb_port : List Entry → PortState
  ipmb_port log = record { wire = names.peer_address; eid = names.peer_eid; kept = nothing; log = log }

  abbrev pub smbus_port : Assemblies → List Entry → PortState
  smbus_port kept log = record { wire = names.peer_wire; eid = names.peer_eid; kept = kept; log = log }

  abbrev pub manager_with : Assemblies → Machine (own_family setup names).words → ManagerState (own_plans setup names)
  manager_with joined m = record { machine = m; names = names; listed = Some names; joined = joined }

  -- the link, with a request just sent or nothing
  abbrev pub link_at : Turn (own_family setup names).words → State → Rest → Link (own_plans setup names)
  link_at t b r = record {
    board = b;
    ipmb = ipmb_port r.ipmb_log;
    smbus = smbus_port r.kept r.smbus_log;
    manager = manager_with r.joined t.machine;
    queue = dues_of (own_plans setup names) (option_map (sent_of (own_plans setup names) names) t.sends);
  }

  -- both logs have what was answered, and no packet waits
  pub record IsClear (c : Counts) (r : Rest) : Type 0 where
    pub ipmb : IsLogOf (rules_on setup names Ipmb) c.ipmb r.ipmb_log
    pub smbus : IsLogOf (rules_on setup names Smbus) c.smbus r.smbus_log
    pub kept : r.kept.open_count ≡ 0
    pub joined : r.joined.open_count ≡ 0

  pub clear_idles : (c : Counts) (t : Turn (own_family setup names).words) (b : State) (r : Rest) → IsClear c r → NoIdles (own_plans setup names) (link_at t b r)
  clear_idles c t b r clear q = (none_idle (rules_on setup names Ipmb) c.ipmb r.ipmb_log q clear.ipmb, none_idle (rules_on setup names Smbus) c.smbus r.smbus_log q clear.smbus)

  pub not_busy : (b : State) (asked : Asked) → is_busy (answer setup b asked).0.code ≡ false
  not_busy b asked = (is_family setup (addresses names)).never_busy b (answer setup b asked).1 asked (answer setup b asked).0 (has_answer setup b asked)

  -- ---- IPMB

  abbrev ipmb_request : ℕ → ℕ → ℕ → ℕ → List ℕ → Request
  ipmb_request count net_fn lun command body = record {
    header = record {
      responder = record { address = names.peer_address; lun = lun };
      requester = record { address = names.own_address; lun = 0 };
      net_fn = net_fn;
      sequence = number_of Ipmb count;
      command = command;
    };
    body = body;
  }

  responded : (net_fn lun number command : ℕ) (body : List ℕ) → lun ≡ 0 → (a : Answered)
      → (4 * (net_fn + 1) + 0) ∷ (4 * number + lun) ∷ command ∷ a.code ∷ a.body ≡ reply_to Ipmb ((4 * net_fn + lun) ∷ (4 * number + 0) ∷ command ∷ body) a
  responded net_fn lun number command body none a = λ i.
      (4 * (sym (upper net_fn lun none) i + 1) + sym (lower number 0 refl) i) ∷ (4 * sym (upper number 0 refl) i + sym (lower net_fn lun none) i) ∷ command ∷ a.code ∷ a.body

  -- the port carries the request out
  module _ (count from net_fn lun command : ℕ) (body : List ℕ) (made : IsMade (own_family setup names).words (Ipmi from net_fn lun command body)) (b : State) (log : List Entry) (is_log : IsLogOf (rules_on setup names Ipmb) count log) where
    abbrev asked : Asked
    asked = Ipmi from net_fn lun command body

    abbrev r : Request
    r = ipmb_request count net_fn lun command body

    abbrev bytes : List ℕ
    bytes = bytes_of (number_of Ipmb count) asked

    abbrev entry : Entry
    entry = Carried (record { request = heard_in r; reply = reply_to Ipmb bytes (answer setup b asked).0 })

    heard_is : heard_in r ≡ request_of (ipmb_bus setup names) count bytes
    heard_is = ap (λ (n : ℕ). let h : Heard = record { requester = names.own_address; number = n % 64; bytes = bytes } in h) (from_zero count)

    asked_is : asked_in r ≡ asked
    asked_is = ap (λ (n : ℕ). Ipmi n net_fn lun command body) (sym (managers (addresses names) asked made).0)

    turn_is : request_turn setup (ipmb_port log) b r ≡ record { outcome = IsNew; log = entry ∷ log; left = (answer setup b asked).1; replied = Some (reply_to Ipmb bytes (answer setup b asked).0) }
    turn_is =
        let new : outcome (is_above 64) (heard_in r) log ≡ IsNew = ap (λ (h : Heard). outcome (is_above 64) h log) heard_is ∙ next_is_new (ipmb_bus setup names) (ipmb_numbers names.own_address names.peer_address 0) count log bytes is_log in
        (turns_by (is_above 64) (heard_in r) (spelled Ipmb (heard_in r)) setup (asked_in r) log b).new new
        ∙ ap (λ (a : Asked). let t : PortTurn = record { outcome = IsNew; log = Carried (record { request = heard_in r; reply = reply_to Ipmb bytes (answer setup b a).0 }) ∷ log; left = (answer setup b a).1; replied = Some (reply_to Ipmb bytes (answer setup b a).0) } in t) asked_is

    abbrev deed_of : PortTurn → StepResult
    deed_of t = record { port = ipmb_port t.log; board = t.left; sent = response_after r t.replied ∷ [] }

    pub port_answers : hears setup (ipmb_port log) b (Asks r) ≡ record { port = ipmb_port (entry ∷ log); board = (answer setup b asked).1; sent = Tells (response_to r (answer setup b asked).0) ∷ [] }
    unfolding hears_request
    port_answers = ap (λ (t : Bool). cond t (hears_request setup (ipmb_port log) b r) (stays (ipmb_port log) b)) (eq-eqb names.peer_address names.peer_address refl) ∙ ap deed_of turn_is

    pub log_grows : IsLogOf (rules_on setup names Ipmb) (suc count) (entry ∷ log)
    log_grows = (record { request = heard_in r; reply = reply_to Ipmb bytes (answer setup b asked).0 }, log, refl, heard_is, is_log)

  abbrev pub part_of : Asked → List (List ℕ) → TaskPart (own_family setup names).words
  part_of asked before = record { asked = asked; before = before }

  -- the manager takes the reply
  module _ (joined : Assemblies) (task : Task (own_family setup names).words) (before : List (List ℕ)) (m : Machine (own_family setup names).words) (from net_fn lun command : ℕ) (body : List ℕ) (made : IsMade (own_family setup names).words (Ipmi from net_fn lun command body)) (b : State) where
    abbrev wanted : Asked
    wanted = Ipmi from net_fn lun command body

    abbrev open_machine : Machine (own_family setup names).words
    open_machine = record m { stage = Opened true task (part_of wanted before); resent = 0 }

    abbrev given : Answered
    given = (answer setup b wanted).0

    abbrev wanted_bytes : List ℕ
    wanted_bytes = bytes_of (number_of Ipmb m.counts.ipmb) wanted

    abbrev manager : ManagerState (own_plans setup names)
    manager = manager_with joined open_machine

    passes : answers Ipmb wanted_bytes (reply_to Ipmb wanted_bytes given) ≡ true
    passes = accepts Ipmb given.code wanted_bytes (reply_to Ipmb wanted_bytes given) (not_busy b wanted) ((are_spelled (addresses names)).replies m.counts.ipmb wanted given made)

    taken_is : (code : ℕ) (data_of : List ℕ) → is_busy code ≡ false → reply_of (own_family setup names).words (record { code = code; body = data_of }) open_machine ≡ Some (takes (own_family setup names).words (record { code = code; body = data_of }) task (part_of wanted before) open_machine)
    taken_is code data_of free = ap (λ (t : Bool). cond t None (Some (takes (own_family setup names).words (record { code = code; body = data_of }) task (part_of wanted before) open_machine))) free

    replied : hears_reply (own_plans setup names) Ipmb (reply_to Ipmb wanted_bytes given) manager ≡ goes_on (own_plans setup names) manager (takes (own_family setup names).words given task (part_of wanted before) open_machine)
    replied =
        ap (λ (t : Bool). cond t (taken_or (own_plans setup names) manager (reply_of (own_family setup names).words given open_machine)) (rests (own_plans setup names) manager)) passes
        ∙ ap (taken_or (own_plans setup names) manager) (taken_is given.code given.body (not_busy b wanted))

    pub manager_takes : hears_response (own_plans setup names) (response_to (ipmb_request m.counts.ipmb net_fn lun command body) given) manager ≡ goes_on (own_plans setup names) manager (takes (own_family setup names).words given task (part_of wanted before) open_machine)
    unfolding hears_response
    manager_takes =
        let response = response_to (ipmb_request m.counts.ipmb net_fn lun command body) given in
        ap (λ (t : Bool). cond t (hears_reply (own_plans setup names) Ipmb (response_bytes response) manager) (rests (own_plans setup names) manager))
        (and_from (names.own_address == names.own_address) (names.peer_address == names.peer_address) (eq-eqb _ _ refl) (eq-eqb _ _ refl))
        ∙ ap (λ (bytes : List ℕ). hears_reply (own_plans setup names) Ipmb bytes manager) (responded net_fn lun (number_of Ipmb m.counts.ipmb) command body (managers (addresses names) wanted made).1 given)
        ∙ replied

  -- ---- any request

  abbrev moment : Stage (own_family setup names).words → Machine (own_family setup names).words → State → Moment (own_family setup names)
  moment stage m b = record { turn = enters (own_family setup names).words stage m; board = b }

  -- the machine after the reply
  abbrev pub after_reply : Task (own_family setup names).words → TaskPart (own_family setup names).words → Machine (own_family setup names).words → State → Turn (own_family setup names).words
  after_reply task part m b = takes (own_family setup names).words (answer setup b part.asked).0 task part (record m { stage = Opened true task part; resent = 0 })

  pub record Exchanged (task : Task (own_family setup names).words) (part : TaskPart (own_family setup names).words) (m : Machine (own_family setup names).words) (b : State) (r : Rest) : Type 0 where
    pub count : ℕ
    pub rest : Rest
    pub clear : IsClear (after_reply task part m b).machine.counts rest
    pub calm : Calm (own_plans setup names) setup count (link_at (enters (own_family setup names).words (Opened true task part) m) b r)
    pub few : count ≤ 8
    pub is : settles (own_plans setup names) setup count (link_at (enters (own_family setup names).words (Opened true task part) m) b r) ≡ link_at (after_reply task part m b) (answer setup b part.asked).1 rest

  pub ipmb_exchange : (task : Task (own_family setup names).words) (from net_fn lun command : ℕ) (body : List ℕ) (before : List (List ℕ)) (m : Machine (own_family setup names).words) (b : State) (r : Rest)
      → IsMade (own_family setup names).words (Ipmi from net_fn lun command body) → IsClear m.counts r → Exchanged task (part_of (Ipmi from net_fn lun command body) before) m b r
  ipmb_exchange task from net_fn lun command body before m b r made clear =
      let asked : Asked = Ipmi from net_fn lun command body in
      let part = part_of asked before in
      let request = ipmb_request m.counts.ipmb net_fn lun command body in
      let l = link_at (enters (own_family setup names).words (Opened true task part) m) b r in
      let e = Carried (record { request = heard_in request; reply = reply_to Ipmb (bytes_of (number_of Ipmb m.counts.ipmb) asked) (answer setup b asked).0 }) in
      let told = Tells (response_to request (answer setup b asked).0) in
      let mid : Link (own_plans setup names) = record l { board = (answer setup b asked).1; ipmb = ipmb_port (e ∷ r.ipmb_log); queue = due Ipmb ToManager told ∷ [] } in
      let heard = port_answers m.counts.ipmb from net_fn lun command body made b r.ipmb_log clear.ipmb in
      let taken = manager_takes r.joined task before m from net_fn lun command body made b in
      let turn = after_reply task part m b in
      let quiet : NoIdles (own_plans setup names) mid = (λ q. (none_idle (rules_on setup names Ipmb) (suc m.counts.ipmb) (e ∷ r.ipmb_log) q (log_grows m.counts.ipmb from net_fn lun command body made b r.ipmb_log clear.ipmb), none_idle (rules_on setup names Smbus) m.counts.smbus r.smbus_log q clear.smbus)) in
      let newest : SendsNewest (own_plans setup names) (goes_on (own_plans setup names) mid.manager turn) =
      sends_newest (own_plans setup names) mid.manager (stage_after (own_family setup names).words m.stopped m.plan (answer setup b asked).0 task part) (record m { stage = Opened true task part; resent = 0; undo = undo_after (own_family setup names).words (answer setup b asked).0 task part m.undo; counts = one_answered Ipmb m.counts }) in
      let last : SendsNewest (own_plans setup names) (hears_response (own_plans setup names) (response_to request (answer setup b asked).0) mid.manager) = subst (SendsNewest (own_plans setup names)) (sym taken) newest in
      record {
        count = 2;
        calm = (clear_idles m.counts (enters (own_family setup names).words (Opened true task part) m) b r clear, (omega arith, tt), subst (λ (d : StepResult). Calm (own_plans setup names) setup 1 (port_goes (own_plans setup names) Ipmb d [] l)) (sym heard) (quiet, (omega arith, inr (refl, last)), quiet));
        few = omega arith;
        rest = record r { ipmb_log = e ∷ r.ipmb_log };
        clear = record {
          ipmb = log_grows m.counts.ipmb from net_fn lun command body made b r.ipmb_log clear.ipmb;
          smbus = clear.smbus;
          kept = clear.kept;
          joined = clear.joined;
        };
        is = ap (λ (d : StepResult). settles (own_plans setup names) setup 1 (port_goes (own_plans setup names) Ipmb d [] l)) heard
            ∙ ap (λ (d : ManagerStepResult (own_plans setup names)). manager_goes (own_plans setup names) d [] mid) taken;
      }
