-- What the board did in each event of a run, and in all.
use Rattle.std.proofs.Common.{◌≡◌, ℕ, ◌≤◌, lit≤, ◌==◌, ◌&&◌, Bool, true, false, cond, List, [], ◌∷◌, ◌++◌, Option, Some, None, refl, sym, ◌∙◌, subst}
use Rattle.std.specs.Prelude.{slice_get, if◌then◌else◌}
use Rattle.mctp_net.specs.Assembly.{is_ours}
use Rattle.std.proofs.lemmas.List.{append-nil}
use Rattle.std.proofs.lemmas.List.Elements.{All-nil}
use Rattle.two_wire.specs.declared.Bus.{Bus}
use Rattle.two_wire.specs.declared.Bus.TheVariants.{Ipmb, Smbus}
use Rattle.cfg_records.specs.declared.board_file.BoardFile.{BoardFile}
use Rattle.bmc_board.specs.declared.activity.Activity.{Activity}
use Rattle.bmc_board.specs.declared.bench.Bench.{Bench}
use Rattle.bmc_board.specs.State.{on_bench as left_by_bench}
use Rattle.bmc_board.specs.Sensing.{bench_of}
use Rattle.bmc_board.proofs.SensingFacts.{benched_so as bench_leaves}
use Rattle.model_bus.specs.Request.{Entry}
use Rattle.bmc_core.specs.Values.{Value, Asks, Tells, Part}
use Rattle.bmc_core.specs.PortSteps.{PortState, StepResult, idles, hears, hears_all}
use Rattle.text_lines.specs.declared.event.Event.{Event}
use Rattle.text_lines.specs.declared.event.Event.TheVariants as event
use Rattle.model_lab.specs.declared.way.Way.{Way}
use Rattle.model_lab.specs.declared.way.Way.TheVariants.{ToManager, ToOthers}
use Rattle.model_lab.specs.ManagerSteps.{ManagerStepResult, Sent, called, manager_hears}
use Rattle.model_lab.specs.Lab.{LabFrame, Lab, port_on, with_port, sends, manager_does, call_does, port_does, opens, delivered, returned, step}
use Rattle.model_lab.specs.Meaning.{lab_names, request_of, message_of, on_board}
use Rattle.model_lab.specs.Played.{plans, happens, after}
use Rattle.bmc_shared.specs.declared.event.Call.{Call}
use Rattle.bmc_shared.specs.declared.event.Event.{Event as BoardEvent}
use Rattle.bmc_shared.specs.Replay.{calls_of, IsReplay}
use Rattle.model_headline.specs.Histories.{all_carried, CarriesOut, benched, on_bench, IsDone, HasHistory}
use Rattle.model_headline.proofs.Lists.{carries_none, carries_both, replays_both, calls_both, at_seat, own, none_of, all_seated}
use Rattle.model_headline.proofs.Carrying.{DidAt}
use Rattle.model_headline.proofs.Hearing.{did_hear, did_all}

-- what a port carried out is the same by both logs
carries_same : (old new : List Entry) → all_carried new ≡ all_carried old → CarriesOut [] old new
carries_same old new same = ([], same ∙ sym (append-nil (all_carried old)), tt)

-- another log of the same port
same_log : (calls : List Call) (old new later : PortState) → later ≡ new → CarriesOut calls old.log new.log → CarriesOut calls old.log later.log
same_log calls old new later same carried = subst (λ (port : PortState). CarriesOut calls old.log port.log) (sym same) carried

module _ (file : BoardFile) where
  record Stepped (e : Event) (x y : Lab plans) : Type 0 where
    pub done : List BoardEvent
    pub is : IsDone file e x y done
    pub replays : IsReplay file x.board done y.board

  -- ---- where the board does nothing

  record Leaves (x y : Lab plans) : Type 0 where
    pub board : x.board ≡ y.board
    pub ipmb : all_carried y.ipmb.log ≡ all_carried x.ipmb.log
    pub smbus : all_carried y.smbus.log ≡ all_carried x.smbus.log

  leaves_all : (x : Lab plans) → Leaves x x
  leaves_all x = record { board = refl; ipmb = refl; smbus = refl }

  quiet : (e : Event) (x y : Lab plans) → on_bench file x.board e ≡ [] → Leaves x y → Stepped e x y
  quiet e x y none same = record {
    done = [];
    is = record {
      seated = All-nil (λ (event : BoardEvent). event.seat ≤ 2);
      ipmb = carries_same x.ipmb.log y.ipmb.log same.ipmb;
      smbus = carries_same x.smbus.log y.smbus.log same.smbus;
      on_the_bench = sym none;
    };
    replays = same.board;
  }

  sent : (o : Option Sent) (x : Lab plans) → Leaves x (sends plans o x)
  sent None x = leaves_all x
  sent (Some s) x = record { board = refl; ipmb = refl; smbus = refl }

  managed : (d : ManagerStepResult plans) (x : Lab plans) → Leaves x (manager_does plans d x)
  managed d x = let y : Lab plans = record x { manager = d.manager } in let it = sent d.sent y in record { board = it.board; ipmb = it.ipmb; smbus = it.smbus }

  calls_it : (o : Option (ManagerStepResult plans)) (x : Lab plans) → Leaves x (call_does plans o x)
  calls_it None x = leaves_all x
  calls_it (Some d) x = managed d x

  comes_back : (o : Option LabFrame) (x : Lab plans) → Leaves x (returned plans file o x)
  comes_back None x = leaves_all x
  comes_back (Some f) x = managed (manager_hears plans f.value x.manager) x

  forgets : (on : Bus) (requester : ℕ) (x : Lab plans) → Leaves x (with_port plans on (idles requester (port_on plans on x)) x)
  forgets Ipmb requester x = record { board = refl; ipmb = refl; smbus = refl }
  forgets Smbus requester x = record { board = refl; ipmb = refl; smbus = refl }

  -- ---- where a port does

  ported : (e : Event) (on : Bus) (way : Way) (request : ℕ) (d : StepResult) (x y : Lab plans) → on_bench file x.board e ≡ [] → y.ipmb ≡ x.ipmb → y.smbus ≡ x.smbus
      → DidAt file (port_on plans on x) x.board d → Stepped e x (port_does plans on way request d y)
  ported e Ipmb way request d x y none first second did = record {
    done = at_seat 0 did.calls;
    is = record {
      seated = all_seated 0 did.calls (lit≤ tt);
      ipmb = subst (λ (calls : List Call). CarriesOut calls x.ipmb.log d.port.log) (sym (own 0 did.calls refl)) did.carried;
      smbus = subst (λ (calls : List Call). CarriesOut calls x.smbus.log y.smbus.log) (sym (none_of 1 0 did.calls refl)) (same_log [] x.smbus x.smbus y.smbus second (carries_none x.smbus.log));
      on_the_bench = none_of 2 0 did.calls refl ∙ sym none;
    };
    replays = did.replays 0;
  }
  ported e Smbus way request d x y none first second did = record {
    done = at_seat 1 did.calls;
    is = record {
      seated = all_seated 1 did.calls (lit≤ tt);
      ipmb = subst (λ (calls : List Call). CarriesOut calls x.ipmb.log y.ipmb.log) (sym (none_of 0 1 did.calls refl)) (same_log [] x.ipmb x.ipmb y.ipmb first (carries_none x.ipmb.log));
      smbus = subst (λ (calls : List Call). CarriesOut calls x.smbus.log d.port.log) (sym (own 1 did.calls refl)) did.carried;
      on_the_bench = none_of 2 1 did.calls refl ∙ sym none;
    };
    replays = did.replays 1;
  }

  either_ports : (t : Bool) (y x : Lab plans) → y.ipmb ≡ x.ipmb → y.smbus ≡ x.smbus → ((cond t y x).ipmb ≡ x.ipmb) × ((cond t y x).smbus ≡ x.smbus)
  either_ports true y x first second = (first, second)
  either_ports false y x first second = (refl, refl)

  same_ports : (v : Value) (request : ℕ) (x : Lab plans) → ((opens plans v request x).ipmb ≡ x.ipmb) × ((opens plans v request x).smbus ≡ x.smbus)
  same_ports (Asks r) request x = (refl, refl)
  same_ports (Tells r) request x = (refl, refl)
  same_ports (Part p) request x =
      either_ports (p.start && is_ours x.smbus.eid p) (record x { opened = λ tag. if tag == p.envelope.tag then request else x.opened tag }) x refl refl

  comes : (e : Event) (o : Option LabFrame) (x : Lab plans) → on_bench file x.board e ≡ [] → Stepped e x (delivered plans file o x)
  comes e None x none = quiet e x x none (leaves_all x)
  comes e (Some f) x none =
      let same = same_ports f.value f.request x in
      let port = port_on plans f.on x in
      ported e f.on ToManager f.request (hears file port x.board f.value) x (opens plans f.value f.request x) none same.0 same.1 (did_hear file port x.board f.value)

  -- ---- on the bench

  abbrev with_activity : (x : Lab plans) (activity : Activity) → Lab plans
  with_activity x activity = record x { board = left_by_bench x.board activity }

  benched_so : (e : Event) (x : Lab plans) (happened : Bench) → on_bench file x.board e ≡ benched file x.board happened ∷ []
      → Stepped e x (with_activity x (bench_of file x.board happened).1.activity)
  benched_so e x happened is = record {
    done = at_seat 2 (benched file x.board happened ∷ []);
    is = record {
      seated = all_seated 2 (benched file x.board happened ∷ []) (lit≤ tt);
      ipmb = carries_none x.ipmb.log;
      smbus = carries_none x.smbus.log;
      on_the_bench = sym is;
    };
    replays = (refl, sym (bench_leaves file x.board happened));
  }

  -- ---- each event, and all

  stepped : (e : Event) (x : Lab plans) → Stepped e x (happens file e x)
  unfolding step
  stepped (event.Calls call) x = quiet (event.Calls call) x (call_does plans (called plans call x.manager) x) refl (calls_it (called plans call x.manager) x)
  stepped (event.ToBmc number) x = comes (event.ToBmc number) (slice_get x.frames number) x refl
  stepped (event.ToMgr number) x = quiet (event.ToMgr number) x (returned plans file (slice_get x.frames number) x) refl (comes_back (slice_get x.frames number) x)
  stepped (event.OtherIpmb r) x =
      let v : Value = Asks (request_of lab_names r) in
      ported (event.OtherIpmb r) Ipmb ToOthers 0 (hears file x.ipmb x.board v) x x refl refl refl (did_hear file x.ipmb x.board v)
  stepped (event.OtherSmbus m) x =
      let message = message_of lab_names m in
      ported (event.OtherSmbus m) Smbus ToOthers 0 (hears_all file x.smbus x.board message) x x refl refl refl (did_all file x.smbus x.board message)
  stepped (event.Noise on bytes) x = quiet (event.Noise on bytes) x x refl (leaves_all x)
  stepped (event.Idle on requester) x = quiet (event.Idle on requester) x (with_port plans on (idles requester (port_on plans on x)) x) refl (forgets on requester x)
  stepped (event.OnBench happened) x = benched_so (event.OnBench happened) x (on_board happened) refl

  pub has_history : (events : List Event) (x : Lab plans) → HasHistory file events x
  has_history [] x = record { history = []; is = refl; replays = refl; ipmb = carries_none x.ipmb.log; smbus = carries_none x.smbus.log }
  has_history (e ∷ later) x =
      let y = happens file e x in
      let z = after file later y in
      let first = stepped e x in
      let rest = has_history later y in
      record {
        history = first.done ++ rest.history;
        is = (first.done, rest.history, refl, first.is, rest.is);
        replays = replays_both file x.board y.board z.board first.done rest.history first.replays rest.replays;
        ipmb = subst (λ (calls : List Call). CarriesOut calls x.ipmb.log z.ipmb.log) (sym (calls_both 0 first.done rest.history))
            (carries_both (calls_of 0 first.done) (calls_of 0 rest.history) x.ipmb.log y.ipmb.log z.ipmb.log first.is.ipmb rest.ipmb);
        smbus = subst (λ (calls : List Call). CarriesOut calls x.smbus.log z.smbus.log) (sym (calls_both 1 first.done rest.history))
            (carries_both (calls_of 1 first.done) (calls_of 1 rest.history) x.smbus.log y.smbus.log z.smbus.log first.is.smbus rest.smbus);
      }
