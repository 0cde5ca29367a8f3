-- What the calls of a manager do in a lab, they do in the model's world.
use Rattle.std.proofs.Common.{◌≡◌, ◌+◌, Bool, true, false, List, [], ◌∷◌, ◌++◌, length, Option, Some, None, refl, sym, ◌∙◌, ap, subst, arith}
use Rattle.std.specs.Prelude.{slice_get, nat_lt}
use Rattle.std.specs.Option.{option_map}
use Rattle.std.proofs.lemmas.Bool.{cond_both}
use Rattle.two_wire.specs.declared.Bus.{Bus}
use Rattle.two_wire.specs.declared.Bus.TheVariants.{Ipmb, Smbus}
use Rattle.record_base.specs.declared.op.Op.{Op}
use Rattle.cfg_records.specs.declared.board_file.BoardFile.{BoardFile}
use Rattle.cfg_records.specs.Records.{Records}
use Rattle.mctp_net.specs.Assembly.{Assemblies, nothing, open_beside}
use Rattle.model_bus.specs.PacketBus.{Clears}
use Rattle.model_undo.specs.Machine.{count_of, Task, Gets, Sets, Undoes, Part, Stage, AtStart, Opened, AtEnd, AtHalt, AtUndone, AtRefused, Machine, Turn, sending, starts, undoes, quiets, agains, stops, first_stage, undo_stage, enters}
use Rattle.model_undo.specs.Joined.{IsClosed, AreOpen}
use Rattle.model_undo.specs.Giving.{GivenAnswer, given_at}
use Rattle.model_undo.specs.World as world
use Rattle.model_undo.specs.World.{States, World, Happening, Calls, OnBus, update}
use Rattle.bmc_core.specs.Wires.{bus_of}
use Rattle.undo_plans.specs.declared.names.Names.{Names}
use Rattle.model_undo.specs.declared.call.Call.{Call}
use Rattle.model_lab.specs.ManagerSteps.{goes_on, called}
use Rattle.model_undo.specs.declared.call.Call.TheVariants as calls
use Rattle.model_lab.specs.ManagerSteps as manager
use Rattle.model_lab.specs.ManagerEvents.{name_awaited}
use Rattle.model_lab.specs.Lab.{Lab, call_does, sends}
use Rattle.model_headline.specs.Made.{MachineMade, StageMade}
use Rattle.model_headline.proofs.Made.{starts_made, undo_made}
use Rattle.model_bus.specs.BusState.{BusState}
use Rattle.model_bus.specs.Answering.{AreWritten}
use Rattle.model_bus.proofs.Lists.{Grows}
use Rattle.model_headline.specs.Each.{Each}
use Rattle.model_headline.proofs.Frames.{all_held}
use Rattle.model_headline.specs.Follows.{HoldsInWorld}
use Rattle.model_headline.specs.Tied.{own_plans, own_family, own_lines, own_wires, rules_on, requests, EntryAnswers, IsTied, world_of, IsGivenAnswer, WorldFollows}
use Rattle.model_headline.proofs.Begun.{own, words, NoneOpen, enter_tied, again_tied, same_world}

module _ (setup : BoardFile) (names : Names) (plan : List Op) (start : Records) where
  -- ---- what is open

  pub none_open : (x : Lab (own_plans setup names)) (on : States (own_lines setup names)) → HoldsInWorld setup names plan start (world_of setup names x on) → ((bus : Bus) → IsClosed (requests setup names on bus)) → NoneOpen setup names on
  none_open x on h closed bus =
      let order = h.joined.orderly bus in let a = order.answered in let b = order.below in let c = closed bus in omega arith

  -- ---- a call that enters a stage

  -- the lab after a call, by what the call makes of the machine
  abbrev pub done_by : Assemblies → Option (Turn (words setup names)) → Lab (own_plans setup names) → Lab (own_plans setup names)
  done_by joined o x = call_does (own_plans setup names) (option_map (goes_on (own_plans setup names) (record (x.manager) { joined = joined })) o) x

  -- with this machine, and these packets that wait
  abbrev pub managed : Machine (words setup names) → Assemblies → Lab (own_plans setup names) → Lab (own_plans setup names)
  managed m joined x = record x { manager = record (x.manager) { machine = m; joined = joined } }

  -- the machine's counts stay, and so does what waits
  pub managed_tied : (m : Machine (words setup names)) (x : Lab (own_plans setup names)) (on : States (own_lines setup names)) → m.counts ≡ x.manager.machine.counts → MachineMade (own setup names) m
      → IsTied setup names x on → IsTied setup names (managed m x.manager.joined x) on
  managed_tied m x on same made tied = record {
    named = tied.named;
    ipmb_wire = tied.ipmb_wire;
    smbus_wire = tied.smbus_wire;
    ipmb_log = tied.ipmb_log;
    smbus_port = tied.smbus_port;
    waits = tied.waits;
    alone = subst (λ c. open_beside (name_awaited names (count_of Smbus c)) x.manager.joined ≡ 0) (sym same) tied.alone;
    counted = λ bus. ap (count_of bus) same ∙ tied.counted bus;
    written = tied.written;
    answered = tied.answered;
    made = made;
    frames = tied.frames;
    opened = tied.opened;
  }

  -- ---- start

  module _ (x : Lab (own_plans setup names)) (on : States (own_lines setup names)) (tied : IsTied setup names x on) (h : HoldsInWorld setup names plan start (world_of setup names x on)) where
    abbrev machine : Machine (words setup names)
    machine = x.manager.machine

    record Follows (o : Option (Turn (words setup names))) : Type 0 where
      left : States (own_lines setup names)
      reaches : world.opens (own_family setup names) (own_lines setup names) (own_wires setup names) o (world_of setup names x on) ≡ world_of setup names (done_by x.manager.joined o x) left
      ties : IsTied setup names (done_by x.manager.joined o x) left

    -- nothing changes
    rests : Follows None
    rests = record { left = on; reaches = refl; ties = tied }

    enters_so : (stage : Stage (words setup names)) → StageMade (own setup names) stage → MachineMade (own setup names) (enters (words setup names) stage machine).machine → NoneOpen setup names on
        → Follows (Some (enters (words setup names) stage machine))
    enters_so stage made all none =
        let t = enters (words setup names) stage machine in
        let y = managed t.machine x.manager.joined x in
        let ok = enter_tied setup names stage y on (managed_tied t.machine x on refl all tied) made none in
        record {
          left = world.begins (own_family setup names) (own_lines setup names) (own_wires setup names) t.sends on;
          reaches = same_world setup names (option_map (manager.sent_of (own_plans setup names) x.manager.names) t.sends) y (world.begins (own_family setup names) (own_lines setup names) (own_wires setup names) t.sends on);
          ties = ok;
        }

    starts_so : (stage : Stage (words setup names)) → stage ≡ machine.stage → Follows (starts (words setup names) stage machine)
    starts_so AtStart at =
        let made = starts_made (own setup names) AtStart machine tied.made.undo in
        enters_so (first_stage (words setup names) (slice_get machine.plan 0)) made.stage made
        (none_open x on h (subst (λ s. (bus : Bus) → AreOpen (own_family setup names) (own_wires setup names) (λ b. 0) s bus (requests setup names on bus)) (sym at) h.joined.are_open))
    starts_so (Opened heeded task part) at = rests
    starts_so AtEnd at = rests
    starts_so (AtHalt k why) at = rests
    starts_so AtUndone at = rests
    starts_so (AtRefused k code) at = rests

    goes_by : (call : Happening (own_family setup names) (own_lines setup names)) (y : Lab (own_plans setup names)) (o : Option (Turn (words setup names)))
        → world.MayHappen (own_family setup names) (own_lines setup names) (own_wires setup names) (world_of setup names x on) call
        → world.happens (own_family setup names) (own_lines setup names) (own_wires setup names) (world_of setup names x on) call ≡ world.opens (own_family setup names) (own_lines setup names) (own_wires setup names) o (world_of setup names x on)
        → given_at (own_family setup names) (own_lines setup names) (own_wires setup names) (world_of setup names x on) call ≡ [] → y ≡ done_by x.manager.joined o x → Follows o → WorldFollows setup names x on y
    goes_by call y o may is none same f = record {
      happenings = call ∷ [];
      left = f.left;
      may = (may, tt);
      reaches = is ∙ f.reaches ∙ ap (λ z. world_of setup names z f.left) (sym same);
      gives = subst (λ (gs : List (GivenAnswer (own_family setup names))). Each (IsGivenAnswer setup names x y) (gs ++ [])) (sym none) tt;
      tied = subst (λ z. IsTied setup names z f.left) (sym same) f.ties;
    }

    start_is : call_does (own_plans setup names) (called (own_plans setup names) calls.Start x.manager) x ≡ done_by x.manager.joined (starts (words setup names) machine.stage machine) x
    unfolding called
    start_is = refl

    pub start_goes : WorldFollows setup names x on (call_does (own_plans setup names) (called (own_plans setup names) calls.Start x.manager) x)
    start_goes = goes_by (Calls calls.Start) _ (starts (words setup names) machine.stage machine) tt refl refl start_is (starts_so machine.stage refl)

    -- ---- stop

    stops_so : (stage : Stage (words setup names)) → Follows (stops (words setup names) stage machine)
    stops_so (Opened true (Gets k op) part) = record { left = on; reaches = refl; ties = managed_tied (record machine { stopped = true }) x on refl (record { stage = tied.made.stage; undo = tied.made.undo }) tied }
    stops_so (Opened true (Sets k op back) part) = record { left = on; reaches = refl; ties = managed_tied (record machine { stopped = true }) x on refl (record { stage = tied.made.stage; undo = tied.made.undo }) tied }
    stops_so (Opened true (Undoes first rest) part) = rests
    stops_so (Opened false task part) = rests
    stops_so AtStart = rests
    stops_so AtEnd = rests
    stops_so (AtHalt k why) = rests
    stops_so AtUndone = rests
    stops_so (AtRefused k code) = rests

    stop_is : call_does (own_plans setup names) (called (own_plans setup names) calls.Stop x.manager) x ≡ done_by x.manager.joined (stops (words setup names) machine.stage machine) x
    unfolding called
    stop_is = refl

    pub stop_goes : WorldFollows setup names x on (call_does (own_plans setup names) (called (own_plans setup names) calls.Stop x.manager) x)
    stop_goes = goes_by (Calls calls.Stop) _ (stops (words setup names) machine.stage machine) tt refl refl stop_is (stops_so machine.stage)

    -- ---- quiet and again

    record Repeats (o : Option (Turn (words setup names))) : Type 0 where
      left : States (own_lines setup names)
      reaches : world.repeats (own_family setup names) (own_lines setup names) (own_wires setup names) o (world_of setup names x on) ≡ world_of setup names (done_by x.manager.joined o x) left
      ties : IsTied setup names (done_by x.manager.joined o x) left

    resting : Repeats None
    resting = record { left = on; reaches = refl; ties = tied }

    -- the machine goes on, and the open request is sent again
    sends_again : (m : Machine (words setup names)) (heeded : Bool) (task : Task (words setup names)) (part : Part (words setup names)) → m.counts ≡ machine.counts
        → MachineMade (own setup names) m → Opened heeded task part ≡ machine.stage → StageMade (own setup names) (Opened heeded task part)
        → Repeats (Some (record { machine = m; sends = Some (sending (words setup names) part m.counts) }))
    sends_again m heeded task part same all at made =
        let y = managed m x.manager.joined x in
        let opened = subst (λ s. (bus : Bus) → AreOpen (own_family setup names) (own_wires setup names) (λ b. 0) s bus (requests setup names on bus)) (sym at) h.joined.are_open in
        record {
          left = world.sends_again (own_family setup names) (own_lines setup names) (own_wires setup names) (Some (sending (words setup names) part m.counts)) on;
          reaches = same_world setup names (Some (manager.sent_of (own_plans setup names) x.manager.names (sending (words setup names) part m.counts))) y (world.sends_again (own_family setup names) (own_lines setup names) (own_wires setup names) (Some (sending (words setup names) part m.counts)) on);
          ties = again_tied setup names part y on (managed_tied m x on same all tied) made.0 ((opened (bus_of part.asked)).0 refl);
        }

    quiets_so : (stage : Stage (words setup names)) → stage ≡ machine.stage → Repeats (quiets (words setup names) stage machine)
    quiets_so (Opened true task part) at =
        let made = subst (StageMade (own setup names)) (sym at) tied.made.stage in
        cond_both (nat_lt machine.resent machine.retries) (Some (record { machine = record machine { resent = machine.resent + 1 }; sends = Some (sending (words setup names) part machine.counts) }))
        (Some (record { machine = record machine { stage = Opened false task part }; sends = None })) Repeats
        (λ _. sends_again (record machine { resent = machine.resent + 1 }) true task part refl (record { stage = tied.made.stage; undo = tied.made.undo }) at made)
        (λ _. record { left = on; reaches = refl; ties = managed_tied (record machine { stage = Opened false task part }) x on refl (record { stage = made; undo = tied.made.undo }) tied })
    quiets_so (Opened false task part) at = resting
    quiets_so AtStart at = resting
    quiets_so AtEnd at = resting
    quiets_so (AtHalt k why) at = resting
    quiets_so AtUndone at = resting
    quiets_so (AtRefused k code) at = resting

    agains_so : (stage : Stage (words setup names)) → stage ≡ machine.stage → Repeats (agains (words setup names) stage machine)
    agains_so (Opened false task part) at =
        let made = subst (StageMade (own setup names)) (sym at) tied.made.stage in
        let m = (enters (words setup names) (Opened true task part) machine).machine in
        sends_again m false task part refl (record { stage = made; undo = tied.made.undo }) at made
    agains_so (Opened true task part) at = resting
    agains_so AtStart at = resting
    agains_so AtEnd at = resting
    agains_so (AtHalt k why) at = resting
    agains_so AtUndone at = resting
    agains_so (AtRefused k code) at = resting

    repeats_by : (call : Happening (own_family setup names) (own_lines setup names)) (y : Lab (own_plans setup names)) (o : Option (Turn (words setup names)))
        → world.MayHappen (own_family setup names) (own_lines setup names) (own_wires setup names) (world_of setup names x on) call
        → world.happens (own_family setup names) (own_lines setup names) (own_wires setup names) (world_of setup names x on) call ≡ world.repeats (own_family setup names) (own_lines setup names) (own_wires setup names) o (world_of setup names x on)
        → given_at (own_family setup names) (own_lines setup names) (own_wires setup names) (world_of setup names x on) call ≡ [] → y ≡ done_by x.manager.joined o x → Repeats o → WorldFollows setup names x on y
    repeats_by call y o may is none same f = record {
      happenings = call ∷ [];
      left = f.left;
      may = (may, tt);
      reaches = is ∙ f.reaches ∙ ap (λ z. world_of setup names z f.left) (sym same);
      gives = subst (λ (gs : List (GivenAnswer (own_family setup names))). Each (IsGivenAnswer setup names x y) (gs ++ [])) (sym none) tt;
      tied = subst (λ z. IsTied setup names z f.left) (sym same) f.ties;
    }

    quiet_is : call_does (own_plans setup names) (called (own_plans setup names) calls.Quiet x.manager) x ≡ done_by x.manager.joined (quiets (words setup names) machine.stage machine) x
    unfolding called
    quiet_is = refl

    pub quiet_goes : WorldFollows setup names x on (call_does (own_plans setup names) (called (own_plans setup names) calls.Quiet x.manager) x)
    quiet_goes = repeats_by (Calls calls.Quiet) _ (quiets (words setup names) machine.stage machine) tt refl refl quiet_is (quiets_so machine.stage refl)

    again_is : call_does (own_plans setup names) (called (own_plans setup names) calls.Again x.manager) x ≡ done_by x.manager.joined (agains (words setup names) machine.stage machine) x
    unfolding called
    again_is = refl

    pub again_goes : WorldFollows setup names x on (call_does (own_plans setup names) (called (own_plans setup names) calls.Again x.manager) x)
    again_goes = repeats_by (Calls calls.Again) _ (agains (words setup names) machine.stage machine) tt refl refl again_is (agains_so machine.stage refl)

    -- ---- undo

    -- what waited at the manager is dropped
    abbrev cleared : States (own_lines setup names)
    cleared = update (own_lines setup names) Smbus (record (on Smbus) { manager = λ name. [] }) on

    abbrev fresh : Lab (own_plans setup names)
    fresh = managed machine nothing x

    cleared_tied : IsTied setup names fresh cleared
    cleared_tied = record {
      named = tied.named;
      ipmb_wire = tied.ipmb_wire;
      smbus_wire = tied.smbus_wire;
      ipmb_log = tied.ipmb_log;
      smbus_port = record { log = tied.smbus_port.log; waits = tied.smbus_port.waits; sound = tied.smbus_port.sound };
      waits = λ n. refl;
      alone = cc;
      counted = by_bus (λ bus s. count_of bus machine.counts ≡ length s.taken) tied.counted;
      written = by_bus (λ bus s. AreWritten bus (rules_on setup names bus) s) tied.written;
      answered = by_bus (λ bus s. Each (EntryAnswers setup names bus) s.log) tied.answered;
      made = tied.made;
      frames = all_held setup names on cleared x.frames (by_bus (λ bus s. Grows (requests setup names on bus).frames s.frames) (λ bus n f e. e)) tied.frames;
      opened = tied.opened;
    }
      where
        by_bus : (Q : Bus → BusState → Type 0) → ((bus : Bus) → Q bus (requests setup names on bus)) → (bus : Bus) → Q bus (requests setup names cleared bus)
        by_bus Q q Ipmb = q Ipmb
        by_bus Q q Smbus = q Smbus

    cleared_closed : ((bus : Bus) → IsClosed (requests setup names on bus)) → NoneOpen setup names cleared
    cleared_closed closed = by (none_open x on h closed)
      where
        by : NoneOpen setup names on → (bus : Bus) → length (requests setup names cleared bus).begun ≡ length (requests setup names cleared bus).taken
        by all Ipmb = all Ipmb
        by all Smbus = all Smbus

    undo_from : (stage : Stage (words setup names)) → stage ≡ machine.stage → undoes (words setup names) stage machine ≡ Some (enters (words setup names) (undo_stage (words setup names) machine.undo) machine)
        → ((bus : Bus) → IsClosed (requests setup names on bus)) → WorldFollows setup names x on (done_by nothing (undoes (words setup names) stage machine) x)
    undo_from stage at is closed =
        let t = enters (words setup names) (undo_stage (words setup names) machine.undo) machine in
        let y = managed t.machine nothing x in
        let made : MachineMade (own setup names) t.machine = record { stage = undo_made (own setup names) machine.undo tied.made.undo; undo = tied.made.undo } in
        let ok = enter_tied setup names (undo_stage (words setup names) machine.undo) y cleared (managed_tied t.machine fresh cleared refl made cleared_tied) made.stage (cleared_closed closed) in
        let sent = option_map (manager.sent_of (own_plans setup names) x.manager.names) t.sends in
        let now = world.begins (own_family setup names) (own_lines setup names) (own_wires setup names) t.sends cleared in
        let same : done_by nothing (undoes (words setup names) stage machine) x ≡ sends (own_plans setup names) sent y = ap (λ o. done_by nothing o x) is in
        let w : World (own_family setup names) (own_lines setup names) = record { machine = machine; on = cleared; board = x.board } in
        record {
          happenings = OnBus Smbus Clears x.board ∷ Calls calls.Undo ∷ [];
          left = now;
          may = (((tt, tt), refl, (refl, λ series bodies ready. ready)), (tt, tt));
          reaches = ap (λ o. world.opens (own_family setup names) (own_lines setup names) (own_wires setup names) o w) (ap (λ s. undoes (words setup names) s machine) (sym at) ∙ is)
              ∙ same_world setup names sent y now ∙ ap (λ z. world_of setup names z now) (sym same);
          gives = tt;
          tied = subst (λ z. IsTied setup names z now) (sym same) ok;
        }

    undo_rests : WorldFollows setup names x on x
    undo_rests = record { happenings = []; left = on; may = tt; reaches = refl; gives = tt; tied = tied }

    pub are_closed : (stage : Stage (words setup names)) → stage ≡ machine.stage → (bus : Bus) → AreOpen (own_family setup names) (own_wires setup names) (λ b. 0) stage bus (requests setup names on bus)
    are_closed stage at = subst (λ s. (bus : Bus) → AreOpen (own_family setup names) (own_wires setup names) (λ b. 0) s bus (requests setup names on bus)) (sym at) h.joined.are_open

    undo_so : (stage : Stage (words setup names)) → stage ≡ machine.stage → WorldFollows setup names x on (done_by nothing (undoes (words setup names) stage machine) x)
    undo_so AtEnd at = undo_from AtEnd at refl (are_closed AtEnd at)
    undo_so (AtHalt k why) at = undo_from (AtHalt k why) at refl (are_closed (AtHalt k why) at)
    undo_so AtStart at = undo_rests
    undo_so (Opened heeded task part) at = undo_rests
    undo_so AtUndone at = undo_rests
    undo_so (AtRefused k code) at = undo_rests

    undo_is : done_by nothing (undoes (words setup names) machine.stage machine) x ≡ call_does (own_plans setup names) (called (own_plans setup names) calls.Undo x.manager) x
    unfolding called
    undo_is = refl

    pub undo_goes : WorldFollows setup names x on (call_does (own_plans setup names) (called (own_plans setup names) calls.Undo x.manager) x)
    undo_goes = subst (λ y. WorldFollows setup names x on y) undo_is (undo_so machine.stage refl)

    -- ---- any call

    pub call_goes : (call : Call) → WorldFollows setup names x on (call_does (own_plans setup names) (called (own_plans setup names) call x.manager) x)
    call_goes calls.Start = start_goes
    call_goes calls.Quiet = quiet_goes
    call_goes calls.Stop = stop_goes
    call_goes calls.Again = again_goes
    call_goes calls.Undo = undo_goes
