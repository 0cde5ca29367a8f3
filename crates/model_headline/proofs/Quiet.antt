-- A packet of the manager that ends no message, at the port on SMBus.
use Rattle.std.proofs.Common.{◌≡◌, ℕ, ◌%◌, Bool, true, false, cond, not, ◌&&◌, List, [], ◌∷◌, ◌++◌, length, map, Option, Some, None, refl, sym, ◌∙◌, ap, subst}
use Rattle.std.specs.Prelude.{◌==◌}
use Rattle.two_wire.specs.declared.Bus.{Bus}
use Rattle.two_wire.specs.declared.Bus.TheVariants.{Ipmb, Smbus}
use Rattle.mctp_net.specs.declared.packet.Packet.{Packet}
use Rattle.mctp_net.specs.declared.taken.DropCause.{DropCause}
use Rattle.mctp_net.specs.declared.taken.DropCause.TheVariants.{NotOurs, NoStart, TooLong, OutOfSequence, UnitSize, NoSlot}
use Rattle.mctp_net.specs.Assembly.{is_ours, fails, drop_cause, after as kept_after}
use Rattle.record_base.specs.declared.op.Op.{Op}
use Rattle.cfg_records.specs.declared.board_file.BoardFile.{BoardFile}
use Rattle.cfg_records.specs.Records.{Records}
use Rattle.model_bus.specs.Repeat.{In}
use Rattle.model_bus.specs.Assembly.{Name, SentPacket, Step, takes}
use Rattle.model_bus.specs.BusState.{BusState, Frame, Content}
use Rattle.model_bus.specs.Answering.{AreWritten}
use Rattle.model_bus.specs.Schedule.{IsLive as IsLiveThere}
use Rattle.model_bus.specs.PacketBus.{BusEnds, Closes, request_name, set_at, whole_comes, packet_happens}
use Rattle.model_bus.specs.PacketEffect.{step_of, whole_request, completed_request, carried_of}
use Rattle.model_bus.proofs.Lists.{Grows}
use Rattle.model_undo.specs.Machine.{count_of}
use Rattle.model_undo.specs.Line.{exchange, carried_at}
use Rattle.model_undo.specs.Giving.{given_by}
use Rattle.model_undo.specs.World as world
use Rattle.model_undo.specs.World.{States, World, OnBus, update}
use Rattle.bmc_core.specs.Seen.{WaitsAlike}
use Rattle.bmc_core.proofs.PacketSteps.{first_of}
use Rattle.undo_plans.specs.declared.names.Names.{Names}
use Rattle.bmc_core.specs.Values.{Part}
use Rattle.bmc_core.specs.PortSteps.{StepResult, PortState, hears_part, ends_message, stays}
use Rattle.bmc_core.specs.PortEvents.{name_in, event_by, happens_if, IsPortOf}
use Rattle.model_lab.specs.Own.{JoinsOwn}
use Rattle.model_lab.specs.declared.way.Way.TheVariants.{ToManager}
use Rattle.model_lab.specs.Lab.{LabFrame, Lab, with_port, frame_now, port_does}
use Rattle.model_headline.specs.Each.{Each}
use Rattle.model_headline.specs.Tied.{own_plans, own_family, own_lines, own_wires, rules_on, requests, HoldsAskedPart, IsHeld, EntryAnswers, IsTied, world_of, IsGivenAnswer, WorldFollows}
use Rattle.model_headline.specs.Follows.{HoldsInWorld}
use Rattle.model_headline.proofs.Each.{each_append}
use Rattle.model_headline.proofs.Frames.{all_held}
use Rattle.model_headline.proofs.Parts as part

-- a packet is another endpoint's where that is why it is dropped
found_not_ours : (a b c d e f : Bool) → first_of a b c d e f ≡ Some NotOurs → a ≡ true
found_not_ours true b c d e f h = refl
found_not_ours false true c d e f h = absurd cc
found_not_ours false false true d e f h = absurd cc
found_not_ours false false false true e f h = absurd cc
found_not_ours false false false false true f h = absurd cc
found_not_ours false false false false false true h = absurd cc
found_not_ours false false false false false false h = absurd cc

is_not : (t : Bool) → not t ≡ true → t ≡ false
is_not true h = absurd cc
is_not false h = refl

module _ (setup : BoardFile) (names : Names) (plan : List Op) (start : Records) where
  module _ (x : Lab (own_plans setup names)) (on : States (own_lines setup names)) (tied : IsTied setup names x on) (h : HoldsInWorld setup names plan start (world_of setup names x on)) (f : LabFrame) (hold : HoldsAskedPart setup names (on Smbus) f)
      (live : IsLiveThere (rules_on setup names Smbus) (on Smbus).bus hold.part.frame) (mine : JoinsOwn (own_plans setup names) x f.request (Part hold.packet)) where
    abbrev p : Packet
    p = hold.packet

    abbrev ends : BusEnds
    ends = on Smbus

    abbrev cause : Option DropCause
    cause = drop_cause x.smbus.eid x.smbus.kept p

    abbrev opened_after : ℕ → ℕ
    opened_after = part.opened_after setup names plan start x on tied h f hold live mine

    abbrev pub with_opened : Lab (own_plans setup names)
    with_opened = record x { opened = opened_after }

    abbrev pub now : BusEnds → States (own_lines setup names)
    now e = update (own_lines setup names) Smbus e on

    -- the lab after the deed, before the reply is sent, and then
    abbrev pub unsent : StepResult → Lab (own_plans setup names)
    unsent d = with_port (own_plans setup names) Smbus d.port (record with_opened { board = d.board })

    abbrev pub done_by : StepResult → Lab (own_plans setup names)
    done_by d = port_does (own_plans setup names) Smbus ToManager f.request d with_opened

    -- these ends are those of the lab after the deed
    pub record Leaves (d : StepResult) (e : BusEnds) : Type 0 where
      pub wire : d.port.wire ≡ x.smbus.wire
      pub port : IsPortOf e d.port
      pub manager : e.manager ≡ ends.manager
      pub taken : e.bus.taken ≡ ends.bus.taken
      pub written : AreWritten Smbus (rules_on setup names Smbus) e.bus
      pub more : Grows ends.bus.frames e.bus.frames
      pub answered : Each (EntryAnswers setup names Smbus) e.bus.log
      pub opened : (n : ℕ) (t : SentPacket) → In t (e.port (request_name (part.b setup names plan start x on tied h f hold live mine) n)) → t.request ≡ opened_after (n % 8)
      pub held : Each (IsHeld setup names (now e)) (map (frame_now (own_plans setup names) Smbus ToManager f.request (unsent d)) d.sent)

    pub leaves_tied : (d : StepResult) (e : BusEnds) → Leaves d e → IsTied setup names (done_by d) (now e)
    leaves_tied d e l = record {
      named = tied.named;
      ipmb_wire = tied.ipmb_wire;
      smbus_wire = l.wire ∙ tied.smbus_wire;
      ipmb_log = tied.ipmb_log;
      smbus_port = l.port;
      waits = subst (λ w. WaitsAlike w x.manager.joined) (sym l.manager) tied.waits;
      alone = tied.alone;
      counted = by (λ any b. count_of any x.manager.machine.counts ≡ length b.taken) tied.counted (tied.counted Smbus ∙ ap (λ (t : List (List ℕ)). length t) (sym l.taken));
      written = by (λ any b. AreWritten any (rules_on setup names any) b) tied.written l.written;
      answered = by (λ any b. Each (EntryAnswers setup names any) b.log) tied.answered l.answered;
      made = tied.made;
      frames = each_append (IsHeld setup names (now e)) x.frames (map (frame_now (own_plans setup names) Smbus ToManager f.request (unsent d)) d.sent)
          (all_held setup names on (now e) x.frames (by (λ any b. Grows (requests setup names on any).frames b.frames) (λ any n g at. at) l.more) tied.frames) l.held;
      opened = l.opened;
    }
      where
        by : (Q : Bus → BusState → Type 0) → ((any : Bus) → Q any (requests setup names on any)) → Q Smbus e.bus → (any : Bus) → Q any (requests setup names (now e) any)
        by Q all here Ipmb = all Ipmb
        by Q all here Smbus = here

    -- ---- nothing is sent

    abbrev pub next : PortState
    next = record (x.smbus) { kept = kept_after x.smbus.eid x.smbus.kept p }

    abbrev pub quiet : StepResult
    quiet = stays next x.board

    -- only what waits changes
    abbrev waits_as : (Name → List SentPacket) → BusEnds
    waits_as port = record ends { port = port }

    quiet_leaves : (port : Name → List SentPacket) → IsPortOf (waits_as port) next
        → ((n : ℕ) (t : SentPacket) → In t (port (request_name (part.b setup names plan start x on tied h f hold live mine) n)) → t.request ≡ opened_after (n % 8)) → Leaves quiet (waits_as port)
    quiet_leaves port is opened = record {
      wire = refl;
      port = is;
      manager = refl;
      taken = refl;
      written = record { requests = (tied.written Smbus).requests; replies = (tied.written Smbus).replies };
      more = λ n g at. at;
      answered = tied.answered Smbus;
      opened = opened;
      held = tt;
    }

    -- what the packet has carried out
    pub carried_so : ((own_lines setup names) Smbus).carries ends (part.arrives setup names plan start x on tied h f hold live mine)
        ≡ exchange (carried_of (rules_on setup names Smbus) (whole_request (rules_on setup names Smbus) hold.part.frame.request (part.taken setup names plan start x on tied h f hold live mine).0) ends.bus) (part.answer setup names plan start x on tied h f hold live mine)
    carried_so =
        let b = part.b setup names plan start x on tied h f hold live mine in
        let answer = part.answer setup names plan start x on tied h f hold live mine in
        let sent = part.sent setup names plan start x on tied h f hold live mine in
        let g = hold.part.frame in
        ap (λ (o : Option Frame). exchange (carried_at b ends hold.place o) answer) hold.part.sent
        ∙ ap (λ (c : Content). exchange (carried_of (rules_on setup names Smbus) (completed_request b ends hold.place g.request g.idles c) ends.bus) answer) hold.part.asks
        ∙ ap (λ o. exchange (carried_of (rules_on setup names Smbus) (whole_request (rules_on setup names Smbus) g.request (step_of ends.port (request_name b g.request) g.request g.idles o)) ends.bus) answer) hold.part.part
        ∙ ap (λ (n : Name). exchange (carried_of (rules_on setup names Smbus) (whole_request (rules_on setup names Smbus) g.request (takes (ends.port n) sent).0) ends.bus) answer) (sym hold.part.named)

    -- ---- each cause

    pub deed_is : (c : Option DropCause) → cause ≡ c → hears_part setup x.smbus x.board p ≡ ends_message setup next x.board p c
    unfolding hears_part
    deed_is c e = ap (ends_message setup next x.board p) e

    -- the port ends as the law of single packets says
    quiet_port : (c : Option DropCause) → cause ≡ c → quiet ≡ ends_message setup next x.board p c → (e : BusEnds) → IsPortOf e (hears_part setup x.smbus x.board p).port → IsPortOf e next
    quiet_port c e same y is = subst (λ (d : StepResult). IsPortOf y d.port) (deed_is c e ∙ sym same) is

    other_after : (c : Option DropCause) → cause ≡ c → IsPortOf (happens_if (part.b setup names plan start x on tied h f hold live mine) (event_by c (name_in p) (part.others_event setup names plan start x on tied h f hold live mine)) ends) (hears_part setup x.smbus x.board p).port
    other_after c e = subst (λ (k : Option DropCause). IsPortOf (happens_if (part.b setup names plan start x on tied h f hold live mine) (event_by k (name_in p) (part.others_event setup names plan start x on tied h f hold live mine)) ends) (hears_part setup x.smbus x.board p).port) e
        (part.leaves setup names plan start x on tied h f hold live mine).others

    pub manager_after : (c : Option DropCause) → cause ≡ c → (cause ≡ Some NotOurs → ⊥) → (cause ≡ Some NoSlot → ⊥)
        → IsPortOf (happens_if (part.b setup names plan start x on tied h f hold live mine) (event_by c (name_in p) (part.arrives setup names plan start x on tied h f hold live mine)) ends) (hears_part setup x.smbus x.board p).port
    manager_after c e ours slot = subst (λ (k : Option DropCause). IsPortOf (happens_if (part.b setup names plan start x on tied h f hold live mine) (event_by k (name_in p) (part.arrives setup names plan start x on tied h f hold live mine)) ends) (hears_part setup x.smbus x.board p).port) e
        ((part.leaves setup names plan start x on tied h f hold live mine).managers hold.which hold.place hold.part (part.effect_of setup names plan start x on tied h f hold live mine ours slot))

    -- the lab goes on with nothing sent
    pub finish : (d : StepResult) → d ≡ hears_part setup x.smbus x.board p → WorldFollows setup names x on (done_by d) → WorldFollows setup names x on (done_by (hears_part setup x.smbus x.board p))
    finish d same g = subst (λ (e : StepResult). WorldFollows setup names x on (done_by e)) same g

    -- another endpoint's packet, as it is once somebody set the controller's identifier
    pub not_ours : cause ≡ Some NotOurs → WorldFollows setup names x on (done_by (hears_part setup x.smbus x.board p))
    not_ours e = finish quiet (sym (deed_is (Some NotOurs) e)) (record {
      happenings = [];
      left = on;
      may = tt;
      reaches = refl;
      gives = tt;
      tied = record {
        named = tied.named;
        ipmb_wire = tied.ipmb_wire;
        smbus_wire = tied.smbus_wire;
        ipmb_log = tied.ipmb_log;
        smbus_port = quiet_port (Some NotOurs) e refl ends (other_after (Some NotOurs) e);
        waits = tied.waits;
        alone = tied.alone;
        counted = tied.counted;
        written = tied.written;
        answered = tied.answered;
        made = tied.made;
        frames = each_append (IsHeld setup names on) x.frames [] tied.frames tt;
        opened = λ n t is. tied.opened n t is ∙ sym (still (n % 8));
      };
    })
      where
        others : is_ours x.smbus.eid p ≡ false
        others = is_not _ (found_not_ours (fails x.smbus.eid x.smbus.kept p NotOurs) (fails x.smbus.eid x.smbus.kept p NoStart) (fails x.smbus.eid x.smbus.kept p TooLong) (fails x.smbus.eid x.smbus.kept p OutOfSequence) (fails x.smbus.eid x.smbus.kept p UnitSize) (fails x.smbus.eid x.smbus.kept p NoSlot) e)

        still : (tag : ℕ) → opened_after tag ≡ x.opened tag
        still tag = part.opened_at setup names plan start x on tied h f hold live mine tag p.start false refl others ∙ by p.start
          where
            by : (s : Bool) → cond (s && false && (tag == p.envelope.tag)) f.request (x.opened tag) ≡ x.opened tag
            by true = refl
            by false = refl

    -- no slot is free
    pub no_slot : cause ≡ Some NoSlot → WorldFollows setup names x on (done_by (hears_part setup x.smbus x.board p))
    no_slot e = finish quiet (sym (deed_is (Some NoSlot) e)) (record {
      happenings = OnBus Smbus (Closes (name_in p)) x.board ∷ [];
      left = now (waits_as (set_at (name_in p) [] ends.port));
      may = (((tt, tt), refl, (refl, λ series bodies ready. ready)), tt);
      reaches = refl;
      gives = tt;
      tied = leaves_tied quiet (waits_as (set_at (name_in p) [] ends.port))
          (quiet_leaves (set_at (name_in p) [] ends.port) (quiet_port (Some NoSlot) e refl (waits_as (set_at (name_in p) [] ends.port)) (other_after (Some NoSlot) e))
          (part.still_opened setup names plan start x on tied h f hold live mine [] (λ t is. absurd is)));
    })

    -- it is dropped, or waits
    pub kept_quiet : (c : Option DropCause) → cause ≡ c → (cause ≡ Some NotOurs → ⊥) → (cause ≡ Some NoSlot → ⊥) → quiet ≡ ends_message setup next x.board p c
        → event_by c (name_in p) (part.arrives setup names plan start x on tied h f hold live mine) ≡ Some (part.arrives setup names plan start x on tied h f hold live mine)
        → (step : Step) (after : List SentPacket) → part.taken setup names plan start x on tied h f hold live mine ≡ (step, after)
        → whole_request (rules_on setup names Smbus) hold.part.frame.request step ≡ None
        → whole_comes (rules_on setup names Smbus) (part.answer setup names plan start x on tied h f hold live mine) hold.part.frame.request step ends.bus ≡ ends.bus
        → ((t : SentPacket) → In t after → t.request ≡ opened_after p.envelope.tag)
        → WorldFollows setup names x on (done_by (hears_part setup x.smbus x.board p))
    kept_quiet c e ours slot same event step after taken none stays_so waits =
        let arrives = part.arrives setup names plan start x on tied h f hold live mine in
        let b = part.b setup names plan start x on tied h f hold live mine in
        let left = waits_as (set_at (name_in p) after ends.port) in
        let happened : packet_happens b ends arrives ≡ left =
        part.happens_so setup names plan start x on tied h f hold live mine
        ∙ ap (part.ends_by setup names plan start x on tied h f hold live mine) taken
        ∙ ap (λ (s : BusState). let y : BusEnds = record ends { bus = s; port = set_at (name_in p) after ends.port } in y) stays_so in
        let port : IsPortOf left next =
        subst (λ y. IsPortOf y next) happened
        (quiet_port c e same (packet_happens b ends arrives) (subst (λ o. IsPortOf (happens_if b o ends) (hears_part setup x.smbus x.board p).port) event (manager_after c e ours slot))) in
        let carried : ((own_lines setup names) Smbus).carries ends arrives ≡ None =
        carried_so ∙ ap (λ (r : Step × List SentPacket). exchange (carried_of (rules_on setup names Smbus) (whole_request (rules_on setup names Smbus) hold.part.frame.request r.0) ends.bus) (part.answer setup names plan start x on tied h f hold live mine)) taken
        ∙ ap (λ o. exchange (carried_of (rules_on setup names Smbus) o ends.bus) (part.answer setup names plan start x on tied h f hold live mine)) none in
        finish quiet (same ∙ sym (deed_is c e)) (record {
          happenings = OnBus Smbus arrives x.board ∷ [];
          left = now left;
          may = (((tt, part.honest_part setup names plan start x on tied h f hold live mine ours slot), refl, subst (λ o. world.BoardMay (own_family setup names) (own_lines setup names) (own_wires setup names) Smbus o x.board x.board) (sym carried) (refl, λ series bodies ready. ready)), tt);
          reaches = ap (λ (y : BusEnds). let w : World (own_family setup names) (own_lines setup names) = record { machine = x.manager.machine; on = now y; board = x.board } in w) happened;
          gives = subst (λ o. Each (IsGivenAnswer setup names x (done_by quiet)) (given_by (own_family setup names) (own_lines setup names) (own_wires setup names) Smbus o x.board x.board ++ [])) (sym carried) tt;
          tied = leaves_tied quiet left (quiet_leaves (set_at (name_in p) after ends.port) port (part.still_opened setup names plan start x on tied h f hold live mine after waits));
        })
