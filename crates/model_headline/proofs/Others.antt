-- What idle requesters, noise and the bench do in a lab, they do in the model's world.
use Rattle.std.proofs.Common.{◌≡◌, ℕ, false, List, [], ◌∷◌, length, None, refl, sym, ◌∙◌, ap}
use Rattle.std.proofs.lemmas.Bool.{le-ltb}
use Rattle.std.proofs.lemmas.Option.{none-some}
use Rattle.two_wire.specs.declared.Bus.{Bus}
use Rattle.two_wire.specs.declared.Bus.TheVariants.{Ipmb, Smbus}
use Rattle.record_base.specs.declared.op.Op.{Op}
use Rattle.cfg_records.specs.declared.board_file.BoardFile.{BoardFile}
use Rattle.cfg_records.specs.Records.{Records}
use Rattle.bmc_board.specs.declared.activity.Activity.{Activity}
use Rattle.bmc_board.specs.State.{on_bench}
use Rattle.model_bus.specs.Request.{Entry, Idled}
use Rattle.model_bus.specs.BusState.{BusState, IsIdle, is_open}
use Rattle.model_bus.specs.PacketBus.{Plain}
use Rattle.model_bus.specs.Answering.{AreWritten}
use Rattle.model_bus.proofs.Lists.{Grows}
use Rattle.model_undo.specs.Machine.{Stage, AtStart, Opened, AtEnd, AtHalt, AtUndone, AtRefused, open_bus_at, open_bus, count_of}
use Rattle.model_undo.specs.Joined.{IsClosed, AreOpen}
use Rattle.model_undo.specs.World.{States, OnBus, OnBench, update}
use Rattle.undo_plans.specs.declared.names.Names.{Names}
use Rattle.bmc_core.specs.PortSteps.{idles}
use Rattle.model_lab.specs.ManagerSteps.{own_on}
use Rattle.model_lab.specs.Lab.{Lab, with_port, port_on}
use Rattle.model_headline.specs.Each.{Each}
use Rattle.model_headline.specs.Tied.{own_plans, own_family, own_lines, own_wires, rules_on, requests, EntryAnswers, IsTied, world_of, WorldFollows}
use Rattle.model_headline.specs.Follows.{HoldsInWorld}
use Rattle.model_headline.proofs.Frames.{all_held}
use Rattle.model_headline.proofs.Begun.{words}

module _ (setup : BoardFile) (names : Names) (plan : List Op) (start : Records) where
  module _ (x : Lab (own_plans setup names)) (on : States (own_lines setup names)) (tied : IsTied setup names x on) (h : HoldsInWorld setup names plan start (world_of setup names x on)) where
    -- where no request is open, none is open on the bus
    none_open_on : (stage : Stage (words setup names)) (bus : Bus) → open_bus_at (words setup names) stage ≡ None → AreOpen (own_family setup names) (own_wires setup names) (λ b. 0) stage bus (requests setup names on bus) → IsClosed (requests setup names on bus)
    none_open_on (Opened heeded task part) bus none opened = absurd (none-some _ (sym none))
    none_open_on AtStart bus none closed = closed
    none_open_on AtEnd bus none closed = closed
    none_open_on (AtHalt k why) bus none closed = closed
    none_open_on AtUndone bus none closed = closed
    none_open_on (AtRefused k code) bus none closed = closed

    closed_on : (bus : Bus) → open_bus (words setup names) x.manager.machine ≡ None → is_open (requests setup names on bus) ≡ false
    closed_on bus none = le-ltb _ _ (none_open_on x.manager.machine.stage bus none (h.joined.are_open bus))

    -- ---- a requester's window is forgotten

    abbrev idle_ipmb : ℕ → BusState
    idle_ipmb requester = record (on Ipmb) { log = Idled requester ∷ (on Ipmb).log }

    abbrev idle_smbus : ℕ → BusState
    idle_smbus requester = record ((on Smbus).bus) { log = Idled requester ∷ (on Smbus).bus.log }

    ipmb_idles : (requester : ℕ) → (requester ≡ own_on Ipmb x.manager.names → open_bus (words setup names) x.manager.machine ≡ None) → WorldFollows setup names x on (with_port (own_plans setup names) Ipmb (idles requester x.ipmb) x)
    ipmb_idles requester honest = record {
      happenings = OnBus Ipmb (IsIdle requester) x.board ∷ [];
      left = update (own_lines setup names) Ipmb (idle_ipmb requester) on;
      may = (((tt, λ e. closed_on Ipmb (honest (e ∙ ap (λ n. n.own_address) (sym tied.named)))), refl, (refl, λ series bodies ready. ready)), tt);
      reaches = refl;
      gives = tt;
      tied = record {
        named = tied.named;
        ipmb_wire = tied.ipmb_wire;
        smbus_wire = tied.smbus_wire;
        ipmb_log = ap (λ (log : List Entry). Idled requester ∷ log) tied.ipmb_log;
        smbus_port = tied.smbus_port;
        waits = tied.waits;
        alone = tied.alone;
        counted = by (λ any b. count_of any x.manager.machine.counts ≡ length b.taken) tied.counted (tied.counted Ipmb);
        written = by (λ any b. AreWritten any (rules_on setup names any) b) tied.written (record { requests = (tied.written Ipmb).requests; replies = (tied.written Ipmb).replies });
        answered = by (λ any b. Each (EntryAnswers setup names any) b.log) tied.answered (tt, tied.answered Ipmb);
        made = tied.made;
        frames = all_held setup names on (update (own_lines setup names) Ipmb (idle_ipmb requester) on) x.frames (by (λ any b. Grows (requests setup names on any).frames b.frames) (λ any n f e. e) (λ n f e. e)) tied.frames;
        opened = tied.opened;
      };
    }
      where
        by : (Q : Bus → BusState → Type 0) → ((any : Bus) → Q any (requests setup names on any)) → Q Ipmb (idle_ipmb requester) → (any : Bus) → Q any (requests setup names (update (own_lines setup names) Ipmb (idle_ipmb requester) on) any)
        by Q all here Ipmb = here
        by Q all here Smbus = all Smbus

    smbus_idles : (requester : ℕ) → (requester ≡ own_on Smbus x.manager.names → open_bus (words setup names) x.manager.machine ≡ None) → WorldFollows setup names x on (with_port (own_plans setup names) Smbus (idles requester x.smbus) x)
    smbus_idles requester honest = record {
      happenings = OnBus Smbus (Plain (IsIdle requester)) x.board ∷ [];
      left = update (own_lines setup names) Smbus (record (on Smbus) { bus = idle_smbus requester }) on;
      may = (((tt, (tt, λ e. closed_on Smbus (honest (e ∙ ap (λ n. n.own_eid) (sym tied.named))))), refl, (refl, λ series bodies ready. ready)), tt);
      reaches = refl;
      gives = tt;
      tied = record {
        named = tied.named;
        ipmb_wire = tied.ipmb_wire;
        smbus_wire = tied.smbus_wire;
        ipmb_log = tied.ipmb_log;
        smbus_port = record { log = ap (λ (log : List Entry). Idled requester ∷ log) tied.smbus_port.log; waits = tied.smbus_port.waits; sound = tied.smbus_port.sound };
        waits = tied.waits;
        alone = tied.alone;
        counted = by (λ any b. count_of any x.manager.machine.counts ≡ length b.taken) tied.counted (tied.counted Smbus);
        written = by (λ any b. AreWritten any (rules_on setup names any) b) tied.written (record { requests = (tied.written Smbus).requests; replies = (tied.written Smbus).replies });
        answered = by (λ any b. Each (EntryAnswers setup names any) b.log) tied.answered (tt, tied.answered Smbus);
        made = tied.made;
        frames = all_held setup names on (update (own_lines setup names) Smbus (record (on Smbus) { bus = idle_smbus requester }) on) x.frames (by (λ any b. Grows (requests setup names on any).frames b.frames) (λ any n f e. e) (λ n f e. e)) tied.frames;
        opened = tied.opened;
      };
    }
      where
        by : (Q : Bus → BusState → Type 0) → ((any : Bus) → Q any (requests setup names on any)) → Q Smbus (idle_smbus requester) → (any : Bus) → Q any (requests setup names (update (own_lines setup names) Smbus (record (on Smbus) { bus = idle_smbus requester }) on) any)
        by Q all here Ipmb = all Ipmb
        by Q all here Smbus = here

    pub idle_goes : (bus : Bus) (requester : ℕ) → (requester ≡ own_on bus x.manager.names → open_bus (words setup names) x.manager.machine ≡ None) → WorldFollows setup names x on (with_port (own_plans setup names) bus (idles requester (port_on (own_plans setup names) bus x)) x)
    idle_goes Ipmb requester honest = ipmb_idles requester honest
    idle_goes Smbus requester honest = smbus_idles requester honest

    -- ---- noise and the bench

    pub noise_goes : WorldFollows setup names x on x
    noise_goes = record { happenings = []; left = on; may = tt; reaches = refl; gives = tt; tied = tied }

    pub bench_goes : (activity : Activity) → WorldFollows setup names x on (record x { board = on_bench x.board activity })
    bench_goes activity = record {
      happenings = OnBench (on_bench x.board activity) ∷ [];
      left = on;
      may = ((refl, λ series bodies ready. ready), tt);
      reaches = refl;
      gives = tt;
      tied = record {
        named = tied.named;
        ipmb_wire = tied.ipmb_wire;
        smbus_wire = tied.smbus_wire;
        ipmb_log = tied.ipmb_log;
        smbus_port = tied.smbus_port;
        waits = tied.waits;
        alone = tied.alone;
        counted = tied.counted;
        written = tied.written;
        answered = tied.answered;
        made = tied.made;
        frames = tied.frames;
        opened = tied.opened;
      };
    }
