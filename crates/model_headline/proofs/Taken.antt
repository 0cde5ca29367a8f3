-- The manager takes the reply to its open request.
use Rattle.std.proofs.Common.{◌≡◌, ℕ, ◌+◌, Bool, true, false, cond, List, length, Option, Some, None, refl, sym, ◌∙◌, ap, subst, arith, ◌⊎◌, inl, inr}
use Rattle.std.specs.Prelude.{slice_get}
use Rattle.std.specs.Option.{option_map}
use Rattle.two_wire.specs.declared.Bus.{Bus}
use Rattle.two_wire.specs.declared.Bus.TheVariants.{Ipmb, Smbus}
use Rattle.record_base.specs.declared.op.Op.{Op}
use Rattle.cfg_records.specs.declared.board_file.BoardFile.{BoardFile}
use Rattle.cfg_records.specs.Records.{Records}
use Rattle.mctp_net.specs.declared.packet.Name.{Name}
use Rattle.mctp_net.specs.Assembly.{Assemblies, open_beside}
use Rattle.model_bus.specs.Request.{Kept}
use Rattle.model_bus.specs.Repeat.{In}
use Rattle.model_bus.specs.PacketBus.{request_name}
use Rattle.model_bus.specs.Effect.{TakesReply}
use Rattle.model_bus.proofs.Lists.{length_more}
use Rattle.model_bus.specs.Answered.{Answered}
use Rattle.model_undo.specs.Words.{is_busy}
use Rattle.model_undo.specs.Machine.{Task, Part, Opened, Turn, bus_at, count_of, one_answered, replies, takes, reply_of}
use Rattle.model_undo.specs.Joined.{IsClosed, OthersStill}
use Rattle.model_undo.specs.World as world
use Rattle.model_undo.specs.World.{States}
use Rattle.model_undo.proofs.Buses.{each_bus}
use Rattle.model_undo.proofs.World.{count_here, count_there}
use Rattle.model_undo.proofs.Joined.{Joined, told}
use Rattle.bmc_core.specs.Wires.{answered_from}
use Rattle.model_lab.proofs.IsFamily.{is_family}
use Rattle.bmc_core.specs.Seen.{WaitsAlike}
use Rattle.undo_plans.specs.declared.names.Names.{Names}
use Rattle.model_lab.specs.ManagerSteps.{goes_on, open_count, sent_of}
use Rattle.model_lab.specs.ManagerEvents.{name_awaited}
use Rattle.model_lab.specs.Lab.{Lab, manager_does}
use Rattle.model_headline.specs.Each.{Each}
use Rattle.model_headline.specs.Made.{MachineMade, StageMade}
use Rattle.model_headline.proofs.Made.{takes_made}
use Rattle.model_headline.specs.Tied.{own_plans, own_family, own_lines, own_wires, smbus_bus, requests, EntryAnswers, IsTied, world_of}
use Rattle.model_headline.proofs.Frames.{Sends, all_held}
use Rattle.model_headline.proofs.Begun.{own, words, NoneOpen, enter_tied, same_world}
use Rattle.model_headline.specs.Follows.{HoldsInWorld}
use Rattle.model_headline.proofs.Calls.{managed, are_closed}

module _ (setup : BoardFile) (names : Names) (plan : List Op) (start : Records) where
  module _ (x : Lab (own_plans setup names)) (on now : States (own_lines setup names)) (tied : IsTied setup names x on) (h : HoldsInWorld setup names plan start (world_of setup names x on)) where
    -- what the model's event leaves: the open request's reply was taken on this bus, and these packets wait at the manager
    pub record Took (bus : Bus) (reply : List ℕ) (joined : Assemblies) : Type 0 where
      pub taken : TakesReply (requests setup names on bus) (requests setup names now bus) reply
      pub still : OthersStill bus (requests setup names on) (requests setup names now)
      pub logs : (any : Bus) → (requests setup names now any).log ≡ (requests setup names on any).log
      pub frames : (any : Bus) → (requests setup names now any).frames ≡ (requests setup names on any).frames
      pub port : (now Smbus).port ≡ (on Smbus).port
      pub waits : WaitsAlike (now Smbus).manager joined
      -- nothing waits once a reply was taken on SMBus
      pub alone : (n : ℕ) → (bus ≡ Smbus → ⊥) ⊎ (joined.open_count ≡ 0)
      pub beside : (bus ≡ Smbus → ⊥) → joined ≡ x.manager.joined

    module _ (task : Task (words setup names)) (part : Part (words setup names)) (reply : List ℕ) (joined : Assemblies) (at : Opened true task part ≡ x.manager.machine.stage) (took : Took (bus_at (words setup names) part) reply joined) where
      abbrev bus : Bus
      bus = bus_at (words setup names) part

      abbrev a : Answered
      a = answered_from bus reply

      abbrev pub turn : Turn (words setup names)
      turn = takes (words setup names) a task part x.manager.machine

      -- the lab, before the next request is sent
      abbrev y : Lab (own_plans setup names)
      y = managed setup names plan start turn.machine joined x

      begun_same : (any : Bus) → (requests setup names now any).begun ≡ (requests setup names on any).begun
      begun_same = each_bus (λ any. (requests setup names now any).begun ≡ (requests setup names on any).begun) bus took.taken.begun (λ other ne. (took.still other ne).begun)

      carried_same : (any : Bus) → (requests setup names now any).carried ≡ (requests setup names on any).carried
      carried_same = each_bus (λ any. (requests setup names now any).carried ≡ (requests setup names on any).carried) bus took.taken.carried (λ other ne. (took.still other ne).carried)

      counted : (any : Bus) → count_of any (one_answered bus x.manager.machine.counts) ≡ length (requests setup names now any).taken
      counted = each_bus (λ any. count_of any (one_answered bus x.manager.machine.counts) ≡ length (requests setup names now any).taken) bus
          (count_here bus x.manager.machine.counts ∙ ap (λ (n : ℕ). n + 1) (tied.counted bus) ∙ sym (length_more (requests setup names on bus).taken reply) ∙ ap (λ (l : List (List ℕ)). length l) (sym took.taken.taken))
          (λ other ne. count_there bus other x.manager.machine.counts ne ∙ tied.counted other ∙ ap (λ (l : List (List ℕ)). length l) (sym (took.still other ne).taken))

      none : NoneOpen setup names now
      none = each_bus (λ any. length (requests setup names now any).begun ≡ length (requests setup names now any).taken) bus
          (let order = h.joined.orderly bus in let most = order.one_open in let opened = took.taken.opened in
          let begun : length (requests setup names now bus).begun ≡ length (requests setup names on bus).begun = ap (λ (l : List (List ℕ)). length l) (begun_same bus) in
          let taken : length (requests setup names now bus).taken ≡ length (requests setup names on bus).taken + 1 = ap (λ (l : List (List ℕ)). length l) took.taken.taken ∙ length_more (requests setup names on bus).taken reply in
          omega (arith, begun, taken, most, opened))
          (λ other ne.
          let closed : IsClosed (requests setup names on other) = (are_closed setup names plan start x on tied h (Opened true task part) at other).1 ne in
          let order = h.joined.orderly other in let answered = order.answered in let below = order.below in
          let begun : length (requests setup names now other).begun ≡ length (requests setup names on other).begun = ap (λ (l : List (List ℕ)). length l) (begun_same other) in
          let taken : length (requests setup names now other).taken ≡ length (requests setup names on other).taken = ap (λ (l : List (List ℕ)). length l) (took.still other ne).taken in
          omega (arith, begun, taken, closed, answered, below))

      made : MachineMade (own setup names) turn.machine
      made = let m = subst (StageMade (own setup names)) (sym at) tied.made.stage in takes_made (own setup names) a task part x.manager.machine m.1 tied.made.undo

      no_more : (n : Name) (j : Assemblies) → j.open_count ≡ 0 → open_beside n j ≡ 0
      no_more n j is = omega (arith, is)

      alone : open_beside (name_awaited names (open_count (own_plans setup names) Smbus y.manager)) joined ≡ 0
      alone = elim (took.alone 0) [
        | inl other ↦
            subst (λ (j : Assemblies). open_beside (name_awaited names (count_of Smbus (one_answered bus x.manager.machine.counts))) j ≡ 0) (sym (took.beside other))
            (subst (λ (n : ℕ). open_beside (name_awaited names n) x.manager.joined ≡ 0) (sym (count_there bus Smbus x.manager.machine.counts (λ e. other (sym e)))) tied.alone)
        | inr none ↦ no_more _ joined none
      ]

      same_sends : Sends setup names on now
      same_sends any n f e = ap (λ fs. slice_get fs n) (took.frames any) ∙ e

      y_tied : IsTied setup names y now
      y_tied = record {
        named = tied.named;
        ipmb_wire = tied.ipmb_wire;
        smbus_wire = tied.smbus_wire;
        ipmb_log = took.logs Ipmb ∙ tied.ipmb_log;
        smbus_port = record {
          log = took.logs Smbus ∙ tied.smbus_port.log;
          waits = subst (λ w. WaitsAlike w x.smbus.kept) (sym took.port) tied.smbus_port.waits;
          sound = tied.smbus_port.sound;
        };
        waits = took.waits;
        alone = alone;
        counted = counted;
        written = λ any. record {
          requests = λ n b e. (tied.written any).requests n b (ap (λ (l : List (List ℕ)). slice_get l n) (sym (begun_same any)) ∙ e);
          replies = λ n k e. (tied.written any).replies n k (ap (λ (l : List Kept). slice_get l n) (sym (carried_same any)) ∙ e);
        };
        answered = λ any. subst (Each (EntryAnswers setup names any)) (sym (took.logs any)) (tied.answered any);
        made = made;
        frames = all_held setup names on now x.frames same_sends tied.frames;
        opened = λ n t is. tied.opened n t (subst (λ w. In t (w (request_name (smbus_bus setup names) n))) took.port is);
      }

      -- the lab and the model's world after it
      pub record After : Type 0 where
        pub left : States (own_lines setup names)
        pub is_left : left ≡ world.begins (own_family setup names) (own_lines setup names) (own_wires setup names) turn.sends now
        pub ties : IsTied setup names (manager_does (own_plans setup names) (goes_on (own_plans setup names) (record (x.manager) { joined = joined }) turn) x) left
        pub reaches : (record { machine = turn.machine; on = left; board = x.board }) ≡ world_of setup names (manager_does (own_plans setup names) (goes_on (own_plans setup names) (record (x.manager) { joined = joined }) turn) x) left

      pub taken_after : After
      taken_after =
          let left = world.begins (own_family setup names) (own_lines setup names) (own_wires setup names) turn.sends now in
          let sent = option_map (sent_of (own_plans setup names) x.manager.names) turn.sends in
          record {
            left = left;
            is_left = refl;
            ties = enter_tied setup names turn.machine.stage y now y_tied made.stage none;
            reaches = same_world setup names sent y left;
          }

      -- the reply isn't one of a busy controller, so the machine takes it
      pub not_busy : is_busy a.code ≡ false
      not_busy =
          let opened = subst (λ s. Joined (own_family setup names) (is_family setup (own setup names)) (own_wires setup names) (λ b. 0) plan start x.manager.machine.plan s x.manager.machine.stopped x.manager.machine.undo (requests setup names on) x.board) (sym at) h.joined in
          (told (own_family setup names) (is_family setup (own setup names)) (own_wires setup names) (λ b. 0) plan start x.manager.machine.plan true task part x.manager.machine.stopped x.manager.machine.undo (requests setup names on) x.board (requests setup names now bus) reply opened took.taken).1

      pub reply_is : reply_of (words setup names) a x.manager.machine ≡ Some turn
      reply_is =
          ap (λ s. replies (words setup names) a s x.manager.machine) (sym at)
          ∙ ap (λ (t : Bool). let none : Option (Turn (words setup names)) = None in cond t none (Some turn)) not_busy
