-- A packet of the manager that ends its message, at the port on SMBus; and every packet.
use Rattle.std.proofs.Common.{◌≡◌, ℕ, suc, zero, ◌%◌, Bool, true, false, cond, ◌||◌, List, [], ◌∷◌, ◌++◌, length, map, Option, Some, None, refl, sym, ◌∙◌, ap, subst, inl, inr}
use Rattle.std.specs.Prelude.{◌==◌, slice_get, IfSome}
use Rattle.std.proofs.lemmas.Bool.{eq-eqb, eqb-true}
use Rattle.std.proofs.lemmas.Option.{same_Some, none-some}
use Rattle.two_wire.specs.declared.Bus.TheVariants.{Smbus}
use Rattle.mctp_net.specs.declared.packet.Packet.{Packet}
use Rattle.mctp_net.specs.declared.packet.Envelope.{Envelope}
use Rattle.mctp_net.specs.declared.message.Message.{Message}
use Rattle.mctp_net.specs.declared.taken.DropCause.{DropCause}
use Rattle.mctp_net.specs.declared.taken.DropCause.TheVariants.{NotOurs, NoStart, TooLong, OutOfSequence, UnitSize, NoSlot}
use Rattle.mctp_net.specs.Assembly.{name_of, drop_cause, after as kept_after, message_of}
use Rattle.pldm_base.specs.declared.message.PldmRequest.{PldmRequest}
use Rattle.record_base.specs.declared.op.Op.{Op}
use Rattle.record_base.specs.declared.message.Answered.{Answered as BoardAnswer}
use Rattle.cfg_records.specs.declared.board_file.BoardFile.{BoardFile}
use Rattle.cfg_records.specs.Records.{Records}
use Rattle.bmc_board.specs.State.{State}
use Rattle.bmc_board.specs.Answer.{answer_of}
use Rattle.bmc_board.proofs.OneAnswer.{has_answer}
use Rattle.model_bus.specs.Request.{Request as Heard, Kept, Entry, Carried, idles_of}
use Rattle.model_bus.specs.Numbering.{Rules, is_above}
use Rattle.model_bus.specs.Carried.{Outcome, Repeats, IsBusy, IsNew, outcome, log_after, reply_after, carried_after}
use Rattle.model_bus.specs.Assembly.{Name, SentPacket, Step, Waits, Whole, Drops, takes, waiting, first_request, message_of as model_message_of}
use Rattle.model_bus.specs.BusState.{Frame, Content, Ask, Reply, request_of, hears as model_hears, new_bytes}
use Rattle.model_bus.specs.Bytes.{is_busy_code, IsReplyOn}
use Rattle.model_bus.specs.Schedule.{IsLive as IsLiveThere}
use Rattle.model_bus.specs.PacketBus.{PacketBus, BusEnds, request_name, set_at, packet_happens}
use Rattle.model_bus.specs.PacketEffect.{step_of, whole_request, completed_request, carried_of, FrameAtPort, PortEffect, HoldsRequest}
use Rattle.model_bus.proofs.Lists.{grows, at_end, one_more}
use Rattle.model_bus.specs.Answered.{Answered}
use Rattle.model_undo.specs.Line.{exchange}
use Rattle.model_undo.specs.Giving.{given_by}
use Rattle.model_undo.specs.World as world
use Rattle.model_undo.specs.World.{States, World, OnBus}
use Rattle.bmc_core.specs.Wires.{family_answer, reply_to, asked_from}
use Rattle.model_lab.proofs.IsFamily.{is_family}
use Rattle.bmc_core.specs.Seen.{seen_name, AgreesWithJoin}
use Rattle.bmc_core.proofs.WholeBytes.{whole-bytes}
use Rattle.undo_plans.specs.declared.names.Names.{Names}
use Rattle.bmc_core.specs.Values.{Value, Part, parts_of}
use Rattle.bmc_core.specs.Bytes.{pldm_heard_in, said, busy_on}
use Rattle.bmc_core.specs.PortSteps.{StepResult, PortState, spelled, left_by, pldm_asked, reply_envelope, replies, hears_pldm, hears_typed, hears_message, hears_part, ends_message, stays, hears, turn}
use Rattle.bmc_core.specs.PortEvents.{name_in, event_by, message_answer_to, pldm_answer_to, IsPortOf}
use Rattle.model_lab.specs.ManagerSteps.{addresses, own_on}
use Rattle.model_lab.specs.ManagerEvents.{HoldsPart}
use Rattle.model_lab.specs.Own.{JoinsOwn}
use Rattle.model_lab.specs.declared.way.Way.TheVariants.{ToManager}
use Rattle.model_lab.specs.Lab.{LabFrame, Lab, frame_now, port_does, opens}
use Rattle.bmc_core.proofs.Spelling.{are_the_models}
use Rattle.model_headline.specs.Each.{Each}
use Rattle.model_headline.specs.Tied.{own_plans, own_family, own_lines, own_wires, rules_on, HoldsAskedPart, IsHeld, IsHeldBy, EntryAnswers, IsTied, world_of, IsGivenAnswer, WorldFollows}
use Rattle.model_headline.specs.Follows.{HoldsInWorld}
use Rattle.model_headline.proofs.Each.{each_map, each_by_place}
use Rattle.model_headline.proofs.Sending.{from_zero, part_seen, part_envelope}
use Rattle.model_headline.proofs.Begun.{own}
use Rattle.model_headline.proofs.Parts as part
use Rattle.model_headline.proofs.Quiet as quiet

module _ (setup : BoardFile) (names : Names) (plan : List Op) (start : Records) where
  module _ (x : Lab (own_plans setup names)) (on : States (own_lines setup names)) (tied : IsTied setup names x on) (h : HoldsInWorld setup names plan start (world_of setup names x on)) (f : LabFrame) (hold : HoldsAskedPart setup names (on Smbus) f)
      (live : IsLiveThere (rules_on setup names Smbus) (on Smbus).bus hold.part.frame) (mine : JoinsOwn (own_plans setup names) x f.request (Part hold.packet)) where
    abbrev b : PacketBus
    b = part.b setup names plan start x on tied h f hold live mine

    abbrev p : Packet
    p = hold.packet

    abbrev g : Frame
    g = hold.part.frame

    abbrev ends : BusEnds
    ends = on Smbus

    abbrev rules : Rules
    rules = rules_on setup names Smbus

    abbrev cause : Option DropCause
    cause = drop_cause x.smbus.eid x.smbus.kept p

    abbrev sent : SentPacket
    sent = part.sent setup names plan start x on tied h f hold live mine

    abbrev all : List SentPacket
    all = waiting (ends.port (name_in p)) sent ++ sent ∷ []

    abbrev next : PortState
    next = quiet.next setup names plan start x on tied h f hold live mine

    abbrev whole : Message
    whole = message_of (kept_after x.smbus.eid x.smbus.kept p) p

    abbrev q : PldmRequest
    q = hold.request

    abbrev r : Heard
    r = pldm_heard_in names.own_eid q

    abbrev given : BoardAnswer × State
    given = answer_of setup x.board (pldm_asked names.own_eid q)

    abbrev kept : Kept
    kept = record { request = r; reply = spelled Smbus r given.0 }

    abbrev done : Outcome
    done = outcome (is_above 32) r ends.bus.log

    bytes_so : r.bytes ≡ hold.part.bytes
    bytes_so = ap (λ (y : Heard). y.bytes) hold.heard

    module _ (none : cause ≡ None) (last : p.end ≡ true) where
      ours : cause ≡ Some NotOurs → ⊥
      ours e = none-some NotOurs (sym none ∙ e)

      slot : cause ≡ Some NoSlot → ⊥
      slot e = none-some NoSlot (sym none ∙ e)

      taken_whole : part.taken setup names plan start x on tied h f hold live mine ≡ (Whole all, [])
      taken_whole = subst (λ (t : Bool). AgreesWithJoin None t all (part.taken setup names plan start x on tied h f hold live mine)) last (subst (λ (c : Option DropCause). AgreesWithJoin c p.end all (part.taken setup names plan start x on tied h f hold live mine)) none (part.agrees setup names plan start x on tied h f hold live mine))

      -- what is whole is what was sent
      abbrev IsSent : Step → Type 0
      IsSent step = IfSome (whole_request rules g.request step) (λ y. y ≡ request_of rules g.request hold.part.bytes)

      as_sent : request_of rules (first_request g.request all) (model_message_of all) ≡ request_of rules g.request hold.part.bytes
      as_sent =
          let new = (packet_happens b ends (part.arrives setup names plan start x on tied h f hold live mine)).bus in
          let at_frame : PortEffect rules g.request g.content (completed_request b ends hold.place g.request g.idles g.content) (part.answer setup names plan start x on tied h f hold live mine) ends.bus new =
          subst (λ (o : Option Frame). FrameAtPort b ends hold.place (part.answer setup names plan start x on tied h f hold live mine) new o) hold.part.sent (part.effect_of setup names plan start x on tied h f hold live mine ours slot) in
          let of_bytes : IfSome (completed_request b ends hold.place g.request g.idles (Ask hold.part.bytes)) (HoldsRequest rules g.request (Ask hold.part.bytes)) =
          subst (λ (c : Content). IfSome (completed_request b ends hold.place g.request g.idles c) (HoldsRequest rules g.request c)) hold.part.asks at_frame.as_sent in
          let of_part = subst (λ o. IsSent (step_of ends.port (request_name b g.request) g.request g.idles o)) hold.part.part of_bytes in
          let named = subst (λ (n : Name). IsSent (takes (ends.port n) sent).0) (sym hold.part.named) of_part in
          subst (λ (y : Step × List SentPacket). IsSent y.0) taken_whole named

      body_is : whole.body ≡ hold.part.bytes
      body_is = sym (whole-bytes x.smbus.eid x.smbus.kept p sent (ends.port (name_in p)) refl (tied.smbus_port.waits _) none last) ∙ ap (λ (y : Heard). y.bytes) as_sent

      source_is : p.envelope.source_eid ≡ names.own_eid
      source_is = ap (λ (n : Name). n.source) hold.part.named

      answer_is : part.answer setup names plan start x on tied h f hold live mine ≡ kept.reply
      answer_is =
          ap (λ (y : List ℕ). message_answer_to setup x.board p.envelope.source_eid y) (body_is ∙ hold.typed)
          ∙ ap (λ o. pldm_answer_to setup x.board p.envelope.source_eid o) hold.says
          ∙ ap (λ (from : ℕ). spelled Smbus (pldm_heard_in from q) (answer_of setup x.board (pldm_asked from q)).0) source_is

      -- ---- what the lab's port does

      abbrev deed_by : ℕ → List Entry → StepResult
      deed_by from log =
          let s = pldm_heard_in from q in
          let a = answer_of setup x.board (pldm_asked from q) in
          let k : Kept = record { request = s; reply = spelled Smbus s a.0 } in
          let o = outcome (is_above 32) s log in
          record { port = record next { log = log_after o k log }; board = left_by o a.1 x.board; sent = replies next whole (said Smbus s (reply_after o k)) }

      abbrev deed : StepResult
      deed = deed_by names.own_eid ends.bus.log

      -- the same, by what is done with the request
      abbrev deed_as : Outcome → StepResult
      deed_as o = record { port = record next { log = log_after o kept ends.bus.log }; board = left_by o given.1 x.board; sent = replies next whole (said Smbus r (reply_after o kept)) }

      asked_so : hears_pldm setup next x.board whole (Some q) ≡ deed_by p.envelope.source_eid x.smbus.log
      unfolding turn
      asked_so = refl

      typed_so : hears_message setup next x.board whole ≡ hears_typed setup next x.board whole whole.body
      unfolding hears_message
      typed_so = ap (λ (t : Bool). cond t (hears_typed setup next x.board whole whole.body) (stays next x.board)) (ap (λ (n : Name). n.owner) hold.part.named)

      deed_so : hears_part setup x.smbus x.board p ≡ deed
      deed_so =
          quiet.deed_is setup names plan start x on tied h f hold live mine None none
          ∙ ap (λ (t : Bool). cond t (hears_message setup next x.board whole) (stays next x.board)) last
          ∙ typed_so
          ∙ ap (hears_typed setup next x.board whole) (body_is ∙ hold.typed)
          ∙ ap (hears_pldm setup next x.board whole) hold.says
          ∙ asked_so
          ∙ ap (λ (from : ℕ). deed_by from x.smbus.log) source_is
          ∙ ap (deed_by names.own_eid) (sym tied.smbus_port.log)

      -- ---- what the model's does

      abbrev left : BusEnds
      left = record ends { bus = model_hears rules g.request kept ends.bus; port = set_at (name_in p) [] ends.port }

      happened : packet_happens b ends (part.arrives setup names plan start x on tied h f hold live mine) ≡ left
      happened =
          part.happens_so setup names plan start x on tied h f hold live mine
          ∙ ap (part.ends_by setup names plan start x on tied h f hold live mine) taken_whole
          ∙ ap (λ (s : Heard). let y : BusEnds = record ends { bus = model_hears rules g.request (record { request = s; reply = part.answer setup names plan start x on tied h f hold live mine }) ends.bus; port = set_at (name_in p) [] ends.port } in y) (as_sent ∙ sym hold.heard)
          ∙ ap (λ (a : List ℕ). let y : BusEnds = record ends { bus = model_hears rules g.request (record { request = r; reply = a }) ends.bus; port = set_at (name_in p) [] ends.port } in y) answer_is

      not_busy : is_busy_code given.0.code ≡ false
      not_busy = (is_family setup (own setup names)).never_busy x.board given.1 (pldm_asked names.own_eid q) (family_answer given.0) (has_answer setup x.board (pldm_asked names.own_eid q))

      replies_so : (a : Answered) → IsReplyOn Smbus a.code r.bytes (reply_to Smbus r.bytes a)
      replies_so a = subst (λ (y : List ℕ). IsReplyOn Smbus a.code y (reply_to Smbus y a)) (sym bytes_so) (are_the_models.reply Smbus hold.number hold.part.bytes a hold.spelled)

      replies_in : (o : Outcome) (n : ℕ) (k : Kept) → slice_get (carried_after o kept ends.bus.carried) n ≡ Some k → (code : ℕ) × (is_busy_code code ≡ false) × IsReplyOn Smbus code k.request.bytes k.reply
      replies_in (Repeats reply) n k e = (tied.written Smbus).replies n k e
      replies_in IsBusy n k e = (tied.written Smbus).replies n k e
      replies_in IsNew n k e = elim (one_more ends.bus.carried kept n k e) [
        | inl old ↦ (tied.written Smbus).replies n k old
        | inr new ↦ subst (λ (y : Kept). (code : ℕ) × (is_busy_code code ≡ false) × IsReplyOn Smbus code y.request.bytes y.reply) new.1 (given.0.code, not_busy, replies_so (family_answer given.0))
      ]

      log_answers : (o : Outcome) → Each (EntryAnswers setup names Smbus) (log_after o kept ends.bus.log)
      log_answers (Repeats reply) = tied.answered Smbus
      log_answers IsBusy = tied.answered Smbus
      log_answers IsNew = ((family_answer given.0, refl), tied.answered Smbus)

      -- ---- the packets of the reply

      abbrev reply_of : Option (List ℕ) → Message
      reply_of replied = record { envelope = reply_envelope next p.envelope; body = said Smbus r replied }

      busy_part : (n : ℕ) (k : Packet) → slice_get (parts_of (reply_of None)) n ≡ Some k → HoldsPart b n k (Reply r.number None)
      busy_part zero k e =
          let same = same_Some _ _ e in
          subst (λ (y : Packet). HoldsPart b 0 y (Reply r.number None)) same (refl, refl, refl, ((busy_on Smbus).code, r.bytes, refl, replies_so (busy_on Smbus)))
      busy_part (suc n) k e = absurd (none-some k e)

      holds_part : (replied : Option (List ℕ)) (n : ℕ) (k : Packet) → slice_get (parts_of (reply_of replied)) n ≡ Some k → HoldsPart b n k (Reply r.number replied)
      holds_part None n k e = busy_part n k e
      holds_part (Some reply) n k e = part_seen (reply_of (Some reply)) n k e

      abbrev reply_frame : Frame
      reply_frame = record { request = g.request; idles = idles_of names.own_eid (log_after done kept ends.bus.log); content = Reply r.number (reply_after done kept) }

      held_part : (n : ℕ) (k : Packet) → slice_get (parts_of (reply_of (reply_after done kept))) n ≡ Some k
          → IsHeldBy setup names ToManager Smbus (quiet.now setup names plan start x on tied h f hold live mine left) (frame_now (own_plans setup names) Smbus ToManager f.request (quiet.unsent setup names plan start x on tied h f hold live mine deed) (Part k))
      held_part n k at = by (x.smbus.eid == names.peer_eid) refl
        where
          in_envelope : k.envelope ≡ reply_envelope next p.envelope
          in_envelope = part_envelope (reply_of (reply_after done kept)) n k at

          by : (t : Bool) → (x.smbus.eid == names.peer_eid) ≡ t → IsHeldBy setup names ToManager Smbus (quiet.now setup names plan start x on tied h f hold live mine left) (frame_now (own_plans setup names) Smbus ToManager f.request (quiet.unsent setup names plan start x on tied h f hold live mine deed) (Part k))
          by false e = inr (record { packet = k; value = refl; source = ap (λ (v : Envelope). v.source_eid == names.peer_eid) in_envelope ∙ e })
          by true e = inl (record {
            which = length ends.bus.frames;
            place = n;
            frame = reply_frame;
            is_of = record {
              sent = at_end ends.bus.frames reply_frame;
              request = hold.same_request;
              idles = ap (λ m. idles_of (own_on Smbus m) (log_after done kept ends.bus.log)) (sym tied.named);
            };
            packet = k;
            value = refl;
            held = holds_part (reply_after done kept) n k at;
            named = ap (λ (v : Envelope). seen_name (name_of v)) in_envelope
                ∙ ap (λ (y : ℕ). let m : Name = record { source = y; owner = false; tag = p.envelope.tag } in m) (eqb-true x.smbus.eid names.peer_eid e)
                ∙ ap (λ (y : ℕ). let m : Name = record { source = names.peer_eid; owner = false; tag = y } in m) (part.tag_is setup names plan start x on tied h f hold live mine ∙ ap (λ (y : ℕ). y % 8) (from_zero g.request));
            destination = ap (λ (v : Envelope). v.destination) in_envelope ∙ hold.from_manager;
            source = ap (λ (v : Envelope). v.source) in_envelope ∙ tied.smbus_wire;
            ours = ap (λ (v : Envelope). v.destination_eid == names.own_eid || v.destination_eid == 0) in_envelope ∙ ap (λ (t : Bool). t || p.envelope.source_eid == 0) (eq-eqb _ _ source_is);
          })

      leaves : quiet.Leaves setup names plan start x on tied h f hold live mine deed left
      leaves = record {
        wire = refl;
        port = subst (λ (d : StepResult). IsPortOf left d.port) deed_so (subst (λ (y : BusEnds). IsPortOf y (hears_part setup x.smbus x.board p).port) happened (quiet.manager_after setup names plan start x on tied h f hold live mine None none ours slot));
        manager = refl;
        taken = refl;
        written = record { requests = (tied.written Smbus).requests; replies = replies_in done };
        more = grows ends.bus.frames (reply_frame ∷ []);
        answered = log_answers done;
        opened = part.still_opened setup names plan start x on tied h f hold live mine [] (λ t is. absurd is);
        held = each_map (frame_now (own_plans setup names) Smbus ToManager f.request (quiet.unsent setup names plan start x on tied h f hold live mine deed)) (IsHeld setup names (quiet.now setup names plan start x on tied h f hold live mine left)) (map Part (parts_of (reply_of (reply_after done kept))))
            (each_map Part (λ (v : Value). IsHeld setup names (quiet.now setup names plan start x on tied h f hold live mine left) (frame_now (own_plans setup names) Smbus ToManager f.request (quiet.unsent setup names plan start x on tied h f hold live mine deed) v)) (parts_of (reply_of (reply_after done kept)))
            (each_by_place (λ (k : Packet). IsHeld setup names (quiet.now setup names plan start x on tied h f hold live mine left) (frame_now (own_plans setup names) Smbus ToManager f.request (quiet.unsent setup names plan start x on tied h f hold live mine deed) (Part k))) (parts_of (reply_of (reply_after done kept))) held_part));
      }

      board_may : (o : Outcome) → world.BoardMay (own_family setup names) (own_lines setup names) (own_wires setup names) Smbus (exchange (new_bytes o r.bytes) kept.reply) x.board (left_by o given.1 x.board)
      board_may (Repeats reply) = (refl, λ series bodies ready. ready)
      board_may IsBusy = (refl, λ series bodies ready. ready)
      board_may IsNew = (
        family_answer given.0,
        refl,
        subst (λ a. (own_family setup names).Row x.board a (family_answer given.0) given.1) (sym (ap (asked_from (addresses names) Smbus) bytes_so ∙ hold.reads)) (has_answer setup x.board (pldm_asked names.own_eid q)),
      )

      carried : ((own_lines setup names) Smbus).carries ends (part.arrives setup names plan start x on tied h f hold live mine) ≡ exchange (new_bytes done r.bytes) kept.reply
      carried =
          quiet.carried_so setup names plan start x on tied h f hold live mine
          ∙ ap (λ (y : Step × List SentPacket). exchange (carried_of rules (whole_request rules g.request y.0) ends.bus) (part.answer setup names plan start x on tied h f hold live mine)) taken_whole
          ∙ ap (λ (y : Heard). exchange (carried_of rules (Some y) ends.bus) (part.answer setup names plan start x on tied h f hold live mine)) (as_sent ∙ sym hold.heard)
          ∙ ap (λ (a : List ℕ). exchange (new_bytes done r.bytes) a) answer_is

      -- the answer is the lab's
      gave : (o : Outcome) → Each (IsGivenAnswer setup names x (quiet.done_by setup names plan start x on tied h f hold live mine (deed_as o)))
          (given_by (own_family setup names) (own_lines setup names) (own_wires setup names) Smbus (exchange (new_bytes o r.bytes) kept.reply) x.board (left_by o given.1 x.board) ++ [])
      gave (Repeats reply) = tt
      gave IsBusy = tt
      gave IsNew = (
        record {
          before = refl;
          answers = record {
            bus = Smbus;
            kept = kept;
            carried = ap (λ (log : List Entry). Carried kept ∷ log) tied.smbus_port.log;
            from_manager = refl;
            asks = refl;
            replies = refl;
            row = subst (λ a. (own_family setup names).Row x.board a (family_answer given.0) given.1) (sym (ap (asked_from (addresses names) Smbus) bytes_so ∙ hold.reads)) (has_answer setup x.board (pldm_asked names.own_eid q));
          };
        },
        tt,
      )

      pub whole_goes : WorldFollows setup names x on (quiet.done_by setup names plan start x on tied h f hold live mine (hears_part setup x.smbus x.board p))
      whole_goes = quiet.finish setup names plan start x on tied h f hold live mine deed (sym deed_so) (record {
        happenings = OnBus Smbus (part.arrives setup names plan start x on tied h f hold live mine) (left_by done given.1 x.board) ∷ [];
        left = quiet.now setup names plan start x on tied h f hold live mine left;
        may = (((tt, part.honest_part setup names plan start x on tied h f hold live mine ours slot), refl, subst (λ o. world.BoardMay (own_family setup names) (own_lines setup names) (own_wires setup names) Smbus o x.board (left_by done given.1 x.board)) (sym carried) (board_may done)), tt);
        reaches = ap (λ (y : BusEnds). let w : World (own_family setup names) (own_lines setup names) = record { machine = x.manager.machine; on = quiet.now setup names plan start x on tied h f hold live mine y; board = left_by done given.1 x.board } in w) happened;
        gives = subst (λ o. Each (IsGivenAnswer setup names x (quiet.done_by setup names plan start x on tied h f hold live mine deed)) (given_by (own_family setup names) (own_lines setup names) (own_wires setup names) Smbus o x.board (left_by done given.1 x.board) ++ [])) (sym carried) (gave done);
        tied = quiet.leaves_tied setup names plan start x on tied h f hold live mine deed left leaves;
      })

    -- ---- every packet

    by_end : (t : Bool) → p.end ≡ t → cause ≡ None → WorldFollows setup names x on (quiet.done_by setup names plan start x on tied h f hold live mine (hears_part setup x.smbus x.board p))
    by_end true e none = whole_goes none e
    by_end false e none =
        quiet.kept_quiet setup names plan start x on tied h f hold live mine None none (λ m. none-some NotOurs (sym none ∙ m)) (λ m. none-some NoSlot (sym none ∙ m))
        (sym (ap (λ (t : Bool). cond t (hears_message setup next x.board whole) (stays next x.board)) e)) refl Waits all
        (subst (λ (t : Bool). AgreesWithJoin None t all (part.taken setup names plan start x on tied h f hold live mine)) e (subst (λ (c : Option DropCause). AgreesWithJoin c p.end all (part.taken setup names plan start x on tied h f hold live mine)) none (part.agrees setup names plan start x on tied h f hold live mine))) refl refl (part.waiting_opened setup names plan start x on tied h f hold live mine none)

    dropped : (c : DropCause) → cause ≡ Some c → (Some c ≡ Some NotOurs → ⊥) → (Some c ≡ Some NoSlot → ⊥) → quiet.quiet setup names plan start x on tied h f hold live mine ≡ ends_message setup next x.board p (Some c)
        → event_by (Some c) (name_in p) (part.arrives setup names plan start x on tied h f hold live mine) ≡ Some (part.arrives setup names plan start x on tied h f hold live mine) → part.taken setup names plan start x on tied h f hold live mine ≡ (Drops, [])
        → WorldFollows setup names x on (quiet.done_by setup names plan start x on tied h f hold live mine (hears_part setup x.smbus x.board p))
    dropped c e ours slot same event drops = quiet.kept_quiet setup names plan start x on tied h f hold live mine (Some c) e (λ m. ours (sym e ∙ m)) (λ m. slot (sym e ∙ m)) same event Drops [] drops refl refl (λ t is. absurd is)

    by_cause : (c : Option DropCause) → cause ≡ c → AgreesWithJoin c p.end all (part.taken setup names plan start x on tied h f hold live mine) → WorldFollows setup names x on (quiet.done_by setup names plan start x on tied h f hold live mine (hears_part setup x.smbus x.board p))
    by_cause (Some NotOurs) e a = quiet.not_ours setup names plan start x on tied h f hold live mine e
    by_cause (Some NoSlot) e a = quiet.no_slot setup names plan start x on tied h f hold live mine e
    by_cause (Some NoStart) e a = dropped NoStart e (λ m. absurd cc) (λ m. absurd cc) refl refl a
    by_cause (Some TooLong) e a = dropped TooLong e (λ m. absurd cc) (λ m. absurd cc) refl refl a
    by_cause (Some OutOfSequence) e a = dropped OutOfSequence e (λ m. absurd cc) (λ m. absurd cc) refl refl a
    by_cause (Some UnitSize) e a = dropped UnitSize e (λ m. absurd cc) (λ m. absurd cc) refl refl a
    by_cause None e a = by_end p.end refl e

    -- a packet of the manager comes to the port
    pub part_goes : WorldFollows setup names x on (port_does (own_plans setup names) Smbus ToManager f.request (hears setup x.smbus x.board (Part p)) (opens (own_plans setup names) (Part p) f.request x))
    part_goes =
        let there : (p.envelope.destination == x.smbus.wire) ≡ true = eq-eqb _ _ (hold.to_port ∙ sym tied.smbus_wire) in
        subst (λ (t : Bool). WorldFollows setup names x on (port_does (own_plans setup names) Smbus ToManager f.request (cond t (hears_part setup x.smbus x.board p) (stays x.smbus x.board)) (opens (own_plans setup names) (Part p) f.request x))) (sym there)
        (subst (λ (y : Lab (own_plans setup names)). WorldFollows setup names x on (port_does (own_plans setup names) Smbus ToManager f.request (hears_part setup x.smbus x.board p) y)) (sym (part.opens_is setup names plan start x on tied h f hold live mine)) (by_cause cause refl (part.agrees setup names plan start x on tied h f hold live mine)))
