-- What a request that comes to the port on IPMB does in a lab, it does in the model's world.
use Rattle.std.proofs.Common.{◌≡◌, ℕ, Bool, true, false, cond, ◌&&◌, List, [], ◌∷◌, ◌++◌, length, Option, Some, None, refl, sym, ◌∙◌, ap, subst, inl, inr}
use Rattle.std.specs.Prelude.{◌==◌, ◌≢◌, slice_get, IfSome}
use Rattle.std.specs.List.{list_all}
use Rattle.std.specs.Str.{bytes_eq}
use Rattle.std.proofs.lemmas.Bool.{cond_both, and_parts, and_from, eq-eqb}
use Rattle.std.proofs.lemmas.Option.{same_Some, none-some}
use Rattle.std.proofs.lemmas.Slice.Eq.{bytes_eq-Decides}
use Rattle.two_wire.specs.declared.Bus.{Bus}
use Rattle.two_wire.specs.declared.Bus.TheVariants.{Ipmb, Smbus}
use Rattle.ipmb_frame.specs.declared.message.Request.{Request}
use Rattle.record_base.specs.declared.op.Op.{Op}
use Rattle.record_base.specs.declared.message.Answered.{Answered as BoardAnswer}
use Rattle.cfg_records.specs.declared.board_file.BoardFile.{BoardFile}
use Rattle.cfg_records.specs.Records.{Records}
use Rattle.bmc_board.specs.State.{State}
use Rattle.bmc_board.specs.Answer.{answer_of}
use Rattle.bmc_board.specs.Table.{is_changing}
use Rattle.bmc_board.proofs.OneAnswer.{has_answer}
use Rattle.bmc_board.proofs.Quiet.{keeps_records, keeps_stagings}
use Rattle.model_bus.specs.Request.{Request as Heard, Kept, Entry, Carried, Idled, is_same, carried_since, idles_of}
use Rattle.model_bus.specs.Numbering.{is_above}
use Rattle.model_bus.specs.BusState.{BusState, Frame, Content, Reply, Event, ReachesPort, OtherAsks, request_of, at_port, comes, hears as model_hears, happens, new_bytes, carried_content, carried_now}
use Rattle.model_undo.specs.Line.{exchange}
use Rattle.model_bus.specs.Bytes.{is_busy_code, IsReplyOn}
use Rattle.model_bus.specs.Answering.{AreWritten}
use Rattle.model_bus.specs.Schedule.{IsLive as IsLiveThere}
use Rattle.model_bus.specs.Carried.{Outcome, Repeats, IsBusy, IsNew, kept_for, outcome, outcome_of, is_busy, log_after, reply_after, carried_after}
use Rattle.model_bus.proofs.Lists.{Grows, grows, at_end, one_more}
use Rattle.model_bus.specs.Answered.{Answered}
use Rattle.model_undo.specs.Machine.{count_of}
use Rattle.model_undo.specs.Giving.{given_by}
use Rattle.model_undo.specs.World as world
use Rattle.model_undo.specs.World.{States, World, OnBus, update}
use Rattle.bmc_core.specs.Wires.{family_answer, reply_to, answered_from, asked_from}
use Rattle.model_lab.proofs.Board.{kept_by}
use Rattle.model_lab.proofs.IsFamily.{is_family}
use Rattle.undo_plans.specs.declared.names.Names.{Names}
use Rattle.bmc_core.specs.Values.{Asks}
use Rattle.bmc_core.specs.Bytes.{heard_in, response_bytes, response_to, said, busy_on}
use Rattle.bmc_core.specs.PortSteps.{StepResult, asked_in, left_by, response_after, hears_request, turn, hears, stays}
use Rattle.bmc_core.specs.PortEvents.{answer_to}
use Rattle.model_lab.specs.ManagerSteps.{addresses, own_on}
use Rattle.model_lab.specs.ManagerEvents.{HoldsReply}
use Rattle.model_lab.specs.declared.way.Way.{Way}
use Rattle.model_lab.specs.declared.way.Way.TheVariants.{ToManager, ToOthers}
use Rattle.model_lab.specs.Lab.{LabFrame, Lab, port_does, frame_now, with_port}
use Rattle.model_lab.specs.Honest.{IsAnother}
use Rattle.bmc_core.proofs.Spelling.{are_the_models}
use Rattle.model_headline.specs.Each.{Each}
use Rattle.model_headline.specs.Tied.{own_plans, own_family, own_lines, own_wires, ipmb_bus, rules_on, requests, HoldsAsked, IsHeldBy, IsHeld, IsAnswer, EntryAnswers, IsTied, world_of, IsGivenAnswer, WorldFollows}
use Rattle.model_headline.specs.Follows.{HoldsInWorld}
use Rattle.model_headline.proofs.Each.{each_append}
use Rattle.model_headline.proofs.Frames.{all_held}
use Rattle.model_headline.proofs.Begun.{own}

-- ---- what a port replies answers what it was asked

-- a repeat gets the reply to a request of the same bytes
kept_same : (above : ℕ → ℕ → Bool) (r : Heard) (newer : List ℕ) (ks : List Kept) (Q : List ℕ → List ℕ → Type 0) (reply : List ℕ)
    → Each (λ k. Q k.request.bytes k.reply) ks → kept_for above r newer ks ≡ Some reply → Q r.bytes reply
kept_same above r newer [] Q reply all e = absurd (none-some reply e)
kept_same above r newer (k ∷ ks) Q reply all e =
    by (is_same r k.request && list_all (above k.request.number) newer) refl (kept_same above r (k.request.number ∷ newer) ks Q reply all.1) e
  where
    by : (t : Bool) → (is_same r k.request && list_all (above k.request.number) newer) ≡ t → (kept_for above r (k.request.number ∷ newer) ks ≡ Some reply → Q r.bytes reply)
        → cond t (Some k.reply) (kept_for above r (k.request.number ∷ newer) ks) ≡ Some reply → Q r.bytes reply
    by true t later e =
        let same = (and_parts (is_same r k.request) (list_all (above k.request.number) newer) t).0 in
        let bytes : r.bytes ≡ k.request.bytes = (bytes_eq-Decides r.bytes k.request.bytes).0 (and_parts ((r.requester == k.request.requester) && (r.number == k.request.number)) (bytes_eq r.bytes k.request.bytes) same).1 in
        subst (λ (b : List ℕ). Q b reply) (sym bytes) (subst (Q k.request.bytes) (same_Some k.reply reply e) all.0)
    by false t later e = later e

module _ (setup : BoardFile) (names : Names) (bus : Bus) where
  since_answers : (q : ℕ) (log : List Entry) → Each (EntryAnswers setup names bus) log → Each (IsAnswer setup names bus) (carried_since q log)
  since_answers q [] all = tt
  since_answers q (Carried k ∷ log) all =
      cond_both (k.request.requester == q) (k ∷ carried_since q log) (carried_since q log) (Each (IsAnswer setup names bus)) (λ _. (all.0, since_answers q log all.1)) (λ _. since_answers q log all.1)
  since_answers q (Idled p ∷ log) all = cond_both (p == q) [] (carried_since q log) (Each (IsAnswer setup names bus)) (λ _. tt) (λ _. since_answers q log all.1)

  -- what a repeat gets answers it
  pub repeat_answers : (above : ℕ → ℕ → Bool) (r : Heard) (log : List Entry) (reply : List ℕ) → Each (EntryAnswers setup names bus) log → outcome above r log ≡ Repeats reply
      → (a : Answered) × (reply ≡ reply_to bus r.bytes a)
  repeat_answers above r log reply all e = by (kept_for above r [] (carried_since r.requester log)) refl e
    where
      by : (o : Option (List ℕ)) → kept_for above r [] (carried_since r.requester log) ≡ o → outcome_of o (is_busy r.requester log) ≡ Repeats reply → (a : Answered) × (reply ≡ reply_to bus r.bytes a)
      by None f e = by_busy (is_busy r.requester log) e
        where
          by_busy : (t : Bool) → outcome_of None t ≡ Repeats reply → (a : Answered) × (reply ≡ reply_to bus r.bytes a)
          by_busy true e = absurd cc
          by_busy false e = absurd cc
      by (Some kept) f e =
          let same : kept ≡ reply = cc in
          subst (λ (x : List ℕ). (a : Answered) × (x ≡ reply_to bus r.bytes a)) same
          (kept_same above r [] (carried_since r.requester log) (λ b x. (a : Answered) × (x ≡ reply_to bus b a)) kept (since_answers r.requester log all) f)

-- ---- a request on IPMB

module _ (setup : BoardFile) (names : Names) (plan : List Op) (start : Records) where
  module _ (x : Lab (own_plans setup names)) (on : States (own_lines setup names)) (tied : IsTied setup names x on) (h : HoldsInWorld setup names plan start (world_of setup names x on)) (r : Request) where
    -- what the board would answer, and what a port would keep
    abbrev given : BoardAnswer × State
    given = answer_of setup x.board (asked_in r)

    abbrev kept : Kept
    kept = record { request = heard_in r; reply = answer_to setup x.board r }

    -- what is done with it
    abbrev done : Outcome
    done = outcome (is_above 64) (heard_in r) (on Ipmb).log

    abbrev deed_at : List Entry → Outcome → StepResult
    deed_at log o = record { port = record (x.ipmb) { log = log_after o kept log }; board = left_by o given.1 x.board; sent = response_after r (reply_after o kept) ∷ [] }

    turned : hears_request setup x.ipmb x.board r ≡ deed_at x.ipmb.log (outcome (is_above 64) (heard_in r) x.ipmb.log)
    unfolding hears_request turn
    turned = refl

    deed_is : hears_request setup x.ipmb x.board r ≡ deed_at (on Ipmb).log done
    deed_is = turned ∙ ap (λ (log : List Entry). deed_at log (outcome (is_above 64) (heard_in r) log)) (sym tied.ipmb_log)

    -- the port and the board go on so, and the reply is sent
    abbrev left_lab : Way → ℕ → Outcome → Lab (own_plans setup names)
    left_lab way request o = port_does (own_plans setup names) Ipmb way request (deed_at (on Ipmb).log o) x

    -- the lab, before the reply is sent
    abbrev before_sent : Outcome → Lab (own_plans setup names)
    before_sent o = with_port (own_plans setup names) Ipmb (deed_at (on Ipmb).log o).port (record x { board = (deed_at (on Ipmb).log o).board })

    log_answers : (o : Outcome) → Each (EntryAnswers setup names Ipmb) (log_after o kept (on Ipmb).log)
    log_answers (Repeats reply) = tied.answered Ipmb
    log_answers IsBusy = tied.answered Ipmb
    log_answers IsNew = ((family_answer given.0, refl), tied.answered Ipmb)

    -- the bus of the model with these changes is what the lab's is
    record Goes_on (o : Outcome) (s : BusState) : Type 0 where
      log : s.log ≡ log_after o kept (on Ipmb).log
      begun : s.begun ≡ (on Ipmb).begun
      taken : s.taken ≡ (on Ipmb).taken
      written : AreWritten Ipmb (ipmb_bus setup names) s
      more : Grows (on Ipmb).frames s.frames

    port_tied : (way : Way) (request : ℕ) (o : Outcome) (s : BusState) → Goes_on o s
        → IsHeldBy setup names way Ipmb (update (own_lines setup names) Ipmb s on) (frame_now (own_plans setup names) Ipmb way request (before_sent o) (response_after r (reply_after o kept)))
        → IsTied setup names (left_lab way request o) (update (own_lines setup names) Ipmb s on)
    port_tied way request o s g held = record {
      named = tied.named;
      ipmb_wire = tied.ipmb_wire;
      smbus_wire = tied.smbus_wire;
      ipmb_log = g.log;
      smbus_port = tied.smbus_port;
      waits = tied.waits;
      alone = tied.alone;
      counted = by (λ any b. count_of any x.manager.machine.counts ≡ length b.taken) tied.counted (tied.counted Ipmb ∙ ap (λ (l : List (List ℕ)). length l) (sym g.taken));
      written = by (λ any b. AreWritten any (rules_on setup names any) b) tied.written g.written;
      answered = by (λ any b. Each (EntryAnswers setup names any) b.log) tied.answered (subst (Each (EntryAnswers setup names Ipmb)) (sym g.log) (log_answers o));
      made = tied.made;
      frames = each_append (IsHeld setup names (update (own_lines setup names) Ipmb s on)) x.frames (frame_now (own_plans setup names) Ipmb way request (before_sent o) (response_after r (reply_after o kept)) ∷ [])
          (all_held setup names on (update (own_lines setup names) Ipmb s on) x.frames (by (λ any b. Grows (requests setup names on any).frames b.frames) (λ any n f e. e) g.more) tied.frames) (held, tt);
      opened = tied.opened;
    }
      where
        by : (Q : Bus → BusState → Type 0) → ((any : Bus) → Q any (requests setup names on any)) → Q Ipmb s → (any : Bus) → Q any (requests setup names (update (own_lines setup names) Ipmb s on) any)
        by Q all here Ipmb = here
        by Q all here Smbus = all Smbus

    -- ---- another requester asks

    abbrev asks : Event
    asks = OtherAsks (heard_in r) (answer_to setup x.board r)

    abbrev other_on : BusState
    other_on = record (on Ipmb) { log = log_after done kept (on Ipmb).log }

    records_stay : (o : Outcome) → is_changing (asked_in r) ≡ false → (left_by o given.1 x.board).records ≡ x.board.records
    records_stay (Repeats reply) quiet = refl
    records_stay IsBusy quiet = refl
    records_stay IsNew quiet = keeps_records setup x.board (asked_in r) given.0 given.1 quiet (has_answer setup x.board (asked_in r))

    stagings_stay : (o : Outcome) → is_changing (asked_in r) ≡ false → (left_by o given.1 x.board).activity.stagings ≡ x.board.activity.stagings
    stagings_stay (Repeats reply) quiet = refl
    stagings_stay IsBusy quiet = refl
    stagings_stay IsNew quiet = keeps_stagings setup x.board (asked_in r) given.0 given.1 quiet (has_answer setup x.board (asked_in r))

    other_asks : is_changing (asked_in r) ≡ false → r.header.requester.address ≢ names.own_address
        → WorldFollows setup names x on (left_lab ToOthers 0 done)
    other_asks quiet another = record {
      happenings = OnBus Ipmb asks (left_by done given.1 x.board) ∷ [];
      left = update (own_lines setup names) Ipmb other_on on;
      may = (((tt, another), refl, kept_by setup (addresses names) x.board (left_by done given.1 x.board) (records_stay done quiet) (stagings_stay done quiet)), tt);
      reaches = refl;
      gives = tt;
      tied = port_tied ToOthers 0 done other_on
          (record { log = refl; begun = refl; taken = refl; written = record { requests = (tied.written Ipmb).requests; replies = (tied.written Ipmb).replies }; more = λ n f e. e }) tt;
    }

    -- a request of another comes to the port, if it goes to its address
    pub other_goes : is_changing (asked_in r) ≡ false → IsAnother Ipmb x.manager.names r.header.requester.address
        → WorldFollows setup names x on (port_does (own_plans setup names) Ipmb ToOthers 0 (hears setup x.ipmb x.board (Asks r)) x)
    other_goes quiet another = by (r.header.responder.address == x.ipmb.wire)
      where
        there : r.header.requester.address ≢ names.own_address
        there e = another.0 (e ∙ ap (λ n. n.own_address) (sym tied.named))

        nothing : WorldFollows setup names x on (port_does (own_plans setup names) Ipmb ToOthers 0 (stays x.ipmb x.board) x)
        nothing = record {
          happenings = [];
          left = on;
          may = tt;
          reaches = refl;
          gives = tt;
          tied = record {
            named = tied.named;
            ipmb_wire = tied.ipmb_wire;
            smbus_wire = tied.smbus_wire;
            ipmb_log = tied.ipmb_log;
            smbus_port = tied.smbus_port;
            waits = tied.waits;
            alone = tied.alone;
            counted = tied.counted;
            written = tied.written;
            answered = tied.answered;
            made = tied.made;
            frames = each_append (IsHeld setup names on) x.frames [] tied.frames tt;
            opened = tied.opened;
          };
        }

        by : (t : Bool) → WorldFollows setup names x on (port_does (own_plans setup names) Ipmb ToOthers 0 (cond t (hears_request setup x.ipmb x.board r) (stays x.ipmb x.board)) x)
        by true = subst (λ d. WorldFollows setup names x on (port_does (own_plans setup names) Ipmb ToOthers 0 d x)) (sym deed_is) (other_asks quiet there)
        by false = nothing

    -- ---- the manager asks

    module _ (f : LabFrame) (hold : HoldsAsked setup names (on Ipmb).frames f) (live : IsLiveThere (ipmb_bus setup names) (on Ipmb) hold.frame) (same : hold.request ≡ r) where
      abbrev reaches_port : Event
      reaches_port = ReachesPort hold.which (answer_to setup x.board r)

      -- the model's bus after it
      abbrev model_after : BusState
      model_after = model_hears (ipmb_bus setup names) hold.frame.request kept (on Ipmb)

      heard_so : heard_in r ≡ request_of (ipmb_bus setup names) hold.frame.request hold.bytes
      heard_so = ap heard_in (sym same) ∙ hold.heard

      bytes_so : (heard_in r).bytes ≡ hold.bytes
      bytes_so = ap (λ (q : Heard). q.bytes) heard_so

      read_so : asked_from (addresses names) Ipmb hold.bytes ≡ asked_in r
      read_so = hold.read ∙ ap asked_in same

      responds : (a : Answered) → response_bytes (response_to r a) ≡ reply_to Ipmb hold.bytes a
      responds a = ap (λ (q : Request). response_bytes (response_to q a)) (sym same) ∙ hold.responds a

      happens_so : happens (ipmb_bus setup names) (on Ipmb) reaches_port ≡ model_after
      happens_so =
          ap (λ (o : Option Frame). at_port (ipmb_bus setup names) (answer_to setup x.board r) o (on Ipmb)) hold.is_of.sent
          ∙ ap (λ (c : Content). comes (ipmb_bus setup names) (answer_to setup x.board r) hold.frame.request c (on Ipmb)) hold.asks
          ∙ ap (λ (q : Heard). model_hears (ipmb_bus setup names) hold.frame.request (record { request = q; reply = answer_to setup x.board r }) (on Ipmb)) (sym heard_so)

      not_busy : is_busy_code given.0.code ≡ false
      not_busy = (is_family setup (own setup names)).never_busy x.board given.1 (asked_in r) (family_answer given.0) (has_answer setup x.board (asked_in r))

      kept_answers : IsReplyOn Ipmb given.0.code kept.request.bytes kept.reply
      kept_answers = subst (λ (b : List ℕ). IsReplyOn Ipmb given.0.code b (reply_to Ipmb b (family_answer given.0))) (sym bytes_so) (are_the_models.reply Ipmb hold.number hold.bytes (family_answer given.0) hold.spelled)

      replies_in : (o : Outcome) (n : ℕ) (k : Kept) → slice_get (carried_after o kept (on Ipmb).carried) n ≡ Some k → (code : ℕ) × (is_busy_code code ≡ false) × IsReplyOn Ipmb code k.request.bytes k.reply
      replies_in (Repeats reply) n k e = (tied.written Ipmb).replies n k e
      replies_in IsBusy n k e = (tied.written Ipmb).replies n k e
      replies_in IsNew n k e = elim (one_more (on Ipmb).carried kept n k e) [
        | inl old ↦ (tied.written Ipmb).replies n k old
        | inr new ↦ subst (λ (q : Kept). (code : ℕ) × (is_busy_code code ≡ false) × IsReplyOn Ipmb code q.request.bytes q.reply) new.1 (given.0.code, not_busy, kept_answers)
      ]

      goes_on : Goes_on done model_after
      goes_on = record {
        log = refl;
        begun = refl;
        taken = refl;
        written = record { requests = (tied.written Ipmb).requests; replies = replies_in done };
        more = grows (on Ipmb).frames (record { request = hold.frame.request; idles = idles_of names.own_address (log_after done kept (on Ipmb).log); content = Reply kept.request.number (reply_after done kept) } ∷ []);
      }

      -- the response says what the model's frame holds
      says : (o : Outcome) → outcome (is_above 64) (heard_in r) (on Ipmb).log ≡ o
          → HoldsReply Ipmb (response_bytes (response_to r (answered_from Ipmb (said Ipmb (heard_in r) (reply_after o kept))))) (Reply kept.request.number (reply_after o kept))
      says (Repeats reply) e =
          let a = repeat_answers setup names Ipmb (is_above 64) (heard_in r) (on Ipmb).log reply (tied.answered Ipmb) e in
          let is : reply ≡ reply_to Ipmb hold.bytes a.0 = a.1 ∙ ap (λ (b : List ℕ). reply_to Ipmb b a.0) bytes_so in
          ap (λ (b : List ℕ). response_bytes (response_to r (answered_from Ipmb b))) a.1 ∙ responds a.0 ∙ sym is
      says IsBusy e = (
        (busy_on Ipmb).code,
        hold.bytes,
        refl,
        subst (λ (b : List ℕ). IsReplyOn Ipmb (busy_on Ipmb).code hold.bytes b) (sym (responds (busy_on Ipmb))) (are_the_models.reply Ipmb hold.number hold.bytes (busy_on Ipmb) hold.spelled),
      )
      says IsNew e = responds (family_answer given.0) ∙ ap (λ (b : List ℕ). reply_to Ipmb b (family_answer given.0)) (sym bytes_so)

      held_reply : IsHeldBy setup names ToManager Ipmb (update (own_lines setup names) Ipmb model_after on) (frame_now (own_plans setup names) Ipmb ToManager f.request (before_sent done) (response_after r (reply_after done kept)))
      held_reply = record {
        which = length (on Ipmb).frames;
        frame = record { request = hold.frame.request; idles = idles_of names.own_address (log_after done kept (on Ipmb).log); content = Reply kept.request.number (reply_after done kept) };
        is_of = record {
          sent = at_end (on Ipmb).frames _;
          request = hold.is_of.request;
          idles = ap (λ n. idles_of (own_on Ipmb n) (log_after done kept (on Ipmb).log)) (sym tied.named);
        };
        response = response_to r (answered_from Ipmb (said Ipmb (heard_in r) (reply_after done kept)));
        value = refl;
        held = says done refl;
        answers = and_from (r.header.requester.address == names.own_address) (r.header.responder.address == names.peer_address)
            (eq-eqb _ _ (ap (λ (q : Request). q.header.requester.address) (sym same) ∙ hold.from_manager)) (eq-eqb _ _ (ap (λ (q : Request). q.header.responder.address) (sym same) ∙ hold.to_port));
      }

      honest_there : ((own_lines setup names) Ipmb).IsHonest (on Ipmb) reaches_port
      honest_there = subst (λ o. IfSome o (IsLiveThere (ipmb_bus setup names) (on Ipmb))) (sym hold.is_of.sent) live

      carried_so : ((own_lines setup names) Ipmb).carries (on Ipmb) reaches_port ≡ exchange (new_bytes done hold.bytes) (answer_to setup x.board r)
      carried_so =
          ap (λ (o : Option Frame). exchange (carried_now (ipmb_bus setup names) o (on Ipmb)) (answer_to setup x.board r)) hold.is_of.sent
          ∙ ap (λ (c : Content). exchange (carried_content (ipmb_bus setup names) hold.frame.request c (on Ipmb)) (answer_to setup x.board r)) hold.asks
          ∙ ap (λ (q : Heard). exchange (new_bytes (outcome (is_above 64) q (on Ipmb).log) hold.bytes) (answer_to setup x.board r)) (sym heard_so)

      board_may : (o : Outcome) → world.BoardMay (own_family setup names) (own_lines setup names) (own_wires setup names) Ipmb (exchange (new_bytes o hold.bytes) (answer_to setup x.board r)) x.board (left_by o given.1 x.board)
      board_may (Repeats reply) = (refl, λ series bodies ready. ready)
      board_may IsBusy = (refl, λ series bodies ready. ready)
      board_may IsNew = (
        family_answer given.0,
        ap (λ (b : List ℕ). reply_to Ipmb b (family_answer given.0)) bytes_so,
        subst (λ a. (own_family setup names).Row x.board a (family_answer given.0) given.1) (sym read_so) (has_answer setup x.board (asked_in r)),
      )

      -- the answer is the lab's
      gave : (o : Outcome) → Each (IsGivenAnswer setup names x (left_lab ToManager f.request o))
          (given_by (own_family setup names) (own_lines setup names) (own_wires setup names) Ipmb (exchange (new_bytes o hold.bytes) (answer_to setup x.board r)) x.board (left_by o given.1 x.board) ++ [])
      gave (Repeats reply) = tt
      gave IsBusy = tt
      gave IsNew = (
        record {
          before = refl;
          answers = record {
            bus = Ipmb;
            kept = kept;
            carried = ap (λ (log : List Entry). Carried kept ∷ log) tied.ipmb_log;
            from_manager = ap (λ (q : Heard). q.requester) heard_so;
            asks = ap (asked_from (addresses names) Ipmb) bytes_so;
            replies = refl;
            row = subst (λ a. (own_family setup names).Row x.board a (family_answer given.0) given.1) (sym read_so) (has_answer setup x.board (asked_in r));
          };
        },
        tt,
      )

      manager_asks : WorldFollows setup names x on (left_lab ToManager f.request done)
      manager_asks = record {
        happenings = OnBus Ipmb reaches_port (left_by done given.1 x.board) ∷ [];
        left = update (own_lines setup names) Ipmb model_after on;
        may = (((tt, honest_there), refl, subst (λ o. world.BoardMay (own_family setup names) (own_lines setup names) (own_wires setup names) Ipmb o x.board (left_by done given.1 x.board)) (sym carried_so) (board_may done)), tt);
        reaches = ap (λ (s : BusState). let w : World (own_family setup names) (own_lines setup names) = record { machine = x.manager.machine; on = update (own_lines setup names) Ipmb s on; board = left_by done given.1 x.board } in w) happens_so;
        gives = subst (λ o. Each (IsGivenAnswer setup names x (left_lab ToManager f.request done)) (given_by (own_family setup names) (own_lines setup names) (own_wires setup names) Ipmb o x.board (left_by done given.1 x.board) ++ [])) (sym carried_so) (gave done);
        tied = port_tied ToManager f.request done model_after goes_on held_reply;
      }

      -- a frame of the manager comes to the port on IPMB
      pub asked_goes : WorldFollows setup names x on (port_does (own_plans setup names) Ipmb ToManager f.request (hears setup x.ipmb x.board (Asks r)) x)
      asked_goes =
          let there : (r.header.responder.address == x.ipmb.wire) ≡ true = eq-eqb _ _ (ap (λ (q : Request). q.header.responder.address) (sym same) ∙ hold.to_port ∙ sym tied.ipmb_wire) in
          subst (λ (t : Bool). WorldFollows setup names x on (port_does (own_plans setup names) Ipmb ToManager f.request (cond t (hears_request setup x.ipmb x.board r) (stays x.ipmb x.board)) x)) (sym there)
          (subst (λ d. WorldFollows setup names x on (port_does (own_plans setup names) Ipmb ToManager f.request d x)) (sym deed_is) manager_asks)
