-- On a clean link the open request on SMBus is carried out, packet by packet, and its reply is taken.
use Rattle.std.proofs.Common.{lit<, ◌≡◌, ℕ, ◌+◌, ◌*◌, ◌%◌, ◌<◌, ◌≤◌, Bool, true, false, cond, not, ◌&&◌, List, [], ◌∷◌, length, map, Some, None, refl, sym, ◌∙◌, ap, subst, arith}
use Rattle.std.specs.Prelude.{◌==◌, nat_le, drop}
use Rattle.std.proofs.lemmas.Bool.{and_from, eq-eqb}
use Rattle.std.specs.Option.{option_map}
use Rattle.std.proofs.lemmas.Bool.Decides.{nat_tests}
use Rattle.std.proofs.lemmas.List.{length-map, length-take}
use Rattle.two_wire.specs.declared.Bus.{Bus}
use Rattle.two_wire.specs.declared.Bus.TheVariants.{Ipmb, Smbus}
use Rattle.mctp_net.specs.declared.packet.Packet.{Packet}
use Rattle.mctp_net.specs.declared.packet.Envelope.{Envelope}
use Rattle.mctp_net.specs.declared.message.Message.{Message}
use Rattle.mctp_net.specs.Cut.{piece}
use Rattle.mctp_net.specs.Assembly.{Assemblies, name_of, ComesBack}
use Rattle.pldm_base.specs.declared.message.PldmRequest.{PldmRequest}
use Rattle.pldm_base.specs.Message.{IsRequest}
use Rattle.pldm_base.proofs.InBytes.{request-in_back}
use Rattle.record_base.specs.declared.key.Key.{Key}
use Rattle.record_base.specs.declared.key.Key.TheVariants as key
use Rattle.record_base.specs.declared.op.Op.{Op}
use Rattle.record_base.specs.declared.op.Op.TheVariants as op
use Rattle.record_base.specs.declared.message.Asked.{Asked}
use Rattle.record_base.specs.declared.message.Asked.TheVariants.{Ipmi, Pldm}
use Rattle.cfg_records.specs.declared.board_file.BoardFile.{BoardFile}
use Rattle.bios_attr.specs.BiosAttribute.{op_entry}
use Rattle.bios_attr.specs.EntryParts.{entry_in, is_in_parts, set_part, part_at, first_request, request_at, alone_at}
use Rattle.pldm_base.specs.Parts.{part_length, most_whole}
use Rattle.record_kinds.specs.Limits.{get_asked}
use Rattle.record_kinds.specs.Series.{set_whole}
use Rattle.record_kinds.specs.Sound.{AreSoundRecords}
use Rattle.record_base.specs.declared.numeric_effecter.NumericBytes.{NumericBytes}
use Rattle.record_base.specs.declared.numeric_effecter.NumericBytes.TheVariants.{One, Two, Four, Other}
use Rattle.effecter_recs.specs.ChangeLaws.{two_each}
use Rattle.bmc_board.specs.State.{State}
use Rattle.bmc_board.proofs.AnswerFacts.{answers_fit}
use Rattle.model_bus.specs.Request.{Request as Heard, Entry, Carried}
use Rattle.model_bus.specs.Carried.{IsNew, outcome}
use Rattle.model_bus.specs.Numbering.{is_above}
use Rattle.model_bus.specs.BusState.{request_of}
use Rattle.model_bus.specs.PacketBus.{rules_of}
use Rattle.model_bus.specs.Bytes.{answers}
use Rattle.model_bus.proofs.NumberLaws.{smbus_numbers}
use Rattle.model_bus.specs.Answered.{Answered}
use Rattle.model_undo.specs.Words.{is_busy}
use Rattle.model_undo.specs.Wires.{number_of, IsMade}
use Rattle.model_bus.specs.Addresses.{Addresses}
use Rattle.model_undo.specs.Machine.{Task, Opened, Machine, enters, takes, reply_of, stage_after, undo_after, one_answered}
use Rattle.model_lab.specs.ManagerWords.{from_manager, manager_words}
use Rattle.model_lab.specs.Family.{answer}
use Rattle.bmc_core.specs.Wires.{bytes_of, reply_to}
use Rattle.model_lab.specs.WireLaws.{managers}
use Rattle.model_lab.proofs.Spelled.{are_spelled}
use Rattle.undo_plans.specs.declared.names.Names.{Names}
use Rattle.bmc_core.specs.Values.{Part, parts_of}
use Rattle.bmc_core.specs.Bytes.{pldm_heard_in, said}
use Rattle.bmc_core.specs.Cuts.{kept_after_parts}
use Rattle.bmc_core.specs.PortSteps.{StepResult, Turn as PortTurn, hears_message, hears_pldm, pldm_turn, pldm_asked, replies, spelled}
use Rattle.model_lab.specs.ManagerSteps.{addresses, ManagerState, ManagerStepResult, goes_on, rests, taken_or, hears_reply, is_part}
use Rattle.bmc_core.proofs.Turning.{turns_by}
use Rattle.bmc_core.proofs.Parts.{parts_are_cuts}
use Rattle.model_headline.specs.Tied.{own_plans, own_family, rules_on, smbus_bus}
use Rattle.model_headline.proofs.Series.{mapped, part_is, alone_is, IsOfAll, made_so}
use Rattle.model_headline.proofs.Sending.{made_type, from_zero}
use Rattle.model_headline.proofs.CleanQueue.{Link, port_goes, manager_goes, settles, settles_more}
use Rattle.model_headline.proofs.CleanTest.{accepts}
use Rattle.model_headline.proofs.CleanLog.{IsLogOf, none_idle, next_is_new}
use Rattle.model_headline.proofs.CleanFresh.{NoIdles, SendsNewest, sends_newest, Calm, calm_more}
use Rattle.model_headline.proofs.CleanPackets.{AreIn, closes, come_back, none_beside, dues_back, port_hears, port_calm, manager_joins, manager_calm}
use Rattle.model_headline.proofs.CleanExchange.{Rest, smbus_port, manager_with, link_at, IsClear, clear_idles, not_busy, part_of, Exchanged}

-- ---- the manager's requests on SMBus are short

abbrev IsShort : Asked → Type 0
IsShort (Ipmi from net_fn lun command body) = Unit {0}
IsShort (Pldm from kind command body) = length body ≤ 252

short_value : (id size : ℕ) (v : NumericBytes) → IsShort (set_whole (op.NumericEffecter (record { effecter = id; size = size; value = v })))
short_value id size (One a) = omega arith
short_value id size (Two a b) = omega arith
short_value id size (Four a b c d) = omega arith
short_value id size Other = omega arith

get_short : (k : Key) → IsShort (get_asked k)
get_short (key.NumericEffecter id) = omega arith
get_short (key.StateEffecter id) = omega arith
get_short (key.BiosAttribute handle) = omega arith
get_short _ = tt

-- a part is short
part_short : (entry : List ℕ) (offset : ℕ) → length (set_part entry offset) ≤ 252
part_short entry offset = let most = length-take part_length (drop offset entry) in omega (arith, most)

-- where a request goes in one piece it is short
abbrev IsShortAlone : Asked → Type 0
IsShortAlone asked = is_in_parts asked ≡ false → IsShort asked

first_short : (asked : Asked) → IsShortAlone asked → IsShort (first_request asked)
first_short (Ipmi from net_fn lun command body) short = tt
first_short (Pldm from kind command body) short = by (is_in_parts (Pldm from kind command body)) refl
  where
    by : (t : Bool) → is_in_parts (Pldm from kind command body) ≡ t → length (cond t (set_part (entry_in body) 0) body) ≤ 252
    by true t = part_short (entry_in body) 0
    by false t = short t

later_short : (asked : Asked) (place : ℕ) (next : Asked) → IsShortAlone asked → request_at asked place ≡ Some next → IsShort next
later_short (Ipmi from net_fn lun command body) place next short e = subst IsShort (alone_is (Ipmi from net_fn lun command body) place next e).1 tt
later_short (Pldm from kind command body) place next short e = by (is_in_parts (Pldm from kind command body)) refl e
  where
    by : (t : Bool) → is_in_parts (Pldm from kind command body) ≡ t → cond t (option_map (Pldm from kind command) (part_at body place)) (alone_at (Pldm from kind command body) place) ≡ Some next → IsShort next
    by true t e =
        let m = mapped (Pldm from kind command) (part_at body place) next e in
        let few : length m.0 ≤ 252 = subst (λ (part : List ℕ). length part ≤ 252) (part_is body place m.0 m.1).1 (part_short (entry_in body) (part_length * place)) in
        subst IsShort m.2 few
    by false t e = subst IsShort (alone_is (Pldm from kind command body) place next e).1 (short t)

-- an entry that goes whole has at most 205 bytes
whole_short : (entry : List ℕ) → not (nat_le (length entry) most_whole) ≡ false → length entry ≤ most_whole
whole_short entry t = grind (arith, nat_tests)

alone_short : (o : Op) → IsShortAlone (set_whole o)
alone_short (op.NumericEffecter o) whole = short_value o.effecter o.size o.value
alone_short (op.StateEffecter o) whole = omega (arith, two_each o.changes, o.few)
alone_short (op.BiosAttribute o) whole = let few = whole_short (op_entry o) whole in omega (arith, few)
alone_short _ whole = tt

from_short : (at : Bus → Addresses) (asked : Asked) → IsShort asked → IsShort (from_manager at asked)
from_short at (Ipmi from net_fn lun command body) h = tt
from_short at (Pldm from kind command body) h = h

all_short : IsOfAll IsShort
all_short = record {
  gets = get_short;
  get_parts = λ handle transfer. omega arith;
  sets = λ o. first_short (set_whole o) (alone_short o);
  set_parts = λ o place next e. later_short (set_whole o) place next (alone_short o) e;
}

made_short : (at : Bus → Addresses) (asked : Asked) → IsMade (manager_words at) asked → IsShort asked
made_short at asked made = made_so at IsShort all_short (from_short at) asked made

module _ (setup : BoardFile) (names : Names) where
  abbrev asking : ℕ → Envelope
  asking count = record { destination = names.peer_wire; source = names.own_wire; destination_eid = names.peer_eid; source_eid = names.own_eid; tag_owner = true; tag = count % 8 }

  abbrev telling : ℕ → Envelope
  telling count = record { destination = names.own_wire; source = names.peer_wire; destination_eid = names.own_eid; source_eid = names.peer_eid; tag_owner = false; tag = count % 8 }

  below_32 : (n : ℕ) → n % 32 < 32
  below_32 n = omega arith

  module _ (count from kind command : ℕ) (body : List ℕ) (made : IsMade (own_family setup names).words (Pldm from kind command body)) (b : State) where
    abbrev asked : Asked
    asked = Pldm from kind command body

    abbrev bytes : List ℕ
    bytes = bytes_of (number_of Smbus count) asked

    abbrev message : Message
    message = record { envelope = asking count; body = bytes }

    abbrev q : PldmRequest
    q = record { header = record { instance = count % 32; pldm_type = kind; command = command }; body = body }

    abbrev entry : Entry
    entry = Carried (record { request = pldm_heard_in names.own_eid q; reply = reply_to Smbus bytes (answer setup b asked).0 })

    abbrev answering : Message
    answering = record { envelope = telling count; body = reply_to Smbus bytes (answer setup b asked).0 }

    some : 0 < length bytes
    some = omega arith

    fits : length bytes ≤ 256
    fits = omega (arith, made_short (addresses names) asked made)

    reply_some : 0 < length answering.body
    reply_some = omega arith

    reply_fits : AreSoundRecords setup b.records → length answering.body ≤ 256
    reply_fits sound = omega (arith, answers_fit setup b asked sound)

    heard_is : pldm_heard_in names.own_eid q ≡ request_of (rules_of (smbus_bus setup names)) count bytes
    heard_is = ap (λ (n : ℕ). let h : Heard = record { requester = names.own_eid; number = n % 32; bytes = bytes } in h) (from_zero count)

    asked_is : pldm_asked names.own_eid q ≡ asked
    asked_is = ap (λ (n : ℕ). Pldm n kind command body) (sym (managers (addresses names) asked made))

    spells : IsRequest q ((128 + count % 32) ∷ kind ∷ command ∷ body)
    spells = (0, record { bit = lit< tt; header = record { instance = below_32 count; pldm_type = made_type (addresses names) asked made }; fits = made_short (addresses names) asked made; spelled = refl })

    module _ (kept : Assemblies) (log : List Entry) (is_log : IsLogOf (rules_on setup names Smbus) count log) where
      turn_is : pldm_turn setup (smbus_port setup names kept log) b names.own_eid q ≡ record { outcome = IsNew; log = entry ∷ log; left = (answer setup b asked).1; replied = Some (reply_to Smbus bytes (answer setup b asked).0) }
      turn_is =
          let new : outcome (is_above 32) (pldm_heard_in names.own_eid q) log ≡ IsNew = ap (λ (h : Heard). outcome (is_above 32) h log) heard_is ∙ next_is_new (rules_of (smbus_bus setup names)) (smbus_numbers names.own_eid names.peer_eid 0) count log bytes is_log in
          (turns_by (is_above 32) (pldm_heard_in names.own_eid q) (spelled Smbus (pldm_heard_in names.own_eid q)) setup (pldm_asked names.own_eid q) log b).new new
          ∙ ap (λ (a : Asked). let t : PortTurn = record { outcome = IsNew; log = Carried (record { request = pldm_heard_in names.own_eid q; reply = reply_to Smbus bytes (answer setup b a).0 }) ∷ log; left = (answer setup b a).1; replied = Some (reply_to Smbus bytes (answer setup b a).0) } in t) asked_is

      abbrev deed_of : PortTurn → StepResult
      deed_of t = record { port = smbus_port setup names kept t.log; board = t.left; sent = replies (smbus_port setup names kept log) message (said Smbus (pldm_heard_in names.own_eid q) t.replied) }

      port_answers : hears_message setup (smbus_port setup names kept log) b message ≡ record { port = smbus_port setup names kept (entry ∷ log); board = (answer setup b asked).1; sent = map Part (parts_of answering) }
      unfolding hears_message
      port_answers = ap (hears_pldm setup (smbus_port setup names kept log) b message) (request-in_back q ((128 + count % 32) ∷ kind ∷ command ∷ body) spells) ∙ ap deed_of turn_is

  -- the manager takes the reply
  module _ (joined : Assemblies) (task : Task (own_family setup names).words) (before : List (List ℕ)) (m : Machine (own_family setup names).words) (from kind command : ℕ) (body : List ℕ) (made : IsMade (own_family setup names).words (Pldm from kind command body)) (b : State) where
    abbrev wanted : Asked
    wanted = Pldm from kind command body

    abbrev open_machine : Machine (own_family setup names).words
    open_machine = record m { stage = Opened true task (part_of setup names wanted before); resent = 0 }

    abbrev given : Answered
    given = (answer setup b wanted).0

    abbrev wanted_bytes : List ℕ
    wanted_bytes = bytes_of (number_of Smbus m.counts.smbus) wanted

    abbrev manager : ManagerState (own_plans setup names)
    manager = manager_with setup names joined open_machine

    passes : answers Smbus wanted_bytes (reply_to Smbus wanted_bytes given) ≡ true
    passes = accepts Smbus given.code wanted_bytes (reply_to Smbus wanted_bytes given) (not_busy setup names b wanted) ((are_spelled (addresses names)).replies m.counts.smbus wanted given made)

    taken_is : (code : ℕ) (data_of : List ℕ) → is_busy code ≡ false
        → reply_of (own_family setup names).words (record { code = code; body = data_of }) open_machine ≡ Some (takes (own_family setup names).words (record { code = code; body = data_of }) task (part_of setup names wanted before) open_machine)
    taken_is code data_of free = ap (λ (t : Bool). cond t None (Some (takes (own_family setup names).words (record { code = code; body = data_of }) task (part_of setup names wanted before) open_machine))) free

    manager_takes : hears_reply (own_plans setup names) Smbus (reply_to Smbus wanted_bytes given) manager ≡ goes_on (own_plans setup names) manager (takes (own_family setup names).words given task (part_of setup names wanted before) open_machine)
    manager_takes =
        ap (λ (t : Bool). cond t (taken_or (own_plans setup names) manager (reply_of (own_family setup names).words given open_machine)) (rests (own_plans setup names) manager)) passes
        ∙ ap (taken_or (own_plans setup names) manager) (taken_is given.code given.body (not_busy setup names b wanted))

  at_most : (ps : List Packet) → length (map piece ps) ≤ 4 → length ps ≤ 4
  at_most ps few = let same = length-map ps piece in omega arith

  -- a packet of the reply goes to the manager, under the request's tag
  is_mine : (count : ℕ) (p : Packet) → p.envelope ≡ telling count → is_part names count p ≡ true
  is_mine count p is =
      ap (λ (e : Envelope). (e.destination == names.own_wire && e.source == names.peer_wire) && (e.source_eid == names.peer_eid && (not e.tag_owner && e.tag == count % 8))) is
      ∙ and_from _ _ (and_from _ _ (eq-eqb names.own_wire names.own_wire refl) (eq-eqb names.peer_wire names.peer_wire refl)) (and_from _ _ (eq-eqb names.peer_eid names.peer_eid refl) (and_from _ _ refl (eq-eqb (count % 8) (count % 8) refl)))

  pub smbus_exchange : (task : Task (own_family setup names).words) (from kind command : ℕ) (body : List ℕ) (before : List (List ℕ)) (m : Machine (own_family setup names).words) (b : State) (r : Rest setup names)
      → IsMade (own_family setup names).words (Pldm from kind command body) → IsClear setup names m.counts r → AreSoundRecords setup b.records → Exchanged setup names task (part_of setup names (Pldm from kind command body) before) m b r
  smbus_exchange task from kind command body before m b r made clear sound =
      let n = m.counts.smbus in
      let wanted : Asked = Pldm from kind command body in
      let part = part_of setup names wanted before in
      let l = link_at setup names (enters (own_family setup names).words (Opened true task part) m) b r in
      let ask = message n from kind command body made b in
      let tell = answering n from kind command body made b in
      let ps = parts_of ask in
      let qs = parts_of tell in
      let e = entry n from kind command body made b in
      let some_asked = some n from kind command body made b in
      let fits_asked = fits n from kind command body made b in
      let some_told = reply_some n from kind command body made b in
      let fits_told = reply_fits n from kind command body made b sound in
      let asked_in : AreIn (asking n) ps = (parts_are_cuts.cut ask some_asked fits_asked).enveloped in
      let told_in : AreIn (telling n) qs = (parts_are_cuts.cut tell some_told fits_told).enveloped in
      let comes : ComesBack names.peer_eid r.kept ps ask = come_back names.peer_eid r.kept ask some_asked fits_asked refl clear.kept in
      let goes : ComesBack names.own_eid r.joined qs tell = come_back names.own_eid r.joined tell some_told fits_told refl clear.joined in
      let kept = kept_after_parts names.peer_eid r.kept ps in
      let joined = kept_after_parts names.own_eid r.joined qs in
      let mid : Link (own_plans setup names) = record l { board = (answer setup b wanted).1; smbus = smbus_port setup names kept (e ∷ r.smbus_log); queue = dues_back qs } in
      let port : settles (own_plans setup names) setup (length ps) l ≡ mid =
      port_hears (own_plans setup names) setup ps l ask comes asked_in refl
      ∙ ap (λ (d : StepResult). port_goes (own_plans setup names) Smbus d [] l) (port_answers n from kind command body made b kept r.smbus_log clear.smbus) in
      let few_asked : length ps ≤ 4 = at_most ps (parts_are_cuts.cut ask some_asked fits_asked).cut.few in
      let few_told : length qs ≤ 4 = at_most qs (parts_are_cuts.cut tell some_told fits_told).cut.few in
      let quiet : NoIdles (own_plans setup names) mid = (λ i. (none_idle (rules_on setup names Ipmb) m.counts.ipmb r.ipmb_log i clear.ipmb, none_idle (rules_on setup names Smbus) n r.smbus_log i clear.smbus)) in
      let taken = manager_takes joined task before m from kind command body made b in
      let newest = sends_newest (own_plans setup names) (manager_with setup names joined (enters (own_family setup names).words (Opened true task part) m).machine) (stage_after (own_family setup names).words m.stopped m.plan (answer setup b wanted).0 task part)
      (record m { stage = Opened true task part; resent = 0; undo = undo_after (own_family setup names).words (answer setup b wanted).0 task part m.undo; counts = one_answered Smbus m.counts }) in
      record {
        count = length ps + length qs;
        calm = calm_more (own_plans setup names) setup (length ps) (length qs) l
            (port_calm (own_plans setup names) setup ps l ask comes asked_in refl few_asked (clear_idles setup names m.counts (enters (own_family setup names).words (Opened true task part) m) b r clear)
            (subst (λ (d : StepResult). NoIdles (own_plans setup names) (port_goes (own_plans setup names) Smbus d [] l)) (sym (port_answers n from kind command body made b kept r.smbus_log clear.smbus)) quiet))
            (subst (Calm (own_plans setup names) setup (length qs)) (sym port) (manager_calm (own_plans setup names) setup qs mid tell part refl goes told_in (is_mine n) few_told quiet (subst (SendsNewest (own_plans setup names)) (sym taken) newest)));
        few = omega (arith, few_asked, few_told);
        rest = record r { smbus_log = e ∷ r.smbus_log; kept = kept; joined = joined };
        clear = record {
          ipmb = clear.ipmb;
          smbus = (record { request = pldm_heard_in names.own_eid (q n from kind command body made b); reply = reply_to Smbus (bytes n from kind command body made b) (answer setup b wanted).0 }, r.smbus_log, refl, heard_is n from kind command body made b, clear.smbus);
          kept = closes names.peer_eid ps r.kept ask comes asked_in (none_beside r.kept (name_of (asking n)) clear.kept);
          joined = closes names.own_eid qs r.joined tell goes told_in (none_beside r.joined (name_of (telling n)) clear.joined);
        };
        is = settles_more (own_plans setup names) setup (length ps) (length qs) l
            ∙ ap (settles (own_plans setup names) setup (length qs)) port
            ∙ manager_joins (own_plans setup names) setup qs mid tell part refl goes told_in (is_mine n)
            ∙ ap (λ (d : ManagerStepResult (own_plans setup names)). manager_goes (own_plans setup names) d [] mid) taken;
      }
