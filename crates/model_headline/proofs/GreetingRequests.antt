-- A greeting's requests are refused, and no manager's plan makes one.
use Rattle.std.proofs.Common.{◌≡◌, ◌≢◌, ℕ, ◌+◌, ◌*◌, ◌/◌, ◌%◌, Bool, true, false, cond, List, ◌∷◌, length, Option, Some, None, Result, Ok, Err, refl, sym, ◌∙◌, ap, subst, arith, ◌⊎◌, inl, inr}
use Rattle.std.specs.Prelude.{◌==◌, ◌&&◌, nat_le, drop, if◌then◌else◌}
use Rattle.std.specs.Option.{option_map}
use Rattle.std.proofs.lemmas.Bool.{cond_both, cond-false, cases_Bool, eqb-true, false≢true}
use Rattle.std.proofs.lemmas.Bool.Decides.{nat_tests}
use Rattle.std.proofs.lemmas.Option.{none-some, same_Some}
use Rattle.two_wire.specs.declared.Bus.{Bus}
use Rattle.two_wire.specs.declared.Bus.TheVariants.{Ipmb, Smbus}
use Rattle.record_base.specs.declared.key.Key.{Key}
use Rattle.record_base.specs.declared.key.Key.TheVariants as key
use Rattle.record_base.specs.declared.op.Op.{Op}
use Rattle.record_base.specs.declared.message.Asked.{Asked}
use Rattle.record_base.specs.declared.message.Asked.TheVariants.{Ipmi, Pldm}
use Rattle.cfg_records.specs.declared.board_file.BoardFile.{BoardFile}
use Rattle.mctp_net.specs.declared.message.Message.{Message}
use Rattle.mctp_net.specs.declared.taken.DropCause.{DropCause}
use Rattle.mctp_net.specs.Assembly.{drop_cause, after as kept_after}
use Rattle.pldm_base.specs.declared.message.PldmRequest.{PldmRequest}
use Rattle.pldm_base.specs.Message.{request_in as pldm_request_in}
use Rattle.pldm_base.specs.Parts.{part_length}
use Rattle.bios_attr.specs.EntryParts.{is_in_parts, request_at as request_of_place, part_at, alone_at, first_request, get_part, goes_on, last_of}
use Rattle.record_kinds.specs.Limits.{set_asked}
use Rattle.record_kinds.specs.Series.{Series, Reads, set_whole, first_of, next_after}
use Rattle.bmc_board.specs.Request.{Request, PartOfSet, ipmi_refusals, asked_at, asked_by}
use Rattle.bmc_board.specs.Table.{line_of, is_changing}
use Rattle.bmc_board.specs.State.{State}
use Rattle.bmc_board.specs.Answer.{answer_of}
use Rattle.bmc_board.specs.Decode.{sent_by, asked_from}
use Rattle.bmc_board.proofs.FromAnyone.{is_read_from_all}
use Rattle.bmc_board.proofs.Decoded.{gets_are_read, sets_are_read}
use Rattle.bmc_board.proofs.SeriesFacts.{parts_are_read, sets_begin}
use Rattle.model_bus.specs.Carried.{Outcome, Repeats, IsBusy, IsNew, outcome}
use Rattle.model_bus.specs.Numbering.{ipmb, smbus, is_above}
use Rattle.model_bus.proofs.NumberLaws.{ipmb_numbers, smbus_numbers, ipmb_greeting, smbus_greeting}
use Rattle.model_bus.proofs.Greeting.{greeting_forgets}
use Rattle.bmc_core.specs.Wires.{bytes_of}
use Rattle.bmc_core.specs.Values.{IsFrameOn}
use Rattle.bmc_core.specs.Bytes.{heard_in, pldm_heard_in}
use Rattle.bmc_core.specs.PortSteps.{PortState, StepResult, asked_in, left_by, stays, turn, hears_request, hears_pldm, hears_message, ends_message, hears_part, hears}
use Rattle.undo_plans.specs.declared.names.Names.{Names}
use Rattle.undo_plans.specs.GreetingRequests.{request_at, packet_at, envelope_at, message_at, greeting_data, IsGreetingFrame}
use Rattle.model_headline.specs.GreetingRequests.{greeting_asked, pldm_request_at, greeting_value, refused_for_length, GreetingsSetNothing, IsOfPlan, IsOneOf, NoPlanGreets, greeting_heard, GreeterFreshens}

-- ---- what a board does

board_refuses : (setup : BoardFile) (before : State) (on : Bus) (from : ℕ) → answer_of setup before (greeting_asked on from) ≡ refused_for_length on before
board_refuses setup before Ipmb from = refl
board_refuses setup before Smbus from = refl

-- ---- what a port does

-- the message is read as the request of its count
message_is_read : (count : ℕ) → pldm_request_in (drop 1 (message_at count)) ≡ Some (pldm_request_at count)
message_is_read count =
    let first : ℕ = 128 + count % 32 in
    let marks : (first / 64 == 2) ≡ true = grind (arith, nat_tests) in
    let number : first % 32 ≡ count % 32 = omega arith in
    λ i. if marks i && 0 / 64 == 0 && nat_le 4 252 then Some (record { header = record { instance = number i; pldm_type = 0; command = 2 }; body = greeting_data }) else None

module _ (setup : BoardFile) (before : State) where
  abbrev Stays : StepResult → Type 0
  Stays done = done.board ≡ before

  turn_stays : (o : Outcome) (after : State) → after ≡ before → left_by o after before ≡ before
  turn_stays (Repeats reply) after same = refl
  turn_stays IsBusy after same = refl
  turn_stays IsNew after same = same

  request_stays : (port : PortState) (names : Names) (count : ℕ) → Stays (hears_request setup port before (request_at names count))
  unfolding hears_request turn
  request_stays port names count =
      let request = request_at names count in
      turn_stays (outcome (is_above 64) (heard_in request) port.log) (answer_of setup before (asked_in request)).1 (ap (λ a. a.1) (board_refuses setup before Ipmb names.own_address))

  module _ (names : Names) (count : ℕ) where
    -- the message that the packet is
    abbrev message : Message
    message = record { envelope = envelope_at names count; body = message_at count }

    pldm_stays : (port : PortState) → Stays (hears_pldm setup port before message (Some (pldm_request_at count)))
    unfolding turn
    pldm_stays port =
        let heard = pldm_heard_in names.own_eid (pldm_request_at count) in
        turn_stays (outcome (is_above 32) heard port.log) (answer_of setup before (greeting_asked Smbus names.own_eid)).1 (ap (λ a. a.1) (board_refuses setup before Smbus names.own_eid))

    message_stays : (port : PortState) → Stays (hears_message setup port before message)
    unfolding hears_message
    message_stays port = subst (λ (o : Option PldmRequest). Stays (hears_pldm setup port before message o)) (sym (message_is_read count)) (pldm_stays port)

    ends_stays : (port : PortState) (c : Option DropCause) → Stays (ends_message setup port before (packet_at names count) c)
    ends_stays port (Some cause) = refl
    ends_stays port None = message_stays port

    part_stays : (port : PortState) → Stays (hears_part setup port before (packet_at names count))
    unfolding hears_part
    part_stays port =
        let packet = packet_at names count in
        ends_stays (record port { kept = kept_after port.eid port.kept packet }) (drop_cause port.eid port.kept packet)

  left_as_it_was : (port : PortState) (names : Names) (on : Bus) (count : ℕ) → Stays (hears setup port before (greeting_value names on count))
  left_as_it_was port names Ipmb count =
      cond_both (names.peer_address == port.wire) (hears_request setup port before (request_at names count)) (stays port before) Stays (λ _. request_stays port names count) (λ _. refl)
  left_as_it_was port names Smbus count =
      cond_both (names.peer_wire == port.wire) (hears_part setup port before (packet_at names count)) (stays port before) Stays (λ _. part_stays names count port) (λ _. refl)

frame_is : (names : Names) (on : Bus) (count : ℕ) (bytes : List ℕ) → IsGreetingFrame names on count bytes → IsFrameOn on (greeting_value names on count) bytes
frame_is names Ipmb count bytes is = is
frame_is names Smbus count bytes is = (0, omega arith, is)

is_quiet : (on : Bus) (from : ℕ) → is_changing (greeting_asked on from) ≡ false
is_quiet Ipmb from = refl
is_quiet Smbus from = refl

pub greetings_set_nothing : GreetingsSetNothing
greetings_set_nothing = record {
  refused = board_refuses;
  quiet = is_quiet;
  frame = frame_is;
  read = message_is_read;
  left = λ setup port before. left_as_it_was setup before port;
}

-- ---- what a plan makes

-- a controller reads the request, and doesn't refuse it for what it is
abbrev is_read : Result Request ℕ → Bool
is_read (Ok request) = true
is_read (Err code) = false

abbrev IsRead : Asked → Type 0
IsRead asked = is_read (asked_by asked) ≡ true

-- whoever asks
from_anyone : (from : ℕ) (asked : Asked) → is_read (asked_by (sent_by from asked)) ≡ is_read (asked_by asked)
from_anyone from asked = ap is_read (is_read_from_all from asked) ∙ same (asked_by asked)
  where
    same : (read : Result Request ℕ) → is_read (asked_from from read) ≡ is_read read
    same (Err code) = refl
    same (Ok (PartOfSet other part)) = refl
    same (Ok _) = refl

-- a request that is alone is the whole
alone_is : (whole : Asked) (place : ℕ) (asked : Asked) → alone_at whole place ≡ Some asked → whole ≡ asked
alone_is whole place asked e = by (place == 0) e
  where
    by : (t : Bool) → cond t (Some whole) None ≡ Some asked → whole ≡ asked
    by true e = same_Some _ _ e
    by false e = absurd (none-some asked e)

-- so is one that doesn't go in parts
undivided_is : (whole : Asked) (place : ℕ) (asked : Asked) → is_in_parts whole ≡ false → request_of_place whole place ≡ Some asked → whole ≡ asked
undivided_is (Ipmi from net_fn lun command body) place asked parts e = alone_is (Ipmi from net_fn lun command body) place asked e
undivided_is (Pldm from kind command body) place asked parts e =
    alone_is (Pldm from kind command body) place asked
    (subst (λ (t : Bool). cond t (option_map (Pldm from kind command) (part_at body place)) (alone_at (Pldm from kind command body) place) ≡ Some asked) parts e)

set_part_is_read : (o : Op) (place : ℕ) (asked : Asked) → request_of_place (set_whole o) place ≡ Some asked → IsRead asked
set_part_is_read o place asked e = by (is_in_parts (set_whole o)) refl
  where
    by : (t : Bool) → is_in_parts (set_whole o) ≡ t → IsRead asked
    by true parts = sym (from_anyone 0 asked) ∙ ap is_read (parts_are_read o 0 place asked parts e)
    by false alone = subst IsRead (undivided_is (set_whole o) place asked alone e) (ap is_read (sets_are_read o).is_read)

set_is_read : (o : Op) → IsRead (first_request (set_whole o))
set_is_read o = subst IsRead (sym (sets_begin o).first) (set_part_is_read o 0 (set_asked o) (sets_begin o).in_place)

-- the parts of a record behind the first
later_is_read : (k : Key) (bodies : List (List ℕ)) (asked : Asked) → next_after (Reads k) bodies ≡ Some asked → IsRead asked
later_is_read (key.BiosAttribute handle) bodies asked e = by (goes_on (length bodies) (last_of bodies)) e
  where
    by : (t : Bool) → cond t (Some (get_part handle (part_length * length bodies))) None ≡ Some asked → IsRead asked
    by true e = subst IsRead (same_Some _ _ e) refl
    by false e = absurd (none-some asked e)
later_is_read _ bodies asked e = absurd (none-some asked e)

first_is_read : (series : Series) → IsOfPlan series → IsRead (first_of series)
first_is_read series (inl is) = subst (λ (s : Series). IsRead (first_of s)) (sym is.1) (ap is_read (gets_are_read is.0).is_read)
first_is_read series (inr is) = subst (λ (s : Series). IsRead (first_of s)) (sym is.1) (set_is_read is.0)

next_is_read : (series : Series) (bodies : List (List ℕ)) (asked : Asked) → IsOfPlan series → next_after series bodies ≡ Some asked → IsRead asked
next_is_read series bodies asked (inl is) e = later_is_read is.0 bodies asked (subst (λ (s : Series). next_after s bodies ≡ Some asked) is.1 e)
next_is_read series bodies asked (inr is) e = set_part_is_read is.0 (length bodies) asked (subst (λ (s : Series). next_after s bodies ≡ Some asked) is.1 e)

made_is_read : (series : Series) (asked : Asked) → IsOfPlan series → IsOneOf series asked → IsRead asked
made_is_read series asked is (inl first) = subst IsRead (sym first) (first_is_read series is)
made_is_read series asked is (inr next) = next_is_read series next.0 asked is next.1

-- equal lists begin with one byte, and go on alike
head_same : {x y : ℕ} {xs ys : List ℕ} → x ∷ xs ≡ y ∷ ys → x ≡ y
head_same e = cc

tail_same : {x y : ℕ} {xs ys : List ℕ} → x ∷ xs ≡ y ∷ ys → xs ≡ ys
tail_same e = cc

-- logical unit 0 alone is read
unit_is_read : (sender net_fn lun command : ℕ) (body : List ℕ) → IsRead (Ipmi sender net_fn lun command body) → lun ≡ 0
unit_is_read sender net_fn lun command body read = by (cases_Bool (lun == 0))
  where
    by : ((lun == 0) ≡ true) ⊎ ((lun == 0) ≡ false) → lun ≡ 0
    by (inl t) = eqb-true _ _ t
    by (inr f) = absurd (false≢true (sym (ap is_read (cond-false (lun == 0) (asked_at sender ipmi_refusals (line_of net_fn command) body) (Err 0xC2) f)) ∙ read))

-- a request that is read has no greeting's bytes
not_greeting : (asked : Asked) → IsRead asked → (on : Bus) (number other from : ℕ) → bytes_of number asked ≢ bytes_of other (greeting_asked on from)
not_greeting (Ipmi sender net_fn lun command body) read Ipmb number other from same =
    let zero_unit = unit_is_read sender net_fn lun command body read in
    let first : 4 * net_fn + lun ≡ 4 * 6 + 0 = head_same same in
    let function : net_fn ≡ 6 = omega arith in
    let rest = tail_same (tail_same same) in
    let whole : Ipmi sender net_fn lun command body ≡ Ipmi sender 6 0 1 greeting_data = λ i. Ipmi sender (function i) (zero_unit i) (head_same rest i) (tail_same rest i) in
    false≢true (subst IsRead whole read)
not_greeting (Pldm sender kind command body) read Ipmb number other from same = let first : 1 ≡ 4 * 6 + 0 = head_same same in omega arith
not_greeting (Ipmi sender net_fn lun command body) read Smbus number other from same =
    let zero_unit = unit_is_read sender net_fn lun command body read in
    let first : 4 * net_fn + lun ≡ 1 = head_same same in
    omega arith
not_greeting (Pldm sender kind command body) read Smbus number other from same =
    let rest = tail_same (tail_same same) in
    let more = tail_same rest in
    let whole : Pldm sender kind command body ≡ Pldm sender 0 2 greeting_data = λ i. Pldm sender (head_same rest i) (head_same more i) (tail_same more i) in
    false≢true (subst IsRead whole read)

pub no_plan_greets : NoPlanGreets
no_plan_greets series asked is one manager on number other from =
    not_greeting (sent_by manager asked) (from_anyone manager asked ∙ made_is_read series asked is one) on number other from

-- ---- what it makes of the window

pub greeter_freshens : GreeterFreshens
greeter_freshens names Ipmb next before between answer reply one others two =
    let own = names.own_address in let peer = names.peer_address in
    (greeting_forgets (ipmb own peer next) (ipmb_numbers own peer next) 64 (ipmb_greeting own peer next)).two_freshen
    (greeting_heard names Ipmb (next + 31)).bytes (greeting_heard names Ipmb (next + 63)).bytes answer reply before between
    (record { first_heard = one; between_them = others; second_heard = two })
greeter_freshens names Smbus next before between answer reply one others two =
    let own = names.own_eid in let peer = names.peer_eid in
    (greeting_forgets (smbus own peer next) (smbus_numbers own peer next) 32 (smbus_greeting own peer next)).two_freshen
    (greeting_heard names Smbus (next + 15)).bytes (greeting_heard names Smbus (next + 31)).bytes answer reply before between
    (record { first_heard = one; between_them = others; second_heard = two })
