-- The requests of a look set nothing.
use Rattle.std.proofs.Common.{◌≡◌, inl, inr, ℕ, zero, suc, ◌+◌, ◌*◌, ◌/◌, Bool, true, false, List, length, Option, Some, None, refl, ◌∙◌, ap, subst, arith}
use Rattle.std.specs.Prelude.{◌==◌, ◌&&◌, nat_le, if◌then◌else◌}
use Rattle.std.proofs.lemmas.Bool.{cond_both}
use Rattle.std.proofs.lemmas.Option.{same_Some}
use Rattle.record_base.specs.declared.key.Key.{Key}
use Rattle.record_base.specs.declared.key.Key.TheVariants as key
use Rattle.record_base.specs.declared.message.Asked.{Asked}
use Rattle.record_base.specs.declared.message.Asked.TheVariants.{Ipmi, Pldm}
use Rattle.cfg_records.specs.declared.board_file.BoardFile.{BoardFile}
use Rattle.mctp_net.specs.declared.message.Message.{Message}
use Rattle.mctp_net.specs.declared.taken.DropCause.{DropCause}
use Rattle.mctp_net.specs.Assembly.{drop_cause, after as kept_after}
use Rattle.pldm_base.specs.declared.message.PldmRequest.{PldmRequest}
use Rattle.pldm_base.specs.Message.{header_in}
use Rattle.pldm_base.specs.Parts.{part_length}
use Rattle.bios_attr.specs.EntryParts.{get_part}
use Rattle.record_kinds.specs.Limits.{get_asked}
use Rattle.bmc_board.specs.State.{State}
use Rattle.bmc_board.specs.Answer.{answer_of, reply}
use Rattle.bmc_board.specs.Decode.{sent_by, asked_from}
use Rattle.bmc_board.specs.Table.{is_changing}
use Rattle.bmc_board.proofs.FromAnyone.{is_read_from_all}
use Rattle.bmc_board.proofs.Decoded.{gets_are_read}
use Rattle.model_bus.specs.Carried.{Outcome, Repeats, IsBusy, IsNew, outcome}
use Rattle.model_bus.specs.Numbering.{is_above}
use Rattle.bmc_core.specs.Values.{IsFrameOn}
use Rattle.bmc_core.specs.Bytes.{heard_in, pldm_heard_in}
use Rattle.bmc_core.specs.PortSteps.{PortState, StepResult, asked_in, left_by, stays, turn, hears_request, hears_pldm, hears_message, ends_message, hears_part, hears}
use Rattle.undo_plans.specs.declared.names.Names.{Names}
use Rattle.undo_plans.specs.declared.undo_list.NextNumbers.{NextNumbers}
use Rattle.undo_look.specs.declared.target.TablePart.{TablePart}
use Rattle.undo_look.specs.declared.target.TablePart.TheVariants as part
use Rattle.undo_look.specs.declared.target.Target.TheVariants.{Record}
use Rattle.undo_look.specs.Targets.{part_request}
use Rattle.undo_look.specs.Requests.{IsLookFrame, bus_of, envelope_at, get_at, packet_of, request_of}
use Rattle.model_headline.specs.LookRequests.{IsOfLook, look_value, LooksSetNothing}

-- ---- what a board does

module _ (setup : BoardFile) (before : State) (from : ℕ) where
  -- the request leaves the board what it was
  abbrev Leaves : Asked → Type 0
  Leaves asked = (answer_of setup before (sent_by from asked)).1 ≡ before

  first_leaves : (of : Key) → Leaves (get_asked of)
  first_leaves of = ap (λ r. (reply setup before r).1) (is_read_from_all from (get_asked of) ∙ ap (asked_from from) (gets_are_read of).is_read)

  part_leaves : (handle transfer : ℕ) → Leaves (get_part handle transfer)
  part_leaves handle transfer = refl

  get_leaves : (of : Key) (part : ℕ) (asked : Asked) → get_at (Record of) part ≡ Some asked → Leaves asked
  get_leaves of zero asked is = subst Leaves (same_Some (get_asked of) asked is) (first_leaves of)
  get_leaves (key.BiosAttribute handle) (suc part) asked is =
      subst Leaves (same_Some (get_part handle (part_length * suc part)) asked is) (part_leaves handle (part_length * suc part))
  get_leaves _ (suc part) asked is = let both : None ≡ Some asked = is in cc both

  -- the request leaves each record what it was
  abbrev LeavesRecords : Asked → Type 0
  LeavesRecords asked = (answer_of setup before (sent_by from asked)).1.records ≡ before.records

  table_leaves : (of : TablePart) → LeavesRecords (part_request of)
  table_leaves part.Reservation = refl
  table_leaves (part.SensorRecord reservation id offset count) = refl
  table_leaves (part.Bios table transfer) = refl

  look_leaves : (asked : Asked) → IsOfLook asked → LeavesRecords asked
  look_leaves asked (inl (of, part, is)) = ap (λ (s : State). s.records) (get_leaves of part asked is)
  look_leaves asked (inr (of, is)) = subst LeavesRecords is (table_leaves of)

-- ---- its command

first_quiet : (of : Key) (from : ℕ) → is_changing (sent_by from (get_asked of)) ≡ false
first_quiet (key.Thresholds sensor) from = refl
first_quiet (key.Hysteresis sensor) from = refl
first_quiet (key.EventEnable sensor) from = refl
first_quiet key.PowerPolicy from = refl
first_quiet key.Watchdog from = refl
first_quiet key.GlobalEnables from = refl
first_quiet (key.BootParam parameter) from = refl
first_quiet (key.NumericEffecter id) from = refl
first_quiet (key.StateEffecter id) from = refl
first_quiet (key.UserName user) from = refl
first_quiet (key.UserAccess on) from = refl
first_quiet (key.ChannelAccess at) from = refl
first_quiet (key.BiosAttribute handle) from = refl
first_quiet (key.LanParam on) from = refl

get_quiet : (of : Key) (part : ℕ) (asked : Asked) (from : ℕ) → get_at (Record of) part ≡ Some asked → is_changing (sent_by from asked) ≡ false
get_quiet of zero asked from is = subst (λ (a : Asked). is_changing (sent_by from a) ≡ false) (same_Some (get_asked of) asked is) (first_quiet of from)
get_quiet (key.BiosAttribute handle) (suc part) asked from is =
    subst (λ (a : Asked). is_changing (sent_by from a) ≡ false) (same_Some (get_part handle (part_length * suc part)) asked is) refl
get_quiet _ (suc part) asked from is = let both : None ≡ Some asked = is in cc both

table_quiet : (of : TablePart) (from : ℕ) → is_changing (sent_by from (part_request of)) ≡ false
table_quiet part.Reservation from = refl
table_quiet (part.SensorRecord reservation id offset count) from = refl
table_quiet (part.Bios table transfer) from = refl

look_quiet : (asked : Asked) (from : ℕ) → IsOfLook asked → is_changing (sent_by from asked) ≡ false
look_quiet asked from (inl (of, part, is)) = get_quiet of part asked from is
look_quiet asked from (inr (of, is)) = subst (λ (a : Asked). is_changing (sent_by from a) ≡ false) is (table_quiet of from)

-- ---- what a port does

-- what stays of a board: all of it, or its records
module _ {X : Type 0} (of_board : State → X) (setup : BoardFile) (before : State) where
  abbrev Stays : StepResult → Type 0
  Stays done = of_board done.board ≡ of_board before

  turn_stays : (o : Outcome) (after : State) → of_board after ≡ of_board before → of_board (left_by o after before) ≡ of_board before
  turn_stays (Repeats reply) after same = refl
  turn_stays IsBusy after same = refl
  turn_stays IsNew after same = same

  module _ (port : PortState) (names : Names) (next : NextNumbers) where
    request_stays : (net_fn lun command : ℕ) (body : List ℕ) → of_board (answer_of setup before (Ipmi names.own_address net_fn lun command body)).1 ≡ of_board before
        → Stays (hears_request setup port before (request_of names next.ipmb net_fn lun command body))
    unfolding hears_request turn
    request_stays net_fn lun command body leaves =
        let request = request_of names next.ipmb net_fn lun command body in
        turn_stays (outcome (is_above 64) (heard_in request) port.log) (answer_of setup before (asked_in request)).1 leaves

    module _ (kind command : ℕ) (body : List ℕ) (leaves : of_board (answer_of setup before (Pldm names.own_eid kind command body)).1 ≡ of_board before) where
      -- the message that the packet is
      abbrev message : Message
      message = record { envelope = envelope_at names next.smbus; body = (packet_of names next.smbus kind command body).payload }

      -- the request that it is, if it is one
      abbrev read : PldmRequest
      read = record { header = header_in (128 + next.smbus) kind command; body = body }

      pldm_stays : (at : PortState) (is_one : Bool) → Stays (hears_pldm setup at before message (if is_one then Some read else None))
      unfolding turn
      pldm_stays at true = turn_stays (outcome (is_above 32) (pldm_heard_in names.own_eid read) at.log) (answer_of setup before (Pldm names.own_eid kind command body)).1 leaves
      pldm_stays at false = refl

      message_stays : (at : PortState) → Stays (hears_message setup at before message)
      unfolding hears_message
      message_stays at = pldm_stays at ((128 + next.smbus) / 64 == 2 && kind / 64 == 0 && nat_le (length body) 252)

      ends_stays : (at : PortState) (cause : Option DropCause) → Stays (ends_message setup at before (packet_of names next.smbus kind command body) cause)
      ends_stays at (Some cause) = refl
      ends_stays at None = message_stays at

      part_stays : Stays (hears_part setup port before (packet_of names next.smbus kind command body))
      unfolding hears_part
      part_stays =
          let packet = packet_of names next.smbus kind command body in
          ends_stays (record port { kept = kept_after port.eid port.kept packet }) (drop_cause port.eid port.kept packet)

    left_as_it_was : (asked : Asked) → ((from : ℕ) → of_board (answer_of setup before (sent_by from asked)).1 ≡ of_board before) → Stays (hears setup port before (look_value names next asked))
    left_as_it_was (Ipmi from net_fn lun command body) leaves =
        cond_both (names.peer_address == port.wire) (hears_request setup port before (request_of names next.ipmb net_fn lun command body)) (stays port before) Stays
        (λ _. request_stays net_fn lun command body (leaves names.own_address)) (λ _. refl)
    left_as_it_was (Pldm from kind command body) leaves =
        cond_both (names.peer_wire == port.wire) (hears_part setup port before (packet_of names next.smbus kind command body)) (stays port before) Stays
        (λ _. part_stays kind command body (leaves names.own_eid)) (λ _. refl)

frame_is : (names : Names) (next : NextNumbers) (asked : Asked) (bytes : List ℕ) → IsLookFrame names next asked bytes → IsFrameOn (bus_of asked) (look_value names next asked) bytes
frame_is names next (Ipmi from net_fn lun command body) bytes is = is
frame_is names next (Pldm from kind command body) bytes is = (0, omega arith, is)

pub looks_set_nothing : LooksSetNothing
looks_set_nothing = record {
  same = λ setup before asked from is. get_leaves setup before from is.0 is.1 asked is.2;
  records = λ setup before asked from is. look_leaves setup before from asked is;
  quiet = λ asked from is. look_quiet asked from is;
  frame = λ names next asked bytes look is. frame_is names next asked bytes is;
  left = λ setup port before names next asked is.
      left_as_it_was (λ (s : State). s) setup before port names next asked (λ (from : ℕ). get_leaves setup before from is.0 is.1 asked is.2);
  records_left = λ setup port before names next asked is.
      left_as_it_was (λ (s : State). s.records) setup before port names next asked (λ (from : ℕ). look_leaves setup before from asked is);
}
