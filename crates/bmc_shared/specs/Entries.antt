-- The lists of events and of calls, as they lie.
use Rattle.std.specs.Prelude.{◌≡◌, ◌+◌, ◌-◌, ◌*◌, ◌≤◌, ℕ, List, [], map, take, drop}
use Rattle.two_wire.specs.Sizes.{most_ipmi_request_data, most_pldm_request_data, most_pldm_reply_data}
use Rattle.record_base.specs.declared.message.Asked.TheVariants.{Ipmi, Pldm}
use Rattle.bmc_board.specs.declared.asked_ref.AskedRef.{AskedRef}
use Rattle.bmc_board.specs.Asking.{as_asked}
use Rattle.bmc_shared.specs.declared.event.Call.{Call}
use Rattle.bmc_shared.specs.declared.event.Call.TheVariants.{Exchanged, Benched}
use Rattle.bmc_shared.specs.declared.event.Event.{Event}
use Rattle.bmc_shared.specs.declared.entry.Head.{Head}
use Rattle.bmc_shared.specs.declared.entry.Head.TheVariants.{IpmiAsked, PldmAsked, Happened}
use Rattle.bmc_shared.specs.declared.entry.Mark.{Mark}

-- a call, by its head and the bytes of its request and its reply
abbrev pub call_of : Head → List ℕ → List ℕ → Call
call_of (IpmiAsked from net_fn lun command code) request reply = Exchanged (Ipmi from net_fn lun command request) (record { code = code; body = reply })
call_of (PldmAsked from kind command code) request reply = Exchanged (Pldm from kind command request) (record { code = code; body = reply })
call_of (Happened bench answered) request reply = Benched bench answered

-- the call of a request, and of the reply of this code and data
abbrev pub exchanged : AskedRef → ℕ → List ℕ → Call
exchanged asked code body = Exchanged (as_asked asked) (record { code = code; body = body })

-- how many bytes a request has at most, by its head
abbrev pub most_request : Head → ℕ
most_request (IpmiAsked from net_fn lun command code) = most_ipmi_request_data
most_request (PldmAsked from kind command code) = most_pldm_request_data
most_request (Happened bench answered) = most_pldm_request_data

-- the events of a list in order, and how many it has places for
pub record EventList : Type 0 where
  pub items : List Event
  pub room : ℕ

-- the calls of a list in order, and how many it has places for
pub record CallList : Type 0 where
  pub items : List Call
  pub room : ℕ

-- an empty list that has places for so many calls
abbrev pub IsBlank : ℕ → CallList → Type 0
IsBlank room list = (list.items ≡ []) × (list.room ≡ room)

-- the bytes from one place on, up to another
abbrev pub between : ℕ → ℕ → List ℕ → List ℕ
between from to bytes = take (to - from) (drop from bytes)

-- the event of a mark, whose bytes lie among these
abbrev pub event_of : List ℕ → Mark → Event
event_of bytes mark = record {
  seat = mark.seat;
  call = call_of mark.head (between mark.request mark.reply bytes) (between mark.reply mark.end bytes);
}

-- a mark's request and its reply lie among so many bytes, and neither is longer than a message of its kind
pub record EntryLies (bytes : ℕ) (mark : Mark) : Type 0 where
  pub request : mark.request ≤ mark.reply
  pub reply : mark.reply ≤ mark.end
  pub within : mark.end ≤ bytes
  pub short_request : mark.reply ≤ mark.request + most_request mark.head
  pub short_reply : mark.end ≤ mark.reply + most_pldm_reply_data

-- the most bytes that an event has
abbrev pub most_event : ℕ
most_event = most_pldm_request_data + most_pldm_reply_data

-- of the room for so many events, each with its longest bytes, so many marks and bytes are written
pub record HasRoom (room marked for_marks written for_bytes : ℕ) : Type 0 where
  pub few : marked ≤ room
  pub marks_fit : room ≤ for_marks
  pub short : written ≤ most_event * marked
  pub bytes_fit : most_event * room ≤ for_bytes

-- the calls of events, in order
abbrev pub calls_in : List Event → List Call
calls_in events = map (λ (event : Event). event.call) events
