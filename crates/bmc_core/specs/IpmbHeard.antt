-- What a port on IPMB hears in bytes, apart from any board (IPMB 1.0, message formats).
use Rattle.std.specs.Prelude.{◌≡◌, ◌≢◌, ℕ, List, find, Some, Result, Ok, Err}
use Rattle.ipmb_frame.specs.declared.message.Request.{Request}
use Rattle.ipmb_frame.specs.declared.message.Response.{Response}
use Rattle.ipmb_frame.specs.declared.message.Msg.{Msg}
use Rattle.ipmb_frame.specs.declared.message.Msg.TheVariants as msg
use Rattle.ipmb_frame.specs.Fault.{has_fault, faults}
use Rattle.ipmb_frame.specs.Grammar.{IsMessage, IsRequest, IsResponse}
use Rattle.bmc_core.specs.declared.out.Reason.{Reason}
use Rattle.bmc_core.specs.declared.out.Reason.TheVariants.{Frame, NotOurs, NotRequest}

-- the address that a message goes to
abbrev pub goes_to : Msg → ℕ
goes_to (msg.Request request) = request.header.responder.address
goes_to (msg.Response response) = response.header.requester.address

-- A port at this address hears nothing in the bytes, for the reason: their first fault; or they are a message to another address; or they are a
-- response to this address.
abbrev pub IsIgnored : ℕ → List ℕ → Reason → Type 0
IsIgnored wire bytes (Frame fault) = find (has_fault bytes) faults ≡ Some fault
IsIgnored wire bytes NotOurs = (message : Msg) × IsMessage message bytes × (goes_to message ≢ wire)
IsIgnored wire bytes NotRequest = (response : Response) × IsResponse response bytes × (response.header.requester.address ≡ wire)
IsIgnored wire bytes _ = ⊥

-- what a port at the address hears in the bytes: a request to the address, or nothing, for a reason
abbrev pub IsHeard : ℕ → List ℕ → Result Request Reason → Type 0
IsHeard wire bytes (Ok request) = IsRequest request bytes × (request.header.responder.address ≡ wire)
IsHeard wire bytes (Err why) = IsIgnored wire bytes why

-- it hears at most one thing in them
abbrev pub HearsAtMostOne : ℕ → List ℕ → Type 0
HearsAtMostOne wire bytes = (one other : Result Request Reason) → IsHeard wire bytes one → IsHeard wire bytes other → one ≡ other
