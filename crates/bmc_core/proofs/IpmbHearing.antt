-- What is heard in bytes is one thing.
use Rattle.std.proofs.Common.{◌≡◌, ◌≢◌, ℕ, Bool, List, Some, None, find, Result, Ok, Err, if◌then◌else◌, refl, sym, ◌∙◌, ap}
use Rattle.std.specs.Prelude.{◌==◌}
use Rattle.std.proofs.lemmas.Bool.{eq-eqb, ne_eqb}
use Rattle.ipmb_frame.specs.declared.fault.FrameFault.{FrameFault}
use Rattle.ipmb_frame.specs.declared.message.Request.{Request}
use Rattle.ipmb_frame.specs.declared.message.Msg.{Msg}
use Rattle.ipmb_frame.specs.declared.message.Msg.TheVariants as msg
use Rattle.ipmb_frame.specs.Fault.{has_fault, faults}
use Rattle.ipmb_frame.specs.Grammar.{IsMessage}
use Rattle.ipmb_frame.proofs.Uniqueness.{message-one}
use Rattle.ipmb_frame.proofs.Whole.{message-no_fault}
use Rattle.bmc_core.specs.declared.out.Reason.{Reason}
use Rattle.bmc_core.specs.declared.out.Reason.TheVariants as reason
use Rattle.bmc_core.specs.IpmbHeard.{goes_to, IsHeard}

-- what the bytes are: a message, or else their first fault
abbrev IsRead : List ℕ → Result Msg FrameFault → Type 0
IsRead bytes (Ok m) = IsMessage m bytes
IsRead bytes (Err fault) = find (has_fault bytes) faults ≡ Some fault

one_read : (bytes : List ℕ) (a b : Result Msg FrameFault) → IsRead bytes a → IsRead bytes b → a ≡ b
one_read bytes (Ok m) (Ok n) first second = ap Ok (message-one m n bytes first second)
one_read bytes (Ok m) (Err fault) first second = let none : find (has_fault bytes) faults ≡ None = message-no_fault m bytes first in cc
one_read bytes (Err fault) (Ok m) first second = let none : find (has_fault bytes) faults ≡ None = message-no_fault m bytes second in cc
one_read bytes (Err f) (Err g) first second = let same : f ≡ g = cc in ap Err same

-- what is heard where they are this
abbrev heard_by : ℕ → Result Msg FrameFault → Result Request Reason
heard_by wire (Err fault) = Err (reason.Frame fault)
heard_by wire (Ok (msg.Request r)) = if r.header.responder.address == wire then Ok r else Err reason.NotOurs
heard_by wire (Ok (msg.Response r)) = if r.header.requester.address == wire then Err reason.NotRequest else Err reason.NotOurs

-- what is heard is heard in what the bytes are
abbrev Reads : ℕ → List ℕ → Result Request Reason → Type 0
Reads wire bytes heard = (read : Result Msg FrameFault) × IsRead bytes read × (heard ≡ heard_by wire read)

not_ours : (wire : ℕ) (m : Msg) → goes_to m ≢ wire → Err reason.NotOurs ≡ heard_by wire (Ok m)
not_ours wire (msg.Request r) away = sym (ap (λ (b : Bool). let h : Result Request Reason = if b then Ok r else Err reason.NotOurs in h) (ne_eqb r.header.responder.address wire away))
not_ours wire (msg.Response r) away = sym (ap (λ (b : Bool). let h : Result Request Reason = if b then Err reason.NotRequest else Err reason.NotOurs in h) (ne_eqb r.header.requester.address wire away))

reads : (wire : ℕ) (bytes : List ℕ) (heard : Result Request Reason) → IsHeard wire bytes heard → Reads wire bytes heard
reads wire bytes (Ok r) is = (
  Ok (msg.Request r),
  is.0,
  sym (ap (λ (b : Bool). let h : Result Request Reason = if b then Ok r else Err reason.NotOurs in h) (eq-eqb r.header.responder.address wire is.1)),
)
reads wire bytes (Err (reason.Frame fault)) is = (Err fault, is, refl)
reads wire bytes (Err reason.NotOurs) is = (Ok is.0, is.1, not_ours wire is.0 is.2)
reads wire bytes (Err reason.NotRequest) is = (
  Ok (msg.Response is.0),
  is.1,
  sym (ap (λ (b : Bool). let h : Result Request Reason = if b then Err reason.NotRequest else Err reason.NotOurs in h) (eq-eqb is.0.header.requester.address wire is.2)),
)
reads wire bytes (Err (reason.Packet fault)) is = absurd is
reads wire bytes (Err (reason.Dropped cause)) is = absurd is
reads wire bytes (Err reason.MessageType) is = absurd is
reads wire bytes (Err (reason.Pldm fault)) is = absurd is

pub one_heard : (wire : ℕ) (bytes : List ℕ) (a b : Result Request Reason) → IsHeard wire bytes a → IsHeard wire bytes b → a ≡ b
one_heard wire bytes a b first second =
    let one = reads wire bytes a first in
    let other = reads wire bytes b second in
    one.2 ∙ ap (heard_by wire) (one_read bytes one.0 other.0 one.1 other.1) ∙ sym other.2
