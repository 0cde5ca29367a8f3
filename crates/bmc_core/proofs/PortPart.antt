-- What comes to the lab's port leaves the log of the model.
use Rattle.std.proofs.Common.{◌≡◌, ℕ, ◌%◌, ◌/◌, ◌≤◌, Bool, true, false, cond, ◌&&◌, List, [], ◌∷◌, length, Option, Some, None, refl, sym, ap, subst, arith}
use Rattle.std.specs.Prelude.{◌==◌, nat_le}
use Rattle.std.specs.Option.{option_map}
use Rattle.std.proofs.lemmas.Bool.{eqb-true, le-leb}
use Rattle.mctp_net.specs.declared.message.Message.{Message}
use Rattle.mctp_net.specs.Control.{Request as ControlRequest, request_of as control_request_of}
use Rattle.pldm_base.specs.declared.message.PldmRequest.{PldmRequest}
use Rattle.pldm_base.specs.Message.{request_in as pldm_request_in}
use Rattle.cfg_records.specs.declared.board_file.BoardFile.{BoardFile}
use Rattle.model_bus.specs.Request.{Request as Heard, Entry}
use Rattle.model_bus.specs.Numbering.{is_above}
use Rattle.model_bus.specs.Carried.{log_with, HeardRequest}
use Rattle.model_bus.specs.Bytes.{request_in, pldm_request}
use Rattle.bmc_board.specs.State.{State}
use Rattle.bmc_core.specs.Bytes.{pldm_heard_in}
use Rattle.bmc_core.specs.PortSteps.{PortState, StepResult, turn, stays, hears_control, hears_pldm, hears_typed, hears_message}
use Rattle.bmc_core.specs.PortEvents.{pldm_answer_to, message_answer_to}

-- ---- what a message is read as

-- the request of the model that a PLDM request from this endpoint is
abbrev heard_as : ℕ → Option PldmRequest → Option Heard
heard_as from o = option_map (pldm_heard_in from) o

fields_alike : (a b c d : Bool) (h : Heard) (r : PldmRequest) → d ≡ true → (from : ℕ) → pldm_heard_in from r ≡ h
    → (let none : Option Heard = None in cond (a && (b && c)) (Some h) none) ≡ (let none : Option Heard = None in cond a (heard_as from (let no : Option PldmRequest = None in cond (c && b && d) (Some r) no)) none)
fields_alike false b c d h r short from same = refl
fields_alike true false false d h r short from same = refl
fields_alike true false true d h r short from same = refl
fields_alike true true false d h r short from same = refl
fields_alike true true true false h r short from same = absurd cc
fields_alike true true true true h r short from same = ap (λ (x : Heard). Some x) (sym same)

nothing_read : (a : Bool) → (let none : Option Heard = None in none) ≡ (let none : Option Heard = None in cond a none none)
nothing_read true = refl
nothing_read false = refl

-- the model reads the request that PLDM has, in a message of at most 256 bytes
reads-alike : (from kind : ℕ) (rest : List ℕ) → length (kind ∷ rest) ≤ 256
    → request_in from (kind ∷ rest) ≡ (let none : Option Heard = None in cond (kind == 1) (heard_as from (pldm_request_in rest)) none)
reads-alike from kind [] fits = nothing_read (kind == 1)
reads-alike from kind (flags ∷ []) fits = nothing_read (kind == 1)
reads-alike from kind (flags ∷ pldm_type ∷ []) fits = nothing_read (kind == 1)
reads-alike from kind (flags ∷ pldm_type ∷ command ∷ body) fits =
    let few : length body ≤ 252 = omega (arith, fits) in
    fields_alike (kind == 1) (pldm_type / 64 == 0) (flags / 64 == 2) (nat_le (length body) 252)
    (record { requester = from; number = flags % 32; bytes = pldm_request (record { pldm_type = pldm_type; command = command }) (flags % 32) body })
    (record { header = record { instance = flags % 32; pldm_type = pldm_type; command = command }; body = body })
    (le-leb _ _ few) from refl

-- ---- what a message leaves

-- the request that the model reads in a message
abbrev pub read_in : Message → Option Heard
read_in m = let none : Option Heard = None in cond m.envelope.tag_owner (request_in m.envelope.source_eid m.body) none

-- the log after the port heard a request, if it did
abbrev pub log_if : List ℕ → Option Heard → List Entry → List Entry
log_if answer None log = log
log_if answer (Some r) log = log_with (is_above 32) (HeardRequest (record { request = r; reply = answer })) log

module _ (setup : BoardFile) (port : PortState) (before : State) (m : Message) where
  -- the log is this, and what waits is what waited
  pub record Leaves (log : List Entry) (d : StepResult) : Type 0 where
    pub logged : d.port.log ≡ log
    pub kept : d.port.kept ≡ port.kept

  control : (o : Option ControlRequest) → Leaves port.log (hears_control port before m o)
  control None = record { logged = refl; kept = refl }
  control (Some r) = record { logged = refl; kept = refl }

  pldm : (o : Option PldmRequest) → Leaves (log_if (pldm_answer_to setup before m.envelope.source_eid o) (heard_as m.envelope.source_eid o) port.log) (hears_pldm setup port before m o)
  unfolding turn
  pldm None = record { logged = refl; kept = refl }
  pldm (Some r) = record { logged = refl; kept = refl }

  -- by its type
  typed : (kind : ℕ) (rest : List ℕ) (zero one : Bool) → (kind == 0) ≡ zero → (kind == 1) ≡ one
      → Leaves (log_if (pldm_answer_to setup before m.envelope.source_eid (pldm_request_in rest)) (let none : Option Heard = None in cond one (heard_as m.envelope.source_eid (pldm_request_in rest)) none) port.log)
      (cond zero (hears_control port before m (control_request_of m.body)) (cond one (hears_pldm setup port before m (pldm_request_in rest)) (stays port before)))
  typed kind rest true true e f = absurd (let zero : kind ≡ 0 = eqb-true _ _ e in let one : kind ≡ 1 = eqb-true _ _ f in omega arith)
  typed kind rest true false e f = control (control_request_of m.body)
  typed kind rest false true e f = pldm (pldm_request_in rest)
  typed kind rest false false e f = record { logged = refl; kept = refl }

  by_body : (body : List ℕ) → m.body ≡ body → length body ≤ 256
      → Leaves (log_if (message_answer_to setup before m.envelope.source_eid body) (request_in m.envelope.source_eid body) port.log) (hears_typed setup port before m body)
  by_body [] e fits = record { logged = refl; kept = refl }
  by_body (kind ∷ rest) e fits =
      subst (λ (o : Option Heard). Leaves (log_if (pldm_answer_to setup before m.envelope.source_eid (pldm_request_in rest)) o port.log) (hears_typed setup port before m (kind ∷ rest)))
      (sym (reads-alike m.envelope.source_eid kind rest fits))
      (typed kind rest (kind == 0) (kind == 1) refl refl)

  -- a whole message leaves the log of the request that the model reads in it
  pub message-leaves : length m.body ≤ 256 → Leaves (log_if (message_answer_to setup before m.envelope.source_eid m.body) (read_in m) port.log) (hears_message setup port before m)
  unfolding hears_message
  message-leaves fits = by_owner m.envelope.tag_owner
    where
      by_owner : (b : Bool) → Leaves (log_if (message_answer_to setup before m.envelope.source_eid m.body) (let none : Option Heard = None in cond b (request_in m.envelope.source_eid m.body) none) port.log)
          (cond b (hears_typed setup port before m m.body) (stays port before))
      by_owner true = by_body m.body refl fits
      by_owner false = record { logged = refl; kept = refl }
