-- Bytes that are no frame come to both ends of a bus: nothing changes, and nothing is sent.
use Rattle.std.proofs.Common.{◌≡◌, ℕ, Bool, true, false, ◌++◌, [], List, find, Option, Some, None, Err, refl, sym, ◌∙◌, ap, subst, option_map}
use Rattle.std.specs.List.{AllZip}
use Rattle.std.specs.Option.{is_none}
use Rattle.std.specs.Prelude.{if◌then◌else◌}
use Rattle.std.proofs.lemmas.Bool.{true≢false}
use Rattle.std.proofs.lemmas.Option.{none-some}
use Rattle.std.proofs.lemmas.List.{append-nil}
use Rattle.two_wire.specs.declared.Bus.{Bus}
use Rattle.two_wire.specs.declared.Bus.TheVariants as bus
use Rattle.ipmb_frame.specs.declared.message.Response.{Response}
use Rattle.ipmb_frame.specs.declared.message.Msg.TheVariants as msg
use Rattle.ipmb_frame.specs.Grammar.{IsResponse}
use Rattle.ipmb_frame.specs.Fault.{has_fault as has_frame_fault, faults as frame_faults}
use Rattle.ipmb_frame.proofs.Whole.{message-no_fault}
use Rattle.mctp_net.specs.declared.packet.Packet.{Packet}
use Rattle.mctp_net.specs.Grammar.{IsPacket, has_fault as has_packet_fault, faults as packet_faults}
use Rattle.mctp_net.proofs.PacketLaws.{packet-whole}
use Rattle.cfg_records.specs.declared.board_file.BoardFile.{BoardFile}
use Rattle.bmc_board.specs.State.{state_of}
use Rattle.bmc_core.specs.Values.{IsFrameOn}
use Rattle.bmc_core.specs.PortSteps.{PortState, stays}
use Rattle.model_lab.specs.declared.way.Way.{Way}
use Rattle.model_lab.specs.Lab.{LabFrame, Noise, Lab as LabModel, port_on, with_port, with_frames}
use Rattle.model_lab.specs.declared.fault.Fault.TheVariants.{Forged}
use Rattle.model_lab.specs.Faults.{is_frame, fault_of}
use Rattle.model_lab.specs.Played.{plans}
use Rattle.bmc_core.specs.declared.out.Out.{Out}
use Rattle.bmc_core.specs.declared.out.Reason.TheVariants as reason
use Rattle.bmc_core.specs.declared.out.Disposition.TheVariants as done
use Rattle.bmc_core.specs.Outs.{sent}
use Rattle.bmc_core.specs.IpmbShown as ipmb
use Rattle.bmc_core.specs.SmbusShown as smbus
use Rattle.undo_core.specs.declared.manager.Manager.{Manager}
use Rattle.undo_core.specs.declared.sending.Sent.{Sent}
use Rattle.lab_run.specs.declared.lab_state.Lab.{Lab}
use Rattle.lab_run.specs.Shown.{Represents}
use Rattle.lab_run.specs.Hearing.{HasHeard, IgnoresFrame}
use Rattle.lab_run.proofs.PortSide.{Stays, ipmb_here, ipmb_shown, smbus_here, smbus_shown}

-- there is one
some_of : {A : Type 0} (o : Option A) → is_none o ≡ false → (a : A) × (o ≡ Some a)
some_of (Some a) is = (a, refl)
some_of None is = absurd (true≢false is)

-- ---- the port

module _ (file : BoardFile) (old new : Lab) (x : LabModel plans) (shows : Represents file old x) (bytes : List ℕ) where
  abbrev HeardOnIpmb : Type 0
  HeardOnIpmb = ipmb.PortStep old.board.setup old.ipmb (state_of old.board) bytes new.out new.ipmb (state_of new.board)

  abbrev HeardOnSmbus : Type 0
  HeardOnSmbus = (p : PortState) → smbus.Represents old.smbus p
      → smbus.HearsBytes old.board.setup p (state_of old.board) bytes new.smbus new.out (state_of new.board)

  pub ipmb_noise : Stays old new → new.smbus ≡ old.smbus → HeardOnIpmb → is_frame bus.Ipmb bytes ≡ false → HasHeard file bus.Ipmb x (stays x.ipmb x.board) new
  ipmb_noise still other hearing noise =
      let fault = some_of (find (has_frame_fault bytes) frame_faults) noise in
      let did = ipmb_here file old new x shows still bytes hearing x.ipmb shows.ipmb (Err (reason.Frame fault.0)) fault.1 in
      record {
        shows = ipmb_shown file old new x shows still (stays x.ipmb x.board) other did.shows did.left (record { idles = λ q. refl; wire = refl });
        out = record { frames = ap sent did.sent; read = subst (λ (frames : List (List ℕ)). AllZip (IsFrameOn bus.Ipmb) [] frames) (sym (ap sent did.sent)) tt };
      }

  pub ipmb_ignores : HeardOnIpmb → is_frame bus.Ipmb bytes ≡ false → IgnoresFrame bus.Ipmb bytes new.out.done
  ipmb_ignores hearing noise =
      let fault = some_of (find (has_frame_fault bytes) frame_faults) noise in
      let did = hearing x.ipmb shows.ipmb (Err (reason.Frame fault.0)) fault.1 in
      ap (λ f. option_map done.Ignored (option_map reason.Frame f)) fault.1 ∙ ap (λ (o : Out). Some o.done) (sym did.sent)

  pub smbus_noise : Stays old new → new.ipmb ≡ old.ipmb → HeardOnSmbus → is_frame bus.Smbus bytes ≡ false → HasHeard file bus.Smbus x (stays x.smbus x.board) new
  smbus_noise still other hearing noise =
      let fault = some_of (find (has_packet_fault bytes) packet_faults) noise in
      let did = (smbus_here file old new x shows still bytes hearing).faulty fault.0 fault.1 in
      record {
        shows = smbus_shown file old new x shows still (stays x.smbus x.board) other did.shows did.left (record { idles = λ q. refl; wire = refl });
        out = record { frames = ap sent did.sent; read = subst (λ (frames : List (List ℕ)). AllZip (IsFrameOn bus.Smbus) [] frames) (sym (ap sent did.sent)) tt };
      }

  pub smbus_ignores : HeardOnSmbus → is_frame bus.Smbus bytes ≡ false → IgnoresFrame bus.Smbus bytes new.out.done
  smbus_ignores hearing noise =
      let fault = some_of (find (has_packet_fault bytes) packet_faults) noise in
      let did = (hearing x.smbus shows.smbus).faulty fault.0 fault.1 in
      ap (λ f. option_map done.Ignored (option_map reason.Packet f)) fault.1 ∙ ap (λ (o : Out). Some o.done) (sym did.sent)

-- a port that stays as it is sends nothing
same_frames : (x : LabModel plans) → (let y : LabModel plans = record x { frames = x.frames ++ [] } in y) ≡ x
same_frames x = ap (λ (fs : List LabFrame). let y : LabModel plans = record x { frames = fs } in y) (append-nil x.frames)

pub none_sent : (on : Bus) (way : Way) (request : ℕ) (x : LabModel plans)
    → with_frames plans on way request [] (with_port plans on (port_on plans on x) (record x { board = x.board })) ≡ x
none_sent bus.Ipmb way request x = same_frames x
none_sent bus.Smbus way request x = same_frames x

-- ---- the manager

pub deaf : (on : Bus) (bytes : List ℕ) (old new : Manager) (sent : Option Sent) → is_frame on bytes ≡ false
    → (on ≡ bus.Ipmb → ((r : Response) → IsResponse r bytes → ⊥) → (new ≡ old) × (sent ≡ None))
    → (on ≡ bus.Smbus → ((p : Packet) → IsPacket p bytes → ⊥) → (new ≡ old) × (sent ≡ None)) → (new ≡ old) × (sent ≡ None)
deaf bus.Ipmb bytes old new sent noise no_response no_packet = no_response refl (λ r is.
    let fault = some_of (find (has_frame_fault bytes) frame_faults) noise in
    let no : Some fault.0 ≡ None = sym fault.1 ∙ message-no_fault (msg.Response r) bytes is in cc no)
deaf bus.Smbus bytes old new sent noise no_response no_packet = no_packet refl (λ p is.
    let fault = some_of (find (has_packet_fault bytes) packet_faults) noise in
    let no : Some fault.0 ≡ None = sym fault.1 ∙ packet-whole p bytes is in cc no)

-- ---- noise that a lab takes

pub is_no_frame : (on : Bus) (bytes : List ℕ) (x : LabModel plans) → fault_of plans x (Noise on bytes) ≡ None → is_frame on bytes ≡ false
is_no_frame on bytes x none = by (is_frame on bytes) none
  where
    by : (b : Bool) → (if b then Some Forged else None) ≡ None → b ≡ false
    by true is = absurd (none-some _ (sym is))
    by false is = refl
