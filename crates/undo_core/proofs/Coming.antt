-- What comes of bytes that a manager hears, and of a call of `quiet`.
use Rattle.std.specs.Prelude.{Result, Ok, Err, IfOk}
use Rattle.std.proofs.Common.{◌≡◌, ℕ, List, Option, refl}
use Rattle.two_wire.specs.declared.Bus.{Bus}
use Rattle.two_wire.specs.declared.Bus.TheVariants.{Ipmb, Smbus}
use Rattle.ipmb_frame.specs.declared.fault.FrameFault.{FrameFault}
use Rattle.ipmb_frame.specs.declared.message.Response.{Response}
use Rattle.ipmb_frame.specs.declared.message.Msg.{Msg}
use Rattle.ipmb_frame.specs.declared.message.Msg.TheVariants as msg
use Rattle.ipmb_frame.specs.Grammar.{IsMessage}
use Rattle.mctp_net.specs.declared.packet.Packet.{Packet}
use Rattle.mctp_net.specs.declared.fault.PacketFault.{PacketFault}
use Rattle.mctp_net.specs.Grammar.{IsPacket}
use Rattle.undo_plans.specs.declared.names.Names.{Names}
use Rattle.bmc_core.specs.Values.{Value, Asks, Tells, Part, IsFrameOn}
use Rattle.model_lab.specs.ManagerSteps.{ManagerState, board_plans, rests, manager_hears}
use Rattle.undo_core.specs.declared.manager.Manager.{Manager}
use Rattle.undo_core.specs.declared.sending.Sent.{Sent}
use Rattle.undo_core.specs.Shown.{IsStepResult}
use Rattle.undo_core.specs.Course.{Hears, InputResult}
use Rattle.undo_core.proofs.Exchange.{one_value}

module _ (names : Names) (s : ManagerState (board_plans names)) (m : Manager) (sent : Option Sent) where
  -- of a value's frame
  pub value_comes : (on : Bus) (bytes : List ℕ) (v : Value) → IsFrameOn on v bytes → IsStepResult names m sent (manager_hears (board_plans names) v s) → InputResult names (Hears on bytes) s m sent
  value_comes on bytes v is does = record {
    deed = manager_hears (board_plans names) v s;
    is = record {
      frame = λ w other i. manager_hears (board_plans names) (one_value on v w bytes is other i) s;
      none = λ none. absurd (none v is);
    };
    does = does;
  }

  -- of bytes that are no frame
  pub nothing_comes : (on : Bus) (bytes : List ℕ) → ((v : Value) → ¬ IsFrameOn on v bytes) → IsStepResult names m sent (rests (board_plans names) s) → InputResult names (Hears on bytes) s m sent
  nothing_comes on bytes none does = record {
    deed = rests (board_plans names) s;
    is = record { frame = λ v is. absurd (none v is); none = λ _. refl };
    does = does;
  }

  -- of bytes that are no message
  no_message : (bytes : List ℕ) (fault : FrameFault) → ((message : Msg) → IsMessage message bytes → Err fault ≡ Ok message) → (v : Value) → ¬ IsFrameOn Ipmb v bytes
  no_message bytes fault whole (Asks r) is = let both : Err fault ≡ Ok (msg.Request r) = whole (msg.Request r) is in cc both
  no_message bytes fault whole (Tells r) is = let both : Err fault ≡ Ok (msg.Response r) = whole (msg.Response r) is in cc both
  no_message bytes fault whole (Part p) is = is

  -- of bytes on IPMB that are read as no response
  pub no_response_comes : (bytes : List ℕ) (read : Result Msg FrameFault) → IfOk read (λ message. IsMessage message bytes) → ((message : Msg) → IsMessage message bytes → read ≡ Ok message)
      → ((r : Response) → read ≡ Ok (msg.Response r) → ⊥) → IsStepResult names m sent (rests (board_plans names) s) → InputResult names (Hears Ipmb bytes) s m sent
  no_response_comes bytes (Ok (msg.Request r)) is whole other does = value_comes Ipmb bytes (Asks r) is does
  no_response_comes bytes (Ok (msg.Response r)) is whole other does = absurd (other r refl)
  no_response_comes bytes (Err fault) is whole other does = nothing_comes Ipmb bytes (no_message bytes fault whole) does

  -- of bytes on SMBus that are read as no packet
  pub no_packet_comes : (bytes : List ℕ) (fault : PacketFault) → ((p : Packet) → IsPacket p bytes → Err fault ≡ Ok p) → IsStepResult names m sent (rests (board_plans names) s)
      → InputResult names (Hears Smbus bytes) s m sent
  no_packet_comes bytes fault whole does = nothing_comes Smbus bytes none does
    where
      none : (v : Value) → ¬ IsFrameOn Smbus v bytes
      none (Part p) is = let both : Err fault ≡ Ok p = whole p is in cc both
      none (Asks r) is = is
      none (Tells r) is = is
