-- The model's world does what a lab does at an event: the laws of single steps.
use Rattle.std.specs.Prelude.{ℕ, List}
use Rattle.two_wire.specs.declared.Bus.{Bus}
use Rattle.ipmb_frame.specs.declared.message.Request.{Request}
use Rattle.mctp_net.specs.declared.message.Message.{Message}
use Rattle.bmc_board.specs.declared.activity.Activity.{Activity}
use Rattle.record_base.specs.declared.op.Op.{Op}
use Rattle.cfg_records.specs.declared.board_file.BoardFile.{BoardFile}
use Rattle.cfg_records.specs.Records.{Records}
use Rattle.model_bus.specs.Packet.{packets_of}
use Rattle.model_bus.proofs.Cutting.{packets_cut}
use Rattle.model_undo.specs.World.{States, World}
use Rattle.model_undo.proofs.World.{WorldHolds}
use Rattle.model_undo.proofs.TwoBuses.{packet_lines}
use Rattle.model_lab.proofs.IsFamily.{is_family}
use Rattle.undo_plans.specs.declared.names.Names.{Names}
use Rattle.model_undo.specs.declared.call.Call.{Call}
use Rattle.model_lab.specs.ManagerSteps.{addresses, remade}
use Rattle.model_lab.specs.Own.{IsOwn}
use Rattle.model_lab.specs.Honest.{IsDelivered, IsHonest}
use Rattle.model_lab.specs.declared.way.Way.TheVariants.{ToPort, ToManager}
use Rattle.model_lab.specs.Lab.{Event, Calls, ToBmc, ToMgr, OtherIpmb, OtherSmbus, Noise, Idles, OnBench, Lab, step}
use Rattle.model_headline.specs.Tied.{own_plans, own_family, own_lines, own_wires, IsTied, world_of, WorldFollows}

module _ (setup : BoardFile) (names : Names) (plan : List Op) (start : Records) where
  -- what holds of the model's world at every moment
  abbrev pub HoldsInWorld : World (own_family setup names) (own_lines setup names) → Type 0
  HoldsInWorld world = WorldHolds (own_family setup names) (is_family setup (addresses names)) (own_lines setup names) (packet_lines (addresses names) packets_of packets_cut) (own_wires setup names) (λ bus. 0) plan start world

  -- The premises on an event are enough: where a lab shows a world, the lab after the event shows a world to which that world goes.
  abbrev pub IsFollowed : Lab (own_plans setup names) → Event → Type 0
  IsFollowed lab event = (on : States (own_lines setup names)) → IsTied setup names lab on → HoldsInWorld (world_of setup names lab on) → WorldFollows setup names lab on (step (own_plans setup names) setup lab event)

  -- each call of the manager is followed
  abbrev pub CallsAreFollowed : Type 0
  CallsAreFollowed = (lab : Lab (own_plans setup names)) (call : Call) → IsFollowed lab (Calls call)

  -- a restart of the manager, at any moment, is followed
  abbrev pub RestartsAreFollowed : Type 0
  RestartsAreFollowed = (lab : Lab (own_plans setup names)) (on : States (own_lines setup names)) → IsTied setup names lab on
      → WorldFollows setup names lab on (record lab { manager = remade (own_plans setup names) lab.manager })

  -- each live frame that comes to the manager is followed
  abbrev pub RepliesAreFollowed : Type 0
  RepliesAreFollowed = (lab : Lab (own_plans setup names)) (number : ℕ) → IsDelivered (own_plans setup names) ToManager lab number → IsFollowed lab (ToMgr number)

  -- each live frame of the manager that comes to the port is followed, unless it joins another request's assembly
  abbrev pub RequestsAreFollowed : Type 0
  RequestsAreFollowed = (lab : Lab (own_plans setup names)) (number : ℕ) → IsDelivered (own_plans setup names) ToPort lab number → IsOwn (own_plans setup names) lab (ToBmc number) → IsFollowed lab (ToBmc number)

  -- each honest event that isn't the manager's is followed
  pub record OthersAreFollowed : Type 0 where
    pub requests : (lab : Lab (own_plans setup names)) (request : Request) → IsHonest (own_plans setup names) lab (OtherIpmb request) → IsFollowed lab (OtherIpmb request)
    pub messages : (lab : Lab (own_plans setup names)) (message : Message) → IsHonest (own_plans setup names) lab (OtherSmbus message) → IsFollowed lab (OtherSmbus message)
    pub noise : (lab : Lab (own_plans setup names)) (bus : Bus) (bytes : List ℕ) → IsFollowed lab (Noise bus bytes)
    pub idles : (lab : Lab (own_plans setup names)) (bus : Bus) (requester : ℕ) → IsHonest (own_plans setup names) lab (Idles bus requester) → IsFollowed lab (Idles bus requester)
    pub bench : (lab : Lab (own_plans setup names)) (activity : Activity) → IsFollowed lab (OnBench activity)
