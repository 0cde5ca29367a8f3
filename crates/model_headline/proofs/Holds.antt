-- What holds of a lab, so that it is the machinery's.
use Rattle.std.proofs.Common.{◌≡◌, ◌<◌, List, map}
use Rattle.two_wire.specs.declared.Bus.{Bus}
use Rattle.two_wire.specs.declared.Bus.TheVariants.{Ipmb, Smbus}
use Rattle.ipmb_frame.specs.declared.message.Header.{Header}
use Rattle.mctp_net.specs.declared.packet.Name.{Name}
use Rattle.mctp_net.specs.declared.packet.Packet.{Packet}
use Rattle.mctp_net.specs.Grammar.{bit}
use Rattle.mctp_net.specs.Cut.{piece}
use Rattle.mctp_net.specs.Assembly.{is_open}
use Rattle.undo_plans.specs.declared.names.Names.{Names}
use Rattle.bmc_core.specs.Wires.{asked_from}
use Rattle.model_lab.specs.ManagerSteps.{addresses}
use Rattle.model_headline.specs.Each.{Each}
use Rattle.model_headline.specs.Frames.{Value, Asks, Tells, Part}
use Rattle.model_headline.specs.Manager.{own_on}
use Rattle.model_headline.specs.Lab.{Entry, Carried, Idled, Way, ToPort, ToManager, ToOthers, Frame, Lab}
use Rattle.model_headline.specs.Seen.{under, starts}

-- under each name that is open one start waits
abbrev pub IsOrderly : List Packet → Type 0
IsOrderly waits = (n : Name) → starts (under n waits) ≡ bit (is_open (map piece (under n waits)))

module _ (names : Names) where
  -- the logical units are below 4
  pub record IsLow (h : Header) : Type 0 where
    pub requester : h.requester.lun < 4
    pub responder : h.responder.lun < 4

  -- the value is one of the bus, where it goes to the port or to the manager
  abbrev pub Suits : Bus → Way → Value → Type 0
  Suits on ToOthers value = Unit {0}
  Suits Ipmb ToPort (Asks r) = IsLow r.header
  Suits Ipmb ToPort value = ⊥
  Suits Ipmb ToManager (Tells r) = IsLow r.header
  Suits Ipmb ToManager value = ⊥
  Suits Smbus ToPort (Part p) = Unit {0}
  Suits Smbus ToPort value = ⊥
  Suits Smbus ToManager (Part p) = Unit {0}
  Suits Smbus ToManager value = ⊥

  abbrev pub IsSound : Frame → Type 0
  IsSound f = Suits f.on f.way f.value

  -- the bytes of the manager's request ask what it asks
  abbrev pub Reads : Bus → Entry → Type 0
  Reads on (Carried r a) = r.requester ≡ own_on on names → asked_from (addresses names) on r.bytes ≡ r.asked
  Reads on (Idled q) = Unit {0}

  pub record Holds (x : Lab) : Type 0 where
    pub ipmb_orderly : IsOrderly x.ipmb.waits
    pub smbus_orderly : IsOrderly x.smbus.waits
    pub manager_orderly : IsOrderly x.manager.waits
    pub ipmb_reads : Each (Reads Ipmb) x.ipmb.log
    pub smbus_reads : Each (Reads Smbus) x.smbus.log
    pub frames : Each IsSound x.frames
