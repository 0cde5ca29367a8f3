-- The frames of the model that hold a lab's frames go on holding them.
use Rattle.std.proofs.Common.{ℕ, List, inl, inr}
use Rattle.two_wire.specs.declared.Bus.{Bus}
use Rattle.two_wire.specs.declared.Bus.TheVariants.{Ipmb, Smbus}
use Rattle.cfg_records.specs.declared.board_file.BoardFile.{BoardFile}
use Rattle.model_bus.specs.BusState.{Frame}
use Rattle.model_bus.proofs.Lists.{Grows}
use Rattle.model_undo.specs.World.{States}
use Rattle.undo_plans.specs.declared.names.Names.{Names}
use Rattle.model_lab.specs.declared.way.Way.{Way}
use Rattle.model_lab.specs.declared.way.Way.TheVariants.{ToPort, ToManager, ToOthers}
use Rattle.model_lab.specs.Lab.{LabFrame}
use Rattle.model_headline.specs.Each.{Each}
use Rattle.model_headline.proofs.Each.{each_imply}
use Rattle.model_headline.specs.Tied.{own_lines, IsHeldBy, IsHeld, IsFrameOf, requests}

-- ---- what holds a frame holds it on

module _ (setup : BoardFile) (names : Names) where
  -- what was sent stays there
  abbrev pub Sends : States (own_lines setup names) → States (own_lines setup names) → Type 0
  Sends on now = (bus : Bus) → Grows (requests setup names on bus).frames (requests setup names now bus).frames

  of_grows : (old new : List Frame) (f : LabFrame) (which : ℕ) (g : Frame) → Grows old new → IsFrameOf setup names old f which g → IsFrameOf setup names new f which g
  of_grows old new f which g more is = record { sent = more which g is.sent; request = is.request; idles = is.idles }

  held_by : (way : Way) (bus : Bus) (on now : States (own_lines setup names)) (f : LabFrame) → Sends on now → IsHeldBy setup names way bus on f → IsHeldBy setup names way bus now f
  held_by ToPort Ipmb on now f more h = record {
    which = h.which;
    frame = h.frame;
    is_of = of_grows (on Ipmb).frames (now Ipmb).frames f h.which h.frame (more Ipmb) h.is_of;
    request = h.request;
    value = h.value;
    bytes = h.bytes;
    asks = h.asks;
    heard = h.heard;
    to_port = h.to_port;
    read = h.read;
    number = h.number;
    spelled = h.spelled;
    responds = h.responds;
    from_manager = h.from_manager;
  }
  held_by ToPort Smbus on now f more h = record {
    which = h.which;
    place = h.place;
    packet = h.packet;
    value = h.value;
    part = record { frame = h.part.frame; bytes = h.part.bytes; sent = more Smbus h.which h.part.frame h.part.sent; asks = h.part.asks; part = h.part.part; named = h.part.named; read = h.part.read };
    same_request = h.same_request;
    same_idles = h.same_idles;
    small = h.small;
    to_port = h.to_port;
    from_manager = h.from_manager;
    request = h.request;
    rest = h.rest;
    typed = h.typed;
    says = h.says;
    heard = h.heard;
    reads = h.reads;
    number = h.number;
    spelled = h.spelled;
  }
  held_by ToManager Ipmb on now f more h = record {
    which = h.which;
    frame = h.frame;
    is_of = of_grows (on Ipmb).frames (now Ipmb).frames f h.which h.frame (more Ipmb) h.is_of;
    response = h.response;
    value = h.value;
    held = h.held;
    answers = h.answers;
  }
  held_by ToManager Smbus on now f more (inl h) = inl (record {
    which = h.which;
    place = h.place;
    frame = h.frame;
    is_of = of_grows (on Smbus).bus.frames (now Smbus).bus.frames f h.which h.frame (more Smbus) h.is_of;
    packet = h.packet;
    value = h.value;
    held = h.held;
    named = h.named;
    destination = h.destination;
    source = h.source;
    ours = h.ours;
  })
  held_by ToManager Smbus on now f more (inr another) = inr another
  held_by ToOthers bus on now f more h = tt

  pub all_held : (on now : States (own_lines setup names)) (fs : List LabFrame) → Sends on now → Each (IsHeld setup names on) fs → Each (IsHeld setup names now) fs
  all_held on now fs more all = each_imply (IsHeld setup names on) (IsHeld setup names now) fs (λ f h. held_by f.way f.on on now f more h) all
