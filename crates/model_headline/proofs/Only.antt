-- What comes to the manager on SMBus changes nothing at the port.
use Rattle.std.proofs.Common.{◌≡◌, ℕ, List, [], Option, Some, None, refl}
use Rattle.std.specs.Prelude.{slice_get}
use Rattle.std.proofs.lemmas.Bool.{cond_both}
use Rattle.model_bus.specs.Numbering.{Rules}
use Rattle.model_bus.specs.BusState.{BusState, Frame, Content, Ask, Reply, taken_content, takes_if}
use Rattle.model_bus.specs.Packet.{Packet}
use Rattle.model_bus.specs.Assembly.{Step, Waits, Whole, Drops, message_of}
use Rattle.model_bus.specs.PacketBus.{PacketBus, rules_of, reply_name, is_awaited, set_at, BusEnds, PacketReachesManager, whole_returns, manager_takes, packet_returns, packet_at_manager, packet_happens}

-- the bus is the same but for the replies that the manager took
pub record SameButTaken (old new : BusState) : Type 0 where
  pub log : new.log ≡ old.log
  pub frames : new.frames ≡ old.frames
  pub begun : new.begun ≡ old.begun
  pub carried : new.carried ≡ old.carried

same : (s : BusState) → SameButTaken s s
same s = record { log = refl; frames = refl; begun = refl; carried = refl }

pub taking : (o : Option (List ℕ)) (s : BusState) → SameButTaken s (takes_if o s)
taking None s = same s
taking (Some reply) s = record { log = refl; frames = refl; begun = refl; carried = refl }

whole : (b : Rules) (number : ℕ) (st : Step) (s : BusState) → SameButTaken s (whole_returns b number st s)
whole b number Waits s = same s
whole b number Drops s = same s
whole b number (Whole ss) s = taking (taken_content b (Reply number (Some (message_of ss))) s) s

pub record OnlyManager (old new : BusEnds) : Type 0 where
  pub port : new.port ≡ old.port
  pub bus : SameButTaken old.bus new.bus

nothing_moves : (x : BusEnds) → OnlyManager x x
nothing_moves x = record { port = refl; bus = same x.bus }

taken : (b : PacketBus) (number n idles : ℕ) (o : Option Packet) (x : BusEnds) → OnlyManager x (manager_takes b number n idles o x)
taken b number n idles None x = nothing_moves x
taken b number n idles (Some p) x = record { port = refl; bus = whole (rules_of b) number _ x.bus }

content : (b : PacketBus) (place n idles : ℕ) (c : Content) (x : BusEnds) → OnlyManager x (packet_returns b place n idles c x)
content b place n idles (Ask bytes) x = nothing_moves x
content b place n idles (Reply number None) x =
    cond_both (is_awaited b n x.bus) (record x { manager = set_at (reply_name b n) [] x.manager }) x (OnlyManager x) (λ _. record { port = refl; bus = same x.bus }) (λ _. nothing_moves x)
content b place n idles (Reply number (Some reply)) x =
    cond_both (is_awaited b n x.bus) (manager_takes b number n idles (slice_get (b.split reply) place) x) x (OnlyManager x)
    (λ _. taken b number n idles (slice_get (b.split reply) place) x) (λ _. nothing_moves x)

frame : (b : PacketBus) (place : ℕ) (o : Option Frame) (x : BusEnds) → OnlyManager x (packet_at_manager b place o x)
frame b place None x = nothing_moves x
frame b place (Some f) x = content b place f.request f.idles f.content x

pub only_manager : (b : PacketBus) (x : BusEnds) (which place : ℕ) → OnlyManager x (packet_happens b x (PacketReachesManager which place))
only_manager b x which place = frame b place (slice_get x.bus.frames which) x
