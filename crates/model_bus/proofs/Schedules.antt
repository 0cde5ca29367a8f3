-- The examples compute.
use Rattle.std.proofs.Common.{refl, true, false, []}
use Rattle.model_bus.specs.Numbering.{ipmb, smbus}
use Rattle.model_bus.specs.BusState.{opening}
use Rattle.model_bus.specs.Example.{EndsAnswered, ShowsRepeats, ipmb_example, smbus_example}
use Rattle.model_bus.specs.PacketBus.{opening_ends}
use Rattle.model_bus.specs.PacketExample.{PacketsEndAnswered, PacketsShowRepeats, CarriesWhatNobodySent, example_bus, packet_example, stale_assembly}
use Rattle.model_bus.proofs.PacketDecides.{all_packet_honest-tells}
use Rattle.model_bus.proofs.Decides.{all_honest-tells}

pub ipmb_ends : EndsAnswered (ipmb 44 32 60) ipmb_example 33
ipmb_ends = record { honest = all_honest-tells (ipmb 44 32 60) ipmb_example (opening []) refl; begun = refl; carried = refl; taken = refl }

pub ipmb_shows : ShowsRepeats (ipmb 44 32 60) ipmb_example 69
ipmb_shows = record { busy = refl; repeated = refl; late_repeated = refl; first_taken = refl; second_taken = refl }

pub smbus_ends : EndsAnswered (smbus 44 32 28) smbus_example 9
smbus_ends = record { honest = all_honest-tells (smbus 44 32 28) smbus_example (opening []) refl; begun = refl; carried = refl; taken = refl }

pub smbus_shows : ShowsRepeats (smbus 44 32 28) smbus_example 21
smbus_shows = record { busy = refl; repeated = refl; late_repeated = refl; first_taken = refl; second_taken = refl }

pub packets_end : PacketsEndAnswered (example_bus 28) packet_example 9
packets_end = record { honest = all_packet_honest-tells false (example_bus 28) packet_example (opening_ends []) refl; begun = refl; carried = refl; taken = refl }

pub packets_show : PacketsShowRepeats (example_bus 28) packet_example
packets_show = record { busy = refl; repeated = refl; late_repeated = refl; first_taken = refl; second_taken = refl }

pub nobody_sent : CarriesWhatNobodySent (example_bus 0) stale_assembly
nobody_sent = record { live_frames = all_packet_honest-tells true (example_bus 0) stale_assembly (opening_ends []) refl; carried = refl; never_sent = refl }
