-- What a request is that lies where it came.
use Rattle.std.specs.Prelude.{ℕ, List}
use Rattle.record_base.specs.declared.message.Asked.{Asked}
use Rattle.record_base.specs.declared.message.Asked.TheVariants as asked
use Rattle.bmc_board.specs.declared.asked_ref.AskedRef.{AskedRef}
use Rattle.bmc_board.specs.declared.asked_ref.AskedRef.TheVariants.{Ipmi, Pldm}

-- the request
abbrev pub as_asked : AskedRef → Asked
as_asked (Ipmi from net_fn lun command body) = asked.Ipmi from net_fn lun command body
as_asked (Pldm from kind command body) = asked.Pldm from kind command body

-- its data
abbrev pub data_of : AskedRef → List ℕ
data_of (Ipmi from net_fn lun command body) = body
data_of (Pldm from kind command body) = body
