-- Requests to sensors (IPMI 2.0).
use Rattle.std.specs.Prelude.{ℕ, List}
use Rattle.record_base.specs.declared.message.Asked.{Asked}
use Rattle.record_base.specs.Requests.{sensor_event, ipmi_request}

-- the sensor request with this command and data: without a sender, to logical unit 0
abbrev pub sensor_request : ℕ → List ℕ → Asked
sensor_request command body = ipmi_request sensor_event command body
