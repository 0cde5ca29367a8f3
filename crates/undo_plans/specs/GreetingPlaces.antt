-- Under which numbers a greeting's requests go.
use Rattle.std.specs.Prelude.{ℕ, List, [], ◌∷◌}
use Rattle.two_wire.specs.declared.Bus.{Bus}
use Rattle.two_wire.specs.declared.Bus.TheVariants.{Ipmb, Smbus}
use Rattle.model_bus.specs.GreetingTags.{packet_places}

-- The places of the greeting's requests, counted from the manager's next request on. Where that has the number n, the two on IPMB have
-- n - 33 and n - 1 modulo 64, and the nine on SMBus n - 17 and n - 8 to n - 1 modulo 32, so that one comes under each of the eight tags.
abbrev pub greeting_places : Bus → List ℕ
greeting_places Ipmb = 31 ∷ 63 ∷ []
greeting_places Smbus = packet_places
