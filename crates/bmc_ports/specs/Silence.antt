-- Requesters of a port from which nothing comes for some turns, and what the port forgets of them.
use Rattle.std.specs.Prelude.{◌≡◌, ◌<◌, ◌==◌, ℕ, List, [], ◌∷◌, Option, Some, None, slice_index}
use Rattle.std.specs.List.{filter, range_with_len}
use Rattle.two_wire.specs.declared.Bus.{Bus}
use Rattle.model_bus.specs.Request.{requester_bytes}
use Rattle.bmc_core.specs.PortSteps.{PortState, idles}
use Rattle.bmc_core.specs.declared.port.Port.{Port}
use Rattle.bmc_core.specs.Port.{Represents}
use Rattle.bmc_ports.specs.declared.silence.Silence.{Silence}
use Rattle.bmc_ports.specs.Since.{Hearing, CountsOn}
use Rattle.bmc_ports.specs.Senders.{IsFrom}

-- in how many turns in a row, up to now, nothing came from a requester
abbrev pub silent_turns : Silence → (who : ℕ) → ℕ
silent_turns silence who = slice_index silence.turns who

-- nobody was silent in any turn up to now
abbrev pub NobodySilent : Silence → Type 0
NobodySilent silence = (who : ℕ) → who < requester_bytes → silent_turns silence who ≡ 0

-- each requester's turns are counted on by these turns of a port on this bus
abbrev pub CountsAll : Bus → (before : Silence) → List Hearing → (after : Silence) → Type 0
CountsAll on before heard after = (who : ℕ) → who < requester_bytes → CountsOn (IsFrom on who) (silent_turns before who) heard (silent_turns after who)

-- they are where there is a least number of turns, and else stay as they were
abbrev pub AreCounted : (least : Option ℕ) → Bus → (before : Silence) → List Hearing → (after : Silence) → Type 0
AreCounted None on before heard after = after ≡ before
AreCounted (Some least) on before heard after = CountsAll on before heard after

-- those of the first requesters that were silent for just so many turns
unfoldable pub silent_among : (first turns : ℕ) → Silence → List ℕ
silent_among first turns silence = filter (λ who. silent_turns silence who == turns) (range_with_len 0 first)

-- a port that forgot these requesters' windows
abbrev pub idles_all : List ℕ → PortState → PortState
idles_all [] port = port
idles_all (who ∷ later) port = idles_all later (idles who port)

-- The port forgot those that were silent for just the least number of turns, where there is one, and nothing else changed.
abbrev pub ForgetsRequesters : (least : Option ℕ) → Silence → (before after : Port) → Type 0
ForgetsRequesters None silence before after = after ≡ before
ForgetsRequesters (Some least) silence before after = (at : PortState) → Represents before at → Represents after (idles_all (silent_among requester_bytes least silence) at)
