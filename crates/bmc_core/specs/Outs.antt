-- What a port sends and did.
use Rattle.std.specs.Prelude.{ℕ, List, [], ◌∷◌, All}
use Rattle.two_wire.specs.declared.Bus.{Bus}
use Rattle.bmc_core.specs.Values.{Value, written, IsFrameOn}
use Rattle.model_bus.specs.Carried.{Outcome, Repeats, IsBusy, IsNew}
use Rattle.bmc_core.specs.declared.out.Frames.{Frames}
use Rattle.bmc_core.specs.declared.out.Out.{Out}
use Rattle.bmc_core.specs.declared.out.Reason.{Reason}
use Rattle.bmc_core.specs.declared.out.Disposition.{Disposition}
use Rattle.bmc_core.specs.declared.out.Disposition.TheVariants as done

-- these frames
abbrev pub frames_of : List (List ℕ) → Frames
frames_of list = record { list = record { items = list } }

-- what is sent
abbrev pub sent : Out → List (List ℕ)
sent out = out.frames.list.items

-- nothing is sent, for this reason
abbrev pub ignored : Reason → Out
ignored reason = record { frames = frames_of []; done = done.Ignored reason }

-- nothing is sent yet
abbrev pub waiting : Out
waiting = record { frames = frames_of []; done = done.Waiting }

-- these frames are sent, and this is what was done
abbrev pub sends : List (List ℕ) → Disposition → Out
sends frames what = record { frames = frames_of frames; done = what }

-- the response is sent
abbrev pub answered : List ℕ → Out
answered frame = record { frames = frames_of (frame ∷ []); done = done.Answered }

-- each of these values is read as itself on the bus, from its own bytes
abbrev pub ReadBack : Bus → List Value → Type 0
ReadBack on values = All (λ value. IsFrameOn on value (written value)) values

-- what was done with a request, as a port says it
abbrev pub done_by : Outcome → Disposition
done_by (Repeats reply) = done.Repeated
done_by IsBusy = done.Busy
done_by IsNew = done.Answered
