-- What a run says of what a port did.
use Rattle.std.specs.Prelude.{ℕ, List, [], ◌∷◌, ◌++◌, codes}
use Rattle.std.specs.List.{flat_map}
use Rattle.hex.specs.Hex.{encode_upper}
use Rattle.bmc_core.specs.declared.out.Out.{Out}
use Rattle.bmc_core.specs.declared.out.Disposition.{Disposition}
use Rattle.bmc_core.specs.declared.out.Disposition.TheVariants.{Ignored, Waiting, Answered, Repeated, Busy, Control}
use Rattle.bmc_core.specs.Names.{reason_name}
use Rattle.bmc_core.specs.Outs.{sent}
use Rattle.app_base.specs.declared.status.Status.{Status}
use Rattle.app_base.specs.declared.status.Status.TheVariants.{Success, NotSent}

-- a frame in upper-case hexadecimal, and the line's end
abbrev pub frame_line : List ℕ → List ℕ
frame_line frame = encode_upper frame ++ 10 ∷ []

-- why nothing was sent
abbrev pub done_line : Disposition → List ℕ
done_line (Ignored reason) = codes "ignored " ++ reason_name reason ++ 10 ∷ []
done_line Waiting = codes "waiting\n"
done_line Answered = []
done_line Repeated = []
done_line Busy = []
done_line Control = []

-- a line for each frame, and why nothing was sent
abbrev pub text_of : Out → List ℕ
text_of out = flat_map frame_line (sent out) ++ done_line out.done

-- whether something was sent
abbrev pub status_of : List (List ℕ) → Status
status_of [] = NotSent
status_of (frame ∷ frames) = Success
