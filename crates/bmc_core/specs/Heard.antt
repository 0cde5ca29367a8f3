-- What is heard, what is found and what is kept, in the words of the rule for repeated requests.
use Rattle.std.specs.Prelude.{ℕ, List, ◌∷◌}
use Rattle.model_bus.specs.Request.{Request as Heard, Kept}
use Rattle.model_bus.specs.Carried.{Outcome, Repeats, IsBusy, IsNew}
use Rattle.bmc_core.specs.declared.window_request.WindowRequest.{WindowRequest}
use Rattle.bmc_core.specs.declared.window_request.Found.{Found}
use Rattle.bmc_core.specs.declared.window_request.Found.TheVariants as found
use Rattle.bmc_core.specs.Keeps.{Reading}

-- the request, by what its bytes say
abbrev pub request_of : {numbers : ℕ} → Reading → WindowRequest numbers → Heard
request_of reading request = record { requester = request.requester; number = request.number; bytes = reading.request (request.first ∷ request.rest.now) }

-- with its reply
abbrev pub kept_of : {numbers : ℕ} → Reading → WindowRequest numbers → List ℕ → Kept
kept_of reading request reply = record { request = request_of reading request; reply = reading.reply reply }

-- what is found, as the rule has it
abbrev pub outcome_of_found : {room : ℕ} → Reading → Found room → Outcome
outcome_of_found reading (found.Repeats reply) = Repeats (reading.reply reply)
outcome_of_found reading found.Busy = IsBusy
outcome_of_found reading found.New = IsNew
