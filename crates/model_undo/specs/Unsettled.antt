-- Whence a request comes to be unsettled: from `quiet` alone, once its frames were sent again as often as is allowed.
use Rattle.std.specs.Prelude.{◌≡◌, ◌≢◌, ℕ, List, [], ◌∷◌, ◌++◌, Option, Some, None, replicate}
use Rattle.model_undo.specs.declared.call.Call.TheVariants as manager_call
use Rattle.model_undo.specs.Words.{Words}
use Rattle.model_undo.specs.declared.phase.Phase.TheVariants.{Unsettled}
use Rattle.model_undo.specs.Machine.{Machine, Sending, Turn, open_bus, phase_of}
use Rattle.model_undo.specs.Resume.{Input, Called, turn_of, after}

module _ (words : Words) where
  -- the machine after calls and replies
  abbrev pub run : List Input → Machine words → Machine words
  run [] machine = machine
  run (call ∷ calls) machine = run calls (after words (turn_of words call machine) machine)

  -- the request that goes out, if one does
  abbrev pub listed : Option (Sending words) → List (Sending words)
  listed None = []
  listed (Some sending) = sending ∷ []

  abbrev pub sent_by : Option (Turn words) → List (Sending words)
  sent_by None = []
  sent_by (Some turn) = listed turn.sends

  -- all requests that go out, in order; one that is sent again stands there again
  abbrev pub sent_in : List Input → Machine words → List (Sending words)
  sent_in [] machine = []
  sent_in (call ∷ calls) machine = sent_by (turn_of words call machine) ++ sent_in calls (after words (turn_of words call machine) machine)

  -- the open request isn't unsettled
  abbrev pub IsAwaited : Machine words → Type 0
  IsAwaited machine = (step : ℕ) → phase_of words machine ≢ Unsettled step

  -- A request came to be unsettled among the calls, and still is. A call or a reply that isn't `quiet` opened it, or `again` had it heeded again:
  -- it was sent then. Until `quiet` gave it up, it was sent again so often, and nothing else was sent.
  pub record IsGivenUp (machine : Machine words) (calls : List Input) (step : ℕ) : Type 0 where
    pub before : List Input
    pub opener : Input
    pub between : List Input
    pub later : List Input
    pub all : calls ≡ before ++ (opener ∷ (between ++ ((Called manager_call.Quiet) ∷ later)))
    pub request : Sending words
    pub opens : opener ≢ (Called manager_call.Quiet)
    pub sent : sent_by (turn_of words opener (run before machine)) ≡ request ∷ []
    pub sent_again : sent_in between (run (before ++ opener ∷ []) machine) ≡ replicate machine.retries request
    pub awaited : IsAwaited (run (before ++ opener ∷ between) machine)
    pub unsettled : phase_of words (run (before ++ (opener ∷ (between ++ ((Called manager_call.Quiet) ∷ [])))) machine) ≡ Unsettled step

  -- so it is of a machine that had no request open, whatever it is called and whatever replies come: that is how it begins with a plan, and how
  -- it goes on from a list
  abbrev pub UnsettledByQuiet : Type 0
  UnsettledByQuiet = (machine : Machine words) → open_bus words machine ≡ None → (calls : List Input) (step : ℕ)
      → phase_of words (run calls machine) ≡ Unsettled step → IsGivenUp machine calls step
