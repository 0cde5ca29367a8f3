-- The replies of a port on the System Management Bus: as bytes, and as they are kept.
use Rattle.std.proofs.Common.{◌≡◌, ℕ, ◌+◌, ◌%◌, ◌<◌, Bool, true, false, if◌then◌else◌, List, [], ◌∷◌, ◌++◌, length, Option, Some, None, arith}
use Rattle.two_wire.specs.declared.Bus.TheVariants.{Smbus}
use Rattle.pldm_base.specs.Message.{reply_start}
use Rattle.record_base.specs.declared.message.Answered.{Answered}
use Rattle.model_bus.specs.Request.{Request as Asking, Kept, Entry, Carried, Idled, carried_since}
use Rattle.model_bus.specs.Carried.{Outcome, Repeats, IsBusy, IsNew, kept_for, outcome_of, outcome, is_busy}
use Rattle.bmc_core.specs.PortSteps.{spelled}
use Rattle.bmc_core.specs.SmbusHeard.{InMessage, asking}
use Rattle.bmc_core.specs.SmbusShown.{AreReplies}

-- ---- as bytes

instance_back : (number : ℕ) → number < 32 → (128 + number) % 32 ≡ 0 + number
instance_back number below = omega (arith, below)

-- the reply to a request: its type byte, the start of a reply, and the data
pub spelled_so : (m : InMessage) (a : Answered) → m.request.header.instance < 32 → spelled Smbus (asking m) a ≡ 1 ∷ (reply_start m.request.header a.code ++ a.body)
spelled_so m a below = λ i. 1 ∷ instance_back m.request.header.instance below i ∷ m.request.header.pldm_type ∷ m.request.header.command ∷ a.code ∷ a.body

-- ---- as they are kept: each has some bytes

either : {A : Type 0} (P : A → Type 0) (test : Bool) (a b : A) → P a → P b → P (if test then a else b)
either P true a b one other = one
either P false a b one other = other

abbrev AllHaveBytes : List Kept → Type 0
AllHaveBytes [] = Unit {0}
AllHaveBytes (k ∷ ks) = (0 < length k.reply) × AllHaveBytes ks

abbrev HasBytes : Option (List ℕ) → Type 0
HasBytes None = Unit {0}
HasBytes (Some reply) = 0 < length reply

abbrev pub OutcomeHasBytes : Outcome → Type 0
OutcomeHasBytes (Repeats reply) = 0 < length reply
OutcomeHasBytes IsBusy = Unit {0}
OutcomeHasBytes IsNew = Unit {0}

since : (q : ℕ) (log : List Entry) → AreReplies log → AllHaveBytes (carried_since q log)
since q [] all = tt
since q (Carried k ∷ log) all = either AllHaveBytes _ (k ∷ carried_since q log) (carried_since q log) (all.0, since q log all.1) (since q log all.1)
since q (Idled p ∷ log) all = either AllHaveBytes _ [] (carried_since q log) tt (since q log all)

for_one : (above : ℕ → ℕ → Bool) (r : Asking) (newer : List ℕ) (ks : List Kept) → AllHaveBytes ks → HasBytes (kept_for above r newer ks)
for_one above r newer [] all = tt
for_one above r newer (k ∷ ks) all = either HasBytes _ (Some k.reply) (kept_for above r (k.request.number ∷ newer) ks) all.0 (for_one above r (k.request.number ∷ newer) ks all.1)

done_so : (o : Option (List ℕ)) (busy : Bool) → HasBytes o → OutcomeHasBytes (outcome_of o busy)
done_so (Some reply) busy has = has
done_so None true has = tt
done_so None false has = tt

pub repeats_bytes : (above : ℕ → ℕ → Bool) (r : Asking) (log : List Entry) → AreReplies log → OutcomeHasBytes (outcome above r log)
repeats_bytes above r log all =
    done_so (kept_for above r [] (carried_since r.requester log)) (is_busy r.requester log) (for_one above r [] (carried_since r.requester log) (since r.requester log all))
