-- What a run says of words that it refuses.
use Rattle.std.proofs.Common.{ℕ, List, Option}
use Rattle.clap.specs.Words.{Text}
use Rattle.app_base.specs.declared.refusal.Refusal.{Refusal}
use Rattle.app_base.specs.declared.refusal.Refusal.TheVariants.{Memory, Words as Refused}
use Rattle.app_base.specs.Asked.{RefusesWords, SaysWhy}
use Rattle.app_base.specs.declared.console.Console.{Console}
use Rattle.app_base.specs.declared.console.Stream.{Stream}
use Rattle.app_base.specs.declared.status.Status.{Status}
use Rattle.app_base.specs.Ending.{RunEnds}
use Rattle.app_base.specs.EndingLaws.{run_ends_as}
use Rattle.bmcnet.specs.Asked.{AsksFor}
use Rattle.bmcnet.specs.Run.{SaysNothingAsked}

-- the text is that of words that ask for nothing
says_refused : (words : List Text) (refusal : Refusal) → RefusesWords (AsksFor words) refusal → (stream : Stream) (text : List ℕ) (status : Status)
    → SaysWhy refusal stream text status → SaysNothingAsked words stream text status
says_refused words Memory refuses stream text status said = absurd said
says_refused words (Refused why) refuses stream text status (to, told, ends) = (refuses, to, ends)

-- so a run ends that says it
pub ends_refused : {W E : Type 0} (out : W → Option (List ℕ)) (err : E → Option (List ℕ)) (words : List Text) (refusal : Refusal) (old new : Console W E) (result : ℕ)
    → RefusesWords (AsksFor words) refusal → RunEnds out err (SaysWhy refusal) old new result → RunEnds out err (SaysNothingAsked words) old new result
ends_refused out err words refusal old new result refuses ends =
    run_ends_as out err (SaysWhy refusal) (SaysNothingAsked words) old new result (says_refused words refusal refuses) ends
