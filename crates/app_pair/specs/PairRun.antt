-- What a run of `bmcnet pair` says.
use Rattle.std.specs.Prelude.{◌≡◌, ◌⊎◌, ℕ, List, [], ◌∷◌, false, Ok, Err, string_bytes}
use Rattle.app_base.specs.declared.console.Stream.TheVariants.{Output, Error}
use Rattle.app_base.specs.declared.status.Status.TheVariants.{RefusedFile, Stopped}
use Rattle.app_base.specs.declared.files.UnreadFile.{UnreadFile}
use Rattle.app_base.specs.Ending.{Saying}
use Rattle.app_base.specs.Files.{Readings, FilesGive, FirstUnread, PrintsRefusal}
use Rattle.app_base.specs.Refusals.{SaysUnless, is_loose}
use Rattle.app_pair.specs.declared.inputs.Inputs.{Inputs}
use Rattle.app_pair.specs.declared.pairing.PairOptions.{PairOptions}
use Rattle.app_pair.specs.declared.pairing.PairWords.{PairWords}
use Rattle.app_pair.specs.declared.inputs.InputFault.{InputFault}
use Rattle.app_pair.specs.Inputs.{InputsAreRead, is_memory, refusal_line}
use Rattle.app_pair.specs.Paired.{TellsPair}

-- what is said of a board and a plan: on standard output what became of both; or nothing, where a link or a thread can't be had
abbrev pub SaysPair : Inputs → PairOptions → Saying
SaysPair inputs options Output text status = TellsPair inputs.file inputs.plan options text status
SaysPair inputs options Error text status = (text ≡ []) × (status ≡ Stopped)

-- What is said of the two texts: what is said of what they tell, unless the run is strict, and the board has a key that nothing reads, or the plan
-- has one, or no step; or on standard error which is the first that is refused, and why.
abbrev pub PrintsPair : (board plan : List ℕ) → PairOptions → Saying
PrintsPair board plan options stream text status =
    ((inputs : Inputs) × InputsAreRead board plan (Ok inputs) × SaysUnless (is_loose options.strict board plan inputs.plan) (SaysPair inputs options) stream text status)
    ⊎ ((why : InputFault) × (is_memory why ≡ false) × InputsAreRead board plan (Err why) × (stream ≡ Error) × (text ≡ refusal_line why) × (status ≡ RefusedFile))

-- the words, in their order
abbrev pub words_of : PairWords → List (List ℕ)
words_of words = string_bytes words.board ∷ string_bytes words.plan ∷ []

-- the two files that the words name are read, and have these texts
abbrev pub ArePairTexts : Readings → (words : List (List ℕ)) → (board plan : List ℕ) → Type 0
ArePairTexts gives words board plan = FilesGive gives words (board ∷ plan ∷ [])

-- what is said of the files that the words name: what is said of their texts, or that one isn't read, the first of them
abbrev pub PrintsPairOfFiles : Readings → (words : List (List ℕ)) → PairOptions → Saying
PrintsPairOfFiles gives words options stream text status =
    ((board : List ℕ) × (plan : List ℕ) × ArePairTexts gives words board plan × PrintsPair board plan options stream text status)
    ⊎ ((word : List ℕ) × (why : UnreadFile) × FirstUnread gives words word why × PrintsRefusal why word stream text status)
