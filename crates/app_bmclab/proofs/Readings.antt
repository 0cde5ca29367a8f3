-- What is read off the words that clap matched.
use Rattle.std.proofs.Common.{◌≡◌, ◌∙◌, ◌⊎◌, ℕ, List, Bool, true, false, Option, Some, None, inl, inr, refl, sym, subst, codes}
use Rattle.clap.specs.Words.{Row, Text, all_of, first_of, subcommand_name_of, subcommand_rows_of}
use Rattle.clap.specs.declared.parser.matches.ArgMatches.{ArgMatches}
use Rattle.two_wire.specs.declared.Bus.{Bus}
use Rattle.record_base.specs.declared.message.Asked.{Asked}
use Rattle.bmc_lab.specs.Asked.{AsksForBytes}
use Rattle.bmc_lab.specs.Request.{AsksForRequest}
use Rattle.app_base.specs.declared.status.Status.{Status}
use Rattle.app_base.specs.declared.status.Status.TheVariants.{RefusedWords, Memory}
use Rattle.app_play.specs.declared.run.Shown.{Shown}
use Rattle.app_base.specs.declared.refusal.Refusal.{Refusal}
use Rattle.app_base.specs.declared.refusal.Refusal.TheVariants.{Memory as Lacking}
use Rattle.app_base.specs.Asked.{RefusesWords}
use Rattle.app_base.proofs.Readings.{alike, apart, refuses_none, refuses_unless, some_same, unnamed}
use Rattle.app_bmclab.specs.declared.words.Words.{Words}
use Rattle.app_bmclab.specs.declared.words.Words.TheVariants.{Frame, Ask, Play, Schedule, Check, Version}
use Rattle.app_bmclab.specs.declared.ask_words.AskWords.{AskWords}
use Rattle.app_bmclab.specs.declared.check_words.CheckWords.{CheckWords}
use Rattle.app_bmclab.specs.declared.words.FrameWords.{FrameWords}
use Rattle.app_bmclab.specs.declared.words.PlayWords.{PlayWords}
use Rattle.app_bmclab.specs.declared.schedule_words.ScheduleWords.{ScheduleWords}
use Rattle.app_bmclab.specs.Asked.{AsksBy, AsksFrame, AsksPlay, shown_of}
use Rattle.app_bmclab.specs.AskedOf.{AsksAsk}
use Rattle.app_bmclab.specs.Drawn.{AsksSchedule}
use Rattle.app_bmclab.specs.Looked.{AsksCheck}

-- the promises of `asked_frame` and of the refusal of what it refuses, as one
pub frame_refuses : (word : Option Text) (digits : Text) (status : Status) (refusal : Refusal) → (status ≡ RefusedWords) ⊎ (status ≡ Memory)
    → (status ≡ RefusedWords → (bus : Bus) (bytes : List ℕ) → AsksForBytes word digits bus bytes → ⊥) → (status ≡ Memory → refusal ≡ Lacking)
    → RefusesWords (λ (p : Bus × List ℕ). AsksForBytes word digits p.0 p.1) refusal
frame_refuses word digits status refusal (inl words) refused lacks = refuses_none _ refusal (λ p asks. refused words p.0 p.1 asks)
frame_refuses word digits status refusal (inr memory) refused lacks = refuses_unless _ refusal (λ p asks. lacks memory)

-- what was matched behind `frame` asks for a frame of these words
pub frame_asked : (rows : List Row) (bus : Option Text) (digits : Text) → first_of (codes "bus") rows ≡ bus → first_of (codes "HEX") rows ≡ Some digits
    → (asked : FrameWords) → AsksFrame rows asked → (p : Bus × List ℕ) × AsksForBytes bus digits p.0 p.1
frame_asked rows bus digits named given asked asks =
    let same : asks.digits ≡ digits = some_same (first_of (codes "HEX") rows) asks.digits digits asks.given given in (
      (asked.frame.bus, asked.frame.bytes.items),
      subst (λ (word : Option Text). AsksForBytes word digits asked.frame.bus asked.frame.bytes.items) named
          (subst (λ (text : Text). AsksForBytes (first_of (codes "bus") rows) text asked.frame.bus asked.frame.bytes.items) same asks.frame),
    )

-- the promises of `asked_request` and of the refusal of what it refuses, as one
pub request_refuses : (word : Option Text) (words : List Text) (status : Status) (refusal : Refusal) → (status ≡ RefusedWords) ⊎ (status ≡ Memory)
    → (status ≡ RefusedWords → (asked : Asked) → AsksForRequest word words asked → ⊥) → (status ≡ Memory → refusal ≡ Lacking)
    → RefusesWords (λ (asked : Asked). AsksForRequest word words asked) refusal
request_refuses word words status refusal (inl refused) none lacks = refuses_none _ refusal (none refused)
request_refuses word words status refusal (inr memory) none lacks = refuses_unless _ refusal (λ asked asks. lacks memory)

-- what was matched behind `ask` asks for a request of these words
pub request_asked : (rows : List Row) (bus : Option Text) (words : List Text) → first_of (codes "bus") rows ≡ bus → all_of (codes "BYTE") rows ≡ Some words
    → (asked : AskWords) → AsksAsk rows asked → (request : Asked) × AsksForRequest bus words request
request_asked rows bus words named given asked asks =
    let same : asks.words ≡ words = some_same (all_of (codes "BYTE") rows) asks.words words asks.given given in (
      asked.request,
      subst (λ (word : Option Text). AsksForRequest word words asked.request) named
          (subst (λ (all : List Text). AsksForRequest (first_of (codes "bus") rows) all asked.request) same asks.request),
    )

-- the same flags ask for the same to be shown
pub shown_alike : (f frames p premises l list c chart : Bool) → f ≡ frames → p ≡ premises → l ≡ list → c ≡ chart → shown_of f p l c ≡ shown_of frames premises list chart
shown_alike f frames p premises l list c chart one two three four = λ i. shown_of (one i) (two i) (three i) (four i)

-- flags that give no way of showing give none
pub shown_refuses : (frames premises list chart : Bool) → shown_of frames premises list chart ≡ None → (shown : Shown) → shown_of frames premises list chart ≡ Some shown → ⊥
shown_refuses frames premises list chart none shown is =
    let bad : None ≡ Some shown = sym none ∙ is in
    cc

-- what asks for anything behind `frame` asks for a frame
pub frame_behind : (met : Option (Text × List Row)) (rows : List Row) → met ≡ Some (codes "frame", rows) → (asked : Words) → AsksBy met asked
    → (words : FrameWords) × AsksFrame rows words
frame_behind met rows is (Frame words) asks = (words, subst (λ (r : List Row). AsksFrame r words) (alike met (codes "frame") asks.0 rows asks.1 is) asks.2)
frame_behind met rows is _ asks = absurd (apart met (codes "frame") _ rows asks.0 refl is asks.1)

-- what asks for anything behind `ask` asks for a request
pub ask_behind : (met : Option (Text × List Row)) (rows : List Row) → met ≡ Some (codes "ask", rows) → (asked : Words) → AsksBy met asked
    → (words : AskWords) × AsksAsk rows words
ask_behind met rows is (Ask words) asks = (words, subst (λ (r : List Row). AsksAsk r words) (alike met (codes "ask") asks.0 rows asks.1 is) asks.2)
ask_behind met rows is _ asks = absurd (apart met (codes "ask") _ rows asks.0 refl is asks.1)

-- what asks for anything behind `schedule` asks for a schedule
pub schedule_behind : (met : Option (Text × List Row)) (rows : List Row) → met ≡ Some (codes "schedule", rows) → (asked : Words) → AsksBy met asked
    → (words : ScheduleWords) × AsksSchedule rows words
schedule_behind met rows is (Schedule words) asks = (words, subst (λ (r : List Row). AsksSchedule r words) (alike met (codes "schedule") asks.0 rows asks.1 is) asks.2)
schedule_behind met rows is _ asks = absurd (apart met (codes "schedule") _ rows asks.0 refl is asks.1)

-- what asks for anything behind `play` asks for a play
pub play_behind : (met : Option (Text × List Row)) (rows : List Row) → met ≡ Some (codes "play", rows) → (asked : Words) → AsksBy met asked
    → (words : PlayWords) × AsksPlay rows words
play_behind met rows is (Play words) asks = (words, subst (λ (r : List Row). AsksPlay r words) (alike met (codes "play") asks.0 rows asks.1 is) asks.2)
play_behind met rows is _ asks = absurd (apart met (codes "play") _ rows asks.0 refl is asks.1)

-- what asks for anything behind `check` asks for a check
pub check_behind : (met : Option (Text × List Row)) (rows : List Row) → met ≡ Some (codes "check", rows) → (asked : Words) → AsksBy met asked
    → (words : CheckWords) × AsksCheck rows words
check_behind met rows is (Check words) asks = (words, subst (λ (r : List Row). AsksCheck r words) (alike met (codes "check") asks.0 rows asks.1 is) asks.2)
check_behind met rows is _ asks = absurd (apart met (codes "check") _ rows asks.0 refl is asks.1)

-- where none of the subcommands was met, nothing is asked for
pub none_behind : (m : ArgMatches) → (subcommand_name_of m ≡ Some (codes "frame") → false ≡ true) → (subcommand_name_of m ≡ Some (codes "ask") → false ≡ true) → (subcommand_name_of m ≡ Some (codes "play") → false ≡ true)
    → (subcommand_name_of m ≡ Some (codes "schedule") → false ≡ true) → (subcommand_name_of m ≡ Some (codes "check") → false ≡ true)
    → (subcommand_name_of m ≡ Some (codes "version") → false ≡ true) → (asked : Words) → AsksBy (subcommand_rows_of m) asked → ⊥
none_behind m frame ask play schedule check version (Frame words) asks = unnamed m (codes "frame") frame asks.0 asks.1
none_behind m frame ask play schedule check version (Ask words) asks = unnamed m (codes "ask") ask asks.0 asks.1
none_behind m frame ask play schedule check version (Play words) asks = unnamed m (codes "play") play asks.0 asks.1
none_behind m frame ask play schedule check version (Schedule words) asks = unnamed m (codes "schedule") schedule asks.0 asks.1
none_behind m frame ask play schedule check version (Check words) asks = unnamed m (codes "check") check asks.0 asks.1
none_behind m frame ask play schedule check version Version asks = unnamed m (codes "version") version asks.0 asks.1
