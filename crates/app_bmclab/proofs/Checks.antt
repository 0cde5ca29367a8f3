-- What comes of files that are checked.
use Rattle.std.proofs.Common.{◌≡◌, ◌∷◌, ◌++◌, [], ℕ, List, Option, ◌+◌, ◌<◌, String, Global, string_bytes, map, take, length, get_or}
use Rattle.std.proofs.lemmas.List.{take_more, map-append}
use Rattle.std.proofs.lemmas.Slice.Zip.{all_zipped_more}
use Rattle.std.specs.List.{AllZip}
use Rattle.app_base.specs.Files.{Readings}
use Rattle.text_check.specs.declared.outcome.Outcome.{Outcome}
use Rattle.text_check.specs.declared.text_form.TextForm.{TextForm}
use Rattle.app_bmclab.specs.Checks.{FileOutcome}

-- what came of one more file
pub next_checked : (gives : Readings) (said : Option TextForm) (words : List (String Global)) (place : ℕ) (word : String Global) (outcomes : List Outcome) (outcome : Outcome)
    → place < length words → word ≡ get_or words place word → AllZip (FileOutcome gives said) (map string_bytes (take place words)) outcomes
    → FileOutcome gives said (string_bytes word) outcome → AllZip (FileOutcome gives said) (map string_bytes (take (place + 1) words)) (outcomes ++ outcome ∷ [])
next_checked gives said words place word outcomes outcome within is before here =
    let more : map string_bytes (take (place + 1) words) ≡ map string_bytes (take place words) ++ string_bytes word ∷ [] =
    rw (take_more words place word within, ← is, map-append) in
    rw more (all_zipped_more (FileOutcome gives said) (map string_bytes (take place words)) outcomes (string_bytes word) outcome before here)
