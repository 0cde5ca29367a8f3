-- What is said of the records that the looks behind a revert named.
use Rattle.std.specs.Prelude.{◌≡◌, ◌++◌, ◌&&◌, ℕ, ◌==◌, List, Option, None, Result, Ok, Err, codes, if◌then◌else◌, length}
use Rattle.std.specs.declared.alloc.AllocError.{AllocError}
use Rattle.std.specs.List.{flat_map}
use Rattle.record_base.specs.declared.key.Key.{Key}
use Rattle.record_words.specs.NameWords.{record_words}
use Rattle.report_words.specs.declared.table_names.Names.{Names}
use Rattle.report_words.specs.BoardNames.{with_name}
use Rattle.report_words.specs.TableNames.{name_of}
use Rattle.app_revert.specs.declared.looking.Looked.{Looked}
use Rattle.app_revert.specs.declared.reverting.Reverted.{Reverted}
use Rattle.app_revert.specs.declared.looking.Sight.{Sight}
use Rattle.app_revert.specs.declared.looking.Sight.TheVariants.{AsBefore, Differs, Unseen}
use Rattle.app_revert.specs.declared.looking.Sighting.{Sighting}

-- what a look showed
abbrev pub sight_words : Sight → List ℕ
sight_words AsBefore = codes "is as before"
sight_words Differs = codes "isn't as before: somebody else set it, or the controller lost it"
sight_words Unseen = codes "couldn't be looked at: no answer"

-- the name of a record's sensor or attribute, where it is among those that were read
abbrev pub name_in : Result Names AllocError → Key → Option (List ℕ)
name_in (Ok names) key = name_of names key
name_in (Err refused) key = None

-- the line of a record: what it is, with that name, and what the look showed
abbrev pub line_of : Result Names AllocError → Sighting → List ℕ
line_of names sighting =
    with_name sighting.key (name_in names sighting.key) (record_words sighting.key ++ (codes " " ++ (sight_words sighting.sight ++ codes "\n")))

-- a line of each record that the looks named; or that none could be looked at
abbrev pub looked_words : Looked → Result Names AllocError → List ℕ
looked_words looked names =
    if looked.unseen && length looked.sightings.items == 0 then codes "no record could be looked at: no answer\n" else flat_map (line_of names) looked.sightings.items

-- what is said ends in what the looks told
abbrev pub EndsInLooked : Reverted → (text : List ℕ) → Type 0
EndsInLooked reverted text = (front : List ℕ) × (text ≡ front ++ looked_words reverted.looked reverted.names)
