-- The names behind the looks: those of the sensors and attributes whose records aren't as before.
use Rattle.std.specs.Prelude.{◌≡◌, ◌⊎◌, ◌&&◌, ℕ, Bool, true, false, not, List, map, Result, Ok, Err}
use Rattle.std.specs.declared.alloc.AllocError.{AllocError}
use Rattle.record_base.specs.declared.key.Key.{Key}
use Rattle.report_words.specs.declared.table_names.Names.{Names}
use Rattle.report_words.specs.TableNames.{KnowsNone}
use Rattle.app_look.specs.declared.session.Session.{Session}
use Rattle.app_look.specs.Opened.{session_over}
use Rattle.app_look.specs.Reading.{KnowsNames}
use Rattle.app_revert.specs.declared.looking.Eye.{Eye}
use Rattle.app_revert.specs.declared.looking.Looked.{Looked}

-- names are read where a record isn't as before, and each look was answered
abbrev pub asks_names : Looked → Bool
asks_names looked = looked.differs && not looked.unseen

-- the records that the looks named
abbrev pub keys_of : Looked → List Key
keys_of looked = map (λ sighting. sighting.key) looked.sightings.items

-- the list is there, and no name is known
abbrev pub HasNoName : Result Names AllocError → Type 0
HasNoName (Ok names) = KnowsNone names
HasNoName (Err refused) = ⊥

-- the names of these records were read by this looker, over its links as they were: no greeting came before
abbrev pub ReadsOver : (agains : ℕ) → List Key → (eye : Eye) → Result Names AllocError → Type 0
ReadsOver agains keys eye names = (last : Session) × KnowsNames keys (session_over eye.looker eye.ends agains) last names

-- Where names are read, those of the records that the looks named were, behind the looks. Else nothing was asked for behind them, and no name is known.
abbrev pub ReadsBehind : (agains : ℕ) → Looked → (eye : Eye) → Result Names AllocError → Type 0
ReadsBehind agains looked eye names =
    ((asks_names looked ≡ true) × ReadsOver agains (keys_of looked) eye names) ⊎ ((asks_names looked ≡ false) × HasNoName names)
