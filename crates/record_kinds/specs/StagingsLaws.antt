-- What holds of all stagings.
use Rattle.std.specs.Prelude.{ℕ, ◌<◌, ◌≤◌, List, length, All}
use Rattle.bios_attr.specs.EntryParts.{most_entry}
use Rattle.record_kinds.specs.Entries.{before_text, whole_length}
use Rattle.record_kinds.specs.Stagings.{StagedParts, most_stagings}

-- the bytes begin an entry, and more are behind them
pub record BeginsEntry (entry : List ℕ) : Type 0 where
  pub headed : before_text ≤ length entry
  pub goes_on : length entry < whole_length entry
  pub fits : whole_length entry ≤ most_entry

-- no more stagings than there can be, with room for all, each of an entry that is begun
pub record AreSoundStagings (room : ℕ) (stagings : StagedParts) : Type 0 where
  pub few : length stagings ≤ most_stagings
  pub reserved : most_stagings ≤ room
  pub begun : All (λ staging. BeginsEntry staging.entry) stagings
