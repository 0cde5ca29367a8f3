-- A port's slots: who is busy, by a list of the requesters that have a window.
use Rattle.std.specs.Prelude.{◌≡◌, ℕ, ◌↔◌, List, length}
use Rattle.model_bus.specs.Request.{Entry}
use Rattle.model_bus.specs.Carried.{requesters, has_no_slot, is_busy}
use Rattle.model_bus.specs.Repeat.{In, AllDifferent}

-- the list has exactly the requesters of the log, each once, in any order
pub record AreSlots (slots : List ℕ) (log : List Entry) : Type 0 where
  pub different : AllDifferent slots
  pub exact : (requester : ℕ) → In requester slots ↔ In requester (requesters log)

-- such a list is as long as any other, and decides who is busy
abbrev pub SlotsDecide : Type 0
SlotsDecide = (slots : List ℕ) (log : List Entry) → AreSlots slots log
    → (length slots ≡ length (requesters log)) × ((requester : ℕ) → is_busy requester log ≡ has_no_slot requester slots)
