-- Which frames came to an end.
use Rattle.std.specs.Prelude.{◌≡◌, ℕ, ◌==◌, Bool, false, not, List, get_or, length, filter}
use Rattle.std.specs.List.{list_any, range_with_len}
use Rattle.text_lines.specs.declared.event.Event.{Event}
use Rattle.text_lines.specs.declared.event.Event.TheVariants as event
use Rattle.lab_run.specs.declared.note.Note.{Note}
use Rattle.app_play.specs.declared.arrivals.Arrivals.{Arrivals}

-- the event delivers the frame of this number
abbrev pub delivers : ℕ → Event → Bool
delivers number (event.ToBmc n) = n == number
delivers number (event.ToMgr n) = n == number
delivers number _ = false

-- it came at one of these events
abbrev pub came_at : List Note → ℕ → Bool
came_at notes number = list_any (λ note. delivers number note.event.now) notes

-- for each number it's held whether the frame came at one of these events
abbrev pub HoldsNotes : Arrivals → List Note → Type 0
HoldsNotes arrivals notes = (number : ℕ) → get_or arrivals.came.items number false ≡ came_at notes number

-- how many of so many frames, from this number on, came at none of them
abbrev pub lost_from : List Note → (number count : ℕ) → ℕ
lost_from notes number count = length (filter (λ n. not (came_at notes n)) (range_with_len number count))
