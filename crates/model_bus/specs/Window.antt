-- A window as rows, one for each number, and the law that the rows answer as the rule on the list does.
use Rattle.std.specs.Prelude.{◌≡◌, ℕ, ◌<◌, ◌==◌, List, [], ◌∷◌, Option, Some, None, if◌then◌else◌}
use Rattle.model_bus.specs.Request.{Request, Kept, Entry, Carried, Idled, is_same, carried_since}
use Rattle.model_bus.specs.Carried.{outcome, outcome_of, is_busy}
use Rattle.model_bus.specs.Numbering.{is_above, is_next}

-- a requester's window: under each number the request that was carried out with it, unless it is forgotten
abbrev pub Window : Type 0
Window = ℕ → Option Kept

-- a window in which nothing is kept
abbrev pub empty_window : Window
empty_window number = None

-- a request that is carried out is kept at its number, and the next half of the circle is forgotten
abbrev pub window_after : ℕ → Kept → Window → Window
window_after circle kept window number =
    if number == kept.request.number
    then Some kept
    else if is_next circle kept.request.number number then None else window number

-- the window that a list of carried requests leaves, newest first
abbrev pub window_of : ℕ → List Kept → Window
window_of circle [] = empty_window
window_of circle (kept ∷ kepts) = window_after circle kept (window_of circle kepts)

-- the windows of all requesters after a log
abbrev pub windows_of : ℕ → List Entry → ℕ → Window
windows_of circle [] requester = empty_window
windows_of circle (Carried kept ∷ log) requester = if kept.request.requester == requester then window_after circle kept (windows_of circle log requester) else windows_of circle log requester
windows_of circle (Idled other ∷ log) requester = if other == requester then empty_window else windows_of circle log requester

-- the reply of the row, if the row is this very request's
abbrev pub reply_in : Request → Option Kept → Option (List ℕ)
reply_in request None = None
reply_in request (Some kept) = if is_same request kept.request then Some kept.reply else None

-- every number that was carried is on the circle
abbrev pub AllOnCircle : ℕ → List Entry → Type 0
AllOnCircle circle [] = Unit {0}
AllOnCircle circle (Carried kept ∷ log) = (kept.request.number < circle) × AllOnCircle circle log
AllOnCircle circle (Idled requester ∷ log) = AllOnCircle circle log

-- a port that looks at the requester's row alone does what the rule on the list says
abbrev pub RowsAreTheRule : ℕ → Type 0
RowsAreTheRule circle = (request : Request) (log : List Entry) → request.number < circle → AllOnCircle circle log
    → outcome (is_above circle) request log ≡ outcome_of (reply_in request (windows_of circle log request.requester request.number)) (is_busy request.requester log)

-- a requester's window is what its carried requests since its last idle leave
abbrev pub WindowsApart : ℕ → Type 0
WindowsApart circle = (log : List Entry) (requester number : ℕ) → windows_of circle log requester number ≡ window_of circle (carried_since requester log) number
