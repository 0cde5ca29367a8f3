-- What a text looks like, by its first line that says something.
use Rattle.std.specs.Prelude.{ℕ, Bool, not, ◌==◌, ◌&&◌, ◌||◌, List, Option, None, Some, nat_le, length, drop, slice_index, if◌then◌else◌, codes}
use Rattle.std.specs.List.{list_all, list_any, find, starts_with}
use Rattle.std.specs.Str.{bytes_eq, trim}
use Rattle.text_lines.specs.ScheduleText.{lines_of}
use Rattle.text_check.specs.declared.text_form.TextForm.{TextForm}
use Rattle.text_check.specs.declared.text_form.TextForm.TheVariants.{Undo, Journal, Board, Plan, Readings, Schedule, Empty}

-- the text begins with the words
abbrev pub begins : (words text : List ℕ) → Bool
begins words text = starts_with (λ a b. a == b) text words

-- a text has no byte
abbrev pub is_empty : List ℕ → Bool
is_empty text = length text == 0

-- a line says nothing: it is blank, or begins with '#'
abbrev pub is_silent : List ℕ → Bool
is_silent line = is_empty (trim line) || begins (codes "#") (trim line)

-- a byte is a decimal digit
abbrev pub is_digit : ℕ → Bool
is_digit byte = nat_le 48 byte && nat_le byte 57

-- a word is a number: decimal digits, at least one
abbrev pub is_number : List ℕ → Bool
is_number word = not (is_empty word) && list_all is_digit word

-- a line is `undo` with a number
abbrev pub is_undo : List ℕ → Bool
is_undo line = begins (codes "undo ") line && is_number (drop 5 line)

-- a line is `journal` with a number
abbrev pub is_journal : List ℕ → Bool
is_journal line = begins (codes "journal ") line && is_number (drop 8 line)

-- a line is one of TOML: it has a '=', or begins with '['
abbrev pub is_toml : List ℕ → Bool
is_toml line = list_any (λ byte. byte == 61) line || begins (codes "[") line

-- a line begins with a decimal digit
abbrev pub begins_with_digit : List ℕ → Bool
begins_with_digit line = not (is_empty line) && is_digit (slice_index line 0)

-- a line begins as one of a board file alone does: with its key `tid`, whole, or with its table `device`
abbrev pub begins_board : List ℕ → Bool
begins_board line = begins (codes "tid ") (trim line) || begins (codes "tid=") (trim line) || begins (codes "[device]") (trim line)

-- what lines look like, whose first that says something is this one
abbrev pub looks_from : List (List ℕ) → Option (List ℕ) → TextForm
looks_from lines None = Empty
looks_from lines (Some line) =
    if is_undo (trim line) then Undo
    else (if is_journal (trim line) then Journal
    else (if is_toml (trim line) then (if list_any begins_board lines then Board else Plan)
    else (if begins_with_digit (trim line) then Readings else Schedule)))

-- the first of the lines that says something
abbrev pub first_spoken : List (List ℕ) → Option (List ℕ)
first_spoken lines = find (λ line. not (is_silent line)) lines

-- what lines look like
abbrev pub looks_by : List (List ℕ) → TextForm
looks_by lines = looks_from lines (first_spoken lines)

-- what a text looks like
abbrev pub looks_of : List ℕ → TextForm
looks_of text = looks_by (lines_of text)

-- what a word calls a text
abbrev pub form_named : List ℕ → Option TextForm
form_named word =
    if bytes_eq word (codes "board") then Some Board
    else (if bytes_eq word (codes "plan") then Some Plan
    else (if bytes_eq word (codes "undo") then Some Undo
    else (if bytes_eq word (codes "journal") then Some Journal
    else (if bytes_eq word (codes "readings") then Some Readings
    else (if bytes_eq word (codes "schedule") then Some Schedule
    else None)))))

-- what a text is: what it is said to be, or else what it looks like
abbrev pub form_or : Option TextForm → List ℕ → TextForm
form_or (Some form) text = form
form_or None text = looks_of text
