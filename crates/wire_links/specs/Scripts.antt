-- What a link in memory hears, and what it keeps of that which it sends.
use Rattle.std.specs.Prelude.{◌≡◌, ℕ, ◌≤◌, ◌++◌, List, [], ◌∷◌, length, map, take, Result, Ok}
use Rattle.std.specs.Borrow.{Bor}
use Rattle.two_wire.specs.Sizes.{most_frame_bytes}
use Rattle.wire_links.specs.declared.link.Heard.{Heard}
use Rattle.wire_links.specs.declared.link.Heard.TheVariants.{Frame, Quiet}
use Rattle.wire_links.specs.declared.link.LinkFault.{LinkFault}

-- so many of the frames that it sends can be read
abbrev pub most_kept : ℕ
most_kept = 256

-- the byte lists that a script is given as
abbrev pub lists_in : List (Bor (List ℕ)) → List (List ℕ)
lists_in script = map (λ bytes. bytes.now) script

-- the bytes fit a frame
abbrev pub fits : List ℕ → Type 0
fits bytes = length bytes ≤ most_frame_bytes

-- what a script's beginning is heard as: no bytes are no frame, and nor is a script's end
abbrev pub head_of : List (List ℕ) → Heard
head_of [] = Quiet
head_of ([] ∷ later) = Quiet
head_of ((byte ∷ bytes) ∷ later) = Frame (byte ∷ bytes)

-- what is to be heard later
abbrev pub rest_of : List (List ℕ) → List (List ℕ)
rest_of [] = []
rest_of (bytes ∷ later) = later

-- the next of a script is heard, and the rest of it is left
abbrev pub HearsNext : (script : List (List ℕ)) → Result Heard LinkFault → (left : List (List ℕ)) → Type 0
HearsNext script answer left = (answer ≡ Ok (head_of script)) × (left ≡ rest_of script)

-- a frame is sent, and kept behind those that were, where there is room
abbrev pub KeepsFrame : (sent : List (List ℕ)) → (frame : List ℕ) → Result (Unit {0}) LinkFault → (kept : List (List ℕ)) → Type 0
KeepsFrame sent frame answer kept = (answer ≡ Ok tt) × (kept ≡ take most_kept (sent ++ frame ∷ []))
