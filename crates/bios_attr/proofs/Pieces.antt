-- Pieces of bytes, and what is behind them.
use Rattle.std.proofs.Common.{◌≡◌, ◌≤◌, ◌<◌, ◌+◌, ◌-◌, ◌++◌, ℕ, List, length, take, drop, Bool, false, nat_le, if◌then◌else◌, Option, None, ap, arith, length-drop, length-append}
use Rattle.std.proofs.lemmas.Bool.Decides.{nat_tests}
use Rattle.std.proofs.lemmas.List.{take_all}
use Rattle.record_base.specs.AttributeRangeLaws.{le_true}
use Rattle.bios_attr.specs.StringEntry.{piece}

pub not_le : (n most : ℕ) → most < n → nat_le n most ≡ false
not_le n most over = grind (arith, nat_tests)

-- too few bytes have no such piece
pub no_piece : {X : Type 0} (count : ℕ) (bytes : List ℕ) (make : List ℕ → List ℕ → Option X) → length bytes < count → piece count bytes make ≡ None
no_piece count bytes make few = ap (λ (whole : Bool). if whole then make (take count bytes) (drop count bytes) else None) (not_le count (length bytes) few)

-- enough bytes have it
pub is_piece : {X : Type 0} (count : ℕ) (bytes : List ℕ) (make : List ℕ → List ℕ → Option X) → count ≤ length bytes → piece count bytes make ≡ make (take count bytes) (drop count bytes)
is_piece count bytes make room = ap (λ (whole : Bool). if whole then make (take count bytes) (drop count bytes) else None) (le_true count (length bytes) room)

-- all that is behind so many bytes, as a slice to the end has it
pub rest_is : (count : ℕ) (bytes : List ℕ) → take (length bytes - count) (drop count bytes) ≡ drop count bytes
rest_is count bytes = take_all (length bytes - count) (drop count bytes) (omega (arith, length-drop count bytes))

-- room for a piece and for the rest is room for the piece
pub room_for : (before size rest most : ℕ) (part : List ℕ) → before + (size + rest) ≤ most → length part ≡ size → before + length part ≤ most
room_for before size rest most part room is = omega arith

-- behind a piece there is room for the rest
pub room_left : (old part new : List ℕ) (size rest most : ℕ) → length old + (size + rest) ≤ most → length part ≡ size → new ≡ old ++ part → length new + rest ≤ most
room_left old part new size rest most room is made = omega (arith, room, is, ap (λ (xs : List ℕ). length xs) made, length-append old part)

pub room_for_one : (before rest most : ℕ) → before + (1 + rest) ≤ most → before < most
room_for_one before rest most room = omega (arith, room)

pub length_of : {xs ys : List ℕ} → xs ≡ ys → length xs ≡ length ys
length_of same = ap (λ (xs : List ℕ). length xs) same
