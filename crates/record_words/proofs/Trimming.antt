-- A text without 00h at its end.
use Rattle.std.proofs.Common.{◌≡◌, ◌≢◌, ℕ, zero, suc, ◌+◌, ◌-◌, ◌<◌, ◌≤◌, List, [], ◌∷◌, ◌++◌, length, take, slice_index, refl, ap, ◌∙◌, sym, arith}
use Rattle.std.proofs.lemmas.Bool.Decides.{nat_tests}
use Rattle.std.proofs.lemmas.List.{take_more}
use Rattle.record_words.specs.Quotes.{before_trimmed, trimmed}

-- 00h at the end makes no difference
trimmed_front : (front : List ℕ) → trimmed (front ++ 0 ∷ []) ≡ trimmed front
unfolding trimmed
trimmed_front [] = refl
trimmed_front (byte ∷ more) = ap (before_trimmed byte) (trimmed_front more)

-- a byte that isn't 00h stays
one_stays : (byte : ℕ) → byte ≢ 0 → before_trimmed byte [] ≡ byte ∷ []
one_stays byte other = grind (arith, nat_tests, other)

before_some : (byte last : ℕ) (front : List ℕ) → before_trimmed byte (front ++ last ∷ []) ≡ byte ∷ (front ++ last ∷ [])
before_some byte last [] = refl
before_some byte last (next ∷ more) = refl

-- a text that ends with another byte stays whole
trimmed_whole : (front : List ℕ) (last : ℕ) → last ≢ 0 → trimmed (front ++ last ∷ []) ≡ front ++ last ∷ []
unfolding trimmed
trimmed_whole [] last other = one_stays last other
trimmed_whole (byte ∷ more) last other = ap (before_trimmed byte) (trimmed_whole more last other) ∙ before_some byte last more

-- the front of a text, and the byte at its end
last_of : (text : List ℕ) (end : ℕ) → 0 < end → end ≤ length text → take end text ≡ take (end - 1) text ++ slice_index text (end - 1) ∷ []
last_of text end some within =
    let back : end - 1 + 1 ≡ end = omega (arith, some) in
    ap (λ n. take n text) (sym back) ∙ take_more text (end - 1) 0 (omega (arith, some, within))

pub trimmed_step : (text : List ℕ) (end : ℕ) → 0 < end → end ≤ length text → slice_index text (end - 1) ≡ 0 → trimmed (take (end - 1) text) ≡ trimmed (take end text)
trimmed_step text end some within none =
    sym (ap trimmed (last_of text end some within ∙ ap (λ n. take (end - 1) text ++ n ∷ []) none) ∙ trimmed_front (take (end - 1) text))

pub trimmed_end : (text : List ℕ) (end : ℕ) → 0 < end → end ≤ length text → slice_index text (end - 1) ≢ 0 → trimmed (take end text) ≡ take end text
trimmed_end text end some within other =
    ap trimmed (last_of text end some within) ∙ trimmed_whole (take (end - 1) text) (slice_index text (end - 1)) other ∙ sym (last_of text end some within)

-- no text has 00h at its end
pub trimmed_none : (text : List ℕ) (end : ℕ) → end < 1 → trimmed (take end text) ≡ take end text
unfolding trimmed
trimmed_none [] zero small = refl
trimmed_none (byte ∷ more) zero small = refl
trimmed_none text (suc end) small = absurd (omega (arith, small))
