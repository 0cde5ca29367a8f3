-- Runs of 64 bytes.
use Rattle.std.proofs.Common.{◌≡◌, ℕ, zero, suc, ◌+◌, ◌*◌, ◌/◌, ◌%◌, ◌≤◌, ◌==◌, false, List, [], ◌∷◌, ◌++◌, length, take, drop, refl, ◌∙◌, ap, arith, length-drop, length-append}
use Rattle.std.proofs.lemmas.List.{length-take-le, take_all, take-append-le, drop-append-le, take-append-drop}
use Rattle.mctp_net.specs.Cut.{Piece, EachFrom, carried}
use Rattle.mctp_net.specs.Places.{runs_from, runs}
use Rattle.mctp_net.specs.Sound.{IsWaitingAt}

-- the piece that waits at a place of its assembly
abbrev pub waits : ℕ → List ℕ → Piece
waits number bytes = record { start = number == 0; end = false; sequence = number; payload = bytes }

pub length-runs_from : (number count : ℕ) (bytes : List ℕ) → length (runs_from number count bytes) ≡ count
length-runs_from number zero bytes = refl
length-runs_from number (suc count) bytes = ap suc (length-runs_from (number + 1) count (drop 64 bytes))

pub runs-wait : (number count : ℕ) (bytes : List ℕ) → 64 * count ≤ length bytes → EachFrom IsWaitingAt number (runs_from number count bytes)
runs-wait number zero bytes long = tt
runs-wait number (suc count) bytes long = (
  record { numbered = refl; started = refl; ended = refl; full = length-take-le 64 bytes (omega arith) },
  runs-wait (number + 1) count (drop 64 bytes) (omega (arith, length-drop 64 bytes)),
)

pub carried-runs_from : (number count : ℕ) (bytes : List ℕ) → length bytes ≡ 64 * count → carried (runs_from number count bytes) ≡ bytes
carried-runs_from number zero [] long = refl
carried-runs_from number zero (b ∷ bs) long = absurd (omega arith)
carried-runs_from number (suc count) bytes long =
    ap (λ xs. take 64 bytes ++ xs) (carried-runs_from (number + 1) count (drop 64 bytes) (omega (arith, length-drop 64 bytes))) ∙ take-append-drop 64 bytes

-- one run more
runs_from-push : (number count : ℕ) (bytes more : List ℕ) → length bytes ≡ 64 * count → length more ≡ 64
    → runs_from number (suc count) (bytes ++ more) ≡ runs_from number count bytes ++ waits (number + count) more ∷ []
runs_from-push number zero [] more long run =
    let at : number ≡ number + 0 = omega arith in
    let all : take 64 more ≡ more = take_all 64 more (omega arith) in
    λ i. record { start = at i == 0; end = false; sequence = at i; payload = all i } ∷ []
runs_from-push number zero (b ∷ bs) more long run = absurd (omega arith)
runs_from-push number (suc count) bytes more long run =
    let first : take 64 (bytes ++ more) ≡ take 64 bytes = take-append-le 64 bytes more (omega arith) in
    let others : drop 64 (bytes ++ more) ≡ drop 64 bytes ++ more = drop-append-le 64 bytes more (omega arith) in
    let at : number + 1 + count ≡ number + suc count = omega arith in
    let rest : runs_from (number + 1) (suc count) (drop 64 (bytes ++ more)) ≡ runs_from (number + 1) count (drop 64 bytes) ++ waits (number + suc count) more ∷ [] =
    ap (runs_from (number + 1) (suc count)) others ∙ runs_from-push (number + 1) count (drop 64 bytes) more (omega (arith, length-drop 64 bytes)) run
    ∙ ap (λ n. runs_from (number + 1) count (drop 64 bytes) ++ waits n more ∷ []) at in
    λ i. waits number (first i) ∷ rest i

-- bytes of so many runs
runs-of : (count : ℕ) (bytes : List ℕ) → length bytes ≡ 64 * count → runs bytes ≡ runs_from 0 count bytes
runs-of count bytes long = let n : length bytes / 64 ≡ count = omega arith in ap (λ k. runs_from 0 k bytes) n

pub length-runs : (bytes : List ℕ) → length (runs bytes) ≡ length bytes / 64
length-runs bytes = length-runs_from 0 (length bytes / 64) bytes

pub runs-waiting : (bytes : List ℕ) → EachFrom IsWaitingAt 0 (runs bytes)
runs-waiting bytes = runs-wait 0 (length bytes / 64) bytes (omega arith)

pub carried-runs : (bytes : List ℕ) → length bytes % 64 ≡ 0 → carried (runs bytes) ≡ bytes
carried-runs bytes whole = carried-runs_from 0 (length bytes / 64) bytes (omega arith)

pub runs-push : (bytes more : List ℕ) → length bytes % 64 ≡ 0 → length more ≡ 64 → runs (bytes ++ more) ≡ runs bytes ++ waits (length (runs bytes)) more ∷ []
runs-push bytes more whole run =
    let count : ℕ = length bytes / 64 in
    let long : length (bytes ++ more) ≡ 64 * suc count = omega (arith, length-append bytes more) in
    let at : 0 + count ≡ length (runs bytes) = omega (arith, length-runs bytes) in
    runs-of (suc count) (bytes ++ more) long ∙ runs_from-push 0 count bytes more (omega arith) run ∙ ap (λ n. runs bytes ++ waits n more ∷ []) at
