use Rattle.std.proofs.Common.{◌≡◌, ◌≤◌, ◌<◌, ◌-◌, ℕ, List, [], ◌∷◌, length, take, drop, get_or, Option, None, Some, sym, ◌∙◌, ap, refl, arith}
use Rattle.record_base.specs.AttributeValue.{number_of}
use Rattle.bios_attr.specs.declared.string_entry.StringEntry.{StringEntry}
use Rattle.bios_attr.specs.StringEntry.{piece, string_at}
use Rattle.bios_attr.proofs.Pieces.{no_piece, is_piece, rest_is}
use Rattle.bios_attr.proofs.string_entry.string_at.Goals as goal

-- the entry of a text, and what is behind it
abbrev front_of : List ℕ → List ℕ → List ℕ → Option (StringEntry × List ℕ)
front_of bytes text rest = Some (record { handle = number_of (get_or bytes 0 0) (get_or bytes 1 0); text = text }, rest)

-- fewer than four bytes are no entry
short : (bytes : List ℕ) → length bytes < 4 → None ≡ string_at bytes
short [] few = refl
short (a ∷ []) few = refl
short (a ∷ b ∷ []) few = refl
short (a ∷ b ∷ c ∷ []) few = refl
short (a ∷ b ∷ c ∷ d ∷ bytes) few = absurd (omega arith)

-- four bytes and more are one if the text is there
opened : (bytes behind : List ℕ) (count : ℕ) → 4 ≤ length bytes → behind ≡ drop 4 bytes → count ≡ number_of (get_or bytes 2 0) (get_or bytes 3 0) → string_at bytes ≡ piece count behind (front_of bytes)
opened (low ∷ high ∷ a ∷ b ∷ bytes) behind count long same is =
    ap (λ (xs : List ℕ). piece (number_of a b) xs (front_of (low ∷ high ∷ []))) (sym same) ∙ ap (λ (n : ℕ). piece n behind (front_of (low ∷ high ∷ []))) (sym is)
opened [] behind count long same is = absurd (omega arith)
opened (a ∷ []) behind count long same is = absurd (omega arith)
opened (a ∷ b ∷ []) behind count long same is = absurd (omega arith)
opened (a ∷ b ∷ c ∷ []) behind count long same is = absurd (omega arith)

pub returns-then-bytes-lt4 : goal.returns-then-bytes-lt4
returns-then-bytes-lt4 c = short c.args.bytes.now c.if-bytes-lt4.true

pub returns-then-behind-count : goal.returns-then-behind-count
returns-then-behind-count c =
    let bytes : List ℕ = c.args.bytes.now in
    let behind : List ℕ = take (length bytes - 4) (drop 4 bytes) in
    let count : c.from-count.result ≡ number_of (get_or bytes 2 0) (get_or bytes 3 0) = omega (arith, c.from-count.ensures, c.from_le_bytes.ensures) in
    sym (opened bytes behind c.from-count.result c.if-bytes-lt4.false (rest_is 4 bytes) count ∙ no_piece c.from-count.result behind (front_of bytes) c.if-behind-count.true)

pub returns : goal.returns
returns c =
    let bytes : List ℕ = c.args.bytes.now in
    let behind : List ℕ = take (length bytes - 4) (drop 4 bytes) in
    let size = c.from-count.result in
    let count : size ≡ number_of (get_or bytes 2 0) (get_or bytes 3 0) = omega (arith, c.from-count.ensures, c.from_le_bytes.ensures) in
    let handle : c.from_le_bytes-2.result ≡ number_of (get_or bytes 0 0) (get_or bytes 1 0) = omega (arith, c.from_le_bytes-2.ensures) in
    let rest = c.new-2.ensures ∙ rest_is size behind in
    (λ i. Some (record { handle = handle i; text = c.new.ensures i }, rest i))
    ∙ sym (opened bytes behind size c.if-bytes-lt4.false (rest_is 4 bytes) count ∙ is_piece size behind (front_of bytes) c.if-behind-count.false)
