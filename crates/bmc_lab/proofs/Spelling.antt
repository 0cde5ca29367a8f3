-- What words spell, they spell in one way.
use Rattle.std.proofs.Common.{◌≡◌, ◌∙◌, ℕ, zero, suc, ◌+◌, ◌<◌, List, [], ◌∷◌, ◌++◌, Option, String, Global, map, string_bytes, take, length, get_or, refl, sym, ap, subst, arith}
use Rattle.std.specs.List.{AllZip, concat}
use Rattle.std.proofs.lemmas.List.{append-nil, append_assoc, take_more, map-append}
use Rattle.std.proofs.lemmas.Slice.Zip.{all_zipped_more}
use Rattle.two_wire.specs.declared.Bus.{Bus}
use Rattle.record_base.specs.declared.message.Asked.{Asked}
use Rattle.bmc_lab.specs.Asked.{MeansBus}
use Rattle.bmc_lab.specs.Request.{AsksForRequest, IsRequestOf, SpellBytes, SpellsPart}
use Rattle.bmc_lab.proofs.Found.{ok_same}

concat_more : (parts : List (List ℕ)) (part : List ℕ) → concat (parts ++ part ∷ []) ≡ concat parts ++ part
concat_more [] part = append-nil part
concat_more (first ∷ parts) part = ap (λ (l : List ℕ). first ++ l) (concat_more parts part) ∙ sym (append_assoc first (concat parts) part)

-- one word more
pub spelled_more : (words : List (String Global)) (place : ℕ) (word : String Global) (shown all part read grown : List ℕ) → place < length words → word ≡ get_or words place word
    → shown ≡ string_bytes word → SpellBytes (map string_bytes (take place words)) all → SpellsPart shown part → read ≡ part → grown ≡ all ++ read
    → SpellBytes (map string_bytes (take (place + 1) words)) grown
spelled_more words place word shown all part read grown within is text before spells same more =
    let longer : map string_bytes (take (place + 1) words) ≡ map string_bytes (take place words) ++ string_bytes word ∷ [] =
    rw (take_more words place word within, ← is, map-append) in
    let parts = before.0 ++ part ∷ [] in
    let joined : concat parts ≡ grown =
    concat_more before.0 part ∙ ap (λ (l : List ℕ). l ++ part) before.2 ∙ ap (λ (l : List ℕ). all ++ l) (sym same) ∙ sym more in
    let zips : AllZip SpellsPart (map string_bytes (take place words) ++ string_bytes word ∷ []) parts =
    all_zipped_more SpellsPart (map string_bytes (take place words)) before.0 (string_bytes word) part before.1 (subst (λ (w : List ℕ). SpellsPart w part) text spells) in
    (parts, subst (λ (ws : List (List ℕ)). AllZip SpellsPart ws parts) (sym longer) zips, joined)

-- each word spells a part
part_at : (words : List (String Global)) (parts : List (List ℕ)) (place : ℕ) (word : String Global) → AllZip SpellsPart (map string_bytes words) parts → place < length words
    → word ≡ get_or words place word → (part : List ℕ) × SpellsPart (string_bytes word) part
part_at [] parts place word zips within is = absurd (omega (arith, within))
part_at (first ∷ words) [] place word zips within is = absurd zips
part_at (first ∷ words) (part ∷ parts) zero word zips within is = (part, subst (λ (w : String Global). SpellsPart (string_bytes w) part) (sym is) zips.0)
part_at (first ∷ words) (part ∷ parts) (suc place) word zips within is = part_at words parts place word zips.1 (omega (arith, within)) is

-- words of which one spells nothing spell nothing
pub not_spelled : (words : List (String Global)) (place : ℕ) (word : String Global) (shown : List ℕ) → place < length words → word ≡ get_or words place word
    → shown ≡ string_bytes word → ((part : List ℕ) → ¬ SpellsPart shown part) → (bytes : List ℕ) → ¬ SpellBytes (map string_bytes words) bytes
not_spelled words place word shown within is text none bytes spells =
    let found = part_at words spells.0 place word spells.1 within is in
    none found.0 (subst (λ (w : List ℕ). SpellsPart w found.0) (sym text) found.1)

same_parts : (words ps qs : List (List ℕ)) → AllZip SpellsPart words ps → AllZip SpellsPart words qs → ps ≡ qs
same_parts [] [] [] a b = refl
same_parts [] (p ∷ ps) qs a b = absurd a
same_parts [] [] (q ∷ qs) a b = absurd b
same_parts (word ∷ words) [] qs a b = absurd a
same_parts (word ∷ words) (p ∷ ps) [] a b = absurd b
same_parts (word ∷ words) (p ∷ ps) (q ∷ qs) a b = λ i. ok_same p q (sym a.0.spelt ∙ b.0.spelt) i ∷ same_parts words ps qs a.1 b.1 i

pub spelled_once : (words : List (List ℕ)) (one other : List ℕ) → SpellBytes words one → SpellBytes words other → one ≡ other
spelled_once words one other a b = sym a.2 ∙ ap concat (same_parts words a.0 b.0 a.1 b.1) ∙ b.2

-- bytes that are no request on the bus are none, whatever the words are read as
pub not_asked : (word : Option (List ℕ)) (words : List (List ℕ)) (bus : Bus) (bytes read : List ℕ) → ((other : Bus) → MeansBus word other → bus ≡ other)
    → SpellBytes words bytes → read ≡ bytes → ((asked : Asked) → ¬ IsRequestOf bus read asked) → (asked : Asked) → ¬ AsksForRequest word words asked
not_asked word words bus bytes read means spells same none asked asks =
    let all : asks.bytes ≡ read = spelled_once words asks.bytes bytes asks.spelt spells ∙ sym same in
    none asked (subst (λ (b : List ℕ). IsRequestOf bus b asked) all (subst (λ (b : Bus). IsRequestOf b asks.bytes asked) (sym (means asks.bus asks.means)) asks.request))
