-- Tables and their parts.
use Rattle.std.proofs.Common.{◌≡◌, ℕ, zero, suc, ◌+◌, ◌-◌, ◌*◌, ◌%◌, ◌<◌, ◌≤◌, ltb, leb, eqb, List, [], ◌∷◌, ◌++◌, length, take, drop, get_or, refl, sym, ◌∙◌, ap, arith, length-append, length-drop, ◌⊎◌, inl, inr, subst, Some, ◌||◌, ◌&&◌}
use Rattle.std.specs.List.{concat}
use Rattle.std.proofs.lemmas.List.{take_all, append-nil, length-take-le, take-append-drop, same_lists}
use Rattle.std.specs.List.{slice_get}
use Rattle.std.proofs.lemmas.Option.{slice_get-get_or, get_or_from_slice_get}
use Rattle.std.proofs.lemmas.Bool.{cases_lt}
use Rattle.std.proofs.lemmas.Bool.Decides.{nat_tests}
use Rattle.std.proofs.Math.Seq.{take-append_seam, drop-append-add}
use Rattle.pldm_base.specs.Parts.{AreSizes, AreParts, begins_part, part_bytes, is_last}

-- at most 192 bytes are left where the part is the last
pub last_here : (length offset : ℕ) → offset ≤ length → leb (length - offset) 192 ≡ leb length (offset + 192)
last_here length offset within = grind (arith, nat_tests)

-- the last part is the rest
pub last_bytes : (table : List ℕ) (offset : ℕ) → length table ≤ offset + 192 → take (length table - offset) (drop offset table) ≡ part_bytes table offset
last_bytes table offset short =
    take_all (length table - offset) (drop offset table) (omega (arith, length-drop offset table))
    ∙ sym (take_all 192 (drop offset table) (omega (arith, length-drop offset table)))

-- how many bytes the parts have: all but the last have 192, and only a part that is alone has none
record AreCounted (count bytes : ℕ) : Type 0 where
  some : 0 < count
  most : bytes ≤ 192 * count
  least : (count ≡ 1) ⊎ (192 * count < bytes + 192)

counted : (parts : List (List ℕ)) → AreSizes parts → AreCounted (length parts) (length (concat parts))
counted [] sizes = elim sizes [ ]
counted (last ∷ []) sizes = record {
  some = omega arith;
  most = omega (arith, length-append last []);
  least = inl refl;
}
counted (part ∷ next ∷ others) sizes =
    let rest = counted (next ∷ others) sizes.2 in
    let all : length (concat (part ∷ next ∷ others)) ≡ 192 + length (concat (next ∷ others)) = omega (arith, sizes.0, length-append part (concat (next ∷ others))) in
    let more : 0 < length (concat (next ∷ others)) = omega (arith, sizes.1, length-append next (concat others)) in
    record {
      some = omega arith;
      most = omega (arith, rest.most);
      least = elim rest.least as (λ _. (length (part ∷ next ∷ others) ≡ 1) ⊎ (192 * length (part ∷ next ∷ others) < length (concat (part ∷ next ∷ others)) + 192)) [
        | inl alone ↦ inr (omega (arith, all, more, alone))
        | inr least ↦ inr (omega (arith, all, least))
      ];
    }

-- each part stands at its offset
stands : (parts : List (List ℕ)) → AreSizes parts → (k : ℕ) → k < length parts → part_bytes (concat parts) (192 * k) ≡ get_or parts k []
stands [] sizes k within = elim sizes [ ]
stands (last ∷ []) sizes zero within = take_all 192 (last ++ []) (omega (arith, length-append last [], sizes)) ∙ append-nil last
stands (last ∷ []) sizes (suc k) within = absurd (omega arith)
stands (part ∷ next ∷ others) sizes zero within =
    let size : length part ≡ 192 = sizes.0 in
    let P : ℕ → Type 0 = λ n. take n (part ++ concat (next ∷ others)) ≡ part in
    subst P size (take-append_seam part (concat (next ∷ others)))
stands (part ∷ next ∷ others) sizes (suc k) within =
    let place : 192 * suc k ≡ length part + 192 * k = omega (arith, sizes.0) in
    let behind : drop (192 * suc k) (part ++ concat (next ∷ others)) ≡ drop (192 * k) (concat (next ∷ others)) = rw place (drop-append-add part (concat (next ∷ others)) (192 * k)) in
    ap (take 192) behind ∙ stands (next ∷ others) sizes.2 k (omega arith)

-- the k-th part of a table is what is asked for at the offset 192 k
pub part-at : (table : List ℕ) (parts : List (List ℕ)) → AreParts table parts → (k : ℕ) → k < length parts → slice_get parts k ≡ Some (part_bytes table (192 * k))
part-at table parts are k within =
    slice_get-get_or parts k [] within ∙ ap Some (sym (stands parts are.sizes k within) ∙ ap (λ (t : List ℕ). part_bytes t (192 * k)) are.together)

-- so many parts begin at the first so many multiples of 192
begins_at : (k count bytes : ℕ) → bytes ≤ 192 * count → 0 < count → (count ≡ 1) ⊎ (192 * count < bytes + 192)
    → (eqb (192 * k) 0 || (eqb (192 * k % 192) 0 && ltb (192 * k) bytes)) ≡ ltb k count
begins_at k count bytes most some (inl alone) =
    let whole : 192 * k % 192 ≡ 0 = omega arith in
    grind (arith, nat_tests)
begins_at k count bytes most some (inr least) =
    let whole : 192 * k % 192 ≡ 0 = omega arith in
    grind (arith, nat_tests)

-- and the last of them has no further one
last_at : (k count bytes : ℕ) → bytes ≤ 192 * count → k < count → (count ≡ 1) ⊎ (192 * count < bytes + 192)
    → leb bytes (192 * k + 192) ≡ eqb (k + 1) count
last_at k count bytes most within (inl alone) = grind (arith, nat_tests)
last_at k count bytes most within (inr least) = grind (arith, nat_tests)

-- a part begins at the offset 192 k where there is a k-th part
pub part-begins : (table : List ℕ) (parts : List (List ℕ)) → AreParts table parts → (k : ℕ) → begins_part table (192 * k) ≡ ltb k (length parts)
part-begins table parts are k =
    let count = counted parts are.sizes in
    let bytes : length (concat parts) ≡ length table = ap length are.together in
    rw (← bytes) (begins_at k (length parts) (length (concat parts)) count.most count.some count.least)

-- it is the last where there is no next part
pub part-last : (table : List ℕ) (parts : List (List ℕ)) → AreParts table parts → (k : ℕ) → k < length parts → is_last table (192 * k) ≡ eqb (k + 1) (length parts)
part-last table parts are k within =
    let count = counted parts are.sizes in
    let bytes : length (concat parts) ≡ length table = ap length are.together in
    rw (← bytes) (last_at k (length parts) (length (concat parts)) count.most within count.least)

-- a table in parts, of which only one that is alone may be empty
record Cut (table : List ℕ) : Type 0 where
  first : List ℕ
  others : List (List ℕ)
  are : AreParts table (first ∷ others)
  some : 0 < length table → 0 < length first

-- every table has parts
cut : (n : ℕ) (table : List ℕ) → length table ≤ 192 * n + 192 → Cut table
cut zero table short = record {
  first = table;
  others = [];
  are = record { sizes = omega arith; together = append-nil table };
  some = λ h. h;
}
cut (suc n) table short = elim (cases_lt 192 (length table)) as (λ _. Cut table) [
  | inl long ↦
      let rest = cut n (drop 192 table) (omega (arith, length-drop 192 table)) in
      record {
        first = take 192 table;
        others = rest.first ∷ rest.others;
        are = record {
          sizes = (length-take-le 192 table (omega arith), rest.some (omega (arith, length-drop 192 table)), rest.are.sizes);
          together = ap (λ (behind : List ℕ). take 192 table ++ behind) rest.are.together ∙ take-append-drop 192 table;
        };
        some = λ h. omega (arith, length-take-le 192 table (omega arith));
      }
  | inr fits ↦ record {
    first = table;
    others = [];
    are = record { sizes = fits; together = append-nil table };
    some = λ h. h;
  }
]

pub has_parts : (table : List ℕ) → (parts : List (List ℕ)) × AreParts table parts
has_parts table =
    let found = cut (length table) table (omega arith) in
    (found.first ∷ found.others, found.are)

-- as many parts hold as many bytes
same_count : (m n bytes : ℕ) → AreCounted m bytes → AreCounted n bytes → m ≡ n
same_count m n bytes a b = elim a.least as (λ _. m ≡ n) [
  | inl alone ↦ elim b.least as (λ _. m ≡ n) [ inl sole ↦ omega arith | inr least ↦ omega (arith, a.most, a.some, b.some) ]
  | inr few ↦ elim b.least as (λ _. m ≡ n) [ inl sole ↦ omega (arith, b.most, a.some, b.some) | inr least ↦ omega (arith, a.most, b.most) ]
]

-- a table has one list of parts
pub one-parts : (table : List ℕ) (parts pieces : List (List ℕ)) → AreParts table parts → AreParts table pieces → parts ≡ pieces
one-parts table parts pieces are also =
    let bytes : length (concat parts) ≡ length (concat pieces) = ap length (are.together ∙ sym also.together) in
    let count : length parts ≡ length pieces = same_count (length parts) (length pieces) (length (concat parts)) (counted parts are.sizes) (rw bytes (counted pieces also.sizes)) in
    same_lists parts pieces count (λ k d within.
    get_or_from_slice_get parts k (part_bytes table (192 * k)) d (part-at table parts are k within)
    ∙ sym (get_or_from_slice_get pieces k (part_bytes table (192 * k)) d (part-at table pieces also k (omega arith))))
