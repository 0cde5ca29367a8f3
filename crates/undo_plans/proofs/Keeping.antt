-- A plan gives the operations again that it keeps, and goes on to do so when values are added behind the others.
use Rattle.std.proofs.Common.{◌≡◌, ℕ, suc, ◌+◌, ◌<◌, ◌≤◌, nat_lt, true, Some, List, [], ◌∷◌, ◌++◌, length, take, drop, map, refl, sym, ◌∙◌, ap, subst, arith}
use Rattle.std.specs.List.{All, slice_index_or}
use Rattle.std.specs.Prelude.{slice_get}
use Rattle.std.specs.Option.{option_map}
use Rattle.std.proofs.Props.{props}
use Rattle.std.proofs.lemmas.Bool.Decides.{nat_tests}
use Rattle.std.proofs.lemmas.List.Elements.{All-push}
use Rattle.std.proofs.lemmas.List.{map-append, length-append, length-drop, drop-append-le, take-append-le}
use Rattle.std.proofs.lemmas.Option.{slice_get-map, slice_get-get_or}
use Rattle.std.proofs.Math.Seq.{drop-append_seam, take-length}
use Rattle.record_base.specs.declared.op.Op.{Op}
use Rattle.record_base.specs.declared.op.Op.TheVariants as op
use Rattle.record_base.specs.declared.field_changes.FieldChange.{FieldChange}
use Rattle.record_base.specs.declared.state_effecter.SetStateEffecter.{SetStateEffecter}
use Rattle.record_base.specs.declared.bios_attribute.SetBiosAttribute.{SetBiosAttribute}
use Rattle.record_base.specs.BiosAttribute.{setting}
use Rattle.record_base.specs.BiosAttributeLaws.{few_sent, same_setting, sent_whole}
use Rattle.undo_plans.specs.declared.owned_op.OwnedOp.{OwnedOp}
use Rattle.undo_plans.specs.declared.owned_op.OwnedOp.TheVariants as kept
use Rattle.undo_plans.specs.Kept.{value_of, IsAmong, kept_op, KeepsOp}

-- bytes among others stay where they are, with more behind the others
same_bytes : (values more : List ℕ) (from count : ℕ) → from + count ≤ length values → take count (drop from (values ++ more)) ≡ take count (drop from values)
same_bytes values more from count within =
    ap (take count) (drop-append-le from values more (omega (arith, within)))
    ∙ take-append-le count (drop from values) more (omega (arith, within, length-drop from values))

same_op : (values more : List ℕ) (any : OwnedOp) → IsAmong values any → kept_op (values ++ more) any ≡ kept_op values any
same_op values more (kept.BiosAttribute set) within =
    ap (λ (bytes : List ℕ). op.BiosAttribute (setting set.attribute set.attribute_type bytes)) (same_bytes values more set.from set.count within)
same_op values more _ within = refl

first_of : (values : List ℕ) (any : OwnedOp) (others : List OwnedOp) → All (IsAmong values) (any ∷ others) → IsAmong values any
first_of values any others all = all 0 any (omega arith)

rest_of : (values : List ℕ) (any : OwnedOp) (others : List OwnedOp) → All (IsAmong values) (any ∷ others) → All (IsAmong values) others
rest_of values any others all k d below = all (suc k) d (omega (arith, below))

same_ops : (values more : List ℕ) (ops : List OwnedOp) → All (IsAmong values) ops → map (kept_op (values ++ more)) ops ≡ map (kept_op values) ops
same_ops values more [] all = refl
same_ops values more (any ∷ others) all =
    let here = same_op values more any (first_of values any others all) in
    let there = same_ops values more others (rest_of values any others all) in
    λ i. here i ∷ there i

-- how an operation on an attribute is kept, where a value of so many bytes lies from this place on
abbrev kept_from : ℕ → ℕ → SetBiosAttribute → OwnedOp
kept_from from count set = kept.BiosAttribute (record { attribute = set.attribute; attribute_type = set.attribute_type; from = from; count = count })

given_again : (values : List ℕ) (set : SetBiosAttribute) → kept_op (values ++ set.value) (kept_from (length values) (length set.value) set) ≡ op.BiosAttribute set
given_again values set =
    let there : take (length set.value) (drop (length values) (values ++ set.value)) ≡ set.value =
    ap (take (length set.value)) (drop-append_seam values set.value) ∙ take-length set.value in
    ap (λ (bytes : List ℕ). op.BiosAttribute (setting set.attribute set.attribute_type bytes)) there
    ∙ ap op.BiosAttribute (same_setting set.attribute set.attribute_type _ set.value (few_sent set.value) set.fits (sent_whole set.value set.fits))

set_kept : (from : ℕ) (set : SetBiosAttribute) → KeepsOp from (op.BiosAttribute set) (kept_from from (length set.value) set)
set_kept from set values long =
    let within : length values + length set.value ≤ length (values ++ set.value) = omega (arith, length-append values set.value) in
    subst
    (λ (n : ℕ). IsAmong (values ++ set.value) (kept_from n (length set.value) set) × (kept_op (values ++ set.value) (kept_from n (length set.value) set) ≡ op.BiosAttribute set))
    long (within, given_again values set)

-- an operation on an attribute is kept so
pub attribute_kept : (from : ℕ) (set : SetBiosAttribute) (any : Op) (value : List ℕ) → any ≡ op.BiosAttribute set → value ≡ set.value → KeepsOp from any (kept_from from (length value) set)
attribute_kept from set any value is same =
    subst (λ (o : Op). KeepsOp from o (kept_from from (length value) set)) (sym is)
    (subst (λ (v : List ℕ). KeepsOp from (op.BiosAttribute set) (kept_from from (length v) set)) (sym same) (set_kept from set))

more_among : (values more : List ℕ) (any : OwnedOp) → IsAmong values any → IsAmong (values ++ more) any
more_among values more (kept.BiosAttribute set) within = omega (arith, within, length-append values more)
more_among values more _ within = tt

each_among : (values more : List ℕ) (ops : List OwnedOp) → All (IsAmong values) ops → All (IsAmong (values ++ more)) ops
each_among values more ops all k d below = more_among values more _ (all k d below)

-- the values of all operations are among these, with one operation more
pub all_among : (values more : List ℕ) (ops : List OwnedOp) (kept : OwnedOp) → All (IsAmong values) ops → IsAmong (values ++ more) kept → All (IsAmong (values ++ more)) (ops ++ kept ∷ [])
all_among values more ops kept all among = All-push (IsAmong (values ++ more)) ops kept (each_among values more ops all) among

-- an operation is added
pub one_more : (values : List ℕ) (ops : List OwnedOp) (any : Op) (kept : OwnedOp) → All (IsAmong values) ops → KeepsOp (length values) any kept
    → map (kept_op (values ++ value_of any)) (ops ++ kept ∷ []) ≡ map (kept_op values) ops ++ any ∷ []
one_more values ops any kept all keeps =
    let before = same_ops values (value_of any) ops all in
    let last = (keeps values refl).1 in
    map-append (kept_op (values ++ value_of any)) ops (kept ∷ []) ∙ (λ i. before i ++ last i ∷ [])

-- ---- an operation is given again

few_prop : (changes : List FieldChange) → IsProp (length changes ≤ 9)
few_prop changes = hlevel props

abbrev states_to : (effecter : ℕ) (changes : List FieldChange) → length changes ≤ 9 → SetStateEffecter
states_to effecter changes few = record { effecter = effecter; changes = changes; few = few }

-- operations on a state effecter with the same changes are the same
pub same_states : (effecter : ℕ) (a b : List FieldChange) (p : length a ≤ 9) (q : length b ≤ 9) → a ≡ b → states_to effecter a p ≡ states_to effecter b q
same_states effecter a b p q same =
    subst (λ (changes : List FieldChange). (r : length changes ≤ 9) → states_to effecter a p ≡ states_to effecter changes r) same (λ r i. states_to effecter a (few_prop a p r i)) q

-- the operation that is kept at a place
pub kept_at : (values : List ℕ) (ops : List OwnedOp) (place : ℕ) (any d : OwnedOp) → true ≡ nat_lt place (length ops) → any ≡ slice_index_or ops place d
    → slice_get (map (kept_op values) ops) place ≡ Some (kept_op values any)
kept_at values ops place any d within is =
    let below : place < length ops = grind (arith, nat_tests) in
    slice_get-map (kept_op values) ops place ∙ ap (option_map (kept_op values)) (slice_get-get_or ops place d below ∙ ap Some (sym is))
