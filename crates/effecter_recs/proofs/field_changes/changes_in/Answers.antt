use Rattle.std.proofs.Common.{◌≡◌, ℕ, zero, suc, ◌-◌, ◌≤◌, List, [], ◌∷◌, ◌++◌, length, take, drop, slice_index, refl, ap, sym, ◌∙◌, append_assoc, append-nil, length-append, arith}
use Rattle.record_base.specs.declared.field_changes.FieldChange.{FieldChange}
use Rattle.effecter_recs.specs.FieldChanges.{changes_of}
use Rattle.effecter_recs.specs.ChangeLaws.{none_in, first_in}
use Rattle.effecter_recs.proofs.field_changes.changes_in.Goals as goal

-- no more changes are taken where the bytes say none, or where there is no room
none_taken : (k : ℕ) (more : List FieldChange) → more ≡ [] → take k more ≡ []
none_taken zero more is = refl
none_taken (suc k) more is = ap (take (suc k)) is

all_there : (changes all : List FieldChange) (last : List FieldChange) → last ≡ [] → changes ++ last ≡ all → changes ≡ all
all_there changes all last none is = sym (append-nil changes) ∙ sym (ap (λ (xs : List FieldChange). changes ++ xs) none) ∙ is

-- the next change is the first that the rest of the bytes says
next : (changes new all : List FieldChange) (choice state k : ℕ) (rest more : List ℕ) → new ≡ changes ++ (record { choice = choice; state = state } ∷ []) → choice ≡ slice_index rest 0 → state ≡ slice_index rest 1 → more ≡ drop 2 rest
    → 2 ≤ length rest → changes ++ take (suc k) (changes_of rest) ≡ all → new ++ take k (changes_of more) ≡ all
next changes new all choice state k rest more is_new is_choice is_state is_more long is =
    ap (λ (xs : List FieldChange). xs ++ take k (changes_of more)) is_new
    ∙ append_assoc changes (record { choice = choice; state = state } ∷ []) (take k (changes_of more))
    ∙ (λ i. changes ++ (record { choice = is_choice i; state = is_state i } ∷ take k (changes_of (is_more i))))
    ∙ sym (ap (λ (xs : List FieldChange). changes ++ take (suc k) xs) (first_in rest long))
    ∙ is

pub returns-then-rest-lt2 : goal.returns-then-rest-lt2
returns-then-rest-lt2 c =
    let k : ℕ = 9 - c.loop-place._place in
    all_there _ _ (take k (changes_of c.loop-place.rest.now)) (none_taken k (changes_of c.loop-place.rest.now) (none_in c.loop-place.rest.now (omega arith))) (c.loop-place.invariant.made k (omega arith))

pub loop-place-preserved : goal.loop-place-preserved
loop-place-preserved c = record {
  long = let pushed = ap (λ (xs : List FieldChange). length xs) c.push.ensures in omega (arith, pushed, length-append {A = FieldChange}, c.loop-place.invariant.long);
  made = λ k e.
      next c.loop-place.changes _ _ c.byte_at-choice.result c.byte_at-state.result k c.loop-place.rest.now _ c.push.ensures c.byte_at-choice.ensures c.byte_at-state.ensures c.behind-rest.ensures (omega arith) (c.loop-place.invariant.made (suc k) (omega arith));
}

pub returns : goal.returns
returns c = all_there _ _ (take 0 (changes_of c.loop-place.rest.now)) refl (c.loop-place.invariant.made 0 (omega arith))
