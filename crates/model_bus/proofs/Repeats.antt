-- A live request that was carried is a repeat, and the newest is not.
use Rattle.std.proofs.Common.{◌≡◌, ℕ, zero, suc, ◌++◌, length, append-nil, Option, ◌+◌, ◌<◌, ◌≤◌, Bool, true, false, ◌&&◌, List, [], ◌∷◌, Some, None, refl, sym, ◌∙◌, ap, subst, arith, ◌⊎◌, inl, inr}
use Rattle.std.specs.Prelude.{slice_get, cond}
use Rattle.std.specs.List.{list_all}
use Rattle.std.proofs.lemmas.Bool.{and_from, and_left, and_right, and_parts, eqb-true, eq-eqb, cond-true, cond-false, cases_eq, cases_Bool, false_from_ne_true}
use Rattle.std.proofs.lemmas.Slice.Eq.{bytes_eq-Decides}
use Rattle.std.proofs.lemmas.Option.{same_Some, none-some}
use Rattle.model_bus.specs.Request.{Request, Kept, is_same}
use Rattle.model_bus.specs.Carried.{kept_for}
use Rattle.model_bus.specs.Numbering.{Rules}
use Rattle.model_bus.specs.BusState.{request_of}
use Rattle.model_bus.specs.Start.{IsFresh}
use Rattle.model_bus.proofs.NumberLaws.{IsNumbering}

pub is_same-same : (r : Request) → is_same r r ≡ true
is_same-same r = and_from _ _ (and_from _ _ (eq-eqb r.requester r.requester refl) (eq-eqb r.number r.number refl)) ((bytes_eq-Decides r.bytes r.bytes).1 refl)

pub is_same-number : (r s : Request) → is_same r s ≡ true → r.number ≡ s.number
is_same-number r s h = eqb-true _ _ (and_parts _ _ (and_parts _ _ h).0).1

-- carried has request n at n
abbrev pub InOrder : Rules → List (List ℕ) → List Kept → Type 0
InOrder b begun carried = (n : ℕ) (k : Kept) → slice_get carried n ≡ Some k → (slice_get begun n ≡ Some k.request.bytes) × (k.request ≡ request_of b n k.request.bytes)

-- a part of what was carried, newest first, from a number up to another
abbrev pub IsRun : List Kept → ℕ → List Kept → ℕ → Type 0
IsRun carried low [] high = high ≡ low
IsRun carried low (k ∷ ks) high = (n : ℕ) × (high ≡ suc n) × (slice_get carried n ≡ Some k) × IsRun carried low ks n

-- The manager's window: the carried requests from the floor on, newest first, and older ones only where the floor is the start,
-- which left the window fresh.
pub record IsSince (b : Rules) (carried : List Kept) (floor : ℕ) (since : List Kept) : Type 0 where
  pub newer : List Kept
  pub older : List Kept
  pub whole : since ≡ newer ++ older
  pub run : IsRun carried floor newer (length carried)
  pub behind : (older ≡ []) ⊎ ((floor ≡ 0) × IsFresh b older)

-- the list has the number
abbrev pub Has : List ℕ → ℕ → Type 0
Has [] x = ⊥
Has (y ∷ ys) x = (y ≡ x) ⊎ Has ys x

pub list_all-has : (p : ℕ → Bool) (ys : List ℕ) (x : ℕ) → Has ys x → p x ≡ false → list_all p ys ≡ false
list_all-has p [] x h fails = absurd h
list_all-has p (y ∷ ys) x (inl e) fails = and_left _ _ (ap p e ∙ fails)
list_all-has p (y ∷ ys) x (inr h) fails = and_right _ _ (list_all-has p ys x h fails)

-- the numbers of what was carried
abbrev pub numbers_of : List Kept → List ℕ
numbers_of [] = []
numbers_of (k ∷ ks) = k.request.number ∷ numbers_of ks

module _ (above : ℕ → ℕ → Bool) where
  -- once a number stands between that isn't above the request's, nothing older is repeated
  pub none_past : (r : Request) (z : ℕ) → above r.number z ≡ false → (ks : List Kept) (newer : List ℕ) → Has newer z → kept_for above r newer ks ≡ None
  none_past r z stands [] newer h = refl
  none_past r z stands (k ∷ ks) newer h =
      let test : (is_same r k.request && list_all (above k.request.number) newer) ≡ false =
      elim (cases_Bool (is_same r k.request)) [
        | inl t ↦ and_right _ _ (list_all-has (above k.request.number) newer z h (ap (λ (x : ℕ). above x z) (sym (is_same-number r k.request t)) ∙ stands))
        | inr f ↦ and_left _ _ f
      ] in
      cond-false _ _ _ test ∙ none_past r z stands ks (k.request.number ∷ newer) (inr h)

  -- so what is older than such a number doesn't matter
  pub older_is_forgotten : (r : Request) (z : ℕ) → above r.number z ≡ false → (older ks : List Kept) (newer : List ℕ) → Has newer z ⊎ Has (numbers_of ks) z
      → kept_for above r newer (ks ++ older) ≡ kept_for above r newer ks
  older_is_forgotten r z stands older [] newer (inl h) = none_past r z stands older newer h
  older_is_forgotten r z stands older [] newer (inr h) = absurd h
  older_is_forgotten r z stands older (k ∷ ks) newer h =
      let moved : Has (k.request.number ∷ newer) z ⊎ Has (numbers_of ks) z =
      elim h [ inl between ↦ inl (inr between) | inr among ↦ elim among [ inl here ↦ inl (inl here) | inr there ↦ inr there ] ] in
      ap (λ (o : Option (List ℕ)). cond (is_same r k.request && list_all (above k.request.number) newer) (Some k.reply) o) (older_is_forgotten r z stands older ks (k.request.number ∷ newer) moved)

  -- what is repeated is so whatever is older than the list
  kept_more : (r : Request) (older ks : List Kept) (newer : List ℕ) (reply : List ℕ) → kept_for above r newer ks ≡ Some reply → kept_for above r newer (ks ++ older) ≡ Some reply
  kept_more r older [] newer reply e = absurd (none-some reply e)
  kept_more r older (k ∷ ks) newer reply e =
      elim (cases_Bool (is_same r k.request && list_all (above k.request.number) newer)) [
        | inl t ↦ cond-true _ _ _ t ∙ sym (cond-true _ _ _ t) ∙ e
        | inr f ↦ cond-false _ _ _ f ∙ kept_more r older ks (k.request.number ∷ newer) reply (sym (cond-false _ _ _ f) ∙ e)
      ]

  -- a list that repeats nothing before one that repeats nothing behind it
  none_more : (r : Request) (older ks : List Kept) (newer : List ℕ) → ((among : List ℕ) → kept_for above r among older ≡ None) → kept_for above r newer ks ≡ None → kept_for above r newer (ks ++ older) ≡ None
  none_more r older [] newer none e = none newer
  none_more r older (k ∷ ks) newer none e =
      elim (cases_Bool (is_same r k.request && list_all (above k.request.number) newer)) [
        | inl t ↦ absurd (none-some k.reply (sym (sym (cond-true _ _ _ t) ∙ e)))
        | inr f ↦ cond-false _ _ _ f ∙ none_more r older ks (k.request.number ∷ newer) none (sym (cond-false _ _ _ f) ∙ e)
      ]

module _ (b : Rules) (numbers : IsNumbering b) (begun : List (List ℕ)) (carried : List Kept) (in_order : InOrder b begun carried) where
  -- the number of a carried request
  pub number_at : (n : ℕ) (k : Kept) → slice_get carried n ≡ Some k → k.request.number ≡ b.number_of n
  number_at n k at = ap (λ (r : Request). r.number) (in_order n k at).1

  pub request_at : (n : ℕ) (k : Kept) (bytes : List ℕ) → slice_get carried n ≡ Some k → slice_get begun n ≡ Some bytes → k.request ≡ request_of b n bytes
  request_at n k bytes at begun_at =
      let a = in_order n k at in
      a.1 ∙ ap (request_of b n) (same_Some _ _ (sym a.0 ∙ begun_at))

  pub repeats : (ks : List Kept) (newer : List ℕ) (low high m : ℕ) (bytes : List ℕ)
      → IsRun carried low ks high → low ≤ m → m < high → high ≤ m + b.span → slice_get begun m ≡ Some bytes
      → list_all (b.is_above (b.number_of m)) newer ≡ true
      → (k : Kept) × (slice_get carried m ≡ Some k) × (kept_for b.is_above (request_of b m bytes) newer ks ≡ Some k.reply)
  repeats [] newer low high m bytes r above below live begun_at all = absurd (omega arith)
  repeats (k ∷ ks) newer low high m bytes (n, e, at, rest) above below live begun_at all =
      elim (cases_eq n m) [
        | inl same ↦
            let at_m : slice_get carried m ≡ Some k = subst (λ (x : ℕ). slice_get carried x ≡ Some k) same at in
            let is = request_at m k bytes at_m begun_at in
            let test : is_same (request_of b m bytes) k.request ≡ true = subst (λ (r : Request). is_same (request_of b m bytes) r ≡ true) (sym is) (is_same-same (request_of b m bytes)) in
            let above_all : list_all (b.is_above k.request.number) newer ≡ true = subst (λ (x : ℕ). list_all (b.is_above x) newer ≡ true) (sym (number_at m k at_m)) all in
            (k, at_m, cond-true _ _ _ (and_from _ _ test above_all))
        | inr other ↦
            let less : m < n = omega arith in
            let within : n < m + b.span = omega arith in
            let at_n = number_at n k at in
            let differs : is_same (request_of b m bytes) k.request ≡ false = false_from_ne_true _ (λ t. other (sym (numbers.one m n (omega arith) within (is_same-number (request_of b m bytes) k.request t ∙ at_n)))) in
            let above_all : list_all (b.is_above (b.number_of m)) (k.request.number ∷ newer) ≡ true = and_from _ _ (ap (b.is_above (b.number_of m)) at_n ∙ numbers.near m n less within) all in
            let next = repeats ks (k.request.number ∷ newer) low n m bytes rest above less (omega arith) begun_at above_all in
            (next.0, next.1, cond-false _ _ _ (and_left _ _ differs) ∙ next.2)
      ]

  pub is_new : (ks : List Kept) (newer : List ℕ) (low high top : ℕ) (bytes : List ℕ)
      → IsRun carried low ks high → high ≤ top → ((d : ℕ) → high ≤ d → d < top → Has newer (b.number_of d))
      → kept_for b.is_above (request_of b top bytes) newer ks ≡ None
  is_new [] newer low high top bytes r below all = refl
  is_new (k ∷ ks) newer low high top bytes (n, e, at, rest) below all =
      let at_n = number_at n k at in
      let all' : (d : ℕ) → n ≤ d → d < top → Has (k.request.number ∷ newer) (b.number_of d) =
      (λ d from to. elim (cases_eq n d) [ inl same ↦ inl (at_n ∙ ap b.number_of same) | inr other ↦ inr (all d (omega arith) to) ]) in
      let next = is_new ks (k.request.number ∷ newer) low n top bytes rest (omega arith) all' in
      let test : (is_same (request_of b top bytes) k.request && list_all (b.is_above k.request.number) newer) ≡ false =
      elim (cases_Bool (is_same (request_of b top bytes) k.request)) [
        | inl t ↦
            let f : (d : ℕ) × (n < d) × (d < top) × (b.is_above (b.number_of n) (b.number_of d) ≡ false) = numbers.far n top (omega arith) (sym (is_same-number (request_of b top bytes) k.request t ∙ at_n)) in
            and_right _ _ (list_all-has _ newer (b.number_of f.0) (all f.0 (omega (arith, f.1)) f.2) (ap (λ (x : ℕ). b.is_above x (b.number_of f.0)) at_n ∙ f.3))
        | inr f ↦ and_left _ _ f
      ] in
      cond-false _ _ _ test ∙ next

  -- a run from the first request on has every number
  run_has : (ks : List Kept) (high : ℕ) → IsRun carried 0 ks high → (d : ℕ) → d < high → Has (numbers_of ks) (b.number_of d)
  run_has [] high r d below = absurd (omega arith)
  run_has (k ∷ ks) high (n, e, at, rest) d below =
      elim (cases_eq d n) [
        | inl same ↦ inl (number_at n k at ∙ ap b.number_of (sym same))
        | inr less ↦ inr (run_has ks n rest d (omega arith))
      ]

  -- what the manager's window holds: the carried requests from the floor on, newest first, over what left the window fresh
  pub repeats_in : (since : List Kept) (floor m : ℕ) (bytes : List ℕ) → IsSince b carried floor since → floor ≤ m → m < length carried → length carried ≤ m + b.span → slice_get begun m ≡ Some bytes
      → (k : Kept) × (slice_get carried m ≡ Some k) × (kept_for b.is_above (request_of b m bytes) [] since ≡ Some k.reply)
  repeats_in since floor m bytes is above below live begun_at =
      let r = repeats is.newer [] floor (length carried) m bytes is.run above below live begun_at refl in
      (r.0, r.1, ap (kept_for b.is_above (request_of b m bytes) []) is.whole ∙ kept_more b.is_above (request_of b m bytes) is.older is.newer [] r.0.reply r.2)

  -- over a fresh window the manager's first request repeats nothing
  fresh_none : (older : List Kept) (r : Request) → IsFresh b older → r.number ≡ b.number_of 0 → (among : List ℕ) → kept_for b.is_above r among older ≡ None
  fresh_none [] r fresh is among = refl
  fresh_none (k ∷ ks) r fresh is among =
      cond-false _ _ _ (and_left _ _ (false_from_ne_true _ (λ t. fresh.0 (sym (is_same-number r k.request t) ∙ is))))
      ∙ none_past b.is_above r k.request.number (ap (λ (x : ℕ). b.is_above x k.request.number) is ∙ fresh.1) ks (k.request.number ∷ among) (inl refl)

  over_fresh : (newer older : List Kept) (top : ℕ) (bytes : List ℕ) → IsRun carried 0 newer top → IsFresh b older → kept_for b.is_above (request_of b top bytes) [] newer ≡ None
      → kept_for b.is_above (request_of b top bytes) [] (newer ++ older) ≡ None
  over_fresh newer older zero bytes run fresh none = none_more b.is_above (request_of b zero bytes) older newer [] (fresh_none older (request_of b zero bytes) fresh refl) none
  over_fresh newer older (suc n) bytes run fresh none =
      older_is_forgotten b.is_above (request_of b (suc n) bytes) (b.number_of n) (numbers.before n) older newer [] (inr (run_has newer (suc n) run n (omega arith))) ∙ none

  pub new_in : (since : List Kept) (floor top : ℕ) (bytes : List ℕ) → IsSince b carried floor since → top ≡ length carried → kept_for b.is_above (request_of b top bytes) [] since ≡ None
  new_in since floor top bytes is at_top =
      let r = request_of b top bytes in
      let none = is_new is.newer [] floor (length carried) top bytes is.run (omega arith) (λ d from to. absurd (omega arith)) in
      ap (kept_for b.is_above r []) is.whole
      ∙ elim is.behind [
        | inl empty ↦ ap (λ (ks : List Kept). kept_for b.is_above r [] (is.newer ++ ks)) empty ∙ ap (kept_for b.is_above r []) (append-nil is.newer) ∙ none
        | inr (bottom, fresh) ↦
            over_fresh is.newer is.older top bytes
            (subst (λ (x : ℕ). IsRun carried 0 is.newer x) (sym at_top) (subst (λ (x : ℕ). IsRun carried x is.newer (length carried)) bottom is.run)) fresh none
      ]
